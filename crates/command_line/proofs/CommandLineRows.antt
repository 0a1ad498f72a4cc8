-- What clap reads in some command lines.
use Rattle.std.proofs.Common.{◌≡◌, true, false, List, [], ◌∷◌, ◌++◌, None, Some, codes, refl}
use Rattle.clap.proofs.OnLiterals.{clap_on_literals}
use Rattle.clap.specs.Words.{Text}
use Rattle.clap.specs.declared.error.kind.ErrorKind.TheVariants.{DisplayHelp, DisplayHelpOnMissingArgumentOrSubcommand, MissingRequiredArgument, UnknownArgument, ValueValidation}
use Rattle.command_line.specs.CommandLine.{command_for, flag_at, given_by, number_at, refusals}

abbrev plain : List Text
plain = codes "landmap" ∷ codes "script" ∷ codes "day.map" ∷ []

plain_is_taken : refusals plain ≡ []
unfolding clap_on_literals
plain_is_taken = refl

plain_names : command_for plain ≡ Some (codes "script")
unfolding clap_on_literals
plain_names = refl

plain_file : given_by plain (codes "FILE") ≡ Some (codes "day.map")
unfolding clap_on_literals
plain_file = refl

plain_config : given_by plain (codes "config") ≡ None
unfolding clap_on_literals
plain_config = refl

abbrev configured : List Text
configured = codes "landmap" ∷ codes "script" ∷ codes "--config" ∷ codes "a.json" ∷ codes "day.map" ∷ []

configured_is_taken : refusals configured ≡ []
unfolding clap_on_literals
configured_is_taken = refl

configured_file : given_by configured (codes "FILE") ≡ Some (codes "day.map")
unfolding clap_on_literals
configured_file = refl

configured_config : given_by configured (codes "config") ≡ Some (codes "a.json")
unfolding clap_on_literals
configured_config = refl

-- a server with its required option alone
abbrev endless : List Text
endless = codes "landmap" ∷ codes "serve" ∷ codes "--socket" ∷ codes "m.sock" ∷ []

endless_is_taken : refusals endless ≡ []
unfolding clap_on_literals
endless_is_taken = refl

endless_connections : number_at (given_by endless) (codes "connections") ≡ None
unfolding clap_on_literals
endless_connections = refl

-- a server with an end, and with more options
abbrev serving : List Text
serving = codes "landmap" ∷ codes "serve" ∷ codes "--socket" ∷ codes "m.sock" ∷ codes "--connections" ∷ codes "1024" ∷ []

serving_is_taken : refusals serving ≡ []
unfolding clap_on_literals
serving_is_taken = refl

serving_names : command_for serving ≡ Some (codes "serve")
unfolding clap_on_literals
serving_names = refl

serving_socket : given_by serving (codes "socket") ≡ Some (codes "m.sock")
unfolding clap_on_literals
serving_socket = refl

serving_connections : number_at (given_by serving) (codes "connections") ≡ Some 1024
unfolding clap_on_literals
serving_connections = refl

serving_workers : given_by serving (codes "workers") ≡ None
unfolding clap_on_literals
serving_workers = refl

serving_takeover : flag_at (given_by serving) (codes "takeover") ≡ false
unfolding clap_on_literals
serving_takeover = refl

abbrev optional : List Text
optional = serving ++ (codes "--workers=64" ∷ codes "--takeover" ∷ codes "--idle" ∷ codes "60" ∷ codes "--until-stdin-ends" ∷ [])

optional_is_taken : refusals optional ≡ []
unfolding clap_on_literals
optional_is_taken = refl

optional_workers : number_at (given_by optional) (codes "workers") ≡ Some 64
unfolding clap_on_literals
optional_workers = refl

optional_idle : number_at (given_by optional) (codes "idle") ≡ Some 60
unfolding clap_on_literals
optional_idle = refl

optional_takeover : flag_at (given_by optional) (codes "takeover") ≡ true
unfolding clap_on_literals
optional_takeover = refl

-- a talk with a server
abbrev talking : List Text
talking = codes "landmap" ∷ codes "connect" ∷ codes "--socket" ∷ codes "m.sock" ∷ []

talking_is_taken : refusals talking ≡ []
unfolding clap_on_literals
talking_is_taken = refl

talking_names : command_for talking ≡ Some (codes "connect")
unfolding clap_on_literals
talking_names = refl

talking_socket : given_by talking (codes "socket") ≡ Some (codes "m.sock")
unfolding clap_on_literals
talking_socket = refl

for_help : refusals (codes "landmap" ∷ codes "--help" ∷ []) ≡ DisplayHelp ∷ []
unfolding clap_on_literals
for_help = refl

nothing_asked : refusals (codes "landmap" ∷ []) ≡ DisplayHelpOnMissingArgumentOrSubcommand ∷ []
unfolding clap_on_literals
nothing_asked = refl

no_file : refusals (codes "landmap" ∷ codes "script" ∷ []) ≡ MissingRequiredArgument ∷ []
unfolding clap_on_literals
no_file = refl

no_socket : refusals (codes "landmap" ∷ codes "connect" ∷ []) ≡ MissingRequiredArgument ∷ []
unfolding clap_on_literals
no_socket = refl

strange_word : refusals (codes "landmap" ∷ codes "script" ∷ codes "day.map" ∷ codes "--fast" ∷ []) ≡ UnknownArgument ∷ []
unfolding clap_on_literals
strange_word = refl

too_many_connections : refusals (codes "landmap" ∷ codes "serve" ∷ codes "--socket" ∷ codes "m.sock" ∷ codes "--connections" ∷ codes "1025" ∷ []) ≡ ValueValidation ∷ []
unfolding clap_on_literals
too_many_connections = refl
