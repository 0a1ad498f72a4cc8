-- Who asks, by the fields of a request.
use Rattle.std.specs.Prelude.{ℕ, Bool, true, false, List, [], ◌∷◌, codes, Option, None, Some, Result, Ok, Err, if◌then◌else◌}
use Rattle.http_header.specs.FieldValue.{FieldValue}
use Rattle.http_header.specs.HeaderMap.{Entries, get_all}
use Rattle.credentials.specs.Asking.{asker_of}
use Rattle.credentials.specs.declared.keys.Key.{Key}
use Rattle.features.specs.Names.{name_of}
use Rattle.map_answers.specs.Answers.{AnswerData}
use Rattle.map_answers.specs.Problems.{problem_data}
use Rattle.map_answers.specs.declared.statuses.Status.TheVariants.{BadRequest, Unauthorized}
use Rattle.map_sessions.specs.Visiting.{Place, is_keyed}
use Rattle.map_http.specs.declared.askers.AskerFault.{AskerFault}
use Rattle.map_http.specs.declared.askers.AskerFault.TheVariants as faults
use Rattle.map_http.specs.declared.askers.Way.{Way}
use Rattle.map_http.specs.declared.askers.Way.TheVariants as ways

-- by what it is said who asks: a proxy's field where it is trusted, else a secret where there are
-- keys, else nothing
abbrev pub way_of : Place → Way
way_of place =
    if place.trusted then ways.Proxy else if is_keyed place then ways.Secret else ways.Nothing

-- the name that stands in a field
abbrev pub named : Option (List ℕ) → Result (Option (List ℕ)) AskerFault
named None = Err faults.Field
named (Some name) = Ok (Some name)

-- the one name that a proxy has said; where it has said nothing, that of those who do not say it
abbrev pub asker_by_proxy : Option (List ℕ) → List FieldValue → Result (Option (List ℕ)) AskerFault
asker_by_proxy anonymous [] = Ok anonymous
asker_by_proxy anonymous (value ∷ []) = named (name_of value.bytes)
asker_by_proxy anonymous (value ∷ other ∷ more) = Err faults.Field

-- the name that a key lets in
abbrev pub known : Option (List ℕ) → Result (Option (List ℕ)) AskerFault
known None = Err faults.Unknown
known (Some name) = Ok (Some name)

-- the name of the one secret that is said; where none is, that of those who do not say it
abbrev pub asker_by_secret : List Key → Option (List ℕ) → List FieldValue
    → Result (Option (List ℕ)) AskerFault
asker_by_secret keys anonymous [] = Ok anonymous
asker_by_secret keys anonymous (value ∷ []) = known (asker_of keys value.bytes)
asker_by_secret keys anonymous (value ∷ other ∷ more) = Err faults.Unknown

-- a field stands
abbrev pub stands : List FieldValue → Bool
stands [] = false
stands (value ∷ more) = true

-- unless a proxy's field stands that nobody trusts
abbrev pub untrusted : List FieldValue → Result (Option (List ℕ)) AskerFault
    → Result (Option (List ℕ)) AskerFault
untrusted values asker = if stands values then Err faults.Field else asker

-- who asks by these fields: a subject's name, or nobody; or why it cannot be told
abbrev pub asker_by : Way → Place → Entries FieldValue → Result (Option (List ℕ)) AskerFault
asker_by ways.Proxy place fields =
    asker_by_proxy place.anonymous (get_all fields (codes "landmap-subject"))
asker_by ways.Secret place fields =
    untrusted (get_all fields (codes "landmap-subject"))
    (asker_by_secret place.keys place.anonymous (get_all fields (codes "authorization")))
asker_by ways.Nothing place fields =
    untrusted (get_all fields (codes "landmap-subject")) (Ok place.anonymous)

abbrev pub asker_in : Place → Entries FieldValue → Result (Option (List ℕ)) AskerFault
asker_in place fields = asker_by (way_of place) place fields

-- the problem of a request of which it cannot be told who asks
abbrev pub asker_problem : AskerFault → AnswerData
asker_problem faults.Field = problem_data BadRequest (codes "field") None
asker_problem faults.Unknown = problem_data Unauthorized (codes "H1") None
