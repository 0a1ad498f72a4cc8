-- What is done for the words of a command line, and what is returned.
use Rattle.std.proofs.Common.{◌≡◌, ◌∙◌, ℕ, List, Option, Some, IfSome, Result, Ok, Err, ap, codes, option_map, refl, sym, subst}
use Rattle.command_line.specs.Asking.{HasOptions, IsAsked, IsUpTo}
use Rattle.command_line.specs.Http.{IsHttpAt}
use Rattle.command_line.specs.declared.options.TheConstants.{HTTP_WORKER_LIMIT}
use Rattle.command_line.specs.CommandLine.{AreTurnedDown, AskFor, given_by}
use Rattle.command_line.specs.declared.shells.Shell.{Shell}
use Rattle.command_line.specs.declared.words.Asked.{Asked}
use Rattle.program.specs.Checks.{AskForPage}
use Rattle.command_line.specs.declared.words.Asked.TheVariants.{Script, Serve}
use Rattle.command_line.specs.declared.words.ScriptWords.{ScriptWords}
use Rattle.command_line.specs.declared.words.ServeWords.{ServeWords}
use Rattle.command_line.specs.declared.words.Shown.{Shown}
use Rattle.program.specs.Programs.{DrawAnswered, IsAnswer, IsDone, IsFault, IsServerFault, IsGridIn, IsServerOf, LookAnswered, PageAnswered, ScriptAnswered, TransferAnswered, AskForTransfer, WantServer}
use Rattle.configuration.specs.Configs.{config_data}
use Rattle.program.specs.RunFaults.{BrokeOff, IsOfConfig}
use Rattle.program.specs.Runs.{IsConfigOf, RanScript, features_asked}
use Rattle.program.specs.declared.ends.TransferWords.{TransferWords}
use Rattle.program.specs.declared.ends.WantedServer.{WantedServer}
use Rattle.program.specs.declared.faults.ProgramFault.{ProgramFault}
use Rattle.program.specs.declared.runs.Answer.{Answer}
use Rattle.program.specs.declared.runs.Answer.TheVariants as answers
use Rattle.byte_streams.specs.declared.writing.Flushed.{Flushed}

-- the script that the words ask for was served, or its run broke off; or it has a store
pub script_answers : {O : Type 0} (words : List (List ℕ)) (held : List ℕ → Option (List ℕ)) (closed : List ℕ → Type 0) (written : O → Option (List ℕ)) (output after : O) (files : ScriptWords) (result : Result Answer ProgramFault)
    → IsAsked words (Script files) → ScriptAnswered held closed files written output after result → IsAnswer words held closed written output after result
script_answers words held closed written output after files (Ok (answers.Done flushed)) asked h =
    let config = subst (λ c. RanScript held c (features_asked files.features) files.script.now (written output) (written after)) (sym asked.1.config) h.1 in
    IsDone.serves files.script.now asked.0 asked.1.script (asked.1.store ∙ ap (option_map (λ name. name.now)) h.0)
    (subst (λ asked. RanScript held (given_by words (codes "config")) (features_asked asked) files.script.now (written output) (written after)) asked.1.features config)
script_answers words held closed written output after files (Ok (answers.Keep wanted)) asked h = (
  record {
    asked = asked.0;
    script = asked.1.script ∙ ap Some h.0;
    folder = asked.1.store ∙ h.1;
    config = subst (λ c. IsConfigOf held c (config_data wanted.config)) (sym asked.1.config) h.2;
    features = h.3 ∙ ap features_asked asked.1.features;
  },
  h.4,
)
script_answers words held closed written output after files (Err fault) asked h =
    let config = subst (λ c. BrokeOff held closed c (features_asked files.features) files.script.now (written output) (written after) fault) (sym asked.1.config) h in
    IsFault.script files.script.now fault asked.0 asked.1.script
    (subst (λ asked. BrokeOff held closed (given_by words (codes "config")) (features_asked asked) files.script.now (written output) (written after) fault) asked.1.features config)
script_answers words held closed written output after files (Ok (answers.Serve server)) asked h = absurd h
script_answers words held closed written output after files (Ok (answers.Connect path)) asked h = absurd h
script_answers words held closed written output after files (Ok (answers.Look given)) asked h = absurd h
script_answers words held closed written output after files (Ok (answers.Secret subject)) asked h = absurd h
script_answers words held closed written output after files (Ok (answers.Transfer wanted)) asked h = absurd h
script_answers words held closed written output after files (Ok (answers.Mistaken mistake)) asked h = absurd h

-- the words ask for a server, and this is it
pub server_wanted : (words : List (List ℕ)) (held : List ℕ → Option (List ℕ)) (asked : Asked) (given : ServeWords) (server : WantedServer) → IsAsked words asked → asked ≡ Serve given
    → IsServerOf held given server → WantServer words held server
server_wanted words held asked given server is_asked is made =
    let of_given = subst (IsAsked words) is is_asked in
    record {
      asked = of_given.0;
      options = subst (HasOptions (given_by words)) (sym made.0) of_given.1.options;
      config = subst (λ c. IsConfigOf held c (config_data server.config)) (sym of_given.1.config) made.1;
      store = of_given.1.store ∙ ap (option_map (λ name. name.now)) (sym made.2);
      waits = of_given.1.waits ∙ ap Some (sym made.3);
      http = subst (IsHttpAt (given_by words)) (sym made.4) of_given.1.http;
      http_workers = made.5 ∙ of_given.1.http_workers;
      http_workers_fit = subst (λ count. IfSome count (IsUpTo HTTP_WORKER_LIMIT)) (sym made.5) of_given.1.http_workers_fit;
      features = made.6 ∙ ap features_asked of_given.1.features;
    }

-- or its configuration is at fault
pub server_failed : (words : List (List ℕ)) (held : List ℕ → Option (List ℕ)) (closed : List ℕ → Type 0) (standing : Option (List ℕ)) (asked : Asked) (given : ServeWords) (fault : ProgramFault) → IsAsked words asked → asked ≡ Serve given
    → IsServerFault held closed given fault → IsFault words held closed standing standing fault
server_failed words held closed standing asked given fault is_asked is failed =
    let of_given = subst (IsAsked words) is is_asked in
    IsFault.no_server fault of_given.0 (subst (λ c. IsOfConfig held closed c fault) (sym of_given.1.config) failed) refl

-- a look at a configuration, and a page, answer the words that ask for them
pub look_answers : {O : Type 0} (words : List (List ℕ)) (held : List ℕ → Option (List ℕ)) (closed : List ℕ → Type 0) (written : O → Option (List ℕ)) (output after : O) (name : List ℕ) (result : Result Answer ProgramFault)
    → AskFor (codes "check") words → given_by words (codes "config") ≡ Some name → LookAnswered held closed name (written output) (written after) result → IsAnswer words held closed written output after result
look_answers words held closed written output after name (Ok (answers.Done flushed)) asked given h = IsDone.checks name asked given h
look_answers words held closed written output after name (Err fault) asked given h = IsFault.check name fault asked given h
look_answers words held closed written output after name (Ok (answers.Serve server)) asked given h = absurd h
look_answers words held closed written output after name (Ok (answers.Connect path)) asked given h = absurd h
look_answers words held closed written output after name (Ok (answers.Keep kept)) asked given h = absurd h
look_answers words held closed written output after name (Ok (answers.Look look)) asked given h = absurd h
look_answers words held closed written output after name (Ok (answers.Secret subject)) asked given h = absurd h
look_answers words held closed written output after name (Ok (answers.Transfer wanted)) asked given h = absurd h
look_answers words held closed written output after name (Ok (answers.Mistaken mistake)) asked given h = absurd h

pub draw_answers : {O : Type 0} (words : List (List ℕ)) (held : List ℕ → Option (List ℕ)) (closed : List ℕ → Type 0) (written : O → Option (List ℕ)) (output after : O) (name : List ℕ) (result : Result Answer ProgramFault)
    → AskFor (codes "draw") words → given_by words (codes "SCRIPT") ≡ Some name → DrawAnswered held closed name (written output) (written after) result → IsAnswer words held closed written output after result
draw_answers words held closed written output after name (Ok (answers.Done flushed)) asked given h = IsDone.draws name asked given h
draw_answers words held closed written output after name (Err fault) asked given h = IsFault.undrawn name fault asked given h
draw_answers words held closed written output after name (Ok (answers.Serve server)) asked given h = absurd h
draw_answers words held closed written output after name (Ok (answers.Connect path)) asked given h = absurd h
draw_answers words held closed written output after name (Ok (answers.Keep kept)) asked given h = absurd h
draw_answers words held closed written output after name (Ok (answers.Look look)) asked given h = absurd h
draw_answers words held closed written output after name (Ok (answers.Secret subject)) asked given h = absurd h
draw_answers words held closed written output after name (Ok (answers.Transfer wanted)) asked given h = absurd h
draw_answers words held closed written output after name (Ok (answers.Mistaken mistake)) asked given h = absurd h

pub page_answers : {O : Type 0} (words : List (List ℕ)) (held : List ℕ → Option (List ℕ)) (closed : List ℕ → Type 0) (written : O → Option (List ℕ)) (output after : O) (shell : Option Shell) (result : Result Answer ProgramFault)
    → AskForPage words shell → PageAnswered shell (written output) (written after) result → IsAnswer words held closed written output after result
page_answers words held closed written output after shell (Ok (answers.Done flushed)) asked h = IsDone.prints shell asked h
page_answers words held closed written output after shell (Err fault) asked h = IsFault.unprinted shell fault asked h
page_answers words held closed written output after shell (Ok (answers.Serve server)) asked h = absurd h
page_answers words held closed written output after shell (Ok (answers.Connect path)) asked h = absurd h
page_answers words held closed written output after shell (Ok (answers.Keep kept)) asked h = absurd h
page_answers words held closed written output after shell (Ok (answers.Look look)) asked h = absurd h
page_answers words held closed written output after shell (Ok (answers.Secret subject)) asked h = absurd h
page_answers words held closed written output after shell (Ok (answers.Transfer wanted)) asked h = absurd h
page_answers words held closed written output after shell (Ok (answers.Mistaken mistake)) asked h = absurd h

-- the words ask for an export or an import, and this is it, or its configuration is at fault
pub transfer_answers : {O : Type 0} (words : List (List ℕ)) (held : List ℕ → Option (List ℕ)) (closed : List ℕ → Type 0) (written : O → Option (List ℕ)) (output : O) (given : TransferWords) (config : Option (List ℕ)) (result : Result Answer ProgramFault)
    → AskForTransfer words given → given_by words (codes "config") ≡ config → TransferAnswered held closed given config result → IsAnswer words held closed written output output result
transfer_answers words held closed written output given config (Ok (answers.Transfer wanted)) asked is h =
    ((subst (AskForTransfer words) (sym h.0) asked, subst (λ c. IsGridIn held c wanted.grid) (sym is) h.1), refl)
transfer_answers words held closed written output given config (Err fault) asked is h = IsFault.no_grid given fault asked (subst (λ c. IsOfConfig held closed c fault) (sym is) h) refl
transfer_answers words held closed written output given config (Ok (answers.Done flushed)) asked is h = absurd h
transfer_answers words held closed written output given config (Ok (answers.Serve server)) asked is h = absurd h
transfer_answers words held closed written output given config (Ok (answers.Connect path)) asked is h = absurd h
transfer_answers words held closed written output given config (Ok (answers.Keep kept)) asked is h = absurd h
transfer_answers words held closed written output given config (Ok (answers.Look look)) asked is h = absurd h
transfer_answers words held closed written output given config (Ok (answers.Secret subject)) asked is h = absurd h
transfer_answers words held closed written output given config (Ok (answers.Mistaken mistake)) asked is h = absurd h

-- the result for the words, by cases
module _ {O : Type 0} (words : List (List ℕ)) (held : List ℕ → Option (List ℕ)) (closed : List ℕ → Type 0) (written : O → Option (List ℕ)) (output after : O) (result : Result Answer ProgramFault) (answer : Answer) where
  pub was_done : (flushed : Flushed) → IsAnswer words held closed written output after result → result ≡ Ok answer → answer ≡ answers.Done flushed → IsDone words held (written output) (written after)
  was_done flushed h is done = subst (λ (a : Answer). IsAnswer words held closed written output after (Ok a)) done (subst (IsAnswer words held closed written output after) is h)

  pub was_wanted : (server : WantedServer) → IsAnswer words held closed written output after result → result ≡ Ok answer → answer ≡ answers.Serve server → WantServer words held server × (after ≡ output)
  was_wanted server h is some = subst (λ (a : Answer). IsAnswer words held closed written output after (Ok a)) some (subst (IsAnswer words held closed written output after) is h)

  pub was_turned_down : (mistake : Shown) → IsAnswer words held closed written output after result → result ≡ Ok answer → answer ≡ answers.Mistaken mistake → AreTurnedDown words × (after ≡ output)
  was_turned_down mistake h is some =
      subst (λ (a : Answer). IsAnswer words held closed written output after (Ok a)) some (subst (IsAnswer words held closed written output after) is h)
