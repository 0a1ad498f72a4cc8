use Rattle.std.proofs.Common.{codes, ℕ, List, IfOk, None, Some, map, string_bytes, refl, subst}
use Rattle.command_line.specs.Asking.{IsAsked}
use Rattle.program.specs.Programs.{IsFault}
use Rattle.program.specs.declared.ends.TransferWords.TheVariants as transfers
use Rattle.program.proofs.ProgramLemmas.{draw_answers, look_answers, page_answers, script_answers, server_failed, server_wanted, transfer_answers}
use Rattle.program.proofs.runs.run_asked.Goals as goal

pub returns-in-Ok-Script : goal.returns-in-Ok-Script
returns-in-Ok-Script g c =
    let words : List (List ℕ) = map (λ word. string_bytes word) c.args.words.now in
    let asked = subst (λ r. IfOk r (IsAsked words)) c.in-Ok-Script.is c.read_words.ensures in
    let given = subst (IsAsked words) c.in-Ok-Script.field-0-is asked in
    script_answers words _ _ g.O.Write.contents c.args.output.now c.answer_script.new.output c.in-Ok-Script.files c.answer_script.result given c.answer_script.ensures

pub returns-in-Ok-Store : goal.returns-in-Ok-Store
returns-in-Ok-Store g c =
    let words : List (List ℕ) = map (λ word. string_bytes word) c.args.words.now in
    let asked = subst (λ r. IfOk r (IsAsked words)) c.in-Ok-Store.is c.read_words.ensures in
    (subst (IsAsked words) c.in-Ok-Store.field-0-is asked, refl)

pub returns-in-Ok-Secret : goal.returns-in-Ok-Secret
returns-in-Ok-Secret g c =
    let words : List (List ℕ) = map (λ word. string_bytes word) c.args.words.now in
    let asked = subst (λ r. IfOk r (IsAsked words)) c.in-Ok-Secret.is c.read_words.ensures in
    (subst (IsAsked words) c.in-Ok-Secret.field-0-is asked, refl)

pub returns-in-Ok-Serve : goal.returns-in-Ok-Serve
returns-in-Ok-Serve g c =
    let words : List (List ℕ) = map (λ word. string_bytes word) c.args.words.now in
    let asked = subst (λ r. IfOk r (IsAsked words)) c.in-Ok-Serve.is c.read_words.ensures in
    server_failed words _ _ _ c.in-Ok-Serve.field-0 c.in-Ok-Serve.given c.in-Err-wanted_server.fault asked c.in-Ok-Serve.field-0-is c.in-Err-wanted_server.ensures.err

pub returns-in-Ok-Connect : goal.returns-in-Ok-Connect
returns-in-Ok-Connect g c =
    let words : List (List ℕ) = map (λ word. string_bytes word) c.args.words.now in
    let asked = subst (λ r. IfOk r (IsAsked words)) c.in-Ok-Connect.is c.read_words.ensures in
    (subst (IsAsked words) c.in-Ok-Connect.field-0-is asked, refl)

pub returns-in-Ok-Check : goal.returns-in-Ok-Check
returns-in-Ok-Check g c =
    let words : List (List ℕ) = map (λ word. string_bytes word) c.args.words.now in
    let asked = subst (λ r. IfOk r (IsAsked words)) c.in-Ok-Check.is c.read_words.ensures in
    let given = subst (IsAsked words) c.in-Ok-Check.field-0-is asked in
    look_answers words _ _ g.O.Write.contents c.args.output.now c.answer_check.new.output c.in-Ok-Check.name.now c.answer_check.result given.0 given.1 c.answer_check.ensures

pub returns-in-Ok-Draw : goal.returns-in-Ok-Draw
returns-in-Ok-Draw g c =
    let words : List (List ℕ) = map (λ word. string_bytes word) c.args.words.now in
    let asked = subst (λ r. IfOk r (IsAsked words)) c.in-Ok-Draw.is c.read_words.ensures in
    let given = subst (IsAsked words) c.in-Ok-Draw.field-0-is asked in
    draw_answers words _ _ g.O.Write.contents c.args.output.now c.answer_draw.new.output c.in-Ok-Draw.name.now c.answer_draw.result given.0 given.1 c.answer_draw.ensures

pub returns-in-Ok-Export : goal.returns-in-Ok-Export
returns-in-Ok-Export g c =
    let words : List (List ℕ) = map (λ word. string_bytes word) c.args.words.now in
    let asked = subst (λ r. IfOk r (IsAsked words)) c.in-Ok-Export.is c.read_words.ensures in
    let given = subst (IsAsked words) c.in-Ok-Export.field-0-is asked in
    transfer_answers words _ _ g.O.Write.contents c.args.output.now (transfers.Export c.in-Ok-Export.given) _ c.answer_transfer.result given given.1.config c.answer_transfer.ensures

pub returns-in-Ok-Import : goal.returns-in-Ok-Import
returns-in-Ok-Import g c =
    let words : List (List ℕ) = map (λ word. string_bytes word) c.args.words.now in
    let asked = subst (λ r. IfOk r (IsAsked words)) c.in-Ok-Import.is c.read_words.ensures in
    let given = subst (IsAsked words) c.in-Ok-Import.field-0-is asked in
    transfer_answers words _ _ g.O.Write.contents c.args.output.now (transfers.Import c.in-Ok-Import.given) _ c.answer_transfer-in-Ok-Import.result given given.1.config c.answer_transfer-in-Ok-Import.ensures

pub returns-in-Ok-Man : goal.returns-in-Ok-Man
returns-in-Ok-Man g c =
    let words : List (List ℕ) = map (λ word. string_bytes word) c.args.words.now in
    let asked = subst (λ r. IfOk r (IsAsked words)) c.in-Ok-Man.is c.read_words.ensures in
    page_answers words _ _ g.O.Write.contents c.args.output.now c.answer_page.new.output None c.answer_page.result (subst (IsAsked words) c.in-Ok-Man.field-0-is asked) c.answer_page.ensures

pub returns-in-Ok-Completions : goal.returns-in-Ok-Completions
returns-in-Ok-Completions g c =
    let words : List (List ℕ) = map (λ word. string_bytes word) c.args.words.now in
    let asked = subst (λ r. IfOk r (IsAsked words)) c.in-Ok-Completions.is c.read_words.ensures in
    page_answers words _ _ g.O.Write.contents c.args.output.now c.answer_page-in-Ok-Completions.new.output (Some c.in-Ok-Completions.shell) c.answer_page-in-Ok-Completions.result (subst (IsAsked words) c.in-Ok-Completions.field-0-is asked) c.answer_page-in-Ok-Completions.ensures

pub returns-in-Ok-Help : goal.returns-in-Ok-Help
returns-in-Ok-Help g c =
    let words : List (List ℕ) = map (λ word. string_bytes word) c.args.words.now in
    let asked = subst (λ r. IfOk r (IsAsked words)) c.in-Ok-Help.is c.read_words.ensures in
    IsFault.help c.in-Err-show_help.fault (subst (IsAsked words) c.in-Ok-Help.field-0-is asked) c.in-Err-show_help.ensures

pub returns : goal.returns
returns g c = IsFault.unread c.in-Err.no_memory refl
