-- Building commands, one argument at a time.
use Rattle.std.proofs.Common.{◌≡◌, ◌∙◌, ap, ap₂, true, Bool, ◌||◌, Option, Some, subst}
use Rattle.std.specs.Prelude.{pos, ℕ, ℤ}
use Rattle.std.specs.Int.{int_max, int_min}
use Rattle.clap.specs.Words.{AddsArg, AddsSubcommand, App, NarrowsTo, Rule, app_of, rule_of, signed_between, with_rule, with_subcommand}
use Rattle.clap.specs.declared.builder.arg.Arg.{Arg}
use Rattle.clap.specs.declared.builder.command.Command.{Command}
use Rattle.clap.specs.declared.builder.value_parser.ValueParser.{ValueParser}
use Rattle.clap.specs.declared.builder.value_parser.ValueParser.TheVariants.{Signed}
use Rattle.command_line.specs.CommandLine.{IsArgument, IsCommand, needed, up_to}

-- one more argument
pub adds : (app : App) (rule : Rule) (old new : Command) (argument : Arg) → IsCommand app old → IsArgument rule argument → AddsArg old argument new → IsCommand (with_rule app rule) new
adds app rule old new argument command is added =
    (added.shape is.1 ∙ ap₂ with_rule command.0 is.0, added.globals ∙ ap₂ (λ (a b : Bool). a || b) command.1 is.1)

-- an argument whose value must be a number
pub ranged : (rule : Rule) (most : ℕ) (before after : Arg) → IsArgument rule before → after ≡ record before { value_parser = after.value_parser } → after.value_parser ≡ Some (Signed (pos 1) (pos most)) → IsArgument (up_to most rule) after
ranged rule most before after is others parser =
    (ap rule_of others ∙ ap₂ (λ (r : Rule) (p : Option ValueParser). record r { parser = p }) is.0 parser, ap (λ (a : Arg). a.global) others ∙ is.1)

-- a required argument
pub demanded : (rule : Rule) (before after : Arg) → IsArgument rule before → after ≡ record before { required = true } → IsArgument (needed rule) after
demanded rule before after is required = (ap rule_of required ∙ ap needed is.0, ap (λ (a : Arg). a.global) required ∙ is.1)

-- the parser of numbers from 0 to `top`, narrowed
pub narrowed : (parser range : ValueParser) (first last : ℤ) (top most : ℕ) → parser ≡ Signed (pos 0) (pos top) → first ≡ pos 1 → last ≡ pos most → NarrowsTo parser (Some first) (Some last) range
    → signed_between (int_max (pos 0) (pos 1)) (int_min (pos top) (pos most)) ≡ Signed (pos 1) (pos most) → range ≡ Signed (pos 1) (pos most)
narrowed parser range first last top most is from to narrows computed =
    let known : NarrowsTo (Signed (pos 0) (pos top)) (Some first) (Some last) range = subst (λ (p : ValueParser). NarrowsTo p (Some first) (Some last) range) is narrows in
    let begun : NarrowsTo (Signed (pos 0) (pos top)) (Some (pos 1)) (Some last) range = subst (λ (z : ℤ). NarrowsTo (Signed (pos 0) (pos top)) (Some z) (Some last) range) from known in
    let ended : range ≡ signed_between (int_max (pos 0) (pos 1)) (int_min (pos top) (pos most)) = subst (λ (z : ℤ). NarrowsTo (Signed (pos 0) (pos top)) (Some (pos 1)) (Some z) range) to begun in
    ended ∙ computed

-- one more subcommand
pub adds_command : (app line : App) (old below new : Command) → app_of old ≡ app → IsCommand line below → AddsSubcommand old below new → app_of new ≡ with_subcommand app line.top
adds_command app line old below new is made added = added.shape made.1 ∙ ap₂ with_subcommand is (ap (λ (a : App). a.top) made.0)
