-- A path with one more part.
use Rattle.std.proofs.Common.{◌≡◌, ℕ, ◌+◌, ◌-◌, ◌<◌, List, drop, replicate, sym, ap, ◌∙◌, arith, length-set}
use Rattle.std.proofs.Math.ListN.{set}
use Rattle.std.proofs.lemmas.List.{drop-set-lt, drop-drop, drop-replicate}
use Rattle.policy_text.specs.Paths.{HoldsParts}
use Rattle.policy_text.specs.declared.paths.PathPart.{PathPart}
use Rattle.policy_text.specs.declared.paths.PathPart.TheVariants.{Item}

pub HoldsParts-set : (parts : List PathPart) (len : ℕ) (part : PathPart) → HoldsParts parts len → len < 24 → HoldsParts (set parts len part) (len + 1)
HoldsParts-set parts len part h room = record {
  whole = length-set parts len part ∙ h.whole;
  within = omega arith;
  filled = drop-set-lt (len + 1) parts len part (omega arith) ∙ sym (drop-drop 1 len parts) ∙ ap (drop 1) h.filled
      ∙ drop-replicate 1 (24 - len) (Item 0) ∙ let e : 24 - len - 1 ≡ 24 - (len + 1) = omega arith in ap (λ n. replicate n (Item 0)) e;
}
