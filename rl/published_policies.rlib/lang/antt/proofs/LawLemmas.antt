-- The answer of a view that was told of an edition.
use Rattle.std.proofs.Common.{◌≡◌, ◌≤◌, List, Option, Some, None, arith}
use Rattle.std.specs.Prelude.{IfSome}
use mathlib.Core.List.{IsPrefix}
use Rattle.decision.specs.Deciders.{DeciderData}
use Rattle.published_policies.specs.Lists.{IsPublished, last_edition}
use Rattle.published_policies.specs.declared.explaining.Explained.{Explained}
use Rattle.published_policies.proofs.ListLemmas.{no_later, prefix_trans}

module _ (edition before after : List DeciderData) (told : IsPrefix edition before) where
  pub still_told : (answer : Option Explained) → IfSome answer (λ _. IsPrefix before after) → IfSome answer (λ _. IsPrefix edition after)
  still_told None later = tt
  still_told (Some explained) later = prefix_trans edition before after told later

  pub no_older : (answer : Option Explained) → IfSome answer (λ _. IsPrefix before after) → IfSome answer (λ explained. explained.edition ≡ last_edition after)
      → IfSome answer (λ _. IsPublished after) → IfSome answer (λ explained. last_edition edition ≤ explained.edition)
  no_older None later last published = tt
  no_older (Some explained) later last published =
      omega (arith, last, no_later edition after (prefix_trans edition before after told later) published.editions)
