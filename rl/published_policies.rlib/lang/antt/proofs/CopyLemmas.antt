-- The steps on the two copies keep their rule.
use Rattle.std.proofs.Common.{◌≡◌, ◌≢◌, ℕ, List, [], ◌∷◌, ◌++◌, set, refl, sym, ◌∙◌, subst, ⊎_elim, Option, None, Some}
use mathlib.Core.Option.{some, some-ne-none}
use mathlib.Core.List.{IsPrefix}
use lib.ListN.{get_elem?}
use Rattle.crossbeam_utils.specs.Register.{Admits, TurnsAt, Forks, Merges}
use Rattle.atomic_table.proofs.Lists.{at_set, at_snoc}
use Rattle.published_policies.specs.Lists.{SeenData}
use Rattle.published_policies.specs.Copies.{Fits, AllFit, Learns}
use Rattle.published_policies.proofs.ListLemmas.{prefix_self, prefix_trans}

-- what fits a list fits each list that continues it
fits_later : (shown later : SeenData) → later.book ≡ shown.book → IsPrefix shown.list later.list → (known : Option SeenData) → Fits shown known → Fits later known
fits_later shown later book longer None fits = tt
fits_later shown later book longer (Some known) fits = (fits.0 ∙ sym book, prefix_trans known.list shown.list later.list fits.1 longer)

-- all still fit if one of them knows another list, which fits
set_fits : (shown : SeenData) (views : List (Option SeenData)) (seat : ℕ) (known : Option SeenData) → AllFit shown views → Fits shown known → AllFit shown (set views seat known)
set_fits shown views seat known all fits other told at =
    ⊎_elim (λ (here : (other ≡ seat) × (known ≡ told)). subst (Fits shown) here.1 fits) (λ (there : (other ≢ seat) × (get_elem? views other ≡ some told)). all other told there.1)
    (at_set views seat other known told at)

-- all still fit if one more comes, which fits
more_fit : (shown : SeenData) (views : List (Option SeenData)) (known : Option SeenData) → AllFit shown views → Fits shown known → AllFit shown (views ++ known ∷ [])
more_fit shown views known all fits seat told at =
    ⊎_elim (all seat told) (λ (same : known ≡ told). subst (Fits shown) same fits) (at_snoc views known told seat at)

-- a later list is shown or read, and learned
pub learns : (seat : ℕ) (known : Option SeenData) (shown later : SeenData) → later.book ≡ shown.book → IsPrefix shown.list later.list → TurnsAt AllFit seat known shown later (λ old before list new. Learns old list new)
learns seat known shown later book longer views all at =
    let all_later : AllFit later views = λ other told there. fits_later shown later book longer told (all other told there) in (
      Some later,
      set_fits later views seat (Some later) all_later (refl, prefix_self later.list),
      record { fits = all_later seat known at; learned = refl },
    )

-- a new reader knows nothing
pub admits : Admits AllFit None
admits shown views all = more_fit shown views None all tt

-- at first there is the writer, who knows nothing
pub starts : (shown : SeenData) → AllFit shown (None ∷ [])
starts shown = more_fit shown [] None (λ seat known at. absurd (some-ne-none known (sym at))) tt

-- the writer passes on what it knows
pub forks : (seat : ℕ) (known : Option SeenData) → Forks AllFit seat known known known
forks seat known shown views all at =
    let fits : Fits shown known = all seat known at in more_fit shown (set views seat known) known (set_fits shown views seat known all fits) fits

-- and a reader takes it in
pub merges : (seat : ℕ) (known : Option SeenData) (other : ℕ) (told : Option SeenData) → Merges AllFit seat known other told told None
merges seat known other told shown views all at apart there =
    let fits : Fits shown told =
    ⊎_elim (λ (here : (other ≡ seat) × (told ≡ told)). absurd (apart here.0)) (λ (else : (other ≢ seat) × (get_elem? views other ≡ some told)). all other told else.1)
    (at_set views seat other told told there) in
    set_fits shown (set views seat told) other None (set_fits shown views seat told all fits) tt
