-- A `&` to a row is made where one to a value is: it lends the bound on the row's size and each
-- value. Assumes `Logic`.
use mathlib.Core.List.{List, [], ◌∷◌, ◌++◌}
use Prim.Native.Nat.{◌*◌, ◌^◌}
use lib.ListN.{length}
use seplogic.Ra.Ura.{Ura}
use base.Fml.{Lft, Fml, ftrue, flt, Incl-trans}
use types.Logic.{Logic}
use contract.BorrowLft.{meet_⊑_left}
use denote.RattleType.{RattleType, RowLaws}
use denote.Sharing.{ShrLaws, said}
use denote.SharingLaws.{nothing_shr_laws, said_shr_laws, beside_shr_laws}
use denote.RawPtr.{Ptr, block_ptr, null_ptr, in_block, ◌+ₚ◌}
use denote.Shares.{Shares, Shares-less}
use denote.Param.Laws.{Laws}
use denote.Param.Shared.{copy_shared}
use denote.Struct.Field.{RawPtr-field}
use denote.Struct.Laws.{RawPtr-copy}
use denote.Struct.Lending.{lent_at_shr_laws, Lends, Lends-false, Lends-lies, Lends-said, Lends-nothing, Lends-both, of_Lends}
use Rattle.core.specs.declared.option.Option.{Option}
use Rattle.core.specs.declared.option.Option.TheVariants.{Some, None}
use Rattle.chunks.specs.Owned.{place_size, one_place, all_places, place_lent, places_lent}
use Rattle.chunks.specs.contracts.places.Places as C
use Rattle.chunks.proofs.places.Places.TheLaw.Statement.{statement}

module _ (R : RattleType) where
  abbrev small : List (Option R.Denot) → Fml
  small items = flt (length items * place_size R) (2 ^ 63)

  module _ (laws : RowLaws R) where
    one_lawful : (item : Option R.Denot) (p : Ptr) → ShrLaws (place_lent R item p)
    one_lawful None p = nothing_shr_laws
    one_lawful (Some value) p = lent_at_shr_laws R laws p value

    all_lawful : (items : List (Option R.Denot)) (p : Ptr) → ShrLaws (places_lent R items p)
    all_lawful [] p = nothing_shr_laws
    all_lawful (item ∷ items) p =
        let next = p +ₚ place_size R in
        beside_shr_laws (place_lent R item p) (places_lent R items next) (one_lawful item p) (all_lawful items next)

  module _ {M : Type 1} {𝓤 : Ura M} (𝓛 : Logic 𝓤) (κ : Lft) (shares_one : Shares 𝓛 R κ) where
    one_lends : (item : Option R.Denot) (p : Ptr) → Lends 𝓛 (one_place R item p) (place_lent R item p) κ
    one_lends None p = Lends-nothing 𝓛 (one_place R None p) κ
    one_lends (Some value) p = Lends-lies 𝓛 R κ p value (shares_one value)

    all_lend : (items : List (Option R.Denot)) (p : Ptr) → Lends 𝓛 (all_places R items p) (places_lent R items p) κ
    all_lend [] p = Lends-nothing 𝓛 ftrue κ
    all_lend (item ∷ items) p =
        let next = p +ₚ place_size R in
        Lends-both 𝓛 (one_place R item p) (all_places R items next) (place_lent R item p) (places_lent R items next) κ (one_lends item p) (all_lend items next)

    in_a_block_lend : (items : List (Option R.Denot)) (p : Ptr) → Lends 𝓛 (in_block p (all_places R items p)) (places_lent R items p) κ
    in_a_block_lend items (block_ptr b o) = all_lend items (block_ptr b o)
    in_a_block_lend items null_ptr = Lends-false 𝓛 (places_lent R items null_ptr) κ

pub shares : (R : RattleType) (L : Laws R) → statement R L
shares R L = of_Lends (C.struct R) (C.the_codes R.Denot R.coded) (C.the_heap R) (C.the_lent R)
    (λ row p. beside_shr_laws (said (small R row.items)) (places_lent R row.items row.at) (said_shr_laws (small R row.items) tt) (all_lawful R L.shr_laws row.items row.at))
    (copy_shared RawPtr-field RawPtr-copy, tt)
    (λ M 𝓤 𝓛 row p.
    let κ = (C.the_row R).lives in
    let one = Shares-less 𝓛 R R.lives κ (Incl-trans (meet_⊑_left (R.lives ++ []) _) (meet_⊑_left R.lives [])) (L.shares 𝓛) in
    Lends-both 𝓛 (small R row.items) (in_block row.at (all_places R row.items row.at)) (said (small R row.items)) (places_lent R row.items row.at) κ
    (Lends-said 𝓛 (small R row.items) tt κ) (in_a_block_lend R 𝓛 κ one row.items row.at))
