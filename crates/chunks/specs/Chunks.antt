-- What a contract sees of a list in chunks.
use Rattle.std.specs.Prelude.{◌≡◌, ℕ, List, [], Option, Some, None, refl}
use Rattle.std.specs.Coded.{Coded, code_by, coded×, coded_ℕ, coded_list}
use Rattle.chunks.specs.Tables.{Listed}

-- the elements, and for how many there are places
pub record Chunks (S : Type 0) : Type 0 where
  pub items : List S
  pub places : ℕ

abbrev pub chunks_code : {S : Type 0} → Coded S → Coded (Chunks S)
chunks_code {S} values =
    code_by
    (List S × ℕ)
    (coded× (coded_list values) coded_ℕ)
    (λ list. (list.items, list.places))
    (λ pair. record { items = pair.0; places = pair.1 })
    (λ _. refl)

module _ {S A : Type 0} where
  -- what is seen of a list with this table, or with none
  abbrev pub seen : Option (Listed S A) → Chunks S
  seen None = record { items = []; places = 0 }
  seen (Some table) = record { items = table.items; places = table.places }

  -- the table, if there is one, is freed by this handle
  abbrev pub IsHome : Option (Listed S A) → A → Type 0
  IsHome None heap = Unit {0}
  IsHome (Some table) heap = table.heap ≡ heap
