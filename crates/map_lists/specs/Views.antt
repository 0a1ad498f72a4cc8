-- What readings return, as plain data.
use Rattle.std.specs.Prelude.{List, Vec, Result, Ok, Err}
use Rattle.std.specs.Borrow.{Bor}
use Rattle.json.specs.Json.{Items}
use Rattle.json.specs.Value.{items_view}
use Rattle.json.specs.declared.value.Value.{Value}
use Rattle.features.specs.declared.rows.Change.{Change}
use Rattle.map_lists.specs.declared.faults.ListFault.{ListFault}

abbrev pub changes_view : {A : Type 0} → Result (Vec Change A) ListFault
    → Result (List Change) ListFault
changes_view (Ok changes) = Ok changes.items
changes_view (Err fault) = Err fault

abbrev pub values_view : {A : Type 0} → Result (Bor (List (Value A))) ListFault
    → Result Items ListFault
values_view (Ok values) = Ok (items_view values.now)
values_view (Err fault) = Err fault
