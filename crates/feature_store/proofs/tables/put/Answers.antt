use Rattle.std.proofs.Common.{◌∙◌, refl, arith}
use Rattle.feature_store.specs.Tables.{blank}
use Rattle.feature_store.proofs.RowLemmas.{found_at}
use Rattle.feature_store.proofs.TableLemmas.{rising, at_row}
use Rattle.feature_store.proofs.EntryLemmas.{rows_inserted, tied_inserted}
use Rattle.feature_store.proofs.tables.put.Goals as goal

pub insert-requires-clause-rising : goal.insert-requires-clause-rising
insert-requires-clause-rising g c = rising _ _ _ c.requires.sound

pub insert-requires-clause-absent : goal.insert-requires-clause-absent
insert-requires-clause-absent g c = λ i is. (let found = found_at _ _ i blank c.requires.sound.sorted (at_row _ _ _ c.requires.sound _ i is) in cc (found, c.requires.absent))

pub returns-clause-rows : goal.returns-clause-rows
returns-clause-rows g c =
    rw c.push_reserved.ensures.items (rows_inserted _ _ c.requires.sound c.args.row _ _ refl (c.len-place.ensures ∙ c.args.table.now.features.ok.0) (rw c.id-id.ensures at c.insert.ensures.inserted))

pub returns-clause-sound : goal.returns-clause-sound
returns-clause-sound g c =
    rw c.push_reserved.ensures.items (tied_inserted _ _ c.requires.sound c.args.row _ _ refl (c.len-place.ensures ∙ c.args.table.now.features.ok.0) (rw c.id-id.ensures at c.insert.ensures.inserted)
    c.requires.absent (omega (arith, c.requires.room.numbers, c.args.table.now.features.ok.0)))
