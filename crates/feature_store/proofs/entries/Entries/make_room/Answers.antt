use Rattle.std.proofs.Common.{◌+◌, ◌*◌, ◌/◌, ◌<◌, ◌≤◌, ◌⊎◌, inl, inr, ap, length, arith, vec_capacity}
use Rattle.std.proofs.lemmas.Bool.{cases_lt}
use Rattle.std.proofs.lemmas.Result.{on_ok_weaker}
use Rattle.feature_store.specs.Blocks.{Listing}
use Rattle.feature_store.proofs.RoomLemmas.{room_made}
use Rattle.feature_store.proofs.entries.Entries.make_room.Goals as goal

pub returns-clause-ok : goal.returns-clause-ok
returns-clause-ok g c =
    let count = c.args.count in
    let additional = c.args.additional in
    let few = ap (λ (listing : Listing). length listing.items) c.self.view_is in
    let enough : (additional ≤ c.min-blocks.result) ⊎ (count + additional < 256 * c.min-blocks.result) = elim (cases_lt additional ((count + additional) / 256 + 1)) [
      | inl less ↦ inl (omega (arith, less, c.min-blocks.ensures))
      | inr more ↦ inr (omega (arith, more, c.min-blocks.ensures))
    ] in
    rw c.make_room.ensures.items (on_ok_weaker _ (λ fits. room_made c.self.inside.blocks.items (vec_capacity c.make_room.new.self) count additional c.min-blocks.result
    (omega (arith, few, c.requires.count)) enough (omega (arith, fits, c.make_room.ensures.len, c.self.inside.blocks.ok.0))) c.make_room.ensures.ok)
