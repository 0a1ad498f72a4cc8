-- Places may cross threads where their values may: what a row owns and lends names no key.
use Rattle.std.proofs.Common.{List, [], ◌∷◌}
use Rattle.std.specs.Prelude.{Option, Some, None}
use mir.Syntax.{Ty, ty_array}
use mir.Raw.{raw}
use base.Fml.{Fml, Lft}
use base.Shift.{Keyless}
use denote.RattleType.{RattleType}
use denote.RawPtr.{Ptr, block_ptr, null_ptr, room_for, in_block}
use denote.Builtin.{RawPtr}
use denote.Struct.Struct.{exits_of}
use denote.Struct.Owning.{shape, fields, to}
use denote.Memory.{lone}
use denote.Param.Send.{IsSend, IsSync, Frees, owning_send, struct_send, struct_sync, part_keyless, sendable}
use Rattle.core.specs.declared.alloc.Allocator.{Ghosts}
use Rattle.std_alloc.proofs.SendSync.{quiet, lies, seen}
use Rattle.chunks.specs.Owned.{one_place, all_places, place_lent, places_lent}
use Rattle.chunks.specs.contracts.lease.Lease as Lease
use Rattle.chunks.specs.contracts.places.Places as Places

pointer_sent : IsSend RawPtr
pointer_sent = search sendable

pointer_shared : IsSync RawPtr
pointer_shared = search sendable

room_keyless : (τ : Ty) (p : Ptr) → Keyless (room_for τ p)
room_keyless τ (block_ptr b o) = tt
room_keyless τ null_ptr = tt

inside_keyless : (p : Ptr) (F : Fml) → Keyless F → Keyless (in_block p F)
inside_keyless (block_ptr b o) F k = k
inside_keyless null_ptr F k = tt

module _ (S : RattleType) where
  module _ (sent : IsSend S) where
    one_keyless : (item : Option S.Denot) (p : Ptr) → Keyless (one_place S item p)
    one_keyless None p = room_keyless _ p
    one_keyless (Some value) p = lies S sent p value

    all_keyless : (items : List (Option S.Denot)) (p : Ptr) → Keyless (all_places S items p)
    all_keyless [] p = tt
    all_keyless (item ∷ items) p = (one_keyless item p, all_keyless items _)

    pub Places-send : IsSend (Places.the_row S)
    Places-send =
        let O = Places.the_type S in
        owning_send O (pointer_sent, tt) (λ row. (tt, inside_keyless row.at _ (all_keyless row.items row.at))) (λ k. quiet (to O) (exits_of k (fields O)) ((struct_send (shape O) (pointer_sent, tt)).leaving k))

  module _ (shared : IsSync S) where
    one_lent_keyless : (item : Option S.Denot) (p : Ptr) (κ : Lft) → Keyless (place_lent S item p κ)
    one_lent_keyless None p κ = tt
    one_lent_keyless (Some value) p κ = seen S shared p value κ

    lent_keyless : (items : List (Option S.Denot)) (p : Ptr) (κ : Lft) → Keyless (places_lent S items p κ)
    lent_keyless [] p κ = tt
    lent_keyless (item ∷ items) p κ = (one_lent_keyless item p κ, lent_keyless items _ κ)

    pub Places-sync : IsSync (Places.the_row S)
    Places-sync = record {
      shared = λ row b o κ. ((struct_sync (shape (Places.the_type S)) (pointer_shared, tt)).shared (to (Places.the_type S) row) b o κ, (tt, lent_keyless row.items row.at κ));
    }

module _ (S A : RattleType) (g : Ghosts A.Denot) (frees : Frees g g.dealloc_token) where
  pub Lease-send : IsSend (Lease.the_row S A g)
  Lease-send = record {
    owned = λ lease vs. ((λ parts. (tt, ((λ us. (tt, tt)), tt))), frees.frees lease.heap (raw (ty_array (lone S.mir) lease.count)) lease.at);
    leaving = λ k x vs. tt;
  }

  pub Lease-sync : IsSync (Lease.the_row S A g)
  Lease-sync = record { shared = λ lease b o κ q. part_keyless (Lease.the_row S A g) Lease-send q lease b o }
