-- Documents are `Send` and `Sync` if their allocator is. The checker proves this for most types by
-- itself, in `TheSendSync`, but not for a recursive type, as a set of sets is, nor for a type that
-- contains one.
use base.Stored.{Coded}
use denote.Builtin.{u32, u64}
use denote.Model.{View}
use denote.Param.Send.{IsSend, IsSync, Frees, AllSend, AllSync, plain_send, plain_sync, recorded_send, recorded_sync, struct_send, struct_sync, view_send, view_sync}
use denote.RattleType.{RattleType}
use denote.Struct.Declared.{Declared, shape, row}
use Rattle.std.specs.declared.alloc.Allocator.{Ghosts}
use Rattle.std.specs.contracts.hash.FoldHasher as FoldHasher
use Rattle.std.proofs.hash.BuildHasherDefault.TheSendSync as builder
use Rattle.std.proofs.hash.FoldHasher.TheSendSync as hasher
use Rattle.std.proofs.vec.Vec.TheSendSync as vec
use Rattle.indexmap.proofs.map.IndexMap.TheSendSync as map
use Rattle.plane.proofs.shape.Shape.TheSendSync as area
use Rattle.features.proofs.names.Name.TheSendSync as name
use Rattle.policy_documents.proofs.algorithms.Algorithm.TheSendSync as algorithm
use Rattle.policy_documents.proofs.matches.Items.TheSendSync as items
use Rattle.policy_documents.proofs.matches.Match.TheSendSync as test
use Rattle.policy_documents.proofs.rules.Rule.TheSendSync as rule
use Rattle.policy_documents.proofs.zones.ZoneName.TheSendSync as zone_name
use Rattle.policy_documents.proofs.nodes.Node.TheLaws.TheKnot.{send-Node, sync-Node}
use Rattle.policy_documents.specs.contracts.documents.Document as Document
use Rattle.policy_documents.specs.contracts.documents.Document.TheInside as inside
use Rattle.policy_documents.specs.contracts.nodes.Node as Node

pub u32_send : IsSend u32
u32_send = plain_send _ _ _ _ _

pub u32_sync : IsSync u32
u32_sync = plain_sync _ _ _ _ _

pub u64_send : IsSend u64
u64_send = plain_send _ _ _ _ _

pub u64_sync : IsSync u64
u64_sync = plain_sync _ _ _ _ _

-- the fields of a struct, or the variants of an enum, in order, with `tt` at the end
infixr 4 ◌&◌
pub ◌&◌ : {A B : Type 0} → A → B → A × B
first & others = (first, others)

-- a struct with a model is `Send` or `Sync` if its fields are
module _ (T : Declared) {D : Type 0} {code : Coded D} {view : (row T).Denot → D} {holds : (row T).Denot → Type 0} where
  pub model_send : AllSend (shape T).fields → IsSend (View (row T) D code view holds)
  model_send s = view_send _ _ _ _ _ (recorded_send _ _ _ T.to_one (struct_send (shape T) s))

  pub model_sync : AllSync (shape T).fields → IsSync (View (row T) D code view holds)
  model_sync y = view_sync _ _ _ _ _ (recorded_sync _ _ _ T.to_one (struct_sync (shape T) y))

module _ (A : RattleType) (g : Ghosts A.Denot) where
  node_send : IsSend A → Frees g g.dealloc_token → IsSend (Node.the_field A g).row
  node_send s f =
      let target = items.the_send _ A g (items.the_send _ A g (items.the_send _ A g test.the_send s f) s f) s f in
      send-Node A g name.the_send algorithm.the_field_send target
      (λ node sent. vec.the_send node A g sent s f) (vec.the_send _ A g (rule.the_send A g s f) s f)

  node_sync : IsSync A → IsSync (Node.the_field A g).row
  node_sync y =
      let target = items.the_sync _ A g (items.the_sync _ A g (items.the_sync _ A g test.the_sync y) y) y in
      sync-Node A g name.the_sync algorithm.the_field_sync target
      (λ node shared. vec.the_sync node A g shared y) (vec.the_sync _ A g (rule.the_sync A g y) y)

  pub document_send : IsSend A → Frees g g.dealloc_token → IsSend (Document.the_row A g)
  document_send s f =
      let hashes = builder.the_send _ hasher.the_send in
      let zones = map.the_send _ _ _ A FoldHasher.the_row _ _ _ _ g zone_name.the_send area.the_send hashes s f in
      model_send (inside.the_type A g) (zones & node_send s f & tt)

  pub document_sync : IsSync A → IsSync (Document.the_row A g)
  document_sync y =
      let hashes = builder.the_sync _ hasher.the_sync in
      let zones = map.the_sync _ _ _ A FoldHasher.the_row _ _ _ _ g zone_name.the_sync area.the_sync hashes y in
      model_sync (inside.the_type A g) (zones & node_sync y & tt)
