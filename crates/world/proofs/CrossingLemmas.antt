-- A world may be sent to another thread, and shared, if its allocator may be sent and shared.
use denote.Param.Send.{IsSend, IsSync, Frees}
use denote.RattleType.{RattleType}
use Rattle.std.specs.declared.alloc.Allocator.{Ghosts}
use Rattle.plane.proofs.frame.Frame.TheSendSync as frame
use Rattle.plane.proofs.shape.Shape.TheSendSync as area
use Rattle.policy_documents.proofs.CrossingLemmas.{◌&◌, model_send, model_sync}
use Rattle.frame_keys.specs.contracts.frames.Frames as Frames
use Rattle.frame_keys.specs.contracts.frames.FramesKeyClass.TheImpl as frames
use Rattle.search_tree.proofs.tree.Tree.TheSendSync as tree
use Rattle.windows.proofs.window.Window.TheSendSync as window
use Rattle.plain_world.proofs.CrossingLemmas.{plain_world_send, plain_world_sync}
use Rattle.world.proofs.kept_slots.KeptSlots.TheSendSync as kept
use Rattle.world.proofs.open_walks.Walks.TheSendSync as walks
use Rattle.world.specs.contracts.worlds.World as World
use Rattle.world.specs.contracts.worlds.World.TheInside as inside

module _ (A : RattleType) (g : Ghosts A.Denot) (s : IsSend A) (y : IsSync A) (f : Frees g g.dealloc_token) where
  pub world_send : IsSend (World.the_row A g)
  world_send =
      let index = tree.the_send Frames.the_row A _ _ _ frames.ghosts g s frame.the_send window.the_send area.the_send f in
      model_send (inside.the_type A g) (plain_world_send A g s y f & index & walks.the_send A g s f & kept.the_field_send & tt)

  pub world_sync : IsSync (World.the_row A g)
  world_sync =
      let index = tree.the_sync Frames.the_row A _ _ _ frames.ghosts g s y frame.the_sync window.the_sync area.the_sync f in
      model_sync (inside.the_type A g) (plain_world_sync A g s y f & index & walks.the_sync A g y & kept.the_field_sync & tt)
