-- The list of chronicles, and what was seen of it, may be sent to other threads and shared among
-- them, and a tray may be sent to one.
use denote.Param.Send.{IsSend, IsSync, sendable}
use denote.RattleType.{RattleType}
use Rattle.std.proofs.Crossing.{crosses as std_crosses, send, frees, Arc-send}
use Rattle.std.proofs.vec.Vec.TheSendSync as vec
use Rattle.std.proofs.sync.ledger.Book.TheSendSync as book
use Rattle.policy_documents.proofs.CrossingLemmas.{◌&◌, u64_send, model_send}
use Rattle.std.specs.contracts.alloc.Global.{the_row as heap}
use Rattle.std.specs.contracts.impls.GlobalAllocator.TheImpl.{ghosts}
use Rattle.std.specs.declared.sync.ledger.Ledger.{Ghosts}
use Rattle.state_lists.specs.declared.lists.StatesName.{Ghosts as Stating}
use Rattle.state_lists.specs.contracts.lists.ListLength as ListLength
use Rattle.state_lists.specs.contracts.seen_states.SeenStates as SeenStates
use Rattle.logbook.proofs.word.Word.TheSendSync.{the_send as word_send, the_sync as word_sync}
use Rattle.logbook.proofs.tokens.Seen.TheSendSync.{the_send as view_send, the_sync as view_sync}
use Rattle.chronicle.specs.contracts.chronicles.Chronicle as Chronicle
use Rattle.chronicle.proofs.CrossingLemmas.{crosses as chronicle_crosses, heap_record_send, heap_record_sync}
use Rattle.answer_tray.specs.contracts.trays.Tray as Tray
use Rattle.answer_tray.specs.contracts.trays.Tray.TheInside as inside

module _ (L : RattleType) (s : Stating L.Denot) (name_send : IsSend L) where
  pub list_send : IsSend (ListLength.the_row L (Chronicle.the_row heap ghosts) s)
  list_send = search (chronicle_crosses, word_send, std_crosses, sendable) depth 40

  pub list_sync : IsSync (ListLength.the_row L (Chronicle.the_row heap ghosts) s)
  list_sync = search (chronicle_crosses, word_sync, std_crosses, sendable) depth 40

  pub seen_send : IsSend (SeenStates.the_row L (Chronicle.the_row heap ghosts) s)
  seen_send = search (chronicle_crosses, view_send, std_crosses, sendable) depth 40

  pub seen_sync : IsSync (SeenStates.the_row L (Chronicle.the_row heap ghosts) s)
  seen_sync = search (chronicle_crosses, view_sync, std_crosses, sendable) depth 40

  pub tray_send : (g : Ghosts L.Denot) → IsSend (Tray.the_row L heap g s ghosts)
  tray_send g =
      let answers = vec.the_send _ heap ghosts (Arc-send _ heap_record_send heap_record_sync) send frees in
      model_send (inside.the_type L heap g s ghosts) (seen_send & answers & book.the_send L g & u64_send & u64_send & tt)
