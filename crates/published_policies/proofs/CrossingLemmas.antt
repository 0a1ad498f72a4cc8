-- Which types may be sent to another thread, and which may be shared. The checker finds that by
-- itself where no type holds itself. A document's nodes hold nodes, so the checker searches anew
-- for each type that holds a document, at each call that sends one to a thread. For a view or a
-- publisher that search gives up; these lemmas prove the goal of such a call.
use Rattle.std.specs.contracts.alloc.Global.{the_row as heap}
use Rattle.std.specs.contracts.impls.GlobalAllocator.TheImpl.{ghosts}
use Rattle.std.proofs.Crossing.{crosses, send, frees}
use denote.RattleType.{RattleType}
use denote.Param.Send.{IsSend, IsSync, part_keyless, sendable}
use Rattle.atomic_table.proofs.shared.Seat.TheSendSync.{the_send as seat_send}
use Rattle.atomic_table.specs.contracts.shared.Seat as seat
use Rattle.left_right.proofs.part.Deed.TheSendSync.{the_send as deed_send}
use Rattle.left_right.proofs.part.Part.TheSendSync.{the_send as part_send, the_sync as part_sync}
use Rattle.left_right.specs.contracts.part.Deed as deed
use Rattle.left_right.proofs.reader.Factory.TheSendSync.{the_field_sync as factory_sync}
use Rattle.left_right.proofs.reader.Reader.TheSendSync.{the_field_send as reader_send}
use Rattle.left_right.proofs.writer.Writer.TheSendSync.{the_field_send as copies_send}
use Rattle.logbook.proofs.word.Word.TheSendSync.{the_send as word_send, the_sync as word_sync}
use Rattle.decision.proofs.CrossingLemmas.{decider_send, decider_sync, in_force_send}
use Rattle.published_policies.specs.declared.lists.ListName.{Ghosts}
use Rattle.published_policies.specs.contracts.policies.Policy as policy
use Rattle.published_policies.specs.contracts.publishers.Publisher as publisher
use Rattle.published_policies.specs.contracts.ready.ReadyPolicy as ready
use Rattle.published_policies.specs.contracts.views.View as view
use Rattle.published_policies.specs.contracts.writers.ListWriter as writer
use Rattle.published_policies.proofs.seen_lists.SeenList.TheSendSync.{the_send as list_send, the_sync as list_sync}

policy_send : IsSend policy.the_row
policy_send = search (decider_send, decider_sync, list_send, crosses, sendable) depth 40

policy_sync : IsSync policy.the_row
policy_sync = search (decider_send, decider_sync, list_sync, crosses, sendable) depth 40

ready_send : IsSend ready.the_row
ready_send = search (in_force_send, list_send, crosses, sendable) depth 40

-- The two tokens of the writer, its seat at the table of both copies and the right to free a copy,
-- show nothing through a `&`: it holds a part of what they own. So they may be shared where they may
-- be sent.
seat_sync : (S V : RattleType) → IsSend S → IsSync (seat.the_row S V)
seat_sync S V s = record { shared = λ d b o κ q. part_keyless _ (seat_send S V s) q d b o }

deed_sync : (T : RattleType) → IsSend T → IsSync (deed.the_row T heap ghosts)
deed_sync T s = record { shared = λ d b o κ q. part_keyless _ (deed_send T heap ghosts s send frees) q d b o }

module _ (L : RattleType) (g : Ghosts L.Denot) (name_send : IsSend L) where
  pub view_send : IsSend (view.the_row L g)
  view_send = search (policy_sync, list_send, ready_send, reader_send, crosses, sendable) depth 40

  writer_send : IsSend (writer.the_row L g)
  writer_send = search (policy_send, policy_sync, copies_send, word_send, crosses, sendable) depth 40

  writer_sync : IsSync (writer.the_row L g)
  writer_sync = search (policy_send, policy_sync, part_send, part_sync, seat_sync, deed_sync, factory_sync, word_sync, crosses, sendable) depth 40

  pub publisher_send : (R : RattleType) → IsSend R → IsSend (publisher.the_row L R g)
  publisher_send R handle_send = search (writer_send, crosses, sendable) depth 40

  pub publisher_sync : (R : RattleType) → IsSync R → IsSync (publisher.the_row L R g)
  publisher_sync R handle_sync = search (writer_sync, crosses, sendable) depth 40
