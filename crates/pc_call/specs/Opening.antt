-- What becomes of the open transaction once a message of its call was sent.
use Rattle.std.specs.Prelude.{◌≡◌, ℕ, true, ⊤, Option, None, Some, List, [], ◌∷◌, ◌&&◌, ◌==◌, if◌then◌else◌, find}
use Rattle.pc_call.specs.declared.purpose.Purpose.{Purpose}
use Rattle.pc_call.specs.declared.purpose.Purpose.TheVariants as purposes
use Rattle.pc_proto.specs.declared.reply.Reply.{Reply}
use Rattle.pc_proto.specs.declared.request.Request.{Request}
use Rattle.pc_proto.specs.declared.request.Request.TheVariants as requests
use Rattle.pc_proto.specs.Replies.{is_conflict}
use Rattle.pc_txn.specs.declared.txn.OpenTxn.{OpenTxn}
use Rattle.pc_txn.specs.Opened.{with_commit, with_next_write}
use Rattle.pc_txn.specs.Silence.{shown_at}
use Rattle.pc_wave.specs.declared.message.Message.{Message}
use Rattle.std.specs.List.{list_any}
use Rattle.pc_base.specs.Span.{same_key}
use Rattle.pc_proto.specs.Requests.{is_stage}
use Rattle.pc_txn.specs.Staged.{with_stage}
use Rattle.pc_wave.specs.Messages.{is_to_send}

-- The transaction once a write of this key and value was sent: where none of its key is in flight, it is its next one.
abbrev pub laid_at : List ℕ → Option (List ℕ) → OpenTxn → OpenTxn
laid_at key value x = if list_any (λ w. same_key w.key key) x.in_flight then x else with_next_write key value x

-- So it is once this write was sent.
abbrev pub laid_with : Request → OpenTxn → OpenTxn
laid_with (requests.Put meta seq ts key value) x = laid_at key value x
laid_with request x = x

abbrev pub laid_first : List Message → OpenTxn → OpenTxn
laid_first [] x = x
laid_first (m ∷ messages) x = laid_with m.request x

-- The transaction once this message went out: where it is a stage that did not go out before, it has staged.
abbrev pub staged_by : Option Message → OpenTxn → OpenTxn
staged_by None x = x
staged_by (Some m) x = if is_stage m.request && (m.lost == 0) then with_stage x else x

abbrev pub staged_first : List Message → OpenTxn → OpenTxn
staged_first messages x = staged_by (find is_to_send messages) x

-- The transaction once a message of this purpose was sent, the first of these: a heartbeat shows that it is alive, a write that was not in flight
-- is, and a stage and a commit read where it writes.
abbrev pub after_send : Purpose → List Message → OpenTxn → OpenTxn
after_send (purposes.Beat call reading) messages x = shown_at reading x
after_send (purposes.Prove call all) messages x = x
after_send purposes.Read messages x = x
after_send purposes.Write messages x = laid_first messages x
after_send (purposes.Refresh refusals puts) messages x = x
after_send (purposes.Stage refusals) messages x = staged_first messages x
after_send (purposes.Query refusals holder puts) messages x = x
after_send (purposes.Commit refusals) messages x = with_commit x
after_send (purposes.LastBeat answer reading) messages x = shown_at reading x
after_send (purposes.Abort why) messages x = x

-- The reply leaves the open call going on, and its transaction as it is: any reply to a read or a refresh, and a conflict of a write, the call's own
-- or an earlier one.
abbrev pub GoesOn : Purpose → Reply → Type 0
GoesOn (purposes.Beat call reading) reply = ⊥
GoesOn (purposes.Prove call all) reply = is_conflict reply ≡ true
GoesOn purposes.Read reply = ⊤
GoesOn purposes.Write reply = is_conflict reply ≡ true
GoesOn (purposes.Refresh refusals puts) reply = ⊤
GoesOn (purposes.Stage refusals) reply = is_conflict reply ≡ true
GoesOn (purposes.Query refusals holder puts) reply = ⊥
GoesOn (purposes.Commit refusals) reply = ⊥
GoesOn (purposes.LastBeat answer reading) reply = ⊥
GoesOn (purposes.Abort why) reply = ⊥

-- The timestamp at which messages of this purpose read.
abbrev pub reader_of : Purpose → OpenTxn → Option ℕ
reader_of purposes.Read x = Some x.reads.ts
reader_of _ x = None
