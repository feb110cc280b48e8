-- A call that hears that its transaction is decided otherwise than by its own commit or abort: it is over.
use Rattle.std.proofs.Common.{◌≡◌, ℕ, true, List, Some, refl, ap}
use Rattle.pc_call.proofs.Decided.{aborted_over}
use Rattle.pc_call.proofs.FoundDecided.{found_aborted_over, found_committed_over}
use Rattle.pc_call.proofs.LastBeats.{last_beat_own, last_beat_tells}
use Rattle.pc_call.proofs.StageReplies.{stage_own, stage_tells}
use Rattle.pc_call.specs.Behind.{MayFindAborted, MayFindCommitted, left_behind}
use Rattle.pc_call.specs.declared.purpose.Purpose.{Purpose}
use Rattle.pc_call.specs.declared.purpose.Purpose.TheVariants as purposes
use Rattle.pc_call.specs.Finished.{MayTellOver, left_at}
use Rattle.pc_call.specs.Learned.{known_heard}
use Rattle.pc_call.specs.Serving.{InCall}
use Rattle.pc_call.specs.Setting.{Setting}
use Rattle.pc_proto.specs.declared.answer.Answer.TheVariants as answers
use Rattle.pc_proto.specs.declared.fate.Fate.TheVariants as fates
use Rattle.pc_proto.specs.declared.reply.Reply.TheVariants as replies
use Rattle.pc_proto.specs.declared.view.View.TheVariants as views
use Rattle.pc_proto.specs.declared.why.Why.{Why}
use Rattle.pc_txn.specs.Counted.{IsCounted}
use Rattle.pc_txn.specs.declared.txn.OpenTxn.{OpenTxn}
use Rattle.pc_wave.specs.declared.message.Message.{Message}
use Rattle.pc_wave.specs.Messages.{wave_awaits}
use Rattle.pc_wave.specs.Standing.{IsHeardTo}
use Rattle.pc_world.specs.Known.{Known}
use Rattle.pc_world.specs.Known.Traffic.{Heard}

module _ (session clock count : ℕ) (set : Setting) (k : Known) (x : OpenTxn) where
  pub found_committed_call : (p : Purpose) (ms : List Message) → IsCounted session clock count k → InCall set k x p ms → MayFindCommitted p → (number epoch ts : ℕ) (locks : List (List ℕ)) (h : Heard) → wave_awaits number ms ≡ true → IsHeardTo k number (replies.Status (views.Committed epoch ts locks)) h
      → MayTellOver set session (known_heard h k) (record { answer = answers.Committed x.id ts; left = left_behind x.anchor (Some ts) (fates.Committed epoch ts) x })
  found_committed_call (purposes.Stage n) ms counted w may number epoch ts locks h waited is =
      let view = views.Committed epoch ts locks in
      found_committed_over set session k x (purposes.Stage n) ms w view h is.told (stage_own session clock count set k x (purposes.Stage n) ms counted w number view h waited is n refl) epoch ts locks refl
      (stage_tells session clock count set k x (purposes.Stage n) ms counted w number view h waited is n refl (answers.Committed x.id ts))
  found_committed_call (purposes.LastBeat answer reading) ms counted w may number epoch ts locks h waited is =
      let view = views.Committed epoch ts locks in
      found_committed_over set session k x (purposes.LastBeat answer reading) ms w view h is.told (last_beat_own session clock count set k x (purposes.LastBeat answer reading) ms counted w number view h waited is answer reading refl) epoch ts locks refl
      (last_beat_tells session clock count set k x (purposes.LastBeat answer reading) ms counted w number view h waited is answer reading refl (answers.Committed x.id ts) (λ why aborts. absurd aborts))
  found_committed_call p ms counted w may number epoch ts locks h waited is = absurd may

  pub found_aborted_call : (p : Purpose) (ms : List Message) → IsCounted session clock count k → InCall set k x p ms → MayFindAborted p → (number epoch : ℕ) (why : Why) (locks : List (List ℕ)) (h : Heard) → wave_awaits number ms ≡ true → IsHeardTo k number (replies.Status (views.Aborted epoch why locks)) h
      → MayTellOver set session (known_heard h k) (record { answer = answers.Aborted why; left = left_at x.anchor fates.Aborted x })
  found_aborted_call (purposes.Commit n) ms counted w may number epoch why locks h waited is =
      aborted_over session clock count set k x (purposes.Commit n) ms counted w number (views.Aborted epoch why locks) h waited is n refl epoch why locks refl
  found_aborted_call (purposes.Stage n) ms counted w may number epoch why locks h waited is =
      let view = views.Aborted epoch why locks in
      found_aborted_over set session k x (purposes.Stage n) ms w view h is.told (stage_own session clock count set k x (purposes.Stage n) ms counted w number view h waited is n refl) epoch why locks refl
      (stage_tells session clock count set k x (purposes.Stage n) ms counted w number view h waited is n refl (answers.Aborted why))
  found_aborted_call (purposes.LastBeat answer reading) ms counted w may number epoch why locks h waited is =
      let view = views.Aborted epoch why locks in
      found_aborted_over set session k x (purposes.LastBeat answer reading) ms w view h is.told (last_beat_own session clock count set k x (purposes.LastBeat answer reading) ms counted w number view h waited is answer reading refl) epoch why locks refl
      (last_beat_tells session clock count set k x (purposes.LastBeat answer reading) ms counted w number view h waited is answer reading refl (answers.Aborted why) (λ other same. ap answers.Aborted same))
  found_aborted_call p ms counted w may number epoch why locks h waited is = absurd may
