-- The history of a session that writes on its way and commits by stage: one session begins, puts `x` under `a`, is told so while the put is on its
-- way, and commits: the stage goes out beside the put, both are evaluated, and the commit is told with no record that says so. Then the session
-- finishes it: the explicit commit, the resolve, the removal. This history is a run, and the session in it is alone as the law of plain answers
-- has it.
use Rattle.std.specs.Prelude.{◌≡◌, None, Some, List, [], ◌∷◌, codes, take}
use Rattle.pc_base.specs.declared.actor.ActorId.TheVariants as actors
use Rattle.pc_base.specs.declared.entry.Entry.{Entry}
use Rattle.pc_base.specs.declared.transaction.Priority.TheVariants as priorities
use Rattle.pc_proto.specs.declared.answer.Answer.TheVariants as answers
use Rattle.pc_proto.specs.declared.call.Call.TheVariants as calls
use Rattle.pc_proto.specs.declared.event.Event.{Event}
use Rattle.pc_proto.specs.declared.event.Event.TheVariants as events
use Rattle.pc_proto.specs.declared.fate.Fate.TheVariants as fates
use Rattle.pc_proto.specs.declared.reply.Reply.TheVariants as replies
use Rattle.pc_proto.specs.declared.request.Request.TheVariants as requests
use Rattle.pc_proto.specs.declared.view.View.TheVariants as views
use Rattle.pc_serial.specs.Alone.{IsAlone}
use Rattle.pc_serial.specs.FirstRow.{by_range, by_session, first_head, first_meta, first_ts, first_txn}
use Rattle.pc_serial.specs.Plain.{RunsPlainly}
use Rattle.pc_world.specs.Committed.{IsCommitted, commit_ts}
use Rattle.pc_world.specs.Run.{IsRun}

-- The journal's entries.
abbrev pub staged_history : List (Entry Event)
staged_history =
    by_session 0 (events.Ask (calls.Begin priorities.Normal) 10)
    ∷ by_session 1 (events.Tell (answers.Begun first_txn first_ts))
    ∷ by_session 2 (events.Ask (calls.Put (codes "a") (codes "x")) 11)
    ∷ by_session 3 (events.Send 1 0 (requests.Put first_meta 1 first_ts (codes "a") (Some (codes "x"))))
    ∷ by_session 4 (events.Tell answers.Written)
    ∷ by_session 5 (events.Ask calls.Commit 12)
    ∷ by_session 6 (events.Send 2 0 (requests.Stage first_meta first_ts 12 ((codes "a", 1) ∷ []) (codes "a" ∷ [])))
    ∷ by_range 7 (events.Eval (actors.Session 1) 1 (replies.Written first_ts))
    ∷ by_range 8 (events.Eval (actors.Session 1) 2 (replies.Status (views.Staging 0 first_ts ((codes "a", 1) ∷ []))))
    ∷ by_session 9 (events.Hear 1 7)
    ∷ by_session 10 (events.Hear 2 8)
    ∷ by_session 11 (events.Tell (answers.Committed first_txn first_ts))
    ∷ by_session 12 (events.Send 3 0 (requests.Commit first_meta first_ts (codes "a" ∷ [])))
    ∷ by_range 13 (events.Eval (actors.Session 1) 3 (replies.Status (views.Committed 0 first_ts (codes "a" ∷ []))))
    ∷ by_session 14 (events.Hear 3 13)
    ∷ by_session 15 (events.Send 4 0 (requests.Resolve first_txn (codes "a") (fates.Committed 0 first_ts)))
    ∷ by_range 16 (events.Eval (actors.Session 1) 4 replies.Resolved)
    ∷ by_session 17 (events.Hear 4 16)
    ∷ by_session 18 (events.Send 5 0 (requests.Remove first_txn (codes "a")))
    ∷ by_range 19 (events.Eval (actors.Session 1) 5 replies.Removed)
    ∷ by_session 20 (events.Hear 5 19)
    ∷ []

-- It is a run of one session alone, which so runs plainly. Its transaction is committed by the stage and the put alone, before the commit is told.
pub record StagedRowRunsPlainly : Type 0 where
  pub run : IsRun first_head staged_history
  pub alone : IsAlone first_head staged_history
  pub plain : RunsPlainly first_head staged_history
  pub not_before : commit_ts first_head (take 8 staged_history) first_txn ≡ None
  pub staged : IsCommitted first_head (take 9 staged_history) first_txn first_ts
