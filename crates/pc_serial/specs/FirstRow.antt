-- The history of the smallest workload: one session begins, puts `x` under `a` and commits, on one range. Its journal is the first twelve
-- entries of examples/first-commit.expected. It is computed here that its transaction is committed by the evaluation of the commit.
use Rattle.std.specs.Prelude.{◌≡◌, ℕ, ◌*◌, ◌^◌, None, Some, List, [], ◌∷◌, codes, fold, map, take}
use Rattle.pc_base.specs.declared.actor.ActorId.TheVariants as actors
use Rattle.pc_base.specs.declared.entry.Entry.{Entry}
use Rattle.pc_base.specs.declared.transaction.Priority.TheVariants as priorities
use Rattle.pc_base.specs.declared.transaction.TxnId.{TxnId}
use Rattle.pc_proto.specs.declared.answer.Answer.TheVariants as answers
use Rattle.pc_proto.specs.declared.call.Call.TheVariants as calls
use Rattle.pc_proto.specs.declared.event.Event.{Event}
use Rattle.pc_proto.specs.declared.event.Event.TheVariants as events
use Rattle.pc_proto.specs.declared.meta.TxnMeta.{TxnMeta}
use Rattle.pc_proto.specs.declared.reply.Reply.TheVariants as replies
use Rattle.pc_proto.specs.declared.request.Request.TheVariants as requests
use Rattle.pc_proto.specs.declared.view.View.TheVariants as views
use Rattle.pc_world.specs.CommitOrder.{commit_order}
use Rattle.pc_world.specs.Committed.{IsCommitted, commit_point, commit_ts}
use Rattle.pc_world.specs.Legal.{committed_in_order}
use Rattle.pc_world.specs.Local.{Head}
use Rattle.pc_world.specs.MapRun.{map_after}
use Rattle.pc_world.specs.Operations.{Write, operations_of}

-- One range, one session, no recoverer.
abbrev pub first_head : Head
first_head = record { splits = []; sessions = 1; recoverers = 0 }

-- The session's first transaction.
abbrev pub first_txn : TxnId
first_txn = record { session = 1; number = 1 }

-- Where it begins: 10 nanoseconds.
abbrev pub first_ts : ℕ
first_ts = 10 * 2 ^ 32

-- What the transaction tells of itself.
abbrev pub first_meta : TxnMeta
first_meta = record { id = first_txn; epoch = 0; priority = priorities.Normal; born = 10; anchor = codes "a" }

-- An entry of the session.
abbrev pub by_session : ℕ → Event → Entry Event
by_session step event = record { step = step; actor = actors.Session 1; event = event }

-- An evaluation of a message of the session.
abbrev pub by_range : ℕ → Event → Entry Event
by_range step event = record { step = step; actor = actors.Range 0; event = event }

-- The journal's entries.
abbrev pub first_history : List (Entry Event)
first_history =
    by_session 0 (events.Ask (calls.Begin priorities.Normal) 10)
    ∷ by_session 1 (events.Tell (answers.Begun first_txn first_ts))
    ∷ by_session 2 (events.Ask (calls.Put (codes "a") (codes "x")) 11)
    ∷ by_session 3 (events.Send 1 0 (requests.Put first_meta 1 first_ts (codes "a") (Some (codes "x"))))
    ∷ by_range 4 (events.Eval (actors.Session 1) 1 (replies.Written first_ts))
    ∷ by_session 5 (events.Hear 1 4)
    ∷ by_session 6 (events.Tell answers.Written)
    ∷ by_session 7 (events.Ask calls.Commit 12)
    ∷ by_session 8 (events.Send 2 0 (requests.Commit first_meta first_ts (codes "a" ∷ [])))
    ∷ by_range 9 (events.Eval (actors.Session 1) 2 (replies.Status (views.Committed 0 first_ts (codes "a" ∷ []))))
    ∷ by_session 10 (events.Hear 2 9)
    ∷ by_session 11 (events.Tell (answers.Committed first_txn first_ts))
    ∷ []

-- The transaction is committed by the entry at step 9, with its one write, and leaves `a` = `x`.
pub record FirstRowIsOneCommit : Type 0 where
  pub not_before : commit_ts first_head (take 9 first_history) first_txn ≡ None
  pub committed : IsCommitted first_head (take 10 first_history) first_txn first_ts
  pub stays : IsCommitted first_head first_history first_txn first_ts
  pub point : commit_point first_head first_history first_txn ≡ 10
  pub operations : operations_of first_history first_txn ≡ Write (codes "a") 1 (Some (codes "x")) ∷ []
  pub order : commit_order first_head first_history ≡ (record { ts = first_ts; point = 10 }, first_txn) ∷ []
  pub leaves :
      fold (fold map_after) [] (map (operations_of first_history) (committed_in_order first_head first_history))
      ≡ (codes "a", codes "x") ∷ []
