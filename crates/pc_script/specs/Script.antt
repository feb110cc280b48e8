-- Script: a session asks the calls of its script in order, and after a refusal some of them again.
use Rattle.std.specs.Prelude.{◌≡◌, ℕ, zero, suc, ◌+◌, ◌-◌, min, Bool, true, false, Option, None, Some, List, [], ◌∷◌, ◌++◌, drop, fold, length, map, slice_get, ⊤}
use Rattle.std.specs.List.{flat_map}
use Rattle.pc_base.specs.declared.transaction.TxnId.{TxnId}
use Rattle.pc_history.specs.declared.pair.Pair.{Pair}
use Rattle.pc_proto.specs.declared.answer.Answer.{Answer}
use Rattle.pc_proto.specs.declared.answer.Answer.TheVariants as answers
use Rattle.pc_proto.specs.declared.call.Call.{Call}
use Rattle.pc_proto.specs.declared.call.Call.TheVariants as calls
use Rattle.pc_proto.specs.declared.event.Event.{Event}
use Rattle.pc_proto.specs.declared.event.Event.TheVariants as events
use Rattle.pc_script.specs.declared.planned.Planned.{Planned}
use Rattle.pc_script.specs.declared.planned.Planned.TheVariants as plans
use Rattle.pc_script.specs.Planned.{planned_call}
use Rattle.pc_work.specs.declared.item.Item.{Item}
use Rattle.pc_work.specs.declared.item.Item.TheVariants.{Learn, Txn}
use Rattle.pc_work.specs.declared.statement.Statement.{Statement}
use Rattle.pc_work.specs.declared.statement.Statement.TheVariants as statements

-- Where a session is in its script: the items behind the running one, all calls that the running one plans, those of them that are still
-- ahead, what the last get was told, how many reruns each item has, and how many are left to this one.
pub record Position : Type 0 where
  pub items : List Item
  pub calls : List Planned
  pub ahead : List Planned
  pub read : Option (List ℕ)
  pub reruns : ℕ
  pub left : ℕ

-- The calls of a statement; an add has two: a get, and the put of the sum of what that is told and the amount.
abbrev pub statement_calls : Statement → List Planned
statement_calls (statements.Get key) = plans.Ask (calls.Get key) ∷ []
statement_calls (statements.Scan span) = plans.Ask (calls.Scan span) ∷ []
statement_calls (statements.Put key value) = plans.Ask (calls.Put key value) ∷ []
statement_calls (statements.Delete key) = plans.Ask (calls.Delete key) ∷ []
statement_calls (statements.Add key amount) = plans.Ask (calls.Get key) ∷ (plans.PutSum key amount ∷ [])

-- The call that ends a transaction.
abbrev pub end_call : Bool → Call
end_call true = calls.Commit
end_call false = calls.Rollback

-- The calls of an item: a transaction's begin, its statements and its end; or one learn.
abbrev pub calls_of : Item → List Planned
calls_of (Txn priority statements commits) =
    plans.Ask (calls.Begin priority) ∷ (flat_map statement_calls statements ++ plans.Ask (end_call commits) ∷ [])
calls_of (Learn id) = plans.Ask (calls.Learn id) ∷ []

-- At the first call of the first of these items, or at the end where there is none.
abbrev pub opened : List Item → ℕ → Position
opened [] reruns = record { items = []; calls = []; ahead = []; read = None; reruns = reruns; left = reruns }
opened (item ∷ items) reruns =
    record { items = items; calls = calls_of item; ahead = calls_of item; read = None; reruns = reruns; left = reruns }

-- The calls that are ahead.
abbrev pub coming : Position → List Call
coming at = map (planned_call at.read) at.ahead

-- The call that comes next, if one does.
abbrev pub next_call : Position → Option Call
next_call at = slice_get (coming at) 0

-- The transaction of which the call learns, if it learns of one.
abbrev pub learnt_of : Option Call → Option TxnId
learnt_of (Some (calls.Learn id)) = Some id
learnt_of _ = None

-- These calls once more, where a rerun is left; else the transaction is rolled back.
abbrev pub rerun : List Planned → ℕ → Position → Position
rerun again zero at = record at { ahead = plans.Ask calls.Rollback ∷ [] }
rerun again (suc left) at = record at { ahead = again; left = left }

-- After an answer: the next call; the same call or the transaction's statements once more; or the next item.
abbrev pub after_told : Answer → Position → Position
after_told (answers.Begun id ts) at = record at { ahead = drop 1 at.ahead }
after_told (answers.Value value) at = record at { ahead = drop 1 at.ahead; read = value }
after_told (answers.Rows rows) at = record at { ahead = drop 1 at.ahead }
after_told answers.Written at = record at { ahead = drop 1 at.ahead }
after_told (answers.Blocked holder) at = rerun at.ahead at.left at
after_told (answers.Unavailable faults) at = rerun at.ahead at.left at
after_told (answers.Moved ts) at = rerun at.ahead at.left at
after_told (answers.Restart key ts) at = rerun (drop 1 at.calls) at.left at
after_told answers.Learnt at = opened at.items at.reruns
after_told answers.NotYet at = opened at.items at.reruns
after_told (answers.Committed id ts) at = opened at.items at.reruns
after_told (answers.RolledBack id why) at = opened at.items at.reruns
after_told (answers.Aborted why) at = opened at.items at.reruns
after_told (answers.Unknown id) at = opened at.items at.reruns
after_told (answers.Clock reading) at = opened at.items at.reruns
after_told answers.NoTxn at = at
after_told answers.Done at = at

-- An answer moves a session on in its script, and nothing else does.
abbrev pub moved : Event → Position → Position
moved (events.Tell answer) at = after_told answer at
moved _ at = at

-- Where a session of this script is, after its own list.
abbrev pub script_position : ℕ → List Item → List (Pair Event) → Position
script_position reruns script own = fold (λ at p. moved p.entry.event at) (opened script reruns) own

-- A call that is asked is the next one.
abbrev pub AsksNext : Position → Event → Type 0
AsksNext at (events.Ask call reading) = next_call at ≡ Some call
AsksNext at _ = ⊤

-- How many items of a script of so many are over.
abbrev pub items_over : ℕ → Position → ℕ
items_over items at = items - (length at.items + min 1 (length at.calls))
