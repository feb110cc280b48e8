-- A rollback of an open transaction is told that the transaction ended.
use Rattle.std.proofs.Common.{◌≡◌, ℕ, Bool, true, false, ◌&&◌, not, Some, List, Option, None, refl, sym, ap, subst, ◌∙◌, nat_lt}
use Rattle.std.specs.Bool.{MatchBool}
use Rattle.pc_base.specs.declared.actor.ActorId.{ActorId}
use Rattle.pc_base.specs.declared.actor.ActorId.TheVariants as actors
use Rattle.pc_proto.specs.declared.answer.Answer.{Answer}
use Rattle.pc_proto.specs.declared.answer.Answer.TheVariants as answers
use Rattle.pc_proto.specs.declared.call.Call.{Call}
use Rattle.pc_proto.specs.declared.call.Call.TheVariants as calls
use Rattle.pc_session.specs.InCall.{ends_epoch}
use Rattle.pc_world.specs.Known.{Known}
use Rattle.pc_world.specs.Known.Statements.{Statement, is_open_told}
use Rattle.pc_world.specs.MayTell.{IsLearnTold, MayTellIn, MayTellRow, is_begin, is_past_range, needs_txn}
use Rattle.pc_world.specs.Send.Put.{AsksFor}
use Rattle.pc_world.specs.Tell.Data.{IsFirstPut}
use Rattle.pc_world.specs.Tell.Refusal.{MayBlock}
use Rattle.pc_base.specs.declared.limits.TheConstants.{GREATEST_READING}
use Rattle.pc_base.specs.declared.transaction.TxnId.{TxnId}
use Rattle.pc_session.proofs.Lost.{row_by}
use Rattle.pc_world.specs.Tell.Begin.{MayTellBegun}

row_if : (needs past : Bool) (none clock row : Type 0) → needs ≡ false → past ≡ false → MatchBool needs none (MatchBool past clock row) → row
row_if true past none clock row n p is = absurd (let e : true ≡ false = n in cc e)
row_if false true none clock row n p is = absurd (let e : true ≡ false = p in cc e)
row_if false false none clock row n p is = is

and_false : (b : Bool) → (b && false) ≡ false
and_false true = refl
and_false false = refl

learn_apart : (met : Bool) (k : Known) (call : Call) → call ≡ calls.Rollback → IsLearnTold met k call → ⊥
learn_apart met k call rolls is = subst (IsLearnTold met k) rolls is

block_apart : (call : Call) → call ≡ calls.Rollback → MayBlock call → ⊥
block_apart call rolls is = subst MayBlock rolls is

write_apart : (call : Call) (key : List ℕ) (value : Option (List ℕ)) → call ≡ calls.Rollback → AsksFor (Some call) key value → ⊥
write_apart call key None rolls is = let e : Some calls.Rollback ≡ Some (calls.Delete key) = sym (ap Some rolls) ∙ is in cc e
write_apart call key (Some value) rolls is = let e : Some calls.Rollback ≡ Some (calls.Put key value) = sym (ap Some rolls) ∙ is in cc e

by_row : (splits : List (List ℕ)) (actor : ActorId) (k : Known) (s : Statement) (answer : Answer) → s.call ≡ calls.Rollback → MayTellRow splits actor k s answer → ends_epoch answer ≡ true
by_row splits actor k s (answers.Begun id ts) rolls row = absurd (let e : calls.Rollback ≡ calls.Begin row.priority = sym rolls ∙ row.asked in cc e)
by_row splits actor k s (answers.Value value) rolls row = absurd (let e : calls.Rollback ≡ calls.Get row.key = sym rolls ∙ row.asked in cc e)
by_row splits actor k s (answers.Rows rows) rolls row = absurd (let e : calls.Rollback ≡ calls.Scan row.span = sym rolls ∙ row.asked in cc e)
by_row splits actor k s answers.Written rolls row = absurd (let first : IsFirstPut k s row.t row.sent.1 = row.sent.4 in write_apart s.call first.key first.value rolls first.asked)
by_row splits actor k s (answers.Committed id ts) rolls row = refl
by_row splits actor k s (answers.RolledBack id why) rolls row = refl
by_row splits actor k s answers.Learnt rolls row = absurd (learn_apart true k s.call rolls row)
by_row splits actor k s answers.NotYet rolls row = absurd (learn_apart false k s.call rolls row)
by_row splits actor k s answers.Done rolls row = absurd (let e : calls.Rollback ≡ calls.Round = sym rolls ∙ row in cc e)
by_row splits actor k s (answers.Blocked holder) rolls row = absurd (block_apart s.call rolls row.asked)
by_row splits actor k s (answers.Unavailable faults) rolls row = absurd (row.no_rollback rolls)
by_row splits actor k s (answers.Aborted why) rolls row = refl
by_row splits actor k s (answers.Restart key ts) rolls row = refl
by_row splits actor k s (answers.Unknown id) rolls row = refl
by_row splits actor k s (answers.Moved ts) rolls row = absurd (let e : calls.Rollback ≡ calls.Commit = sym rolls ∙ row.asked in cc e)
by_row splits actor k s (answers.Clock reading) rolls row = absurd row
by_row splits actor k s answers.NoTxn rolls row = absurd row

pub rollback_ends : (splits : List (List ℕ)) (actor : ActorId) (k : Known) (s : Statement) (answer : Answer) → s.call ≡ calls.Rollback → k.is_open ≡ true → MayTellIn splits actor k s answer → ends_epoch answer ≡ true
rollback_ends splits actor k s answer rolls opened told =
    by_row splits actor k s answer rolls
    (row_if (needs_txn s.call && not k.is_open) (is_past_range s) (answer ≡ answers.NoTxn) (answer ≡ answers.Clock s.reading) (MayTellRow splits actor k s answer) (ap (λ b. needs_txn s.call && not b) opened ∙ and_false (needs_txn s.call)) (past rolls) told)
  where
    past : s.call ≡ calls.Rollback → is_past_range s ≡ false
    past rolls = ap (λ (call : Call). is_begin call && nat_lt GREATEST_READING s.reading) rolls

-- no begin is told then
pub begun_apart : (splits : List (List ℕ)) (session : ℕ) (k : Known) (s : Statement) (id : TxnId) (ts : ℕ) → s.call ≡ calls.Rollback → MayTellIn splits (actors.Session session) k s (answers.Begun id ts) → ⊥
begun_apart splits session k s id ts rolls told =
    let row : MayTellBegun (actors.Session session) k s id ts =
    row_by _ _ (answers.Begun id ts ≡ answers.NoTxn) (answers.Begun id ts ≡ answers.Clock s.reading) (MayTellBegun (actors.Session session) k s id ts) (λ e. absurd cc) (λ e. absurd cc) told in
    let e : calls.Rollback ≡ calls.Begin row.priority = sym rolls ∙ row.asked in
    cc e

-- where the answer neither ends nor begins a transaction, what is open then was open
pub was_open : (answer : Answer) (b : Bool) → ends_epoch answer ≡ false → ((id : TxnId) (ts : ℕ) → answer ≡ answers.Begun id ts → ⊥) → is_open_told answer b ≡ true → b ≡ true
was_open (answers.Begun id ts) b goes_on none is = absurd (none id ts refl)
was_open (answers.Committed id ts) b goes_on none is = absurd cc
was_open (answers.RolledBack id why) b goes_on none is = absurd cc
was_open (answers.Aborted why) b goes_on none is = absurd cc
was_open (answers.Unknown id) b goes_on none is = absurd cc
was_open answer b goes_on none is = is

-- nor that a put was written
pub never_written : (splits : List (List ℕ)) (actor : ActorId) (k : Known) (s : Statement) → s.call ≡ calls.Rollback → MayTellIn splits actor k s answers.Written → ⊥
never_written splits actor k s rolls told =
    let row : MayTellRow splits actor k s answers.Written =
    row_by _ _ (answers.Written ≡ answers.NoTxn) (answers.Written ≡ answers.Clock s.reading) (MayTellRow splits actor k s answers.Written) (λ e. absurd cc) (λ e. absurd cc) told in
    let first : IsFirstPut k s row.t row.sent.1 = row.sent.4 in
    write_apart s.call first.key first.value rolls first.asked
