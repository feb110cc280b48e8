-- A session's script goes on with its open transaction after each answer.
use Rattle.std.proofs.Common.{◌≡◌, ℕ, Bool, true, false, ◌&&◌, not, All, List, drop, [], map, Option, Some, None, IfSome, refl, sym, ap, subst, ◌∙◌}
use Rattle.std.specs.Bool.{MatchBool}
use Rattle.pc_base.specs.declared.actor.ActorId.{ActorId}
use Rattle.pc_call.specs.Suiting.{SuitsFlightNext}
use Rattle.pc_coord.specs.Knows.{IsHeld}
use Rattle.pc_coord.specs.Suiting.{Suits, SuitsNext}
use Rattle.pc_proto.specs.declared.answer.Answer.{Answer}
use Rattle.pc_proto.specs.declared.answer.Answer.TheVariants as answers
use Rattle.pc_proto.specs.declared.call.Call.{Call}
use Rattle.pc_proto.specs.declared.call.Call.TheVariants as calls
use Rattle.pc_flight.specs.declared.write.WriteInFlight.{WriteInFlight}
use Rattle.pc_txn.specs.declared.txn.OpenTxn.{OpenTxn}
use Rattle.pc_world.specs.Known.{Known}
use Rattle.pc_world.specs.Known.Statements.{Statement, is_open_told}
use Rattle.pc_world.specs.Local.{is_outside, is_round}
use Rattle.pc_world.specs.MayTell.{IsLearnTold, MayTellIn, MayTellRow, is_begin, is_past_range, needs_txn}
use Rattle.pc_world.specs.Send.Put.{AsksFor}
use Rattle.pc_world.specs.Tell.Begin.{MayTellBegun}
use Rattle.pc_world.specs.Tell.Data.{MayTellRows, MayTellValue, MayTellWritten}
use Rattle.pc_script.proofs.Fitting.{IsFree, after_begin, again_fits, behind, drop_planned, first_of, free_fits, opened_fits, planned_calls, reread, rerun_fits}
use Rattle.pc_script.specs.Planned.{planned_call}
use Rattle.pc_script.specs.Script.{Position, after_told, coming, next_call, opened}
use Rattle.pc_script.specs.Suiting.{AreOfOne, FitsCalls, FitsTxn, IsCourse, IsPlannedIn}

pub row_by : (needs past : Bool) (none clock row : Type 0) → (none → ⊥) → (clock → ⊥) → MatchBool needs none (MatchBool past clock row) → row
row_by true past none clock row first second is = absurd (first is)
row_by false true none clock row first second is = absurd (second is)
row_by false false none clock row first second is = is

begin_outside : (call : Call) → is_begin call ≡ true → is_outside call ≡ true
begin_outside (calls.Begin priority) e = refl
begin_outside call e = absurd cc

learn_outside : (met : Bool) (k : Known) (call : Call) → IsLearnTold met k call → is_outside call ≡ true
learn_outside met k (calls.Learn id) is = refl
learn_outside met k call is = absurd is

left_true : (a b : Bool) → (a && b) ≡ true → a ≡ true
left_true true b e = refl
left_true false b e = absurd cc

right_true : (a b : Bool) → (a && b) ≡ true → b ≡ true
right_true true b e = e
right_true false b e = absurd cc

not_true : (a : Bool) → not a ≡ true → a ≡ false
not_true true e = absurd cc
not_true false e = refl

module _ (splits : List (List ℕ)) (actor : ActorId) (k : Known) (s : Statement) where
  abbrev needs : Bool
  needs = needs_txn s.call && not k.is_open

  clock_begins : (reading : ℕ) → MayTellIn splits actor k s (answers.Clock reading) → is_outside s.call ≡ true
  clock_begins reading is = by needs (is_past_range s) refl is
    where
      by : (needs past : Bool) → is_past_range s ≡ past
          → MatchBool needs (answers.Clock reading ≡ answers.NoTxn) (MatchBool past (answers.Clock reading ≡ answers.Clock s.reading) (MayTellRow splits actor k s (answers.Clock reading))) → is_outside s.call ≡ true
      by true past e is = absurd cc
      by false true e is = begin_outside s.call (left_true (is_begin s.call) _ e)
      by false false e is = absurd is

  none_open : MayTellIn splits actor k s answers.NoTxn → k.is_open ≡ false
  none_open is = by needs (is_past_range s) refl is
    where
      by : (needed past : Bool) → needs ≡ needed
          → MatchBool needed (answers.NoTxn ≡ answers.NoTxn) (MatchBool past (answers.NoTxn ≡ answers.Clock s.reading) (MayTellRow splits actor k s answers.NoTxn)) → k.is_open ≡ false
      by true past e is = not_true k.is_open (right_true (needs_txn s.call) (not k.is_open) e)
      by false true e is = absurd cc
      by false false e is = absurd is

-- The open call, and what becomes of the transaction by its answer, where writes are pipelined, or not.
pub record IsAnsweredCall (pipelining : Bool) (at : Position) (k : Known) (call : Call) (answer : Answer) (txn : Option OpenTxn) : Type 0 where
  pub course : IsCourse (coming at)
  pub calls : All IsPlannedIn (drop 1 at.calls)
  pub next : next_call at ≡ Some call
  pub outside : is_outside call ≡ true → k.is_open ≡ false
  pub suits : SuitsNext pipelining answer call txn
  pub closed : is_open_told answer k.is_open ≡ false → txn ≡ None

module _ (pipelining : Bool) (at : Position) (txn : Option OpenTxn) where
  -- the next item, where no transaction is open
  next_item : txn ≡ None → FitsCalls pipelining (opened at.items at.reruns) txn
  next_item none = subst (FitsCalls pipelining (opened at.items at.reruns)) (sym none) (opened_fits pipelining at.items at.reruns)

  -- behind a call of a transaction that was begun, whatever it read
  on_behind : (read : Option (List ℕ)) (call : Call) → IsCourse (coming at) → next_call at ≡ Some call → is_outside call ≡ false → IfSome txn (IsFree pipelining) → FitsTxn pipelining (map (planned_call read) (drop 1 at.ahead)) txn
  on_behind read call course next out free =
      let inside : AreOfOne (coming at) = (first_of (coming at) call course next).inside out in
      subst (λ ahead. FitsTxn pipelining ahead txn) (sym (drop_planned read at.ahead))
      (behind pipelining (map (planned_call read) at.ahead) txn (reread at.read read at.ahead inside) free)

  -- behind a call that read nothing
  on_next : (call : Call) → IsCourse (coming at) → next_call at ≡ Some call → is_outside call ≡ false → IfSome txn (IsFree pipelining) → FitsTxn pipelining (map (planned_call at.read) (drop 1 at.ahead)) txn
  on_next call = on_behind at.read call

  written_by : (call : Call) (key : List ℕ) (value : Option (List ℕ)) → AsksFor (Some call) key value → IsCourse (coming at) → next_call at ≡ Some call → IfSome txn (IsFree pipelining) → FitsTxn pipelining (map (planned_call at.read) (drop 1 at.ahead)) txn
  written_by call key None asks course next free = let same : call ≡ calls.Delete key = cc in on_next call course next (ap is_outside same) free
  written_by call key (Some value) asks course next free = let same : call ≡ calls.Put key value = cc in on_next call course next (ap is_outside same) free

  -- the same call once more
  once_more : (k : Known) (call : Call) → IsCourse (coming at) → next_call at ≡ Some call → (is_outside call ≡ true → k.is_open ≡ false) → Suits pipelining call txn → (k.is_open ≡ false → txn ≡ None) → FitsTxn pipelining (coming at) txn
  once_more k call course next outside suits closed = again_fits pipelining (coming at) call txn course next suits (λ out. closed (outside out))

-- after an answer that leaves no write in flight, where writes are not pipelined
free_next : (pipelining : Bool) (answer : Answer) (call : Call) (txn : Option OpenTxn) → ((ws : List WriteInFlight) → SuitsFlightNext answer call ws → ws ≡ []) → SuitsNext pipelining answer call txn → IfSome txn (IsFree pipelining)
free_next pipelining answer call None none suits = tt
free_next true answer call (Some x) none suits = tt
free_next false answer call (Some x) none suits = none x.in_flight suits

-- after a refusal
again_next : (pipelining : Bool) (answer : Answer) (call : Call) (txn : Option OpenTxn) → ((x : OpenTxn) → SuitsFlightNext answer call x.in_flight → Suits false call (Some x)) → SuitsNext pipelining answer call txn → Suits pipelining call txn
again_next pipelining answer call None same suits = tt
again_next true answer call (Some x) same suits = tt
again_next false answer call (Some x) same suits = same x suits

-- after each answer the script goes on with what is open
pub told_fits : (pipelining : Bool) (answer : Answer) (at : Position) (txn : Option OpenTxn) (splits : List (List ℕ)) (actor : ActorId) (k : Known) (s : Statement) → IsAnsweredCall pipelining at k s.call answer txn → MayTellIn splits actor k s answer
    → FitsCalls pipelining (after_told answer at) txn
told_fits pipelining (answers.Begun id ts) at txn splits actor k s a may =
    let row : MayTellBegun actor k s id ts = row_by _ _ (answers.Begun id ts ≡ answers.NoTxn) (answers.Begun id ts ≡ answers.Clock s.reading) (MayTellBegun actor k s id ts) (λ e. absurd cc) (λ e. absurd cc) may in
    record { calls = a.calls; now = subst (λ ahead. FitsTxn pipelining ahead txn) (sym (drop_planned at.read at.ahead)) (after_begin pipelining (coming at) s.call row.priority txn a.course a.next row.asked (free_next pipelining (answers.Begun id ts) s.call txn (λ ws none. none) a.suits)) }
told_fits pipelining (answers.Value value) at txn splits actor k s a may =
    let row : MayTellValue k s value = row_by _ _ (answers.Value value ≡ answers.NoTxn) (answers.Value value ≡ answers.Clock s.reading) (MayTellValue k s value) (λ e. absurd cc) (λ e. absurd cc) may in
    record { calls = a.calls; now = on_behind pipelining at txn value s.call a.course a.next (ap is_outside row.asked) (free_next pipelining (answers.Value value) s.call txn (λ ws none. none) a.suits) }
told_fits pipelining (answers.Rows rows) at txn splits actor k s a may =
    let row : MayTellRows splits k s rows = row_by _ _ (answers.Rows rows ≡ answers.NoTxn) (answers.Rows rows ≡ answers.Clock s.reading) (MayTellRows splits k s rows) (λ e. absurd cc) (λ e. absurd cc) may in
    record { calls = a.calls; now = on_next pipelining at txn s.call a.course a.next (ap is_outside row.asked) (free_next pipelining (answers.Rows rows) s.call txn (λ ws none. none) a.suits) }
told_fits pipelining answers.Written at txn splits actor k s a may =
    let row : MayTellWritten k s = row_by _ _ (answers.Written ≡ answers.NoTxn) (answers.Written ≡ answers.Clock s.reading) (MayTellWritten k s) (λ e. absurd cc) (λ e. absurd cc) may in
    let first = row.sent.4 in
    record { calls = a.calls; now = written_by pipelining at txn s.call first.key first.value first.asked a.course a.next (free_next pipelining answers.Written s.call txn (λ ws none. none) a.suits) }
told_fits pipelining (answers.Blocked holder) at txn splits actor k s a may =
    rerun_fits pipelining at.ahead at.left at txn a.calls (once_more pipelining at txn k s.call a.course a.next a.outside (again_next pipelining (answers.Blocked holder) s.call txn (λ x suits. suits) a.suits) a.closed)
told_fits pipelining (answers.Unavailable faults) at txn splits actor k s a may =
    rerun_fits pipelining at.ahead at.left at txn a.calls (once_more pipelining at txn k s.call a.course a.next a.outside (again_next pipelining (answers.Unavailable faults) s.call txn (λ x suits. suits) a.suits) a.closed)
told_fits pipelining (answers.Moved ts) at txn splits actor k s a may =
    rerun_fits pipelining at.ahead at.left at txn a.calls (once_more pipelining at txn k s.call a.course a.next a.outside (again_next pipelining (answers.Moved ts) s.call txn (λ x suits. suits) a.suits) a.closed)
told_fits pipelining (answers.Restart key ts) at txn splits actor k s a may =
    rerun_fits pipelining (drop 1 at.calls) at.left at txn a.calls (free_fits pipelining (map (planned_call at.read) (drop 1 at.calls)) txn (planned_calls at.read (drop 1 at.calls) a.calls) (free_next pipelining (answers.Restart key ts) s.call txn (λ ws none. none) a.suits))
told_fits pipelining answers.Learnt at txn splits actor k s a may =
    let row : IsLearnTold true k s.call = row_by _ _ (answers.Learnt ≡ answers.NoTxn) (answers.Learnt ≡ answers.Clock s.reading) (IsLearnTold true k s.call) (λ e. absurd cc) (λ e. absurd cc) may in
    next_item pipelining at txn (a.closed (a.outside (learn_outside true k s.call row)))
told_fits pipelining answers.NotYet at txn splits actor k s a may =
    let row : IsLearnTold false k s.call = row_by _ _ (answers.NotYet ≡ answers.NoTxn) (answers.NotYet ≡ answers.Clock s.reading) (IsLearnTold false k s.call) (λ e. absurd cc) (λ e. absurd cc) may in
    next_item pipelining at txn (a.closed (a.outside (learn_outside false k s.call row)))
told_fits pipelining (answers.Committed id ts) at txn splits actor k s a may = next_item pipelining at txn (a.closed refl)
told_fits pipelining (answers.RolledBack id why) at txn splits actor k s a may = next_item pipelining at txn (a.closed refl)
told_fits pipelining (answers.Aborted why) at txn splits actor k s a may = next_item pipelining at txn (a.closed refl)
told_fits pipelining (answers.Unknown id) at txn splits actor k s a may = next_item pipelining at txn (a.closed refl)
told_fits pipelining (answers.Clock reading) at txn splits actor k s a may = next_item pipelining at txn (a.closed (a.outside (clock_begins splits actor k s reading may)))
told_fits pipelining answers.NoTxn at txn splits actor k s a may =
    record { calls = a.calls; now = subst (FitsTxn pipelining (coming at)) (sym (a.closed (none_open splits actor k s may))) a.course }
told_fits pipelining answers.Done at txn splits actor k s a may =
    let row : s.call ≡ calls.Round = row_by _ _ (answers.Done ≡ answers.NoTxn) (answers.Done ≡ answers.Clock s.reading) (s.call ≡ calls.Round) (λ e. absurd cc) (λ e. absurd cc) may in
    let e : true ≡ false = sym (ap is_round row) ∙ (first_of (coming at) s.call a.course a.next).round in
    absurd cc

-- where no transaction is open after an answer, the coordinator holds none
pub held_none : (txn : Option OpenTxn) (k : Known) → IsHeld txn k → k.is_open ≡ false → txn ≡ None
held_none None k held none = refl
held_none (Some x) k held none = let e : true ≡ false = sym held.open_in.is_open ∙ none in absurd cc
