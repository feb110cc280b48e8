-- A session's script beside its open transaction: which call comes next suits it, before a call and after its answer.
use Rattle.std.proofs.Common.{◌≡◌, ℕ, zero, suc, Bool, true, false, All, List, [], ◌∷◌, ◌++◌, drop, map, slice_get, Option, Some, None, IfSome, refl, sym, ap, subst, ◌∙◌}
use Rattle.std.proofs.lemmas.List.Concat.{flat_map-cons}
use Rattle.std.proofs.lemmas.List.Elements.{All-append, All-cons, All-head, All-nil, All-push, All-tail}
use Rattle.std.specs.List.{flat_map}
use Rattle.std.specs.Prelude.{⊤}
use Rattle.pc_base.specs.declared.transaction.Priority.{Priority}
use Rattle.pc_call.specs.Suiting.{SuitsFlight, SuitsFlightIn}
use Rattle.pc_coord.specs.Knows.{IsHeld}
use Rattle.pc_coord.specs.Suiting.{Suits}
use Rattle.pc_proto.specs.declared.call.Call.{Call}
use Rattle.pc_proto.specs.declared.call.Call.TheVariants as calls
use Rattle.pc_script.specs.declared.planned.Planned.{Planned}
use Rattle.pc_script.specs.declared.planned.Planned.TheVariants as plans
use Rattle.pc_script.specs.Planned.{planned_call}
use Rattle.pc_script.specs.Script.{Position, calls_of, end_call, opened, rerun, statement_calls}
use Rattle.pc_script.specs.Suiting.{AreOfOne, FitsCalls, FitsTxn, IsCallIn, IsCourse, IsPlannedIn}
use Rattle.pc_flight.specs.declared.write.WriteInFlight.{WriteInFlight}
use Rattle.pc_txn.specs.declared.txn.OpenTxn.{OpenTxn}
use Rattle.pc_work.specs.declared.item.Item.{Item}
use Rattle.pc_work.specs.declared.item.Item.TheVariants.{Learn, Txn}
use Rattle.pc_work.specs.declared.statement.Statement.{Statement as Step}
use Rattle.pc_work.specs.declared.statement.Statement.TheVariants as steps
use Rattle.pc_world.specs.Known.{Known}
use Rattle.pc_world.specs.Local.{is_outside, is_round}

-- the calls of an item
end_in : (commits : Bool) → IsPlannedIn (plans.Ask (end_call commits))
end_in true = tt
end_in false = tt

one_planned : (p : Planned) → IsPlannedIn p → All IsPlannedIn (p ∷ [])
one_planned p is = All-cons IsPlannedIn p [] is (All-nil IsPlannedIn)

step_calls : (step : Step) → All IsPlannedIn (statement_calls step)
step_calls (steps.Get key) = one_planned (plans.Ask (calls.Get key)) tt
step_calls (steps.Scan span) = one_planned (plans.Ask (calls.Scan span)) tt
step_calls (steps.Put key value) = one_planned (plans.Ask (calls.Put key value)) tt
step_calls (steps.Delete key) = one_planned (plans.Ask (calls.Delete key)) tt
step_calls (steps.Add key amount) = All-cons IsPlannedIn (plans.Ask (calls.Get key)) (plans.PutSum key amount ∷ []) tt (one_planned (plans.PutSum key amount) tt)

all_calls : (statements : List Step) → All IsPlannedIn (flat_map statement_calls statements)
all_calls [] = All-nil IsPlannedIn
all_calls (step ∷ statements) =
    subst (All IsPlannedIn) (sym (flat_map-cons statement_calls step statements))
    (All-append IsPlannedIn (statement_calls step) (flat_map statement_calls statements) (step_calls step) (all_calls statements))

behind_begin : (item : Item) → All IsPlannedIn (drop 1 (calls_of item))
behind_begin (Learn id) = All-nil IsPlannedIn
behind_begin (Txn priority statements commits) = All-push IsPlannedIn (flat_map statement_calls statements) (plans.Ask (end_call commits)) (all_calls statements) (end_in commits)

-- whatever was read, planned calls of one transaction come to such calls
planned_in : (read : Option (List ℕ)) (p : Planned) → IsPlannedIn p → IsCallIn (planned_call read p)
planned_in read (plans.Ask call) is = is
planned_in read (plans.PutSum key amount) is = tt

was_planned : (read : Option (List ℕ)) (p : Planned) → IsCallIn (planned_call read p) → IsPlannedIn p
was_planned read (plans.Ask call) is = is
was_planned read (plans.PutSum key amount) is = tt

pub planned_calls : (read : Option (List ℕ)) (ps : List Planned) → All IsPlannedIn ps → AreOfOne (map (planned_call read) ps)
planned_calls read [] each = All-nil IsCallIn
planned_calls read (p ∷ ps) each =
    All-cons IsCallIn (planned_call read p) (map (planned_call read) ps) (planned_in read p (All-head IsPlannedIn p ps each)) (planned_calls read ps (All-tail IsPlannedIn p ps each))

were_planned : (read : Option (List ℕ)) (ps : List Planned) → AreOfOne (map (planned_call read) ps) → All IsPlannedIn ps
were_planned read [] each = All-nil IsPlannedIn
were_planned read (p ∷ ps) each =
    All-cons IsPlannedIn p ps (was_planned read p (All-head IsCallIn (planned_call read p) (map (planned_call read) ps) each)) (were_planned read ps (All-tail IsCallIn (planned_call read p) (map (planned_call read) ps) each))

-- something else was read since
pub reread : (one other : Option (List ℕ)) (ps : List Planned) → AreOfOne (map (planned_call one) ps) → AreOfOne (map (planned_call other) ps)
reread one other ps each = planned_calls other ps (were_planned one ps each)

-- the calls behind the first one
pub drop_planned : (read : Option (List ℕ)) (ps : List Planned) → map (planned_call read) (drop 1 ps) ≡ drop 1 (map (planned_call read) ps)
drop_planned read [] = refl
drop_planned read (p ∷ ps) = refl

course_of : (item : Item) → IsCourse (map (planned_call None) (calls_of item))
course_of (Learn id) = refl
course_of (Txn priority statements commits) = planned_calls None (flat_map statement_calls statements ++ plans.Ask (end_call commits) ∷ []) (behind_begin (Txn priority statements commits))

-- at the first call of the next item no transaction is open
pub opened_fits : (pipelining : Bool) (items : List Item) (reruns : ℕ) → FitsCalls pipelining (opened items reruns) None
opened_fits pipelining [] reruns = record { calls = All-nil IsPlannedIn; now = All-nil IsCallIn }
opened_fits pipelining (item ∷ items) reruns = record { calls = behind_begin item; now = course_of item }

-- a call of a transaction that was begun
not_round : (call : Call) → IsCallIn call → is_round call ≡ false
not_round calls.Round is = absurd is
not_round call is = refl

pub not_outside : (call : Call) → IsCallIn call → is_outside call ≡ false
not_outside (calls.Begin priority) is = absurd is
not_outside (calls.Learn id) is = absurd is
not_outside call is = refl

no_begin : (ahead : List Call) → AreOfOne ahead → IsCourse ahead
no_begin [] one = one
no_begin (calls.Begin priority ∷ later) one = let is : IsCallIn (calls.Begin priority) = All-head IsCallIn (calls.Begin priority) later one in absurd is
no_begin (calls.Learn id ∷ later) one = let is : IsCallIn (calls.Learn id) = All-head IsCallIn (calls.Learn id) later one in absurd is
no_begin (call ∷ later) one = one

-- The call that comes first: a begin or a learn, or one of a transaction that was begun.
pub record IsFirstOf (ahead : List Call) (call : Call) : Type 0 where
  pub round : is_round call ≡ false
  pub inside : is_outside call ≡ false → AreOfOne ahead

pub first_of : (ahead : List Call) (call : Call) → IsCourse ahead → slice_get ahead 0 ≡ Some call → IsFirstOf ahead call
first_of [] call course next = absurd cc
first_of (calls.Begin priority ∷ later) call course next =
    let same : calls.Begin priority ≡ call = cc in
    record { round = sym (ap is_round same); inside = λ e. let t : true ≡ false = ap is_outside same ∙ e in absurd cc }
first_of (calls.Learn id ∷ later) call course next =
    let same : calls.Learn id ≡ call = cc in
    record { round = sym (ap is_round same); inside = λ e. let t : true ≡ false = ap is_outside same ∙ e in absurd cc }
first_of (first ∷ later) call course next =
    let same : first ≡ call = cc in
    record { round = sym (ap is_round same) ∙ not_round first (All-head IsCallIn first later course); inside = λ e. course }

-- whatever is open, the calls ahead are a course
pub fits_course : (pipelining : Bool) (ahead : List Call) (txn : Option OpenTxn) → FitsTxn pipelining ahead txn → IsCourse ahead
fits_course pipelining ahead None fits = fits
fits_course pipelining ahead (Some x) fits = no_begin ahead fits.inside

pub fits_suits : (pipelining : Bool) (ahead : List Call) (txn : Option OpenTxn) (call : Call) → FitsTxn pipelining ahead txn → slice_get ahead 0 ≡ Some call → Suits pipelining call txn
fits_suits pipelining ahead None call fits next = tt
fits_suits pipelining ahead (Some x) call fits next = fits.first call next

one_outside : (ahead : List Call) (call : Call) → AreOfOne ahead → slice_get ahead 0 ≡ Some call → is_outside call ≡ false
one_outside [] call one next = absurd cc
one_outside (first ∷ later) call one next =
    let same : first ≡ call = cc in
    sym (ap is_outside same) ∙ not_outside first (All-head IsCallIn first later one)

-- a begin or a learn is next only where no transaction is open
pub fits_outside : (pipelining : Bool) (ahead : List Call) (txn : Option OpenTxn) (k : Known) (call : Call) → FitsTxn pipelining ahead txn → IsHeld txn k → slice_get ahead 0 ≡ Some call → is_outside call ≡ true → k.is_open ≡ false
fits_outside pipelining ahead None k call fits held next out = held
fits_outside pipelining ahead (Some x) k call fits held next out = let e : true ≡ false = sym out ∙ one_outside ahead call fits.inside next in absurd cc

-- Any call suits the transaction: writes are pipelined, or none of it is in flight.
abbrev pub IsFree : Bool → OpenTxn → Type 0
IsFree true x = ⊤
IsFree false x = x.in_flight ≡ []

free_suits : (pipelining : Bool) (call : Call) (x : OpenTxn) → IsFree pipelining x → SuitsFlightIn pipelining call x.in_flight
free_suits true call x free = tt
free_suits false call x free = subst (SuitsFlight call) (sym free) tt

-- a transaction that any call suits goes on by any calls of one that was begun
pub free_fits : (pipelining : Bool) (ahead : List Call) (txn : Option OpenTxn) → AreOfOne ahead → IfSome txn (IsFree pipelining) → FitsTxn pipelining ahead txn
free_fits pipelining ahead None one free = no_begin ahead one
free_fits pipelining ahead (Some x) one free = record { inside = one; first = λ call next. free_suits pipelining call x free }

-- goes on behind the first call
pub after_begin : (pipelining : Bool) (ahead : List Call) (call : Call) (priority : Priority) (txn : Option OpenTxn) → IsCourse ahead → slice_get ahead 0 ≡ Some call → call ≡ calls.Begin priority → IfSome txn (IsFree pipelining)
    → FitsTxn pipelining (drop 1 ahead) txn
after_begin pipelining [] call priority txn course next begins free = absurd cc
after_begin pipelining (calls.Begin own ∷ later) call priority txn course next begins free = free_fits pipelining later txn course free
after_begin pipelining (first ∷ later) call priority txn course next begins free = absurd cc

-- behind the first of the calls
pub behind : (pipelining : Bool) (ahead : List Call) (txn : Option OpenTxn) → AreOfOne ahead → IfSome txn (IsFree pipelining) → FitsTxn pipelining (drop 1 ahead) txn
behind pipelining [] txn one free = free_fits pipelining [] txn one free
behind pipelining (first ∷ later) txn one free = free_fits pipelining later txn (All-tail IsCallIn first later one) free

rollback_suits : (pipelining : Bool) (ws : List WriteInFlight) → SuitsFlightIn pipelining calls.Rollback ws
rollback_suits true ws = tt
rollback_suits false [] = tt
rollback_suits false (w ∷ ws) = tt

-- the rollback alone
rollback_fits : (pipelining : Bool) (txn : Option OpenTxn) → FitsTxn pipelining (calls.Rollback ∷ []) txn
rollback_fits pipelining None = All-cons IsCallIn calls.Rollback [] tt (All-nil IsCallIn)
rollback_fits pipelining (Some x) = record {
  inside = All-cons IsCallIn calls.Rollback [] tt (All-nil IsCallIn);
  first = λ call next. let same : calls.Rollback ≡ call = cc in subst (λ c. SuitsFlightIn pipelining c x.in_flight) same (rollback_suits pipelining x.in_flight);
}

-- calls once more, where a rerun is left
pub rerun_fits : (pipelining : Bool) (again : List Planned) (left : ℕ) (at : Position) (txn : Option OpenTxn) → All IsPlannedIn (drop 1 at.calls) → FitsTxn pipelining (map (planned_call at.read) again) txn
    → FitsCalls pipelining (rerun again left at) txn
rerun_fits pipelining again zero at txn calls fits = record { calls = calls; now = rollback_fits pipelining txn }
rerun_fits pipelining again (suc left) at txn calls fits = record { calls = calls; now = fits }

-- the call once more
pub again_fits : (pipelining : Bool) (ahead : List Call) (call : Call) (txn : Option OpenTxn) → IsCourse ahead → slice_get ahead 0 ≡ Some call → Suits pipelining call txn → (is_outside call ≡ true → txn ≡ None) → FitsTxn pipelining ahead txn
again_fits pipelining ahead call None course next suits outside = course
again_fits pipelining ahead call (Some x) course next suits outside =
    let first = first_of ahead call course next in
    by (is_outside call) refl first
  where
    by : (b : Bool) → is_outside call ≡ b → IsFirstOf ahead call → FitsTxn pipelining ahead (Some x)
    by true e first = let n : Some x ≡ None = outside e in absurd cc
    by false e first = record { inside = first.inside e; first = λ other comes. let same : call ≡ other = let s : Some call ≡ Some other = sym next ∙ comes in cc in subst (λ c. SuitsFlightIn pipelining c x.in_flight) same suits }
