-- A session of those that go in turns acts: once, or by itself until it is done.
use Rattle.std.proofs.Common.{◌≡◌, ◌⊎◌, inl, inr, ℕ, ◌+◌, ◌<◌, Bool, true, false, List, length, get_or, slice_get, slice_set, Option, Some, None, IfNone, Result, Ok, Err, IfOk, is_some, refl, sym, ap, subst, ◌∙◌, arith}
use Rattle.std.proofs.lemmas.Option.{slice_get_within}
use Rattle.pc_base.specs.declared.transaction.TxnId.{TxnId}
use Rattle.pc_desk.specs.Commits.{WasTold}
use Rattle.pc_history.specs.declared.pair.Pair.{Pair}
use Rattle.pc_in_turns.proofs.Learning.{asks_quiet, finishes_quiet, learn_learns, learns_nothing, learns_then, quiet_learns}
use Rattle.pc_in_turns.proofs.Places.{get_read, get_set_same, get_some, same_some, set_again, set_as_was}
use Rattle.pc_in_turns.proofs.Runners.{in_turns_set, runner_moved}
use Rattle.pc_in_turns.specs.declared.task.Task.{Task}
use Rattle.pc_in_turns.specs.Learning.{OwnerWasUntold, LearnsBehind}
use Rattle.pc_in_turns.specs.Moving.{AreClientsInTurns, HasActed, IsAt, TurnsMeaning}
use Rattle.pc_in_turns.specs.Task.{DoesTask, EndsWithTask}
use Rattle.pc_proto.specs.declared.event.Event.{Event}
use Rattle.pc_scripted.proofs.Going.{HasGoneSoFar, gone_all, gone_nothing, gone_on, told_of_old}
use Rattle.pc_scripted.specs.Learning.{LearnsInTurn, learnt_ahead}
use Rattle.pc_scripted.specs.Scripted.{IsScripted, ScriptedMeaning, own_list, own_number}
use Rattle.pc_scripted.specs.Taking.{AsksInTurn, FinishesInTurn, GoesUntil, HasMoved, Move, SaysWhetherDone, TakesNextAlone}
use Rattle.pc_work.specs.declared.item.Item.{Item}

module _ {C : Type 0} where
  -- what stands at an index, as its code reads it
  pub at_read : (t old : TurnsMeaning C) (index : ℕ) (s : ScriptedMeaning C) → t ≡ old → index < length old.sessions → s ≡ get_or t.sessions index s → slice_get old.sessions index ≡ Some s
  at_read t old index s is there value =
      subst (λ (x : TurnsMeaning C). slice_get x.sessions index ≡ Some s) is
      (get_read t.sessions index s (subst (λ (x : TurnsMeaning C). index < length x.sessions) (sym is) there) value)

  -- what is so of what stands there, twice
  pub same_at : (t : TurnsMeaning C) (index : ℕ) (s x : ScriptedMeaning C) (Is : ScriptedMeaning C → Type 0) → slice_get t.sessions index ≡ Some s → slice_get t.sessions index ≡ Some x → Is s → Is x
  same_at t index s x Is at got is = subst Is (same_some (slice_get t.sessions index) s x at got) is

  -- of whatever stands there
  pub at_one : (Is : ScriptedMeaning C → Type 0) (t : TurnsMeaning C) (index : ℕ) (s : ScriptedMeaning C) → slice_get t.sessions index ≡ Some s → Is s → IsAt Is index t
  at_one Is t index s at is x got = same_at t index s x Is at got is

  pub scripted_at : (t : TurnsMeaning C) (index : ℕ) (s : ScriptedMeaning C) → AreClientsInTurns t → slice_get t.sessions index ≡ Some s → IsScripted s
  scripted_at t index s in_turns at = (in_turns.runners.each index s at).scripted

  pub number_at : (t : TurnsMeaning C) (index : ℕ) (s : ScriptedMeaning C) → AreClientsInTurns t → slice_get t.sessions index ≡ Some s → own_number s ≡ index + 1
  number_at t index s in_turns at = (in_turns.runners.each index s at).number

module _ {C : Type 0} (rule : C → ℕ → ℕ → Bool) (index : ℕ) where
  -- said otherwise
  pub acted_so : (Is As : ScriptedMeaning C → Move) (old new : TurnsMeaning C) → ((s now : ScriptedMeaning C) → slice_get old.sessions index ≡ Some s → HasMoved (Is s) s now → HasMoved (As s) s now) → HasActed rule Is index old new → HasActed rule As index old new
  acted_so Is As old new on a = record { session = a.session; now = a.now; at = a.at; whole = a.whole; moved = on a.session a.now a.at a.moved; kept = a.kept; learns = a.learns }

  -- the one that acted stands there
  pub acted_at : (Is : ScriptedMeaning C → Move) (old new : TurnsMeaning C) (a : HasActed rule Is index old new) → slice_get new.sessions index ≡ Some a.now
  acted_at Is old new a =
      subst (λ (t : TurnsMeaning C). slice_get t.sessions index ≡ Some a.now) (sym a.whole) (get_set_same old.sessions index a.now (slice_get_within old.sessions index a.session a.at))

  -- of the state as its code has it
  module _ (t old : TurnsMeaning C) (is : t ≡ old) (in_turns : AreClientsInTurns old) (there : index < length old.sessions) (s now : ScriptedMeaning C) (value : s ≡ get_or t.sessions index s) (kept : rule now.session.desk.log.clock ≡ rule s.session.desk.log.clock) where
    at : slice_get old.sessions index ≡ Some s
    at = at_read t old index s is there value

    acted : (Is : ScriptedMeaning C → Move) → HasMoved (Is s) s now → LearnsBehind old.sessions s now → HasActed rule Is index old (record t { sessions = slice_set t.sessions index now })
    acted Is moved learns = record { session = s; now = now; at = at; whole = ap (λ (x : TurnsMeaning C). record x { sessions = slice_set x.sessions index now }) is; moved = moved; kept = kept; learns = learns }

    pub finished_now : HasMoved (FinishesInTurn s) s now → HasActed rule FinishesInTurn index old (record t { sessions = slice_set t.sessions index now })
    finished_now moved =
        acted FinishesInTurn moved
        (quiet_learns s now (scripted_at old index s in_turns at) old.sessions index moved.part at (number_at old index s in_turns at) moved.by (finishes_quiet s now (scripted_at old index s in_turns at) moved))

    pub turned_now : IsAt (λ (x : ScriptedMeaning C). learnt_ahead x ≡ None) index old → HasMoved (AsksInTurn s) s now → HasActed rule AsksInTurn index old (record t { sessions = slice_set t.sessions index now })
    turned_now other moved =
        acted AsksInTurn moved
        (quiet_learns s now (scripted_at old index s in_turns at) old.sessions index moved.part at (number_at old index s in_turns at) moved.by (asks_quiet s now (scripted_at old index s in_turns at) moved (other s at)))

    pub learnt_now : (id : TxnId) (given : Bool) → HasMoved (LearnsInTurn s id given) s now → (given ≡ false → OwnerWasUntold id old.sessions) → HasActed rule AsksInTurn index old (record t { sessions = slice_set t.sessions index now })
    learnt_now id given moved untold =
        acted AsksInTurn (record { part = moved.part; by = moved.by; is = λ held says. (moved.is held says).0 })
        (learn_learns old.sessions index s now id given at (number_at old index s in_turns at) moved untold)

-- a task, by the name that its code has for it
pub act_as : {C : Type 0} (rule : C → ℕ → ℕ → Bool) (index : ℕ) (old new : TurnsMeaning C) (known task : Task) → task ≡ known → HasActed rule (DoesTask known) index old new → HasActed rule (DoesTask task) index old new
act_as rule index old new known task is acted = subst (λ (t : Task). HasActed rule (DoesTask t) index old new) (sym is) acted

pub ends_as : {C : Type 0} (index : ℕ) (new : TurnsMeaning C) (known task : Task) → task ≡ known → IsAt (EndsWithTask known) index new → IsAt (EndsWithTask task) index new
ends_as index new known task is ends = subst (λ (t : Task). IsAt (EndsWithTask t) index new) (sym is) ends

-- without a token the session that began the transaction was not told
pub untold_without : {T C : Type 0} (token : Option T) (id : TxnId) (sessions : List (ScriptedMeaning C)) → IfNone token (OwnerWasUntold id sessions) → is_some token ≡ false → OwnerWasUntold id sessions
untold_without None id sessions untold none = untold
untold_without (Some token) id sessions untold none = absurd cc

-- the one that was asked for a token was not told
pub untold_there : {E T C : Type 0} (r : Result (Option T) E) (id : TxnId) (sessions : List (ScriptedMeaning C)) (place : ℕ) (s : ScriptedMeaning C) → place + 1 ≡ id.session → slice_get sessions place ≡ Some s
    → IfOk r (λ token. IfNone token (WasTold id (own_list s) → ⊥)) → IfOk r (λ token. IfNone token (OwnerWasUntold id sessions))
untold_there (Err e) id sessions place s is at untold = tt
untold_there (Ok (Some token)) id sessions place s is at untold = tt
untold_there {C = C} (Ok None) id sessions place s is at untold = λ index x named got told.
    let same : index ≡ place = omega arith in
    untold (subst (λ (y : ScriptedMeaning C). WasTold id (own_list y)) (same_some (slice_get sessions place) x s (subst (λ n. slice_get sessions n ≡ Some x) same got) at) told)

-- none of these began it
pub untold_nowhere : {C : Type 0} (id : TxnId) (sessions : List (ScriptedMeaning C)) (count : ℕ) → count ≡ length sessions → (id.session ≡ 0) ⊎ (count < id.session) → OwnerWasUntold id sessions
untold_nowhere id sessions count long (inl none) index x named got told = absurd (omega arith)
untold_nowhere id sessions count long (inr more) index x named got told = absurd (let lt = slice_get_within sessions index x got in omega arith)

-- one that was read and is as it was
pub as_before : {C : Type 0} (t old : TurnsMeaning C) (index : ℕ) (s same : ScriptedMeaning C) → t ≡ old → index < length old.sessions → s ≡ get_or t.sessions index s → same ≡ s → record t { sessions = slice_set t.sessions index same } ≡ old
as_before {C} t old index s same is there value kept =
    ap (λ (x : TurnsMeaning C). record x { sessions = slice_set x.sessions index same }) is
    ∙ ap (λ (l : List (ScriptedMeaning C)). record old { sessions = l }) (ap (slice_set old.sessions index) kept ∙ set_as_was old.sessions index s (at_read t old index s is there value))

-- ---- by itself

-- What the session of this index has done by itself so far, until its own entries pass the test of its script.
pub record HasGoneAt {C : Type 0} (rule : C → ℕ → ℕ → Bool) (test : ℕ → List Item → List (Pair Event) → Bool) (index : ℕ) (old new : TurnsMeaning C) : Type 0 where
  pub session : ScriptedMeaning C
  pub now : ScriptedMeaning C
  pub at : slice_get old.sessions index ≡ Some session
  pub whole : new ≡ record old { sessions = slice_set old.sessions index now }
  pub gone : HasGoneSoFar (test session.at.reruns session.script) session now
  pub kept : rule now.session.desk.log.clock ≡ rule session.session.desk.log.clock
  pub learns : LearnsBehind old.sessions session now

module _ {C : Type 0} (rule : C → ℕ → ℕ → Bool) (test : ℕ → List Item → List (Pair Event) → Bool) (index : ℕ) (old : TurnsMeaning C) (in_turns : AreClientsInTurns old) where
  pub gone_at_first : index < length old.sessions → HasGoneAt rule test index old old
  gone_at_first there =
      let s = get_some old.sessions index there in record {
        session = s.0;
        now = s.0;
        at = s.1;
        whole = ap (λ (l : List (ScriptedMeaning C)). record old { sessions = l }) (sym (set_as_was old.sessions index s.0 s.1));
        gone = gone_nothing (test s.0.at.reruns s.0.script) s.0 (scripted_at old index s.0 in_turns s.1);
        kept = refl;
        learns = learns_nothing old.sessions s.0;
      }

  module _ (mid : TurnsMeaning C) (g : HasGoneAt rule test index old mid) where
    within : index < length old.sessions
    within = slice_get_within old.sessions index g.session g.at

    pub now_there : slice_get mid.sessions index ≡ Some g.now
    now_there = subst (λ (t : TurnsMeaning C). slice_get t.sessions index ≡ Some g.now) (sym g.whole) (get_set_same old.sessions index g.now within)

    -- all go in turns still
    pub gone_in_turns : AreClientsInTurns mid
    gone_in_turns =
        subst (λ (t : TurnsMeaning C). AreClientsInTurns t) (sym g.whole)
        (in_turns_set index old in_turns g.now within (runner_moved old.work index g.session g.now (in_turns.runners.each index g.session g.at) g.gone.part g.gone.by))

    pub gone_there : index < length mid.sessions
    gone_there = slice_get_within mid.sessions index g.now now_there

    says-so : (b : Bool) → IsAt (λ (s : ScriptedMeaning C). SaysWhetherDone (test s.at.reruns s.script) s b) index mid → SaysWhetherDone (test g.session.at.reruns g.session.script) g.now b
    says-so b says = told_of_old test g.session g.now b g.gone.by.same (says g.now now_there)

    -- it has nothing more to do
    pub gone_at_end : IsAt (λ (s : ScriptedMeaning C). SaysWhetherDone (test s.at.reruns s.script) s true) index mid → HasActed rule (λ (s : ScriptedMeaning C). GoesUntil s (test s.at.reruns s.script)) index old mid
    gone_at_end says = record {
      session = g.session;
      now = g.now;
      at = g.at;
      whole = g.whole;
      moved = gone_all (test g.session.at.reruns g.session.script) g.session g.now g.gone (says-so true says);
      kept = g.kept;
      learns = g.learns;
    }

    -- one turn more
    pub gone_at_on : (new : TurnsMeaning C) → HasActed rule TakesNextAlone index mid new → IsAt (λ (s : ScriptedMeaning C). SaysWhetherDone (test s.at.reruns s.script) s false) index mid → HasGoneAt rule test index old new
    gone_at_on new a says =
        let same : a.session ≡ g.now = same_some (slice_get mid.sessions index) a.session g.now a.at now_there in
        let moved : HasMoved (TakesNextAlone g.now) g.now a.now = subst (λ (s : ScriptedMeaning C). HasMoved (TakesNextAlone s) s a.now) same a.moved in
        let sessions : mid.sessions ≡ slice_set old.sessions index g.now = ap (λ (t : TurnsMeaning C). t.sessions) g.whole in
        let learns : LearnsBehind (slice_set old.sessions index g.now) g.now a.now =
        subst (λ (l : List (ScriptedMeaning C)). LearnsBehind l g.now a.now) sessions (subst (λ (s : ScriptedMeaning C). LearnsBehind mid.sessions s a.now) same a.learns) in
        record {
          session = g.session;
          now = a.now;
          at = g.at;
          whole =
              a.whole
              ∙ (ap (λ (t : TurnsMeaning C). record t { sessions = slice_set t.sessions index a.now }) g.whole
              ∙ ap (λ (l : List (ScriptedMeaning C)). record old { sessions = l }) (set_again old.sessions index g.now a.now));
          gone = gone_on (test g.session.at.reruns g.session.script) g.session g.now g.gone a.now moved (says-so false says);
          kept = a.kept ∙ (ap (λ (s : ScriptedMeaning C). rule s.session.desk.log.clock) same ∙ g.kept);
          learns = learns_then old.sessions index g.session g.now a.now g.gone.part moved.part g.at (number_at old index g.session in_turns g.at) within g.gone.by moved.by g.learns learns;
        }
