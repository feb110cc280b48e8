-- Recoverers in lanes of their own, in each of which one makes its rounds. Own profile.
use Rattle.std.specs.Prelude.{◌≡◌, ℕ, Bool, Ok, OnOk, Result, List, []}
use Rattle.std.specs.List.{AllZip}
use Rattle.pc_base.specs.declared.memory.NoMemory.{NoMemory}
use Rattle.pc_history.specs.declared.pair.Pair.{Pair}
use Rattle.pc_history.specs.Parts.{knowledge}
use Rattle.pc_proto.specs.declared.event.Event.{Event}
use Rattle.pc_rounds.specs.Counted.{CountedMeaning, HasGoneInRounds, HasMadeAll}
use Rattle.pc_scripted.specs.Scripted.{ScriptedMeaning}
use Rattle.pc_threads.specs.Lanes.{HasLeftLane, HasRunLane, LaneMeaning}
use Rattle.pc_turns.specs.Laws.{HasMark}

-- A recoverer in its lane, and whether it came to its end there or memory ran out.
pub record RoundLaneMeaning (C : Type 0) : Type 0 where
  pub recoverer : CountedMeaning C
  pub ended : Result (Unit {0}) NoMemory

-- The recoverer made no entry, and knows the last of these, if there is one; its clock is the same.
pub record WaitsBehind {C : Type 0} (order : List (Pair Event)) (old new : CountedMeaning C) : Type 0 where
  pub by : HasGoneInRounds old new []
  pub knows : HasMark order (knowledge new.recoverer.desk.log.part)
  pub clock : new.recoverer.desk.log.clock ≡ old.recoverer.desk.log.clock

-- The recoverer in the lane stands so.
abbrev pub WaitsBehindIn : {C : Type 0} → List (Pair Event) → CountedMeaning C → RoundLaneMeaning C → Type 0
WaitsBehindIn order old l = WaitsBehind order old l.recoverer

-- These recoverers are in these lanes, in order, each behind all of these entries.
abbrev pub WaitInLanes : {C : Type 0} → List (Pair Event) → List (CountedMeaning C) → List (RoundLaneMeaning C) → Type 0
WaitInLanes order recoverers lanes = AllZip (WaitsBehindIn order) recoverers lanes

-- The recoverer made the rounds that were left.
pub record HasMadeRounds {C : Type 0} (rule : C → ℕ → ℕ → Bool) (old new : CountedMeaning C) : Type 0 where
  pub made : HasMadeAll old new
  pub kept : rule new.recoverer.desk.log.clock ≡ rule old.recoverer.desk.log.clock

-- In its lane the recoverer made the rounds that were left, unless memory ran out.
abbrev pub HasRunRounds : {C : Type 0} → (C → ℕ → ℕ → Bool) → RoundLaneMeaning C → RoundLaneMeaning C → Type 0
HasRunRounds rule old new = OnOk new.ended (HasMadeRounds rule old.recoverer new.recoverer)

-- The recoverer is that of the lane, in which memory did not run out.
pub record HasLeftRoundLane {C : Type 0} (l : RoundLaneMeaning C) (r : CountedMeaning C) : Type 0 where
  pub recoverer : l.recoverer ≡ r
  pub ended : l.ended ≡ Ok tt

-- The sessions and recoverers in these lanes went to their ends there, and came out of them, in order; memory ran out in none.
pub record HaveRunToEnds {C : Type 0} (rule : C → ℕ → ℕ → Bool) (lanes : List (LaneMeaning C)) (round_lanes : List (RoundLaneMeaning C)) (sessions : List (ScriptedMeaning C)) (recoverers : List (CountedMeaning C)) : Type 0 where
  pub run : List (LaneMeaning C)
  pub ran : AllZip (HasRunLane rule) lanes run
  pub back : AllZip HasLeftLane run sessions
  pub round_run : List (RoundLaneMeaning C)
  pub round_ran : AllZip (HasRunRounds rule) round_lanes round_run
  pub round_back : AllZip HasLeftRoundLane round_run recoverers
