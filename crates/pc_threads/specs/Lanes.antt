-- Sessions in lanes of their own, in each of which one goes by itself to the end of its script. Own profile.
use Rattle.std.specs.Prelude.{◌≡◌, ℕ, Bool, Ok, OnOk, Result, List, [], ◌∷◌}
use Rattle.std.specs.List.{AllZip}
use Rattle.pc_base.specs.declared.memory.NoMemory.{NoMemory}
use Rattle.pc_history.specs.declared.pair.Pair.{Pair}
use Rattle.pc_history.specs.Parts.{knowledge}
use Rattle.pc_proto.specs.declared.event.Event.{Event}
use Rattle.pc_scripted.specs.Scripted.{ScriptedMeaning, own_list}
use Rattle.pc_scripted.specs.Taking.{GoesUntil, HasMoved, HasMovedBy, IsRunOut, are_items_over, is_script_over}
use Rattle.pc_turns.specs.Laws.{HasMark}

-- A session in its lane, and whether it came to its end there or memory ran out.
pub record LaneMeaning (C : Type 0) : Type 0 where
  pub session : ScriptedMeaning C
  pub ended : Result (Unit {0}) NoMemory

-- The session made no entry, and knows the last of these, if there is one; its clock is the same.
pub record StandsBehind {C : Type 0} (order : List (Pair Event)) (old new : ScriptedMeaning C) : Type 0 where
  pub by : HasMovedBy old new []
  pub knows : HasMark order (knowledge new.session.desk.log.part)
  pub clock : new.session.desk.log.clock ≡ old.session.desk.log.clock

-- The session in the lane stands so.
abbrev pub StandsBehindIn : {C : Type 0} → List (Pair Event) → ScriptedMeaning C → LaneMeaning C → Type 0
StandsBehindIn order old l = StandsBehind order old l.session

-- The session's lane is in front of these.
pub record LeadsIn {C : Type 0} (first : ScriptedMeaning C) (rest lanes : List (LaneMeaning C)) : Type 0 where
  pub front : LaneMeaning C
  pub leads : front.session ≡ first
  pub whole : lanes ≡ front ∷ rest

-- The first of the sessions has gone on by itself until so many items of its script were over. It is in the first lane, and the others follow
-- in theirs, in order, each behind all that it made.
pub record HaveStarted {C : Type 0} (rule : C → ℕ → ℕ → Bool) (items : ℕ) (sessions : List (ScriptedMeaning C)) (lanes : List (LaneMeaning C)) : Type 0 where
  pub first : ScriptedMeaning C
  pub others : List (ScriptedMeaning C)
  pub whole : sessions ≡ first ∷ others
  pub opened : ScriptedMeaning C
  pub opens : HasMoved (GoesUntil first (are_items_over items first.at.reruns first.script)) first opened
  pub kept : rule opened.session.desk.log.clock ≡ rule first.session.desk.log.clock
  pub rest : List (LaneMeaning C)
  pub leads : LeadsIn opened rest lanes
  pub follow : AllZip (StandsBehindIn (own_list opened)) others rest

-- The session went by itself to the end of its script.
pub record HasRunAlone {C : Type 0} (rule : C → ℕ → ℕ → Bool) (old new : ScriptedMeaning C) : Type 0 where
  pub moved : HasMoved (GoesUntil old (is_script_over old.at.reruns old.script)) old new
  pub over : IsRunOut new
  pub kept : rule new.session.desk.log.clock ≡ rule old.session.desk.log.clock

-- In its lane the session went by itself to the end of its script, unless memory ran out.
abbrev pub HasRunLane : {C : Type 0} → (C → ℕ → ℕ → Bool) → LaneMeaning C → LaneMeaning C → Type 0
HasRunLane rule old new = OnOk new.ended (HasRunAlone rule old.session new.session)

-- The session is that of the lane, in which memory did not run out.
pub record HasLeftLane {C : Type 0} (l : LaneMeaning C) (s : ScriptedMeaning C) : Type 0 where
  pub session : l.session ≡ s
  pub ended : l.ended ≡ Ok tt
