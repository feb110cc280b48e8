-- When the replies that wait to be heard were evaluated, and what may still be evaluated beside them.
use Rattle.std.specs.Prelude.{◌≡◌, ℕ, ◌<◌, Bool, false, List, [], ◌∷◌, ◌++◌, All, Contains}
use Rattle.pc_desk.specs.declared.answered.Answered.{Answered}
use Rattle.pc_follows.specs.WaveEvaluation.{IsHearingOfWave, IsInWave}
use Rattle.pc_history.specs.declared.pair.Pair.{Pair}
use Rattle.pc_history.specs.declared.view.Known.{Known as KnownEntry}
use Rattle.pc_proto.specs.declared.event.Event.{Event}
use Rattle.pc_range.specs.Message.{ComesAfter}
use Rattle.pc_world.specs.Known.{known_of}
use Rattle.pc_world.specs.Known.Traffic.{Heard}

-- The list does not end with a hearing of a wave: where nothing is sent behind a heartbeat, its reply ends none.
abbrev pub EndsUnheard : List (Pair Event) → Type 0
EndsUnheard own = (front : List (Pair Event)) (p : Pair Event) → own ≡ front ++ p ∷ [] → IsHearingOfWave (known_of own).sent p.entry.event → ⊥

-- Some entry of the list was made after this step.
pub record WentOn (own : List (Pair Event)) (step : ℕ) : Type 0 where
  pub later : Pair Event
  pub there : Contains own later
  pub above : step < later.entry.step

-- Of these replies each was evaluated after those before it.
abbrev pub AreEvaluatedInOrder : List Answered → Type 0
AreEvaluatedInOrder [] = Unit {0}
AreEvaluatedInOrder (a ∷ replies) = All (λ later. a.step < later.step) replies × AreEvaluatedInOrder replies

-- The replies that wait were evaluated one after another, after all that were heard.
pub record AreInOrder (heard : List Heard) (replies : List Answered) : Type 0 where
  pub rising : AreEvaluatedInOrder replies
  pub behind : All (λ a. All (λ h. h.step < a.step) heard) replies

-- The replies that wait were evaluated with their wave, and in order unless the wave's evaluations went beside each other; what waits to be
-- evaluated waits since the last hearing; and the list went on after each evaluation that was heard.
pub record WaitInWave {X : Type 0} (beside : Bool) (own : List (Pair Event)) (posted : List X) (replies : List Answered) : Type 0 where
  pub wave : All (λ a. IsInWave own a.step) replies
  pub unheard : All (λ m. EndsUnheard own) posted
  pub order : beside ≡ false → AreInOrder (known_of own).heard replies
  pub heard : All (λ h. WentOn own h.step) (known_of own).heard

-- What comes after what this note tells of comes after all that the actor made.
abbrev pub IsBehindAll : List (Pair Event) → List (KnownEntry Event) → Type 0
IsBehindAll own note = (step : ℕ) → ComesAfter step note → All (λ p. p.entry.step < step) own

-- What comes after what this note tells of comes after all that the actor made, and after the evaluations whose replies wait.
pub record IsNewest (own : List (Pair Event)) (replies : List Answered) (note : List (KnownEntry Event)) : Type 0 where
  pub made : IsBehindAll own note
  pub evaluated : (step : ℕ) → ComesAfter step note → All (λ a. a.step < step) replies
