-- When what an actor hears was evaluated: with its wave, whatever the actor; and in order, where its evaluations don't go beside each other.
use Rattle.std.specs.Prelude.{◌≡◌, Bool, false, Option, List, []}
use Rattle.pc_base.specs.declared.entry.Entry.{Entry}
use Rattle.pc_desk.specs.Keeping.{EachAfter}
use Rattle.pc_follows.specs.EvaluationOrder.{HearsInOrder}
use Rattle.pc_follows.specs.WaveEvaluation.{HearsWaves}
use Rattle.pc_history.specs.declared.pair.Pair.{Pair}
use Rattle.pc_proto.specs.declared.event.Event.{Event}
use Rattle.pc_world.specs.Known.{known_of}
use Rattle.pc_world.specs.Known.Traffic.{Heard, heard_by}

-- What is heard next was evaluated so; this says whether the evaluations of a wave go beside each other.
pub record KeepsWaves (beside : Bool) (own : List (Pair Event)) (h : Option Heard) : Type 0 where
  pub whole : HearsWaves own h
  pub order : beside ≡ false → HearsInOrder (known_of own) h

-- The actor's next event, with the entry that it names, keeps that.
abbrev pub KeepsWavesNext : Bool → List (Pair Event) → Event → Option (Entry Event) → Type 0
KeepsWavesNext beside own event named = KeepsWaves beside own (heard_by event named (known_of own).sent)

-- Each entry of the actor's own list keeps that.
abbrev pub KeepsWavesEach : Bool → List (Pair Event) → Type 0
KeepsWavesEach beside own = EachAfter (λ before p. KeepsWavesNext beside before p.entry.event p.named) [] own
