-- What an actor may send and tell, whichever actor it is.
use Rattle.std.proofs.Common.{◌≡◌, Bool, true, false, ◌&&◌, not, List, Option, ◌≢◌, ◌⊎◌, inl, inr, refl}
use Rattle.std.specs.Prelude.{⊤}
use Rattle.std.specs.Bool.{MatchBool}
use Rattle.pc_base.specs.declared.actor.ActorId.{ActorId}
use Rattle.pc_base.specs.declared.actor.ActorId.TheVariants as actors
use Rattle.pc_base.specs.declared.entry.Entry.{Entry}
use Rattle.pc_history.proofs.Ids.{same_id-equal, same_id-true}
use Rattle.pc_history.specs.Own.{same_id}
use Rattle.pc_history.specs.declared.pair.Pair.{Pair}
use Rattle.pc_proto.specs.declared.answer.Answer.{Answer}
use Rattle.pc_proto.specs.declared.answer.Answer.TheVariants as answers
use Rattle.pc_proto.specs.declared.event.Event.{Event}
use Rattle.pc_proto.specs.declared.event.Event.TheVariants as events
use Rattle.pc_world.specs.Known.{Known, known_of}
use Rattle.pc_world.specs.Local.{Head, MayComeNext, MayHear}
use Rattle.pc_world.specs.MaySend.{MaySend}
use Rattle.pc_world.specs.MayTell.{MayTell, MayTellRow, is_past_range, needs_txn}

-- What an event asks of the actor that makes it.
abbrev pub Does : Head → ActorId → Known → Event → Type 0
Does head actor k (events.Send number range request) = MaySend head.splits actor k number range request
Does head actor k (events.Tell answer) = MayTell head.splits actor k answer
Does head actor k (events.Hear number step) = MayHear k number
Does head actor k _ = ⊤

pub does : (head : Head) (actor : ActorId) (own : List (Pair Event)) (event : Event) (named : Option (Entry Event)) → MayComeNext head actor own event named → Does head actor (known_of own) event
does head (actors.Range range) own (events.Eval sender number told) named may = tt
does head (actors.Range range) own event named may = absurd may
does head (actors.Session session) own (events.Send number range request) named may = may
does head (actors.Session session) own (events.Tell answer) named may = may
does head (actors.Session session) own (events.Hear number step) named may = may
does head (actors.Session session) own event named may = tt
does head (actors.Recoverer number) own (events.Send sent range request) named may = may
does head (actors.Recoverer number) own (events.Tell answer) named may = may
does head (actors.Recoverer number) own (events.Hear sent step) named may = may
does head (actors.Recoverer number) own event named may = tt

row-of : (a b : Bool) (P Q R : Type 0) → MatchBool a P (MatchBool b Q R) → (P → ⊥) → (Q → ⊥) → R
row-of true b P Q R m no_p no_q = absurd (no_p m)
row-of false true P Q R m no_p no_q = absurd (no_q m)
row-of false false P Q R m no_p no_q = m

-- an answer that is no refusal is told by its row
pub told_by_row : (head : Head) (actor : ActorId) (k : Known) (answer : Answer) (may : MayTell head.splits actor k answer)
    → (answer ≡ answers.NoTxn → ⊥) → (answer ≡ answers.Clock may.s.reading → ⊥) → MayTellRow head.splits actor k may.s answer
told_by_row head actor k answer may no_txn no_clock =
    row-of (needs_txn may.s.call && not k.is_open) (is_past_range may.s) _ _ (MayTellRow head.splits actor k may.s answer) may.told no_txn no_clock

pub same_or_not : (a b : ActorId) → (a ≡ b) ⊎ (a ≢ b)
same_or_not a b = by (same_id a b) refl
  where
    by : (t : Bool) → same_id a b ≡ t → (a ≡ b) ⊎ (a ≢ b)
    by true e = inl (same_id-true a b e)
    by false e = inr (λ h. let t : same_id a b ≡ true = same_id-equal a b h in absurd cc)
