-- What an actor leaves in its outbox, and what it knows once that was evaluated.
use Rattle.std.specs.Prelude.{◌≡◌, ℕ, ◌≤◌, nat_lt, Bool, Option, Some, is_some, List, ◌∷◌, ◌++◌, All, Contains}
use Rattle.pc_base.specs.declared.actor.ActorId.{ActorId}
use Rattle.pc_desk.specs.Desk.{Posted, WaitingMessage, waiting_as}
use Rattle.pc_desk.specs.Refused.{GivesBack}
use Rattle.pc_history.specs.declared.named.Named.{Ghosts}
use Rattle.pc_history.specs.declared.view.Known.{Known as KnownEntry}
use Rattle.pc_history.specs.declared.view.Part.{Part}
use Rattle.pc_history.specs.Meanings.{ActorMeaning}
use Rattle.pc_proto.specs.declared.event.Event.{Event}
use Rattle.pc_proto.specs.declared.reply.Reply.{Reply}
use Rattle.pc_range.specs.declared.commit_world.CommitWorld.{CommitWorld}
use Rattle.pc_range.specs.declared.message.ServeFault.{ServeFault}
use Rattle.pc_range.specs.Message.{evaluation}
use Rattle.pc_wire.specs.declared.verdict.Verdict.{Verdict}
use Rattle.pc_world.specs.Local.{Head}

-- The message was one of those that are left; none of the others has a lower number.
pub record IsFirstOf (before after : List WaitingMessage) (sender : ActorId) (posted : Posted) : Type 0 where
  pub key : ℕ
  pub verdict : Verdict
  pub front : List WaitingMessage
  pub back : List WaitingMessage
  pub whole : before ≡ front ++ waiting_as key sender verdict posted ∷ back
  pub left : after ≡ front ++ back
  pub least : All (λ w. key ≤ w.key) after

-- What was set aside comes first, of the least numbers of both, if there are any.
abbrev pub comes_first : Option ℕ → Option ℕ → Bool
comes_first (Some aside) (Some other) = nat_lt aside other
comes_first aside _ = is_some aside

-- The actor took notes, and did nothing else.
pub record HasOnlyLearnt (before after : ActorMeaning Head Event) : Type 0 where
  pub rest : after ≡ record before { part = record before.part { known = after.part.known } }
  pub more : (k : KnownEntry Event) → Contains before.part.known k → Contains after.part.known k

-- The actor knows an evaluation of its message.
pub record IsEvaluatedIn (part : Part Event) (w : WaitingMessage) : Type 0 where
  pub step : ℕ
  pub reply : Reply
  pub place : ℕ
  pub knows : Contains part.known (record { entry = evaluation step w.posted.range part.id w.posted.number reply; place = place; uses = 0 })

-- Of these messages some were evaluated, and then one was refused and given back, its range being full; those behind it have no lower numbers.
pub record StopsAt {N : Type 0} {G : Ghosts N CommitWorld} (limit : ℕ) (all : List WaitingMessage) (part : Part Event) (fault : ServeFault N G) : Type 0 where
  pub done : List WaitingMessage
  pub refused : WaitingMessage
  pub behind : List WaitingMessage
  pub each : All (λ w. Contains (done ++ refused ∷ behind) w) all
  pub there : Contains all refused
  pub evaluated : All (IsEvaluatedIn part) done
  pub rises : All (λ w. refused.key ≤ w.key) behind
  pub gives : GivesBack limit part.id refused.posted fault
