-- A reply that may be heard next of an open call.
use Rattle.std.specs.Prelude.{◌≡◌, ℕ, false, true, ◌⊎◌, Option, Some, All, IsTrue}
use Rattle.pc_coord.specs.Coordination.{Coordination, SendsNoMore, awaits_number, next_of}
use Rattle.pc_coord.specs.declared.next.Next.TheVariants as nexts
use Rattle.pc_coord.specs.Knows.{Knows}
use Rattle.pc_follows.specs.EarlyProof.{ProvesNothingEarly}
use Rattle.pc_follows.specs.PipelinedPuts.{HearsOnlyItsPuts}
use Rattle.pc_follows.specs.Proving.{IsInProvingWave, IsAwaitedPut, IsOfPutWave}
use Rattle.pc_follows.specs.WaveOrder.{AreAwaitedHeard}
use Rattle.pc_proto.specs.declared.reply.Reply.{Reply}
use Rattle.pc_proto.specs.Requests.{is_put}
use Rattle.pc_world.specs.Known.{Known}
use Rattle.pc_world.specs.Known.Traffic.{Heard, request_sent}
use Rattle.pc_world.specs.Tell.Refusal.{is_heard}

-- The reply is to a message that is waited for, once all of its wave went out.
pub record IsAwaitedNext (c : Coordination) (k : Known) (h : Heard) : Type 0 where
  pub waited : awaits_number h.number c.due ≡ true
  pub whole : SendsNoMore c.due
  pub said : request_sent h.number k.sent ≡ Some h.request

-- Where a reply to a put or a stage may be heard, each put for which the call waits was heard, or its reply is waited for.
abbrev pub HearsAllAwaited : Type 0
HearsAllAwaited =
    (c : Coordination) (k : Known) (h : Heard) → Knows false c k → IsAwaitedNext c k h → IsOfPutWave h.request
    → All (λ m. IsAwaitedPut k m.request → IsTrue (is_heard k.heard m) ⊎ (awaits_number m.number c.due ≡ true)) k.sent

-- Where a conflict is to have its round, each put for which the call waits was heard.
abbrev pub MeetsAllAwaited : Type 0
MeetsAllAwaited =
    (c : Coordination) (k : Known) (number : ℕ) (conflict : Reply) (reader : Option ℕ) → Knows false c k → next_of c ≡ nexts.Conflict number conflict reader
    → AreAwaitedHeard k k.sent

-- What is heard next is heard in turn: in a commit no put but one that is staged; no put but one for which the call waits; and such a put behind the heartbeat, once all
-- puts for which the call waits are on their way.
abbrev pub HearsInTurn : Type 0
HearsInTurn =
    (c : Coordination) (k : Known) (h : Heard) → Knows false c k → IsAwaitedNext c k h
    → ProvesNothingEarly k (Some h) × HearsOnlyItsPuts k (Some h) × (is_put h.request ≡ true → IsInProvingWave k h)
