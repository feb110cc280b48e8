-- What a session takes of its coordinator. What this does not say yet stands with a hole, and is to become a clause or a law below.
use Rattle.std.proofs.Common.{◌≡◌, ℕ, Bool, true, false, ◌⊎◌, All, IsTrue, Option, None, Some, refl, subst}
use Rattle.std.proofs.lemmas.Option.{same_Some}
use Rattle.pc_call.specs.declared.call.OpenCall.{OpenCall}
use Rattle.pc_call.specs.declared.purpose.Purpose.TheVariants as purposes
use Rattle.pc_call.specs.Sending.{IsSendable}
use Rattle.pc_call.specs.Serving.{PutsEarlier, Serves}
use Rattle.pc_coord.proofs.AllAwaited.{hears_all_awaited_ok, meets_all_awaited_ok}
use Rattle.pc_coord.proofs.InTurn.{hears_in_turn_ok}
use Rattle.pc_coord.proofs.ItsCall.{awaits_its_puts_ok}
use Rattle.pc_coord.specs.Awaiting.{IsAwaitedNext}
use Rattle.pc_coord.specs.Coordination.{Coordination, awaits_number, next_of, request_next, setting_of}
use Rattle.pc_coord.specs.declared.next.Next.TheVariants as nexts
use Rattle.pc_coord.specs.Knows.{HasCallDue, IsTellable, Knows}
use Rattle.pc_follows.specs.CallMessages.{IsForCall, IsQueryOfOwn}
use Rattle.pc_follows.specs.EarlyProof.{ProvesNothingEarly}
use Rattle.pc_follows.specs.Eighth.{TellsTheEighth}
use Rattle.pc_follows.specs.FirstBlock.{TellsFirstBlock}
use Rattle.pc_follows.specs.OwnStages.{IsBesidePuts}
use Rattle.pc_follows.specs.PipelinedPuts.{HearsOnlyItsPuts}
use Rattle.pc_follows.specs.PipelinedRounds.{AreAllOver, IsInNextTurn}
use Rattle.pc_follows.specs.Proving.{IsAwaitedPut, IsInProvingWave, IsOfPutWave, WritesBehindProved}
use Rattle.pc_follows.specs.WaveOrder.{AreAwaitedHeard}
use Rattle.pc_proto.specs.declared.answer.Answer.{Answer}
use Rattle.pc_proto.specs.declared.call.Call.TheVariants as calls
use Rattle.pc_proto.specs.declared.event.Event.TheVariants as events
use Rattle.pc_proto.specs.declared.reply.Reply.{Reply}
use Rattle.pc_proto.specs.declared.request.Request.{Request}
use Rattle.pc_proto.specs.Requests.{is_put}
use Rattle.pc_wave.specs.Standing.{Pairwise}
use Rattle.pc_world.specs.Known.{Known, call_in, call_of}
use Rattle.pc_world.specs.Known.Statements.{Statement}
use Rattle.pc_world.specs.Known.Traffic.{Heard, request_sent}
use Rattle.pc_world.specs.Tell.Refusal.{is_heard}
use Rattle.pc_proto.specs.declared.call.Call.{Call}

-- ---- what goes out

module _ (c : Coordination) (k : Known) (request : Request) (knows : Knows false c k) (due : request_next (next_of c) ≡ Some request) (may : IsSendable (setting_of false c) c.session k request) where
  pub behind_proved : (number range : ℕ) → WritesBehindProved k (events.Send number range request)
  behind_proved = may.proved

  pub beside_puts : IsBesidePuts k request
  beside_puts = may.stages

  pub in_next_turn : c.pipelining ≡ true → AreAllOver k ⊎ IsQueryOfOwn k request → IsInNextTurn k request
  in_next_turn piped over = may.turn refl piped over

-- the puts of the writes that are proved go out by sequence
pub proves_in_order : (c : Coordination) (k : Known) (call : OpenCall) → HasCallDue false c k call → (kept : Call) (all : Bool) → call.purpose ≡ purposes.Prove kept all → Pairwise PutsEarlier call.wave
proves_in_order c k call at kept all is = let w = at.in_call in (subst (λ p. Serves (setting_of false c) k w.s w.t at.x w.stages p call.wave) is w.serves).in_order

-- ---- what is told

pub tells_eighth : (c : Coordination) (k : Known) (answer : Answer) → IsTellable false c k answer → (s : Statement) → k.statement ≡ Some s → TellsTheEighth k s answer
tells_eighth c k answer may s opened = may.eighth s opened

pub commit_blocked : (c : Coordination) (k : Known) (answer : Answer) → c.pipelining ≡ true → IsTellable false c k answer → call_of k ≡ Some calls.Commit → TellsFirstBlock true k answer
commit_blocked c k answer piped may asked = asks k.statement refl asked
  where
    asks : (o : Option Statement) → k.statement ≡ o → call_in o ≡ Some calls.Commit → TellsFirstBlock true k answer
    asks None opened is = absurd cc
    asks (Some s) opened is = may.blocked piped s opened (same_Some s.call calls.Commit is)

-- ---- what is heard

module _ (c : Coordination) (k : Known) (h : Heard) (knows : Knows false c k) (next : IsAwaitedNext c k h) where
  pub nothing_early : ProvesNothingEarly k (Some h)
  nothing_early = (hears_in_turn_ok c k h knows next).0

  pub its_puts : HearsOnlyItsPuts k (Some h)
  its_puts = (hears_in_turn_ok c k h knows next).1

  pub proving_wave : is_put h.request ≡ true → IsInProvingWave k h
  proving_wave = (hears_in_turn_ok c k h knows next).2

  pub awaited_out : IsOfPutWave h.request → All (λ m. IsAwaitedPut k m.request → IsTrue (is_heard k.heard m) ⊎ (awaits_number m.number c.due ≡ true)) k.sent
  awaited_out = hears_all_awaited_ok c k h knows next

pub awaited_met : (c : Coordination) (k : Known) (number : ℕ) (conflict : Reply) (reader : Option ℕ) → Knows false c k → next_of c ≡ nexts.Conflict number conflict reader → AreAwaitedHeard k k.sent
awaited_met = meets_all_awaited_ok

pub awaited_kind : (c : Coordination) (k : Known) (number : ℕ) (request : Request) → Knows false c k → awaits_number number c.due ≡ true → request_sent number k.sent ≡ Some request → IsForCall c.pipelining k request
awaited_kind = awaits_its_puts_ok
