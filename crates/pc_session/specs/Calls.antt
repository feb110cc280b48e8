-- What a call of a session makes.
use Rattle.std.specs.Prelude.{◌≡◌, true, false, List}
use Rattle.pc_coord.specs.Suiting.{Suits}
use Rattle.pc_coord.specs.Suiting.{SuitsNext}
use Rattle.pc_exchange.specs.Growing.{HasGrownBy}
use Rattle.pc_history.specs.declared.pair.Pair.{Pair}
use Rattle.pc_proto.specs.declared.answer.Answer.{Answer}
use Rattle.pc_proto.specs.declared.call.Call.{Call}
use Rattle.pc_proto.specs.declared.event.Event.{Event}
use Rattle.pc_session.specs.Session.{IsAtRest, SessionMeaning, session_knows}
use Rattle.pc_turns.specs.Order.{AsksWhole}
use Rattle.pc_world.specs.Local.{is_outside, is_round}

-- The call is a session's; begin and learn come where no transaction is open; and it suits the open transaction as far as that is built.
pub record MayBeCalled {C : Type 0} (s : SessionMeaning C) (call : Call) : Type 0 where
  pub no_round : is_round call ≡ false
  pub outside : is_outside call ≡ true → (session_knows s).is_open ≡ false
  pub suits : Suits s.coordinator.pipelining call s.coordinator.txn

-- The session asked the call and was told this answer; between the two it sent and heard the call's messages, and did nothing else. It rests
-- again; and which calls suit its transaction now.
pub record HasCalled {C : Type 0} (old new : SessionMeaning C) (call : Call) (answer : Answer) : Type 0 where
  pub part : List (Pair Event)
  pub grown : HasGrownBy old.desk.log new.desk.log part
  pub whole : AsksWhole old.coordinator.session call part
  pub told : whole.answer ≡ answer
  pub limit : new.desk.range_limit ≡ old.desk.range_limit
  pub session : new.coordinator.session ≡ old.coordinator.session
  pub suits : SuitsNext new.coordinator.pipelining answer call new.coordinator.txn
  pub rest : IsAtRest new
