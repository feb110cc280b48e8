-- Which calls suit the open transaction: without pipelining, while a write is in flight it waits for that write.
use Rattle.std.specs.Prelude.{Bool, Option, None, Some, ⊤}
use Rattle.pc_call.specs.Suiting.{SuitsFlightIn, SuitsFlightNextIn}
use Rattle.pc_proto.specs.declared.answer.Answer.{Answer}
use Rattle.pc_proto.specs.declared.call.Call.{Call}
use Rattle.pc_txn.specs.declared.txn.OpenTxn.{OpenTxn}

-- The call suits the open transaction: with pipelining any call does. Without it any does where no write is in flight; where one is, the call asks for that
-- write again, or rolls back.
abbrev pub Suits : Bool → Call → Option OpenTxn → Type 0
Suits pipelining call None = ⊤
Suits pipelining call (Some x) = SuitsFlightIn pipelining call x.in_flight

-- After an answer that ends its transaction, none is open; after any other the calls that suit its writes in flight.
abbrev pub SuitsNext : Bool → Answer → Call → Option OpenTxn → Type 0
SuitsNext pipelining answer call None = ⊤
SuitsNext pipelining answer call (Some x) = SuitsFlightNextIn pipelining answer call x.in_flight
