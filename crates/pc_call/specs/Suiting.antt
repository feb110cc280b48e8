-- Which calls may be asked while a write is in flight.
use Rattle.std.specs.Prelude.{◌≡◌, Bool, true, false, ⊤, None, Some, List, [], ◌∷◌}
use Rattle.pc_flight.specs.declared.write.WriteInFlight.{WriteInFlight}
use Rattle.pc_proto.specs.declared.answer.Answer.{Answer}
use Rattle.pc_proto.specs.declared.answer.Answer.TheVariants as answers
use Rattle.pc_proto.specs.declared.call.Call.{Call}
use Rattle.pc_proto.specs.declared.call.Call.TheVariants as calls

-- Any call where none is in flight; where one is, the same write again, or a rollback.
abbrev pub SuitsFlight : Call → List WriteInFlight → Type 0
SuitsFlight call [] = ⊤
SuitsFlight (calls.Put key value) (w ∷ []) = (w.key ≡ key) × (w.value ≡ Some value)
SuitsFlight (calls.Delete key) (w ∷ []) = (w.key ≡ key) × (w.value ≡ None)
SuitsFlight calls.Rollback (w ∷ ws) = ⊤
SuitsFlight _ (w ∷ ws) = ⊥

-- So it does without pipelining; with pipelining any call may be asked.
abbrev pub SuitsFlightIn : Bool → Call → List WriteInFlight → Type 0
SuitsFlightIn true call flight = ⊤
SuitsFlightIn false call flight = SuitsFlight call flight

-- After a refusal the same call may be asked again; after any other answer no write is in flight.
abbrev pub SuitsFlightNext : Answer → Call → List WriteInFlight → Type 0
SuitsFlightNext (answers.Blocked holder) call flight = SuitsFlight call flight
SuitsFlightNext (answers.Unavailable faults) call flight = SuitsFlight call flight
SuitsFlightNext (answers.Moved ts) call flight = SuitsFlight call flight
SuitsFlightNext _ call flight = flight ≡ []

-- So it is without pipelining.
abbrev pub SuitsFlightNextIn : Bool → Answer → Call → List WriteInFlight → Type 0
SuitsFlightNextIn true answer call flight = ⊤
SuitsFlightNextIn false answer call flight = SuitsFlightNext answer call flight
