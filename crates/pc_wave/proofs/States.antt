-- What is due of a wave that is so far.
use Rattle.std.proofs.Common.{◌≡◌, refl}
use Rattle.pc_base.specs.declared.transaction.TxnId.{TxnId}
use Rattle.pc_wave.specs.State.{state_by}
use Rattle.pc_wave.specs.declared.step.Step.{Step}
use Rattle.pc_wave.specs.declared.step.Step.TheVariants as steps
use Rattle.pc_wave.specs.declared.step.WaveState.TheVariants as states

pub due_answered : (step : Step) → state_by step ≡ states.Answered → step ≡ steps.Answered
due_answered (steps.Send request) e = cc
due_answered steps.Deliver e = cc
due_answered (steps.Round number conflict) e = cc
due_answered (steps.Blocked holder) e = cc
due_answered steps.Answered e = refl

pub due_blocked : (step : Step) (holder : TxnId) → state_by step ≡ states.Blocked holder → step ≡ steps.Blocked holder
due_blocked (steps.Send request) holder e = cc
due_blocked steps.Deliver holder e = cc
due_blocked (steps.Round number conflict) holder e = cc
due_blocked (steps.Blocked other) holder e = cc
due_blocked steps.Answered holder e = cc
