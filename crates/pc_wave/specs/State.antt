-- How far a wave is.
use Rattle.pc_wave.specs.declared.step.Step.{Step}
use Rattle.pc_wave.specs.declared.step.Step.TheVariants as steps
use Rattle.pc_wave.specs.declared.step.WaveState.{WaveState}
use Rattle.pc_wave.specs.declared.step.WaveState.TheVariants as states

-- How far a wave is of which this is due.
abbrev pub state_by : Step → WaveState
state_by (steps.Send request) = states.UnderWay
state_by steps.Deliver = states.UnderWay
state_by (steps.Round number conflict) = states.UnderWay
state_by (steps.Blocked holder) = states.Blocked holder
state_by steps.Answered = states.Answered
