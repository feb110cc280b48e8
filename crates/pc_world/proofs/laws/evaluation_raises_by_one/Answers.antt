use Rattle.pc_world.proofs.Stamps.{reply_at_most, state_at_most}
use Rattle.pc_world.proofs.laws.evaluation_raises_by_one.Goals as goal

pub returns : goal.returns
returns c most request s asked within = record { told = reply_at_most most request s asked within; after = state_at_most most request s asked within }
