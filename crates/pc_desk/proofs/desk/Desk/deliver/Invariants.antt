use Rattle.std.proofs.Common.{◌≡◌, length}
use Rattle.pc_desk.specs.Desk.{HasDelivered}
use Rattle.pc_desk.specs.Ending.{PostsInCall}
use Rattle.pc_desk.specs.Waiting.{IsNewest}
use Rattle.pc_desk.proofs.desk.Desk.deliver.Given as goal

abbrev pub invariant-loop-self : goal.invariant-loop-self
invariant-loop-self g l = HasDelivered l.fn.self l.self × (l.self.log.clock ≡ l.fn.self.log.clock) × IsNewest l.self.log.part.own l.self.replies l.last.known × PostsInCall l.self

abbrev pub decreases-loop-self : goal.decreases-loop-self
decreases-loop-self g l = length l.self.posted
