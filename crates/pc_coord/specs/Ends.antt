-- What a coordinator is told where nothing is heard of a message, and what waits once a commit gave up.
use Rattle.std.specs.Prelude.{◌≡◌, ℕ, true, List, []}
use Rattle.pc_call.specs.declared.later.LaterPut.{LaterPut}
use Rattle.pc_coord.specs.Coordination.{Coordination, awaits_number}
use Rattle.pc_proto.specs.declared.answer.Answer.{Answer}
use Rattle.pc_proto.specs.declared.answer.Answer.TheVariants as answers
use Rattle.pc_world.specs.Known.{Known}

-- Nothing is heard of the message of this number, which is waited for. The session knows no more by that.
pub record LosesAwaited (c : Coordination) (number : ℕ) (k : Known) : Type 0 where
  pub waited : awaits_number number c.due ≡ true

-- The puts that wait once the open commit gave up by this answer: none where its transaction restarts.
abbrev pub later_left : Answer → List LaterPut → List LaterPut
later_left (answers.Restart key ts) later = []
later_left _ later = later
