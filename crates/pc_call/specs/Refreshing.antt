-- What follows the refreshes of a commit.
use Rattle.std.specs.Prelude.{⊤}
use Rattle.pc_proto.specs.declared.answer.Answer.{Answer}
use Rattle.pc_proto.specs.declared.answer.Answer.TheVariants as answers

-- The answer says that the transaction restarts.
abbrev pub IsRestart : Answer → Type 0
IsRestart (answers.Restart key ts) = ⊤
IsRestart _ = ⊥
