use Rattle.pc_implicit.proofs.laws.replies_have_kinds.Goals as goal
use Rattle.pc_implicit.proofs.ReplyKinds.{replies_have_kinds}

pub returns : goal.returns
returns c = replies_have_kinds
