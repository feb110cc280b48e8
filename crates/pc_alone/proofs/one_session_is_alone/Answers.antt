use Rattle.pc_alone.proofs.OneAlone.{is_alone}
use Rattle.pc_alone.proofs.one_session_is_alone.Goals as goal

pub returns : goal.returns
returns c = is_alone
