use Rattle.pc_world.proofs.Kept.{run_has_room}
use Rattle.pc_world.proofs.laws.sent_requests_have_room.Goals as goal

pub returns : goal.returns
returns c head history id e request run short there is = run_has_room head id history e request run short there is
