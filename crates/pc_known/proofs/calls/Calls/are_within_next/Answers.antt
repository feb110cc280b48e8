use Rattle.std.proofs.Common.{◌↔◌, ◌+◌, ◌≤◌, All, IsTrue, subst}
use Rattle.pc_proto.specs.Stamps.{request_stamps}
use Rattle.pc_known.proofs.calls.Calls.are_within_next.Goals as goal

pub returns : goal.returns
returns c k keeps = subst (λ top. IsTrue c.are_within_next.result ↔ All (λ ts. ts ≤ top + 1) (request_stamps c.args.request.now)) keeps.top c.are_within_next.ensures
