use Rattle.std.proofs.Common.{◌↔◌, Any, IsTrue, List, subst}
use Rattle.pc_may_send.proofs.refresh.holds_own.Goals as goal
use Rattle.pc_world.specs.Known.Reads.{Read, holds_span}

pub returns : goal.returns
returns c = subst (λ (rs : List Read). IsTrue c.holds_some.result ↔ Any (λ r. IsTrue (holds_span c.args.span.now r.span)) rs) c.reads.ensures c.holds_some.ensures
