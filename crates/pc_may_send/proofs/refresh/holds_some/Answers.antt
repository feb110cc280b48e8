use Rattle.std.proofs.Common.{◌≡◌, ◌↔◌, Any, IsTrue, List, subst}
use Rattle.pc_may_send.proofs.refresh.holds_some.Goals as goal
use Rattle.pc_own.proofs.SpansRead.{read_held}
use Rattle.pc_world.specs.Known.Reads.{Read, holds_span}

pub returns-then-has : goal.returns-then-has
returns-then-has c = (λ ok. read_held c.args.reads.now c.args.span.now (c.has.ensures.0 c.if-has.true), λ m. c.if-has.true)

pub returns-else-has : goal.returns-else-has
returns-else-has c = subst (λ (rs : List Read). IsTrue c.holds_read.result ↔ Any (λ r. IsTrue (holds_span c.args.span.now r.span)) rs) c.as_slice.ensures c.holds_read.ensures
