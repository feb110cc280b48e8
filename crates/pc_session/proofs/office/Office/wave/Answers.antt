use Rattle.std.proofs.Common.{◌∙◌}
use Rattle.std.proofs.lemmas.Result.{err_from_is_err_and}
use Rattle.pc_session.proofs.Ending.{inside_breaks}
use Rattle.pc_session.proofs.Hearing.{wave_ends}
use Rattle.pc_session.proofs.Inside.{inside_both}
use Rattle.pc_session.proofs.office.Office.wave.Goals as goal

pub deliver-requires-clause-whole : goal.deliver-requires-clause-whole
deliver-requires-clause-whole g c κs within = c.in_ok-join_awaited.ensures.whole

pub deliver-requires-clause-none_waits : goal.deliver-requires-clause-none_waits
deliver-requires-clause-none_waits g c κs within = c.in_ok-join_awaited.ensures.none_waits

pub loop-init : goal.loop-init
loop-init g c = (
  c.in_ok-deliver.ensures.calls,
  inside_both c.args.self.now c.join_awaited.new.self c.deliver.new.self c.in_ok-join_awaited.ensures.goes c.in_ok-deliver.ensures.goes,
  c.in_ok-deliver.ensures.clock ∙ c.in_ok-join_awaited.ensures.clock,
  c.in_ok-deliver.ensures.all,
  c.in_ok-deliver.ensures.whole,
)

pub returns-in_err-deliver-clause-ended : goal.returns-in_err-deliver-clause-ended
returns-in_err-deliver-clause-ended g c =
    let p = err_from_is_err_and c.from_residual-in_err-deliver.result c.from_residual-in_err-deliver.ensures.1 in
    rw (p.1, p.2) (inside_breaks c.args.self.now c.join_awaited.new.self c.deliver.new.self.desk c.in_err-deliver.field-0.0 c.in_ok-join_awaited.ensures.calls.track c.in_err-deliver.ensures.ended c.in_ok-join_awaited.ensures.goes)

pub hear-requires-clause-none_waits : goal.hear-requires-clause-none_waits
hear-requires-clause-none_waits g c = c.loop.invariant.3

pub returns-then-not-branch-clause-ok : goal.returns-then-not-branch-clause-ok
returns-then-not-branch-clause-ok g c = (
  c.in_ok-hear.ensures.calls,
  inside_both c.args.self.now _ c.hear.new.self c.loop.invariant.1 c.in_ok-hear.ensures.goes,
  wave_ends c.hear.new.self c.args.reading c.in_ok-hear.ensures.calls c.in_ok-hear.ensures.whole (c.in_ok-hear.ensures.posted ∙ c.loop.invariant.3) (c.in_ok-hear.ensures.none cc),
)

pub loop-preserved : goal.loop-preserved
loop-preserved g c = (c.in_ok-hear.ensures.calls, inside_both c.args.self.now _ c.hear.new.self c.loop.invariant.1 c.in_ok-hear.ensures.goes, c.in_ok-hear.ensures.clock ∙ c.loop.invariant.2, c.in_ok-hear.ensures.posted ∙ c.loop.invariant.3, c.in_ok-hear.ensures.whole)

pub returns-in_err-hear-clause-ended : goal.returns-in_err-hear-clause-ended
returns-in_err-hear-clause-ended g c =
    let p = err_from_is_err_and c.from_residual-in_err-hear.result c.from_residual-in_err-hear.ensures.1 in
    rw (p.1, p.2) (inside_breaks c.args.self.now c.loop.self c.hear.new.self.desk c.in_err-hear.field-0.0 c.loop.invariant.0.track c.in_err-hear.ensures.ended c.loop.invariant.1)
