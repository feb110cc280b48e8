use Rattle.pc_verdict.proofs.Bodies.{line_taken, malformed_taken}
use Rattle.pc_verdict.proofs.body.Body.read.Goals as goal

pub loop-line-preserved : goal.loop-line-preserved
loop-line-preserved c =
    line_taken c.args.lines.now c.loop-line.lines c.next.new.self c.in-Some.line c.in-Ok.line c.loop-line.body c.take.new.self c.loop-line.invariant c.in-Some.ensures c.in-Ok.is
    c.in_ok-take-in-Ok.ensures.entries c.in_ok-take-in-Ok.ensures.report

pub returns-in-Err-clause-unread : goal.returns-in-Err-clause-unread
returns-in-Err-clause-unread c =
    malformed_taken c.args.lines.now c.loop-line.lines c.next.new.self c.in-Some.line c.in-Err.field-0 c.loop-line.body c.loop-line.invariant c.in-Some.ensures c.in-Err.is
