use Rattle.std.proofs.Common.{sym, ◌∙◌}
use Rattle.pc_report.proofs.Writing.{restarted}
use Rattle.pc_report.proofs.writes.Writes.restarted.Goals as goal

pub returns-then-id-session-clause-puts : goal.returns-then-id-session-clause-puts
returns-then-id-session-clause-puts c =
    restarted c.args.self.now (record { puts = c.remove.new.self; last = c.args.self.now.last }) c.args.session c.in-Some.id
    (sym c.get.ensures.value ∙ (sym c.copied.ensures ∙ c.in-Some.is)) c.if-id-session.true c.remove.ensures.updates
