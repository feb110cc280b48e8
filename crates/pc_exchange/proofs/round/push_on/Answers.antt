use Rattle.std.proofs.Common.{max, sym, subst}
use Rattle.pc_exchange.proofs.Rounds.{round_on}
use Rattle.pc_exchange.specs.Rounding.{IsRoundUnderWay}
use Rattle.pc_exchange.proofs.round.push_on.Goals as goal

pub returns-in-Ok-clause-ok : goal.returns-in-Ok-clause-ok
returns-in-Ok-clause-ok g c = λ old pusher reading conflict reader ts under asks.
    subst (λ n. IsRoundUnderWay old pusher reading conflict reader c.heard.new.self c.exchange.new.desk (max ts n)) (sym c.last_stamp.ensures)
    (round_on old pusher reading conflict reader c.args.machine.now c.args.desk.now ts under c.heard.new.self c.exchange.new.desk c.args.request c.in_ok-reply.reply asks c.in_ok-reply.ensures.ok c.in-Ok.ensures.made c.in-Ok.ensures.knows)
