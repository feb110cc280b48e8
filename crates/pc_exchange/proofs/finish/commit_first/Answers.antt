use Rattle.std.proofs.Common.{IfOk, sym, subst}
use Rattle.pc_exchange.proofs.Finishing.{commit_asks}
use Rattle.pc_exchange.specs.Exchange.{MayExchangeNow, WasExchanged}
use Rattle.pc_exchange.proofs.finish.commit_first.Goals as goal

pub exchange-requires : goal.exchange-requires
exchange-requires g c = subst (MayExchangeNow c.args.desk.now) (sym c.in-Ok.ensures) (commit_asks c.args.desk.now c.args.job.now c.args.ts c.requires.may c.requires.first)

pub returns-clause-ok : goal.returns-clause-ok
returns-clause-ok g c = subst (λ q. IfOk c.exchange.result (λ reply. WasExchanged c.args.desk.now c.exchange.new.desk q reply)) c.in-Ok.ensures c.exchange.ensures.ok
