use Rattle.std.proofs.Common.{sym, subst}
use Rattle.std.proofs.lemmas.Result.{on_ok_weaker}
use Rattle.pc_allow.proofs.NextOne.{begins_next, sends_next}
use Rattle.pc_allow.proofs.allow.AllowClient.add.Goals as goal
use Rattle.pc_known.specs.Calls.{BeginsNext}

pub learn-requires : goal.learn-requires
learn-requires c =
    let r = c.requires in
    subst (λ n. BeginsNext n c.args.entry.now.event) (sym r.kept.known.calls.begun) (begins_next r.head r.actor r.known c.args.entry.now.event r.may)

pub returns : goal.returns
returns c head actor k keeps may =
    on_ok_weaker c.learn.result
    (λ known. record { whose = keeps.whose; cut = keeps.cut; known = known })
    (c.learn.ensures k keeps.known (sends_next head actor k c.args.entry.now.event may))
