use Rattle.std.proofs.Common.{◌↔◌, IsTrue, subst}
use Rattle.std.specs.Result.{IfOk}
use Rattle.pc_allow.proofs.NextOne.{for_each}
use Rattle.pc_allow.proofs.allow.AllowClient.may.Goals as goal
use Rattle.pc_allow.specs.Keeping.{KeepsAllow}
use Rattle.pc_world.specs.Local.{MayDo}

pub returns-then-are_few : goal.returns-then-are_few
returns-then-are_few c =
    for_each c.may_next.result (λ head actor k. KeepsAllow head actor k c.args.self.now) (λ may head actor k. IsTrue may ↔ MayDo head actor k c.args.event.now)
    (λ head actor k keeps. subst (λ a. IfOk c.may_next.result (λ may. IsTrue may ↔ MayDo head a k c.args.event.now)) keeps.whose (c.may_next.ensures head k keeps.cut keeps.known))
