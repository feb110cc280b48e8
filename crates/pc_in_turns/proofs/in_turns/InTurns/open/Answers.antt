use Rattle.std.proofs.Common.{subst}
use Rattle.std.proofs.lemmas.Result.{on_ok_weaker}
use Rattle.pc_in_turns.proofs.Whole.{opened}
use Rattle.pc_in_turns.specs.declared.task.Task.TheVariants as tasks
use Rattle.pc_in_turns.specs.Moving.{HaveGoneOn, IsTask}
use Rattle.pc_in_turns.proofs.in_turns.InTurns.open.Goals as goal

pub returns : goal.returns
returns g c =
    on_ok_weaker c.go.result
    (λ gone. opened g.C.Clock.rule c.args.self.now c.requires c.go.new.self
    (subst (λ t. HaveGoneOn g.C.Clock.rule (IsTask c.args.self.now.work (tasks.Open t.work.opening) 0) c.args.self.now c.go.new.self) c.self.view_is gone))
    c.go.ensures.gone
