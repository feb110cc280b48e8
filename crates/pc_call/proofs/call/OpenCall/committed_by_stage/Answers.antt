use Rattle.std.proofs.Common.{sym, subst}
use Rattle.pc_call.proofs.ByStage.{committed_in_call}
use Rattle.pc_call.specs.Finished.{MayTellOver}
use Rattle.pc_call.proofs.call.OpenCall.committed_by_stage.Goals as goal

pub returns-clause-over : goal.returns-clause-over
returns-clause-over c = λ session clock begun n set k counted w stages answered is.
    subst (MayTellOver set session k) (sym c.over_committed.ensures) (committed_in_call set session k c.args.txn c.args.self.purpose c.args.self.wave w n stages is)
