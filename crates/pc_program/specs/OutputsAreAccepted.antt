-- A law of the two modes: what mode run writes is accepted. Own profile.
use Rattle.std.specs.Prelude.{◌≡◌, ℕ, Bool, List}
use Rattle.pc_base.specs.declared.actor.ActorId.{ActorId}
use Rattle.pc_program.specs.Output.{IsOutput}
use Rattle.pc_verdict.specs.declared.verdict.Verdict.{Verdict}
use Rattle.pc_verdict.specs.declared.verdict.Verdict.TheVariants as verdicts
use Rattle.pc_verdict.specs.Verdicts.{IsVerdictOf}
use Rattle.pc_work.specs.declared.workload.Workload.{Workload}

-- Of the output of a workload it is right that it is a run with its report, and no other verdict is.
abbrev pub OutputsAreAccepted : Type 0
OutputsAreAccepted =
    (work : Workload) (rules : ActorId → ℕ → ℕ → Bool) (text : List ℕ) → IsOutput work rules text
    → IsVerdictOf text verdicts.Run × ((verdict : Verdict) → IsVerdictOf text verdict → verdict ≡ verdicts.Run)
