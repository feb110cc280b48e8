use Rattle.std.proofs.Common.{ap, inl, inr}
use Rattle.pc_world.specs.Named.{names}
use Rattle.pc_check.proofs.EarlierEntries.{names_nothing}
use Rattle.pc_check.proofs.causes.named.Goals as goal

pub returns-in-Ask : goal.returns-in-Ask
returns-in-Ask c head run sends =
    elim c.in-Ask.is [
      | inl ask ↦ names_nothing head c.args.before.now c.args.event.now (λ e. ap (λ event. names event e) ask.2)
      | inr other ↦ elim other [
        | inl send ↦ names_nothing head c.args.before.now c.args.event.now (λ e. ap (λ event. names event e) send.3)
        | inr tell ↦ names_nothing head c.args.before.now c.args.event.now (λ e. ap (λ event. names event e) tell.1)
      ]
    ]
