use Rattle.std.proofs.Common.{◌≡◌, Some, rules}
use Rattle.pc_staging.proofs.Hears.{stage_heard}
use Rattle.pc_staging.specs.Kept.{Evidence, after_stage}
use Rattle.pc_staging.proofs.staging.Staging.heard_stage.Goals as goal

pub returns-then-is_final-clause-stands : goal.returns-then-is_final-clause-stands
returns-then-is_final-clause-stands c = λ k now stages commit t s h st there hears ts epoch step.
    let made : c.args.self.now ≡ after_stage c.args.epoch c.args.ts c.args.step c.args.view.now c.args.self.now = search rules in
    stage_heard k now stages commit t c.args.self.now st h hears.grown s c.args.view.now there hears c.args.epoch c.args.ts c.args.step c.args.self.now ts epoch step made

pub returns-then-is_staging-clause-stands : goal.returns-then-is_staging-clause-stands
returns-then-is_staging-clause-stands c = λ k now stages commit t s h st there hears ts epoch step.
    let left : Evidence = record { stages = c.self.inside.stages.items; staged = Some c.args.ts; undecided = c.self.inside.undecided; commit = c.self.inside.commit } in
    let made : left ≡ after_stage c.args.epoch c.args.ts c.args.step c.args.view.now c.args.self.now = search rules in
    stage_heard k now stages commit t c.args.self.now st h hears.grown s c.args.view.now there hears c.args.epoch c.args.ts c.args.step left ts epoch step made

pub returns-else-is_staging-clause-stands : goal.returns-else-is_staging-clause-stands
returns-else-is_staging-clause-stands c = λ k now stages commit t s h st there hears ts epoch step.
    let made : c.leave.new.self ≡ after_stage c.args.epoch c.args.ts c.args.step c.args.view.now c.args.self.now = search rules in
    stage_heard k now stages commit t c.args.self.now st h hears.grown s c.args.view.now there hears c.args.epoch c.args.ts c.args.step c.leave.new.self ts epoch step made
