use Rattle.std.proofs.Common.{◌≡◌, rules}
use Rattle.pc_staging.proofs.Hears.{beat_heard}
use Rattle.pc_staging.specs.Kept.{after_view}
use Rattle.pc_staging.proofs.staging.Staging.heard_beat.Goals as goal

pub returns-then-not-is_final-clause-stands : goal.returns-then-not-is_final-clause-stands
returns-then-not-is_final-clause-stands c = λ k now stages commit t h st hears at.
    let made : c.see.new.self ≡ after_view c.args.step c.args.view.now c.args.self.now = search rules in
    beat_heard k now stages commit t c.args.self.now st h hears.grown c.args.view.now hears c.args.step c.see.new.self at made

pub returns-else-not-is_final-clause-stands : goal.returns-else-not-is_final-clause-stands
returns-else-not-is_final-clause-stands c = λ k now stages commit t h st hears at.
    let made : c.args.self.now ≡ after_view c.args.step c.args.view.now c.args.self.now = search rules in
    beat_heard k now stages commit t c.args.self.now st h hears.grown c.args.view.now hears c.args.step c.args.self.now at made
