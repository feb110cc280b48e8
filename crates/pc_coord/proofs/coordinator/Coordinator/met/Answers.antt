use Rattle.std.proofs.Common.{◌≡◌, ℕ, max, sym, ap, ◌∙◌, subst}
use Rattle.pc_coord.proofs.Meeting.{met_knows}
use Rattle.pc_coord.specs.Coordination.{Coordination}
use Rattle.pc_coord.specs.declared.due.Due.TheVariants as dues
use Rattle.pc_coord.specs.Knows.{Knows}
use Rattle.pc_proto.specs.declared.answer.Answer.TheVariants as answers
use Rattle.pc_world.specs.Known.{learn}
use Rattle.pc_coord.proofs.coordinator.Coordinator.met.Goals as goal

pub returns-clause-knows : goal.returns-clause-knows
returns-clause-knows c = λ loses k p id step knows is.
    let learnt : ℕ → Coordination → Coordination = λ clock n. record n { clock = clock; due = dues.Tell answers.Learnt } in
    let heard : c.hear.new.self ≡ max c.args.self.now.clock c.args.ts = c.hear.ensures ∙ ap (λ (n : Coordination). max n.clock c.args.ts) c.self.view_is in
    subst (λ (n : Coordination). Knows loses (learnt c.hear.new.self n) (learn p k)) (sym c.self.view_is)
    (subst (λ (clock : ℕ). Knows loses (learnt clock c.args.self.now) (learn p k)) (sym heard) (met_knows loses c.args.self.now k p id step c.args.ts knows is))
