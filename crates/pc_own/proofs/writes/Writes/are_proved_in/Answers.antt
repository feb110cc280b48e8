use Rattle.std.proofs.Common.{◌≡◌, ◌↔◌, All, IsTrue, List, false, subst, ◌∙◌}
use Rattle.pc_base.specs.Span.{contains}
use Rattle.pc_known.proofs.Exact.{both}
use Rattle.pc_known.specs.Parts.{part_span}
use Rattle.pc_own.proofs.Unproved.{all_clear}
use Rattle.pc_own.proofs.writes.Writes.are_proved_in.Goals as goal
use Rattle.pc_world.specs.Known.Writes.{Write, is_proved, listed_as, unproved}

pub returns : goal.returns
returns c =
    let span = part_span c.args.span in
    both
    (subst (λ fs. IsTrue c.none_in.result ↔ All (λ one. contains span one.0 ≡ false) fs) (c.as_slice.ensures.value ∙ c.self.invariant.flying) c.none_in.ensures)
    (subst (λ (ws : List Write). All (λ one. contains span one.0 ≡ false) (listed_as (unproved c.self.inside.writes.items)) ↔ All (λ w. IsTrue (contains span w.key) → IsTrue (is_proved w)) ws) c.self.view_is (all_clear (contains span) c.self.inside.writes.items))
