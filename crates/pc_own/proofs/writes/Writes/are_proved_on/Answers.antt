use Rattle.std.proofs.Common.{◌≡◌, ◌↔◌, All, IsTrue, List, false, subst, ◌∙◌}
use Rattle.pc_base.specs.Span.{same_key}
use Rattle.pc_known.proofs.Exact.{both}
use Rattle.pc_own.proofs.Unproved.{all_clear}
use Rattle.pc_own.proofs.writes.Writes.are_proved_on.Goals as goal
use Rattle.pc_world.specs.Known.Writes.{Write, is_proved, listed_as, unproved}

pub returns : goal.returns
returns c =
    let key = c.args.key.now in
    both
    (subst (λ fs. IsTrue c.none_on.result ↔ All (λ one. same_key one.0 key ≡ false) fs) (c.as_slice.ensures.value ∙ c.self.invariant.flying) c.none_on.ensures)
    (subst (λ (ws : List Write). All (λ one. same_key one.0 key ≡ false) (listed_as (unproved c.self.inside.writes.items)) ↔ All (λ w. IsTrue (same_key w.key key) → IsTrue (is_proved w)) ws) c.self.view_is (all_clear (λ k. same_key k key) c.self.inside.writes.items))
