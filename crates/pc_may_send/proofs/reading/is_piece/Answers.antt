use Rattle.std.proofs.Common.{◌≡◌, ◌↔◌, ℕ, Any, IsTrue, List, subst, ◌∙◌}
use Rattle.pc_base.specs.declared.span.Span.{Span}
use Rattle.pc_known.proofs.Exact.{both}
use Rattle.pc_may_send.proofs.Existing.{piece_iff}
use Rattle.pc_may_send.proofs.reading.is_piece.Goals as goal
use Rattle.pc_world.specs.RangeOf.{pieces}

pub returns : goal.returns
returns c =
    let cut : c.as_slice.result.now ≡ pieces c.args.splits.now c.args.whole.now = c.as_slice.ensures.value ∙ c.in_ok-cut.ensures in
    both (subst (λ (ps : List (ℕ × Span)). IsTrue c.is_some_piece.result ↔ Any (λ p. p.1 ≡ c.args.span.now) ps) cut c.is_some_piece.ensures)
    (piece_iff (pieces c.args.splits.now c.args.whole.now) c.args.span.now)
