use Rattle.std.proofs.Common.{◌≡◌, ◌↔◌, Any, IsTrue, List, ap, sym, subst, ◌∙◌}
use Rattle.std.specs.BTreeSet.{contains}
use Rattle.pc_base.specs.SpanOrder.{span_cmp}
use Rattle.pc_own.proofs.reads.Reads.has.Goals as goal
use Rattle.pc_world.specs.Known.Reads.{Read}

pub returns : goal.returns
returns c =
    let span = c.args.span.now in
    let same : c.contains.result ≡ contains span_cmp c.self.inside.spans span = c.contains.ensures ∙ ap (contains span_cmp c.self.inside.spans) c.part_of.ensures in
    subst (λ (rs : List Read). IsTrue c.contains.result ↔ Any (λ r. r.span ≡ span) rs) c.self.view_is
    (subst (λ b. IsTrue b ↔ Any (λ r. r.span ≡ span) c.self.inside.reads.items) (sym same) (c.self.invariant span))
