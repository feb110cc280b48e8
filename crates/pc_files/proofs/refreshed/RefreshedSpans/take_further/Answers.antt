use Rattle.std.proofs.Common.{◌≡◌, ℕ, cond, Option, Some, ap, ◌∙◌, rules}
use Rattle.std.specs.Ordering.{is_eq}
use Rattle.pc_base.specs.declared.span.Span.{Span}
use Rattle.pc_files.proofs.refreshed.RefreshedSpans.take_further.Goals as goal
use Rattle.pc_files.specs.RefreshedSpans.{txn_span_cmp, way_further, way_of}
use Rattle.pc_known.specs.Parts.{part_span}

pub returns : goal.returns
returns c other place =
    let id = c.args.id in
    let made = part_span c.part_of.result in
    let old = way_of other place c.args.self.now in
    let was : c.copied.result ≡ way_of id made c.args.self.now = search rules in
    let had = was ∙ ap (λ (s : Span). way_of id s c.args.self.now) c.part_of.ensures in
    c.in_ok-insert.ensures.updates.0 (other, place)
    ∙ ap (λ (s : Span). cond (is_eq (txn_span_cmp (id, s) (other, place))) (Some c.way_further-way.result) old) c.part_of.ensures
    ∙ ap (λ (w : ℕ × ℕ). cond (is_eq (txn_span_cmp (id, c.args.span.now) (other, place))) (Some w) old) (c.way_further-way.ensures ∙ ap (λ (o : Option (ℕ × ℕ)). way_further o c.args.from c.args.to) had)
