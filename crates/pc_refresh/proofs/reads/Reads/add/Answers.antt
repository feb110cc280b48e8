use Rattle.std.proofs.Common.{Contains, sym, subst, ap, ◌∙◌}
use Rattle.std.specs.BTreeSet.{insert_key}
use Rattle.pc_base.specs.SpanOrder.{span_cmp}
use Rattle.pc_refresh.proofs.Held.{inserted_has, inserted_keeps}
use Rattle.pc_refresh.proofs.SameSpan.{same_span}
use Rattle.pc_refresh.proofs.reads.Reads.add.Goals as goal

pub returns-clause-ok : goal.returns-clause-ok
returns-clause-ok c =
    c.in_ok-insert.ensures.keys
    ∙ (ap (insert_key span_cmp c.self.inside.spans.keys) c.new.ensures ∙ ap (λ spans. insert_key span_cmp spans c.args.span) c.self.view_is)

pub returns-clause-covered : goal.returns-clause-covered
returns-clause-covered c = subst (λ spans. Contains spans c.args.span) (sym (returns-clause-ok c)) (inserted_has span_cmp same_span c.args.span c.args.self.now)

pub returns-clause-kept : goal.returns-clause-kept
returns-clause-kept c other h = subst (λ spans. Contains spans other) (sym (returns-clause-ok c)) (inserted_keeps span_cmp same_span c.args.span c.args.self.now other h)
