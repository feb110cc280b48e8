use Rattle.std.proofs.Common.{ℕ, List, ap, ◌∙◌}
use Rattle.std.specs.List.{list_any}
use Rattle.std.specs.Map.Iter.{deref_pair}
use Rattle.pc_base.specs.Span.{contains}
use Rattle.pc_proto.specs.declared.record.Intent.{Intent}
use Rattle.pc_intent.proofs.InSpan.{entries_of_span, there_if_first}
use Rattle.pc_intent.proofs.intents.Intents.any_in.Goals as goal

pub returns : goal.returns
returns c =
    let es : List (List ℕ × Intent) = c.self.inside.entries.entries in
    let inside = c.range.ensures.between tt ∙ entries_of_span c.args.span.now _ _ es c.bounds.ensures in
    c.is_some.ensures
    ∙ (there_if_first deref_pair (λ (e : List ℕ × Intent). contains c.args.span.now e.0) es c.range.result c.next.new.self c.next.result inside c.next.ensures.steps
    ∙ ap (list_any (λ (e : List ℕ × Intent). contains c.args.span.now e.0)) c.self.view_is)
