use Rattle.std.proofs.Common.{◌&&◌, nat_le, not, ℕ, List, filter, ap, ◌∙◌, rules, tests}
use Rattle.std.proofs.lemmas.Iterator.Consumers.{YieldsList-from_rest}
use Rattle.std.proofs.lemmas.Iterator.Search.{find_from_yields_List}
use Rattle.pc_base.specs.Span.{contains}
use Rattle.pc_base.specs.Transaction.{same_txn}
use Rattle.pc_proto.specs.declared.record.Intent.{Intent}
use Rattle.pc_proto.specs.Intents.{first_other}
use Rattle.pc_intent.proofs.FirstOther.{first_is_least, is_met}
use Rattle.pc_intent.proofs.InSpan.{entries_of_span, found_kept}
use Rattle.pc_intent.proofs.intents.Intents.first_other.Goals as goal

pub returns : goal.returns
returns c =
    let es : List (List ℕ × Intent) = c.self.inside.entries.entries in
    let inside = c.range.ensures.between tt ∙ entries_of_span c.args.span.now _ _ es c.bounds.ensures in
    find_from_yields_List (λ (e : List ℕ × Intent). nat_le e.1.ts c.args.ts && not (same_txn e.1.meta.id c.args.id)) _ _ _ c.find.ensures.ran
    (YieldsList-from_rest (filter (λ (e : List ℕ × Intent). contains c.args.span.now e.0) es) inside) (λ x b q k. search (rules, tests))
    ∙ (found_kept (λ (e : List ℕ × Intent). contains c.args.span.now e.0) (λ e. nat_le e.1.ts c.args.ts && not (same_txn e.1.meta.id c.args.id)) es
    ∙ (first_is_least (is_met c.args.span.now c.args.ts c.args.id) es c.self.invariant.keys
    ∙ ap (first_other c.args.span.now c.args.ts c.args.id) c.self.view_is))
