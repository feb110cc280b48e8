use Rattle.std.proofs.Common.{◌≡◌, ℕ, List, filter, fold, map, sym, ap, ◌∙◌, rules}
use Rattle.std.proofs.lemmas.Map.Iter.{iter_end}
use Rattle.std.specs.BTreeSet.{insert_key}
use Rattle.std.specs.Cmp.Lexicographic.{slice_cmp}
use Rattle.std.specs.Map.Iter.{deref_pair}
use Rattle.std.specs.Ordering.{nat_cmp}
use Rattle.pc_base.specs.Span.{contains}
use Rattle.pc_proto.specs.declared.record.Intent.{Intent}
use Rattle.pc_intent.proofs.InSpan.{entries_of_span, keys_kept, with_key}
use Rattle.pc_intent.proofs.intents.Intents.add_keys.Goals as goal

pub loop-key-preserved : goal.loop-key-preserved
loop-key-preserved c =
    let front = c.loop-key.keys.keys in
    c.in_ok-insert.ensures.keys
    ∙ (ap (insert_key (slice_cmp nat_cmp) front) c.in_ok-copy.ensures
    ∙ (ap (λ (ks : List (List ℕ)). insert_key (slice_cmp nat_cmp) ks c.in-Some.key.now) c.loop-key.invariant
    ∙ sym (with_key (insert_key (slice_cmp nat_cmp)) deref_pair c.args.keys.now.keys c.loop-key.yielded (c.in-Some.key, c.in-Some.field-0-1))))

pub returns : goal.returns
returns c =
    let es : List (List ℕ × Intent) = c.self.inside.entries.entries in
    let inside = c.range-key-items.ensures.between tt ∙ entries_of_span c.args.span.now _ _ es c.bounds.ensures in
    let all : map deref_pair c.loop-key.yielded ≡ c.range-key-items.result = search (rules, iter_end) in
    c.loop-key.invariant
    ∙ (ap (λ (es : List (List ℕ × Intent)). fold (insert_key (slice_cmp nat_cmp)) c.args.keys.now.keys (map (λ e. e.0) es)) (all ∙ inside)
    ∙ (ap (fold (insert_key (slice_cmp nat_cmp)) c.args.keys.now.keys) (keys_kept (contains c.args.span.now) es)
    ∙ ap (λ (es : List (List ℕ × Intent)). fold (insert_key (slice_cmp nat_cmp)) c.args.keys.now.keys (filter (contains c.args.span.now) (map (λ e. e.0) es))) c.self.view_is))
