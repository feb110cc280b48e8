use Rattle.std.proofs.Common.{◌≡◌, List, filter, fold, map, ap, ◌∙◌, rules}
use Rattle.std.proofs.lemmas.Map.Iter.{iter_end}
use Rattle.std.specs.BTreeSet.{insert_key}
use Rattle.std.specs.Cmp.Lexicographic.{slice_cmp}
use Rattle.std.specs.Map.Iter.{deref_pair}
use Rattle.std.specs.Ordering.{nat_cmp}
use Rattle.pc_base.specs.declared.version.Version.{Version}
use Rattle.pc_base.specs.Span.{contains}
use Rattle.pc_mvcc.proofs.Joined.{Chain}
use Rattle.pc_mvcc.proofs.Spans.{entries_of_span, keys_of_chains}
use Rattle.pc_mvcc.specs.Chains.{with_key_of}
use Rattle.pc_mvcc.proofs.versions.Versions.add_keys.Goals as goal

pub returns : goal.returns
returns c =
    let es = c.self.inside.chains.entries in
    let inside = c.range-key-items.ensures.between tt ∙ entries_of_span c.args.span.now _ _ es c.bounds.ensures in
    let all : map deref_pair c.loop-key.yielded ≡ c.range-key-items.result = search (rules, iter_end) in
    c.loop-key.invariant
    ∙ (ap (λ (es : List Chain). fold (λ keys e. with_key_of e.0 e.1.items keys) c.args.keys.now.keys es) (all ∙ inside)
    ∙ (keys_of_chains c.args.span.now c.args.keys.now.keys es c.self.invariant.each
    ∙ ap (λ vs. fold (insert_key (slice_cmp nat_cmp)) c.args.keys.now.keys (filter (contains c.args.span.now) (map (λ (v : Version). v.key) vs))) c.self.view_is))
