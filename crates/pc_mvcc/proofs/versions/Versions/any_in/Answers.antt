use Rattle.std.proofs.Common.{◌≡◌, ◌++◌, ◌∷◌, [], filter, find, map, None, Some, sym, ap, subst, ◌∙◌, rules}
use Rattle.std.proofs.lemmas.List.{map-append}
use Rattle.std.proofs.lemmas.Map.Iter.{iter_end, iter_turn, rest_more, rest_so_far}
use Rattle.std.specs.List.Sorted.{IsNonDecreasingBy}
use Rattle.std.specs.Map.Iter.{deref_pair}
use Rattle.std.specs.Option.{is_some, option_and_then, option_copied}
use Rattle.pc_base.specs.Span.{contains}
use Rattle.pc_base.specs.Versions.{first_between}
use Rattle.pc_mvcc.proofs.Joined.{Chain}
use Rattle.pc_mvcc.proofs.Seen.{chain_at}
use Rattle.pc_mvcc.proofs.Spans.{entries_of_span, first_in_chains, found_next, found_none, has_one, lies_between}
use Rattle.pc_mvcc.proofs.versions.Versions.any_in.Goals as goal

pub between-requires : goal.between-requires
between-requires c =
    let es = c.self.inside.chains.entries in
    let start : c.into_iter-chain-iterator.result ≡ c.range-chain-items.result = search rules in
    let inside = start ∙ c.range-chain-items.ensures.between tt ∙ entries_of_span c.args.span.now _ _ es c.bounds.ensures in
    let turn = iter_turn deref_pair _ c.loop-chain.yielded _ _ _ _ inside c.loop-chain.yielded_by (c.in-Some.field-0-0, c.in-Some.chain) c.in-Some.is c.next.ensures.steps in
    let chain = chain_at c.args.span.now 0 es c.self.invariant _ (c.in-Some.field-0-0.now, c.in-Some.chain.now) turn.1 in
    subst (IsNonDecreasingBy (λ v. v.ts)) (sym c.deref.ensures.value) chain.rising

pub returns-in-Some-between : goal.returns-in-Some-between
returns-in-Some-between c =
    let es = c.self.inside.chains.entries in
    let one : Chain = (c.in-Some.field-0-0.now, c.in-Some.chain.now) in
    let start : c.into_iter-chain-iterator.result ≡ c.range-chain-items.result = search rules in
    let inside = start ∙ c.range-chain-items.ensures.between tt ∙ entries_of_span c.args.span.now _ _ es c.bounds.ensures in
    let split = sym inside ∙ (rest_so_far deref_pair c.loop-chain.yielded _ _ c.loop-chain.yielded_by
    ∙ ap (λ rest. map deref_pair c.loop-chain.yielded ++ rest) (rest_more deref_pair _ _ _ (c.in-Some.field-0-0, c.in-Some.chain) c.in-Some.is c.next.ensures.steps)) in
    let finds : find (lies_between c.args.from c.args.to) c.in-Some.chain.now.items ≡ Some c.in-Some-between.version.now =
    ap (find (lies_between c.args.from c.args.to)) (sym c.deref.ensures.value) ∙ (sym c.between.ensures ∙ ap option_copied c.in-Some-between.is) in
    let found : find (has_one c.args.from c.args.to) (filter (λ (e : Chain). contains c.args.span.now e.0) es) ≡ Some one =
    ap (find (has_one c.args.from c.args.to)) split
    ∙ found_next (has_one c.args.from c.args.to) (map deref_pair c.loop-chain.yielded) one _ c.loop-chain.invariant (ap is_some finds) in
    sym finds
    ∙ (ap (option_and_then (λ (e : Chain). find (lies_between c.args.from c.args.to) e.1.items)) (sym found)
    ∙ (sym (first_in_chains c.args.span.now c.args.from c.args.to es c.self.invariant) ∙ ap (first_between c.args.span.now c.args.from c.args.to) c.self.view_is))

pub loop-chain-preserved : goal.loop-chain-preserved
loop-chain-preserved c =
    let one : Chain = (c.in-Some.field-0-0.now, c.in-Some.chain.now) in
    let finds : find (lies_between c.args.from c.args.to) c.in-Some.chain.now.items ≡ None =
    ap (find (lies_between c.args.from c.args.to)) (sym c.deref.ensures.value) ∙ (sym c.between.ensures ∙ ap option_copied c.in_default.is) in
    ap (find (has_one c.args.from c.args.to)) (map-append deref_pair c.loop-chain.yielded ((c.in-Some.field-0-0, c.in-Some.chain) ∷ []))
    ∙ found_none (has_one c.args.from c.args.to) (map deref_pair c.loop-chain.yielded) one c.loop-chain.invariant (ap is_some finds)

pub returns : goal.returns
returns c =
    let es = c.self.inside.chains.entries in
    let inside = c.range-chain-items.ensures.between tt ∙ entries_of_span c.args.span.now _ _ es c.bounds.ensures in
    let all : map deref_pair c.loop-chain.yielded ≡ c.range-chain-items.result = search (rules, iter_end) in
    let none : find (has_one c.args.from c.args.to) (filter (λ (e : Chain). contains c.args.span.now e.0) es) ≡ None =
    ap (find (has_one c.args.from c.args.to)) (sym (all ∙ inside)) ∙ c.loop-chain.invariant in
    ap (option_and_then (λ (e : Chain). find (lies_between c.args.from c.args.to) e.1.items)) (sym none)
    ∙ (sym (first_in_chains c.args.span.now c.args.from c.args.to es c.self.invariant) ∙ ap (first_between c.args.span.now c.args.from c.args.to) c.self.view_is)
