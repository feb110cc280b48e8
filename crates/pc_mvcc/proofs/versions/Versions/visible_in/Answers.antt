use Rattle.std.proofs.Common.{◌≡◌, List, None, Some, filter, fold, map, nat_le, sym, ap, subst, ◌∙◌, rules}
use Rattle.std.proofs.lemmas.Map.Iter.{iter_end, iter_turn}
use Rattle.std.specs.List.{filter_map}
use Rattle.std.specs.List.Sorted.{IsNonDecreasingBy}
use Rattle.std.specs.Map.{keys_of}
use Rattle.std.specs.Map.Iter.{deref_pair}
use Rattle.std.specs.Option.{option_copied}
use Rattle.pc_base.specs.declared.version.Version.{Version}
use Rattle.pc_base.specs.Span.{contains}
use Rattle.pc_base.specs.Versions.{later, visible}
use Rattle.pc_mvcc.proofs.Joined.{Chain}
use Rattle.pc_mvcc.proofs.Seen.{chain_at, seen_in_span, seen_with, seen_without, visible_at}
use Rattle.pc_mvcc.proofs.Spans.{entries_of_span}
use Rattle.pc_mvcc.specs.VisibleIn.{visible_in}
use Rattle.pc_mvcc.proofs.versions.Versions.visible_in.Goals as goal

pub latest_by-requires : goal.latest_by-requires
latest_by-requires c =
    let es = c.self.inside.chains.entries in
    let start : c.into_iter-chain-iterator.result ≡ c.range-chain-items.result = search rules in
    let inside = start ∙ c.range-chain-items.ensures.between tt ∙ entries_of_span c.args.span.now _ _ es c.bounds.ensures in
    let turn = iter_turn deref_pair _ c.loop-chain.yielded _ _ _ _ inside c.loop-chain.yielded_by (c.in-Some.field-0-0, c.in-Some.chain) c.in-Some.is c.next.ensures.steps in
    let chain = chain_at c.args.span.now c.args.ts es c.self.invariant _ (c.in-Some.field-0-0.now, c.in-Some.chain.now) turn.1 in
    subst (IsNonDecreasingBy (λ v. v.ts)) (sym c.deref.ensures.value) chain.rising

pub loop-chain-preserved-in-Continue-1 : goal.loop-chain-preserved-in-Continue-1
loop-chain-preserved-in-Continue-1 c =
    let es = c.self.inside.chains.entries in
    let start : c.into_iter-chain-iterator.result ≡ c.range-chain-items.result = search rules in
    let inside = start ∙ c.range-chain-items.ensures.between tt ∙ entries_of_span c.args.span.now _ _ es c.bounds.ensures in
    let turn = iter_turn deref_pair _ c.loop-chain.yielded _ _ _ _ inside c.loop-chain.yielded_by (c.in-Some.field-0-0, c.in-Some.chain) c.in-Some.is c.next.ensures.steps in
    let sees : visible c.in-Some.field-0-0.now c.args.ts c.args.self.now ≡ Some c.in-Some-latest_by.version.now =
    ap (visible c.in-Some.field-0-0.now c.args.ts) (sym c.self.view_is)
    ∙ (visible_at c.args.span.now c.args.ts es c.self.invariant _ (c.in-Some.field-0-0.now, c.in-Some.chain.now) turn.1
    ∙ (ap (λ vs. fold later None (filter (λ (v : Version). nat_le v.ts c.args.ts) vs)) (sym c.deref.ensures.value)
    ∙ (sym c.latest_by.ensures ∙ ap option_copied c.in-Some-latest_by.is))) in
    seen_with _ deref_pair (λ key. visible key c.args.ts c.args.self.now) c.loop-chain.yielded (c.in-Some.field-0-0, c.in-Some.chain)
    c.loop-chain.seen.items _ c.in-Some-latest_by.version c.loop-chain.invariant sees c.in_ok-push.ensures.items

pub loop-chain-preserved : goal.loop-chain-preserved
loop-chain-preserved c =
    let es = c.self.inside.chains.entries in
    let start : c.into_iter-chain-iterator.result ≡ c.range-chain-items.result = search rules in
    let inside = start ∙ c.range-chain-items.ensures.between tt ∙ entries_of_span c.args.span.now _ _ es c.bounds.ensures in
    let turn = iter_turn deref_pair _ c.loop-chain.yielded _ _ _ _ inside c.loop-chain.yielded_by (c.in-Some.field-0-0, c.in-Some.chain) c.in-Some.is c.next.ensures.steps in
    let none : visible c.in-Some.field-0-0.now c.args.ts c.args.self.now ≡ None =
    ap (visible c.in-Some.field-0-0.now c.args.ts) (sym c.self.view_is)
    ∙ (visible_at c.args.span.now c.args.ts es c.self.invariant _ (c.in-Some.field-0-0.now, c.in-Some.chain.now) turn.1
    ∙ (ap (λ vs. fold later None (filter (λ (v : Version). nat_le v.ts c.args.ts) vs)) (sym c.deref.ensures.value)
    ∙ (sym c.latest_by.ensures ∙ ap option_copied c.in_default.is))) in
    seen_without _ deref_pair (λ key. visible key c.args.ts c.args.self.now) c.loop-chain.yielded (c.in-Some.field-0-0, c.in-Some.chain) c.loop-chain.seen.items c.loop-chain.invariant none

pub returns : goal.returns
returns c =
    let es = c.self.inside.chains.entries in
    let inside = c.range-chain-items.ensures.between tt ∙ entries_of_span c.args.span.now _ _ es c.bounds.ensures in
    let all : map deref_pair c.loop-chain.yielded ≡ c.range-chain-items.result = search (rules, iter_end) in
    c.loop-chain.invariant
    ∙ (ap (λ (es : List Chain). filter_map (λ key. visible key c.args.ts c.args.self.now) (keys_of es)) (all ∙ inside)
    ∙ subst (λ (vs : List Version). filter_map (λ key. visible key c.args.ts vs) (keys_of (filter (λ (e : Chain). contains c.args.span.now e.0) es)) ≡ visible_in c.args.span.now c.args.ts vs) c.self.view_is
    (seen_in_span c.args.span.now c.args.ts es c.self.invariant))
