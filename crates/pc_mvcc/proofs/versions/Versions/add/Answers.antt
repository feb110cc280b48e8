use Rattle.std.proofs.Common.{◌≡◌, List, sym, ap, subst, ◌∙◌, rules}
use Rattle.std.proofs.lemmas.Result.{on_err_weaker, on_ok_weaker}
use Rattle.std.specs.BTreeMap.{insert_entry, is_at}
use Rattle.std.specs.Cmp.Lexicographic.{slice_cmp}
use Rattle.std.specs.Global.{Vec}
use Rattle.std.specs.Map.{lookup}
use Rattle.std.specs.Option.{unwrap_or}
use Rattle.std.specs.Ordering.{nat_cmp}
use Rattle.pc_base.specs.declared.version.Version.{Version}
use Rattle.pc_base.specs.Versions.{with_version}
use Rattle.pc_mvcc.proofs.Joined.{chain_there, chains_with, left_as_it_was, placed, versions_there}
use Rattle.pc_mvcc.specs.Chains.{AreChains, IsChain, joined}
use Rattle.pc_mvcc.proofs.versions.Versions.add.Goals as goal

pub put-requires : goal.put-requires
put-requires c =
    let es = c.self.inside.chains.entries in
    let v : Version = c.args.version in
    let old : c.or_insert-chain.result.now ≡ unwrap_or (lookup (is_at (slice_cmp nat_cmp v.key)) es) c.new.result = search rules in
    subst (IsChain v.key) (sym (ap (λ (c : Vec Version). c.items) old ∙ versions_there (lookup (is_at (slice_cmp nat_cmp v.key)) es) c.new.result c.new.ensures.items)) (chain_there v.key es c.self.invariant)

pub invariant_of-self-2 : goal.invariant_of-self-2
invariant_of-self-2 c =
    let es = c.self.inside.chains.entries in
    let e = c.in_ok-place.ensures.update.1 c.put.new.chain in
    subst AreChains (search rules) (chains_with c.args.version c.put.new.chain es c.put.ensures.chain c.self.invariant)

pub returns-clause-ok : goal.returns-clause-ok
returns-clause-ok c =
    let es = c.self.inside.chains.entries in
    let v : Version = c.args.version in
    let old : c.or_insert-chain.result.now ≡ unwrap_or (lookup (is_at (slice_cmp nat_cmp v.key)) es) c.new.result = search rules in
    let there = ap (λ (c : Vec Version). c.items) old ∙ versions_there (lookup (is_at (slice_cmp nat_cmp v.key)) es) c.new.result c.new.ensures.items in
    let e = c.in_ok-place.ensures.update.1 c.put.new.chain in
    on_ok_weaker c.put.result
    (λ grown.
    let whole : joined (insert_entry (slice_cmp nat_cmp) es v.key c.put.new.chain) ≡ with_version c.args.self.now v = placed v c.put.new.chain es c.self.invariant (grown ∙ ap (λ (vs : List Version). with_version vs v) there) ∙ ap (λ (vs : List Version). with_version vs v) c.self.view_is in
    search rules)
    c.put.ensures.ok

pub returns-clause-err : goal.returns-clause-err
returns-clause-err c =
    let es = c.self.inside.chains.entries in
    let v : Version = c.args.version in
    let old : c.or_insert-chain.result.now ≡ unwrap_or (lookup (is_at (slice_cmp nat_cmp v.key)) es) c.new.result = search rules in
    let there = ap (λ (c : Vec Version). c.items) old ∙ versions_there (lookup (is_at (slice_cmp nat_cmp v.key)) es) c.new.result c.new.ensures.items in
    let e = c.in_ok-place.ensures.update.1 c.put.new.chain in
    on_err_weaker c.put.result
    (λ same.
    let whole : joined (insert_entry (slice_cmp nat_cmp) es v.key c.put.new.chain) ≡ c.args.self.now = left_as_it_was v c.put.new.chain es c.self.invariant (same ∙ there) ∙ c.self.view_is in
    search rules)
    c.put.ensures.err
