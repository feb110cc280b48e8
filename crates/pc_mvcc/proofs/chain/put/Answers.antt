use Rattle.std.proofs.Common.{◌≡◌, ℕ, nat_le, List, sym, ap, subst, ◌∙◌, rules}
use Rattle.std.proofs.lemmas.List.Sorted.{IsPartitionPoint-from_clause, IsPartitionedBy-leb}
use Rattle.std.specs.List.{insert}
use Rattle.pc_base.specs.Versions.{with_version}
use Rattle.pc_base.specs.declared.version.Version.{Version}
use Rattle.pc_mvcc.proofs.Rising.{chain_with, put_at}
use Rattle.pc_mvcc.specs.Chains.{IsChain}
use Rattle.pc_mvcc.proofs.chain.put.Goals as goal

pub returns-clause-ok : goal.returns-clause-ok
returns-clause-ok c =
    let xs : List Version = c.args.chain.now.items in
    let ys : List Version = c.deref.result.now in
    let v : Version = c.args.version in
    let place : ℕ = c.partition_point-place.result in
    let same : ys ≡ xs = c.deref.ensures.value in
    let chain : IsChain v.key ys = subst (IsChain v.key) (sym same) c.requires in
    let point = IsPartitionPoint-from_clause (λ w. nat_le w.ts v.ts) ys place c.partition_point-place.ensures.partitioned (IsPartitionedBy-leb (λ w. w.ts) ys v.ts chain.rising) (λ a r q k. search rules) in
    c.in_ok-insert.ensures.items ∙ (ap (λ (zs : List Version). insert zs place v) (sym same)
    ∙ (put_at v ys place chain.own c.partition_point-place.ensures.bound point ∙ ap (λ (zs : List Version). with_version zs v) same))

pub returns-clause-chain : goal.returns-clause-chain
returns-clause-chain c =
    let xs : List Version = c.args.chain.now.items in
    let ys : List Version = c.deref.result.now in
    let v : Version = c.args.version in
    let place : ℕ = c.partition_point-place.result in
    let same : ys ≡ xs = c.deref.ensures.value in
    let chain : IsChain v.key ys = subst (IsChain v.key) (sym same) c.requires in
    let point = IsPartitionPoint-from_clause (λ w. nat_le w.ts v.ts) ys place c.partition_point-place.ensures.partitioned (IsPartitionedBy-leb (λ w. w.ts) ys v.ts chain.rising) (λ a r q k. search rules) in
    subst (IsChain v.key) (ap (λ (zs : List Version). insert zs place v) same ∙ sym c.in_ok-insert.ensures.items) (chain_with v ys place chain c.partition_point-place.ensures.bound point)
