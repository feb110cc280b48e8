use Rattle.std.proofs.Common.{◌≡◌, ℕ, nat_le, List, None, fold, take, filter, sym, ap, ◌∙◌, rules}
use Rattle.std.proofs.lemmas.List.Sorted.{IsNonDecreasingBy-take, IsPartitionPoint-from_clause, IsPartitionedBy-leb}
use Rattle.pc_base.specs.declared.version.Version.{Version}
use Rattle.pc_base.specs.Versions.{later}
use Rattle.pc_mvcc.proofs.Rising.{filtered_to}
use Rattle.pc_mvcc.proofs.chain.latest_by.Goals as goal

pub latest-requires : goal.latest-requires
latest-requires c = IsNonDecreasingBy-take (λ v. v.ts) c.partition_point-count.result c.args.chain.now c.requires

pub returns : goal.returns
returns c =
    let xs : List Version = c.args.chain.now in
    let count : ℕ = c.partition_point-count.result in
    let point = IsPartitionPoint-from_clause (λ w. nat_le w.ts c.args.ts) xs count c.partition_point-count.ensures.partitioned (IsPartitionedBy-leb (λ w. w.ts) xs c.args.ts c.requires) (λ a r q k. search rules) in
    let kept : filter (λ w. nat_le w.ts c.args.ts) xs ≡ take count xs = filtered_to (λ w. nat_le w.ts c.args.ts) xs count c.partition_point-count.ensures.bound point in
    c.latest.ensures ∙ sym (ap (fold later None) kept)
