use Rattle.std.proofs.Common.{◌≡◌, ℕ, ◌-◌, length, nat_lt, List, Some, None, slice_get, sym, ◌∙◌, rules}
use Rattle.std.proofs.lemmas.List.Sorted.{IsPartitionPoint-from_clause, IsPartitionedBy-ltb}
use Rattle.pc_base.specs.declared.version.Version.{Version}
use Rattle.pc_mvcc.proofs.Rising.{greatest_at, last_is_greatest, none_is_low, place_is_inside}
use Rattle.pc_mvcc.proofs.chain.latest.Goals as goal

pub returns : goal.returns
returns c =
    let xs : List Version = c.args.chain.now in
    let v : Version = c.in_ok-last.last.now in
    let place : ℕ = c.partition_point-place.result in
    let is : slice_get xs (length xs - 1) ≡ Some v = sym c.in_ok-last.ensures.value in
    let point = IsPartitionPoint-from_clause (λ w. nat_lt w.ts v.ts) xs place c.partition_point-place.ensures.partitioned (IsPartitionedBy-ltb (λ w. w.ts) xs v.ts c.requires) (λ a r q k. search rules) in
    c.version_at.ensures ∙ greatest_at v.ts None xs place (none_is_low v.ts) point (last_is_greatest xs v c.requires is) (place_is_inside xs v place is c.partition_point-place.ensures.bound point)
