use Rattle.std.proofs.Common.{◌≡◌, nat_le, List, ap, ◌∙◌, rules}
use Rattle.std.proofs.lemmas.List.Sorted.{IsPartitionPoint-from_clause, IsPartitionedBy-leb}
use Rattle.std.specs.Option.{option_copied}
use Rattle.pc_base.specs.declared.version.Version.{Version}
use Rattle.pc_mvcc.proofs.Rising.{inside_at, unless_above}
use Rattle.pc_mvcc.proofs.chain.between.Goals as goal

pub returns : goal.returns
returns c =
    let xs : List Version = c.args.chain.now in
    let place = c.partition_point-place.result in
    let point = IsPartitionPoint-from_clause (λ w. nat_le w.ts c.args.from) xs place c.partition_point-place.ensures.partitioned (IsPartitionedBy-leb (λ w. w.ts) xs c.args.from c.requires) (λ a r q k. search rules) in
    let low : option_copied c.filter.result ≡ unless_above c.args.from c.args.to (option_copied c.version_at.result) = search rules in
    low ∙ (ap (unless_above c.args.from c.args.to) c.version_at.ensures ∙ inside_at c.args.from c.args.to xs place c.requires c.partition_point-place.ensures.bound point)
