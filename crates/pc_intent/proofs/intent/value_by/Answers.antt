use Rattle.std.proofs.Common.{ℕ, List, Option, leb, arith, rules}
use Rattle.std.proofs.lemmas.Grind.{common_steps}
use Rattle.std.proofs.lemmas.List.Sorted.{IsPartitionPoint-from_clause, IsPartitionedBy-leb}
use Rattle.pc_intent.proofs.Rising.{value_by_is}
use Rattle.pc_intent.proofs.intent.value_by.Goals as goal

pub returns-in_err-write : goal.returns-in_err-write
returns-in_err-write c =
    let is = value_by_is c.args.seq c.args.intent.now c.as_slice-history.result.now c.partition_point-count.result c.as_slice-history.ensures c.requires
    (λ up. IsPartitionPoint-from_clause (λ (w : ℕ × Option (List ℕ)). leb w.0 c.args.seq) _ _ c.partition_point-count.ensures.partitioned (IsPartitionedBy-leb (λ (w : ℕ × Option (List ℕ)). w.0) _ c.args.seq up) (λ a r q k. search rules)) in
    grind (arith, common_steps)

pub returns : goal.returns
returns c =
    let is = value_by_is c.args.seq c.args.intent.now c.as_slice-history.result.now c.partition_point-count.result c.as_slice-history.ensures c.requires
    (λ up. IsPartitionPoint-from_clause (λ (w : ℕ × Option (List ℕ)). leb w.0 c.args.seq) _ _ c.partition_point-count.ensures.partitioned (IsPartitionedBy-leb (λ (w : ℕ × Option (List ℕ)). w.0) _ c.args.seq up) (λ a r q k. search rules)) in
    grind (arith, common_steps)
