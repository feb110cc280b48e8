-- What a put comes to in a range, by the intent at its key and the least timestamp that the range's versions and read bound leave it.
use Rattle.std.proofs.Common.{◌≡◌, ℕ, Bool, true, false, max, not, if◌then◌else◌, List, Option, None, Some, refl, ap, arith}
use Rattle.pc_base.specs.Bound.{least_write}
use Rattle.pc_base.specs.Transaction.{same_txn}
use Rattle.pc_base.specs.Versions.{above_newest}
use Rattle.pc_intent.specs.Coming.{comes_to}
use Rattle.pc_proto.specs.declared.meta.TxnMeta.{TxnMeta}
use Rattle.pc_proto.specs.declared.record.Intent.{Intent}
use Rattle.pc_proto.specs.Intents.{intent_at, kept_if}
use Rattle.pc_world.specs.Evaluation.Put.{Lands, Meets, Stands, first_outcome, is_overtaken_by, laid, outcome_of_put, own_outcome}
use Rattle.pc_world.specs.RangeState.{RangeState}

max-of-three : (a b c : ℕ) → max (max a b) c ≡ max a (max b c)
max-of-three a b c = omega arith

max-of-two : (a b : ℕ) → max a b ≡ max a (max b 0)
max-of-two a b = omega arith

pub comes_as : (meta : TxnMeta) (seq ts : ℕ) (key : List ℕ) (value : Option (List ℕ)) (s : RangeState)
    → comes_to meta seq (max (least_write s.bound ts meta.id) (above_newest key s.versions)) value (intent_at key s.intents) ≡ outcome_of_put meta seq ts key value s
comes_as meta seq ts key value s = by (intent_at key s.intents)
  where
    by : (o : Option Intent) → comes_to meta seq (max (least_write s.bound ts meta.id) (above_newest key s.versions)) value o
        ≡ first_outcome (kept_if (λ i. not (same_txn i.meta.id meta.id)) o) (own_outcome meta seq ts key value (kept_if (λ i. same_txn i.meta.id meta.id) o) s)
    by None = ap (λ n. Lands (laid meta seq n value None)) (max-of-two (least_write s.bound ts meta.id) (above_newest key s.versions))
    by (Some i) = by-same (same_txn i.meta.id meta.id)
      where
        by-same : (same : Bool) → (if same then (if is_overtaken_by meta seq i then Stands i.ts else Lands (laid meta seq (max (max (least_write s.bound ts meta.id) (above_newest key s.versions)) i.ts) value (Some i))) else Meets i)
            ≡ first_outcome (if not same then Some i else None) (own_outcome meta seq ts key value (if same then Some i else None) s)
        by-same true = ap (λ n. if is_overtaken_by meta seq i then Stands i.ts else Lands (laid meta seq n value (Some i))) (max-of-three (least_write s.bound ts meta.id) (above_newest key s.versions) i.ts)
        by-same false = refl
