-- What a put comes to by the intent at its key, where the range's versions and read bound leave it this timestamp.
-- SIGMOD 2020 paper, sections 3.1 and 3.3.
use Rattle.std.specs.Prelude.{ℕ, max, Bool, ◌&&◌, if◌then◌else◌, Option, None, Some, List}
use Rattle.pc_base.specs.Transaction.{same_txn}
use Rattle.pc_proto.specs.declared.meta.TxnMeta.{TxnMeta}
use Rattle.pc_proto.specs.declared.record.Intent.{Intent}
use Rattle.pc_world.specs.Evaluation.IntentChange.{IntentChange, Leave, Lay, Drop}
use Rattle.pc_world.specs.Evaluation.Put.{PutOutcome, Meets, Stands, Lands, is_overtaken_by, laid}

-- What it comes to: it meets another's intent, it stands already, or it lands, not below the own intent.
abbrev pub comes_to : TxnMeta → ℕ → ℕ → Option (List ℕ) → Option Intent → PutOutcome
comes_to meta seq ts value None = Lands (laid meta seq ts value None)
comes_to meta seq ts value (Some i) =
    if same_txn i.meta.id meta.id
    then (if is_overtaken_by meta seq i then Stands i.ts else Lands (laid meta seq (max ts i.ts) value (Some i)))
    else Meets i

-- The transaction's own write stands there already, or a later one of it does.
abbrev pub stands_already : TxnMeta → ℕ → Intent → Bool
stands_already meta seq i = same_txn i.meta.id meta.id && is_overtaken_by meta seq i

-- The intent after a change that does not drop it.
abbrev pub intent_then : IntentChange → Intent → Intent
intent_then Leave i = i
intent_then (Lay new) i = new
intent_then Drop i = i
