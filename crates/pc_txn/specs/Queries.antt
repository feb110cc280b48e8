-- The query of a write of the open transaction.
use Rattle.std.specs.Prelude.{ℕ, List}
use Rattle.pc_base.specs.declared.transaction.Who.TheVariants as whos
use Rattle.pc_proto.specs.declared.request.Request.{Request}
use Rattle.pc_proto.specs.declared.request.Request.TheVariants as requests
use Rattle.pc_txn.specs.declared.txn.OpenTxn.{OpenTxn}

-- It asks for the write of this key and sequence at the write timestamp, in the transaction's own name.
abbrev pub own_query : OpenTxn → List ℕ → ℕ → Request
own_query x key seq = requests.Query x.id x.epoch seq x.write_ts key (whos.Txn x.id)
