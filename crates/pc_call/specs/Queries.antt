-- A commit that asks for a write of its stage which is blocked: the query, what it stands on, and what comes of it. RFC 20180324.
use Rattle.std.specs.Prelude.{ℕ, if◌then◌else◌, Option, None, Some, List, [], ◌∷◌, find}
use Rattle.pc_base.specs.declared.transaction.TxnId.{TxnId}
use Rattle.pc_call.specs.declared.purpose.Purpose.{Purpose}
use Rattle.pc_call.specs.declared.purpose.Purpose.TheVariants as purposes
use Rattle.pc_proto.specs.declared.request.Request.{Request}
use Rattle.pc_proto.specs.declared.request.Request.TheVariants as requests
use Rattle.pc_txn.specs.declared.txn.OpenTxn.{OpenTxn}
use Rattle.pc_txn.specs.Opened.{missed_at, with_found}
use Rattle.pc_txn.specs.Queries.{own_query}
use Rattle.pc_wave.specs.declared.message.Message.{Message}
use Rattle.pc_wave.specs.Messages.{is_in_conflict}

-- The query of the write of this request, if it puts one.
abbrev pub query_of_put : Request → OpenTxn → Option Request
query_of_put (requests.Put meta seq ts key value) x = Some (own_query x key seq)
query_of_put _ x = None

abbrev pub query_by : Option Message → OpenTxn → Option Request
query_by None x = None
query_by (Some m) x = query_of_put m.request x

-- The query of the first of these writes that met an intent.
abbrev pub query_of_blocked : List Message → OpenTxn → Option Request
query_of_blocked messages x = query_by (find is_in_conflict messages) x

-- The messages without the first that met an intent.
abbrev pub without_blocked : List Message → List Message
without_blocked [] = []
without_blocked (m ∷ messages) = if is_in_conflict m then messages else m ∷ without_blocked messages

-- The transaction once the write of this request was found.
abbrev pub found_with : Request → OpenTxn → OpenTxn
found_with (requests.Put meta seq ts key value) x = with_found key seq x
found_with _ x = x

abbrev pub found_in : Option Message → OpenTxn → OpenTxn
found_in None x = x
found_in (Some m) x = found_with m.request x

-- The transaction once the first of these writes that met an intent was found.
abbrev pub found_blocked : List Message → OpenTxn → OpenTxn
found_blocked messages x = found_in (find is_in_conflict messages) x

-- The transaction once a query of this purpose found its write, or missed it at this step.
abbrev pub found_by : Purpose → OpenTxn → OpenTxn
found_by (purposes.Query refusals holder puts) x = found_blocked puts x
found_by _ x = x

-- Who blocks the write for which the purpose asks.
abbrev pub blocker_of : Purpose → Option TxnId
blocker_of (purposes.Query refusals holder puts) = Some holder
blocker_of _ = None

abbrev pub missed_if : Option TxnId → ℕ → OpenTxn → OpenTxn
missed_if None step x = x
missed_if (Some holder) step x = missed_at x.write_ts step x

abbrev pub missed_by : Purpose → ℕ → OpenTxn → OpenTxn
missed_by purpose step x = missed_if (blocker_of purpose) step x
