-- A request that says nothing of a transaction.
use Rattle.std.specs.Prelude.{◌≡◌, false}
use Rattle.pc_base.specs.declared.transaction.TxnId.{TxnId}
use Rattle.pc_proto.specs.declared.request.Request.{Request}
use Rattle.pc_proto.specs.Requests.{is_about, is_put_by}
use Rattle.pc_txn.specs.Standing.{is_query_of}

-- The request speaks of no record of this transaction, and neither puts a write of it nor asks for one.
pub record LeavesAlone (id : TxnId) (request : Request) : Type 0 where
  pub about : is_about id request ≡ false
  pub put : is_put_by id request ≡ false
  pub query : is_query_of id request ≡ false
