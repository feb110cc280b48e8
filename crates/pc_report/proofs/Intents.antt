-- A transaction's own intents are left alone by requests of others.
use Rattle.std.proofs.Common.{◌≡◌, ℕ, Bool, false, List, Option, None, Some, refl}
use Rattle.pc_base.specs.declared.transaction.TxnId.{TxnId}
use Rattle.pc_base.specs.Transaction.{same_txn}
use Rattle.pc_implicit.proofs.OwnKeys.{put-stays, resolve-stays}
use Rattle.pc_proto.specs.declared.request.Request.{Request}
use Rattle.pc_proto.specs.declared.request.Request.TheVariants as requests
use Rattle.pc_proto.specs.Intents.{own_at}
use Rattle.pc_report.specs.Replaying.{touched}
use Rattle.pc_world.specs.Evaluation.{intents_after}
use Rattle.pc_world.specs.RangeState.{RangeState}

-- The transaction is this one, if there is one.
abbrev pub is_one : TxnId → Option TxnId → Bool
is_one id None = false
is_one id (Some other) = same_txn other id

-- a request of another transaction leaves the transaction's own intents as they are
pub own_stays : (id : TxnId) (k : List ℕ) (request : Request) (s : RangeState) → is_one id (touched request) ≡ false → own_at id k (intents_after request s) ≡ own_at id k s.intents
own_stays id k (requests.Put meta seq ts key value) s apart = put-stays id k meta seq ts key value s apart
own_stays id k (requests.Resolve one key fate) s apart = resolve-stays id k one key fate s apart
own_stays id k request s apart = refl
