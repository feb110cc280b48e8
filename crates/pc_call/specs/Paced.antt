-- The rounds of an open call's conflicts keep pace with them.
use Rattle.std.specs.Prelude.{◌≡◌, ℕ, ◌+◌, ◌≤◌, Bool, true, None, Some, List, count_by}
use Rattle.pc_base.specs.declared.transaction.TxnId.{TxnId}
use Rattle.pc_base.specs.Transaction.{same_txn}
use Rattle.pc_proto.specs.declared.request.Request.{Request}
use Rattle.pc_proto.specs.Replies.{is_conflict_with}
use Rattle.pc_proto.specs.Requests.{goal_in, is_push_of, round_of}
use Rattle.pc_wave.specs.Standing.{goes_beside}
use Rattle.pc_world.specs.Counting.{AtLeast}
use Rattle.pc_world.specs.Known.Traffic.{Heard}
use Rattle.pc_world.specs.SameRequest.{IsSameRequest}

-- A push of this transaction was heard.
abbrev pub was_pushed : TxnId → Heard → Bool
was_pushed id h = is_push_of id h.request

-- A conflict with this transaction was heard.
abbrev pub was_met : TxnId → Heard → Bool
was_met id h = is_conflict_with id h.reply

-- The request is one that a round of this transaction's asks for behind the push, beside the waves of the call: a query, a recovery or a resolve.
pub record IsBehindPushOf (id : TxnId) (request : Request) : Type 0 where
  pub about : round_of request ≡ Some id
  pub no_push : goal_in request ≡ None
  pub beside : goes_beside request ≡ true

-- No request of a round of this transaction's was heard more often than the pushes that it stands behind.
abbrev pub KeepsBehindPushes : TxnId → List Heard → Type 0
KeepsBehindPushes id heard_now =
    (request : Request) → IsBehindPushOf id request → (n : ℕ) → AtLeast (λ h. IsSameRequest request h.request) n heard_now
    → n ≤ count_by (was_pushed id) heard_now

-- Of each transaction no more pushes were heard since the last call was asked than there were conflicts with it, but for those whose
-- rounds, of these holders, are still to be made; and no request of its rounds more often than pushes.
pub record IsPaced (pending : List TxnId) (heard_now : List Heard) : Type 0 where
  pub pushes : (id : TxnId) → count_by (was_pushed id) heard_now + count_by (λ other. same_txn other id) pending ≤ count_by (was_met id) heard_now
  pub behind : (id : TxnId) → KeepsBehindPushes id heard_now
