-- How the transactions change with an entry of their session.
use Rattle.std.specs.Prelude.{◌≡◌, ℕ, suc, ◌<◌, ◌==◌, if◌then◌else◌, Option, None, Some, List, length, slice_index_or, slice_set}
use Rattle.std.specs.Option.{option_or}
use Rattle.pc_proto.specs.declared.request.Request.{Request}
use Rattle.pc_proto.specs.declared.request.Request.TheVariants as requests
use Rattle.pc_world.specs.Known.Transactions.{Txn, with_lock}
use Rattle.pc_world.specs.Known.Writes.{with_put}

-- The transaction after it sent a put of its own, of this epoch.
abbrev pub with_own_put : ℕ → ℕ → ℕ → List ℕ → Option (List ℕ) → Txn → Txn
with_own_put epoch seq ts key value t = record t {
  anchor = option_or t.anchor (Some key);
  locks = with_lock key t.locks;
  writes = if epoch == t.epoch then with_put seq ts key value t.writes else t.writes;
}

-- The number of the transaction that sending the request may change.
abbrev pub writer_of : Request → Option ℕ
writer_of (requests.Put meta seq ts key value) = Some meta.id.number
writer_of (requests.Stage meta ts now writes locks) = Some meta.id.number
writer_of (requests.Commit meta ts locks) = Some meta.id.number
writer_of _ = None

-- The number of the transaction that a reply to the request may change.
abbrev pub raised_by : Request → Option ℕ
raised_by (requests.Put meta seq ts key value) = Some meta.id.number
raised_by (requests.Beat meta ts now) = Some meta.id.number
raised_by (requests.Stage meta ts now writes locks) = Some meta.id.number
raised_by (requests.Commit meta ts locks) = Some meta.id.number
raised_by (requests.Query id epoch seq ts key by) = Some id.number
raised_by _ = None

-- Of the transactions in the order of their begins, the one of this number changes so, if it is there, and no other.
pub record ChangesAt (number : ℕ) (f : Txn → Txn) (before after : List Txn) : Type 0 where
  pub there : (place : ℕ) (d : Txn) → number ≡ suc place → place < length before → after ≡ slice_set before place (f (slice_index_or before place d))
  pub absent : number ≡ 0 → after ≡ before
  pub past : length before < number → after ≡ before
