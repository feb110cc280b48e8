-- The keys that were settled. Own profile.
use Rattle.std.specs.Prelude.{◌≡◌, ℕ, Bool, false, ◌&&◌, ◌||◌, List}
use Rattle.std.specs.BTreeSet.{contains}
use Rattle.std.specs.Cmp.Lexicographic.{slice_cmp}
use Rattle.std.specs.declared.cmp.Ordering.{Ordering}
use Rattle.std.specs.List.{list_any}
use Rattle.std.specs.Ordering.{nat_cmp, ordering_then}
use Rattle.pc_base.specs.declared.transaction.TxnId.{TxnId}
use Rattle.pc_base.specs.Span.{same_key}
use Rattle.pc_base.specs.Transaction.{same_txn, txn_cmp}
use Rattle.pc_files.specs.declared.settled_keys.SettledKeys.{SettledKeys}
use Rattle.pc_proto.specs.declared.reply.Reply.{Reply}
use Rattle.pc_proto.specs.declared.reply.Reply.TheVariants as replies
use Rattle.pc_proto.specs.declared.request.Request.{Request}
use Rattle.pc_proto.specs.declared.request.Request.TheVariants as requests
use Rattle.pc_world.specs.Known.Traffic.{Heard}

-- By transaction, then by key.
abbrev pub settled_key_cmp : TxnId × List ℕ → TxnId × List ℕ → Ordering
settled_key_cmp one other = ordering_then (txn_cmp one.0 other.0) (slice_cmp nat_cmp one.1 other.1)

-- The request asked to settle the intent at the key for the transaction, and was told that it is.
abbrev pub is_resolve_told : TxnId → List ℕ → Request → Reply → Bool
is_resolve_told id key (requests.Resolve other place fate) replies.Resolved = same_txn other id && same_key place key
is_resolve_told id key _ _ = false

-- By this reply the intent at the key was settled for the transaction.
abbrev pub settles_key : TxnId → List ℕ → Heard → Bool
settles_key id key h = is_resolve_told id key h.request h.reply

-- The keys are those that were settled, by these replies.
abbrev pub AreSettledKeys : List Heard → SettledKeys → Type 0
AreSettledKeys heard x = (id : TxnId) (key : List ℕ) → contains settled_key_cmp x.places (id, key) ≡ list_any (settles_key id key) heard

-- This key of the transaction is one of them too.
abbrev pub IsPlaceAdded : TxnId → List ℕ → SettledKeys → SettledKeys → Type 0
IsPlaceAdded other place old new = (id : TxnId) (key : List ℕ) → contains settled_key_cmp new.places (id, key) ≡ (contains settled_key_cmp old.places (id, key) || (same_txn other id && same_key place key))

-- The key that this reply says to be settled is one of them too, if it says so of one.
abbrev pub SettlesMore : Heard → SettledKeys → SettledKeys → Type 0
SettlesMore h old new = (id : TxnId) (key : List ℕ) → contains settled_key_cmp new.places (id, key) ≡ (contains settled_key_cmp old.places (id, key) || settles_key id key h)
