-- The number of the first put of each write. Own profile.
use Rattle.std.specs.Prelude.{◌≡◌, ℕ, Bool, ◌&&◌, ◌==◌, if◌then◌else◌, Option, None, Some, List, find}
use Rattle.std.specs.BTreeMap.{BTreeMap, get}
use Rattle.std.specs.declared.cmp.Ordering.{Ordering}
use Rattle.std.specs.Option.{option_map, option_or}
use Rattle.std.specs.Ordering.{nat_cmp, ordering_then}
use Rattle.pc_base.specs.declared.transaction.TxnId.{TxnId}
use Rattle.pc_base.specs.Transaction.{same_txn, txn_cmp}
use Rattle.pc_files.specs.declared.firsts.Firsts.{Firsts}
use Rattle.pc_proto.specs.declared.request.Request.{Request}
use Rattle.pc_proto.specs.Requests.{is_put_of}
use Rattle.pc_world.specs.Known.Traffic.{Sent}

-- By transaction, then by epoch, then by sequence.
abbrev pub write_cmp : TxnId × ℕ × ℕ → TxnId × ℕ × ℕ → Ordering
write_cmp one other = ordering_then (ordering_then (txn_cmp one.0 other.0) (nat_cmp one.1 other.1)) (nat_cmp one.2 other.2)

-- The two are one write.
abbrev pub is_same_write : TxnId × ℕ × ℕ → TxnId × ℕ × ℕ → Bool
is_same_write one other = same_txn one.0 other.0 && (one.1 == other.1 && one.2 == other.2)

-- The number of the first put of this write among these messages.
abbrev pub first_put_of : TxnId → ℕ → ℕ → List Sent → Option ℕ
first_put_of id epoch seq sent = option_map (λ m. m.number) (find (λ m. is_put_of id epoch seq m.request) sent)

-- The number, for the puts of this write alone.
abbrev pub number_if : Bool → ℕ → Option ℕ
number_if b number = if b then Some number else None

-- Each write among these messages has the number of its first put.
abbrev pub AreFirstPuts : List Sent → Firsts → Type 0
AreFirstPuts sent x = (id : TxnId) (epoch seq : ℕ) → get write_cmp x.numbers (id, epoch, seq) ≡ first_put_of id epoch seq sent

-- The number is kept for this write, unless it has one.
abbrev pub IsFirstKept : TxnId × ℕ × ℕ → ℕ → BTreeMap (TxnId × ℕ × ℕ) ℕ → BTreeMap (TxnId × ℕ × ℕ) ℕ → Type 0
IsFirstKept write number old new = (id : TxnId) (epoch seq : ℕ) → get write_cmp new (id, epoch, seq) ≡ option_or (get write_cmp old (id, epoch, seq)) (number_if (is_same_write write (id, epoch, seq)) number)

-- The number is kept for the write that the request puts, unless it has one.
abbrev pub KeepsFirst : ℕ → Request → Firsts → Firsts → Type 0
KeepsFirst number request old new = (id : TxnId) (epoch seq : ℕ) → get write_cmp new.numbers (id, epoch, seq) ≡ option_or (get write_cmp old.numbers (id, epoch, seq)) (number_if (is_put_of id epoch seq request) number)
