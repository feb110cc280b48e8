-- A range's read bound, and the least timestamp at which somebody may write above it. Timestamp cache of the SIGMOD 2020
-- paper; one bound for each range is this project's own profile.
use Rattle.std.specs.Prelude.{ℕ, ◌+◌, max, nat_lt, Bool, false, if◌then◌else◌, Option, None, Some}
use Rattle.pc_base.specs.declared.transaction.TxnId.{TxnId}
use Rattle.pc_base.specs.Transaction.{same_txn}

-- What has been read of a range: nobody but its owner may write at or below this timestamp, and the owner not below it.
pub record ReadBound : Type 0 where
  pub ts : ℕ
  pub owner : Option TxnId

-- Nothing has been read yet.
abbrev pub no_bound : ReadBound
no_bound = record { ts = 0; owner = None }

-- Two owners of one timestamp leave it to neither, unless they are the same transaction.
abbrev pub shared_owner : Option TxnId → Option TxnId → Option TxnId
shared_owner (Some one) (Some other) = if same_txn one other then Some one else None
shared_owner _ _ = None

-- Who owns the bound after a read at this timestamp: the reader where it is greater, nobody new where it is lower.
abbrev pub owner_after : ℕ → Option TxnId → ReadBound → Option TxnId
owner_after ts reader bound =
    if nat_lt bound.ts ts then reader
    else if nat_lt ts bound.ts then bound.owner
    else shared_owner bound.owner reader

-- The bound after a read at this timestamp, by this transaction or on behalf of nobody.
abbrev pub raised : ℕ → Option TxnId → ReadBound → ReadBound
raised ts reader bound = record { ts = max bound.ts ts; owner = owner_after ts reader bound }

-- The writer is the owner, where there is one.
abbrev pub is_owner : TxnId → Option TxnId → Bool
is_owner writer None = false
is_owner writer (Some owner) = same_txn owner writer

-- The transaction owns the bound.
abbrev pub owns : TxnId → ReadBound → Bool
owns writer bound = is_owner writer bound.owner

-- The least timestamp that the bound leaves to this writer: the bound itself to its owner, else the one above it.
abbrev pub free_from : TxnId → ReadBound → ℕ
free_from writer bound = if owns writer bound then bound.ts else bound.ts + 1

-- The least timestamp, not below the one asked for, that the bound leaves to this writer.
abbrev pub least_write : ReadBound → ℕ → TxnId → ℕ
least_write bound ts writer = max ts (free_from writer bound)
