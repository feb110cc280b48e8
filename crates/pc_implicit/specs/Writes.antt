-- What a transaction wrote at a key, and where its writes stand.
use Rattle.std.specs.Prelude.{◌≡◌, ℕ, ◌≤◌, max, ◌⊎◌, Option, None, Some, List, [], ◌∷◌, ◌++◌, Contains, filter, map}
use Rattle.pc_base.specs.declared.actor.ActorId.TheVariants as actors
use Rattle.pc_base.specs.declared.entry.Entry.{Entry}
use Rattle.pc_base.specs.declared.transaction.TxnId.{TxnId}
use Rattle.pc_base.specs.declared.version.Version.{Version}
use Rattle.pc_base.specs.Span.{same_key}
use Rattle.pc_implicit.specs.Decided.{decision, time_of}
use Rattle.pc_implicit.specs.Replied.{WasProven}
use Rattle.pc_proto.specs.declared.event.Event.{Event}
use Rattle.pc_proto.specs.declared.record.Intent.{Intent}
use Rattle.pc_proto.specs.Intents.{last_seq, own_at}
use Rattle.pc_proto.specs.Place.{Place, Nothing}
use Rattle.pc_world.specs.After.{known_at, place_at, state_at}
use Rattle.pc_world.specs.Committed.{IsCommitted, anchor_in}
use Rattle.pc_world.specs.Known.Transactions.{Txn}
use Rattle.pc_world.specs.Known.Writes.{Write}
use Rattle.pc_world.specs.Local.{Head}
use Rattle.pc_world.specs.RangeOf.{range_of}
use Rattle.pc_world.specs.Run.{IsRun}

-- What these writes lay at the key, each value under its sequence.
abbrev pub writes_on : List ℕ → List Write → List (ℕ × Option (List ℕ))
writes_on key writes = map (λ w. (w.seq, w.value)) (filter (λ w. same_key w.key key) writes)

-- The transactions of the session that began this one.
abbrev pub txns_of : Head → TxnId → List (Entry Event) → List Txn
txns_of head id history = (known_at head (actors.Session id.session) history).txns

-- What the range of this anchor has of a transaction.
abbrev pub place_under : Head → TxnId → List (Entry Event) → Option (List ℕ) → Place
place_under head id history None = Nothing
place_under head id history (Some anchor) = place_at head (range_of head.splits anchor) id history

-- What the range of the transaction's anchor has of it, nothing where it has no anchor.
abbrev pub home_of : Head → TxnId → List (Entry Event) → Place
home_of head id history = place_under head id history (anchor_in id history)

-- The transaction's own intent at the key, in the range of the key.
abbrev pub own_intent : Head → TxnId → List ℕ → List (Entry Event) → Option Intent
own_intent head id key history = own_at id key (state_at head (range_of head.splits key) history).intents

-- The intent has the first writes at the key of the transaction's epoch, at least one.
pub record IsFrontOf (t : Txn) (key : List ℕ) (i : Intent) : Type 0 where
  pub rest : List (ℕ × Option (List ℕ))
  pub whole : i.history ++ rest ≡ writes_on key t.writes
  pub first : ℕ × Option (List ℕ)
  pub some : Contains i.history first

-- The write stands as an intent of the epoch; while it is the intent's last one, that lies no higher than where it was written or
-- where the transaction's record has gone.
pub record StandsAsIntent (t : Txn) (home : Place) (seq ts : ℕ) (i : Intent) : Type 0 where
  pub epoch : i.meta.epoch ≡ t.epoch
  pub has : seq ≤ last_seq i
  pub low : last_seq i ≤ seq → i.ts ≤ max ts (time_of home)

-- The transaction's own intents are of its epochs so far; and while it is not decided, those of its present epoch have its first
-- writes at their keys, and what was written stands in them.
pub record OwnStand (head : Head) (history : List (Entry Event)) (t : Txn) (key : List ℕ) : Type 0 where
  pub reached : (i : Intent) → own_intent head t.id key history ≡ Some i → i.meta.epoch ≤ t.epoch
  pub front : decision (home_of head t.id history) ≡ None → (i : Intent) → own_intent head t.id key history ≡ Some i → i.meta.epoch ≡ t.epoch
      → IsFrontOf t key i
  pub written : decision (home_of head t.id history) ≡ None → (seq ts : ℕ) → WasProven history t.id t.epoch key seq ts
      → (i : Intent) × (own_intent head t.id key history ≡ Some i) × StandsAsIntent t (home_of head t.id history) seq ts i

-- What a transaction wrote in its epoch stands in its intents while it is not decided.
abbrev pub OwnIntentsStand : Type 0
OwnIntentsStand =
    (head : Head) (history : List (Entry Event)) (t : Txn) (key : List ℕ)
    → IsRun head history → Contains (txns_of head t.id history) t → OwnStand head history t key

-- Each proof that a session has of a write of its transaction's epoch is an answer to a put of it, or to a query that found it.
abbrev pub ProofsWereWritten : Type 0
ProofsWereWritten =
    (head : Head) (history : List (Entry Event)) (t : Txn) (w : Write) (ts : ℕ)
    → IsRun head history → Contains (txns_of head t.id history) t → Contains t.writes w → Contains w.proofs ts
    → WasProven history t.id t.epoch w.key w.seq ts

-- The intent is of the transaction's epoch, lies at or below the timestamp, and has all its writes at the key.
pub record IsWholeBy (t : Txn) (key : List ℕ) (ts : ℕ) (i : Intent) : Type 0 where
  pub epoch : i.meta.epoch ≡ t.epoch
  pub low : i.ts ≤ ts
  pub whole : i.history ≡ writes_on key t.writes

-- The transaction's last write at the key stands as a version at this timestamp, or all its writes there as an intent that is not
-- above it.
abbrev pub LastWriteStands : Head → List (Entry Event) → Txn → List ℕ → Option (List ℕ) → ℕ → Type 0
LastWriteStands head history t key value ts =
    Contains (state_at head (range_of head.splits key) history).versions (record { key = key; ts = ts; id = t.id; value = value })
    ⊎ ((i : Intent) × (own_intent head t.id key history ≡ Some i) × IsWholeBy t key ts i)

-- What a committed transaction wrote stands.
abbrev pub WritesOfCommitted : Type 0
WritesOfCommitted =
    (head : Head) (history : List (Entry Event)) (t : Txn) (ts : ℕ) (key : List ℕ)
    (front : List (ℕ × Option (List ℕ))) (seq : ℕ) (value : Option (List ℕ))
    → IsRun head history → Contains (txns_of head t.id history) t → IsCommitted head history t.id ts
    → writes_on key t.writes ≡ front ++ (seq, value) ∷ [] → LastWriteStands head history t key value ts

-- The version is the last write at its key of a transaction that is committed at its timestamp, in the key's range.
pub record IsOfCommitted (head : Head) (history : List (Entry Event)) (range : ℕ) (v : Version) : Type 0 where
  pub committed : IsCommitted head history v.id v.ts
  pub there : range ≡ range_of head.splits v.key
  pub t : Txn
  pub known : Contains (txns_of head v.id history) t
  pub whose : t.id ≡ v.id
  pub front : List (ℕ × Option (List ℕ))
  pub seq : ℕ
  pub last : writes_on v.key t.writes ≡ front ++ (seq, v.value) ∷ []

-- Each version is of a committed transaction.
abbrev pub VersionsAreCommitted : Type 0
VersionsAreCommitted =
    (head : Head) (history : List (Entry Event)) (range : ℕ) (v : Version)
    → IsRun head history → Contains (state_at head range history).versions v
    → IsOfCommitted head history range v
