-- What the lemmas on staged transactions speak of: which writes were refuted, why a transaction is committed, and what its session
-- knows of its stages.
use Rattle.std.proofs.Common.{◌≡◌, ℕ, ◌<◌, ◌≤◌, ◌⊎◌, Option, None, Some, List, Contains}
use Rattle.pc_base.specs.declared.actor.ActorId.TheVariants as actors
use Rattle.pc_base.specs.declared.entry.Entry.{Entry}
use Rattle.pc_base.specs.declared.transaction.TxnId.{TxnId}
use Rattle.pc_implicit.specs.Decided.{decision}
use Rattle.pc_implicit.specs.Replied.{QueryMissed, WasWritten}
use Rattle.pc_implicit.specs.Stages.{IsOpenTo, IsThere, WasStaged, WasThere}
use Rattle.pc_implicit.specs.Writes.{home_of, txns_of}
use Rattle.pc_proto.specs.declared.call.Call.TheVariants as calls
use Rattle.pc_proto.specs.declared.event.Event.{Event}
use Rattle.pc_proto.specs.declared.event.Event.TheVariants as events
use Rattle.pc_proto.specs.declared.meta.TxnMeta.{TxnMeta}
use Rattle.pc_proto.specs.declared.record.Record.{Record}
use Rattle.pc_proto.specs.declared.record.Standing.TheVariants as standings
use Rattle.pc_proto.specs.declared.request.Request.TheVariants as requests
use Rattle.pc_proto.specs.Place.{Place, Kept}
use Rattle.pc_proto.specs.RecordRows.Reached.{status_of}
use Rattle.pc_world.specs.After.{known_at}
use Rattle.pc_world.specs.Committed.{IsCommitted, anchor_in, told_at}
use Rattle.pc_world.specs.Known.{call_of, open_txn}
use Rattle.pc_world.specs.Known.Traffic.{Heard}
use Rattle.pc_world.specs.Known.Transactions.{Txn}
use Rattle.pc_world.specs.Known.Writes.{IsProvedBy, Write}
use Rattle.pc_world.specs.Local.{Head}
use Rattle.pc_world.specs.StageFate.{IsDead, SentStage}
use Rattle.pc_world.specs.Tell.End.{IsImplicit}

-- The transaction sent a stage of this epoch and timestamp with these writes.
pub record WasStagedAs (history : List (Entry Event)) (id : TxnId) (epoch ts : ℕ) (writes : List (List ℕ × ℕ)) : Type 0 where
  pub stage : SentStage
  pub sent : WasStaged history stage
  pub whose : stage.meta.id ≡ id
  pub epoch_is : stage.meta.epoch ≡ epoch
  pub ts_is : stage.ts ≡ ts
  pub writes_are : stage.writes ≡ writes

-- The write was written above this timestamp.
pub record WasAbove (history : List (Entry Event)) (s : SentStage) (w : List ℕ × ℕ) : Type 0 where
  pub at : ℕ
  pub above : s.ts < at
  pub written : WasWritten history s.meta.id s.meta.epoch w.0 w.1 at

-- A write of the stage was refuted: it was written above the staged timestamp, or a query missed it there.
abbrev pub WasRefuted : List (Entry Event) → SentStage → List ℕ × ℕ → Type 0
WasRefuted history s w = WasAbove history s w ⊎ QueryMissed history s.meta.id s.meta.epoch w.0 w.1 s.ts

-- Some listed write of the stage was refuted.
pub record SomeRefuted (history : List (Entry Event)) (s : SentStage) : Type 0 where
  pub write : List ℕ × ℕ
  pub listed : Contains s.writes write
  pub refuted : WasRefuted history s write

-- Some listed write of the stage was refuted, and was present at no time since the stage was sent.
pub record FailsSo (head : Head) (history : List (Entry Event)) (s : SentStage) : Type 0 where
  pub write : List ℕ × ℕ
  pub listed : Contains s.writes write
  pub refuted : WasRefuted history s write
  pub never : WasThere head history s write → ⊥

-- Present or fails: a listed write of an open stage that was once present is so, or else the stage fails.
abbrev pub AllStand : Head → List (Entry Event) → Type 0
AllStand head history =
    (s : SentStage) → IsOpenTo head history s → (w : List ℕ × ℕ) → Contains s.writes w → WasThere head history s w
    → (IsThere head history s w → ⊥) → (FailsSo head history s → ⊥) → ⊥

-- A put of the stage's transaction at this key that is newer than the stage's write there: of a later epoch, or of its epoch with a
-- later sequence.
pub record IsNewerPut (s : SentStage) (w : List ℕ × ℕ) (meta : TxnMeta) (seq : ℕ) : Type 0 where
  pub whose : meta.id ≡ s.meta.id
  pub epoch_reached : s.meta.epoch ≤ meta.epoch
  pub seq_past : meta.epoch ≡ s.meta.epoch → w.1 < seq

-- Where a newer put of a listed write of an open stage was sent, some listed write was refuted.
abbrev pub LaterIsRefuted : Head → List (Entry Event) → Type 0
LaterIsRefuted head history =
    (s : SentStage) → WasStaged history s → IsOpenTo head history s → (w : List ℕ × ℕ) → Contains s.writes w
    → (send : Entry Event) → Contains history send → (number range : ℕ) (meta : TxnMeta) (seq ts : ℕ) (value : Option (List ℕ))
    → send.event ≡ events.Send number range (requests.Put meta seq ts w.0 value) → IsNewerPut s w meta seq → SomeRefuted history s

-- A stage that is open and known dead, or known late, has a refuted write.
abbrev pub RefutedIf : (List Heard → SentStage → Type 0) → Head → List (Entry Event) → Type 0
RefutedIf IsSo head history =
    (s : SentStage) → WasStaged history s → IsOpenTo head history s → IsSo (known_at head (actors.Session s.meta.id.session) history).heard s
    → SomeRefuted history s

-- The record of the stage's transaction is this one, and it stages so.
pub record StagesAs (s : SentStage) (r : Record) : Type 0 where
  pub staging : r.status.standing ≡ standings.Staging
  pub epoch_is : r.status.epoch ≡ s.meta.epoch
  pub ts_is : r.status.ts ≡ s.ts
  pub writes_are : r.writes ≡ s.writes

-- The transaction is committed by this stage: its record stages so, and each listed write is present.
pub record CommitsBy (head : Head) (history : List (Entry Event)) (s : SentStage) : Type 0 where
  pub sent : WasStaged history s
  pub r : Record
  pub home : home_of head s.meta.id history ≡ Kept r
  pub stages : StagesAs s r
  pub present : (w : List ℕ × ℕ) → Contains s.writes w → IsThere head history s w

-- Why a transaction is committed: its record or mark says so, its record stages and every listed write is present, or, where it has
-- no anchor, it was told so.
pub data IsBecause (head : Head) (history : List (Entry Event)) (id : TxnId) (ts : ℕ) : Type 0 where
  ByDecision : (epoch : ℕ) → decision (home_of head id history) ≡ Some (status_of standings.Committed epoch ts) → IsBecause head history id ts
  ByStaging : (s : SentStage) → CommitsBy head history s → s.meta.id ≡ id → s.ts ≡ ts → IsBecause head history id ts
  ByTelling : anchor_in id history ≡ None → told_at id history ≡ Some ts → IsBecause head history id ts

-- What becomes of a staging by which its transaction is committed: it stages still, as before, or is decided committed there.
pub data StaysImplicit (s : SentStage) (p : Place) : Type 0 where
  StillStaged : (r : Record) → p ≡ Kept r → StagesAs s r → StaysImplicit s p
  NowCommitted : (epoch : ℕ) → decision p ≡ Some (status_of standings.Committed epoch s.ts) → StaysImplicit s p

-- A transaction that its session may tell committed, since its record was heard to stage and each of its writes is proved, is so.
abbrev pub ImplicitIsCommitted : Head → List (Entry Event) → Type 0
ImplicitIsCommitted head history =
    (t : Txn) (ts : ℕ) → let k = known_at head (actors.Session t.id.session) history in
    open_txn k ≡ Some t → call_of k ≡ Some calls.Commit → IsImplicit k t ts → IsCommitted head history t.id ts

-- Of a stage of a transaction's present epoch: each write at a listed key is listed or earlier, and each write is listed or proved
-- at or below the staged timestamp.
pub record ListsLast (t : Txn) (s : SentStage) : Type 0 where
  pub last : (x : List ℕ × ℕ) → Contains s.writes x → (w : Write) → Contains t.writes w → w.key ≡ x.0 → w.seq ≤ x.1
  pub covered : (w : Write) → Contains t.writes w → Contains s.writes (w.key, w.seq) ⊎ IsProvedBy s.ts w

-- What a session knows of a stage that it sent and of its transaction: the stage is of no later epoch, it is dead or lists what was
-- written last in the present epoch, and what it lists of the present epoch is what was written in it.
pub record IsKnownLast (heard : List Heard) (t : Txn) (s : SentStage) : Type 0 where
  pub epoch_low : s.meta.epoch ≤ t.epoch
  pub lists : IsDead heard s ⊎ ((s.meta.epoch ≡ t.epoch) × ListsLast t s)
  pub written : s.meta.epoch ≡ t.epoch → (x : List ℕ × ℕ) → Contains s.writes x → (w : Write) × Contains t.writes w × (w.key ≡ x.0) × (w.seq ≡ x.1)

-- So it is of each stage that was sent.
abbrev pub StagesLast : Head → List (Entry Event) → Type 0
StagesLast head history =
    (s : SentStage) → WasStaged history s → (t : Txn) → Contains (txns_of head s.meta.id history) t → t.id ≡ s.meta.id
    → IsKnownLast (known_at head (actors.Session s.meta.id.session) history).heard t s
