-- What a read, and a refresh that held, leave for good: no write of another transaction comes at or below their timestamp.
use Rattle.std.specs.Prelude.{◌≡◌, ◌⊎◌, ℕ, ◌<◌, ◌≤◌, ◌++◌, ◌∷◌, Some, List, All, Contains, IsTrue}
use Rattle.pc_base.specs.Bound.{free_from}
use Rattle.pc_base.specs.declared.actor.ActorId.TheVariants as actors
use Rattle.pc_base.specs.declared.entry.Entry.{Entry}
use Rattle.pc_base.specs.declared.span.Span.{Span}
use Rattle.pc_base.specs.declared.span.Span.TheVariants.{One}
use Rattle.pc_base.specs.declared.transaction.TxnId.{TxnId}
use Rattle.pc_base.specs.declared.version.Version.{Version}
use Rattle.pc_base.specs.Span.{contains}
use Rattle.pc_history.specs.Own.{named_in}
use Rattle.pc_proto.specs.declared.event.Event.{Event}
use Rattle.pc_proto.specs.declared.reply.Reply.{Reply}
use Rattle.pc_proto.specs.declared.reply.Reply.TheVariants as replies
use Rattle.pc_proto.specs.declared.request.Request.{Request}
use Rattle.pc_proto.specs.declared.request.Request.TheVariants as requests
use Rattle.pc_world.specs.After.{state_at}
use Rattle.pc_world.specs.Known.Traffic.{reply_in}
use Rattle.pc_world.specs.Local.{Head}
use Rattle.pc_world.specs.Named.{request_named}
use Rattle.pc_world.specs.RangeState.{RangeState}
use Rattle.pc_world.specs.Run.{IsRun, protocol}

-- After this history the range evaluated a request, and its request and reply are so.
pub record RangeEvaluated (head : Head) (before : List (Entry Event)) (range : ℕ) (P : Request → Reply → Type 0) (e : Entry Event) : Type 0 where
  pub evaluated : e.actor ≡ actors.Range range
  pub request : Request
  pub asked : request_named (named_in (protocol head) before e.event) ≡ Some request
  pub reply : Reply
  pub told : reply_in e.event ≡ Some reply
  pub is : P request reply

-- The transaction read the span at this timestamp: a get found what stands at its one key, or a scan the rows of its piece.
abbrev pub IsReadOfSpan : TxnId → Span → ℕ → Request → Reply → Type 0
IsReadOfSpan id span ts (requests.Get reader epoch seq at key) (replies.Value origin value) =
    (reader ≡ id) × (span ≡ One key) × (at ≡ ts)
IsReadOfSpan id span ts (requests.Scan reader epoch seq at piece) (replies.Rows rows) =
    (reader ≡ id) × (span ≡ piece) × (at ≡ ts)
IsReadOfSpan id span ts _ _ = ⊥

-- What the transaction read of the span at the first timestamp was refreshed to the second.
abbrev pub IsRefreshOfSpan : TxnId → Span → ℕ → ℕ → Request → Reply → Type 0
IsRefreshOfSpan id span from to (requests.Refresh reader at_from at_to piece) replies.Refreshed =
    (reader ≡ id) × (span ≡ piece) × (at_from ≡ from) × (at_to ≡ to)
IsRefreshOfSpan id span from to _ _ = ⊥

-- After this history the range evaluated a read of the span at this timestamp, and answered what it found.
abbrev pub Reads : Head → List (Entry Event) → ℕ → TxnId → Span → ℕ → Entry Event → Type 0
Reads head before range id span ts e = RangeEvaluated head before range (IsReadOfSpan id span ts) e

-- After this history the range evaluated a refresh of the span, and answered that it held.
abbrev pub Refreshes : Head → List (Entry Event) → ℕ → TxnId → Span → ℕ → ℕ → Entry Event → Type 0
Refreshes head before range id span from to e = RangeEvaluated head before range (IsRefreshOfSpan id span from to) e

-- The transaction has read the span up to this timestamp in the range: no other's intent lies there at or below it, and the bound
-- leaves others only later timestamps.
pub record HasRead (id : TxnId) (span : Span) (ts : ℕ) (s : RangeState) : Type 0 where
  pub clear : All (λ e. IsTrue (contains span e.0) → e.1.ts ≤ ts → e.1.meta.id ≡ id) s.intents
  pub closed : (other : TxnId) → (other ≡ id → ⊥) → ts < free_from other s.bound

-- The later versions have all the earlier ones, and each that is new is the transaction's own, outside the span, or above the timestamp.
pub record GrowsAbove (id : TxnId) (span : Span) (ts : ℕ) (old new : List Version) : Type 0 where
  pub kept : (v : Version) → Contains old v → Contains new v
  pub above : (v : Version) → Contains new v → Contains old v ⊎ (IsTrue (contains span v.key) → (v.id ≡ id → ⊥) → ts < v.ts)

-- Reads stand: after a read, no other transaction's intent or new version comes at or below its timestamp in its span.
abbrev pub ReadsStand : Type 0
ReadsStand =
    (head : Head) (range : ℕ) (id : TxnId) (span : Span) (ts : ℕ) (before : List (Entry Event)) (e : Entry Event) (later : List (Entry Event))
    → IsRun head (before ++ e ∷ later) → Reads head before range id span ts e
    → HasRead id span ts (state_at head range (before ++ e ∷ later))
    × GrowsAbove id span ts (state_at head range before).versions (state_at head range (before ++ e ∷ later)).versions

-- Refreshes stand: after a refresh that held it is as if the span was read at its later timestamp, and no version of another
-- transaction lies between its two timestamps.
abbrev pub RefreshesStand : Type 0
RefreshesStand =
    (head : Head) (range : ℕ) (id : TxnId) (span : Span) (from to : ℕ) (before : List (Entry Event)) (e : Entry Event) (later : List (Entry Event))
    → IsRun head (before ++ e ∷ later) → Refreshes head before range id span from to e
    → HasRead id span to (state_at head range (before ++ e ∷ later))
    × All (λ v. IsTrue (contains span v.key) → (v.id ≡ id → ⊥) → from < v.ts → to < v.ts) (state_at head range (before ++ e ∷ later)).versions
