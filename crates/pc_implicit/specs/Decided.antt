-- How a range decided a transaction, how far its record went, and what a view says for good.
use Rattle.std.specs.Prelude.{◌≡◌, ℕ, ◌+◌, ◌<◌, ◌≤◌, true, ◌⊎◌, ⊤, if◌then◌else◌, Option, None, Some}
use Rattle.pc_base.specs.Bound.{ReadBound}
use Rattle.pc_proto.specs.declared.record.Status.{Status}
use Rattle.pc_proto.specs.declared.record.Standing.TheVariants as standings
use Rattle.pc_proto.specs.declared.view.View.{View}
use Rattle.pc_proto.specs.declared.view.View.TheVariants as views
use Rattle.pc_proto.specs.Place.{Place, Nothing, Kept, Marked, is_decided, is_final}
use Rattle.pc_proto.specs.RecordRows.Reached.{status_of}

-- How the transaction was decided: the status of its final record, or of its mark.
abbrev pub decision : Place → Option Status
decision Nothing = None
decision (Kept r) = if is_final r.status.standing then Some r.status else None
decision (Marked s) = Some s

-- The epoch that the record or mark has, 0 where there is neither.
abbrev pub epoch_of : Place → ℕ
epoch_of Nothing = 0
epoch_of (Kept r) = r.status.epoch
epoch_of (Marked s) = s.epoch

-- The timestamp that the record or mark has, 0 where there is neither.
abbrev pub time_of : Place → ℕ
time_of Nothing = 0
time_of (Kept r) = r.status.ts
time_of (Marked s) = s.ts

-- The second place has at least the epoch and the timestamp of the first.
pub record IsNotBelow (one other : Place) : Type 0 where
  pub epoch : epoch_of one ≤ epoch_of other
  pub ts : time_of one ≤ time_of other

-- The record or mark has at least this epoch and timestamp.
pub record HasReached (epoch ts : ℕ) (p : Place) : Type 0 where
  pub epoch_reached : epoch ≤ epoch_of p
  pub ts_reached : ts ≤ time_of p

-- What a view says for good: of a decision that it stands, of a record that is not final how far it went.
abbrev pub StaysTrue : View → Place → Type 0
StaysTrue views.Nothing p = ⊤
StaysTrue (views.Pending epoch ts) p = HasReached epoch ts p
StaysTrue (views.Staging epoch ts writes) p = HasReached epoch ts p
StaysTrue (views.Committed epoch ts locks) p = decision p ≡ Some (status_of standings.Committed epoch ts)
StaysTrue (views.Aborted epoch why locks) p = (ts : ℕ) × (decision p ≡ Some (status_of (standings.Aborted why) epoch ts))

-- The bound did not fall; where it did not rise either, its owner is the same or was lost.
pub record BoundStands (one other : ReadBound) : Type 0 where
  pub ts : one.ts ≤ other.ts
  pub owner : one.ts ≡ other.ts → (other.owner ≡ one.owner) ⊎ (other.owner ≡ None)

-- A staging of this epoch and timestamp is over: the transaction is decided, or went past both and stands elsewhere.
abbrev pub IsPast : ℕ → ℕ → Place → Type 0
IsPast epoch ts p = (is_decided p ≡ true) ⊎ (HasReached epoch ts p × (epoch + ts < epoch_of p + time_of p))
