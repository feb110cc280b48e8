-- What a range has of one transaction, and how that changes.
use Rattle.std.specs.Prelude.{ℕ, Bool, true, false, List, []}
use Rattle.pc_proto.specs.declared.record.Record.{Record}
use Rattle.pc_proto.specs.declared.record.Status.{Status}
use Rattle.pc_proto.specs.declared.record.Standing.{Standing}
use Rattle.pc_proto.specs.declared.record.Standing.TheVariants as standings
use Rattle.pc_proto.specs.declared.view.View.{View}
use Rattle.pc_proto.specs.declared.view.View.TheVariants as views

-- Nothing, its record, or the mark that its removed record left.
pub data Place : Type 0 where
  Nothing : Place
  Kept : (r : Record) → Place
  Marked : (s : Status) → Place

-- What a request does to a place: nothing, write the record, or turn it into a mark.
pub data Change : Type 0 where
  Stay : Change
  Become : (r : Record) → Change
  Finish : (s : Status) → Change

-- The place after a change.
abbrev pub after : Place → Change → Place
after p Stay = p
after p (Become r) = Kept r
after p (Finish s) = Marked s

-- Committed and aborted are final.
abbrev pub is_final : Standing → Bool
is_final standings.Committed = true
is_final (standings.Aborted why) = true
is_final standings.Pending = false
is_final standings.Staging = false

-- A mark, or a record that is final.
abbrev pub is_decided : Place → Bool
is_decided Nothing = false
is_decided (Kept r) = is_final r.status.standing
is_decided (Marked s) = true

-- How a status is told, with the writes that it waits for or the locks that it leaves.
abbrev pub status_view : Standing → ℕ → ℕ → List (List ℕ × ℕ) → List (List ℕ) → View
status_view standings.Pending epoch ts writes locks = views.Pending epoch ts
status_view standings.Staging epoch ts writes locks = views.Staging epoch ts writes
status_view standings.Committed epoch ts writes locks = views.Committed epoch ts locks
status_view (standings.Aborted why) epoch ts writes locks = views.Aborted epoch why locks

-- How a place is told, a mark without its locks.
abbrev pub view_of : Place → View
view_of Nothing = views.Nothing
view_of (Kept r) = status_view r.status.standing r.status.epoch r.status.ts r.writes r.locks
view_of (Marked s) = status_view s.standing s.epoch s.ts [] []
