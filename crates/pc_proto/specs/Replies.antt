-- Kinds of replies, and what each shows.
use Rattle.std.specs.Prelude.{◌≡◌, ℕ, Bool, true, false, not, Option, None, Some}
use Rattle.pc_base.specs.declared.transaction.TxnId.{TxnId}
use Rattle.pc_base.specs.Transaction.{same_txn}
use Rattle.pc_proto.specs.declared.meta.TxnMeta.{TxnMeta}
use Rattle.pc_proto.specs.declared.reply.Reply.{Reply}
use Rattle.pc_proto.specs.declared.reply.Reply.TheVariants as replies
use Rattle.pc_proto.specs.declared.view.View.{View}
use Rattle.pc_proto.specs.Views.{is_final_view, undecided_ts}

-- The reply is a conflict.
abbrev pub is_conflict : Reply → Bool
is_conflict (replies.Conflict holder ts key) = true
is_conflict _ = false

-- The reply is a conflict with this transaction.
abbrev pub is_conflict_with : TxnId → Reply → Bool
is_conflict_with id (replies.Conflict holder ts key) = same_txn holder.id id
is_conflict_with id _ = false

-- The reply is a conflict with this holder.
abbrev pub ConflictsWith : TxnMeta → Reply → Type 0
ConflictsWith holder (replies.Conflict other ts key) = other ≡ holder
ConflictsWith holder _ = ⊥

-- Whose intent stood in the way, where the reply is a conflict.
abbrev pub holder_in : Reply → Option TxnId
holder_in (replies.Conflict holder ts key) = Some holder.id
holder_in _ = None

-- The reply says that a write was written.
abbrev pub is_written : Reply → Bool
is_written (replies.Written ts) = true
is_written _ = false

-- The timestamp at which a reply says that a put was written, 0 where it says no such thing.
abbrev pub written_ts : Reply → ℕ
written_ts (replies.Written ts) = ts
written_ts _ = 0

-- The reply refuses a push.
abbrev pub is_refused : Reply → Bool
is_refused (replies.Refused view) = true
is_refused _ = false

-- The view in a reply.
abbrev pub view_in : Reply → Option View
view_in (replies.Status view) = Some view
view_in (replies.Refused view) = Some view
view_in (replies.Unsure view) = Some view
view_in _ = None

-- The reply shows a record that is not final.
abbrev pub is_undecided_status : Reply → Bool
is_undecided_status (replies.Status view) = not (is_final_view view)
is_undecided_status _ = false

-- The timestamp of the record that is not final that a reply shows, 0 where it shows none.
abbrev pub status_ts : Reply → ℕ
status_ts (replies.Status view) = undecided_ts view
status_ts _ = 0
