-- What a view of a transaction says of it, and the fate that it leaves to an intent.
use Rattle.std.specs.Prelude.{◌≡◌, ℕ, ◌≤◌, Bool, true, false, ◌&&◌, ◌==◌, Option, None, Some, List}
use Rattle.std.specs.Option.{option_or}
use Rattle.pc_proto.specs.declared.fate.Fate.{Fate}
use Rattle.pc_proto.specs.declared.fate.Fate.TheVariants as fates
use Rattle.pc_proto.specs.declared.fate.Goal.{Goal}
use Rattle.pc_proto.specs.declared.fate.Goal.TheVariants as goals
use Rattle.pc_proto.specs.declared.view.View.{View}
use Rattle.pc_proto.specs.declared.view.View.TheVariants as views
use Rattle.pc_proto.specs.declared.why.Why.{Why}

-- COMMITTED and ABORTED are final.
abbrev pub is_final_view : View → Bool
is_final_view (views.Committed epoch ts locks) = true
is_final_view (views.Aborted epoch why locks) = true
is_final_view views.Nothing = false
is_final_view (views.Pending epoch ts) = false
is_final_view (views.Staging epoch ts writes) = false

-- The timestamp of a view that is not final.
abbrev pub undecided_ts : View → ℕ
undecided_ts (views.Pending epoch ts) = ts
undecided_ts (views.Staging epoch ts writes) = ts
undecided_ts views.Nothing = 0
undecided_ts (views.Committed epoch ts locks) = 0
undecided_ts (views.Aborted epoch why locks) = 0

-- The view is staging at this epoch and timestamp.
abbrev pub is_staging_at : ℕ → ℕ → View → Bool
is_staging_at epoch ts (views.Staging at_epoch at writes) = at_epoch == epoch && at == ts
is_staging_at epoch ts _ = false

-- The view is committed at this timestamp.
abbrev pub is_committed_at : ℕ → View → Bool
is_committed_at ts (views.Committed epoch at locks) = at == ts
is_committed_at ts _ = false

-- The view is aborted, with this cause.
abbrev pub AbortsWith : Why → View → Type 0
AbortsWith why (views.Aborted epoch cause locks) = cause ≡ why
AbortsWith why _ = ⊥

-- The view is final and has these locks.
abbrev pub HasLocks : View → List (List ℕ) → Type 0
HasLocks (views.Committed epoch ts locks) held = held ≡ locks
HasLocks (views.Aborted epoch why locks) held = held ≡ locks
HasLocks _ held = ⊥

-- The fate that a final view shows.
abbrev pub final_fate : View → Option Fate
final_fate (views.Committed epoch ts locks) = Some (fates.Committed epoch ts)
final_fate (views.Aborted epoch why locks) = Some fates.Aborted
final_fate _ = None

-- The fate of an intent whose transaction was moved as a push asked.
abbrev pub moved_fate : Goal → Option Fate
moved_fate (goals.Move ts) = Some (fates.Pending ts)
moved_fate goals.Abort = None

-- The fate of an intent after a push that showed this view: that of a final view, or the move that the push asked for.
abbrev pub fate_after : Goal → View → Option Fate
fate_after goal view = option_or (final_fate view) (moved_fate goal)

-- The fate is what the view says: committed with its epoch and timestamp, aborted, or moved to a timestamp that its own reaches.
abbrev pub IsFateOf : View → Fate → Type 0
IsFateOf (views.Committed epoch ts locks) (fates.Committed at_epoch at) = (at_epoch ≡ epoch) × (at ≡ ts)
IsFateOf (views.Aborted epoch why locks) fates.Aborted = Unit {0}
IsFateOf (views.Pending epoch ts) (fates.Pending at) = at ≤ ts
IsFateOf (views.Staging epoch ts writes) (fates.Pending at) = at ≤ ts
IsFateOf _ _ = ⊥
