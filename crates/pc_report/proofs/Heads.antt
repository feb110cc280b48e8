-- The report depends on the splits alone, and not on how many sessions and recoverers take part.
use Rattle.std.proofs.Common.{◌≡◌, ℕ, cond, List, [], ◌∷◌, ◌++◌, length, map, fold, Option, None, Some, refl, ap, ◌∙◌}
use Rattle.std.specs.List.{filter_map, list_all}
use Rattle.std.specs.Option.{is_some, option_map}
use Rattle.pc_base.specs.declared.entry.Entry.{Entry}
use Rattle.pc_base.specs.declared.transaction.TxnId.{TxnId}
use Rattle.pc_base.specs.Keyed.{in_order}
use Rattle.pc_base.specs.Transaction.{txn_cmp}
use Rattle.pc_proto.specs.declared.event.Event.{Event}
use Rattle.pc_proto.specs.Place.{Place, Nothing, Kept, Marked}
use Rattle.pc_proto.specs.Table.{place_of}
use Rattle.pc_report.proofs.Following.{same_states}
use Rattle.pc_report.specs.ReportOf.{committed_row, ending_at, ending_from, ending_of, map_with, other_of, other_row, other_unless, others_of, report_of, rolled_back}
use Rattle.pc_world.specs.After.{place_at, state_at}
use Rattle.pc_world.specs.CommitOrder.{Rank, all_begun, commit_order, rank_cmp, ranked}
use Rattle.pc_world.specs.Committed.{anchor_in, commit_at, commit_by, commit_in, commit_point, commit_ts, point_after}
use Rattle.pc_world.specs.Evaluation.Query.{write_stands}
use Rattle.pc_world.specs.Local.{Head}
use Rattle.pc_world.specs.RangeOf.{range_of}
use Rattle.pc_world.specs.RangeState.{RangeState}

module _ (head other : Head) (same : head.splits ≡ other.splits) where
  same-place : (history : List (Entry Event)) (id : TxnId) (anchor : List ℕ) → place_at head (range_of head.splits anchor) id history ≡ place_at other (range_of other.splits anchor) id history
  same-place history id anchor =
      ap (λ s. place_of id s.table) (same_states head other (range_of head.splits anchor) history)
      ∙ ap (λ splits. place_at other (range_of splits anchor) id history) same

  same-in : (history : List (Entry Event)) (id : TxnId) (p : Place) → commit_in head history id p ≡ commit_in other history id p
  same-in history id Nothing = refl
  same-in history id (Kept r) =
      ap (λ (states : ℕ → RangeState). commit_by r.status.standing r.status.ts (list_all (λ write. write_stands id r.status.epoch write.1 r.status.ts write.0 (states (range_of head.splits write.0))) r.writes))
      (λ i range. same_states head other range history i)
      ∙ ap (λ splits. commit_by r.status.standing r.status.ts (list_all (λ write. write_stands id r.status.epoch write.1 r.status.ts write.0 (state_at other (range_of splits write.0) history)) r.writes)) same
  same-in history id (Marked s) = refl

  same-commit : (history : List (Entry Event)) (id : TxnId) → commit_ts head history id ≡ commit_ts other history id
  same-commit history id = by (anchor_in id history)
    where
      by : (anchor : Option (List ℕ)) → commit_at head history id anchor ≡ commit_at other history id anchor
      by None = refl
      by (Some anchor) = ap (commit_in head history id) (same-place history id anchor) ∙ same-in history id (place_at other (range_of other.splits anchor) id history)

  same-after : (id : TxnId) (before later : List (Entry Event)) → point_after head id before later ≡ point_after other id before later
  same-after id before [] = refl
  same-after id before (e ∷ later) =
      ap (λ o. cond (is_some o) (length before) (point_after head id (before ++ e ∷ []) later)) (same-commit before id)
      ∙ ap (λ n. cond (is_some (commit_ts other before id)) (length before) n) (same-after id (before ++ e ∷ []) later)

  same-ranked : (history : List (Entry Event)) (id : TxnId) → ranked head history id ≡ ranked other history id
  same-ranked history id = by (commit_ts head history id) (commit_ts other history id) (same-commit history id)
    where
      by : (one two : Option ℕ) → one ≡ two
          → option_map (λ (ts : ℕ). (record { ts = ts; point = commit_point head history id }, id)) one ≡ option_map {U = Rank × TxnId} (λ (ts : ℕ). (record { ts = ts; point = commit_point other history id }, id)) two
      by one two is =
          ap (λ (point : ℕ). option_map {U = Rank × TxnId} (λ (ts : ℕ). (record { ts = ts; point = point }, id)) one) (same-after id [] history)
          ∙ ap (λ o. option_map {U = Rank × TxnId} (λ (ts : ℕ). (record { ts = ts; point = commit_point other history id }, id)) o) is

  same-order : (history : List (Entry Event)) → commit_order head history ≡ commit_order other history
  same-order history = ap (λ f. in_order rank_cmp (filter_map f (all_begun history))) (λ i id. same-ranked history id i)

  same-ending : (history : List (Entry Event)) (id : TxnId) → ending_of head history id ≡ ending_of other history id
  same-ending history id = by (anchor_in id history)
    where
      by : (anchor : Option (List ℕ)) → ending_from head history id anchor ≡ ending_from other history id anchor
      by None = refl
      by (Some anchor) = ap (λ p. ending_at p (rolled_back id history)) (same-place history id anchor)

  same-other : (history : List (Entry Event)) (id : TxnId) → other_of head history id ≡ other_of other history id
  same-other history id =
      ap (λ o. other_unless o id (ending_of head history id)) (same-commit history id)
      ∙ ap (other_unless (commit_ts other history id) id) (same-ending history id)

  same-others : (history : List (Entry Event)) → others_of head history ≡ others_of other history
  same-others history = ap (λ f. in_order txn_cmp (filter_map f (all_begun history))) (λ i id. same-other history id i)

  pub same_report : (history : List (Entry Event)) → report_of head history ≡ report_of other history
  same_report history = λ i. record {
    committed = map (committed_row history) (same-order history i);
    others = map other_row (same-others history i);
    map = fold (map_with history) [] (same-order history i);
  }
