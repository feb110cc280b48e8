-- What was kept gives the commit order, the others, and all rows of the report.
use Rattle.std.proofs.Common.{◌≡◌, ℕ, List, [], ◌∷◌, map, fold, Option, None, Some, refl, sym, ap, ◌∙◌}
use Rattle.std.specs.BTreeMap.{insert_entry}
use Rattle.std.specs.Cmp.Lexicographic.{slice_cmp}
use Rattle.std.specs.List.{cons_option, filter_map}
use Rattle.std.specs.Option.{option_map}
use Rattle.std.specs.declared.cmp.Ordering.{Ordering}
use Rattle.std.specs.declared.cmp.Ordering.TheVariants.{Less, Equal, Greater}
use Rattle.std.specs.Ordering.{match_ordering, nat_cmp}
use Rattle.pc_base.specs.declared.entry.Entry.{Entry}
use Rattle.pc_base.specs.declared.transaction.TxnId.{TxnId}
use Rattle.pc_base.specs.Keyed.{in_order}
use Rattle.pc_base.specs.Transaction.{txn_cmp}
use Rattle.pc_proto.specs.declared.event.Event.{Event}
use Rattle.pc_report.proofs.Following.{commit_means, ending_means}
use Rattle.pc_report.proofs.Heads.{same_report}
use Rattle.pc_report.proofs.Points.{point_is}
use Rattle.pc_report.proofs.Writing.{puts_change, puts_say}
use Rattle.pc_report.specs.declared.replay.Rank.{Rank as place}
use Rattle.pc_report.specs.declared.replay.Replay.{Replay}
use Rattle.pc_report.specs.declared.rows.Report.{Report}
use Rattle.pc_report.specs.declared.writes.Writes.{Writes}
use Rattle.pc_report.specs.Ordering.{order_in, other_in, others_in, place_cmp, placed, rank_from}
use Rattle.pc_report.specs.Replaying.{IsPoint, IsReplayOf, commit_kept, ending_in, held, over}
use Rattle.pc_report.specs.ReportOf.{committed_row, last_writes, map_of, map_with, other_of, other_row, other_unless, others_of, report_of}
use Rattle.pc_puts.specs.Changes.{last_puts, map_with_put}
use Rattle.pc_report.specs.Rows.{commit_row, map_with_puts}
use Rattle.pc_report.specs.Writing.{AreWritesOf, puts_held}
use Rattle.pc_world.specs.CommitOrder.{Rank, all_begun, commit_order, rank_cmp, ranked}
use Rattle.pc_world.specs.Committed.{commit_point, commit_ts}
use Rattle.pc_world.specs.Local.{Head}
use Rattle.pc_world.specs.MapRun.{Map}
use Rattle.pc_world.specs.Operations.{operations_of}

-- a place in the order as the definitions have it
abbrev as-rank : place × TxnId → Rank × TxnId
as-rank p = (record { ts = p.0.ts; point = p.0.point }, p.1)

put-in : (k : place) (id : TxnId) (es : List (place × TxnId)) → map as-rank (insert_entry place_cmp es k id) ≡ insert_entry rank_cmp (map as-rank es) (as-rank (k, id)).0 id
put-in k id [] = refl
put-in k id (e ∷ es) = by (place_cmp k e.0) (put-in k id es)
  where
    by : (o : Ordering) → map as-rank (insert_entry place_cmp es k id) ≡ insert_entry rank_cmp (map as-rank es) (as-rank (k, id)).0 id
        → map as-rank (match_ordering o ((k, id) ∷ e ∷ es) ((e.0, id) ∷ es) (e ∷ insert_entry place_cmp es k id))
        ≡ match_ordering o (as-rank (k, id) ∷ as-rank e ∷ map as-rank es) (((as-rank e).0, id) ∷ map as-rank es) (as-rank e ∷ insert_entry rank_cmp (map as-rank es) (as-rank (k, id)).0 id)
    by Less rest = refl
    by Equal rest = refl
    by Greater rest = ap (λ later. as-rank e ∷ later) rest

put-all : (xs sorted : List (place × TxnId)) → map as-rank (fold (λ sorted e. insert_entry place_cmp sorted e.0 e.1) sorted xs) ≡ fold (λ sorted e. insert_entry rank_cmp sorted e.0 e.1) (map as-rank sorted) (map as-rank xs)
put-all [] sorted = refl
put-all (x ∷ xs) sorted =
    put-all xs (insert_entry place_cmp sorted x.0 x.1)
    ∙ ap (λ s. fold (λ sorted e. insert_entry rank_cmp sorted e.0 e.1) s (map as-rank xs)) (put-in x.0 x.1 sorted)

gives : (f : TxnId → Option (place × TxnId)) (g : TxnId → Option (Rank × TxnId)) → ((id : TxnId) → option_map as-rank (f id) ≡ g id) → (ids : List TxnId) → map as-rank (filter_map f ids) ≡ filter_map g ids
gives f g same [] = refl
gives f g same (id ∷ ids) = by (f id) (g id) (same id) (gives f g same ids)
  where
    by : (o : Option (place × TxnId)) (p : Option (Rank × TxnId)) → option_map as-rank o ≡ p → map as-rank (filter_map f ids) ≡ filter_map g ids → map as-rank (cons_option o (filter_map f ids)) ≡ cons_option p (filter_map g ids)
    by None p is rest = rest ∙ ap (λ p. cons_option p (filter_map g ids)) is
    by (Some x) p is rest = ap (λ later. as-rank x ∷ later) rest ∙ ap (λ p. cons_option p (filter_map g ids)) is

module _ (splits : List (List ℕ)) (history : List (Entry Event)) (r : Replay) (is : IsReplayOf splits history r) where
  committed : (id : TxnId) → commit_kept splits r id ≡ commit_ts (over splits) history id
  committed id = commit_means splits history r is.states is.anchors id is.unstaged is.told

  rank-means : (id : TxnId) → option_map as-rank (placed splits r id) ≡ ranked (over splits) history id
  rank-means id = by (commit_kept splits r id) (held r.points id) (committed id) (is.points id)
    where
      by : (ts point : Option ℕ) → ts ≡ commit_ts (over splits) history id → IsPoint (over splits) history id point
          → option_map as-rank (option_map {U = place × TxnId} (λ (rank : place). (rank, id)) (rank_from ts point)) ≡ ranked (over splits) history id
      by None point now at = ap (λ o. option_map {U = Rank × TxnId} (λ (ts : ℕ). (record { ts = ts; point = commit_point (over splits) history id }, id)) o) now
      by (Some ts) None now at = absurd (let no' : commit_ts (over splits) history id ≡ None = at.0 in cc)
      by (Some ts) (Some point) now at =
          sym (ap (λ (n : ℕ). option_map {U = Rank × TxnId} (λ (t : ℕ). (record { ts = t; point = n }, id)) (Some ts)) (point_is (over splits) id history point at))
          ∙ ap (λ o. option_map {U = Rank × TxnId} (λ (ts : ℕ). (record { ts = ts; point = commit_point (over splits) history id }, id)) o) now

  pub order_means : map as-rank (order_in splits r history) ≡ commit_order (over splits) history
  order_means =
      put-all (filter_map (placed splits r) (all_begun history)) []
      ∙ ap (in_order rank_cmp) (gives (placed splits r) (ranked (over splits) history) rank-means (all_begun history))

  other-means : (id : TxnId) → other_in splits r id ≡ other_of (over splits) history id
  other-means id =
      ap (λ o. other_unless o id (ending_in splits r id)) (committed id)
      ∙ ap (other_unless (commit_ts (over splits) history id) id) (ending_means splits history r is.states is.anchors id is.rolled_back)

  others_means : others_in splits r history ≡ others_of (over splits) history
  others_means = ap (λ f. in_order txn_cmp (filter_map f (all_begun history))) (λ i id. other-means id i)

  module _ (w : Writes) (wrote : AreWritesOf history w) where
    last-means : (id : TxnId) → last_puts (puts_held w id) ≡ last_writes (operations_of history id)
    last-means id =
        ap last_puts (wrote.puts id)
        ∙ ap (in_order (slice_cmp nat_cmp)) (puts_say (operations_of history id))

    rows-mean : (xs : List (place × TxnId)) → map (commit_row w) xs ≡ map (committed_row history) (map as-rank xs)
    rows-mean [] = refl
    rows-mean (x ∷ xs) = λ i. record { id = x.1; ts = x.0.ts; writes = last-means x.1 i } ∷ rows-mean xs i

    map-means : (m : Map) (xs : List (place × TxnId)) → fold (map_with_puts w) m xs ≡ fold (map_with history) m (map as-rank xs)
    map-means m [] = refl
    map-means m (x ∷ xs) =
        ap (λ now. fold (map_with_puts w) now xs) (ap (fold map_with_put m) (wrote.puts x.1) ∙ puts_change m (operations_of history x.1))
        ∙ map-means (map_with history m (as-rank x)) xs

    -- the rows that were kept are those of the report
    pub report_means : (made : Report) → made.committed ≡ map (commit_row w) (order_in splits r history) → made.others ≡ map other_row (others_in splits r history) → made.map ≡ fold (map_with_puts w) [] (order_in splits r history)
        → (head : Head) → head.splits ≡ splits → made ≡ report_of head history
    report_means made one two three head same =
        let committed : made.committed ≡ map (committed_row history) (commit_order (over splits) history) = one ∙ rows-mean (order_in splits r history) ∙ ap (map (committed_row history)) order_means in
        let others : made.others ≡ map other_row (others_of (over splits) history) = two ∙ ap (map other_row) others_means in
        let rows : made.map ≡ map_of (over splits) history = three ∙ map-means [] (order_in splits r history) ∙ ap (fold (map_with history) []) order_means in
        let whole : made ≡ report_of (over splits) history = λ i. record { committed = committed i; others = others i; map = rows i } in
        whole ∙ same_report (over splits) head (sym same) history
