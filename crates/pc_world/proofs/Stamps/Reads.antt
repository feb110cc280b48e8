-- Reads tell timestamps of the range, and raise its bound to their own.
use Rattle.std.proofs.Common.{ℕ, ◌≤◌, Bool, true, false, if◌then◌else◌, List, Option, None, Some, IfSome, arith}
use Rattle.std.specs.List.{AllByRecursion as Each}
use Rattle.std.specs.Option.{option_map}
use Rattle.pc_base.specs.Bound.{ReadBound, raised}
use Rattle.pc_base.specs.declared.span.Span.{Span}
use Rattle.pc_base.specs.declared.transaction.TxnId.{TxnId}
use Rattle.pc_base.specs.declared.version.Version.{Version}
use Rattle.pc_base.specs.Span.{key_below}
use Rattle.pc_base.specs.Versions.{first_between, visible}
use Rattle.pc_lists.proofs.Each.{each-filter_map, each-flat_map}
use Rattle.pc_proto.specs.declared.record.Intent.{Intent}
use Rattle.pc_proto.specs.declared.reply.Origin.{Origin}
use Rattle.pc_proto.specs.declared.reply.Reply.TheVariants as replies
use Rattle.pc_proto.specs.Intents.{first_other, other_at}
use Rattle.pc_proto.specs.Stamps.{origin_stamps, reply_stamps, row_stamps}
use Rattle.pc_world.proofs.Stamps.Searches.{first-between-within, first-other-within, other-within, some-kept, visible-within}
use Rattle.pc_world.proofs.Stamps.Within.{AtMost, StateWithin}
use Rattle.pc_world.specs.Evaluation.Get.{bound_after_get, bound_after_read, found_at, found_first, get, get_blocker, get_reply, own_value, version_found}
use Rattle.pc_world.specs.Evaluation.Query.{bound_after_query, query, write_stands}
use Rattle.pc_world.specs.Evaluation.Refresh.{bound_after_refresh, refresh, refresh_reply, refreshed_bound, refuter, refuter_in}
use Rattle.pc_world.specs.Evaluation.Scan.{bound_after_scan, keys_in, row_found, rows_in, scan, scan_reply}
use Rattle.pc_world.specs.RangeState.{RangeState}
use Rattle.std.specs.Prelude.{nat_le}

module _ (n : ℕ) where
  version-found : (v : Option Version) → IfSome v (λ v. v.ts ≤ n) → AtMost n (origin_stamps (version_found v).0)
  version-found None h = tt
  version-found (Some v) h = (h, tt)

  found-first : (own : Option (Option (List ℕ))) (v : Option Version) → IfSome v (λ v. v.ts ≤ n) → AtMost n (origin_stamps (found_first own v).0)
  found-first (Some value) v h = tt
  found-first None v h = version-found v h

  found-within : (id : TxnId) (epoch seq ts : ℕ) (key : List ℕ) (s : RangeState) → StateWithin n s → AtMost n (origin_stamps (found_at id epoch seq ts key s).0)
  found-within id epoch seq ts key s a = found-first (own_value id epoch seq key s) (visible key ts s.versions) (visible-within n key ts s.versions a.versions)

  get-reply : (blocker : Option Intent) (key : List ℕ) (found : Origin × Option (List ℕ)) → IfSome blocker (λ i. i.ts ≤ n) → AtMost n (origin_stamps found.0) → AtMost n (reply_stamps (get_reply blocker key found))
  get-reply None key found h k = k
  get-reply (Some i) key found h k = (h, tt)

  blocker-within : (id : TxnId) (ts : ℕ) (key : List ℕ) (s : RangeState) → StateWithin n s → IfSome (get_blocker id ts key s) (λ i. i.ts ≤ n)
  blocker-within id ts key s a = some-kept (λ i. i.ts ≤ n) (λ i. nat_le i.ts ts) (other_at id key s.intents) (other-within n id key s.intents a.intents)

  pub get-within : (id : TxnId) (epoch seq ts : ℕ) (key : List ℕ) (s : RangeState) → StateWithin n s → AtMost n (reply_stamps (get id epoch seq ts key s))
  get-within id epoch seq ts key s a =
      get-reply (get_blocker id ts key s) key (found_at id epoch seq ts key s) (blocker-within id ts key s a) (found-within id epoch seq ts key s a)

  read-bound : (blocker : Option Intent) (id : TxnId) (ts : ℕ) (bound : ReadBound) → ts ≤ n → bound.ts ≤ n → (bound_after_read blocker id ts bound).ts ≤ n
  read-bound None id ts bound h k = omega arith
  read-bound (Some i) id ts bound h k = k

  pub get-bound : (id : TxnId) (ts : ℕ) (key : List ℕ) (s : RangeState) → ts ≤ n → StateWithin n s → (bound_after_get id ts key s).ts ≤ n
  get-bound id ts key s h a = read-bound (get_blocker id ts key s) id ts s.bound h a.bound

  scan-reply : (blocker : Option (List ℕ × Intent)) (rows : List (List ℕ × Origin × List ℕ)) → IfSome blocker (λ e. e.1.ts ≤ n) → AtMost n (row_stamps rows) → AtMost n (reply_stamps (scan_reply blocker rows))
  scan-reply None rows h k = k
  scan-reply (Some e) rows h k = (h, tt)

  row-within : (key : List ℕ) (found : Origin × Option (List ℕ)) → AtMost n (origin_stamps found.0) → IfSome (row_found key found) (λ row. AtMost n (origin_stamps row.1))
  row-within key found h = by found.1
    where
      by : (value : Option (List ℕ)) → IfSome (option_map (λ (value : List ℕ). let row : List ℕ × Origin × List ℕ = (key, found.0, value) in row) value) (λ row. AtMost n (origin_stamps row.1))
      by None = tt
      by (Some value) = h

  pub scan-within : (id : TxnId) (epoch seq ts : ℕ) (span : Span) (s : RangeState) → StateWithin n s → AtMost n (reply_stamps (scan id epoch seq ts span s))
  scan-within id epoch seq ts span s a =
      let rows = rows_in id epoch seq ts span s in
      let found : Each (λ row. AtMost n (origin_stamps row.1)) rows =
      each-filter_map (λ (row : List ℕ × Origin × List ℕ). AtMost n (origin_stamps row.1)) (λ key. row_found key (found_at id epoch seq ts key s)) (keys_in span s)
      (λ key. row-within key (found_at id epoch seq ts key s) (found-within id epoch seq ts key s a)) in
      scan-reply (first_other span ts id s.intents) rows (first-other-within n span ts id s.intents a.intents)
      (each-flat_map (λ ts. ts ≤ n) (λ (row : List ℕ × Origin × List ℕ). origin_stamps row.1) rows found)

  pub scan-bound : (id : TxnId) (ts : ℕ) (span : Span) (s : RangeState) → ts ≤ n → StateWithin n s → (bound_after_scan id ts span s).ts ≤ n
  scan-bound id ts span s h a = read-bound (option_map (λ e. e.1) (first_other span ts id s.intents)) id ts s.bound h a.bound

  either-refuter : (b : Bool) (v w : List ℕ × ℕ) → v.1 ≤ n → w.1 ≤ n → IfSome (if b then Some v else Some w) (λ w. w.1 ≤ n)
  either-refuter true v w h k = h
  either-refuter false v w h k = k

  refuter-within : (v : Option Version) (e : Option (List ℕ × Intent)) → IfSome v (λ v. v.ts ≤ n) → IfSome e (λ e. e.1.ts ≤ n) → IfSome (refuter v e) (λ w. w.1 ≤ n)
  refuter-within None None h k = tt
  refuter-within (Some v) None h k = h
  refuter-within None (Some e) h k = k
  refuter-within (Some v) (Some e) h k = either-refuter (key_below e.0 v.key) (e.0, e.1.ts) (v.key, v.ts) k h

  refresh-reply : (w : Option (List ℕ × ℕ)) → IfSome w (λ w. w.1 ≤ n) → AtMost n (reply_stamps (refresh_reply w))
  refresh-reply None h = tt
  refresh-reply (Some w) h = (h, tt)

  pub refresh-within : (id : TxnId) (from to : ℕ) (span : Span) (s : RangeState) → StateWithin n s → AtMost n (reply_stamps (refresh id from to span s))
  refresh-within id from to span s a =
      refresh-reply (refuter_in id from to span s)
      (refuter-within (first_between span from to s.versions) (first_other span to id s.intents)
      (first-between-within n span from to s.versions a.versions) (first-other-within n span to id s.intents a.intents))

  refreshed-bound : (w : Option (List ℕ × ℕ)) (id : TxnId) (to : ℕ) (bound : ReadBound) → to ≤ n → bound.ts ≤ n → (refreshed_bound w id to bound).ts ≤ n
  refreshed-bound None id to bound h k = omega arith
  refreshed-bound (Some w) id to bound h k = k

  pub refresh-bound : (id : TxnId) (from to : ℕ) (span : Span) (s : RangeState) → to ≤ n → StateWithin n s → (bound_after_refresh id from to span s).ts ≤ n
  refresh-bound id from to span s h a = refreshed-bound (refuter_in id from to span s) id to s.bound h a.bound

  either-query : (b : Bool) → AtMost n (reply_stamps (if b then replies.Found else replies.Missing))
  either-query true = tt
  either-query false = tt

  pub query-within : (id : TxnId) (epoch seq ts : ℕ) (key : List ℕ) (s : RangeState) → AtMost n (reply_stamps (query id epoch seq ts key s))
  query-within id epoch seq ts key s = either-query (write_stands id epoch seq ts key s)

  either-bound : (b : Bool) (one other : ReadBound) → one.ts ≤ n → other.ts ≤ n → (if b then one else other).ts ≤ n
  either-bound true one other h k = h
  either-bound false one other h k = k

  pub query-bound : (id : TxnId) (epoch seq ts : ℕ) (key : List ℕ) (s : RangeState) → ts ≤ n → StateWithin n s → (bound_after_query id epoch seq ts key s).ts ≤ n
  query-bound id epoch seq ts key s h a = either-bound (write_stands id epoch seq ts key s) s.bound (raised ts None s.bound) a.bound (omega (arith, a.bound))
