-- Evaluation raises timestamps by at most one.
use Rattle.std.proofs.Common.{ℕ, ◌+◌, ◌≤◌, ◌<◌, arith}
use Rattle.std.proofs.lemmas.List.Elements.{All-from_recursion, All-weaker, recursion_from_All}
use Rattle.std.specs.List.{AllByRecursion as Each}
use Rattle.pc_base.specs.Timestamp.{greatest}
use Rattle.pc_lists.proofs.Each.{each-front, each-weaker}
use Rattle.pc_proto.specs.declared.request.Request.{Request}
use Rattle.pc_proto.specs.declared.request.Request.TheVariants as requests
use Rattle.pc_proto.specs.RecordRows.{record_reply}
use Rattle.pc_proto.specs.Stamps.{reply_stamps, request_stamps}
use Rattle.pc_world.proofs.Stamps.Reads.{get-bound, get-within, query-bound, query-within, refresh-bound, refresh-within, scan-bound, scan-within}
use Rattle.pc_world.proofs.Stamps.Rows.{record-reply, table-within}
use Rattle.pc_world.proofs.Stamps.Within.{AtMost, StateWithin, at_most-more, state-stamps, state-within, table-more}
use Rattle.pc_world.proofs.Stamps.Writes.{put-intents, put-reply, resolve-intents, resolve-versions}
use Rattle.pc_world.specs.Evaluation.{bound_after, intents_after, reply, state_after, versions_after}
use Rattle.pc_world.specs.RangeState.{RangeState}
use Rattle.pc_world.specs.Stamps.{AllAtMost, HasRoom, all_stamps, cause_stamps, state_stamps}
pub mod Reads
pub mod Rows
pub mod Searches
pub mod Within
pub mod Writes

module _ (n : ℕ) where
  versions-more : (s : RangeState) → StateWithin n s → Each (λ v. v.ts ≤ n + 1) s.versions
  versions-more s a = each-weaker (λ v. v.ts ≤ n) (λ v. v.ts ≤ n + 1) (λ v k. omega arith) s.versions a.versions

  intents-more : (s : RangeState) → StateWithin n s → Each (λ e. e.1.ts ≤ n + 1) s.intents
  intents-more s a = each-weaker (λ e. e.1.ts ≤ n) (λ e. e.1.ts ≤ n + 1) (λ e k. omega arith) s.intents a.intents

  versions-within : (request : Request) (s : RangeState) → AtMost n (request_stamps request) → StateWithin n s → Each (λ v. v.ts ≤ n + 1) (versions_after request s)
  versions-within (requests.Resolve id key fate) s h a =
      each-weaker (λ v. v.ts ≤ n) (λ v. v.ts ≤ n + 1) (λ v k. omega arith) (versions_after (requests.Resolve id key fate) s) (resolve-versions n id key fate s h a)
  versions-within request s h a = versions-more s a

  intents-within : (request : Request) (s : RangeState) → AtMost n (request_stamps request) → StateWithin n s → Each (λ e. e.1.ts ≤ n + 1) (intents_after request s)
  intents-within (requests.Put meta seq ts key value) s h a = put-intents n meta seq ts key value s h.0 a
  intents-within (requests.Resolve id key fate) s h a = resolve-intents n id key fate s h a
  intents-within request s h a = intents-more s a

  bound-within : (request : Request) (s : RangeState) → AtMost n (request_stamps request) → StateWithin n s → (bound_after request s).ts ≤ n
  bound-within (requests.Get id epoch seq ts key) s h a = get-bound n id ts key s h.0 a
  bound-within (requests.Scan id epoch seq ts span) s h a = scan-bound n id ts span s h.0 a
  bound-within (requests.Refresh id from to span) s h a = refresh-bound n id from to span s h.1.0 a
  bound-within (requests.Query id epoch seq ts key by) s h a = query-bound n id epoch seq ts key s h.0 a
  bound-within request s h a = a.bound

  -- the range after a request, part by part
  pub after-within : (request : Request) (s : RangeState) → AtMost n (request_stamps request) → StateWithin n s → StateWithin (n + 1) (state_after request s)
  after-within request s h a = record {
    bound = omega (arith, bound-within request s h a);
    versions = versions-within request s h a;
    intents = intents-within request s h a;
    table = table-more n (n + 1) _ (omega arith) (table-within n request s.table h a.table);
  }

  pub reply-within : (request : Request) (s : RangeState) → AtMost n (request_stamps request) → StateWithin n s → AtMost (n + 1) (reply_stamps (reply request s))
  reply-within (requests.Get id epoch seq ts key) s h a = at_most-more n (n + 1) _ (omega arith) (get-within n id epoch seq ts key s a)
  reply-within (requests.Scan id epoch seq ts span) s h a = at_most-more n (n + 1) _ (omega arith) (scan-within n id epoch seq ts span s a)
  reply-within (requests.Put meta seq ts key value) s h a = put-reply n meta seq ts key value s h.0 a
  reply-within (requests.Refresh id from to span) s h a = at_most-more n (n + 1) _ (omega arith) (refresh-within n id from to span s a)
  reply-within (requests.Query id epoch seq ts key by) s h a = at_most-more n (n + 1) _ (omega arith) (query-within n id epoch seq ts key s)
  reply-within (requests.Resolve id key fate) s h a = tt
  reply-within request s h a = at_most-more n (n + 1) (reply_stamps (record_reply request s.table)) (omega arith) (record-reply n request s.table h a.table)

  -- where every timestamp of the request and of the range is at most this one, every one of the range after it is at most the next one
  pub state_at_most : (request : Request) (s : RangeState) → AllAtMost n (request_stamps request) → AllAtMost n (all_stamps s) → AllAtMost (n + 1) (all_stamps (state_after request s))
  state_at_most request s h a =
      let asked = recursion_from_All (λ ts. ts ≤ n) (request_stamps request) h in
      state-stamps (n + 1) (state_after request s) (after-within request s asked (state-within n s a))

  -- and so is every one of the reply
  pub reply_at_most : (request : Request) (s : RangeState) → AllAtMost n (request_stamps request) → AllAtMost n (all_stamps s) → AllAtMost (n + 1) (reply_stamps (reply request s))
  reply_at_most request s h a =
      let asked = recursion_from_All (λ ts. ts ≤ n) (request_stamps request) h in
      All-from_recursion (λ ts. ts ≤ n + 1) (reply_stamps (reply request s)) (reply-within request s asked (state-within n s a))

  -- where they are all at most one that is below the greatest, there is room for the request
  pub has_room : (request : Request) (s : RangeState) → n < greatest → AllAtMost n (request_stamps request) → AllAtMost n (all_stamps s) → HasRoom request s
  has_room request s below h a =
      let whole = recursion_from_All (λ ts. ts ≤ n) (all_stamps s) a in
      let standing = All-from_recursion (λ ts. ts ≤ n) (state_stamps s) (each-front (λ ts. ts ≤ n) (state_stamps s) (cause_stamps s) whole) in
      record {
        asked = All-weaker (λ ts. ts ≤ n) (λ ts. ts < greatest) (λ ts k. omega arith) (request_stamps request) h;
        state = All-weaker (λ ts. ts ≤ n) (λ ts. ts < greatest) (λ ts k. omega arith) (state_stamps s) standing;
      }
