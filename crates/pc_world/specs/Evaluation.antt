-- Evaluation: the reply to a request and the range's state after it, field by field.
-- CockroachDB SIGMOD 2020, with record rows as in the ParallelCommits TLA+ specification; each request's own file says more.
use Rattle.std.specs.Prelude.{List, ℕ}
use Rattle.pc_base.specs.Bound.{ReadBound}
use Rattle.pc_base.specs.declared.version.Version.{Version}
use Rattle.pc_proto.specs.declared.record.Intent.{Intent}
use Rattle.pc_proto.specs.declared.reply.Reply.{Reply}
use Rattle.pc_proto.specs.declared.reply.Reply.TheVariants as replies
use Rattle.pc_proto.specs.declared.request.Request.{Request}
use Rattle.pc_proto.specs.declared.request.Request.TheVariants as requests
use Rattle.pc_proto.specs.RecordRows.{record_reply, table_after}
use Rattle.pc_world.specs.RangeState.{RangeState}
use Rattle.pc_world.specs.Evaluation.Get.{get, bound_after_get}
use Rattle.pc_world.specs.Evaluation.IntentChange.{intents_with}
use Rattle.pc_world.specs.Evaluation.Put.{outcome_of_put, put_change, put_reply}
use Rattle.pc_world.specs.Evaluation.Query.{query, bound_after_query}
use Rattle.pc_world.specs.Evaluation.Refresh.{refresh, bound_after_refresh}
use Rattle.pc_world.specs.Evaluation.Resolve.{resolve_change, versions_after_resolve}
use Rattle.pc_world.specs.Evaluation.Scan.{scan, bound_after_scan}
pub mod Get
pub mod IntentChange
pub mod Put
pub mod Query
pub mod Refresh
pub mod Resolve
pub mod Scan

-- What the range answers.
abbrev pub reply : Request → RangeState → Reply
reply (requests.Get id epoch seq ts key) s = get id epoch seq ts key s
reply (requests.Scan id epoch seq ts span) s = scan id epoch seq ts span s
reply (requests.Put meta seq ts key value) s = put_reply key (outcome_of_put meta seq ts key value s)
reply (requests.Refresh id from to span) s = refresh id from to span s
reply (requests.Query id epoch seq ts key by) s = query id epoch seq ts key s
reply (requests.Resolve id key fate) s = replies.Resolved
reply request s = record_reply request s.table

-- Resolve alone adds versions.
abbrev pub versions_after : Request → RangeState → List Version
versions_after (requests.Resolve id key fate) s = versions_after_resolve id key fate s
versions_after _ s = s.versions

-- Put lays intents, Resolve moves or drops them.
abbrev pub intents_after : Request → RangeState → List (List ℕ × Intent)
intents_after (requests.Put meta seq ts key value) s =
    intents_with key (put_change (outcome_of_put meta seq ts key value s)) s.intents
intents_after (requests.Resolve id key fate) s = intents_with key (resolve_change id key fate s) s.intents
intents_after _ s = s.intents

-- Reads raise the bound, and so does a query that finds nothing.
abbrev pub bound_after : Request → RangeState → ReadBound
bound_after (requests.Get id epoch seq ts key) s = bound_after_get id ts key s
bound_after (requests.Scan id epoch seq ts span) s = bound_after_scan id ts span s
bound_after (requests.Refresh id from to span) s = bound_after_refresh id from to span s
bound_after (requests.Query id epoch seq ts key by) s = bound_after_query id epoch seq ts key s
bound_after _ s = s.bound

-- The range after the request.
abbrev pub state_after : Request → RangeState → RangeState
state_after request s = record {
  versions = versions_after request s;
  intents = intents_after request s;
  bound = bound_after request s;
  table = table_after request s.table;
}
