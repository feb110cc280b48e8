-- Refresh: whether what was read at `from` is still so at `to`, which a version above `from`, or another's intent, up to `to`
-- refutes; where it is so, the range has been read at `to`. SIGMOD 2020 paper, section 3.4.
use Rattle.std.specs.Prelude.{ℕ, if◌then◌else◌, Option, None, Some, List}
use Rattle.pc_base.specs.Bound.{ReadBound, raised}
use Rattle.pc_base.specs.declared.span.Span.{Span}
use Rattle.pc_base.specs.declared.transaction.TxnId.{TxnId}
use Rattle.pc_base.specs.declared.version.Version.{Version}
use Rattle.pc_base.specs.Span.{key_below}
use Rattle.pc_base.specs.Versions.{first_between}
use Rattle.pc_proto.specs.declared.record.Intent.{Intent}
use Rattle.pc_proto.specs.declared.reply.Reply.{Reply}
use Rattle.pc_proto.specs.declared.reply.Reply.TheVariants as replies
use Rattle.pc_proto.specs.Intents.{first_other}
use Rattle.pc_world.specs.RangeState.{RangeState}

-- The write that refutes a refresh, by key and timestamp: the one of the lesser key, the version where both have one key.
abbrev pub refuter : Option Version → Option (List ℕ × Intent) → Option (List ℕ × ℕ)
refuter None None = None
refuter (Some v) None = Some (v.key, v.ts)
refuter None (Some e) = Some (e.0, e.1.ts)
refuter (Some v) (Some e) = if key_below e.0 v.key then Some (e.0, e.1.ts) else Some (v.key, v.ts)

-- The write in the range that refutes this refresh, if there is one.
abbrev pub refuter_in : TxnId → ℕ → ℕ → Span → RangeState → Option (List ℕ × ℕ)
refuter_in id from to span s = refuter (first_between span from to s.versions) (first_other span to id s.intents)

-- A refresh is told the write that refutes it, or that there is none.
abbrev pub refresh_reply : Option (List ℕ × ℕ) → Reply
refresh_reply None = replies.Refreshed
refresh_reply (Some w) = replies.Unrefreshed w.0 w.1

-- What a range answers to a refresh.
abbrev pub refresh : TxnId → ℕ → ℕ → Span → RangeState → Reply
refresh id from to span s = refresh_reply (refuter_in id from to span s)

-- The read bound, raised unless a write refutes the refresh.
abbrev pub refreshed_bound : Option (List ℕ × ℕ) → TxnId → ℕ → ReadBound → ReadBound
refreshed_bound None id to bound = raised to (Some id) bound
refreshed_bound (Some w) id to bound = bound

-- The read bound after this refresh.
abbrev pub bound_after_refresh : TxnId → ℕ → ℕ → Span → RangeState → ReadBound
bound_after_refresh id from to span s = refreshed_bound (refuter_in id from to span s) id to s.bound
