-- The open transaction shows that it is alive: whether it is silent, its heartbeat, and what becomes of it. SIGMOD 2020 paper, section 3.2.
use Rattle.std.specs.Prelude.{ℕ, ◌+◌, max, nat_le, Bool, ◌&&◌, is_some, List}
use Rattle.pc_base.specs.declared.limits.TheConstants.{HEARTBEAT}
use Rattle.pc_proto.specs.declared.request.Request.{Request}
use Rattle.pc_proto.specs.declared.request.Request.TheVariants as requests
use Rattle.pc_staging.specs.Kept.{seen_undecided}
use Rattle.pc_txn.specs.declared.txn.OpenTxn.{OpenTxn}
use Rattle.pc_txn.specs.Opened.{meta_now}

-- At this reading it has been silent for a second or more: it has an anchor, and last showed that it is alive so long before.
abbrev pub is_silent : ℕ → OpenTxn → Bool
is_silent reading x = is_some x.anchor && nat_le (x.shown + HEARTBEAT) reading

-- Its heartbeat of this reading, at its write timestamp.
abbrev pub own_beat : OpenTxn → ℕ → List ℕ → Request
own_beat x reading anchor = requests.Beat (meta_now x anchor) x.write_ts reading

-- The transaction once its heartbeat of this reading was sent.
abbrev pub shown_at : ℕ → OpenTxn → OpenTxn
shown_at reading x = record x { shown = reading }

-- The transaction once its heartbeat showed its record, which is not final and stands at this timestamp, by a reply that was evaluated at this step.
abbrev pub raised_at : ℕ → ℕ → OpenTxn → OpenTxn
raised_at recorded step x = record x { write_ts = max x.write_ts recorded; staging = seen_undecided step x.staging }
