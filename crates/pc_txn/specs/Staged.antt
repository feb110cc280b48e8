-- The open transaction stages its writes in flight: its stage, and what becomes of it. RFC 20180324; SIGMOD 2020 paper, section 3.3.
use Rattle.std.specs.Prelude.{ℕ, max, None, List, [], ◌∷◌, ◌++◌}
use Rattle.pc_flight.specs.InFlight.{listed_in_flight}
use Rattle.pc_proto.specs.declared.request.Request.{Request}
use Rattle.pc_proto.specs.declared.request.Request.TheVariants as requests
use Rattle.pc_proto.specs.declared.view.View.{View}
use Rattle.pc_staging.specs.Kept.{after_stage, with_stages}
use Rattle.pc_txn.specs.declared.txn.OpenTxn.{OpenTxn}
use Rattle.pc_txn.specs.Opened.{meta_now}

-- Its stage, at its write timestamp and at this reading: it lists the writes in flight, and has all locks.
abbrev pub stage_now : OpenTxn → List ℕ → ℕ → Request
stage_now x anchor reading = requests.Stage (meta_now x anchor) x.write_ts reading (listed_in_flight x.in_flight) x.locks

-- The transaction once its stage was sent: it reads at its write timestamp.
abbrev pub with_stage : OpenTxn → OpenTxn
with_stage x = record x {
  reads = record { spans = x.reads.spans; ts = x.write_ts };
  staging = with_stages (x.staging.stages ++ record { ts = x.write_ts; refuted = None } ∷ []) x.staging;
}

-- The transaction once its stage at this timestamp was told this view, of a record that is not final and stands at the second timestamp, by a
-- reply that was evaluated at this step.
abbrev pub stage_told_at : ℕ → View → ℕ → ℕ → OpenTxn → OpenTxn
stage_told_at ts view recorded step x = record x {
  write_ts = max x.write_ts recorded;
  staging = after_stage x.epoch ts step view x.staging;
}
