-- The open transaction beside the one that its session knows, the messages that it makes, and what becomes of it. SIGMOD 2020 paper, section 3.
use Rattle.std.specs.Prelude.{ℕ, ◌+◌, max, Bool, false, if◌then◌else◌, nat_le, nat_lt, Option, None, Some, List, [], ◌∷◌, ◌++◌, filter, length, map, unwrap_or}
use Rattle.std.specs.List.{list_all}
use Rattle.pc_base.specs.declared.limits.TheConstants.{MOST_IN_FLIGHT}
use Rattle.pc_base.specs.declared.span.Span.{Span}
use Rattle.pc_flight.specs.declared.write.WriteInFlight.{WriteInFlight}
use Rattle.pc_flight.specs.InFlight.{is_another}
use Rattle.pc_proto.specs.declared.meta.TxnMeta.{TxnMeta}
use Rattle.pc_proto.specs.declared.request.Request.{Request}
use Rattle.pc_proto.specs.declared.request.Request.TheVariants as requests
use Rattle.pc_proto.specs.declared.why.Why.{Why}
use Rattle.pc_proto.specs.declared.why.Why.TheVariants as whys
use Rattle.pc_staging.specs.Kept.{Evidence, nothing_kept, refuted_above, refuted_at, seen_undecided, with_stages, without_stages}
use Rattle.pc_txn.specs.declared.txn.OpenTxn.{OpenTxn}
use Rattle.pc_world.specs.Known.Transactions.{Txn, with_lock}
use Rattle.pc_world.specs.Known.Writes.{last_seq_of}

-- What is kept of a transaction that its session knows; and the reading at which it last showed that it is alive, the cause of its rollback, the
-- spans that it read, its writes in flight, and what became of its stages and commits.
abbrev pub opened_as : ℕ → Why → List Span → List WriteInFlight → Evidence → Txn → OpenTxn
opened_as shown cause spans in_flight staging t = record {
  id = t.id;
  priority = t.priority;
  born = t.born;
  shown = shown;
  begin = t.begin;
  epoch = t.epoch;
  seq = last_seq_of t.writes;
  write_ts = t.write_ts;
  anchor = t.anchor;
  locks = t.locks;
  reads = record { spans = spans; ts = t.read_ts };
  in_flight = in_flight;
  staging = staging;
  cause = cause;
}

-- A transaction that was just begun: it showed that it is alive by its begin, it read nothing, nothing of it is in flight, and it staged and committed nothing.
abbrev pub just_begun : Txn → OpenTxn
just_begun t = opened_as t.born whys.Client [] [] nothing_kept t

-- Its meta, with this anchor.
abbrev pub meta_now : OpenTxn → List ℕ → TxnMeta
meta_now x anchor = record { id = x.id; epoch = x.epoch; priority = x.priority; born = x.born; anchor = anchor }

-- Its next write, at its write timestamp.
abbrev pub next_put : OpenTxn → List ℕ → Option (List ℕ) → Request
next_put x key value = requests.Put (meta_now x (unwrap_or x.anchor key)) (x.seq + 1) x.write_ts key value

-- A write of its that is in flight, at this timestamp.
abbrev pub put_at : OpenTxn → List ℕ → ℕ → WriteInFlight → Request
put_at x anchor ts w = requests.Put (meta_now x anchor) w.seq ts w.key w.value

-- A write of its that is in flight, at its write timestamp.
abbrev pub own_put : OpenTxn → List ℕ → WriteInFlight → Request
own_put x anchor w = put_at x anchor x.write_ts w

-- Its get of a key, at its read timestamp.
abbrev pub own_get : OpenTxn → List ℕ → Request
own_get x key = requests.Get x.id x.epoch x.seq x.reads.ts key

-- Its scan of a span, at its read timestamp.
abbrev pub own_scan : OpenTxn → Span → Request
own_scan x span = requests.Scan x.id x.epoch x.seq x.reads.ts span

-- Its commit, at its write timestamp.
abbrev pub own_commit : OpenTxn → List ℕ → Request
own_commit x anchor = requests.Commit (meta_now x anchor) x.write_ts x.locks

-- Its abort, for this cause.
abbrev pub own_abort : OpenTxn → Why → List ℕ → Request
own_abort x why anchor = requests.Abort (meta_now x anchor) why x.locks

-- A write of this sequence may be in flight behind these: there is room, and it is later than each.
abbrev pub has_place_behind : ℕ → List WriteInFlight → Bool
has_place_behind seq flight = if nat_le MOST_IN_FLIGHT (length flight) then false else list_all (λ w. nat_lt w.seq seq) flight

-- The transaction once its next write was sent, which is in flight; its stages are dead by then, and forgotten.
abbrev pub with_next_write : List ℕ → Option (List ℕ) → OpenTxn → OpenTxn
with_next_write key value x = record x {
  anchor = Some (unwrap_or x.anchor key);
  locks = with_lock key x.locks;
  seq = x.seq + 1;
  in_flight = x.in_flight ++ record { key = key; seq = x.seq + 1; value = value } ∷ [];
  staging = without_stages x.staging;
}

-- The transaction once its write of this key and sequence was written at this timestamp, by a reply that was evaluated at this step.
abbrev pub landed_at : List ℕ → ℕ → ℕ → ℕ → OpenTxn → OpenTxn
landed_at key seq ts step x = record x {
  write_ts = max x.write_ts ts;
  in_flight = filter (is_another key seq) x.in_flight;
  staging = with_stages (map (refuted_above ts step) x.staging.stages) x.staging;
}

-- The transaction once a query found its write of this key and sequence.
abbrev pub with_found : List ℕ → ℕ → OpenTxn → OpenTxn
with_found key seq x = record x { in_flight = filter (is_another key seq) x.in_flight }

-- The transaction once a query missed a write of its at this timestamp, where a stage lists it, by a reply that was evaluated at this step: it
-- writes above that.
abbrev pub missed_at : ℕ → ℕ → OpenTxn → OpenTxn
missed_at ts step x = record x {
  write_ts = max x.write_ts (ts + 1);
  staging = with_stages (map (refuted_at ts step) x.staging.stages) x.staging;
}

-- The transaction once its commit was refused, by a reply that was evaluated at this step and shows where the record stands.
abbrev pub refused_at : ℕ → ℕ → OpenTxn → OpenTxn
refused_at recorded step x = record x {
  write_ts = max x.write_ts recorded;
  staging = record (seen_undecided step x.staging) { commit = None };
}

-- The transaction once its commit was sent: it reads at its write timestamp.
abbrev pub with_commit : OpenTxn → OpenTxn
with_commit x = record x {
  reads = record { spans = x.reads.spans; ts = x.write_ts };
  staging = record x.staging { commit = Some x.write_ts };
}

-- The transaction once it was told to restart for this write: its next epoch has written, read and staged nothing, and reads at the write
-- timestamp; its anchor and locks stay.
abbrev pub restarted_by : List ℕ → ℕ → OpenTxn → OpenTxn
restarted_by key ts x = record x {
  epoch = x.epoch + 1;
  seq = 0;
  in_flight = [];
  staging = without_stages x.staging;
  reads = record { spans = []; ts = max x.reads.ts x.write_ts };
  cause = whys.Refresh key ts;
}
