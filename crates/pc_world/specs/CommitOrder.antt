-- The order of the committed transactions: by commit timestamp, and where timestamps are equal by commit point. SIGMOD 2020 paper,
-- section 3; ties by commit point are this project's own profile.
use Rattle.std.specs.Prelude.{ℕ, Option, None, Some, List}
use Rattle.std.specs.List.{filter_map}
use Rattle.std.specs.Option.{option_map}
use Rattle.std.specs.Ordering.{nat_cmp, ordering_then}
use Rattle.std.specs.declared.cmp.Ordering.{Ordering}
use Rattle.pc_base.specs.declared.entry.Entry.{Entry}
use Rattle.pc_base.specs.declared.transaction.TxnId.{TxnId}
use Rattle.pc_base.specs.Keyed.{in_order}
use Rattle.pc_proto.specs.declared.answer.Answer.{Answer}
use Rattle.pc_proto.specs.declared.answer.Answer.TheVariants as answers
use Rattle.pc_proto.specs.declared.event.Event.{Event}
use Rattle.pc_proto.specs.declared.event.Event.TheVariants as events
use Rattle.pc_world.specs.Committed.{commit_point, commit_ts}
use Rattle.pc_world.specs.Local.{Head}

-- The transaction that an answer says was begun.
abbrev pub begun_by : Answer → Option TxnId
begun_by (answers.Begun id ts) = Some id
begun_by _ = None

-- The transaction that an event tells begun.
abbrev pub begun_in : Event → Option TxnId
begun_in (events.Tell answer) = begun_by answer
begun_in _ = None

-- The transactions that were begun, in the order of their begins.
abbrev pub all_begun : List (Entry Event) → List TxnId
all_begun history = filter_map (λ e. begun_in e.event) history

-- Where a committed transaction stands in the order: its timestamp and its commit point.
pub record Rank : Type 0 where
  pub ts : ℕ
  pub point : ℕ

-- By timestamp, then by commit point.
abbrev pub rank_cmp : Rank → Rank → Ordering
rank_cmp one other = ordering_then (nat_cmp one.ts other.ts) (nat_cmp one.point other.point)

-- A committed transaction, with its rank.
abbrev pub ranked : Head → List (Entry Event) → TxnId → Option (Rank × TxnId)
ranked head history id =
    option_map (λ (ts : ℕ). (record { ts = ts; point = commit_point head history id }, id)) (commit_ts head history id)

-- The committed transactions of a history with their ranks, in the order of these.
abbrev pub commit_order : Head → List (Entry Event) → List (Rank × TxnId)
commit_order head history = in_order rank_cmp (filter_map (ranked head history) (all_begun history))
