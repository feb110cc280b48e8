-- How far the rounds of a call are, where writes are pipelined: the conflicts of a wave have their rounds by sequence; a stage that is refused
-- passes over all that its wave met, which then have no round; and a query that finds the blocked write of the call's own stage ends its
-- conflict. Own profile, after RFC 20180324.
use Rattle.std.specs.Prelude.{Bool, false, cond, drop, Option, None, Some, List, [], fold}
use Rattle.std.specs.Option.{option_map_or}
use Rattle.pc_base.specs.declared.transaction.TxnId.{TxnId}
use Rattle.pc_base.specs.Transaction.{same_txn}
use Rattle.pc_follows.specs.OwnStages.{refuses_stage}
use Rattle.pc_follows.specs.RoundOrder.{with_waiting}
use Rattle.pc_proto.specs.declared.reply.Reply.{Reply}
use Rattle.pc_proto.specs.declared.reply.Reply.TheVariants as replies
use Rattle.pc_proto.specs.declared.request.Request.{Request}
use Rattle.pc_proto.specs.declared.request.Request.TheVariants as requests
use Rattle.pc_proto.specs.declared.view.View.{View}
use Rattle.pc_proto.specs.Replies.{is_conflict}
use Rattle.pc_proto.specs.Views.{is_final_view}
use Rattle.pc_world.specs.Known.{Known, open_txn}
use Rattle.pc_world.specs.Known.Traffic.{Heard}
use Rattle.pc_world.specs.Known.Transactions.{Txn}

-- How far the rounds of a call are.
pub record RoundCount : Type 0 where
  -- The conflicts that wait for their round to be over, the next one first.
  pub waiting : List Heard
  -- Those that the stage passed over which was refused last, in the same order; none once the call went on.
  pub passed : List Heard
  -- The reply to the push with which the round of the next one began, if it was heard.
  pub push : Option Heard
  -- The view that its recovery showed, if it was recovered.
  pub recovered : Option View

-- No conflict was heard yet.
abbrev pub no_rounds : RoundCount
no_rounds = record { waiting = []; passed = []; push = None; recovered = None }

-- The next conflict is over.
abbrev pub one_over : RoundCount → RoundCount
one_over r = record r { waiting = drop 1 r.waiting; push = None; recovered = None }

-- All conflicts that wait are passed over.
abbrev pub all_passed : RoundCount → RoundCount
all_passed r = record { waiting = []; passed = r.waiting; push = None; recovered = None }

-- The call went on: of what a stage passed over nothing is told any more.
abbrev pub gone_on : RoundCount → RoundCount
gone_on r = record r { passed = [] }

-- The round goes on by the view that its recovery showed: it is over, unless the view is final.
abbrev pub recovered_by : View → RoundCount → RoundCount
recovered_by view r = cond (is_final_view view) (record r { recovered = Some view }) (one_over r)

-- The transaction is this one, which is open.
abbrev pub is_open_one : Option Txn → TxnId → Bool
is_open_one opened id = option_map_or (λ t. same_txn t.id id) opened false

-- The rounds with one more conflict, if the reply is one.
abbrev pub with_conflict : Heard → RoundCount → RoundCount
with_conflict h r = record r { waiting = cond (is_conflict h.reply) (with_waiting h r.waiting) r.waiting }

-- What a reply to this request makes of the rounds, where this transaction is open: behind a heartbeat nothing goes on.
abbrev pub rounds_by : Option Txn → Heard → Request → Reply → RoundCount → RoundCount
rounds_by opened h (requests.Push holder by level now goal) reply r = record r { push = Some h }
rounds_by opened h (requests.Recover id epoch ts anchor finding) (replies.Status view) r = recovered_by view r
rounds_by opened h (requests.Resolve id key fate) replies.Resolved r = one_over r
rounds_by opened h (requests.Query id epoch seq ts key by) replies.Found r = cond (is_open_one opened id) (one_over r) r
rounds_by opened h (requests.Stage meta ts now writes locks) reply r =
    cond (refuses_stage (requests.Stage meta ts now writes locks) reply) (all_passed r) (gone_on r)
rounds_by opened h (requests.Beat meta ts now) reply r = r
rounds_by opened h _ reply r = gone_on r

-- The rounds after one more reply.
abbrev pub rounds_after : Option Txn → RoundCount → Heard → RoundCount
rounds_after opened r h = rounds_by opened h h.request h.reply (with_conflict h r)

-- How far the rounds of the open call are.
abbrev pub rounds_made : Known → RoundCount
rounds_made k = fold (rounds_after (open_txn k)) no_rounds k.heard_now
