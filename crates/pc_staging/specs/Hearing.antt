-- What a session does and hears of its transaction's stages, commits and staged writes.
use Rattle.std.specs.Prelude.{◌≡◌, ℕ, ◌<◌, true, false, Option, List, [], ◌∷◌, ◌++◌, All}
use Rattle.pc_base.specs.declared.transaction.Who.{Who}
use Rattle.pc_proto.specs.declared.meta.TxnMeta.{TxnMeta}
use Rattle.pc_proto.specs.declared.reply.Reply.TheVariants as replies
use Rattle.pc_proto.specs.declared.request.Request.{Request}
use Rattle.pc_proto.specs.declared.request.Request.TheVariants as requests
use Rattle.pc_proto.specs.declared.view.View.{View}
use Rattle.pc_proto.specs.Requests.{is_about}
use Rattle.pc_proto.specs.Views.{is_final_view, undecided_ts}
use Rattle.pc_staging.specs.Standing.{HasUnproved, AreRefutedBelow}
use Rattle.pc_world.specs.Known.{Known}
use Rattle.pc_world.specs.Known.Traffic.{Heard, Sent}
use Rattle.pc_world.specs.Known.Transactions.{Txn, has_staged}
use Rattle.pc_world.specs.Known.Writes.{listed_as, unproved}
use Rattle.pc_world.specs.StageFate.{SentCommit, SentStage, commit_request, is_past_stage, stage_request}

-- The session has sent and heard nothing of the transaction's record, nor of its writes.
pub record HasSentNothing (k : Known) (t : Txn) : Type 0 where
  pub none_sent : All (λ m. is_about t.id m.request ≡ false) k.sent
  pub none_heard : All (λ h. is_about t.id h.request ≡ false) k.heard
  pub none_written : All (AreRefutedBelow t.id t.write_ts) k.heard

-- Since then the session sent and heard these more.
pub record HasGrown (k now : Known) (sent_more : List Sent) (heard_more : List Heard) : Type 0 where
  pub sent : now.sent ≡ k.sent ++ sent_more
  pub heard : now.heard ≡ k.heard ++ heard_more

-- The session sent one message, of this request.
pub record SendsRequest (k now : Known) (request : Request) : Type 0 where
  pub m : Sent
  pub grown : HasGrown k now (m ∷ []) []
  pub said : m.request ≡ request

-- The session sent a stage of the transaction's epoch, at its write timestamp, which lists the writes in flight.
pub record SendsStage (k now : Known) (t : Txn) (s : SentStage) : Type 0 where
  pub sends : SendsRequest k now (stage_request s)
  pub whose : s.meta.id ≡ t.id
  pub epoch_now : s.meta.epoch ≡ t.epoch
  pub at_write_ts : s.ts ≡ t.write_ts
  pub in_flight : s.writes ≡ listed_as (unproved t.writes)

-- The session sent a commit of the transaction, at its write timestamp.
pub record SendsCommit (k now : Known) (t : Txn) (c : SentCommit) : Type 0 where
  pub sends : SendsRequest k now (commit_request c)
  pub whose : c.meta.id ≡ t.id
  pub at_write_ts : c.ts ≡ t.write_ts

-- The stage was told this view: a record that is not final, and does not stage so, stands above it.
pub record HearsStage (k now : Known) (s : SentStage) (view : View) (h : Heard) : Type 0 where
  pub grown : HasGrown k now [] (h ∷ [])
  pub asked : h.request ≡ stage_request s
  pub told : h.reply ≡ replies.Status view
  pub past : is_past_stage s view ≡ true → s.ts < undecided_ts view

-- The commit was told this view: a record that is not final stands above it.
pub record HearsCommit (k now : Known) (c : SentCommit) (view : View) (h : Heard) : Type 0 where
  pub grown : HasGrown k now [] (h ∷ [])
  pub asked : h.request ≡ commit_request c
  pub told : h.reply ≡ replies.Status view
  pub past : is_final_view view ≡ false → c.ts < undecided_ts view

-- A heartbeat of the transaction was told this view.
pub record HearsBeat (k now : Known) (t : Txn) (view : View) (h : Heard) : Type 0 where
  pub grown : HasGrown k now [] (h ∷ [])
  pub meta : TxnMeta
  pub ts : ℕ
  pub reading : ℕ
  pub asked : h.request ≡ requests.Beat meta ts reading
  pub whose : meta.id ≡ t.id
  pub told : h.reply ≡ replies.Status view

-- A put of a write in flight was heard to be written at this timestamp.
pub record HearsWritten (k now : Known) (t : Txn) (ts : ℕ) (h : Heard) : Type 0 where
  pub grown : HasGrown k now [] (h ∷ [])
  pub meta : TxnMeta
  pub seq : ℕ
  pub sent_at : ℕ
  pub key : List ℕ
  pub value : Option (List ℕ)
  pub asked : h.request ≡ requests.Put meta seq sent_at key value
  pub whose : meta.id ≡ t.id
  pub epoch_now : meta.epoch ≡ t.epoch
  pub waiting : HasUnproved key seq t.writes
  pub told : h.reply ≡ replies.Written ts

-- A query of a write in flight, at the timestamp of a stage that lists it, missed it.
pub record HearsMissing (k now : Known) (t : Txn) (ts : ℕ) (h : Heard) : Type 0 where
  pub grown : HasGrown k now [] (h ∷ [])
  pub seq : ℕ
  pub key : List ℕ
  pub by : Who
  pub asked : h.request ≡ requests.Query t.id t.epoch seq ts key by
  pub staged : has_staged k.sent t.id t.epoch ts key seq ≡ true
  pub waiting : HasUnproved key seq t.writes
  pub told : h.reply ≡ replies.Missing
