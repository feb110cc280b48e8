-- What makes a transaction committed: the one entry before which it is not, and after which it is. It is of one of four kinds. RFC 20180324.
use Rattle.std.specs.Prelude.{◌≡◌, ℕ, None, Option, List, [], ◌∷◌, ◌++◌, Any, Contains}
use Rattle.pc_base.specs.declared.entry.Entry.{Entry}
use Rattle.pc_base.specs.declared.transaction.TxnId.{TxnId}
use Rattle.pc_implicit.specs.Stages.{IsThere}
use Rattle.pc_implicit.specs.Writes.{home_of}
use Rattle.pc_proto.specs.declared.answer.Answer.TheVariants as answers
use Rattle.pc_proto.specs.declared.event.Event.{Event}
use Rattle.pc_proto.specs.declared.event.Event.TheVariants as events
use Rattle.pc_proto.specs.declared.meta.TxnMeta.{TxnMeta}
use Rattle.pc_proto.specs.declared.record.Record.{Record}
use Rattle.pc_proto.specs.declared.record.Standing.TheVariants as standings
use Rattle.pc_proto.specs.declared.reply.Reply.{Reply}
use Rattle.pc_proto.specs.declared.request.Request.{Request}
use Rattle.pc_proto.specs.declared.request.Request.TheVariants as requests
use Rattle.pc_proto.specs.Place.{Kept}
use Rattle.pc_world.specs.Committed.{IsCommitted, anchor_in, commit_ts}
use Rattle.pc_world.specs.Local.{Head}
use Rattle.pc_world.specs.Run.{IsRun}
use Rattle.pc_world.specs.StageFate.{SentStage, stage_request}

-- The entry evaluates this request, which was sent before.
pub record EvaluatesRequest (before : List (Entry Event)) (e : Entry Event) (request : Request) : Type 0 where
  pub send : Entry Event
  pub listed : Contains before send
  pub number : ℕ
  pub range : ℕ
  pub sends : send.event ≡ events.Send number range request
  pub reply : Reply
  pub evaluates : e.event ≡ events.Eval send.actor number reply

-- The transaction's record stages at this timestamp as the stage has it, and each write that it lists is present.
pub record StagesWhole (head : Head) (history : List (Entry Event)) (id : TxnId) (ts : ℕ) (s : SentStage) : Type 0 where
  pub whose : s.meta.id ≡ id
  pub at : s.ts ≡ ts
  pub kept : Record
  pub home : home_of head id history ≡ Kept kept
  pub staging : kept.status.standing ≡ standings.Staging
  pub epoch_is : kept.status.epoch ≡ s.meta.epoch
  pub ts_is : kept.status.ts ≡ s.ts
  pub writes_are : kept.writes ≡ s.writes
  pub present : (w : List ℕ × ℕ) → Contains s.writes w → IsThere head history s w

-- The entry after these is what makes the transaction committed at this timestamp: the evaluation of its commit; that of its stage, or of one of
-- its puts, by which the staged writes are all there; or, where it has put nothing, the telling. A recovery is none: what it finds was committed
-- before.
pub data MakesCommitted (head : Head) (before : List (Entry Event)) (e : Entry Event) (id : TxnId) (ts : ℕ) : Type 0 where
  ItsCommit : (meta : TxnMeta) (locks : List (List ℕ)) → meta.id ≡ id → EvaluatesRequest before e (requests.Commit meta ts locks)
      → MakesCommitted head before e id ts
  ItsStage : (s : SentStage) → EvaluatesRequest before e (stage_request s) → StagesWhole head (before ++ e ∷ []) id ts s
      → MakesCommitted head before e id ts
  ItsPut : (s : SentStage) (meta : TxnMeta) (seq asked : ℕ) (key : List ℕ) (value : Option (List ℕ)) → meta.id ≡ id
      → EvaluatesRequest before e (requests.Put meta seq asked key value) → Any (λ w. w.0 ≡ key) s.writes → StagesWhole head (before ++ e ∷ []) id ts s
      → MakesCommitted head before e id ts
  ItsTelling : anchor_in id before ≡ None → e.event ≡ events.Tell (answers.Committed id ts) → MakesCommitted head before e id ts

-- One entry commits: where a transaction is committed after an entry, and was not before, the entry is what makes it so.
abbrev pub OneEntryCommits : Type 0
OneEntryCommits =
    (head : Head) (before : List (Entry Event)) (e : Entry Event) (id : TxnId) (ts : ℕ)
    → IsRun head (before ++ e ∷ []) → commit_ts head before id ≡ None → IsCommitted head (before ++ e ∷ []) id ts
    → MakesCommitted head before e id ts
