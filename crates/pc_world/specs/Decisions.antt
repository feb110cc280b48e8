-- No two decisions differ: a commit is acknowledged or recovered only where the transaction is committed, and a transaction that is
-- committed stays so, at one timestamp. RFC 20180324; ParallelCommits TLA+, ImplicitCommitLeadsToExplicitCommit and AckImpliesCommit.
use Rattle.std.specs.Prelude.{◌≡◌, ℕ, false, ◌⊎◌, Some, List, [], ◌∷◌, ◌++◌, IsTrue}
use Rattle.std.specs.Option.{option_map_or}
use Rattle.pc_base.specs.declared.entry.Entry.{Entry}
use Rattle.pc_base.specs.declared.transaction.TxnId.{TxnId}
use Rattle.pc_history.specs.Own.{named_in}
use Rattle.pc_proto.specs.declared.answer.Answer.TheVariants as answers
use Rattle.pc_proto.specs.declared.event.Event.{Event}
use Rattle.pc_proto.specs.declared.event.Event.TheVariants as events
use Rattle.pc_proto.specs.declared.reply.Reply.{Reply}
use Rattle.pc_proto.specs.declared.request.Request.{Request}
use Rattle.pc_proto.specs.Replies.{view_in}
use Rattle.pc_proto.specs.Requests.{Commits, Recovers}
use Rattle.pc_proto.specs.Views.{is_committed_at}
use Rattle.pc_world.specs.Committed.{IsCommitted}
use Rattle.pc_world.specs.Known.Traffic.{reply_in}
use Rattle.pc_world.specs.Local.{Head}
use Rattle.pc_world.specs.Named.{request_named}
use Rattle.pc_world.specs.Run.{protocol}

-- The event tells that the transaction committed at this timestamp.
abbrev pub TellsCommit : TxnId → ℕ → Event → Type 0
TellsCommit id ts (events.Tell (answers.Committed other at)) = (other ≡ id) × (at ≡ ts)
TellsCommit id ts _ = ⊥

-- After these entries, the entry evaluates such a request and answers that its transaction is committed at this timestamp.
pub record AnswersCommitted (head : Head) (before : List (Entry Event)) (ts : ℕ) (Is : Request → Type 0) (e : Entry Event) : Type 0 where
  pub request : Request
  pub asked : request_named (named_in (protocol head) before e.event) ≡ Some request
  pub kind : Is request
  pub reply : Reply
  pub told : reply_in e.event ≡ Some reply
  pub shown : IsTrue (option_map_or (is_committed_at ts) (view_in reply) false)

-- The entry acknowledges or recovers the commit: a session is told of it, or a commit or a recovery is answered so.
abbrev pub Acknowledges : Head → List (Entry Event) → TxnId → ℕ → Entry Event → Type 0
Acknowledges head before id ts e =
    TellsCommit id ts e.event
    ⊎ AnswersCommitted head before ts (Commits id) e
    ⊎ AnswersCommitted head before ts (Recovers id) e

-- Decisions do not differ in the history.
pub record HasOneDecision (head : Head) (history : List (Entry Event)) : Type 0 where
  -- What is acknowledged or recovered is committed then, at that timestamp.
  pub acknowledged : (before : List (Entry Event)) (e : Entry Event) (later : List (Entry Event)) (id : TxnId) (ts : ℕ)
      → history ≡ before ++ e ∷ later → Acknowledges head before id ts e → IsCommitted head (before ++ e ∷ []) id ts
  -- A recovery finds only what was committed before.
  pub recovered : (before : List (Entry Event)) (e : Entry Event) (later : List (Entry Event)) (id : TxnId) (ts : ℕ)
      → history ≡ before ++ e ∷ later → AnswersCommitted head before ts (Recovers id) e → IsCommitted head before id ts
  -- What is committed stays so, at that timestamp and no other.
  pub stays : (front middle back : List (Entry Event)) (id : TxnId) (ts : ℕ)
      → history ≡ front ++ middle ++ back → IsCommitted head front id ts → IsCommitted head (front ++ middle) id ts
  pub once : (front middle back : List (Entry Event)) (id : TxnId) (ts other : ℕ)
      → history ≡ front ++ middle ++ back → IsCommitted head front id ts → IsCommitted head (front ++ middle) id other → other ≡ ts
