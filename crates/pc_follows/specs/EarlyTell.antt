-- Early tell: once a commit may be told committed, by a view that was heard or implicitly, nothing is sent before that telling, and
-- nothing either once its transaction was heard to be aborted. Own profile.
use Rattle.std.specs.Prelude.{◌≡◌, ℕ, ◌⊎◌, Some, ⊤}
use Rattle.pc_proto.specs.declared.call.Call.TheVariants as calls
use Rattle.pc_proto.specs.declared.event.Event.{Event}
use Rattle.pc_proto.specs.declared.event.Event.TheVariants as events
use Rattle.pc_proto.specs.declared.why.Why.{Why}
use Rattle.pc_world.specs.Known.{Known, call_of, open_txn}
use Rattle.pc_world.specs.Known.Transactions.{Txn}
use Rattle.pc_world.specs.Tell.End.{IsImplicit}
use Rattle.pc_world.specs.Views.{WasAborted, WasCommitted}

-- The open call is a commit, and the session knows that its transaction is committed at this timestamp.
pub record IsCommitKnown (k : Known) (t : Txn) (ts : ℕ) : Type 0 where
  pub opened : open_txn k ≡ Some t
  pub asked : call_of k ≡ Some calls.Commit
  pub why : WasCommitted k.heard t.id ts ⊎ IsImplicit k t ts

-- The open call is a commit, and its transaction was heard to be aborted.
pub record IsAbortKnown (k : Known) (t : Txn) (why : Why) : Type 0 where
  pub opened : open_txn k ≡ Some t
  pub asked : call_of k ≡ Some calls.Commit
  pub heard : WasAborted k.heard t.id why

-- The open commit is known to be committed, or aborted.
abbrev pub IsCommitDecided : Known → Txn → Type 0
IsCommitDecided k t = ((ts : ℕ) × IsCommitKnown k t ts) ⊎ ((why : Why) × IsAbortKnown k t why)

-- Nothing is sent once the open commit is decided.
abbrev pub TellsEarly : Known → Event → Type 0
TellsEarly k (events.Send number range request) = (t : Txn) → IsCommitDecided k t → ⊥
TellsEarly k _ = ⊤
