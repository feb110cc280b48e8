-- What a stage says of the transaction that sends it.
use Rattle.std.specs.Prelude.{◌≡◌, ◌≢◌, ℕ, if◌then◌else◌, List, [], ◌∷◌, All, Any, IsTrue}
use Rattle.pc_world.specs.Known.Traffic.{Heard, Sent}
use Rattle.pc_world.specs.Known.Transactions.{Txn, IsGood, IsMetaOf}
use Rattle.pc_world.specs.Known.Writes.{IsProvedBy, Write, is_proved, listed_as, unproved}
use Rattle.pc_world.specs.StageFate.{EachCommit, EachStage, IsLate, SentStage, WasCommitRefused, stage_request}
use Rattle.pc_world.specs.Send.Stage.{IsPassed}

-- The stage has the transaction's meta, write timestamp and locks, and lists all of its writes that are in flight, which are some;
-- the others are proved at or below that timestamp.
pub record StagesAll (t : Txn) (s : SentStage) : Type 0 where
  pub whose : IsMetaOf t s.meta
  pub at_write_ts : s.ts ≡ t.write_ts
  pub all_locks : s.locks ≡ t.locks
  pub some : s.writes ≢ []
  pub in_flight : s.writes ≡ listed_as (unproved t.writes)
  pub proved : All (λ w. IsTrue (is_proved w) → IsProvedBy s.ts w) t.writes

-- The list as it stands with this write before it: a proved one is not listed.
abbrev pub listed_first : Write → List (List ℕ × ℕ) → List (List ℕ × ℕ)
listed_first w later = if is_proved w then later else (w.key, w.seq) ∷ later

-- The stage is of the transaction's epoch, was among these messages and is not late.
pub record IsStageAgain (sent : List Sent) (heard : List Heard) (t : Txn) (s : SentStage) : Type 0 where
  pub epoch_now : s.meta.epoch ≡ t.epoch
  pub before : Any (λ m. m.request ≡ stage_request s) sent
  pub not_late : IsLate heard s → ⊥

-- The stage says of the transaction what it must, whose reads are good there, and whose earlier stages and commits do not stand in the
-- way.
abbrev pub IsNewStage : List Sent → List Heard → Txn → SentStage → Type 0
IsNewStage sent heard t s =
    (StagesAll t s × IsGood heard t s.ts)
    × (EachStage t.id sent (IsPassed heard s.ts) × EachCommit t.id sent (WasCommitRefused heard))
