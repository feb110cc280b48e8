-- What a session must know to commit a transaction, by parts.
use Rattle.std.specs.Prelude.{◌≡◌, ◌≢◌, ℕ, ◌⊎◌, List, All}
use Rattle.pc_world.specs.Known.{Known}
use Rattle.pc_world.specs.Known.Traffic.{Heard, Sent}
use Rattle.pc_world.specs.Known.Transactions.{IsGood, IsMetaOf, Txn}
use Rattle.pc_world.specs.Known.Writes.{IsProvedBy}
use Rattle.pc_world.specs.Send.Commit.{MayDecide}
use Rattle.pc_world.specs.StageFate.{EachCommit, EachStage, IsLate, SentCommit, WasCommitRefused}
use Rattle.pc_world.specs.Views.{WasCommitted}

-- At this timestamp, at which the transaction writes, its reads are good and its writes are proved; and its stages and commits at others
-- are known to have come to nothing.
abbrev pub IsReadyToCommit : List Sent → List Heard → ℕ → Txn → Type 0
IsReadyToCommit sent heard ts t =
    (((ts ≡ t.write_ts) × IsGood heard t ts) × All (IsProvedBy ts) t.writes)
    × (EachStage t.id sent (λ s. s.ts ≢ ts → IsLate heard s) × EachCommit t.id sent (λ c. c.ts ≢ ts → WasCommitRefused heard c))

-- The commit is the transaction's, which may commit at its timestamp.
abbrev pub IsCommitBy : Known → SentCommit → Txn → Type 0
IsCommitBy k c t = (IsMetaOf t c.meta × (c.locks ≡ t.locks)) × (MayDecide k t c.ts ⊎ WasCommitted k.heard t.id c.ts)
