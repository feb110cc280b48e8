-- How a transaction is known to end, by what was heard.
use Rattle.std.specs.Prelude.{◌≡◌, ℕ, ◌⊎◌, None, List, All, Any, IsTrue}
use Rattle.pc_proto.specs.declared.why.Why.{Why}
use Rattle.pc_world.specs.Known.Traffic.{Heard}
use Rattle.pc_world.specs.Known.Transactions.{IsGood, Txn}
use Rattle.pc_world.specs.Known.Writes.{IsProvedBy}
use Rattle.pc_world.specs.Send.Abort.{own_cause}
use Rattle.pc_world.specs.Tell.End.{shows_staging}
use Rattle.pc_world.specs.Views.{WasAborted, WasCommitted}

-- The transaction has committed at this timestamp: it wrote nothing and its reads are good where it began, or a view said so, or it is
-- staged there and each of its writes is proved.
abbrev pub HasCommitted : List Heard → Txn → ℕ → Type 0
HasCommitted heard t ts =
    (((t.anchor ≡ None) × (ts ≡ t.begin)) × IsGood heard t ts)
    ⊎ (WasCommitted heard t.id ts ⊎ (Any (λ h. IsTrue (shows_staging t.id t.epoch ts h)) heard × All (IsProvedBy ts) t.writes))

-- The cause is that of an ABORTED view of the transaction, else its own.
abbrev pub IsCauseHeard : List Heard → Txn → Why → Type 0
IsCauseHeard heard_now t why =
    WasAborted heard_now t.id why ⊎ (((other : Why) → WasAborted heard_now t.id other → ⊥) × (why ≡ own_cause t.restart))
