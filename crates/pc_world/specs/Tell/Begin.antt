-- Begun: the session's next transaction, at a timestamp above all that the session has heard. Hybrid logical clocks, SIGMOD 2020
-- paper, section 4.
use Rattle.std.specs.Prelude.{◌≡◌, ℕ, ◌+◌}
use Rattle.pc_base.specs.Clock.{clock_now}
use Rattle.pc_base.specs.declared.actor.ActorId.{ActorId}
use Rattle.pc_base.specs.declared.actor.ActorId.TheVariants as actors
use Rattle.pc_base.specs.declared.transaction.Priority.{Priority}
use Rattle.pc_base.specs.declared.transaction.TxnId.{TxnId}
use Rattle.pc_proto.specs.declared.call.Call.TheVariants as calls
use Rattle.pc_world.specs.Known.{Known}
use Rattle.pc_world.specs.Known.Statements.{Statement}

-- The id is that of the session's next transaction.
abbrev pub IsNextOf : ActorId → ℕ → TxnId → Type 0
IsNextOf (actors.Session session) begun id = (id.session ≡ session) × (id.number ≡ begun + 1)
IsNextOf (actors.Range number) begun id = ⊥
IsNextOf (actors.Recoverer number) begun id = ⊥

-- The call may be told that this transaction began at this timestamp.
pub record MayTellBegun (actor : ActorId) (k : Known) (s : Statement) (id : TxnId) (ts : ℕ) : Type 0 where
  pub priority : Priority
  pub asked : s.call ≡ calls.Begin priority
  pub next : IsNextOf actor k.begun id
  pub at : ts ≡ clock_now s.reading k.high
