-- What the items and turns of a workload name is there. Own profile.
use Rattle.std.specs.Prelude.{◌≤◌, ℕ, List, length, All, ⊤}
use Rattle.pc_base.specs.declared.limits.TheConstants.{MOST_TURNS}
use Rattle.pc_work.specs.declared.item.Item.{Item}
use Rattle.pc_work.specs.declared.item.Item.TheVariants.{Learn, Txn}
use Rattle.pc_work.specs.declared.turn.Turn.{Turn}
use Rattle.pc_work.specs.declared.turn.Turn.TheVariants.{Session, Job, Recoverer}

-- Among so many sessions, a learn names one that is there.
abbrev pub IsItemOf : ℕ → Item → Type 0
IsItemOf sessions (Learn id) = (1 ≤ id.session) × (id.session ≤ sessions)
IsItemOf sessions (Txn priority statements commits) = ⊤

-- The turn is that of one of so many sessions, or of its finishing job, or of one of so many recoverers.
abbrev pub IsTurnOf : ℕ → ℕ → Turn → Type 0
IsTurnOf sessions recoverers (Session number) = (1 ≤ number) × (number ≤ sessions)
IsTurnOf sessions recoverers (Job number) = (1 ≤ number) × (number ≤ sessions)
IsTurnOf sessions recoverers (Recoverer number) = (1 ≤ number) × (number ≤ recoverers)

-- The turns are no more than the limit, and each is that of one of so many sessions, or of its finishing job, or of one of so many recoverers.
pub record AreTurnsOf (sessions recoverers : ℕ) (listed : List Turn) : Type 0 where
  pub few : length listed ≤ MOST_TURNS
  pub each : All (IsTurnOf sessions recoverers) listed
