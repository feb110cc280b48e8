-- Why a call of a source or a sink failed.
use Rattle.std.specs.Prelude.{◌≡◌, ℕ, OnErr, OnOk, Result}
use Rattle.pc_base.specs.Counts.{saturating_next}

-- a call that fails adds one to the count of faults, and no other call changes it
pub record HasCause {T E : Type 0} (before now : ℕ) (result : Result T E) : Type 0 where
  pub passed : OnOk result (now ≡ before)
  pub failed : OnErr result (now ≡ saturating_next before)
