-- What contracts see of a source or a sink over std's readers and writers.
use Rattle.std.specs.Prelude.{ℕ, List}
use Rattle.std.specs.declared.option.Option.{Option}

-- what the reader has left or the writer holds, where it tells, and how many calls failed
pub record StandardState : Type 0 where
  pub known : Option (List ℕ)
  pub faults : ℕ
