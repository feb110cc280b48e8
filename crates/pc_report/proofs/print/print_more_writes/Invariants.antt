-- What is printed so far is the first writes, a comma before each, and these have a spelling.
use Rattle.std.proofs.Common.{◌≡◌, ◌∷◌, ◌++◌, take, All}
use Rattle.std.specs.List.{flat_map}
use Rattle.pc_report.specs.Report.{last_write_text}
use Rattle.pc_report.specs.Spelled.{FitsLastWrite}
use Rattle.pc_report.proofs.print.print_more_writes.Given as goal

abbrev pub invariant-loop-write : goal.invariant-loop-write
invariant-loop-write l = record {
  text : l.out.items ≡ l.initial.out.items ++ flat_map (λ write. 44 ∷ last_write_text write) (take l.write-index l.writes);
  spelled : All FitsLastWrite (take l.write-index l.writes);
}
