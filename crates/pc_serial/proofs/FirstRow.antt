-- The definitions, computed on the history of the smallest workload.
use Rattle.std.proofs.Common.{refl}
use Rattle.pc_serial.specs.FirstRow.{FirstRowIsOneCommit}

pub first_row_is_one_commit : FirstRowIsOneCommit
first_row_is_one_commit = record {
  not_before = refl;
  committed = refl;
  stays = refl;
  point = refl;
  operations = refl;
  order = refl;
  leaves = refl;
}
