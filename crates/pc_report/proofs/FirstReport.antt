-- The report of the smallest workload's history, computed.
use Rattle.std.proofs.Common.{refl}
use Rattle.std.specs.Fmt.{digits}
use Rattle.pc_report.specs.FirstReport.{FirstRowIsReported}

pub first_row_is_reported : FirstRowIsReported
unfolding digits
first_row_is_reported = record { report = refl; text = refl }
