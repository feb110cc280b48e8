-- The requests so far are the refreshes of the spans so far.
use Rattle.std.proofs.Common.{◌≡◌, map}
use Rattle.std.specs.Map.Iter.{deref}
use Rattle.pc_reads.specs.ReadsStanding.{refresh_to}
use Rattle.pc_reads.proofs.reads.TxnReads.refreshes.Given as goal

abbrev pub invariant-loop-span : goal.invariant-loop-span
invariant-loop-span l = l.requests.items ≡ map (refresh_to l.id l.self.ts l.to) (map deref l.yielded)
