use Rattle.std.proofs.Common.{◌≡◌, filter, take}
use Rattle.pc_call.specs.Outbox.{proofs_in, without_puts}
use Rattle.pc_call.specs.Waiting.{waits_on}
use Rattle.pc_call.proofs.proves.proof_wave.Given as goal

abbrev pub invariant-loop-write : goal.invariant-loop-write
invariant-loop-write l =
    (l.wave ≡ proofs_in l.call l.all l.txn l.initial.later l.anchor (take l.write-index l.write-items)) × (l.later ≡ without_puts (filter (λ w. waits_on l.call l.all w.key) (take l.write-index l.write-items)) l.initial.later)
