use Rattle.std.proofs.Common.{◌≡◌, take}
use Rattle.pc_call.specs.Outbox.{without_puts}
use Rattle.pc_call.specs.Stages.{put_messages}
use Rattle.pc_call.proofs.stages.put_wave.Given as goal

abbrev pub invariant-loop-write : goal.invariant-loop-write
invariant-loop-write l = (l.wave ≡ put_messages l.txn l.initial.later l.anchor l.puts (take l.write-index l.write-items)) × (l.later ≡ without_puts (take l.write-index l.write-items) l.initial.later)
