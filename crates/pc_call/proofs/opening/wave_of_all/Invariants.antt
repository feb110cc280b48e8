use Rattle.std.proofs.Common.{◌≡◌, map}
use Rattle.pc_wave.specs.Messages.{message_to_send}
use Rattle.pc_call.proofs.opening.wave_of_all.Given as goal

abbrev pub invariant-loop-request : goal.invariant-loop-request
invariant-loop-request l = l.wave ≡ map message_to_send l.yielded
