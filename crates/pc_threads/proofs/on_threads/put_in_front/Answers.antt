use Rattle.std.proofs.Common.{◌∙◌}
use Rattle.pc_threads.proofs.Places.{insert_front}
use Rattle.pc_threads.proofs.on_threads.put_in_front.Goals as goal

pub returns : goal.returns
returns g c = record { front = c.new.result; leads = c.new.ensures; whole = c.in_ok-insert.ensures.items ∙ insert_front c.args.lanes.items c.new.result }
