use Rattle.std.specs.Option.{option_copied}
use Rattle.pc_known.proofs.Exact.{both}
use Rattle.pc_may_send.proofs.Existing.{put_again, no_put_again}
use Rattle.pc_may_send.proofs.put.may_send_again.Goals as goal

pub returns-in-Some : goal.returns-in-Some
returns-in-Some c k keeps =
    both c.is_put_again.ensures (put_again k c.args.put.now.meta.now c.args.put.now.seq c.args.put.now.ts c.args.put.now.key.now (option_copied c.args.put.now.value) c.in-Some.t.now (c.in-Some.ensures k keeps))

pub returns-in-None : goal.returns-in-None
returns-in-None c k keeps =
    (λ h. absurd cc, λ m. absurd (no_put_again k c.args.put.now.meta.now c.args.put.now.seq c.args.put.now.ts c.args.put.now.key.now (option_copied c.args.put.now.value) (c.in-None.ensures k keeps) m))
