use Rattle.std.proofs.Common.{◌≡◌, max, rules}
use Rattle.pc_own.proofs.Indexed.{pushed_index}
use Rattle.pc_own.proofs.places.Places.add.Goals as goal

pub returns : goal.returns
returns c ws w h is at free =
    let most : c.max-self.result ≡ max c.args.self.now.last c.args.seq = search rules in
    pushed_index ws w c.args.seq c.args.place c.args.self.now (record { places = c.insert.new.self; last = c.max-self.result }) h is at free (c.in_ok-insert.ensures.updates.0) most
