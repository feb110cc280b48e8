use Rattle.pc_scripted.proofs.Beginning.{begun_scripted}
use Rattle.pc_scripted.proofs.scripted.Scripted.new.Goals as goal

pub returns-clause-scripted : goal.returns-clause-scripted
returns-clause-scripted g c =
    let r = c.requires in
    begun_scripted c.args.session c.args.script.now _ c.args.reruns r.rests r.fresh r.going c.in_ok-new.ensures
