use Rattle.std.proofs.Common.{◌≡◌, None, Some, sym, ap, ◌∙◌, subst}
use Rattle.std.proofs.lemmas.Option.{same_Some}
use Rattle.pc_call.proofs.Restarting.{first_found, first_none, refreshed_decides, restart_gives_up}
use Rattle.pc_call.specs.Suiting.{SuitsFlightIn}
use Rattle.pc_reads.specs.Replies.{first_unrefreshed}
use Rattle.pc_world.specs.Known.{reading_in}
use Rattle.pc_call.proofs.call.OpenCall.refreshed.Goals as goal

pub returns-in-Some-clause-refreshed : goal.returns-in-Some-clause-refreshed
returns-in-Some-clause-refreshed c = λ session clock begun n set k puts counted w is due o may reading.
    let ms = c.args.self.wave in
    let e : first_unrefreshed ms ≡ Some (c.in-Some.key, c.in-Some.ts) = sym c.in_ok-met.ensures ∙ c.in-Some.is in
    let f = first_found ms (c.in-Some.key, c.in-Some.ts) e in
    restart_gives_up session clock begun set k c.args.txn.now c.args.self.purpose ms counted w n puts is due f.0 f.1 c.in-Some.key c.in-Some.ts f.2

pub returns-in-None-clause-refreshed : goal.returns-in-None-clause-refreshed
returns-in-None-clause-refreshed c = λ session clock begun n set k puts counted w is due o may reading.
    let x = c.args.txn.now in
    let ms = c.args.self.wave in
    let e : first_unrefreshed ms ≡ None = sym c.in_ok-met.ensures ∙ c.in-None.is in
    let d = refreshed_decides session clock begun set k x c.args.self.purpose ms counted w n puts is due (first_none ms e) in
    c.decides_on.ensures.stands session n set k w.s puts d o may is (same_Some w.s.reading c.args.reading (sym (ap reading_in w.opened) ∙ reading))
    (subst (λ call. SuitsFlightIn set.course.pipelines call x.in_flight) d.on.on.commits.call w.plain)
