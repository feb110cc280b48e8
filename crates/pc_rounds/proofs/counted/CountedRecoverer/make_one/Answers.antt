use Rattle.std.proofs.Common.{◌≡◌, ◌<◌, false, refl, sym, subst}
use Rattle.pc_rounds.proofs.Breaking.{round_breaks}
use Rattle.pc_rounds.proofs.Making.{made_round}
use Rattle.pc_rounds.proofs.Resting.{next_from, on_ok}
use Rattle.pc_rounds.specs.Counted.{GoesInRounds}
use Rattle.pc_rounds.proofs.counted.CountedRecoverer.make_one.Goals as goal

pub returns-in-Ok-clause-ok : goal.returns-in-Ok-clause-ok
returns-in-Ok-clause-ok g c =
    let counted = subst GoesInRounds (sym c.self.view_is) c.requires.counted in
    let going = subst (λ r. r.recoverer.desk.log.stopped ≡ false) (sym c.self.view_is) c.requires.going in
    let left = subst (λ r. r.made < r.rounds) (sym c.self.view_is) c.requires.left in
    next_from _ c.args.self.now _ c.self.view_is (made_round _ c.round.new.self _ counted going left c.round.ensures.same.0 c.round.ensures.same.1 refl c.in-Ok.ensures.ok)

pub returns-in-Err-clause-ok : goal.returns-in-Err-clause-ok
returns-in-Err-clause-ok g c =
    let counted = subst GoesInRounds (sym c.self.view_is) c.requires.counted in
    let going = subst (λ r. r.recoverer.desk.log.stopped ≡ false) (sym c.self.view_is) c.requires.going in
    let left = subst (λ r. r.made < r.rounds) (sym c.self.view_is) c.requires.left in
    on_ok c.unless_memory.result _ _
    (λ memory. next_from _ c.args.self.now _ c.self.view_is
    (round_breaks _ c.round.new.self counted going left c.round.ensures.same.0 c.round.ensures.same.1 c.in-Err.halt memory c.in-Err.ensures.ended))
    c.unless_memory.ensures
