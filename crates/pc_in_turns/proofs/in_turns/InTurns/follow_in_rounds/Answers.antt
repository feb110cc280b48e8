use Rattle.std.proofs.Common.{IfNone, IfSome, subst, ◌∙◌}
use Rattle.pc_in_turns.proofs.Recovering.{followed_no_round, followed_round_mark}
use Rattle.pc_in_turns.specs.Moving.{HasNoLast, TellsLast}
use Rattle.pc_in_turns.proofs.in_turns.InTurns.follow_in_rounds.Goals as goal

pub returns-in-Some : goal.returns-in-Some
returns-in-Some g c =
    followed_round_mark _ c.args.self.now (c.self.view_is ∙ c.last_mark.ensures.same) c.requires.in_turns c.args.index c.requires.there c.index_mut.result.now c.index_mut.ensures.value c.follow.new.self c.in-Some.mark.known c.follow.ensures.took c.follow.ensures.counted
    (subst (λ m. IfSome m (λ n. TellsLast c.args.self.now n.known)) c.in-Some.is c.in_ok-mark.ensures.note)

pub returns-in_default : goal.returns-in_default
returns-in_default g c =
    followed_no_round _ c.args.self.now c.last_mark.ensures.same c.requires.in_turns c.args.index c.requires.there
    (subst (λ m. IfNone m (HasNoLast c.args.self.now)) c.in_default.is c.in_ok-mark.ensures.none)
