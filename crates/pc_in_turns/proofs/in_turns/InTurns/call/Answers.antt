use Rattle.std.proofs.Common.{◌≡◌, None, Some, sym, ◌∙◌}
use Rattle.pc_in_turns.proofs.Acting.{at_one, at_read}
use Rattle.pc_scripted.specs.Learning.{learnt_ahead}
use Rattle.pc_in_turns.proofs.in_turns.InTurns.call.Goals as goal

pub learn-requires-clause-next : goal.learn-requires-clause-next
learn-requires-clause-next g c =
    let at = at_read _ c.args.self.now c.args.index c.index.result.now c.self.view_is c.requires.there c.index.ensures in
    at_one (λ s. learnt_ahead s ≡ Some c.in-Some.id) c.args.self.now c.args.index c.index.result.now at (sym c.learns.ensures ∙ c.in-Some.is)

pub turn-requires-clause-other : goal.turn-requires-clause-other
turn-requires-clause-other g c κs within =
    let at = at_read _ c.args.self.now c.args.index c.index.result.now c.self.view_is c.requires.there c.index.ensures in
    at_one (λ s. learnt_ahead s ≡ None) c.args.self.now c.args.index c.index.result.now at (sym c.learns.ensures ∙ c.in-None.is)
