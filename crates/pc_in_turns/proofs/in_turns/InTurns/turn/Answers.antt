use Rattle.pc_in_turns.proofs.Acting.{at_read, turned_now, scripted_at}
use Rattle.pc_scripted.proofs.Beginning.{on_ok}
use Rattle.pc_in_turns.proofs.in_turns.InTurns.turn.Goals as goal

pub turn-requires-clause-scripted : goal.turn-requires-clause-scripted
turn-requires-clause-scripted g c κs within =
    scripted_at c.args.self.now c.args.index c.index_mut.result.now c.requires.in_turns
    (at_read _ c.args.self.now c.args.index c.index_mut.result.now c.self.view_is c.requires.there c.index_mut.ensures.value)

pub returns : goal.returns
returns g c =
    on_ok c.turn.result _ _
    (λ moved. turned_now g.C.Clock.rule c.args.index _ c.args.self.now c.self.view_is c.requires.in_turns c.requires.there c.index_mut.result.now c.turn.new.self c.index_mut.ensures.value c.turn.ensures.rule c.requires.other moved)
    c.turn.ensures.ok
