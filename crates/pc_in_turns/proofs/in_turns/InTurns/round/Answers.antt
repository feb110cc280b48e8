use Rattle.pc_in_turns.proofs.Recovering.{counted_there, round_made}
use Rattle.pc_scripted.proofs.Beginning.{on_ok}
use Rattle.pc_in_turns.proofs.in_turns.InTurns.round.Goals as goal

pub round-requires : goal.round-requires
round-requires g c = counted_there _ c.args.self.now c.self.view_is c.requires.in_turns c.args.index c.requires.there c.index_mut.result.now c.index_mut.ensures.value

pub returns : goal.returns
returns g c =
    on_ok c.round.result _ _
    (λ made. round_made _ c.args.self.now c.self.view_is c.requires.in_turns c.args.index c.requires.there c.index_mut.result.now c.index_mut.ensures.value g.C.Clock.rule c.round.new.self made c.round.ensures.rule)
    c.round.ensures.ok
