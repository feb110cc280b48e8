use Rattle.std.proofs.Common.{is_some, subst, ◌∙◌}
use Rattle.pc_in_turns.proofs.Acting.{at_read, learnt_now, untold_without}
use Rattle.pc_scripted.proofs.Beginning.{on_ok}
use Rattle.pc_in_turns.proofs.in_turns.InTurns.learn.Goals as goal

pub learn-requires-clause-scripted : goal.learn-requires-clause-scripted
learn-requires-clause-scripted g c =
    let at = at_read _ c.args.self.now c.args.index c.index_mut.result.now (c.self.view_is ∙ c.token.ensures.same) c.requires.there c.index_mut.ensures.value in
    (c.requires.in_turns.runners.each c.args.index c.index_mut.result.now at).scripted

pub learn-requires-clause-next : goal.learn-requires-clause-next
learn-requires-clause-next g c = c.requires.next c.index_mut.result.now (at_read _ c.args.self.now c.args.index c.index_mut.result.now (c.self.view_is ∙ c.token.ensures.same) c.requires.there c.index_mut.ensures.value)

pub returns : goal.returns
returns g c =
    on_ok c.learn.result _ _
    (λ moved. learnt_now g.C.Clock.rule c.args.index _ c.args.self.now (c.self.view_is ∙ c.token.ensures.same) c.requires.in_turns c.requires.there c.index_mut.result.now c.learn.new.self c.index_mut.ensures.value c.learn.ensures.rule c.args.id _ moved
    (untold_without _ c.args.id c.args.self.now.sessions c.in_ok-token.ensures.none))
    c.learn.ensures.ok
