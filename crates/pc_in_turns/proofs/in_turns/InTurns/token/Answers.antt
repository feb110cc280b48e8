use Rattle.std.proofs.Common.{◌≡◌, ◌<◌, length, ap, subst, ◌∙◌}
use Rattle.pc_in_turns.proofs.Acting.{as_before, at_read, untold_nowhere, untold_there}
use Rattle.pc_in_turns.proofs.in_turns.InTurns.token.Goals as goal

pub returns-in-Some-clause-none : goal.returns-in-Some-clause-none
returns-in-Some-clause-none g c =
    let long = c.len.ensures ∙ (c.self.inside.sessions.ok.0 ∙ ap (λ t. length t.sessions) c.self.view_is) in
    let there = subst (λ n. c.in-Some.place < n) long c.in-Some.ensures.some.1 in
    untold_there c.token.result c.args.id c.args.self.now.sessions c.in-Some.place c.index_mut.result.now c.in-Some.ensures.some.0
    (at_read _ c.args.self.now c.in-Some.place c.index_mut.result.now c.self.view_is there c.index_mut.ensures.value) c.token.ensures.none

pub returns-in-Some-clause-same : goal.returns-in-Some-clause-same
returns-in-Some-clause-same g c =
    let long = c.len.ensures ∙ (c.self.inside.sessions.ok.0 ∙ ap (λ t. length t.sessions) c.self.view_is) in
    let there = subst (λ n. c.in-Some.place < n) long c.in-Some.ensures.some.1 in
    as_before _ c.args.self.now c.in-Some.place c.index_mut.result.now c.token.new.self c.self.view_is there c.index_mut.ensures.value c.token.ensures.same

pub returns-in-None-clause-none : goal.returns-in-None-clause-none
returns-in-None-clause-none g c =
    untold_nowhere c.args.id c.args.self.now.sessions c.len.result (c.len.ensures ∙ (c.self.inside.sessions.ok.0 ∙ ap (λ t. length t.sessions) c.self.view_is)) c.in-None.ensures.none
