use Rattle.std.proofs.Common.{◌≡◌, ◌+◌, ap, drop, length, position, rules, subst, sym, ◌∙◌}
use Rattle.pc_wave.proofs.Behind.{from_place, none_before, none_at_all, place_behind}
use Rattle.pc_wave.specs.Cursors.{HasNoneBefore, lacks_answer}
use Rattle.pc_wave.proofs.wave.Wave.first_unanswered.Goals as goal

pub returns-in-Some : goal.returns-in-Some
returns-in-Some c =
    let found : c.first_without_answer.result ≡ position lacks_answer (drop c.self.inside.answered c.self.inside.messages.items) =
    c.first_without_answer.ensures ∙ ap (position lacks_answer) (from_place c.self.inside.answered c.deref.result.now c.self.inside.messages.items c.deref.ensures.value) in
    none_before lacks_answer (c.self.inside.answered + c.in-Some.place) c.args.self.now
    (sym ((place_behind lacks_answer c.self.inside.answered c.self.inside.messages.items c.args.self.now c.first_without_answer.result c.self.invariant.heard c.self.view_is found).1 c.in-Some.place c.in-Some.is))

pub returns-in-None : goal.returns-in-None
returns-in-None c =
    let found : c.first_without_answer.result ≡ position lacks_answer (drop c.self.inside.answered c.self.inside.messages.items) =
    c.first_without_answer.ensures ∙ ap (position lacks_answer) (from_place c.self.inside.answered c.deref.result.now c.self.inside.messages.items c.deref.ensures.value) in
    let all : length c.args.self.now ≡ c.len.result = search rules in
    subst (λ n. HasNoneBefore lacks_answer n c.args.self.now) all
    (none_at_all lacks_answer c.args.self.now
    (sym ((place_behind lacks_answer c.self.inside.answered c.self.inside.messages.items c.args.self.now c.first_without_answer.result c.self.invariant.heard c.self.view_is found).0 c.in-None.is)))
