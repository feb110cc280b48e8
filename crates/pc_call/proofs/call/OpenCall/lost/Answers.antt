use Rattle.std.proofs.Common.{◌≡◌, ◌++◌, cond, position, is_some, refl, sym, ap, ◌∙◌, subst}
use Rattle.std.specs.List.{after_first, before_first}
use Rattle.pc_call.proofs.LostMessages.{lost_still}
use Rattle.pc_call.proofs.Taken.{left_at}
use Rattle.pc_call.specs.Losses.{is_late_out}
use Rattle.pc_call.specs.Serving.{InCall}
use Rattle.pc_wave.specs.Messages.{awaits_at, first_changed, lost_of}
use Rattle.pc_call.proofs.call.OpenCall.lost.Goals as goal

pub returns-in-Some-clause-made : goal.returns-in-Some-clause-made
returns-in-Some-clause-made c =
    let wave = c.args.self.now.wave in
    let test = is_late_out c.args.number c.args.txn.now in
    let found = ap (position test) (sym c.messages.ensures) ∙ sym c.place_of_late.ensures ∙ c.in-Some.is in
    ap (λ w. record c.args.self.now { wave = w }) (c.leave.ensures.made ∙ left_at test wave c.in-Some.place found
    ∙ sym (ap (λ o. cond (is_some o) (before_first test wave ++ after_first test wave) (first_changed (awaits_at c.args.number) (lost_of c.args.tries) wave)) found))

pub returns-in-None-clause-made : goal.returns-in-None-clause-made
returns-in-None-clause-made c =
    let wave = c.args.self.now.wave in
    let test = is_late_out c.args.number c.args.txn.now in
    let found = ap (position test) (sym c.messages.ensures) ∙ sym c.place_of_late.ensures ∙ c.in-None.is in
    ap (λ w. record c.args.self.now { wave = w }) (c.lost.ensures.made
    ∙ sym (ap (λ o. cond (is_some o) (before_first test wave ++ after_first test wave) (first_changed (awaits_at c.args.number) (lost_of c.args.tries) wave)) found))

pub returns-in-Some-clause-stands : goal.returns-in-Some-clause-stands
returns-in-Some-clause-stands c = λ set k loses some w waited.
    let wave = c.args.self.now.wave in
    let test = is_late_out c.args.number c.args.txn.now in
    let found = ap (position test) (sym c.messages.ensures) ∙ sym c.place_of_late.ensures ∙ c.in-Some.is in
    subst (InCall set k c.args.txn.now c.args.self.now.purpose) (sym (c.leave.ensures.made ∙ left_at test wave c.in-Some.place found
    ∙ sym (ap (λ o. cond (is_some o) (before_first test wave ++ after_first test wave) (first_changed (awaits_at c.args.number) (lost_of c.args.tries) wave)) found)))
    (lost_still set k c.args.txn.now c.args.self.now.purpose wave w c.args.number c.args.tries waited loses some)

pub returns-in-None-clause-stands : goal.returns-in-None-clause-stands
returns-in-None-clause-stands c = λ set k loses some w waited.
    let wave = c.args.self.now.wave in
    let test = is_late_out c.args.number c.args.txn.now in
    let found = ap (position test) (sym c.messages.ensures) ∙ sym c.place_of_late.ensures ∙ c.in-None.is in
    subst (InCall set k c.args.txn.now c.args.self.now.purpose) (sym (c.lost.ensures.made
    ∙ sym (ap (λ o. cond (is_some o) (before_first test wave ++ after_first test wave) (first_changed (awaits_at c.args.number) (lost_of c.args.tries) wave)) found)))
    (lost_still set k c.args.txn.now c.args.self.now.purpose wave w c.args.number c.args.tries waited loses some)
