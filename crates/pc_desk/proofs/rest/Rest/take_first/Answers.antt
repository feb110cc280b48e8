use Rattle.std.proofs.Common.{◌≡◌, List, [], ◌++◌, map, Option, None, Some, IfNone, refl, sym, ap, ◌∙◌}
use Rattle.pc_desk.proofs.Leaving.{aside_least, first_of_rest, none_aside, other_least}
use Rattle.pc_desk.specs.Desk.{WaitingMessage}
use Rattle.pc_desk.proofs.rest.Rest.take_first.Goals as goal

none-left : {Y : Type 0} (v : List WaitingMessage) (g : Y → WaitingMessage) (ws more : List Y) → map g (ws ++ more) ≡ v → ws ≡ [] → more ≡ [] → v ≡ []
none-left v g ws more is one other = sym is ∙ ap (map g) (ap (λ l. l ++ more) one ∙ other)

so-if-none : {X P : Type 0} (o : Option X) → P → IfNone o P
so-if-none None p = p
so-if-none (Some x) p = tt

pub returns-then-comes_first-clause-first : goal.returns-then-comes_first-clause-first
returns-then-comes_first-clause-first g c =
    let i = c.self.inside in
    let taken = c.in_ok-message.ensures.taken in
    first_of_rest _ _ (i.outbox.waiting ++ i.later.waiting) i.outbox.waiting c.take_first.new.self.waiting _ taken.number _ _ _ c.self.view_is (ap (λ l. i.outbox.waiting ++ l) taken.whole) refl
    (aside_least i.outbox.waiting i.later.waiting taken.number _ c.take_first.new.self.waiting taken.whole taken.rises (sym c.comes_first.ensures.first ∙ c.if-comes_first.true) c.comes_first.ensures.in_order.1)

pub returns-clause-first : goal.returns-clause-first
returns-clause-first g c =
    let i = c.self.inside in
    let taken = c.in_ok-message-2.ensures.taken in
    first_of_rest _ _ (i.outbox.waiting ++ i.later.waiting) [] (c.take_first-2.new.self.waiting ++ i.later.waiting) _ taken.number _ _ _ c.self.view_is (ap (λ l. l ++ i.later.waiting) taken.whole) refl
    (other_least i.outbox.waiting i.later.waiting taken.number _ c.take_first-2.new.self.waiting taken.whole taken.rises (sym c.comes_first.ensures.first ∙ c.if-comes_first.false) c.comes_first.ensures.in_order.0)

pub returns-in_err-message-2-clause-none : goal.returns-in_err-message-2-clause-none
returns-in_err-message-2-clause-none g c =
    let i = c.self.inside in
    let none = c.in_err-message-2.ensures.none in
    so-if-none c.from_residual-in_err-message-2.result
    (none-left _ _ i.outbox.waiting i.later.waiting c.self.view_is none (none_aside i.outbox.waiting i.later.waiting none (sym c.comes_first.ensures.first ∙ c.if-comes_first.false)))
