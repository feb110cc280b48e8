use Rattle.std.proofs.Common.{◌≡◌, None, Some, sym, ap, ◌∙◌, subst, OnOk}
use Rattle.pc_coord.proofs.Steps.{inside, standing}
use Rattle.pc_coord.proofs.Tying.{asked_inside, asked_learnt, asked_outside}
use Rattle.pc_coord.specs.Coming.{AwaitsOutbox, IsLeftOf}
use Rattle.pc_coord.specs.Coordination.{Coordination, without_txn}
use Rattle.pc_coord.proofs.Joining.{left_each}
use Rattle.pc_coord.proofs.coordinator.Coordinator.ask.Goals as goal

pub returns-in-None-clause-knows : goal.returns-in-None-clause-knows
returns-in-None-clause-knows c = λ loses k p knows is.
    let none = ap (λ (n : Coordination). n.txn) (sym c.self.view_is) ∙ sym c.take_txn-txn.ensures.taken ∙ c.in-None.is in
    asked_learnt loses c.ask_outside.new.self k p c.args.self.now c.args.call c.args.reading c.ask_outside.result is
    (asked_outside loses c.args.self.now c.take_txn-txn.new.self c.ask_outside.new.self k p c.args.call c.args.reading c.ask_outside.result (c.take_txn-txn.ensures.left ∙ ap (λ (n : Coordination). without_txn (record n { reading = c.args.reading })) c.self.view_is) none knows is (c.ask_outside.ensures.knows loses))

pub returns-in-None-clause-waits : goal.returns-in-None-clause-waits
returns-in-None-clause-waits c = λ loses k p knows is. subst (λ l. OnOk c.ask_outside.result (AwaitsOutbox l c.ask_outside.new.self.due)) (ap (λ (n : Coordination). n.later) (c.take_txn-txn.ensures.left ∙ ap (λ (n : Coordination). without_txn (record n { reading = c.args.reading })) c.self.view_is)) c.ask_outside.ensures.waits

pub returns-in-Some-clause-knows : goal.returns-in-Some-clause-knows
returns-in-Some-clause-knows c = λ loses k p knows is.
    let held = ap (λ (n : Coordination). n.txn) (sym c.self.view_is) ∙ sym c.take_txn-txn.ensures.taken ∙ c.in-Some.is in
    asked_learnt loses c.ask_inside.new.self k p c.args.self.now c.args.call c.args.reading c.ask_inside.result is
    (asked_inside loses c.args.self.now c.take_txn-txn.new.self c.ask_inside.new.self k p c.args.call c.args.reading c.in-Some.txn c.ask_inside.result (c.take_txn-txn.ensures.left ∙ ap (λ (n : Coordination). without_txn (record n { reading = c.args.reading })) c.self.view_is) held knows is (c.ask_inside.ensures.knows loses))

pub returns-in-Some-clause-waits : goal.returns-in-Some-clause-waits
returns-in-Some-clause-waits c = λ loses k p knows is.
    let held = ap (λ (n : Coordination). n.txn) (sym c.self.view_is) ∙ sym c.take_txn-txn.ensures.taken ∙ c.in-Some.is in
    subst (λ l. OnOk c.ask_inside.result (AwaitsOutbox l c.ask_inside.new.self.due)) (ap (λ (n : Coordination). n.later) (c.take_txn-txn.ensures.left ∙ ap (λ (n : Coordination). without_txn (record n { reading = c.args.reading })) c.self.view_is))
    (c.ask_inside.ensures.waits (inside k c.in-Some.txn c.args.call (standing loses c.args.self.now k c.in-Some.txn knows is.none_open held) is.outside) is.no_round)

pub returns-in-None-clause-learns : goal.returns-in-None-clause-learns
returns-in-None-clause-learns c = λ id is none. c.ask_outside.ensures.learns id is

pub returns-in-Some-clause-learns : goal.returns-in-Some-clause-learns
returns-in-Some-clause-learns c = λ id is none. let held = ap (λ (n : Coordination). n.txn) (sym c.self.view_is) ∙ sym c.take_txn-txn.ensures.taken ∙ c.in-Some.is in let e : None ≡ Some c.in-Some.txn = sym none ∙ held in absurd cc

pub returns-in-None-clause-left : goal.returns-in-None-clause-left
returns-in-None-clause-left c = left_each c.ask_outside.result c.args.self.now.later c.ask_outside.new.self.later (subst (λ l. OnOk c.ask_outside.result (IsLeftOf l c.ask_outside.new.self.later)) (ap (λ (n : Coordination). n.later) (c.take_txn-txn.ensures.left ∙ ap (λ (n : Coordination). without_txn (record n { reading = c.args.reading })) c.self.view_is)) c.ask_outside.ensures.left)

pub returns-in-Some-clause-left : goal.returns-in-Some-clause-left
returns-in-Some-clause-left c = left_each c.ask_inside.result c.args.self.now.later c.ask_inside.new.self.later (subst (λ l. OnOk c.ask_inside.result (IsLeftOf l c.ask_inside.new.self.later)) (ap (λ (n : Coordination). n.later) (c.take_txn-txn.ensures.left ∙ ap (λ (n : Coordination). without_txn (record n { reading = c.args.reading })) c.self.view_is)) c.ask_inside.ensures.left)
