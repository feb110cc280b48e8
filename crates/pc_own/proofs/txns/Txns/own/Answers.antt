use Rattle.std.proofs.Common.{◌≡◌, ◌↔◌, Contains, Option, Some, reverse, slice_get, sym, ap, subst, ◌∙◌, arith}
use Rattle.std.proofs.lemmas.List.{reverse-reverse}
use Rattle.pc_known.proofs.Exact.{both}
use Rattle.pc_own.proofs.ByNumber.{none_at_zero, own_at}
use Rattle.pc_own.proofs.txns.Txns.own.Goals as goal
use Rattle.pc_world.specs.Known.Transactions.{Txn}

pub returns-in-None : goal.returns-in-None
returns-in-None c numbered t =
    (λ e. absurd cc, λ h. absurd (none_at_zero c.args.self.now c.args.id t numbered (omega (arith, c.in-None.ensures)) h))

pub returns-in-Some : goal.returns-in-Some
returns-in-Some c numbered t =
    let items : c.self.inside.txns.items ≡ reverse c.args.self.now = sym (reverse-reverse c.self.inside.txns.items) ∙ ap reverse c.self.view_is in
    let there = c.at.ensures ∙ ap (λ xs. slice_get xs c.in-Some.place) (c.deref.ensures.value ∙ items) in
    let P : Option Txn → Type 0 = λ o. ((o ≡ Some t) × (t.id ≡ c.args.id)) ↔ (Contains c.args.self.now t × (t.id ≡ c.args.id)) in
    both (c.one_of.ensures t) (subst P (sym there) (own_at c.args.self.now c.args.id c.in-Some.place t numbered (omega (arith, c.in-Some.ensures))))
