use Rattle.std.proofs.Common.{◌≡◌, ℕ, List, [], ◌∷◌, map, refl, ap, ◌∙◌, subst}
use Rattle.std.specs.List.{AllByRecursion as Each}
use Rattle.pc_desk.proofs.Desking.{each_under}
use Rattle.pc_desk.specs.Desk.{DeskMeaning, IsDesk, Posted, WaitingMessage, posting}
use Rattle.pc_desk.specs.OwnLog.{LogMeaning}
use Rattle.pc_history.specs.Parts.{uses_left}
use Rattle.pc_wire.specs.Outbox.{first_from}
use Rattle.pc_desk.proofs.desk.Desk.next_aside.Goals as goal
use Rattle.std.specs.List.Sorted.{IsStrictlySortedBy}
use Rattle.std.specs.Ordering.{nat_cmp}

keys-from : {Y : Type 0} (f : ℕ × Y → Posted) (es : List (ℕ × Y)) → Each (λ e. e.0 ≡ (f e).number) es → map (λ (e : ℕ × Y). e.0) es ≡ map (λ (m : Posted). m.number) (map f es)
keys-from f [] each = refl
keys-from {Y} f (e ∷ es) each = ap (λ n. n ∷ map (λ (e : ℕ × Y). e.0) es) each.0 ∙ ap (λ ns. (f e).number ∷ ns) (keys-from f es each.1)

-- each stands under its number
keys-numbers : {C Y : Type 0} (splits : List (List ℕ)) (log : LogMeaning C) (g : ℕ × Y → WaitingMessage) (es : List (ℕ × Y)) → IsDesk splits log (map g es) → (f : ℕ × Y → Posted)
    → ((e : ℕ × Y) → (g e).posted.number ≡ (f e).number) → ((e : ℕ × Y) → (g e).key ≡ e.0) → map (λ (e : ℕ × Y). e.0) es ≡ map (λ (m : Posted). m.number) (map f es)
keys-numbers splits log g es desk f numbered keyed = keys-from f es (each_under splits log g (λ e. (f e).number) numbered keyed es 0 desk)

pub returns-clause-first : goal.returns-clause-first
returns-clause-first g c =
    let i = c.self.inside in
    c.first_from.ensures.first
    ∙ ap (first_from c.args.number)
    (keys-numbers i.ranges.now.splits i.log _ i.later.waiting c.self.invariant.1 (λ e. posting e.1.message.number e.1.message.range e.1.message.request (uses_left e.1.message.note.known)) (λ e. refl) (λ e. refl)
    ∙ ap (λ d. map (λ (m : Posted). m.number) d.later) c.self.view_is)

pub returns-clause-in_order : goal.returns-clause-in_order
returns-clause-in_order g c =
    let i = c.self.inside in
    subst (IsStrictlySortedBy nat_cmp)
    (keys-numbers i.ranges.now.splits i.log _ i.later.waiting c.self.invariant.1 (λ e. posting e.1.message.number e.1.message.range e.1.message.request (uses_left e.1.message.note.known)) (λ e. refl) (λ e. refl)
    ∙ ap (λ d. map (λ (m : Posted). m.number) d.later) c.self.view_is) c.first_from.ensures.in_order
