use Rattle.std.proofs.Common.{◌≡◌, refl, ap, subst, sym}
use Rattle.pc_desk.proofs.Desking.{none_under, posted_none}
use Rattle.pc_desk.proofs.Moving.{desk_kept, desk_left, desk_put, has_set_aside, not_aside}
use Rattle.pc_desk.specs.Desk.{posted_as}
use Rattle.pc_desk.proofs.desk.Desk.set_aside.Goals as goal

pub move_message-requires : goal.move_message-requires
move_message-requires g c =
    let i = c.self.inside in
    record {
      free =
          none_under i.ranges.now.splits i.log _ (λ e. e.1.message.number) (λ e. refl) (λ e. refl) i.later.waiting c.args.number c.self.invariant.1
          (posted_none _ i.later.waiting c.args.number (subst (λ d. posted_as c.args.number d.later ≡ 0) (sym c.self.view_is) (not_aside c.args.self.now c.args.number c.requires.track c.requires.waits)));
    }

pub invariant_of-self : goal.invariant_of-self
invariant_of-self g c =
    let i = c.self.inside in
    let free =
    none_under i.ranges.now.splits i.log _ (λ e. e.1.message.number) (λ e. refl) (λ e. refl) i.later.waiting c.args.number c.self.invariant.1
    (posted_none _ i.later.waiting c.args.number (subst (λ d. posted_as c.args.number d.later ≡ 0) (sym c.self.view_is) (not_aside c.args.self.now c.args.number c.requires.track c.requires.waits))) in
    let gone = ap (λ o. o.waiting) c.move_message.ensures.gone in
    let put = ap (λ o. o.waiting) c.in-Ok.ensures.moved in (
      desk_left i.ranges.now.splits i.log _ _ (λ e. refl) (λ e. refl) c.args.number i.outbox.waiting i.later.waiting c.move_message.new.from.waiting c.move_message.new.to.waiting gone c.self.invariant.0,
      desk_put i.ranges.now.splits i.log _ _ (λ e. refl) (λ e. refl) c.args.number i.outbox.waiting i.later.waiting c.move_message.new.from.waiting c.move_message.new.to.waiting gone c.self.invariant.0 free put c.self.invariant.1,
      c.self.invariant.2,
    )

pub invariant_of-self-in-Err : goal.invariant_of-self-in-Err
invariant_of-self-in-Err g c =
    let i = c.self.inside in (
      desk_left i.ranges.now.splits i.log _ _ (λ e. refl) (λ e. refl) c.args.number i.outbox.waiting i.later.waiting c.move_message.new.from.waiting c.move_message.new.to.waiting (ap (λ o. o.waiting) c.move_message.ensures.gone) c.self.invariant.0,
      desk_kept i.ranges.now.splits i.log _ i.later.waiting c.move_message.new.to.waiting (ap (λ o. o.waiting) c.in-Err.ensures.refused) c.self.invariant.1,
      c.self.invariant.2,
    )

pub returns-in-Ok-clause-ok : goal.returns-in-Ok-clause-ok
returns-in-Ok-clause-ok g c =
    let i = c.self.inside in
    let free =
    none_under i.ranges.now.splits i.log _ (λ e. e.1.message.number) (λ e. refl) (λ e. refl) i.later.waiting c.args.number c.self.invariant.1
    (posted_none _ i.later.waiting c.args.number (subst (λ d. posted_as c.args.number d.later ≡ 0) (sym c.self.view_is) (not_aside c.args.self.now c.args.number c.requires.track c.requires.waits))) in
    has_set_aside i.ranges.now.splits i.log _ _ (λ e. refl) (λ e. refl) c.args.number i.outbox.waiting i.later.waiting c.move_message.new.from.waiting c.move_message.new.to.waiting (ap (λ o. o.waiting) c.move_message.ensures.gone) c.self.invariant.0 free
    (ap (λ o. o.waiting) c.in-Ok.ensures.moved) _ c.args.self.now c.self.view_is refl refl c.requires.track c.requires.waits c.requires.puts
