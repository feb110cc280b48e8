use Rattle.std.proofs.Common.{◌≡◌, ◌≤◌, length, refl, sym, ap, subst, ◌∙◌, arith}
use Rattle.std.proofs.lemmas.Result.{on_err_weaker, on_ok_weaker}
use Rattle.pc_desk.proofs.Desking.{desk_noted, desk_posted, gave_so, has_posted, none_under, one_use, posted_none}
use Rattle.pc_desk.specs.Desk.{posted_as, posting, uses_by}
use Rattle.pc_desk.proofs.desk.Desk.post.Goals as goal

pub add-requires : goal.add-requires
add-requires g c =
    none_under c.self.inside.ranges.now.splits c.self.inside.log _ (λ e. e.1.message.number) (λ e. refl) (λ e. refl) c.self.inside.outbox.waiting c.args.number c.self.invariant.0
    (posted_none _ c.self.inside.outbox.waiting c.args.number (subst (λ d. posted_as c.args.number d.posted ≡ 0) (sym c.self.view_is) c.requires.fresh))

pub invariant_of-self-2 : goal.invariant_of-self-2
invariant_of-self-2 g c =
    let i = c.self.inside in
    let none = none_under i.ranges.now.splits i.log _ (λ e. e.1.message.number) (λ e. refl) (λ e. refl) i.outbox.waiting c.args.number c.self.invariant.0
    (posted_none _ i.outbox.waiting c.args.number (subst (λ d. posted_as c.args.number d.posted ≡ 0) (sym c.self.view_is) c.requires.fresh)) in
    let quiet = c.verdict-verdict.ensures.given ∙ c.self.invariant.2 c.args.number in
    let once = one_use c.args.self.now.log i.log c.args.number c.args.range c.uses_of.result c.args.request c.verdict-verdict.result c.in_ok-note.note.known (ap (λ d. d.log) c.self.view_is) c.requires.last c.uses_of.ensures quiet c.in_ok-note.ensures.note in (
      desk_posted i.ranges.now.splits i.log c.note.new.self c.note.new.self.part.given _ c.args.number _ i.outbox.waiting c.add.new.self.waiting c.add.result c.note.ensures.same c.self.invariant.0 none
          (on_ok_weaker c.add.result (λ e. ap (λ o. o.waiting) e) c.add.ensures.ok) (on_err_weaker c.add.result (λ e. ap (λ o. o.waiting) e) c.add.ensures.err)
          (record {
            numbered = refl;
            whose = c.id.ensures ∙ ap (λ l. l.part.id) c.note.ensures.same;
            delivered = quiet;
            there = subst (λ d. c.args.range ≤ length d.log.head.splits) (sym c.self.view_is) c.requires.there;
            use_left = omega (arith, once);
            below = c.requires.below;
          }),
      desk_noted i.ranges.now.splits i.log c.note.new.self c.note.new.self.part.given _ c.note.ensures.same c.self.invariant.1,
      λ number. ap (λ r. r number) c.verdict-verdict.ensures.kept ∙ c.self.invariant.2 number,
    )

pub returns-clause-ok : goal.returns-clause-ok
returns-clause-ok g c =
    let i = c.self.inside in
    let none = none_under i.ranges.now.splits i.log _ (λ e. e.1.message.number) (λ e. refl) (λ e. refl) i.outbox.waiting c.args.number c.self.invariant.0
    (posted_none _ i.outbox.waiting c.args.number (subst (λ d. posted_as c.args.number d.posted ≡ 0) (sym c.self.view_is) c.requires.fresh)) in
    let quiet = c.verdict-verdict.ensures.given ∙ c.self.invariant.2 c.args.number in
    let once = one_use c.args.self.now.log i.log c.args.number c.args.range c.uses_of.result c.args.request c.verdict-verdict.result c.in_ok-note.note.known (ap (λ d. d.log) c.self.view_is) c.requires.last c.uses_of.ensures quiet c.in_ok-note.ensures.note in
    on_ok_weaker c.add.result
    (λ put. has_posted _ c.args.self.now c.note.new.self _ i.outbox.waiting c.add.new.self.waiting c.args.number c.args.range c.args.request _ c.self.view_is refl none (ap (λ o. o.waiting) put)
    (ap (posting c.args.number c.args.range c.args.request) once) (gave_so i.log c.note.new.self _ c.uses_of.result c.note.ensures.same c.in_ok-note.ensures.given (c.uses_of.ensures ∙ ap uses_by quiet))) c.add.ensures.ok
