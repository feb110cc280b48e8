use Rattle.std.proofs.Common.{◌<◌, ◌^◌, inr, length, refl, sym, ap, subst, ◌∙◌}
use Rattle.pc_range.proofs.Evaluating.{Parts, cell-room, if-ok-three, is-cell, is-evaluated, is-there, note-there, on-err, reply-there, retold, told-as}
use Rattle.pc_range.specs.Cell.{CellMeaning, IsCell}
use Rattle.pc_range.proofs.cell.RangeCell.evaluate.Goals as goal

pub eval-requires : goal.eval-requires
eval-requires g c =
    let short : length c.self.inside.actor.part.own < 2 ^ 32 = subst (λ (m : CellMeaning). length m.part.own < 2 ^ 32) (sym c.self.view_is) c.requires.short in
    cell-room g.row.I c.self.inside.actor.world c.self.inside.actor c.self.inside.state c.args.msg.request c.self.invariant short c.requires.below

pub answer-requires : goal.answer-requires
answer-requires g c =
    let p : Parts g.row.I c.args.self.now c.self.inside.actor c.room.new.self c.enter_after-step.new.actor c.enter_after-step.new.actor c.self.inside.state c.args.msg.sender c.args.msg.number c.args.msg.range c.args.msg.request c.enter_after-step.result c.in_ok-reply.reply =
    record { view_is = c.self.view_is; cell = c.self.invariant; roomed = c.room.ensures.same; here = c.requires.here; answers = c.in_ok-reply.ensures.reply; stored = c.enter_after-step.ensures.stored; same = (refl, refl, refl) } in
    is-there g.row.I c.args.self.now c.self.inside.actor c.room.new.self c.enter_after-step.new.actor c.enter_after-step.new.actor c.self.inside.state c.args.msg.sender c.args.msg.number c.args.msg.range c.args.msg.request c.enter_after-step.result c.in_ok-reply.reply p
    (length c.entries-place.result.now) (ap length c.entries-place.ensures)

pub invariant_of-self-2 : goal.invariant_of-self-2
invariant_of-self-2 g c =
    let p : Parts g.row.I c.args.self.now c.self.inside.actor c.room.new.self c.enter_after-step.new.actor c.answer.new.actor c.self.inside.state c.args.msg.sender c.args.msg.number c.args.msg.range c.args.msg.request c.enter_after-step.result c.in_ok-reply.reply =
    record { view_is = c.self.view_is; cell = c.self.invariant; roomed = c.room.ensures.same; here = c.requires.here; answers = c.in_ok-reply.ensures.reply; stored = c.enter_after-step.ensures.stored; same = c.answer.ensures.same } in
    subst (IsCell g.row.I c.answer.new.actor.world c.answer.new.actor.part) (sym c.in_ok-reply.ensures.after)
    (is-cell g.row.I c.args.self.now c.self.inside.actor c.room.new.self c.enter_after-step.new.actor c.answer.new.actor c.self.inside.state c.args.msg.sender c.args.msg.number c.args.msg.range c.args.msg.request c.enter_after-step.result c.in_ok-reply.reply p)

pub returns-clause-evaluated : goal.returns-clause-evaluated
returns-clause-evaluated g c =
    let p : Parts g.row.I c.args.self.now c.self.inside.actor c.room.new.self c.enter_after-step.new.actor c.answer.new.actor c.self.inside.state c.args.msg.sender c.args.msg.number c.args.msg.range c.args.msg.request c.enter_after-step.result c.in_ok-reply.reply =
    record { view_is = c.self.view_is; cell = c.self.invariant; roomed = c.room.ensures.same; here = c.requires.here; answers = c.in_ok-reply.ensures.reply; stored = c.enter_after-step.ensures.stored; same = c.answer.ensures.same } in
    let whole = is-evaluated g.row.I c.args.self.now c.self.inside.actor c.room.new.self c.enter_after-step.new.actor c.answer.new.actor c.self.inside.state c.args.msg.sender c.args.msg.number c.args.msg.range c.args.msg.request c.enter_after-step.result c.in_ok-reply.reply p in
    let there = reply-there g.row.I c.args.self.now c.self.inside.actor c.room.new.self c.enter_after-step.new.actor c.answer.new.actor c.self.inside.state c.args.msg.sender c.args.msg.number c.args.msg.range c.args.msg.request c.enter_after-step.result c.in_ok-reply.reply p (length c.entries-place.result.now) (ap length c.entries-place.ensures) in
    if-ok-three _ _ _ _ (λ r fields reply note. retold g.row.I c.args.self.now _ c.args.msg.sender c.args.msg.number c.args.msg.request c.enter_after-step.result r.step c.in_ok-reply.reply r.reply _ fields.1 there reply whole) c.answer.result c.answer.ensures.fields c.answer.ensures.reply c.answer.ensures.note

pub returns-clause-told : goal.returns-clause-told
returns-clause-told g c =
    let p : Parts g.row.I c.args.self.now c.self.inside.actor c.room.new.self c.enter_after-step.new.actor c.answer.new.actor c.self.inside.state c.args.msg.sender c.args.msg.number c.args.msg.range c.args.msg.request c.enter_after-step.result c.in_ok-reply.reply =
    record { view_is = c.self.view_is; cell = c.self.invariant; roomed = c.room.ensures.same; here = c.requires.here; answers = c.in_ok-reply.ensures.reply; stored = c.enter_after-step.ensures.stored; same = c.answer.ensures.same } in
    let at = ap length c.entries-place.ensures in
    let there = reply-there g.row.I c.args.self.now c.self.inside.actor c.room.new.self c.enter_after-step.new.actor c.answer.new.actor c.self.inside.state c.args.msg.sender c.args.msg.number c.args.msg.range c.args.msg.request c.enter_after-step.result c.in_ok-reply.reply p (length c.entries-place.result.now) at in
    let tells = note-there g.row.I c.args.self.now c.self.inside.actor c.room.new.self c.enter_after-step.new.actor c.answer.new.actor c.self.inside.state c.args.msg.sender c.args.msg.number c.args.msg.range c.args.msg.request c.enter_after-step.result c.in_ok-reply.reply p (length c.entries-place.result.now) at in
    if-ok-three _ _ _ _ (λ r fields reply note. (fields.0, told-as c.args.msg.sender c.args.msg.number g.row.I c.enter_after-step.result r.step (length c.entries-place.result.now) c.in_ok-reply.reply r.reply _ r.note.known fields.1 there reply (note ∙ tells)))
    c.answer.result c.answer.ensures.fields c.answer.ensures.reply c.answer.ensures.note

pub returns-clause-refused : goal.returns-clause-refused
returns-clause-refused g c =
    let p : Parts g.row.I c.args.self.now c.self.inside.actor c.room.new.self c.enter_after-step.new.actor c.answer.new.actor c.self.inside.state c.args.msg.sender c.args.msg.number c.args.msg.range c.args.msg.request c.enter_after-step.result c.in_ok-reply.reply =
    record { view_is = c.self.view_is; cell = c.self.invariant; roomed = c.room.ensures.same; here = c.requires.here; answers = c.in_ok-reply.ensures.reply; stored = c.enter_after-step.ensures.stored; same = c.answer.ensures.same } in
    on-err _ c.answer.result (inr (record {
      step = c.enter_after-step.result;
      told = c.in_ok-reply.reply;
      evaluated = is-evaluated g.row.I c.args.self.now c.self.inside.actor c.room.new.self c.enter_after-step.new.actor c.answer.new.actor c.self.inside.state c.args.msg.sender c.args.msg.number c.args.msg.range c.args.msg.request c.enter_after-step.result c.in_ok-reply.reply p;
    }))
