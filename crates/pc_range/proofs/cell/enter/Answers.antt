use Rattle.pc_range.proofs.Serving.{before-step, can-enter, entered, known-before}
use Rattle.pc_range.proofs.cell.enter.Goals as goal

pub act-requires-clause-local : goal.act-requires-clause-local
act-requires-clause-local g c =
    (can-enter c.args.actor.now c.args.msg.range c.args.msg.number c.args.msg.sender c.args.msg.request c.args.reply c.args.msg.note.known
    c.requires.whose.0 c.requires.whose.1 c.requires.answers c.args.msg.noted c.requires.use_left c.take.new.self c.take.ensures.told c.take.ensures.sound).local

pub act-requires-clause-caused : goal.act-requires-clause-caused
act-requires-clause-caused g c =
    (can-enter c.args.actor.now c.args.msg.range c.args.msg.number c.args.msg.sender c.args.msg.request c.args.reply c.args.msg.note.known
    c.requires.whose.0 c.requires.whose.1 c.requires.answers c.args.msg.noted c.requires.use_left c.take.new.self c.take.ensures.told c.take.ensures.sound).caused

pub act-requires-clause-can_spend : goal.act-requires-clause-can_spend
act-requires-clause-can_spend g c =
    (can-enter c.args.actor.now c.args.msg.range c.args.msg.number c.args.msg.sender c.args.msg.request c.args.reply c.args.msg.note.known
    c.requires.whose.0 c.requires.whose.1 c.requires.answers c.args.msg.noted c.requires.use_left c.take.new.self c.take.ensures.told c.take.ensures.sound).can_spend

pub returns-clause-stored : goal.returns-clause-stored
returns-clause-stored g c =
    entered c.args.actor.now c.args.msg.range c.args.msg.number c.args.msg.sender c.args.msg.request c.args.reply c.args.msg.note.known
    c.requires.whose.0 c.args.msg.noted c.take.new.self c.act.new.self c.act.result _ c.take.ensures.told c.act.ensures.stored c.take.ensures.sound c.act.ensures.above c.act.ensures.small

pub returns-clause-later : goal.returns-clause-later
returns-clause-later g c =
    before-step c.args.actor.now c.args.msg.range c.args.msg.number c.args.msg.sender c.args.msg.request c.args.reply c.args.msg.note.known
    c.args.msg.noted c.take.new.self c.act.result c.take.ensures.told c.act.ensures.above

pub returns-clause-above : goal.returns-clause-above
returns-clause-above g c = known-before c.args.actor.now c.take.new.self c.args.msg.note.known c.act.result c.take.ensures.told c.act.ensures.above
