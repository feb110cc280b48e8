use Rattle.std.proofs.Common.{refl, sym, subst, arith}
use Rattle.std.specs.Option.{option_copied}
use Rattle.pc_base.specs.declared.actor.ActorId.TheVariants as actors
use Rattle.pc_judge.proofs.Judged.{may_clause, range_after, range_said, recoverer_after, recoverer_kept, recoverer_said, room, session_after, session_kept, session_said}
use Rattle.pc_report.specs.Replaying.{HasRoomFor}
use Rattle.pc_world.specs.Named.{request_named}
use Rattle.pc_judge.proofs.actors.ActorsJudge.take.Goals as goal

pub evaluates-requires : goal.evaluates-requires
evaluates-requires g c =
    let r = c.requires.next in
    subst (λ o. HasRoomFor c.args.self.now.ranges.items (actors.Range c.in-Range.range) (request_named o)) (sym (c.requires.named r.head r.run))
    (room r.head c.args.before.now c.args.self.now.ranges.items r.kept.ranges c.args.entry.now.event c.in-Range.range r.run (omega arith))

pub may_make-requires : goal.may_make-requires
may_make-requires g c = λ k. ((refl, tt), session_kept g.C.Client.keeps c.args.before.now c.args.entry.now c.args.self.now c.requires.next c.in-Session.number c.in-Session.is)

pub may_make-requires-in-Recoverer : goal.may_make-requires-in-Recoverer
may_make-requires-in-Recoverer g c = λ k. ((refl, tt), recoverer_kept g.C.Client.keeps c.args.before.now c.args.entry.now c.args.self.now c.requires.next c.in-Recoverer.number c.in-Recoverer.is)

pub returns-in-Range-clause-may : goal.returns-in-Range-clause-may
returns-in-Range-clause-may g c =
    may_clause g.C.Client.keeps c.args.before.now c.args.entry.now c.args.self.now c.requires.next c.evaluates.result
    (range_said g.C.Client.keeps c.args.before.now c.args.entry.now c.args.self.now c.requires.next c.in-Range.range (option_copied c.args.named) c.evaluates.result c.in-Range.is c.requires.named c.evaluates.ensures.may)

pub returns-in-Range-clause-taken : goal.returns-in-Range-clause-taken
returns-in-Range-clause-taken g c =
    let a = c.args.self.now in
    range_after g.C.Client.keeps c.args.before.now c.args.entry.now a c.requires.next
    (record { alloc = a.alloc; splits = a.splits; sessions = a.sessions; recoverers = a.recoverers; ranges = c.evaluates.new.states; session_clients = a.session_clients; recoverer_clients = a.recoverer_clients }) refl
    c.in-Range.range (option_copied c.args.named) c.evaluates.result c.in-Range.is c.requires.named
    (range_said g.C.Client.keeps c.args.before.now c.args.entry.now a c.requires.next c.in-Range.range (option_copied c.args.named) c.evaluates.result c.in-Range.is c.requires.named c.evaluates.ensures.may)
    c.evaluates.ensures.after refl refl

pub returns-in-Session-clause-may : goal.returns-in-Session-clause-may
returns-in-Session-clause-may g c =
    may_clause g.C.Client.keeps c.args.before.now c.args.entry.now c.args.self.now c.requires.next c.may_make.result
    (session_said g.C.Client.keeps c.args.before.now c.args.entry.now c.args.self.now c.requires.next c.in-Session.number c.may_make.result c.in-Session.is c.may_make.ensures.may)

pub returns-in-Session-clause-taken : goal.returns-in-Session-clause-taken
returns-in-Session-clause-taken g c =
    let a = c.args.self.now in
    session_after g.C.Client.keeps c.args.before.now c.args.entry.now a c.requires.next
    (record { alloc = a.alloc; splits = a.splits; sessions = a.sessions; recoverers = a.recoverers; ranges = a.ranges; session_clients = c.may_make.new.clients; recoverer_clients = a.recoverer_clients }) refl
    c.in-Session.number (option_copied c.args.named) c.may_make.result c.in-Session.is c.requires.named
    (session_said g.C.Client.keeps c.args.before.now c.args.entry.now a c.requires.next c.in-Session.number c.may_make.result c.in-Session.is c.may_make.ensures.may)
    c.may_make.ensures.taken c.may_make.ensures.others refl refl

pub returns-in-Recoverer-clause-may : goal.returns-in-Recoverer-clause-may
returns-in-Recoverer-clause-may g c =
    may_clause g.C.Client.keeps c.args.before.now c.args.entry.now c.args.self.now c.requires.next c.may_make-in-Recoverer.result
    (recoverer_said g.C.Client.keeps c.args.before.now c.args.entry.now c.args.self.now c.requires.next c.in-Recoverer.number c.may_make-in-Recoverer.result c.in-Recoverer.is c.may_make-in-Recoverer.ensures.may)

pub returns-in-Recoverer-clause-taken : goal.returns-in-Recoverer-clause-taken
returns-in-Recoverer-clause-taken g c =
    let a = c.args.self.now in
    recoverer_after g.C.Client.keeps c.args.before.now c.args.entry.now a c.requires.next
    (record { alloc = a.alloc; splits = a.splits; sessions = a.sessions; recoverers = a.recoverers; ranges = a.ranges; session_clients = a.session_clients; recoverer_clients = c.may_make-in-Recoverer.new.clients }) refl
    c.in-Recoverer.number (option_copied c.args.named) c.may_make-in-Recoverer.result c.in-Recoverer.is c.requires.named
    (recoverer_said g.C.Client.keeps c.args.before.now c.args.entry.now a c.requires.next c.in-Recoverer.number c.may_make-in-Recoverer.result c.in-Recoverer.is c.may_make-in-Recoverer.ensures.may)
    c.may_make-in-Recoverer.ensures.taken c.may_make-in-Recoverer.ensures.others refl refl
