use Rattle.std.proofs.Common.{refl}
use Rattle.pc_judge.proofs.clients.may_make.Goals as goal

pub add-requires : goal.add-requires
add-requires g c =
    let r = c.requires in
    let kept = c.in_ok-client.ensures.kept r.head r.known r.cut r.kept in
    λ k. ((refl, tt), record { head = r.head; actor = c.args.entry.now.actor; known = r.known; kept = kept; may = (c.in_ok-may.ensures r.head c.args.entry.now.actor r.known kept).0 c.if-may.true })

pub returns-in_ok-insert-clause-may : goal.returns-in_ok-insert-clause-may
returns-in_ok-insert-clause-may g c =
    λ head k cut kept. c.in_ok-may.ensures head c.args.entry.now.actor k (c.in_ok-client.ensures.kept head k cut kept)

pub returns-else-may-clause-may : goal.returns-else-may-clause-may
returns-else-may-clause-may g c =
    λ head k cut kept. c.in_ok-may.ensures head c.args.entry.now.actor k (c.in_ok-client.ensures.kept head k cut kept)
