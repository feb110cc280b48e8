use Rattle.std.proofs.Common.{sym, subst}
use Rattle.pc_base.specs.Rising.{AreRising}
use Rattle.pc_call.proofs.Proven.{begun_ok, kept_ok, proven_begins}
use Rattle.pc_call.specs.Ended.{HasBegun, own_messages_by}
use Rattle.pc_call.proofs.call.OpenCall.proven.Goals as goal

pub returns-in-Prove-clause-made : goal.returns-in-Prove-clause-made
returns-in-Prove-clause-made c =
    kept_ok c.args.self.purpose c.in-Prove.call c.in-Prove.all c.args.splits.now c.args.txn.now c.own_messages.result c.in-Prove.is c.own_messages.ensures

pub returns-in-Prove-clause-begins : goal.returns-in-Prove-clause-begins
returns-in-Prove-clause-begins c = λ set session clock begun k later call all same rising counted w outbox proves due.
    let p = c.args.self.purpose in
    let x = c.args.txn.now in
    begun_ok set k x (own_messages_by p c.args.splits.now x) c.own_messages.result
    (kept_ok p c.in-Prove.call c.in-Prove.all c.args.splits.now x c.own_messages.result c.in-Prove.is c.own_messages.ensures)
    (subst (λ splits. HasBegun set k x (own_messages_by p splits x)) same
    (proven_begins session clock begun set k x p c.args.self.wave counted w call all proves due later outbox (subst AreRising (sym same) rising)))
