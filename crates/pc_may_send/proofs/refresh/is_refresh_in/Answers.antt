use Rattle.std.proofs.Common.{◌≡◌, ◌↔◌, true, IsTrue, Option, Some, subst}
use Rattle.pc_may_send.proofs.refresh.is_refresh_in.Goals as goal
use Rattle.pc_proto.specs.declared.call.Call.{Call}
use Rattle.pc_proto.specs.declared.call.Call.TheVariants as calls

pub returns-then-is_committing : goal.returns-then-is_committing
returns-then-is_committing c k keeps opened =
    let asked = subst (λ (o : Option Call). IsTrue c.is_committing.result ↔ ((o ≡ Some calls.Commit) × (c.args.id ≡ c.args.t.now.id))) (c.call.ensures k keeps) c.is_committing.ensures in
    (λ ok. (asked.0 c.if-is_committing.true, (c.is_refresh_of.ensures k keeps opened).0 ok), λ m. (c.is_refresh_of.ensures k keeps opened).1 m.1)

pub returns-else-is_committing : goal.returns-else-is_committing
returns-else-is_committing c k keeps opened =
    let asked = subst (λ (o : Option Call). IsTrue c.is_committing.result ↔ ((o ≡ Some calls.Commit) × (c.args.id ≡ c.args.t.now.id))) (c.call.ensures k keeps) c.is_committing.ensures in (
      λ h. absurd cc,
      λ m. let on : c.is_committing.result ≡ true = asked.1 m.0 in let off = c.if-is_committing.false in absurd (cc (on, off)),
    )
