use Rattle.std.proofs.Common.{◌≡◌, ◌≢◌, ◌↔◌, true, IsTrue, subst}
use Rattle.pc_may_send.proofs.commit.is_decided.Goals as goal
use Rattle.pc_world.specs.StageFate.{EachCommit, EachStage, IsLate, WasCommitRefused}

pub returns-then-is_done_there : goal.returns-then-is_done_there
returns-then-is_done_there c k keeps =
    let rest : IsTrue c.is_nothing_elsewhere_now.result
    ↔ (EachStage c.args.t.now.id k.sent (λ s. s.ts ≢ c.args.ts → IsLate k.heard s) × EachCommit c.args.t.now.id k.sent (λ x. x.ts ≢ c.args.ts → WasCommitRefused k.heard x)) =
    subst (λ id. IsTrue c.is_nothing_elsewhere_now.result ↔ (EachStage id k.sent (λ s. s.ts ≢ c.args.ts → IsLate k.heard s) × EachCommit id k.sent (λ x. x.ts ≢ c.args.ts → WasCommitRefused k.heard x))) c.id.ensures (c.is_nothing_elsewhere_now.ensures k keeps) in
    (λ ok. ((c.is_done_there.ensures k keeps).0 c.if-is_done_there.true, rest.0 ok), λ m. rest.1 m.1)

pub returns-else-is_done_there : goal.returns-else-is_done_there
returns-else-is_done_there c k keeps = (
  λ h. absurd cc,
  λ m. let on : c.is_done_there.result ≡ true = (c.is_done_there.ensures k keeps).1 m.0 in let off = c.if-is_done_there.false in absurd (cc (on, off)),
)
