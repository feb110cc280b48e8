use Rattle.std.proofs.Common.{◌≡◌, true}
use Rattle.pc_may_send.proofs.Existing.{may_commit_from, may_commit_to}
use Rattle.pc_may_send.proofs.commit.may_decide.Goals as goal

pub returns-then-may_commit : goal.returns-then-may_commit
returns-then-may_commit c k keeps mine =
    let rest = c.is_decided.ensures k keeps in
    let may = may_commit_from k c.args.t.now c.args.ts keeps.numbered mine ((c.may_commit.ensures k keeps).0 c.if-may_commit.true) in (
      λ ok. let d = rest.0 ok in record { may = may; at_write_ts = d.0.0.0; good = d.0.0.1; proved = d.0.1; stages = d.1.0; commits = d.1.1 },
      λ m. rest.1 (((m.at_write_ts, m.good), m.proved), (m.stages, m.commits)),
    )

pub returns-else-may_commit : goal.returns-else-may_commit
returns-else-may_commit c k keeps mine = (
  λ h. absurd cc,
  λ m. let on : c.may_commit.result ≡ true = (c.may_commit.ensures k keeps).1 (may_commit_to k c.args.t.now c.args.ts m.may) in let off = c.if-may_commit.false in absurd (cc (on, off)),
)
