use Rattle.std.proofs.Common.{sym, ap, ◌∙◌}
use Rattle.serde_json.specs.View.{view}
use Rattle.pc_work.proofs.Sole.{refusal_no_sole, refusal_sole}
use Rattle.pc_work.specs.RefusedStatement.{statement_refusal}
use Rattle.pc_work.proofs.statement.StatementJudged.refusal.Goals as goal

pub returns-in-Some : goal.returns-in-Some
returns-in-Some c =
    c.refusal_named.ensures ∙ sym (ap statement_refusal c.in-Some.ensures.some ∙ refusal_sole c.in-Some.name.now (view c.in-Some.stated.now))

pub returns-in-None : goal.returns-in-None
returns-in-None c = sym (refusal_no_sole (view c.args.json.now) c.in-None.ensures.none)
