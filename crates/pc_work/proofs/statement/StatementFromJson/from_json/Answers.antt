use Rattle.std.proofs.Common.{sym, ap, ◌∙◌, subst}
use Rattle.serde_json.specs.View.{view}
use Rattle.pc_work.proofs.Sole.{statement_no_sole, statement_sole}
use Rattle.pc_work.specs.Reading.{Gives}
use Rattle.pc_work.specs.Statement.{statement_of}
use Rattle.pc_work.proofs.statement.StatementFromJson.from_json.Goals as goal

pub returns-in-Some : goal.returns-in-Some
returns-in-Some c =
    subst (Gives c.named.result) (sym (ap statement_of c.in-Some.ensures.some ∙ statement_sole c.in-Some.name.now (view c.in-Some.stated.now))) c.named.ensures

pub returns-in-None : goal.returns-in-None
returns-in-None c = statement_no_sole (view c.args.json.now) c.in-None.ensures.none
