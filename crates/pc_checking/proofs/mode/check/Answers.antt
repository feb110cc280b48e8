use Rattle.std.proofs.Common.{IfSome, subst, sym}
use Rattle.pc_checking.proofs.Carried.{not_too_long, of_source}
use Rattle.pc_checking.specs.Ends.{verdict_in}
use Rattle.pc_io.specs.Reading.{IsAllOf, TakesExactly}
use Rattle.pc_verdict.specs.Verdicts.{IsVerdictOf}
use Rattle.pc_checking.proofs.mode.check.Goals as goal

pub returns-in-Ok-clause-verdict : goal.returns-in-Ok-clause-verdict
returns-in-Ok-clause-verdict g c =
    of_source (g.S.Source.left c.args.source.now) c.deref.result.now (λ bytes. IfSome (verdict_in c.judged.result) (IsVerdictOf bytes))
    (subst (IsAllOf (g.S.Source.left c.args.source.now)) (sym c.deref.ensures.value) c.in-Ok.ensures.ok) c.judged.ensures.verdict

pub returns-in-Ok-clause-too_long : goal.returns-in-Ok-clause-too_long
returns-in-Ok-clause-too_long g c =
    not_too_long c.judged.result 268435457 (g.S.Source.left c.args.source.now) (λ left. TakesExactly 268435457 left (g.S.Source.left c.read_all.new.source)) _
    c.judged.ensures.kind c.in-Ok.ensures.too_long (λ e. cc)
