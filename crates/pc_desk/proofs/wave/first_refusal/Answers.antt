use Rattle.std.proofs.Common.{suc, ◌≤◌, All, ◌∷◌, ◌++◌, length, take, drop, ap, sym, subst, ◌∙◌}
use Rattle.std.proofs.Math.Seq.{split_at}
use Rattle.std.proofs.lemmas.List.{take_all}
use Rattle.std.proofs.lemmas.List.Elements.{All-more}
use Rattle.pc_desk.specs.Wave.{IsReply}
use Rattle.pc_desk.proofs.wave.first_refusal.Goals as goal

pub loop-outcome-preserved : goal.loop-outcome-preserved
loop-outcome-preserved g c =
    All-more IsReply c.args.outcomes.now c.loop-outcome.outcome-index c.outcome-item.result c.loop-outcome-test.true c.loop-outcome.invariant (subst IsReply c.outcome-item.is (subst IsReply (sym c.in_default.is) tt))

pub returns-clause-none : goal.returns-clause-none
returns-clause-none g c =
    let end : length c.args.outcomes.now ≤ c.loop-outcome.outcome-index = c.loop-outcome-test.false in
    subst (All IsReply) (take_all c.loop-outcome.outcome-index c.args.outcomes.now end) c.loop-outcome.invariant

pub returns-in-Err-clause-some : goal.returns-in-Err-clause-some
returns-in-Err-clause-some g c =
    let i = c.loop-outcome.outcome-index in
    let outcomes = c.args.outcomes.now in record {
      before = take i outcomes;
      fault = c.in-Err.fault;
      behind = drop (suc i) outcomes;
      whole = split_at outcomes i c.outcome-item.result c.loop-outcome-test.true ∙ ap (λ o. take i outcomes ++ o ∷ drop (suc i) outcomes) (sym c.outcome-item.is ∙ c.in-Err.is);
      first = c.loop-outcome.invariant;
      is = c.halt_of.ensures;
    }
