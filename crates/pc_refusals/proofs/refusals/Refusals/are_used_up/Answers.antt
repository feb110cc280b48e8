use Rattle.std.proofs.Common.{sym, subst}
use Rattle.std.proofs.lemmas.Bool.{leb-true}
use Rattle.pc_base.specs.declared.limits.TheConstants.{MOST_REFUSALS}
use Rattle.pc_refusals.proofs.Counted.{eighth_many, le_true, many_eighth}
use Rattle.pc_refusals.specs.Moves.{CountsMoves}
use Rattle.pc_refusals.proofs.refusals.Refusals.are_used_up.Goals as goal

pub returns : goal.returns
returns c = record {
  exactly = λ k counts.
      let count : CountsMoves k c.self.inside.count = subst (λ n. CountsMoves k n) (sym c.self.view_is) counts in (
        (λ many. many_eighth k c.self.inside.count count (leb-true MOST_REFUSALS c.self.inside.count many)),
        (λ eight. le_true MOST_REFUSALS c.self.inside.count (eighth_many k c.self.inside.count count eight)),
      );
}
