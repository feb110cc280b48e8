use Rattle.std.proofs.Common.{sym, ap, ◌∙◌}
use Rattle.serde_json.specs.View.{view}
use Rattle.pc_work.specs.Sole.{sole}
use Rattle.pc_work.proofs.Sole.{no_one_entry, one_entry}
use Rattle.pc_work.proofs.json.sole_of.Goals as goal

pub returns-then-len-ne1-clause-none : goal.returns-then-len-ne1-clause-none
returns-then-len-ne1-clause-none c =
    no_one_entry c.args.members.now.entries c.len.ensures.ordered (λ one. c.if-len-ne1.true (c.len.ensures.len ∙ one))

pub returns-clause-some : goal.returns-clause-some
returns-clause-some c =
    one_entry c.args.members.now.entries c.in_ok-name.name.now c.in_ok-name.value.now (sym c.len.ensures.len ∙ c.if-len-ne1.false) c.in_ok-name.ensures.first
    ∙ ap (λ name. sole name (view c.in_ok-name.value.now)) (sym c.as_str.ensures.value)
