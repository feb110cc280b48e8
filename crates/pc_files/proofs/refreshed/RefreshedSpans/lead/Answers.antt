use Rattle.std.proofs.Common.{◌≡◌, None, Some, sym, ap, ◌∙◌, rules}
use Rattle.pc_files.proofs.refreshed.RefreshedSpans.lead.Goals as goal
use Rattle.pc_files.specs.RefreshedSpans.{leads_from, way_of}
use Rattle.pc_known.specs.Parts.{part_span}

pub returns-in-Some : goal.returns-in-Some
returns-in-Some c heard are =
    let span = part_span c.args.span in
    let there : way_of c.args.id span c.args.self.now ≡ Some c.in-Some.way = search rules in
    c.leads.ensures ∙ ap (leads_from c.args.ts c.args.to) (sym there ∙ are c.args.id span)

pub returns-in-None : goal.returns-in-None
returns-in-None c heard are =
    let span = part_span c.args.span in
    let there : way_of c.args.id span c.args.self.now ≡ None = search rules in
    ap (leads_from c.args.ts c.args.to) (sym there ∙ are c.args.id span)
