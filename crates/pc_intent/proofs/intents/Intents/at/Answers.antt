use Rattle.std.proofs.Common.{Bor, Option, None, Some, IfSome, sym, ap, subst, ◌∙◌}
use Rattle.std.proofs.lemmas.Map.Views.{IfSome-lookup_from_All}
use Rattle.std.specs.BTreeMap.{is_at}
use Rattle.std.specs.Cmp.Lexicographic.{slice_cmp}
use Rattle.std.specs.Option.{option_copied}
use Rattle.std.specs.Ordering.{nat_cmp}
use Rattle.pc_base.proofs.KeyTables.{key_lookup}
use Rattle.pc_intent.specs.Rising.{WritesRise}
use Rattle.pc_proto.specs.declared.record.Intent.{Intent}
use Rattle.pc_proto.specs.Intents.{intent_at}
use Rattle.pc_intent.proofs.intents.Intents.at.Goals as goal

pub returns-clause-found : goal.returns-clause-found
returns-clause-found c =
    c.get.ensures.value ∙ (key_lookup c.args.key.now c.self.inside.entries.entries ∙ ap (intent_at c.args.key.now) c.self.view_is)

lent : (r : Option (Bor Intent)) → IfSome (option_copied r) WritesRise → IfSome r (λ i. WritesRise i.now)
lent None h = h
lent (Some i) h = h

pub returns-clause-rises : goal.returns-clause-rises
returns-clause-rises c =
    lent c.get.result (subst (λ o. IfSome o WritesRise) (sym c.get.ensures.value)
    (IfSome-lookup_from_All WritesRise (is_at (slice_cmp nat_cmp c.args.key.now)) c.self.inside.entries.entries c.self.invariant.writes))
