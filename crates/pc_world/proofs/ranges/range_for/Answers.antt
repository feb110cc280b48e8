-- A span that lies in one range lies in that of its start.
use Rattle.std.proofs.Common.{◌≡◌, ℕ, inl, inr, List, [], ◌∷◌, sym, ap, ◌∙◌, subst}
use Rattle.pc_base.specs.declared.span.Span.{Span}
use Rattle.pc_base.specs.Rising.{AreRising}
use Rattle.pc_proto.specs.declared.request.Request.{Request}
use Rattle.pc_proto.specs.declared.request.Request.TheVariants as requests
use Rattle.pc_world.proofs.Pieces.{lies-at-start}
use Rattle.pc_world.proofs.ranges.range_for.Goals as goal
use Rattle.pc_world.specs.RangeOf.{GoesTo, IsForOne, LiesInOne, pieces, range_of_start}

in-its-range : (splits : List (List ℕ)) (span : Span) (range : ℕ) → AreRising splits → range ≡ range_of_start splits span → LiesInOne splits span → pieces splits span ≡ (range, span) ∷ []
in-its-range splits span range rising is one = lies-at-start splits span rising one ∙ ap (λ r. (r, span) ∷ []) (sym is)

goes : (splits : List (List ℕ)) (request of-span : Request) (range : ℕ) → request ≡ of-span → (IsForOne splits of-span → GoesTo splits of-span range) → IsForOne splits request → GoesTo splits request range
goes splits request of-span range is to one = subst (λ r. GoesTo splits r range) (sym is) (to (subst (λ r. IsForOne splits r) is one))

pub returns-in-Scan : goal.returns-in-Scan
returns-in-Scan c =
    let splits = c.args.splits.now in
    let span = c.in-Scan.span in
    let range = c.range_of_start.result in
    let there = in-its-range splits span range c.requires.rising c.range_of_start.ensures in
    elim c.in-Scan.is [
      | inl scan ↦ goes splits c.args.request.now (requests.Scan scan.0 scan.1 scan.2 scan.3 span) range scan.4 there c.requires.one
      | inr refresh ↦ goes splits c.args.request.now (requests.Refresh refresh.0 refresh.1 refresh.2 span) range refresh.3 there c.requires.one
    ]
