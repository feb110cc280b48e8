use Rattle.std.proofs.Common.{◌≡◌, ◌<◌, ◌≤◌, ◌==◌, ℕ, List, [], ◌∷◌, Bor, None, Some, map, length, get_or, slice_get, false, option_map, sym, ap, subst, ◌∙◌, arith}
use Rattle.std.proofs.lemmas.Bool.{eqb-true, true≢false}
use Rattle.std.proofs.lemmas.List.{length-map}
use Rattle.std.proofs.lemmas.Option.{slice_get-get_or, slice_get-map}
use Rattle.std.proofs.lemmas.Slice.Eq.{bytes_eq-Decides}
use Rattle.pc_spelling.specs.Cutting.{cut}
use Rattle.pc_verdict.proofs.Differences.{IsSameSoFar, differs_here, differs_past, fewer_lines, line_wanted, none_left, none_wanted, one_more, same_lines}
use Rattle.pc_verdict.specs.Differing.{IsFirstDifference}
use Rattle.pc_verdict.proofs.differing.first_difference.Goals as goal

-- The bytes of the line at a place.
given_at : (lines : List (Bor (List ℕ))) (place : ℕ) (d : Bor (List ℕ)) → place < length lines → slice_get (map (λ line. line.now) lines) place ≡ Some (get_or lines place d).now
given_at lines place d h = slice_get-map (λ (line : Bor (List ℕ)). line.now) lines place ∙ ap (option_map (λ (line : Bor (List ℕ)). line.now)) (slice_get-get_or lines place d h)

pub returns-in_default-clause-place : goal.returns-in_default-clause-place
returns-in_default-clause-place c wanted made =
    let lines = map (λ (line : Bor (List ℕ)). line.now) c.args.lines.now in
    let given = (get_or c.args.lines.now c.loop-place.place (record { ref_ptr = (0, 0); now = [] })).now in
    let so_far = c.loop-place.invariant wanted made in
    let next = line_wanted wanted c.args.text.now made c.loop-place.place c.loop-place.rest.now so_far.left c.in-Some.wanted.now c.in-Some.behind.now (sym c.in-Some.ensures) in
    differs_here lines wanted c.loop-place.place c.loop-place.rest.now given c.in-Some.wanted.now c.in-Some.behind.now so_far
    (given_at c.args.lines.now c.loop-place.place (record { ref_ptr = (0, 0); now = [] }) c.loop-place-test.true) next
    (λ same. true≢false (sym ((bytes_eq-Decides c.in-Some.wanted.now given).1 same) ∙ sym c.eq.ensures ∙ c.if-eq.false))

pub returns-in_default-2-clause-place : goal.returns-in_default-2-clause-place
returns-in_default-2-clause-place c wanted made =
    let lines = map (λ (line : Bor (List ℕ)). line.now) c.args.lines.now in
    let given = (get_or c.args.lines.now c.loop-place.place (record { ref_ptr = (0, 0); now = [] })).now in
    let so_far = c.loop-place.invariant wanted made in
    let none : cut 10 c.loop-place.rest.now ≡ None = sym c.cut.ensures ∙ ap (option_map (λ p. (p.0.now, p.1.now))) c.in_default.is in
    differs_past lines wanted c.loop-place.place c.loop-place.rest.now given so_far
    (given_at c.args.lines.now c.loop-place.place (record { ref_ptr = (0, 0); now = [] }) c.loop-place-test.true)
    (none_wanted wanted c.args.text.now made c.loop-place.place c.loop-place.rest.now so_far.left none)

pub loop-place-preserved : goal.loop-place-preserved
loop-place-preserved c wanted made =
    let lines = map (λ (line : Bor (List ℕ)). line.now) c.args.lines.now in
    let given = (get_or c.args.lines.now c.loop-place.place (record { ref_ptr = (0, 0); now = [] })).now in
    let so_far = c.loop-place.invariant wanted made in
    let next = line_wanted wanted c.args.text.now made c.loop-place.place c.loop-place.rest.now so_far.left c.in-Some.wanted.now c.in-Some.behind.now (sym c.in-Some.ensures) in
    let same : c.in-Some.wanted.now ≡ given = (bytes_eq-Decides c.in-Some.wanted.now given).0 (sym c.eq.ensures ∙ c.if-eq.true) in
    one_more lines wanted c.loop-place.place c.loop-place.rest.now c.in-Some.wanted.now c.in-Some.behind.now so_far
    (given_at c.args.lines.now c.loop-place.place (record { ref_ptr = (0, 0); now = [] }) c.loop-place-test.true ∙ ap Some (sym same)) next

some_left : (bs : List ℕ) → (length bs == 0) ≡ false → 0 < length bs
some_left [] e = absurd cc
some_left (b ∷ bs) e = omega arith

-- The loop has gone over all lines.
all_lines : (lines : List (Bor (List ℕ))) (place : ℕ) → length lines ≤ place → place ≤ length lines → place ≡ length (map (λ line. line.now) lines)
all_lines lines place h k = omega (arith, length-map lines (λ (line : Bor (List ℕ)). line.now))

pub returns-then-is_empty-clause-place : goal.returns-then-is_empty-clause-place
returns-then-is_empty-clause-place c wanted made =
    let lines = map (λ (line : Bor (List ℕ)). line.now) c.args.lines.now in
    let so_far = subst (λ (place : ℕ). IsSameSoFar lines wanted place c.loop-place.rest.now) (all_lines c.args.lines.now c.loop-place.place c.loop-place-test.false c.loop-place.auto.place-end) (c.loop-place.invariant wanted made) in
    let none : length c.loop-place.rest.now ≡ 0 = eqb-true (length c.loop-place.rest.now) 0 (sym c.is_empty.ensures ∙ c.if-is_empty.true) in
    same_lines lines wanted c.loop-place.rest.now so_far (none_left wanted c.args.text.now made (length lines) c.loop-place.rest.now so_far.left none)

pub returns-else-is_empty-clause-place : goal.returns-else-is_empty-clause-place
returns-else-is_empty-clause-place c wanted made =
    let lines = map (λ (line : Bor (List ℕ)). line.now) c.args.lines.now in
    let so_far = subst (λ (place : ℕ). IsSameSoFar lines wanted place c.loop-place.rest.now) (all_lines c.args.lines.now c.loop-place.place c.loop-place-test.false c.loop-place.auto.place-end) (c.loop-place.invariant wanted made) in
    let some : 0 < length c.loop-place.rest.now = some_left c.loop-place.rest.now (sym c.is_empty.ensures ∙ c.if-is_empty.false) in
    subst (λ (place : ℕ). IsFirstDifference lines wanted place) (length-map c.args.lines.now (λ (line : Bor (List ℕ)). line.now)) (fewer_lines lines wanted c.loop-place.rest.now so_far some)
