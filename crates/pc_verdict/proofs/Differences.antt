-- The first line that is not as in a text that is made of lines.
use Rattle.std.proofs.Common.{◌≡◌, ◌≢◌, ◌⊎◌, ℕ, ◌+◌, ◌<◌, true, List, [], ◌∷◌, ◌++◌, length, take, drop, length-append, None, Some, refl, sym, ap, subst, ◌∙◌, append_assoc, inl, inr, arith, slice_get}
use Rattle.std.specs.List.{list_all}
use Rattle.std.proofs.lemmas.List.{append-nil, drop_all, drop_more, take-append-drop, take_all, take_more}
use Rattle.std.proofs.lemmas.Option.{get_or_from_slice_get, same_Some, slice_get_cases, slice_get_past, slice_get_within, none-some}
use Rattle.pc_spelling.proofs.Cuts.{cut_at}
use Rattle.pc_spelling.specs.Bytes.{is_line_byte}
use Rattle.pc_spelling.specs.Cutting.{cut}
use Rattle.pc_verdict.specs.Differing.{IsFirstDifference, IsMadeOf, lines_text}

-- The lines are as wanted before this place, and this text is left of what is wanted.
pub record IsSameSoFar (lines wanted : List (List ℕ)) (place : ℕ) (rest : List ℕ) : Type 0 where
  pub same : take place lines ≡ take place wanted
  pub left : rest ≡ lines_text (drop place wanted)

-- What stands at a place, and behind it.
left_at : {X : Type 0} (xs : List X) (i : ℕ) → ((x : X) × (i < length xs) × (slice_get xs i ≡ Some x) × (drop i xs ≡ x ∷ drop (i + 1) xs)) ⊎ ((slice_get xs i ≡ None) × (drop i xs ≡ []))
left_at {X} xs i =
    elim (slice_get_cases xs i).1 [
      | inl there ↦ inl (there.0, there.1, there.2, drop_more xs i there.0 there.1 ∙ ap (λ (x : X). x ∷ drop (i + 1) xs) there.3)
      | inr past ↦ inr (past.1, drop_all i xs past.0)
    ]

first_cut : (line : List ℕ) (lines : List (List ℕ)) → list_all is_line_byte line ≡ true → cut 10 (lines_text (line ∷ lines)) ≡ Some (line, lines_text lines)
first_cut line lines h = ap (cut 10) (append_assoc line (10 ∷ []) (lines_text lines)) ∙ cut_at is_line_byte 10 refl line (lines_text lines) h

no_cut : cut 10 [] ≡ None
unfolding cut
no_cut = refl

-- The line is the wanted one of this place, and behind it stand those below.
pub record IsWanted (wanted : List (List ℕ)) (place : ℕ) (line behind : List ℕ) : Type 0 where
  pub within : place < length wanted
  pub there : slice_get wanted place ≡ Some line
  pub left : behind ≡ lines_text (drop (place + 1) wanted)

same_pair : (p q : List ℕ × List ℕ) → Some p ≡ Some q → (p.0 ≡ q.0) × (p.1 ≡ q.1)
same_pair p q e = let same = same_Some p q e in (ap (λ (r : List ℕ × List ℕ). r.0) same, ap (λ (r : List ℕ × List ℕ). r.1) same)

module _ (wanted : List (List ℕ)) (text : List ℕ) (made : IsMadeOf wanted text) (place : ℕ) (rest : List ℕ) (left : rest ≡ lines_text (drop place wanted)) where
  line_of : (line : List ℕ) → place < length wanted → slice_get wanted place ≡ Some line → list_all is_line_byte line ≡ true
  line_of line h e = subst (λ (l : List ℕ). list_all is_line_byte l ≡ true) (get_or_from_slice_get wanted place line line e) (made.each place line h)

  pub line_wanted : (line behind : List ℕ) → cut 10 rest ≡ Some (line, behind) → IsWanted wanted place line behind
  line_wanted line behind e =
      elim (left_at wanted place) [
        | inl there ↦
            let first : cut 10 rest ≡ Some (there.0, lines_text (drop (place + 1) wanted)) = ap (cut 10) (left ∙ ap lines_text there.3) ∙ first_cut there.0 (drop (place + 1) wanted) (line_of there.0 there.1 there.2) in
            let same = same_pair (there.0, lines_text (drop (place + 1) wanted)) (line, behind) (sym first ∙ e) in
            record { within = there.1; there = there.2 ∙ ap Some same.0; left = sym same.1 }
        | inr past ↦ absurd (none-some (line, behind) (sym (ap (cut 10) (left ∙ ap lines_text past.1) ∙ no_cut) ∙ e))
      ]

  pub none_wanted : cut 10 rest ≡ None → slice_get wanted place ≡ None
  none_wanted e =
      elim (left_at wanted place) [
        | inl there ↦ absurd (none-some (there.0, lines_text (drop (place + 1) wanted)) (sym e ∙ ap (cut 10) (left ∙ ap lines_text there.3) ∙ first_cut there.0 (drop (place + 1) wanted) (line_of there.0 there.1 there.2)))
        | inr past ↦ past.0
      ]

  -- Where nothing is left, no more lines are wanted.
  pub none_left : length rest ≡ 0 → drop place wanted ≡ []
  none_left e =
      elim (left_at wanted place) [
        | inl there ↦
            let text_left : rest ≡ there.0 ++ (10 ∷ lines_text (drop (place + 1) wanted)) = left ∙ ap lines_text there.3 ∙ append_assoc there.0 (10 ∷ []) (lines_text (drop (place + 1) wanted)) in
            absurd (omega (arith, ap length text_left, length-append there.0 (10 ∷ lines_text (drop (place + 1) wanted))))
        | inr past ↦ past.1
      ]

-- One more line that is as wanted.
pub one_more : (lines wanted : List (List ℕ)) (place : ℕ) (rest line behind : List ℕ) → IsSameSoFar lines wanted place rest → slice_get lines place ≡ Some line → IsWanted wanted place line behind → IsSameSoFar lines wanted (place + 1) behind
one_more lines wanted place rest line behind h given is = record {
  same = more lines given ∙ ap (λ (ls : List (List ℕ)). ls ++ (line ∷ [])) h.same ∙ sym (more wanted is.there);
  left = is.left;
}
  where
    more : (xs : List (List ℕ)) → slice_get xs place ≡ Some line → take (place + 1) xs ≡ take place xs ++ (line ∷ [])
    more xs e = take_more xs place line (slice_get_within xs place line e) ∙ ap (λ (l : List ℕ). take place xs ++ (l ∷ [])) (get_or_from_slice_get xs place line line e)

-- A line that is another than the wanted one.
pub differs_here : (lines wanted : List (List ℕ)) (place : ℕ) (rest given line behind : List ℕ) → IsSameSoFar lines wanted place rest → slice_get lines place ≡ Some given → IsWanted wanted place line behind → line ≢ given → IsFirstDifference lines wanted place
differs_here lines wanted place rest given line behind h there is other = record {
  same = h.same;
  differ = λ e. other (same_Some line given (sym is.there ∙ sym e ∙ there));
}

-- A line where none is wanted any more.
pub differs_past : (lines wanted : List (List ℕ)) (place : ℕ) (rest given : List ℕ) → IsSameSoFar lines wanted place rest → slice_get lines place ≡ Some given → slice_get wanted place ≡ None → IsFirstDifference lines wanted place
differs_past lines wanted place rest given h there none = record {
  same = h.same;
  differ = λ e. none-some given (sym none ∙ sym e ∙ there);
}

-- Lines of which all are as wanted, where no more are wanted.
pub same_lines : (lines wanted : List (List ℕ)) (rest : List ℕ) → IsSameSoFar lines wanted (length lines) rest → drop (length lines) wanted ≡ [] → lines ≡ wanted
same_lines lines wanted rest h none =
    sym (take_all (length lines) lines (omega arith)) ∙ h.same ∙ sym (append-nil (take (length lines) wanted)) ∙ ap (λ (ls : List (List ℕ)). take (length lines) wanted ++ ls) (sym none) ∙ take-append-drop (length lines) wanted

-- Lines of which all are as wanted, where more are wanted.
pub fewer_lines : (lines wanted : List (List ℕ)) (rest : List ℕ) → IsSameSoFar lines wanted (length lines) rest → 0 < length rest → IsFirstDifference lines wanted (length lines)
fewer_lines lines wanted rest h more = record {
  same = h.same;
  differ = λ e.
      elim (left_at wanted (length lines)) [
        | inl there ↦ none-some there.0 (sym (slice_get_past lines (length lines) (omega arith)) ∙ e ∙ there.2)
        | inr past ↦ omega (arith, ap length (h.left ∙ ap lines_text past.1))
      ];
}
