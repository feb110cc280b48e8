-- What is read of a text is what the text spells, line by line.
use Rattle.std.proofs.Common.{◌≡◌, ℕ, ◌+◌, true, false, cond, List, [], ◌∷◌, ◌++◌, map, length, Option, None, Some, refl, sym, ap, ◌∙◌, append_assoc, inl, inr, arith, codes, bytes_eq}
use Rattle.std.specs.List.{AllByRecursion}
use Rattle.std.specs.Option.{option_map_or}
use Rattle.std.proofs.lemmas.Bool.{false_from_ne_true}
use Rattle.std.proofs.lemmas.List.Elements.{All-from_recursion, recursion_from_All}
use Rattle.std.proofs.lemmas.Slice.Eq.{bytes_eq-Decides}
use Rattle.pc_base.specs.declared.entry.Entry.{Entry}
use Rattle.pc_proto.specs.declared.event.Event.{Event}
use Rattle.pc_journal.specs.Event.{entry_text}
use Rattle.pc_journal.specs.Fits.{Fits32, FitsEntry}
use Rattle.pc_journal.specs.Journal.{actors_text, entries_text, ranges_text}
use Rattle.pc_journal.specs.Side.{◌⏎◌}
use Rattle.pc_spelling.specs.Bytes.{is_line_byte}
use Rattle.pc_spelling.specs.Cutting.{cut}
use Rattle.pc_spelling.specs.ReadingHead.{actors_at, ranges_at}
use Rattle.pc_spelling.specs.ReadingLines.{entry_at}
use Rattle.pc_spelling.specs.ReadingReport.{is_report_row}
use Rattle.pc_spelling.proofs.Cuts.{chosen, cut_at, cut_some}
use Rattle.pc_spelling.proofs.Events.{entry}
use Rattle.pc_spelling.proofs.Journal.{actors, ranges}
use Rattle.pc_read.specs.Items.{Item, Head, Line, ReportWord, Row, End, Malformed, entry_items, over_items, row_items, second_items, text_lines, third_items}
use Rattle.pc_read.specs.JournalsAreRead.{at_lines}
use Rattle.pc_read.specs.ReadAsSpelled.{IsRow, JournalsAreSpelled, ReportsAreRead, ReportsAreSpelled, rows_then_end}
use Rattle.pc_read.proofs.Steps.{entry_cut, entry_end, head_cut, head_end, over_none, over_some, row_cut, row_end, row_ended, row_kept, second_cut, second_end, third_cut, third_end}

-- A text's first line, which has its line feed.
record HasCut (bs : List ℕ) : Type 0 where
  line : List ℕ
  behind : List ℕ
  is : cut 10 bs ≡ Some (line, behind)

has_cut : (bs : List ℕ) (o : Option (List ℕ × List ℕ)) → cut 10 bs ≡ o → (cut 10 bs ≡ None → ⊥) → HasCut bs
has_cut bs None e contra = absurd (contra e)
has_cut bs (Some (line, behind)) e contra = record { line = line; behind = behind; is = e }

first_line : (bs : List ℕ) (c : HasCut bs) → bs ≡ c.line ⏎ c.behind
first_line bs c = cut_some 10 bs (c.line, c.behind) c.is

same_word : (line word : List ℕ) → bytes_eq line word ≡ true → line ≡ word
same_word line word e = (bytes_eq-Decides line word).0 e

-- What was made of something that is there, where the other value is not what was made.
from_some : {A B : Type 0} (f : A → B) (o : Option A) (other made : B) → option_map_or f o other ≡ made → (other ≡ made → ⊥) → (x : A) × (o ≡ Some x) × (f x ≡ made)
from_some f None other made e contra = absurd (contra e)
from_some f (Some x) other made e contra = (x, refl, e)

-- ---- items of different kinds

malformed_head : (n sessions recoverers : ℕ) (splits : List (List ℕ)) (items : List Item) → Malformed n ∷ [] ≡ Head splits sessions recoverers ∷ items → ⊥
malformed_head n sessions recoverers splits items e = cc

malformed_line : (n m : ℕ) (e : Entry Event) (items : List Item) → Malformed n ∷ [] ≡ Line m e ∷ items → ⊥
malformed_line n m e items same = cc

malformed_word : (n : ℕ) (items : List Item) → Malformed n ∷ [] ≡ ReportWord ∷ items → ⊥
malformed_word n items same = cc

malformed_row : (n : ℕ) (row : List ℕ) (items : List Item) → Malformed n ∷ [] ≡ Row row ∷ items → ⊥
malformed_row n row items same = cc

malformed_end : (n : ℕ) (items : List Item) → Malformed n ∷ [] ≡ End ∷ items → ⊥
malformed_end n items same = cc

word_line : (m : ℕ) (e : Entry Event) (items others : List Item) → ReportWord ∷ items ≡ Line m e ∷ others → ⊥
word_line m e items others same = cc

line_word : (m : ℕ) (e : Entry Event) (items others : List Item) → Line m e ∷ items ≡ ReportWord ∷ others → ⊥
line_word m e items others same = cc

row_end_differ : (row : List ℕ) (items others : List Item) → Row row ∷ items ≡ End ∷ others → ⊥
row_end_differ row items others same = cc

end_row : (row : List ℕ) (items others : List Item) → End ∷ items ≡ Row row ∷ others → ⊥
end_row row items others same = cc

same_items : (item : Item) (items others : List Item) → item ∷ items ≡ item ∷ others → items ≡ others
same_items item items others e = cc

same_lines : (n m : ℕ) (x e : Entry Event) (items others : List Item) → Line n x ∷ items ≡ Line m e ∷ others → (x ≡ e) × (items ≡ others)
same_lines n m x e items others same = (cc, cc)

same_rows : (x y : List ℕ) (items others : List Item) → Row x ∷ items ≡ Row y ∷ others → (x ≡ y) × (items ≡ others)
same_rows x y items others same = (cc, cc)

record SameHead (splits others : List (List ℕ)) (sessions many recoverers more : ℕ) (items rest : List Item) : Type 0 where
  keys : splits ≡ others
  first : sessions ≡ many
  second : recoverers ≡ more
  below : items ≡ rest

same_heads : (splits others : List (List ℕ)) (sessions many recoverers more : ℕ) (items rest : List Item) → Head splits sessions recoverers ∷ items ≡ Head others many more ∷ rest → SameHead splits others sessions many recoverers more items rest
same_heads splits others sessions many recoverers more items rest e = record { keys = cc; first = cc; second = cc; below = cc }

-- ---- the entries

record AreSpelled (n : ℕ) (entries : List (Entry Event)) (bs : List ℕ) (items : List Item) : Type 0 where
  below : List ℕ
  text : bs ≡ entries_text entries ++ (codes "report" ⏎ below)
  fit : AllByRecursion FitsEntry entries
  rest : (at : ℕ) → at ≡ n + length entries + 1 → items ≡ row_items at (text_lines below)

no_entries : (n : ℕ) (bs : List ℕ) (items : List Item) → entry_items n (text_lines bs) ≡ ReportWord ∷ items → AreSpelled n [] bs items
no_entries n bs items e =
    let c = has_cut bs (cut 10 bs) refl (λ none. malformed_word n items (sym (entry_end n bs none) ∙ e)) in
    let kept = λ (x : Entry Event). Line n x ∷ entry_items (n + 1) (text_lines c.behind) in
    elim (chosen (bytes_eq c.line (codes "report")) (ReportWord ∷ row_items (n + 1) (text_lines c.behind)) (option_map_or kept (entry_at c.line) (Malformed n ∷ [])) (ReportWord ∷ items) (sym (entry_cut n bs c.line c.behind c.is) ∙ e)) [
      | inl hit ↦ record {
        below = c.behind;
        text = first_line bs c ∙ ap (λ (line : List ℕ). line ⏎ c.behind) (same_word c.line (codes "report") hit.0);
        fit = tt;
        rest = λ at line.
            let place : n + 1 ≡ at = omega arith in
            sym (same_items ReportWord (row_items (n + 1) (text_lines c.behind)) items hit.1) ∙ ap (λ (k : ℕ). row_items k (text_lines c.behind)) place;
      }
      | inr miss ↦
          let some = from_some kept (entry_at c.line) (Malformed n ∷ []) (ReportWord ∷ items) miss.1 (malformed_word n items) in
          absurd (line_word n some.0 (entry_items (n + 1) (text_lines c.behind)) items some.2)
    ]

one_entry : (n : ℕ) (e : Entry Event) (bs : List ℕ) (items : List Item) → entry_items n (text_lines bs) ≡ Line n e ∷ items → (behind : List ℕ) × (bs ≡ entry_text e ⏎ behind) × FitsEntry e × (entry_items (n + 1) (text_lines behind) ≡ items)
one_entry n x bs items e =
    let c = has_cut bs (cut 10 bs) refl (λ none. malformed_line n n x items (sym (entry_end n bs none) ∙ e)) in
    let kept = λ (y : Entry Event). Line n y ∷ entry_items (n + 1) (text_lines c.behind) in
    elim (chosen (bytes_eq c.line (codes "report")) (ReportWord ∷ row_items (n + 1) (text_lines c.behind)) (option_map_or kept (entry_at c.line) (Malformed n ∷ [])) (Line n x ∷ items) (sym (entry_cut n bs c.line c.behind c.is) ∙ e)) [
      | inl hit ↦ absurd (word_line n x (row_items (n + 1) (text_lines c.behind)) items hit.1)
      | inr miss ↦
          let some = from_some kept (entry_at c.line) (Malformed n ∷ []) (Line n x ∷ items) miss.1 (malformed_line n n x items) in
          let same = same_lines n n some.0 x (entry_items (n + 1) (text_lines c.behind)) items some.2 in
          let taken = entry.takes c.line x (some.1 ∙ ap Some same.0) in
          (c.behind, first_line bs c ∙ ap (λ (line : List ℕ). line ⏎ c.behind) taken.0, taken.1, same.1)
    ]

entries_spelled : (n : ℕ) (entries : List (Entry Event)) (bs : List ℕ) (items : List Item) → entry_items n (text_lines bs) ≡ at_lines n entries ++ (ReportWord ∷ items) → AreSpelled n entries bs items
entries_spelled n [] bs items e = no_entries n bs items e
entries_spelled n (x ∷ xs) bs items e =
    let first = one_entry n x bs (at_lines (n + 1) xs ++ (ReportWord ∷ items)) e in
    let others = entries_spelled (n + 1) xs first.0 items first.3 in
    record {
      below = others.below;
      text = first.1 ∙ ap (λ (behind : List ℕ). entry_text x ⏎ behind) others.text ∙ sym (append_assoc (entry_text x) (10 ∷ entries_text xs) (codes "report" ⏎ others.below));
      fit = (first.2, others.fit);
      rest = λ at line. others.rest at (omega arith);
    }

-- ---- the head

three_lines : (one two three entries below : List ℕ) → (one ⏎ two ⏎ three ⏎ entries) ++ below ≡ (one ⏎ two ⏎ three ⏎ (entries ++ below))
three_lines one two three entries below = simp append_assoc

record IsThird (splits : List (List ℕ)) (sessions recoverers : ℕ) (keys : List (List ℕ)) (bs : List ℕ) (items : List Item) : Type 0 where
  behind : List ℕ
  text : bs ≡ actors_text sessions recoverers ⏎ behind
  counts : Fits32 sessions × Fits32 recoverers
  same_keys : keys ≡ splits
  below : entry_items 4 (text_lines behind) ≡ items

third_spelled : (splits : List (List ℕ)) (sessions recoverers : ℕ) (keys : List (List ℕ)) (bs : List ℕ) (items : List Item) → third_items keys (text_lines bs) ≡ Head splits sessions recoverers ∷ items → IsThird splits sessions recoverers keys bs items
third_spelled splits sessions recoverers keys bs items e =
    let c = has_cut bs (cut 10 bs) refl (λ none. malformed_head 3 sessions recoverers splits items (sym (third_end keys bs none) ∙ e)) in
    let kept = λ (counts : ℕ × ℕ). Head keys counts.0 counts.1 ∷ entry_items 4 (text_lines c.behind) in
    let some = from_some kept (actors_at c.line) (Malformed 3 ∷ []) (Head splits sessions recoverers ∷ items) (sym (third_cut keys bs c.line c.behind c.is) ∙ e) (malformed_head 3 sessions recoverers splits items) in
    let same = same_heads keys splits some.0.0 sessions some.0.1 recoverers (entry_items 4 (text_lines c.behind)) items some.2 in
    let pair : some.0 ≡ (sessions, recoverers) = λ i. (same.first i, same.second i) in
    let taken = actors.takes c.line (sessions, recoverers) (some.1 ∙ ap Some pair) in
    record {
      behind = c.behind;
      text = first_line bs c ∙ ap (λ (line : List ℕ). line ⏎ c.behind) taken.0;
      counts = taken.1;
      same_keys = same.keys;
      below = same.below;
    }

pub journals_are_spelled : JournalsAreSpelled
journals_are_spelled bs splits sessions recoverers entries items e =
    let all = at_lines 4 entries ++ (ReportWord ∷ items) in
    let first = has_cut bs (cut 10 bs) refl (λ none. malformed_head 1 sessions recoverers splits all (sym (head_end bs none) ∙ e)) in
    elim (chosen (bytes_eq first.line (codes "journal 1")) (second_items (text_lines first.behind)) (Malformed 1 ∷ []) (Head splits sessions recoverers ∷ all) (sym (head_cut bs first.line first.behind first.is) ∙ e)) [
      | inl hit ↦
          let rest = first.behind in
          let second = has_cut rest (cut 10 rest) refl (λ none. malformed_head 2 sessions recoverers splits all (sym (second_end rest none) ∙ hit.1)) in
          let kept = λ (keys : List (List ℕ)). third_items keys (text_lines second.behind) in
          let some = from_some kept (ranges_at second.line) (Malformed 2 ∷ []) (Head splits sessions recoverers ∷ all) (sym (second_cut rest second.line second.behind second.is) ∙ hit.1) (malformed_head 2 sessions recoverers splits all) in
          let third = third_spelled splits sessions recoverers some.0 second.behind all some.2 in
          let taken = ranges.takes second.line splits (some.1 ∙ ap Some third.same_keys) in
          let spelled = entries_spelled 4 entries third.behind items third.below in
          record {
            below = spelled.below;
            text =
                first_line bs first
                ∙ ap (λ (l : List ℕ). l ⏎ rest) (same_word first.line (codes "journal 1") hit.0)
                ∙ ap (λ (below : List ℕ). codes "journal 1" ⏎ below) (first_line rest second ∙ ap (λ (l : List ℕ). l ⏎ second.behind) taken.0 ∙ ap (λ (below : List ℕ). ranges_text splits ⏎ below) (third.text ∙ ap (λ (below : List ℕ). actors_text sessions recoverers ⏎ below) spelled.text))
                ∙ sym (three_lines (codes "journal 1") (ranges_text splits) (actors_text sessions recoverers) (entries_text entries) (codes "report" ⏎ spelled.below));
            fitting_head = record { cuts = taken.1; first_count = third.counts.0; second_count = third.counts.1 };
            fitting_entries = All-from_recursion FitsEntry entries spelled.fit;
            read_below = spelled.rest (length entries + 5) (omega arith);
          }
      | inr miss ↦ absurd (malformed_head 1 sessions recoverers splits all miss.1)
    ]

-- ---- the report

nothing_behind : (n : ℕ) (bs : List ℕ) → over_items n (text_lines bs) ≡ [] → bs ≡ []
nothing_behind n [] e = refl
nothing_behind n (b ∷ bs) e = absurd (cc (over_some n (b ∷ bs) (omega arith), e))

no_rows : (n : ℕ) (bs : List ℕ) → row_items n (text_lines bs) ≡ End ∷ [] → bs ≡ codes "end" ⏎ []
no_rows n bs e =
    let c = has_cut bs (cut 10 bs) refl (λ none. malformed_end n [] (sym (row_end n bs none) ∙ e)) in
    let next = Row c.line ∷ row_items (n + 1) (text_lines c.behind) in
    elim (chosen (bytes_eq c.line (codes "end")) (End ∷ over_items (n + 1) (text_lines c.behind)) (cond (is_report_row c.line) next (Malformed n ∷ [])) (End ∷ []) (sym (row_cut n bs c.line c.behind c.is) ∙ e)) [
      | inl hit ↦
          let over = same_items End (over_items (n + 1) (text_lines c.behind)) [] hit.1 in
          first_line bs c ∙ ap (λ (line : List ℕ). line ⏎ c.behind) (same_word c.line (codes "end") hit.0) ∙ ap (λ (behind : List ℕ). codes "end" ⏎ behind) (nothing_behind (n + 1) c.behind over)
      | inr miss ↦
          elim (chosen (is_report_row c.line) next (Malformed n ∷ []) (End ∷ []) miss.1) [
            | inl row ↦ absurd (row_end_differ c.line (row_items (n + 1) (text_lines c.behind)) [] row.1)
            | inr bad ↦ absurd (malformed_end n [] bad.1)
          ]
    ]

one_row : (n : ℕ) (row : List ℕ) (items : List Item) (bs : List ℕ) → row_items n (text_lines bs) ≡ Row row ∷ items → (behind : List ℕ) × (bs ≡ row ⏎ behind) × (row_items (n + 1) (text_lines behind) ≡ items)
one_row n row items bs e =
    let c = has_cut bs (cut 10 bs) refl (λ none. malformed_row n row items (sym (row_end n bs none) ∙ e)) in
    let next = Row c.line ∷ row_items (n + 1) (text_lines c.behind) in
    elim (chosen (bytes_eq c.line (codes "end")) (End ∷ over_items (n + 1) (text_lines c.behind)) (cond (is_report_row c.line) next (Malformed n ∷ [])) (Row row ∷ items) (sym (row_cut n bs c.line c.behind c.is) ∙ e)) [
      | inl hit ↦ absurd (end_row row (over_items (n + 1) (text_lines c.behind)) items hit.1)
      | inr miss ↦
          elim (chosen (is_report_row c.line) next (Malformed n ∷ []) (Row row ∷ items) miss.1) [
            | inl kept ↦
                let same = same_rows c.line row (row_items (n + 1) (text_lines c.behind)) items kept.1 in
                (c.behind, first_line bs c ∙ ap (λ (line : List ℕ). line ⏎ c.behind) same.0, same.1)
            | inr bad ↦ absurd (malformed_row n row items bad.1)
          ]
    ]

pub reports_are_spelled : ReportsAreSpelled
reports_are_spelled n [] bs e = no_rows n bs e
reports_are_spelled n (row ∷ rows) bs e =
    let first = one_row n row (map Row rows ++ (End ∷ [])) bs e in
    first.1 ∙ ap (λ (behind : List ℕ). row ⏎ behind) (reports_are_spelled (n + 1) rows first.0 first.2)

no_row_is_end : is_report_row (codes "end") ≡ false
unfolding is_report_row cut
no_row_is_end = refl

not_end : (row : List ℕ) → is_report_row row ≡ true → bytes_eq row (codes "end") ≡ false
not_end row allowed = false_from_ne_true (bytes_eq row (codes "end")) (λ hit. absurd (cc (ap is_report_row (same_word row (codes "end") hit), no_row_is_end, allowed)))

end_cut : cut 10 (codes "end" ⏎ []) ≡ Some (codes "end", [])
unfolding cut
end_cut = refl

rows_read : (n : ℕ) (rows : List (List ℕ)) → AllByRecursion IsRow rows → row_items n (text_lines (rows_then_end rows)) ≡ map Row rows ++ (End ∷ [])
rows_read n [] h = row_ended n (codes "end" ⏎ []) (codes "end") [] end_cut refl ∙ ap (λ (items : List Item). End ∷ items) (over_none (n + 1) [] refl)
rows_read n (row ∷ rows) h =
    row_kept n (row ⏎ rows_then_end rows) row (rows_then_end rows) (cut_at is_line_byte 10 refl row (rows_then_end rows) h.0.line) (not_end row h.0.allowed) h.0.allowed
    ∙ ap (λ (items : List Item). Row row ∷ items) (rows_read (n + 1) rows h.1)

pub reports_are_read : ReportsAreRead
reports_are_read n rows h = rows_read n rows (recursion_from_All IsRow rows h)
