-- What the items of a text are where each of them is within the grammar, and how many there are.
use Rattle.std.proofs.Common.{◌≡◌, ℕ, ◌+◌, ◌≤◌, Bool, true, false, cond, List, [], ◌∷◌, ◌++◌, map, length, Option, None, Some, refl, sym, ap, ◌∙◌, arith, codes, bytes_eq}
use Rattle.std.specs.List.{AllByRecursion, filter_map}
use Rattle.std.specs.Option.{option_map_or}
use Rattle.pc_base.specs.declared.entry.Entry.{Entry}
use Rattle.pc_proto.specs.declared.event.Event.{Event}
use Rattle.pc_read.specs.Items.{Item, Head, Line, ReportWord, Row, End, Malformed, entry_items, head_items, over_items, row_items, second_items, third_items}
use Rattle.pc_read.specs.JournalsAreRead.{at_lines}
use Rattle.pc_spelling.specs.ReadingHead.{actors_at, ranges_at}
use Rattle.pc_spelling.specs.ReadingLines.{entry_at}
use Rattle.pc_spelling.specs.ReadingReport.{is_report_row}
use Rattle.pc_verdict.specs.Reading.{IsWithinGrammar, entry_in, report_line_in, row_in}

-- ---- the rows of a report

over_shape : (n : ℕ) (lines : List (List ℕ)) → AllByRecursion IsWithinGrammar (over_items n lines) → over_items n lines ≡ []
unfolding over_items
over_shape n [] h = absurd h.0
over_shape n ([] ∷ []) h = refl
over_shape n ([] ∷ next ∷ below) h = absurd h.0
over_shape n ((b ∷ bs) ∷ below) h = absurd h.0

row_shape : (ends kept : Bool) (n : ℕ) (line : List ℕ) (over rest : List Item) → (AllByRecursion IsWithinGrammar over → over ≡ []) → (AllByRecursion IsWithinGrammar rest → rest ≡ map Row (filter_map row_in rest) ++ (End ∷ []))
    → AllByRecursion IsWithinGrammar (cond ends (End ∷ over) (cond kept (Row line ∷ rest) (Malformed n ∷ [])))
    → cond ends (End ∷ over) (cond kept (Row line ∷ rest) (Malformed n ∷ [])) ≡ map Row (filter_map row_in (cond ends (End ∷ over) (cond kept (Row line ∷ rest) (Malformed n ∷ [])))) ++ (End ∷ [])
row_shape true kept n line over rest last more h =
    ap (λ (xs : List Item). End ∷ xs) (last h.1) ∙ sym (ap (λ (xs : List Item). map Row (filter_map row_in (End ∷ xs)) ++ (End ∷ [])) (last h.1))
row_shape false true n line over rest last more h = ap (λ (xs : List Item). Row line ∷ xs) (more h.1)
row_shape false false n line over rest last more h = absurd h.0

rows_shape : (n : ℕ) (lines : List (List ℕ)) → AllByRecursion IsWithinGrammar (row_items n lines) → row_items n lines ≡ map Row (filter_map row_in (row_items n lines)) ++ (End ∷ [])
unfolding row_items
rows_shape n [] h = absurd h.0
rows_shape n (line ∷ []) h = absurd h.0
rows_shape n (line ∷ next ∷ below) h =
    row_shape (bytes_eq line (codes "end")) (is_report_row line) n line (over_items (n + 1) (next ∷ below)) (row_items (n + 1) (next ∷ below)) (over_shape (n + 1) (next ∷ below)) (rows_shape (n + 1) (next ∷ below)) h

-- ---- the entries

no_entries : (rows : List (List ℕ)) → filter_map entry_in (map Row rows ++ (End ∷ [])) ≡ []
no_entries [] = refl
no_entries (row ∷ rows) = no_entries rows

-- The items of a body: entries from this line on, the line `report`, rows, and the line `end`.
abbrev pub body_items : ℕ → List (Entry Event) → List (List ℕ) → List Item
body_items n entries rows = at_lines n entries ++ (ReportWord ∷ (map Row rows ++ (End ∷ [])))

abbrev HasShape : ℕ → List Item → Type 0
HasShape n items = items ≡ body_items n (filter_map entry_in items) (filter_map row_in items)

word_shape : (n : ℕ) (rest : List Item) → rest ≡ map Row (filter_map row_in rest) ++ (End ∷ []) → HasShape n (ReportWord ∷ rest)
word_shape n rest e =
    let none : filter_map entry_in rest ≡ [] = ap (filter_map entry_in) e ∙ no_entries (filter_map row_in rest) in
    ap (λ (xs : List Item). ReportWord ∷ xs) e ∙ sym (ap (λ (xs : List (Entry Event)). at_lines n xs ++ (ReportWord ∷ (map Row (filter_map row_in rest) ++ (End ∷ [])))) none)

entry_shape : (reports : Bool) (n : ℕ) (read : Option (Entry Event)) (rows rest : List Item) → (AllByRecursion IsWithinGrammar rows → rows ≡ map Row (filter_map row_in rows) ++ (End ∷ [])) → (AllByRecursion IsWithinGrammar rest → HasShape (n + 1) rest)
    → AllByRecursion IsWithinGrammar (cond reports (ReportWord ∷ rows) (option_map_or (λ entry. Line n entry ∷ rest) read (Malformed n ∷ [])))
    → HasShape n (cond reports (ReportWord ∷ rows) (option_map_or (λ entry. Line n entry ∷ rest) read (Malformed n ∷ [])))
entry_shape true n read rows rest last more h = word_shape n rows (last h.1)
entry_shape false n (Some entry) rows rest last more h = ap (λ (xs : List Item). Line n entry ∷ xs) (more h.1)
entry_shape false n None rows rest last more h = absurd h.0

-- Entries, the line `report`, and a report.
pub entries_shape : (n : ℕ) (lines : List (List ℕ)) → AllByRecursion IsWithinGrammar (entry_items n lines) → HasShape n (entry_items n lines)
unfolding entry_items
entries_shape n [] h = absurd h.0
entries_shape n (line ∷ []) h = absurd h.0
entries_shape n (line ∷ next ∷ below) h =
    entry_shape (bytes_eq line (codes "report")) n (entry_at line) (row_items (n + 1) (next ∷ below)) (entry_items (n + 1) (next ∷ below)) (rows_shape (n + 1) (next ∷ below)) (entries_shape (n + 1) (next ∷ below)) h

rows_lines : (rows : List (List ℕ)) → filter_map report_line_in (map Row rows ++ (End ∷ [])) ≡ rows ++ (codes "end" ∷ [])
rows_lines [] = refl
rows_lines (row ∷ rows) = ap (λ (xs : List (List ℕ)). row ∷ xs) (rows_lines rows)

-- The lines of the report among the items of a body.
pub body_lines : (n : ℕ) (entries : List (Entry Event)) (rows : List (List ℕ)) → filter_map report_line_in (body_items n entries rows) ≡ codes "report" ∷ (rows ++ (codes "end" ∷ []))
body_lines n [] rows = ap (λ (xs : List (List ℕ)). codes "report" ∷ xs) (rows_lines rows)
body_lines n (entry ∷ entries) rows = body_lines (n + 1) entries rows

-- ---- the head

-- The items begin with a head or with a malformed line.
abbrev pub BeginsFine : List Item → Type 0
BeginsFine [] = ⊥
BeginsFine (Head splits sessions recoverers ∷ rest) = Unit {0}
BeginsFine (Malformed line ∷ rest) = Unit {0}
BeginsFine (Line line entry ∷ rest) = ⊥
BeginsFine (ReportWord ∷ rest) = ⊥
BeginsFine (Row text ∷ rest) = ⊥
BeginsFine (End ∷ rest) = ⊥

-- What stands behind the head are the entries of fewer lines.
pub record HasHead (lines : List (List ℕ)) (rest : List Item) : Type 0 where
  pub below : List (List ℕ)
  pub entries : rest ≡ entry_items 4 below
  pub fewer : length below ≤ length lines

not_head : {T : Type 0} (n sessions recoverers : ℕ) (splits : List (List ℕ)) (rest : List Item) → Malformed n ∷ [] ≡ Head splits sessions recoverers ∷ rest → T
not_head n sessions recoverers splits rest e = absurd cc

same_rest : (keys splits : List (List ℕ)) (m sessions k recoverers : ℕ) (items rest : List Item) → Head keys m k ∷ items ≡ Head splits sessions recoverers ∷ rest → rest ≡ items
same_rest keys splits m sessions k recoverers items rest e = cc

third_begins : (keys : List (List ℕ)) (lines : List (List ℕ)) → BeginsFine (third_items keys lines)
unfolding third_items
third_begins keys [] = tt
third_begins keys (line ∷ []) = tt
third_begins keys (line ∷ next ∷ below) = by (actors_at line)
  where
    by : (o : Option (ℕ × ℕ)) → BeginsFine (option_map_or (λ counts. Head keys counts.0 counts.1 ∷ entry_items 4 (next ∷ below)) o (Malformed 3 ∷ []))
    by None = tt
    by (Some counts) = tt

second_begins : (lines : List (List ℕ)) → BeginsFine (second_items lines)
unfolding second_items
second_begins [] = tt
second_begins (line ∷ []) = tt
second_begins (line ∷ next ∷ below) = by (ranges_at line)
  where
    by : (o : Option (List (List ℕ))) → BeginsFine (option_map_or (λ keys. third_items keys (next ∷ below)) o (Malformed 2 ∷ []))
    by None = tt
    by (Some keys) = third_begins keys (next ∷ below)

pub head_begins : (lines : List (List ℕ)) → BeginsFine (head_items lines)
unfolding head_items
head_begins [] = tt
head_begins (line ∷ []) = tt
head_begins (line ∷ next ∷ below) = by (bytes_eq line (codes "journal 1"))
  where
    by : (b : Bool) → BeginsFine (cond b (second_items (next ∷ below)) (Malformed 1 ∷ []))
    by true = second_begins (next ∷ below)
    by false = tt

module _ (splits : List (List ℕ)) (sessions recoverers : ℕ) (rest : List Item) where
  third_rest : (keys : List (List ℕ)) (lines : List (List ℕ)) → third_items keys lines ≡ Head splits sessions recoverers ∷ rest → HasHead lines rest
  unfolding third_items
  third_rest keys [] e = not_head 3 sessions recoverers splits rest e
  third_rest keys (line ∷ []) e = not_head 3 sessions recoverers splits rest e
  third_rest keys (line ∷ next ∷ below) e = by (actors_at line) e
    where
      by : (o : Option (ℕ × ℕ)) → option_map_or (λ counts. Head keys counts.0 counts.1 ∷ entry_items 4 (next ∷ below)) o (Malformed 3 ∷ []) ≡ Head splits sessions recoverers ∷ rest
          → HasHead (line ∷ next ∷ below) rest
      by None same = not_head 3 sessions recoverers splits rest same
      by (Some counts) same = record { below = next ∷ below; entries = same_rest keys splits counts.0 sessions counts.1 recoverers (entry_items 4 (next ∷ below)) rest same; fewer = omega arith }

  second_rest : (lines : List (List ℕ)) → second_items lines ≡ Head splits sessions recoverers ∷ rest → HasHead lines rest
  unfolding second_items
  second_rest [] e = not_head 2 sessions recoverers splits rest e
  second_rest (line ∷ []) e = not_head 2 sessions recoverers splits rest e
  second_rest (line ∷ next ∷ below) e = by (ranges_at line) e
    where
      by : (o : Option (List (List ℕ))) → option_map_or (λ keys. third_items keys (next ∷ below)) o (Malformed 2 ∷ []) ≡ Head splits sessions recoverers ∷ rest
          → HasHead (line ∷ next ∷ below) rest
      by None same = not_head 2 sessions recoverers splits rest same
      by (Some keys) same =
          let third = third_rest keys (next ∷ below) same in
          let less : length third.below ≤ length (next ∷ below) = third.fewer in
          record { below = third.below; entries = third.entries; fewer = omega (arith, less) }

  pub head_rest : (lines : List (List ℕ)) → head_items lines ≡ Head splits sessions recoverers ∷ rest → HasHead lines rest
  unfolding head_items
  head_rest [] e = not_head 1 sessions recoverers splits rest e
  head_rest (line ∷ []) e = not_head 1 sessions recoverers splits rest e
  head_rest (line ∷ next ∷ below) e = by (bytes_eq line (codes "journal 1")) e
    where
      by : (b : Bool) → cond b (second_items (next ∷ below)) (Malformed 1 ∷ []) ≡ Head splits sessions recoverers ∷ rest
          → HasHead (line ∷ next ∷ below) rest
      by true same =
          let second = second_rest (next ∷ below) same in
          let less : length second.below ≤ length (next ∷ below) = second.fewer in
          record { below = second.below; entries = second.entries; fewer = omega (arith, less) }
      by false same = not_head 1 sessions recoverers splits rest same

-- ---- how many items there are

over_count : (n : ℕ) (lines : List (List ℕ)) → length (over_items n lines) ≤ 1
unfolding over_items
over_count n [] = omega arith
over_count n ([] ∷ []) = omega arith
over_count n ([] ∷ next ∷ below) = omega arith
over_count n ((b ∷ bs) ∷ below) = omega arith

row_count : (ends kept : Bool) (n m : ℕ) (line : List ℕ) (over rest : List Item) → length over ≤ 1 → length rest ≤ m + 1 → 0 + 1 ≤ m → length (cond ends (End ∷ over) (cond kept (Row line ∷ rest) (Malformed n ∷ []))) ≤ m + 1 + 1
row_count true kept n m line over rest h k some = omega arith
row_count false true n m line over rest h k some = omega arith
row_count false false n m line over rest h k some = omega arith

rows_count : (n : ℕ) (lines : List (List ℕ)) → length (row_items n lines) ≤ length lines + 1
unfolding row_items
rows_count n [] = omega arith
rows_count n (line ∷ []) = omega arith
rows_count n (line ∷ next ∷ below) =
    let m = length (next ∷ below) in
    let all = row_count (bytes_eq line (codes "end")) (is_report_row line) n m line (over_items (n + 1) (next ∷ below)) (row_items (n + 1) (next ∷ below)) (over_count (n + 1) (next ∷ below)) (rows_count (n + 1) (next ∷ below)) (omega arith) in
    omega (arith, all)

entry_count : (reports : Bool) (n m : ℕ) (read : Option (Entry Event)) (rows rest : List Item) → length rows ≤ m + 1 → length rest ≤ m + 1 → length (cond reports (ReportWord ∷ rows) (option_map_or (λ entry. Line n entry ∷ rest) read (Malformed n ∷ []))) ≤ m + 1 + 1
entry_count true n m read rows rest h k = omega arith
entry_count false n m (Some entry) rows rest h k = omega arith
entry_count false n m None rows rest h k = omega arith

pub entries_count : (n : ℕ) (lines : List (List ℕ)) → length (entry_items n lines) ≤ length lines + 1
unfolding entry_items
entries_count n [] = omega arith
entries_count n (line ∷ []) = omega arith
entries_count n (line ∷ next ∷ below) =
    let m = length (next ∷ below) in
    let all = entry_count (bytes_eq line (codes "report")) n m (entry_at line) (row_items (n + 1) (next ∷ below)) (entry_items (n + 1) (next ∷ below)) (rows_count (n + 1) (next ∷ below)) (entries_count (n + 1) (next ∷ below)) in
    omega (arith, all)

-- The entries and the lines of the report are no more than the items.
pub parts_count : (items : List Item) → length (filter_map entry_in items) + length (filter_map report_line_in items) ≤ length items
parts_count [] = omega arith
parts_count (Head splits sessions recoverers ∷ items) = omega (arith, parts_count items)
parts_count (Line line entry ∷ items) = omega (arith, parts_count items)
parts_count (ReportWord ∷ items) = omega (arith, parts_count items)
parts_count (Row text ∷ items) = omega (arith, parts_count items)
parts_count (End ∷ items) = omega (arith, parts_count items)
parts_count (Malformed line ∷ items) = omega (arith, parts_count items)
