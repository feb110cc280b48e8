-- What is left of a text, line by line: the items of what is cut at the first line feed.
use Rattle.std.proofs.Common.{◌≡◌, ℕ, ◌+◌, ◌<◌, Bool, true, false, cond, ◌==◌, List, [], ◌∷◌, length, Option, None, Some, refl, sym, ap, ◌∙◌, arith, codes, bytes_eq, option_map, is_some, IfSome}
use Rattle.std.specs.List.{onto_first}
use Rattle.std.specs.Option.{option_map_or}
use Rattle.pc_base.specs.declared.entry.Entry.{Entry}
use Rattle.pc_proto.specs.declared.event.Event.{Event}
use Rattle.pc_spelling.specs.Cutting.{cut}
use Rattle.pc_spelling.specs.ReadingHead.{actors_at, ranges_at}
use Rattle.pc_spelling.specs.ReadingLines.{entry_at}
use Rattle.pc_spelling.specs.ReadingReport.{is_report_row}
use Rattle.pc_read.specs.Items.{Item, Head, Line, ReportWord, Row, End, Malformed, entry_items, head_items, over_items, text_lines, row_items, second_items, third_items}
use Rattle.pc_read.proofs.Items.{parts_cut, parts_whole, shorter_cut}

-- A text has at least one piece.
pub record HasPiece (bs : List ℕ) : Type 0 where
  pub first : List ℕ
  pub others : List (List ℕ)
  pub is : text_lines bs ≡ first ∷ others

onto_has : (b : ℕ) (parts : List (List ℕ)) → (first : List ℕ) × (others : List (List ℕ)) × (onto_first b parts ≡ first ∷ others)
onto_has b [] = (b ∷ [], [], refl)
onto_has b (part ∷ parts) = (b ∷ part, parts, refl)

chosen_has : (t : Bool) (b : ℕ) (parts : List (List ℕ)) → (first : List ℕ) × (others : List (List ℕ)) × (cond t ([] ∷ parts) (onto_first b parts) ≡ first ∷ others)
chosen_has true b parts = ([], parts, refl)
chosen_has false b parts = onto_has b parts

pub has_piece : (bs : List ℕ) → HasPiece bs
has_piece [] = record { first = []; others = []; is = refl }
has_piece (b ∷ bs) =
    let some = chosen_has (b == 10) b (text_lines bs) in
    record { first = some.0; others = some.1; is = some.2 }

-- What the two first pieces of a text say, where it is cut.
by_cut : {A : Type 0} (of : List (List ℕ) → A) (said : List ℕ → List (List ℕ) → A) → ((line next : List ℕ) (below : List (List ℕ)) → of (line ∷ next ∷ below) ≡ said line (next ∷ below)) → (bs line behind : List ℕ) → cut 10 bs ≡ Some (line, behind) → of (text_lines bs) ≡ said line (text_lines behind)
by_cut of said says bs line behind e =
    let more = has_piece behind in
    ap of (parts_cut 10 bs line behind e) ∙ ap (λ (ps : List (List ℕ)). of (line ∷ ps)) more.is ∙ says line more.first more.others ∙ ap (said line) (sym more.is)

pub entry_cut : (n : ℕ) (bs line behind : List ℕ) → cut 10 bs ≡ Some (line, behind) → entry_items n (text_lines bs) ≡ cond (bytes_eq line (codes "report")) (ReportWord ∷ row_items (n + 1) (text_lines behind)) (option_map_or (λ entry. Line n entry ∷ entry_items (n + 1) (text_lines behind)) (entry_at line) (Malformed n ∷ []))
unfolding entry_items
entry_cut n bs line behind e = by_cut (entry_items n) (λ l ps. cond (bytes_eq l (codes "report")) (ReportWord ∷ row_items (n + 1) ps) (option_map_or (λ entry. Line n entry ∷ entry_items (n + 1) ps) (entry_at l) (Malformed n ∷ []))) (λ l next below. refl) bs line behind e

pub entry_end : (n : ℕ) (bs : List ℕ) → cut 10 bs ≡ None → entry_items n (text_lines bs) ≡ Malformed n ∷ []
unfolding entry_items
entry_end n bs e = ap (entry_items n) (parts_whole 10 bs e)

pub row_cut : (n : ℕ) (bs line behind : List ℕ) → cut 10 bs ≡ Some (line, behind) → row_items n (text_lines bs) ≡ cond (bytes_eq line (codes "end")) (End ∷ over_items (n + 1) (text_lines behind)) (cond (is_report_row line) (Row line ∷ row_items (n + 1) (text_lines behind)) (Malformed n ∷ []))
unfolding row_items
row_cut n bs line behind e = by_cut (row_items n) (λ l ps. cond (bytes_eq l (codes "end")) (End ∷ over_items (n + 1) ps) (cond (is_report_row l) (Row l ∷ row_items (n + 1) ps) (Malformed n ∷ []))) (λ l next below. refl) bs line behind e

pub row_end : (n : ℕ) (bs : List ℕ) → cut 10 bs ≡ None → row_items n (text_lines bs) ≡ Malformed n ∷ []
unfolding row_items
row_end n bs e = ap (row_items n) (parts_whole 10 bs e)

pub head_cut : (bs line behind : List ℕ) → cut 10 bs ≡ Some (line, behind) → head_items (text_lines bs) ≡ cond (bytes_eq line (codes "journal 1")) (second_items (text_lines behind)) (Malformed 1 ∷ [])
unfolding head_items
head_cut bs line behind e = by_cut head_items (λ l ps. cond (bytes_eq l (codes "journal 1")) (second_items ps) (Malformed 1 ∷ [])) (λ l next below. refl) bs line behind e

pub head_end : (bs : List ℕ) → cut 10 bs ≡ None → head_items (text_lines bs) ≡ Malformed 1 ∷ []
unfolding head_items
head_end bs e = ap head_items (parts_whole 10 bs e)

pub second_cut : (bs line behind : List ℕ) → cut 10 bs ≡ Some (line, behind) → second_items (text_lines bs) ≡ option_map_or (λ splits. third_items splits (text_lines behind)) (ranges_at line) (Malformed 2 ∷ [])
unfolding second_items
second_cut bs line behind e = by_cut second_items (λ l ps. option_map_or (λ splits. third_items splits ps) (ranges_at l) (Malformed 2 ∷ [])) (λ l next below. refl) bs line behind e

pub second_end : (bs : List ℕ) → cut 10 bs ≡ None → second_items (text_lines bs) ≡ Malformed 2 ∷ []
unfolding second_items
second_end bs e = ap second_items (parts_whole 10 bs e)

pub third_cut : (splits : List (List ℕ)) (bs line behind : List ℕ) → cut 10 bs ≡ Some (line, behind) → third_items splits (text_lines bs) ≡ option_map_or (λ counts. Head splits counts.0 counts.1 ∷ entry_items 4 (text_lines behind)) (actors_at line) (Malformed 3 ∷ [])
unfolding third_items
third_cut splits bs line behind e = by_cut (third_items splits) (λ l ps. option_map_or (λ counts. Head splits counts.0 counts.1 ∷ entry_items 4 ps) (actors_at l) (Malformed 3 ∷ [])) (λ l next below. refl) bs line behind e

pub third_end : (splits : List (List ℕ)) (bs : List ℕ) → cut 10 bs ≡ None → third_items splits (text_lines bs) ≡ Malformed 3 ∷ []
unfolding third_items
third_end splits bs e = ap (third_items splits) (parts_whole 10 bs e)

pub over_none : (n : ℕ) (bs : List ℕ) → length bs ≡ 0 → over_items n (text_lines bs) ≡ []
unfolding over_items
over_none n [] e = refl
over_none n (b ∷ bs) e = absurd (omega arith)

over_parts : (n : ℕ) (t : Bool) (b : ℕ) (part : List ℕ) (parts : List (List ℕ)) → over_items n (cond t ([] ∷ part ∷ parts) (onto_first b (part ∷ parts))) ≡ Malformed n ∷ []
unfolding over_items
over_parts n true b part parts = refl
over_parts n false b part parts = refl

pub over_some : (n : ℕ) (bs : List ℕ) → 0 < length bs → over_items n (text_lines bs) ≡ Malformed n ∷ []
unfolding over_items
over_some n [] some = absurd (omega arith)
over_some n (b ∷ bs) some =
    let more = has_piece bs in
    ap (λ (ps : List (List ℕ)). over_items n (cond (b == 10) ([] ∷ ps) (onto_first b ps))) more.is ∙ over_parts n (b == 10) b more.first more.others

-- ---- what one line gives

cond_true : {A : Type 0} (b : Bool) (x y : A) → b ≡ true → cond b x y ≡ x
cond_true b x y e = rw e refl

cond_false : {A : Type 0} (b : Bool) (x y : A) → b ≡ false → cond b x y ≡ y
cond_false b x y e = rw e refl

pub row_ended : (n : ℕ) (bs line behind : List ℕ) → cut 10 bs ≡ Some (line, behind) → bytes_eq line (codes "end") ≡ true → row_items n (text_lines bs) ≡ End ∷ over_items (n + 1) (text_lines behind)
row_ended n bs line behind e hit = row_cut n bs line behind e ∙ cond_true _ _ _ hit

pub row_kept : (n : ℕ) (bs line behind : List ℕ) → cut 10 bs ≡ Some (line, behind) → bytes_eq line (codes "end") ≡ false → is_report_row line ≡ true → row_items n (text_lines bs) ≡ Row line ∷ row_items (n + 1) (text_lines behind)
row_kept n bs line behind e miss hit = row_cut n bs line behind e ∙ cond_false _ _ _ miss ∙ cond_true _ _ _ hit

pub row_bad : (n : ℕ) (bs line behind : List ℕ) → cut 10 bs ≡ Some (line, behind) → bytes_eq line (codes "end") ≡ false → is_report_row line ≡ false → row_items n (text_lines bs) ≡ Malformed n ∷ []
row_bad n bs line behind e miss other = row_cut n bs line behind e ∙ cond_false _ _ _ miss ∙ cond_false _ _ _ other

pub entry_reported : (n : ℕ) (bs line behind : List ℕ) → cut 10 bs ≡ Some (line, behind) → bytes_eq line (codes "report") ≡ true → entry_items n (text_lines bs) ≡ ReportWord ∷ row_items (n + 1) (text_lines behind)
entry_reported n bs line behind e hit = entry_cut n bs line behind e ∙ cond_true _ _ _ hit

pub entry_bad : (n : ℕ) (bs line behind : List ℕ) → cut 10 bs ≡ Some (line, behind) → bytes_eq line (codes "report") ≡ false → entry_at line ≡ None → entry_items n (text_lines bs) ≡ Malformed n ∷ []
entry_bad n bs line behind e miss none =
    entry_cut n bs line behind e ∙ cond_false _ _ _ miss ∙ ap (λ (o : Option (Entry Event)). option_map_or (λ entry. Line n entry ∷ entry_items (n + 1) (text_lines behind)) o (Malformed n ∷ [])) none

given_entry : (n : ℕ) (after before : List Item) (o : Option (Entry Event)) → is_some o ≡ true → before ≡ option_map_or (λ entry. Line n entry ∷ after) o (Malformed n ∷ []) → option_map (λ item. item ∷ after) (option_map (λ x. Line n x) o) ≡ Some before
given_entry n after before None some e = absurd cc
given_entry n after before (Some x) some e = ap Some (sym e)

pub entry_kept : (n at : ℕ) (bs line behind : List ℕ) (read : Option (Entry Event)) → cut 10 bs ≡ Some (line, behind) → bytes_eq line (codes "report") ≡ false → read ≡ entry_at line → is_some (entry_at line) ≡ true → at ≡ n → option_map (λ item. item ∷ entry_items (n + 1) (text_lines behind)) (option_map (λ x. Line at x) read) ≡ Some (entry_items n (text_lines bs))
entry_kept n at bs line behind read e miss is some same =
    ap (λ (o : Option (Entry Event)). option_map (λ item. item ∷ entry_items (n + 1) (text_lines behind)) (option_map (λ x. Line at x) o)) is
    ∙ ap (λ (k : ℕ). option_map (λ item. item ∷ entry_items (n + 1) (text_lines behind)) (option_map (λ x. Line k x) (entry_at line))) same
    ∙ given_entry n (entry_items (n + 1) (text_lines behind)) (entry_items n (text_lines bs)) (entry_at line) some (entry_cut n bs line behind e ∙ cond_false _ _ _ miss)

pub third_given : (keys : Option (List (List ℕ))) (sessions recoverers : ℕ) (bs line behind : List ℕ) → cut 10 bs ≡ Some (line, behind) → actors_at line ≡ Some (sessions, recoverers) → IfSome keys (λ splits. option_map (λ item. item ∷ entry_items 4 (text_lines behind)) (option_map (λ s. Head s sessions recoverers) keys) ≡ Some (third_items splits (text_lines bs)))
third_given None sessions recoverers bs line behind e counts = tt
third_given (Some splits) sessions recoverers bs line behind e counts =
    ap Some (sym (third_cut splits bs line behind e ∙ ap (λ (o : Option (ℕ × ℕ)). option_map_or (λ counts. Head splits counts.0 counts.1 ∷ entry_items 4 (text_lines behind)) o (Malformed 3 ∷ [])) counts))

pub third_bad : (keys : Option (List (List ℕ))) (given : Option (List Item)) (bs line behind : List ℕ) → cut 10 bs ≡ Some (line, behind) → actors_at line ≡ None → given ≡ Some (Malformed 3 ∷ []) → IfSome keys (λ splits. given ≡ Some (third_items splits (text_lines bs)))
third_bad None given bs line behind e none refused = tt
third_bad (Some splits) given bs line behind e none refused =
    refused ∙ ap Some (sym (third_cut splits bs line behind e ∙ ap (λ (o : Option (ℕ × ℕ)). option_map_or (λ counts. Head splits counts.0 counts.1 ∷ entry_items 4 (text_lines behind)) o (Malformed 3 ∷ [])) none))

pub head_good : (bs line behind : List ℕ) → cut 10 bs ≡ Some (line, behind) → bytes_eq line (codes "journal 1") ≡ true → head_items (text_lines bs) ≡ second_items (text_lines behind)
head_good bs line behind e hit = head_cut bs line behind e ∙ cond_true _ _ _ hit

pub head_bad : (bs line behind : List ℕ) → cut 10 bs ≡ Some (line, behind) → bytes_eq line (codes "journal 1") ≡ false → head_items (text_lines bs) ≡ Malformed 1 ∷ []
head_bad bs line behind e miss = head_cut bs line behind e ∙ cond_false _ _ _ miss

pub second_given : (keys : Option (List (List ℕ))) (given : Option (List Item)) (bs line behind : List ℕ) → cut 10 bs ≡ Some (line, behind) → keys ≡ ranges_at line → is_some (ranges_at line) ≡ true → IfSome keys (λ splits. given ≡ Some (third_items splits (text_lines behind))) → given ≡ Some (second_items (text_lines bs))
second_given None given bs line behind e is some h = absurd (cc (some, ap is_some is))
second_given (Some splits) given bs line behind e is some h =
    h ∙ ap Some (sym (second_cut bs line behind e ∙ ap (λ (o : Option (List (List ℕ))). option_map_or (λ s. third_items s (text_lines behind)) o (Malformed 2 ∷ [])) (sym is)))

pub second_bad : (bs line behind : List ℕ) → cut 10 bs ≡ Some (line, behind) → ranges_at line ≡ None → second_items (text_lines bs) ≡ Malformed 2 ∷ []
second_bad bs line behind e none =
    second_cut bs line behind e ∙ ap (λ (o : Option (List (List ℕ))). option_map_or (λ s. third_items s (text_lines behind)) o (Malformed 2 ∷ [])) none

pub ruleset entry_steps = (entry_cut, entry_end, shorter_cut)

pub ruleset row_steps = (row_cut, row_end, shorter_cut)

pub ruleset head_steps = (head_cut, head_end, second_cut, second_end, third_cut, third_end, shorter_cut)

pub ruleset over_steps = (over_none, over_some)
