-- The head of a journal is read as it was printed, and its text spells one head and one history.
use Rattle.std.proofs.Common.{◌≡◌, ℕ, ◌+◌, Bool, true, cond, ◌&&◌, ◌==◌, List, [], ◌∷◌, ◌++◌, map, length, Option, None, Some, option_map, option_and_then, refl, sym, ap, subst, ◌∙◌, append_assoc, codes}
use Rattle.std.specs.Fmt.{decimal}
use Rattle.std.specs.List.{list_all, slice_split, join_with_byte, AllByRecursion}
use Rattle.std.proofs.lemmas.Bool.{eq-eqb, eqb-true}
use Rattle.std.proofs.lemmas.List.Elements.{All-from_recursion, recursion_from_All}
use Rattle.std.proofs.lemmas.List.Splits.{join_with_byte-slice_split}
use Rattle.std.proofs.lemmas.Option.{cond_some, none-some, same_Some}
use Rattle.pc_base.specs.declared.entry.Entry.{Entry}
use Rattle.pc_base.specs.Key.{IsKey}
use Rattle.pc_base.specs.Rising.{keys_rise}
use Rattle.pc_proto.specs.declared.event.Event.{Event}
use Rattle.pc_journal.specs.Event.{entry_text}
use Rattle.pc_journal.specs.Journal.{actors_text, entries_text, ranges_text, splits_text}
use Rattle.pc_journal.specs.Optional.{key_text}
use Rattle.pc_journal.specs.Side.{◌⏎◌}
use Rattle.pc_spelling.specs.Bytes.{is_line_byte, is_part_byte}
use Rattle.pc_spelling.specs.Cutting.{cut, each_at, ◌&◌}
use Rattle.pc_journal.specs.Fits.{Fits32, FitsEntry}
use Rattle.pc_journal.specs.FitsJournal.{FitsEntries, FitsHead, FitsSplits}
use Rattle.pc_spelling.specs.OneToOne.{IsOneToOne, journal_then}
use Rattle.pc_spelling.specs.Reading.{number32_at, key_at}
use Rattle.pc_spelling.specs.ReadingHead.{splits_at, ranges_at, actors_at}
use Rattle.pc_spelling.specs.ReadingLines.{entry_at}
use Rattle.pc_spelling.proofs.ByteClasses.{both_true}
use Rattle.pc_spelling.proofs.Cuts.{then_some, split_at}
use Rattle.pc_spelling.proofs.Events.{entry}
use Rattle.pc_spelling.proofs.LineParts.{◌⊗◌, number, name, last}
use Rattle.pc_spelling.proofs.Names.{key}
use Rattle.pc_spelling.proofs.Numbers.{number32}
use Rattle.pc_spelling.proofs.Readings.{IsReading, each_again, each_takes, joined_bytes, split_joined, texts_bytes}
use Rattle.pc_spelling.proofs.Words.{words_take, or_word_takes, no_word_takes, behind_takes}

-- ---- the second line

splits_again : (splits : List (List ℕ)) → FitsSplits splits → splits_at (slice_split (λ b. b == 32) (splits_text splits)) ≡ Some splits
unfolding splits_at
splits_again splits h =
    let pieces = split_joined is_part_byte 32 refl (decimal (length splits + 1)) (map key_text splits) ((number number32).bytes (length splits + 1) h.count) (texts_bytes (name key) splits (recursion_from_All IsKey splits h.keys)) in
    ap splits_at pieces ∙ rw (number32.again (length splits + 1) h.count, each_again key splits (recursion_from_All IsKey splits h.keys), eq-eqb (length splits + 1) (length splits + 1) refl, h.rise) refl

splits_take : (parts : List (List ℕ)) (splits : List (List ℕ)) → splits_at parts ≡ Some splits → (parts ≡ decimal (length splits + 1) ∷ map key_text splits) × FitsSplits splits
unfolding splits_at
splits_take [] splits e = absurd cc
splits_take (count ∷ keys) splits e =
    let a = then_some (λ (n : ℕ). option_and_then (λ (ks : List (List ℕ)). cond (n == length ks + 1 && keys_rise ks) (Some ks) None) (each_at key_at keys)) (number32_at count) splits e in
    let b = then_some (λ (ks : List (List ℕ)). cond (a.0 == length ks + 1 && keys_rise ks) (Some ks) None) (each_at key_at keys) splits a.2 in
    let test = cond_some (a.0 == length b.0 + 1 && keys_rise b.0) b.0 splits b.2 in
    let tests = both_true (a.0 == length b.0 + 1) (keys_rise b.0) test.0 in
    let first = number32.takes count a.0 a.1 in
    let rest = each_takes key keys b.0 b.1 in
    let same : a.0 ≡ length b.0 + 1 = eqb-true a.0 (length b.0 + 1) tests.0 in
    subst (λ (ks : List (List ℕ)). (count ∷ keys ≡ decimal (length ks + 1) ∷ map key_text ks) × FitsSplits ks) test.1 (
      ap (λ (c : List ℕ). c ∷ keys) (first.0 ∙ ap decimal same) ∙ ap (λ (ks : List (List ℕ)). decimal (length b.0 + 1) ∷ ks) rest.0,
      record { keys = All-from_recursion IsKey b.0 rest.1; rise = tests.1; count = subst Fits32 same first.1 },
    )

line_of : (splits : List (List ℕ)) → FitsSplits splits → list_all is_line_byte (splits_text splits) ≡ true
line_of splits h =
    joined_bytes is_line_byte 32 refl (decimal (length splits + 1)) (map key_text splits) ((last (number number32)).bytes (length splits + 1) h.count) (texts_bytes (last (name key)) splits (recursion_from_All IsKey splits h.keys))

splits_reading : IsReading is_line_byte FitsSplits splits_text (λ bs. splits_at (slice_split (λ b. b == 32) bs))
splits_reading = record {
  again = splits_again;
  takes = λ bs splits e.
      let taken = splits_take (slice_split (λ b. b == 32) bs) splits e in
      (sym (join_with_byte-slice_split 32 bs) ∙ ap (join_with_byte 32) taken.0, taken.1);
  bytes = line_of;
}

ranges_again : (splits : List (List ℕ)) → FitsSplits splits → ranges_at (ranges_text splits) ≡ Some splits
unfolding ranges_at cut
ranges_again splits h = ap (option_map (λ (ks : List (List ℕ)). ks)) (splits_reading.again splits h)

ranges_take : (bs : List ℕ) (splits : List (List ℕ)) → ranges_at bs ≡ Some splits → (bs ≡ ranges_text splits) × FitsSplits splits
unfolding ranges_at
ranges_take = words_take 32 (or_word_takes (behind_takes (λ splits. splits) (λ p h. (h, refl)) splits_reading) no_word_takes)

pub ranges : IsReading is_line_byte FitsSplits ranges_text ranges_at
ranges = record { again = ranges_again; takes = ranges_take; bytes = λ splits h. splits_reading.bytes splits h }

-- ---- the third line

counts : IsReading is_line_byte (λ (p : ℕ × ℕ). Fits32 p.0 × Fits32 p.1) (λ (p : ℕ × ℕ). decimal p.0 ++ (32 ∷ decimal p.1)) (number32_at & number32_at)
counts = number number32 ⊗ last (number number32)

actors_again : (p : ℕ × ℕ) → Fits32 p.0 × Fits32 p.1 → actors_at (actors_text p.0 p.1) ≡ Some p
unfolding actors_at cut
actors_again p h = ap (option_map (λ (q : ℕ × ℕ). q)) (counts.again p h)

actors_take : (bs : List ℕ) (p : ℕ × ℕ) → actors_at bs ≡ Some p → (bs ≡ actors_text p.0 p.1) × (Fits32 p.0 × Fits32 p.1)
unfolding actors_at
actors_take = words_take 32 (or_word_takes (behind_takes (λ counts. counts) (λ p h. (h, refl)) counts) no_word_takes)

pub actors : IsReading is_line_byte (λ (p : ℕ × ℕ). Fits32 p.0 × Fits32 p.1) (λ (p : ℕ × ℕ). actors_text p.0 p.1) actors_at
actors = record { again = actors_again; takes = actors_take; bytes = λ p h. counts.bytes p h }

-- ---- lines

-- The lines of a text, cut at its line feeds; the last one is what stands behind the last of them.
pub lines_of : List ℕ → List (List ℕ)
lines_of bs = slice_split (λ b. b == 10) bs

line_first : (line below : List ℕ) → list_all is_line_byte line ≡ true → lines_of (line ⏎ below) ≡ line ∷ lines_of below
unfolding lines_of
line_first line below h = split_at is_line_byte 10 refl line below h

entry_lines : (entries : List (Entry Event)) (below : List ℕ) → AllByRecursion FitsEntry entries → lines_of (entries_text entries ++ below) ≡ map entry_text entries ++ lines_of below
entry_lines [] below h = refl
entry_lines (e ∷ es) below h =
    ap lines_of (append_assoc (entry_text e) (10 ∷ entries_text es) below) ∙ line_first (entry_text e) (entries_text es ++ below) (entry.bytes e h.0) ∙ ap (λ (ls : List (List ℕ)). entry_text e ∷ ls) (entry_lines es below h.1)

three_lines : (one two three entries below : List ℕ) → (one ⏎ two ⏎ three ⏎ entries) ++ below ≡ (one ⏎ two ⏎ three ⏎ (entries ++ below))
three_lines one two three entries below = simp append_assoc

-- The lines of a journal, of the line `report`, and of what stands below it.
journal_lines : List (List ℕ) → ℕ → ℕ → List (Entry Event) → List ℕ → List (List ℕ)
journal_lines splits sessions recoverers entries below =
    codes "journal 1" ∷ ranges_text splits ∷ actors_text sessions recoverers ∷ (map entry_text entries ++ (codes "report" ∷ lines_of below))

lines_of_journal : (splits : List (List ℕ)) (sessions recoverers : ℕ) (entries : List (Entry Event)) (below : List ℕ) → FitsHead splits sessions recoverers → FitsEntries entries → lines_of (journal_then splits sessions recoverers entries below) ≡ journal_lines splits sessions recoverers entries below
unfolding journal_lines
lines_of_journal splits sessions recoverers entries below h hs =
    let report = codes "report" ⏎ below in
    let rest : lines_of (entries_text entries ++ report) ≡ map entry_text entries ++ (codes "report" ∷ lines_of below) = entry_lines entries report (recursion_from_All FitsEntry entries hs) ∙ ap (λ (ls : List (List ℕ)). map entry_text entries ++ ls) (line_first (codes "report") below refl) in
    let third = line_first (actors_text sessions recoverers) (entries_text entries ++ report) (actors.bytes (sessions, recoverers) (h.first_count, h.second_count)) ∙ ap (λ (ls : List (List ℕ)). actors_text sessions recoverers ∷ ls) rest in
    let second = line_first (ranges_text splits) (actors_text sessions recoverers ⏎ (entries_text entries ++ report)) (ranges.bytes splits h.cuts) ∙ ap (λ (ls : List (List ℕ)). ranges_text splits ∷ ls) third in
    ap lines_of (three_lines (codes "journal 1") (ranges_text splits) (actors_text sessions recoverers) (entries_text entries) report)
    ∙ line_first (codes "journal 1") (ranges_text splits ⏎ actors_text sessions recoverers ⏎ (entries_text entries ++ report)) refl
    ∙ ap (λ (ls : List (List ℕ)). codes "journal 1" ∷ ls) second

-- ---- one text, one history

-- What has a reading is the one thing that its text spells.
same_value : {A : Type 0} {class : ℕ → Bool} {P : A → Type 0} {text : A → List ℕ} {read : List ℕ → Option A} → IsReading class P text read → (x y : A) → P x → P y → text x ≡ text y → x ≡ y
same_value {A} {class} {P} {text} {read} r x y p q e = same_Some x y (sym (r.again x p) ∙ ap read e ∙ r.again y q)

same_head : {A : Type 0} (x y : A) (xs ys : List A) → x ∷ xs ≡ y ∷ ys → (x ≡ y) × (xs ≡ ys)
same_head x y xs ys e = (cc, cc)

no_entry : entry_at (codes "report") ≡ None
unfolding entry_at cut
no_entry = refl

pub not_report : (e : Entry Event) → FitsEntry e → entry_text e ≡ codes "report" → ⊥
not_report e h same = none-some e (sym no_entry ∙ ap entry_at (sym same) ∙ entry.again e h)

same_history : (entries events : List (Entry Event)) (below under : List (List ℕ)) → AllByRecursion FitsEntry entries → AllByRecursion FitsEntry events → map entry_text entries ++ (codes "report" ∷ below) ≡ map entry_text events ++ (codes "report" ∷ under) → (entries ≡ events) × (below ≡ under)
same_history [] [] below under h k e = (refl, (same_head (codes "report") (codes "report") below under e).1)
same_history [] (d ∷ ds) below under h k e =
    absurd (not_report d k.0 (sym (same_head (codes "report") (entry_text d) below (map entry_text ds ++ (codes "report" ∷ under)) e).0))
same_history (d ∷ ds) [] below under h k e =
    absurd (not_report d h.0 (same_head (entry_text d) (codes "report") (map entry_text ds ++ (codes "report" ∷ below)) under e).0)
same_history (d ∷ ds) (c ∷ cs) below under h k e =
    let parts = same_head (entry_text d) (entry_text c) (map entry_text ds ++ (codes "report" ∷ below)) (map entry_text cs ++ (codes "report" ∷ under)) e in
    let first = same_value entry d c h.0 k.0 parts.0 in
    let rest = same_history ds cs below under h.1 k.1 parts.1 in
    (ap (λ (x : Entry Event). x ∷ ds) first ∙ ap (λ (xs : List (Entry Event)). c ∷ xs) rest.0, rest.1)

same_text : (one other : List ℕ) → lines_of one ≡ lines_of other → one ≡ other
unfolding lines_of
same_text one other e = sym (join_with_byte-slice_split 10 one) ∙ ap (join_with_byte 10) e ∙ join_with_byte-slice_split 10 other

pub one_to_one : IsOneToOne
unfolding journal_lines
one_to_one splits others sessions many recoverers more entries events below under h k hs ks e =
    let lines : journal_lines splits sessions recoverers entries below ≡ journal_lines others many more events under = sym (lines_of_journal splits sessions recoverers entries below h hs) ∙ ap lines_of e ∙ lines_of_journal others many more events under k ks in
    let one = same_head (codes "journal 1") (codes "journal 1") (ranges_text splits ∷ actors_text sessions recoverers ∷ (map entry_text entries ++ (codes "report" ∷ lines_of below))) (ranges_text others ∷ actors_text many more ∷ (map entry_text events ++ (codes "report" ∷ lines_of under))) lines in
    let two = same_head (ranges_text splits) (ranges_text others) (actors_text sessions recoverers ∷ (map entry_text entries ++ (codes "report" ∷ lines_of below))) (actors_text many more ∷ (map entry_text events ++ (codes "report" ∷ lines_of under))) one.1 in
    let three = same_head (actors_text sessions recoverers) (actors_text many more) (map entry_text entries ++ (codes "report" ∷ lines_of below)) (map entry_text events ++ (codes "report" ∷ lines_of under)) two.1 in
    let counts : ◌≡◌ {A = ℕ × ℕ} (sessions, recoverers) (many, more) = same_value actors (sessions, recoverers) (many, more) (h.first_count, h.second_count) (k.first_count, k.second_count) three.0 in
    let history = same_history entries events (lines_of below) (lines_of under) (recursion_from_All FitsEntry entries hs) (recursion_from_All FitsEntry events ks) three.1 in
    record {
      same_splits = same_value ranges splits others h.cuts k.cuts two.0;
      same_sessions = ap (λ (p : ℕ × ℕ). p.0) counts;
      same_recoverers = ap (λ (p : ℕ × ℕ). p.1) counts;
      same_entries = history.0;
      same_below = same_text below under history.1;
    }

-- The lines of a journal, with those below the line `report`.
pub journal_pieces : (splits : List (List ℕ)) (sessions recoverers : ℕ) (entries : List (Entry Event)) (below : List ℕ) → FitsHead splits sessions recoverers → FitsEntries entries → slice_split (λ b. b == 10) (journal_then splits sessions recoverers entries below) ≡ codes "journal 1" ∷ ranges_text splits ∷ actors_text sessions recoverers ∷ (map entry_text entries ++ (codes "report" ∷ slice_split (λ b. b == 10) below))
unfolding lines_of journal_lines
journal_pieces splits sessions recoverers entries below h hs = lines_of_journal splits sessions recoverers entries below h hs
