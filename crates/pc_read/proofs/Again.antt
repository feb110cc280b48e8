-- What was printed of a journal is read again.
use Rattle.std.proofs.Common.{◌≡◌, ℕ, ◌+◌, Bool, false, cond, List, [], ◌∷◌, ◌++◌, map, length, Option, Some, refl, sym, ap, ◌∙◌, arith, codes, bytes_eq}
use Rattle.std.specs.List.{AllByRecursion}
use Rattle.std.specs.Option.{option_map_or}
use Rattle.std.proofs.lemmas.Bool.{false_from_ne_true}
use Rattle.std.proofs.lemmas.List.Elements.{recursion_from_All}
use Rattle.std.proofs.lemmas.Slice.Eq.{bytes_eq-Decides}
use Rattle.pc_base.specs.declared.entry.Entry.{Entry}
use Rattle.pc_proto.specs.declared.event.Event.{Event}
use Rattle.pc_journal.specs.Event.{entry_text}
use Rattle.pc_journal.specs.Fits.{FitsEntry}
use Rattle.pc_journal.specs.Journal.{actors_text, ranges_text}
use Rattle.pc_spelling.specs.ReadingHead.{actors_at, ranges_at}
use Rattle.pc_spelling.specs.ReadingLines.{entry_at}
use Rattle.pc_spelling.proofs.Events.{entry}
use Rattle.pc_spelling.proofs.Journal.{actors, journal_pieces, not_report, ranges}
use Rattle.pc_read.specs.Items.{Item, Head, Line, ReportWord, Malformed, entry_items, head_items, row_items, second_items, text_lines, third_items}
use Rattle.pc_read.specs.JournalsAreRead.{JournalsAreRead, at_lines}
use Rattle.pc_read.proofs.Steps.{has_piece}

-- Some lines of which there is a first.
record HasFirst (lines : List (List ℕ)) : Type 0 where
  first : List ℕ
  others : List (List ℕ)
  is : lines ≡ first ∷ others

some_entries : (entries : List (Entry Event)) (below : List (List ℕ)) → HasFirst (map entry_text entries ++ (codes "report" ∷ below))
some_entries [] below = record { first = codes "report"; others = below; is = refl }
some_entries (e ∷ es) below = record { first = entry_text e; others = map entry_text es ++ (codes "report" ∷ below); is = refl }

report_read : (n : ℕ) (lines : List (List ℕ)) → HasFirst lines → entry_items n (codes "report" ∷ lines) ≡ ReportWord ∷ row_items (n + 1) lines
unfolding entry_items
report_read n lines more = ap (λ (ls : List (List ℕ)). entry_items n (codes "report" ∷ ls)) more.is ∙ ap (λ (ls : List (List ℕ)). ReportWord ∷ row_items (n + 1) ls) (sym more.is)

one_entry : (n : ℕ) (e : Entry Event) (first : List ℕ) (others : List (List ℕ)) → FitsEntry e → entry_items n (entry_text e ∷ first ∷ others) ≡ Line n e ∷ entry_items (n + 1) (first ∷ others)
unfolding entry_items
one_entry n e first others h =
    let other : bytes_eq (entry_text e) (codes "report") ≡ false = false_from_ne_true (bytes_eq (entry_text e) (codes "report")) (λ hit. not_report e h ((bytes_eq-Decides (entry_text e) (codes "report")).0 hit)) in
    ap (λ (b : Bool). cond b (ReportWord ∷ row_items (n + 1) (first ∷ others)) (option_map_or (λ x. Line n x ∷ entry_items (n + 1) (first ∷ others)) (entry_at (entry_text e)) (Malformed n ∷ []))) other
    ∙ ap (λ (o : Option (Entry Event)). option_map_or (λ x. Line n x ∷ entry_items (n + 1) (first ∷ others)) o (Malformed n ∷ [])) (entry.again e h)

entry_read : (n : ℕ) (e : Entry Event) (lines : List (List ℕ)) → HasFirst lines → FitsEntry e → entry_items n (entry_text e ∷ lines) ≡ Line n e ∷ entry_items (n + 1) lines
entry_read n e lines more h =
    ap (λ (ls : List (List ℕ)). entry_items n (entry_text e ∷ ls)) more.is ∙ one_entry n e more.first more.others h ∙ ap (λ (ls : List (List ℕ)). Line n e ∷ entry_items (n + 1) ls) (sym more.is)

entries_read : (n at : ℕ) (entries : List (Entry Event)) (lines : List (List ℕ)) → HasFirst lines → AllByRecursion FitsEntry entries → at ≡ n + length entries + 1 → entry_items n (map entry_text entries ++ (codes "report" ∷ lines)) ≡ at_lines n entries ++ (ReportWord ∷ row_items at lines)
entries_read n at [] lines more h line =
    let same : n + 1 ≡ at = omega arith in
    report_read n lines more ∙ ap (λ (k : ℕ). ReportWord ∷ row_items k lines) same
entries_read n at (e ∷ es) lines more h line =
    entry_read n e (map entry_text es ++ (codes "report" ∷ lines)) (some_entries es lines) h.0 ∙ ap (λ (items : List Item). Line n e ∷ items) (entries_read (n + 1) at es lines more h.1 (omega arith))

third_read : (splits : List (List ℕ)) (sessions recoverers : ℕ) (lines : List (List ℕ)) → HasFirst lines → actors_at (actors_text sessions recoverers) ≡ Some (sessions, recoverers) → third_items splits (actors_text sessions recoverers ∷ lines) ≡ Head splits sessions recoverers ∷ entry_items 4 lines
unfolding third_items
third_read splits sessions recoverers lines more counts =
    ap (λ (ls : List (List ℕ)). third_items splits (actors_text sessions recoverers ∷ ls)) more.is
    ∙ ap (λ (o : Option (ℕ × ℕ)). option_map_or (λ c. Head splits c.0 c.1 ∷ entry_items 4 (more.first ∷ more.others)) o (Malformed 3 ∷ [])) counts
    ∙ ap (λ (ls : List (List ℕ)). Head splits sessions recoverers ∷ entry_items 4 ls) (sym more.is)

second_read : (splits : List (List ℕ)) (third : List ℕ) (lines : List (List ℕ)) → ranges_at (ranges_text splits) ≡ Some splits → second_items (ranges_text splits ∷ third ∷ lines) ≡ third_items splits (third ∷ lines)
unfolding second_items
second_read splits third lines keys =
    ap (λ (o : Option (List (List ℕ))). option_map_or (λ s. third_items s (third ∷ lines)) o (Malformed 2 ∷ [])) keys

first_read : (second : List ℕ) (lines : List (List ℕ)) → head_items (codes "journal 1" ∷ second ∷ lines) ≡ second_items (second ∷ lines)
unfolding head_items
first_read second lines = refl

pub journals_are_read : JournalsAreRead
journals_are_read splits sessions recoverers entries below h hs =
    let rest = map entry_text entries ++ (codes "report" ∷ text_lines below) in
    let tail = has_piece below in
    let more : HasFirst (text_lines below) = record { first = tail.first; others = tail.others; is = tail.is } in
    ap head_items (journal_pieces splits sessions recoverers entries below h hs)
    ∙ first_read (ranges_text splits) (actors_text sessions recoverers ∷ rest)
    ∙ second_read splits (actors_text sessions recoverers) rest (ranges.again splits h.cuts)
    ∙ third_read splits sessions recoverers rest (some_entries entries (text_lines below)) (actors.again (sessions, recoverers) (h.first_count, h.second_count))
    ∙ ap (λ (items : List Item). Head splits sessions recoverers ∷ items) (entries_read 4 (length entries + 5) entries (text_lines below) more (recursion_from_All FitsEntry entries hs) (omega arith))
