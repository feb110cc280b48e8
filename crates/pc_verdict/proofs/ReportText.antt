-- The text of a report that has a spelling is made of lines that may stand in a report.
use Rattle.std.proofs.Common.{◌≡◌, ℕ, Bool, true, false, ◌||◌, ◌==◌, List, [], ◌∷◌, ◌++◌, map, Option, None, Some, is_some, refl, sym, ap, ◌∙◌, append_assoc, codes, bytes_eq, All}
use Rattle.std.specs.List.{AllByRecursion, flat_map, list_all, slice_split}
use Rattle.std.proofs.lemmas.List.Concat.{flat_map-append}
use Rattle.std.proofs.lemmas.List.Elements.{All-append, All-cons, All-map, All-nil, All-weaker, recursion_from_All}
use Rattle.std.proofs.lemmas.List.Folds.{flat_map-map}
use Rattle.pc_journal.specs.Lists.{listed}
use Rattle.pc_journal.specs.Names.{id_text}
use Rattle.pc_journal.specs.Number.{ts_text}
use Rattle.pc_journal.specs.Side.{◌⏎◌, ◌·◌}
use Rattle.pc_journal.specs.Why.{why_text}
use Rattle.pc_read.specs.ReadAsSpelled.{IsRow, rows_then_end}
use Rattle.pc_report.specs.declared.rows.CommittedRow.{CommittedRow}
use Rattle.pc_report.specs.declared.rows.Ending.{Ending}
use Rattle.pc_report.specs.declared.rows.Ending.TheVariants as endings
use Rattle.pc_report.specs.declared.rows.OtherRow.{OtherRow}
use Rattle.pc_report.specs.declared.rows.Report.{Report}
use Rattle.pc_report.specs.Report.{committed_text, ending_text, last_write_text, map_text, other_text, report_text, rows_text}
use Rattle.pc_report.specs.Spelled.{FitsCommittedRow, FitsEnding, FitsLastWrite, FitsMapRow, FitsOtherRow, FitsReport}
use Rattle.pc_spelling.proofs.ByteClasses.{all_joined, all_within, keys_in_origins, keys_in_values, parts_in_lines, true_both, values_in_parts, within_both}
use Rattle.pc_spelling.proofs.Cuts.{cut_at, cut_last_at, cut_none}
use Rattle.pc_spelling.proofs.Names.{key, value_bytes}
use Rattle.pc_spelling.proofs.Numbers.{id, ts}
use Rattle.pc_spelling.proofs.Parts.{why}
use Rattle.pc_spelling.proofs.Readings.{joined_bytes, split_joined}
use Rattle.pc_spelling.specs.Bytes.{is_line_byte, is_origin_byte, is_part_byte}
use Rattle.pc_spelling.specs.Cutting.{both}
use Rattle.pc_spelling.specs.Reading.{id_at, key_at, ts_at, value_bytes_at, why_at}
use Rattle.pc_spelling.specs.ReadingReport.{are_last_writes, are_two, is_last_write, is_record_word, is_report_row, is_row_of}
use Rattle.pc_base.specs.Key.{is_key_byte}
use Rattle.pc_base.specs.Value.{is_value_byte}
use Rattle.pc_verdict.specs.Differing.{IsMadeOf, lines_text}
use Rattle.pc_verdict.specs.ReadAs.{report_lines, row_texts}

-- ---- the last writes of a committed transaction

value_write : (k v : List ℕ) → list_all is_key_byte k ≡ true → is_some (key_at k) ≡ true → is_some (value_bytes_at v) ≡ true → is_last_write (k ++ (61 ∷ v)) ≡ true
unfolding is_last_write
value_write k v bytes read value = rw (cut_at is_key_byte 61 refl k v bytes, read, value) refl

deletion : (k : List ℕ) → list_all is_key_byte k ≡ true → is_some (key_at k) ≡ true → is_last_write (k ++ (45 ∷ [])) ≡ true
unfolding is_last_write
deletion k bytes read =
    let own : list_all is_origin_byte (k ++ (45 ∷ [])) ≡ true = all_joined is_origin_byte k (45 ∷ []) (all_within keys_in_origins k bytes) refl in
    rw (cut_none is_origin_byte 61 refl (k ++ (45 ∷ [])) own, cut_last_at is_key_byte 45 refl k [] refl, read) refl

a_write : (write : List ℕ × Option (List ℕ)) → FitsLastWrite write → is_last_write (last_write_text write) ≡ true
a_write (k, None) h = deletion k (key.bytes k h.key) (ap is_some (key.again k h.key))
a_write (k, Some v) h = value_write k v (key.bytes k h.key) (ap is_some (key.again k h.key)) (ap is_some (value_bytes.again v h.value))

write_bytes : (write : List ℕ × Option (List ℕ)) → FitsLastWrite write → list_all is_value_byte (last_write_text write) ≡ true
write_bytes (k, None) h = all_joined is_value_byte k (45 ∷ []) (all_within keys_in_values k (key.bytes k h.key)) refl
write_bytes (k, Some v) h = all_joined is_value_byte k (61 ∷ v) (all_within keys_in_values k (key.bytes k h.key)) (value_bytes.bytes v h.value)

all_write_bytes : (writes : List (List ℕ × Option (List ℕ))) → AllByRecursion FitsLastWrite writes → AllByRecursion (λ (bs : List ℕ). list_all is_value_byte bs ≡ true) (map last_write_text writes)
all_write_bytes [] h = tt
all_write_bytes (write ∷ writes) h = (write_bytes write h.0, all_write_bytes writes h.1)

all_writes : (writes : List (List ℕ × Option (List ℕ))) → AllByRecursion FitsLastWrite writes → list_all is_last_write (map last_write_text writes) ≡ true
all_writes [] h = refl
all_writes (write ∷ writes) h = true_both (is_last_write (last_write_text write)) (list_all is_last_write (map last_write_text writes)) (a_write write h.0) (all_writes writes h.1)

or_true : (a b : Bool) → b ≡ true → (a || b) ≡ true
or_true true b h = refl
or_true false b h = h

true_or : (a b : Bool) → a ≡ true → (a || b) ≡ true
true_or true b h = refl
true_or false b h = absurd cc

writes_listed : (writes : List (List ℕ × Option (List ℕ))) → AllByRecursion FitsLastWrite writes → are_last_writes (listed last_write_text writes) ≡ true
writes_listed [] h = refl
writes_listed (write ∷ writes) h =
    let bytes = all_write_bytes (write ∷ writes) h in
    or_true (bytes_eq (listed last_write_text (write ∷ writes)) (codes "-")) (list_all is_last_write (slice_split (λ b. b == 44) (listed last_write_text (write ∷ writes))))
    (ap (list_all is_last_write) (split_joined is_value_byte 44 refl (last_write_text write) (map last_write_text writes) bytes.0 bytes.1) ∙ all_writes (write ∷ writes) h)

listed_bytes : (writes : List (List ℕ × Option (List ℕ))) → AllByRecursion FitsLastWrite writes → list_all is_part_byte (listed last_write_text writes) ≡ true
listed_bytes [] h = refl
listed_bytes (write ∷ writes) h =
    joined_bytes is_part_byte 44 refl (last_write_text write) (map last_write_text writes) (all_within values_in_parts (last_write_text write) (write_bytes write h.0)) (each writes h.1)
  where
    each : (more : List (List ℕ × Option (List ℕ))) → AllByRecursion FitsLastWrite more → AllByRecursion (λ (bs : List ℕ). list_all is_part_byte bs ≡ true) (map last_write_text more)
    each [] k = tt
    each (one ∷ more) k = (all_within values_in_parts (last_write_text one) (write_bytes one k.0), each more k.1)

-- ---- the parts of a line

two_parts : (one other : List ℕ → Bool) (a b : List ℕ) → list_all is_part_byte a ≡ true → one a ≡ true → other b ≡ true → are_two one other (a · b) ≡ true
two_parts one other a b bytes first second = rw (cut_at is_part_byte 32 refl a b bytes, first, second) refl

line_bytes : (a b : List ℕ) → list_all is_part_byte a ≡ true → list_all is_line_byte b ≡ true → list_all is_line_byte (a · b) ≡ true
line_bytes a b first second = all_joined is_line_byte a (32 ∷ b) (all_within parts_in_lines a first) second

row_with : (word rest : List ℕ) → list_all is_part_byte word ≡ true → is_row_of word rest ≡ true → is_report_row (word · rest) ≡ true
unfolding is_report_row
row_with word rest bytes fine = rw (cut_at is_part_byte 32 refl word rest bytes) fine

name_bytes : (bs : List ℕ) → list_all is_key_byte bs ≡ true → list_all is_part_byte bs ≡ true
name_bytes bs h = all_within (within_both keys_in_values values_in_parts) bs h

-- ---- the rows

committed_is : (row : CommittedRow) → FitsCommittedRow row → IsRow (committed_text row)
committed_is row h =
    let writes = recursion_from_All FitsLastWrite row.writes h.1.1 in
    let first = name_bytes (id_text row.id) (id.bytes row.id h.0) in
    let second = name_bytes (ts_text row.ts) (ts.bytes row.ts h.1.0) in
    let parts : are_two (λ bs. is_some (id_at bs)) (λ bs. are_two (λ t. is_some (ts_at t)) are_last_writes bs) (id_text row.id · ts_text row.ts · listed last_write_text row.writes) ≡ true =
    two_parts (λ bs. is_some (id_at bs)) (λ bs. are_two (λ t. is_some (ts_at t)) are_last_writes bs) (id_text row.id) (ts_text row.ts · listed last_write_text row.writes) first (ap is_some (id.again row.id h.0))
    (two_parts (λ t. is_some (ts_at t)) are_last_writes (ts_text row.ts) (listed last_write_text row.writes) second (ap is_some (ts.again row.ts h.1.0)) (writes_listed row.writes writes)) in
    record {
      allowed = row_with (codes "committed") (id_text row.id · ts_text row.ts · listed last_write_text row.writes) refl (true_or _ _ parts);
      line = line_bytes (codes "committed") (id_text row.id · ts_text row.ts · listed last_write_text row.writes) refl
          (line_bytes (id_text row.id) (ts_text row.ts · listed last_write_text row.writes) first (line_bytes (ts_text row.ts) (listed last_write_text row.writes) second (all_within parts_in_lines (listed last_write_text row.writes) (listed_bytes row.writes writes))));
    }

open_is : (row_id : List ℕ) (word : List ℕ) → list_all is_part_byte row_id ≡ true → is_some (id_at row_id) ≡ true → is_record_word word ≡ true → list_all is_part_byte word ≡ true → IsRow (codes "open" · row_id · word)
open_is name word bytes read fine other = record {
  allowed = row_with (codes "open") (name · word) refl (true_or _ _ (two_parts (λ bs. is_some (id_at bs)) is_record_word name word bytes read fine));
  line = line_bytes (codes "open") (name · word) refl (line_bytes name word bytes (all_within parts_in_lines word other));
}

other_is : (row : OtherRow) → FitsOtherRow row → IsRow (other_text row)
other_is row h = by row.ending h.1
  where
    bytes : list_all is_part_byte (id_text row.id) ≡ true
    bytes = name_bytes (id_text row.id) (id.bytes row.id h.0)

    read : is_some (id_at (id_text row.id)) ≡ true
    read = ap is_some (id.again row.id h.0)

    by : (ending : Ending) → FitsEnding ending → IsRow (ending_text (id_text row.id) ending)
    by (endings.Aborted cause) k =
        let part = all_within values_in_parts (why_text cause) (why.bytes cause k) in
        record {
          allowed = row_with (codes "aborted") (id_text row.id · why_text cause) refl (true_or _ _ (two_parts (λ bs. is_some (id_at bs)) (λ bs. is_some (why_at bs)) (id_text row.id) (why_text cause) bytes read (ap is_some (why.again cause k))));
          line = line_bytes (codes "aborted") (id_text row.id · why_text cause) refl (line_bytes (id_text row.id) (why_text cause) bytes (all_within parts_in_lines (why_text cause) part));
        }
    by endings.NoRecord k = open_is (id_text row.id) (codes "none") bytes read refl refl
    by endings.Pending k = open_is (id_text row.id) (codes "pending") bytes read refl refl
    by endings.Staging k = open_is (id_text row.id) (codes "staging") bytes read refl refl

map_is : (row : List ℕ × List ℕ) → FitsMapRow row → IsRow (map_text row)
map_is (k, v) h =
    let read : is_some (both 61 key_at value_bytes_at (k ++ (61 ∷ v))) ≡ true = rw (cut_at is_key_byte 61 refl k v (key.bytes k h.0), key.again k h.0, value_bytes.again v h.1) refl in
    record {
      allowed = row_with (codes "map") (k ++ (61 ∷ v)) refl read;
      line = line_bytes (codes "map") (k ++ (61 ∷ v)) refl (all_within parts_in_lines (k ++ (61 ∷ v)) (all_joined is_part_byte k (61 ∷ v) (name_bytes k (key.bytes k h.0)) (all_within values_in_parts v (value_bytes.bytes v h.1))));
    }

-- Each row's text may stand in a report.
pub rows_are : (report : Report) → FitsReport report → All IsRow (row_texts report)
rows_are report h =
    All-append IsRow (map committed_text report.committed) (map other_text report.others ++ map map_text report.map)
    (All-map IsRow committed_text report.committed (All-weaker FitsCommittedRow (λ row. IsRow (committed_text row)) committed_is report.committed h.committed))
    (All-append IsRow (map other_text report.others) (map map_text report.map)
    (All-map IsRow other_text report.others (All-weaker FitsOtherRow (λ row. IsRow (other_text row)) other_is report.others h.others))
    (All-map IsRow map_text report.map (All-weaker FitsMapRow (λ row. IsRow (map_text row)) map_is report.map h.map)))

-- ---- the text

abbrev with_feed : List ℕ → List ℕ
with_feed line = line ⏎ []

rows_as_lines : (report : Report) → rows_text report ≡ lines_text (row_texts report)
rows_as_lines report =
    let one = map committed_text report.committed in
    let two = map other_text report.others in
    let three = map map_text report.map in
    sym (
    flat_map-append with_feed one (two ++ three)
    ∙ ap (λ (bs : List ℕ). flat_map with_feed one ++ bs) (flat_map-append with_feed two three)
    ∙ (λ i. flat_map-map with_feed committed_text report.committed i ++ (flat_map-map with_feed other_text report.others i ++ flat_map-map with_feed map_text report.map i))
    )

-- The lines of a report, one below the other.
pub lines_then_end : (rows : List (List ℕ)) → rows_then_end rows ≡ lines_text (rows ++ (codes "end" ∷ []))
lines_then_end [] = refl
lines_then_end (row ∷ rows) = ap (λ (bs : List ℕ). row ⏎ bs) (lines_then_end rows) ∙ sym (append_assoc row (10 ∷ []) (lines_text (rows ++ (codes "end" ∷ []))))

pub report_made : (report : Report) → FitsReport report → IsMadeOf (report_lines (row_texts report)) (report_text report)
report_made report h = record {
  whole =
      ap (λ (bs : List ℕ). codes "report" ⏎ (bs ++ (codes "end" ⏎ []))) (rows_as_lines report)
      ∙ ap (λ (bs : List ℕ). codes "report" ⏎ bs) (sym (flat_map-append with_feed (row_texts report) (codes "end" ∷ [])));
  each =
      All-cons (λ (line : List ℕ). list_all is_line_byte line ≡ true) (codes "report") (row_texts report ++ (codes "end" ∷ [])) refl
      (All-append (λ (line : List ℕ). list_all is_line_byte line ≡ true) (row_texts report) (codes "end" ∷ [])
      (All-weaker IsRow (λ (line : List ℕ). list_all is_line_byte line ≡ true) (λ line row. row.line) (row_texts report) (rows_are report h))
      (All-cons (λ (line : List ℕ). list_all is_line_byte line ≡ true) (codes "end") [] refl (All-nil (λ (line : List ℕ). list_all is_line_byte line ≡ true))));
}
