-- The lines of a journal: those above and those below, and what stands there when the print stops between them.
use Rattle.std.proofs.Common.{◌≡◌, ℕ, List, [], ◌∷◌, ◌++◌, refl, ap, sym, ◌∙◌, ◌+◌, append_assoc, take, drop, length, codes, Result, Ok, Err, OnOk, OnErr}
use Rattle.std.specs.List.{flat_map}
use Rattle.std.proofs.lemmas.List.{take-append-drop}
use Rattle.std.proofs.lemmas.List.Concat.{flat_map-append}
use Rattle.std.proofs.Math.Seq.{take-append_seam, take-append-add}
use Rattle.pc_base.specs.declared.entry.Entry.{Entry}
use Rattle.pc_proto.specs.declared.event.Event.{Event}
use Rattle.pc_journal.specs.AppendsPart.{AppendsPart}
use Rattle.pc_journal.specs.Event.{entry_text, entry_line}
use Rattle.pc_journal.specs.Journal.{actors_text, entries_text, head_then, journal_text, ranges_text}
use Rattle.pc_journal.specs.Side.{◌⏎◌}

-- The lines of the entries are each entry's line, one behind the other.
pub each_line : (entries : List (Entry Event)) → entries_text entries ≡ flat_map entry_line entries
each_line [] = refl
each_line (entry ∷ below) =
    ap (λ more. entry_text entry ++ (10 ∷ more)) (each_line below) ∙ sym (append_assoc (entry_text entry) (10 ∷ []) (flat_map entry_line below))

three_lines : (one two three below : List ℕ) → (one ⏎ two ⏎ three ⏎ []) ++ below ≡ (one ⏎ two ⏎ three ⏎ below)
three_lines one two three below = simp append_assoc

-- What is printed below the head stands behind its three lines.
pub below_head : (splits : List (List ℕ)) (sessions recoverers : ℕ) (below : List ℕ) → head_then splits sessions recoverers [] ++ below ≡ head_then splits sessions recoverers below
below_head splits sessions recoverers below = three_lines (codes "journal 1") (ranges_text splits) (actors_text sessions recoverers) below

-- The first pieces are a first part of all of them.
first_pieces : {A : Type 0} (text : A → List ℕ) (items : List A) (count : ℕ) → take (length (flat_map text (take count items))) (flat_map text items) ≡ flat_map text (take count items)
first_pieces text items count =
    let all : flat_map text items ≡ flat_map text (take count items) ++ flat_map text (drop count items) = ap (flat_map text) (sym (take-append-drop count items)) ∙ flat_map-append text (take count items) (drop count items) in
    ap (take (length (flat_map text (take count items)))) all ∙ take-append_seam (flat_map text (take count items)) (flat_map text (drop count items))

-- Where the first pieces were appended, a part of the whole was.
pub part_from_pieces : {A : Type 0} (text : A → List ℕ) (old new : List ℕ) (items : List A) (count : ℕ) → new ≡ old ++ flat_map text (take count items) → AppendsPart old (flat_map text items) new
part_from_pieces text old new items count appended = record {
  count = length (flat_map text (take count items));
  appended = appended ∙ ap (λ part. old ++ part) (sym (first_pieces text items count));
}

-- Where a first text was appended and then a part of a second, a part of both was.
pub part_behind : (old first second text middle new : List ℕ) → text ≡ first ++ second → middle ≡ old ++ first → AppendsPart middle second new → AppendsPart old text new
part_behind old first second text middle new both begun part = record {
  count = length first + part.count;
  appended = part.appended ∙ ap (λ start. start ++ take part.count second) begun ∙ append_assoc old first (take part.count second) ∙ ap (λ more. old ++ more) (sym (take-append-add first second part.count)) ∙ ap (λ all. old ++ take (length first + part.count) all) (sym both);
}

-- The whole journal is its head and each entry's line.
pub whole_journal : (splits : List (List ℕ)) (sessions recoverers : ℕ) (entries : List (Entry Event)) → journal_text splits sessions recoverers entries ≡ head_then splits sessions recoverers [] ++ flat_map entry_line entries
whole_journal splits sessions recoverers entries = ap (head_then splits sessions recoverers) (each_line entries) ∙ sym (below_head splits sessions recoverers (flat_map entry_line entries))

-- Where a first text and then a second were appended, the whole of both was.
pub whole_behind : (old first second text middle new : List ℕ) → text ≡ first ++ second → middle ≡ old ++ first → new ≡ middle ++ second → new ≡ old ++ text
whole_behind old first second text middle new both begun done =
    done ∙ ap (λ start. start ++ second) begun ∙ append_assoc old first second ∙ ap (λ more. old ++ more) (sym both)

pub on_ok : {T E P Q : Type 0} (result : Result T E) → (P → Q) → OnOk result P → OnOk result Q
on_ok (Ok done) follows holds = follows holds
on_ok (Err fault) follows holds = holds

pub on_err : {T E P Q : Type 0} (result : Result T E) → (P → Q) → OnErr result P → OnErr result Q
on_err (Ok done) follows holds = holds
on_err (Err fault) follows holds = follows holds
