-- What is kept of a body while its lines are read.
use Rattle.std.proofs.Common.{◌≡◌, ℕ, List, [], ◌∷◌, ◌++◌, map, Option, None, Some, Result, Ok, Err, option_map, refl, sym, ap, subst, ◌∙◌, append_assoc, Contains, IfSome}
use Rattle.pc_base.specs.declared.entry.Entry.{Entry}
use Rattle.pc_proto.specs.declared.event.Event.{Event}
use Rattle.std.specs.List.{filter_map}
use Rattle.std.proofs.lemmas.List.Elements.{All-push, Contains-append_right, filter_map-append}
use Rattle.pc_lists.proofs.Lists.{contains_head, contains_tail}
use Rattle.pc_read.specs.declared.lines.LineRef.{LineRef}
use Rattle.pc_read.specs.Items.{Item, Head, Line, ReportWord, Row, End, Malformed, head_items}
use Rattle.pc_read.specs.declared.lines.HeadRef.{HeadRef}
use Rattle.pc_verdict.proofs.Shapes.{BeginsFine, head_begins}
use Rattle.pc_read.specs.declared.lines.LineRef.TheVariants as line_refs
use Rattle.pc_read.specs.declared.lines.Malformed.{Malformed as Malformed_line}
use Rattle.pc_read.specs.Left.{TakesNext, own_line}
use Rattle.pc_read.specs.Lines.{own_entry}
use Rattle.pc_read.specs.Texts.{own_splits}
use Rattle.pc_spelling.proofs.Cuts.{map_some}
use Rattle.std.proofs.lemmas.Option.{same_Some}
use Rattle.pc_verdict.specs.declared.body.Body.{Body}
use Rattle.pc_verdict.specs.Reading.{IsBodyOf, IsWithinGrammar, NamesMalformed, entry_in, report_line_in}
use Rattle.pc_verdict.specs.declared.journal.Unread.{Unread}
use Rattle.pc_verdict.specs.declared.journal.Unread.TheVariants as unreads

-- What is kept of the lines that were read, and those that are left.
pub record IsReadSoFar (all left : List Item) (body : Body) : Type 0 where
  pub done : List Item
  pub whole : all ≡ done ++ left
  pub so_far : IsBodyOf done body

-- One more item.
pub body_next : (all before after : List Item) (item : Item) (old new : Body) → IsReadSoFar all before old → before ≡ item ∷ after → IsWithinGrammar item
    → new.entries ≡ old.entries ++ filter_map entry_in (item ∷ []) → map (λ l. l.now) new.report ≡ map (λ l. l.now) old.report ++ filter_map report_line_in (item ∷ [])
    → IsReadSoFar all after new
body_next all before after item old new h e fine entries report = record {
  done = h.done ++ (item ∷ []);
  whole = h.whole ∙ ap (λ (items : List Item). h.done ++ items) e ∙ sym (append_assoc h.done (item ∷ []) after);
  so_far = record {
    entries = entries ∙ ap (λ (es : List (Entry Event)). es ++ filter_map entry_in (item ∷ [])) h.so_far.entries ∙ sym (filter_map-append entry_in h.done (item ∷ []));
    report = report ∙ ap (λ (ls : List (List ℕ)). ls ++ filter_map report_line_in (item ∷ [])) h.so_far.report ∙ sym (filter_map-append report_line_in h.done (item ∷ []));
    each = All-push IsWithinGrammar h.done item h.so_far.each fine;
  };
}

map_fine : {A : Type 0} (f : A → Item) (o : Option A) (item : Item) → ((x : A) → IsWithinGrammar (f x)) → option_map f o ≡ Some item → IsWithinGrammar item
map_fine f o item fine e = let from = map_some f o item e in subst IsWithinGrammar from.2 (fine from.0)

-- What a line stands for is within the grammar.
line_fine : (line : LineRef) (item : Item) → own_line line ≡ Some item → IsWithinGrammar item
line_fine (line_refs.Head head) item e = map_fine (λ splits. Head splits head.sessions head.recoverers) (own_splits head.splits) item (λ splits. tt) e
line_fine (line_refs.Entry entry) item e = map_fine (λ x. Line entry.line x) (own_entry entry) item (λ x. tt) e
line_fine line_refs.ReportWord item e = subst IsWithinGrammar (same_Some ReportWord item e) tt
line_fine (line_refs.Report text) item e = subst IsWithinGrammar (same_Some (Row text.now) item e) tt
line_fine line_refs.End item e = subst IsWithinGrammar (same_Some End item e) tt

given_line : (given : Result LineRef Malformed_line) (line : LineRef) (before after : List Item) → TakesNext (Some given) before after → given ≡ Ok line → option_map (λ item. item ∷ after) (own_line line) ≡ Some before
given_line given line before after takes e = subst (λ (g : Result LineRef Malformed_line). TakesNext (Some g) before after) e takes

-- One more line.
pub line_taken : (all before after : List Item) (given : Result LineRef Malformed_line) (line : LineRef) (old new : Body) → IsReadSoFar all before old → TakesNext (Some given) before after → given ≡ Ok line
    → IfSome (own_line line) (λ item. new.entries ≡ old.entries ++ filter_map entry_in (item ∷ [])) → IfSome (own_line line) (λ item. map (λ l. l.now) new.report ≡ map (λ l. l.now) old.report ++ filter_map report_line_in (item ∷ []))
    → IsReadSoFar all after new
line_taken all before after given line old new h takes e entries report = by (own_line line) refl (given_line given line before after takes e) entries report
  where
    by : (o : Option Item) → own_line line ≡ o → option_map (λ item. item ∷ after) o ≡ Some before → IfSome o (λ item. new.entries ≡ old.entries ++ filter_map entry_in (item ∷ [])) → IfSome o (λ item. map (λ l. l.now) new.report ≡ map (λ l. l.now) old.report ++ filter_map report_line_in (item ∷ [])) → IsReadSoFar all after new
    by None is next more lines = absurd cc
    by (Some item) is next more lines = body_next all before after item old new h (sym (same_Some (item ∷ after) before next)) (line_fine line item is) more lines

-- A malformed line that comes next is among all of them.
pub malformed_among : (all before after : List Item) (line : ℕ) (old : Body) → IsReadSoFar all before old → before ≡ Malformed line ∷ after → Contains all (Malformed line)
malformed_among all before after line old h e =
    subst (λ (items : List Item). Contains items (Malformed line)) (sym (h.whole ∙ ap (λ (items : List Item). h.done ++ items) e)) (Contains-append_right h.done (Malformed line ∷ after) (Malformed line) (contains_head (Malformed line) after))

pub malformed_taken : (all before after : List Item) (given : Result LineRef Malformed_line) (fault : Malformed_line) (old : Body) → IsReadSoFar all before old → TakesNext (Some given) before after → given ≡ Err fault → Contains all (Malformed fault.line)
malformed_taken all before after given fault old h takes e =
    let next : Some (Malformed fault.line ∷ after) ≡ Some before = subst (λ (g : Result LineRef Malformed_line). TakesNext (Some g) before after) e takes in
    malformed_among all before after fault.line old h (sym (same_Some (Malformed fault.line ∷ after) before next))

-- The lines of a text begin with the head or a malformed line.
pub no_end : (lines : List (List ℕ)) (before after : List Item) (given : Option (Result LineRef Malformed_line)) → before ≡ head_items lines → TakesNext given before after → given ≡ None → ⊥
no_end lines before after given are takes e =
    let none = subst (λ (g : Option (Result LineRef Malformed_line)). TakesNext g before after) e takes in
    subst BeginsFine (sym are ∙ none.0) (head_begins lines)

pub no_entry_first : (lines : List (List ℕ)) (before after : List Item) (given : Option (Result LineRef Malformed_line)) (line : LineRef) → before ≡ head_items lines → TakesNext given before after → given ≡ Some (Ok line) → ((head : HeadRef) → line ≡ line_refs.Head head → ⊥) → ⊥
no_entry_first lines before after given line are takes e other = by line (subst (λ (g : Option (Result LineRef Malformed_line)). TakesNext g before after) e takes) other
  where
    begins : (item : Item) → Some (item ∷ after) ≡ Some before → BeginsFine (item ∷ after)
    begins item same = subst BeginsFine (sym (same_Some (item ∷ after) before same ∙ are)) (head_begins lines)

    mapped : {A : Type 0} (f : A → Item) (o : Option A) → option_map (λ item. item ∷ after) (option_map f o) ≡ Some before → (x : A) × BeginsFine (f x ∷ after)
    mapped f None same = absurd cc
    mapped f (Some x) same = (x, begins (f x) same)

    by : (l : LineRef) → option_map (λ item. item ∷ after) (own_line l) ≡ Some before → ((head : HeadRef) → l ≡ line_refs.Head head → ⊥) → ⊥
    by (line_refs.Head head) same never = never head refl
    by (line_refs.Entry entry) same _ = (mapped (λ x. Line entry.line x) (own_entry entry) same).1
    by line_refs.ReportWord same _ = begins ReportWord same
    by (line_refs.Report text) same _ = begins (Row text.now) same
    by line_refs.End same _ = begins End same

-- What is named malformed of the items below the head is so of all of them.
pub names_below : (splits : List (List ℕ)) (sessions recoverers : ℕ) (items rest : List Item) (unread : Unread) → items ≡ Head splits sessions recoverers ∷ rest → NamesMalformed rest unread → NamesMalformed items unread
names_below splits sessions recoverers items rest (unreads.Malformed line) e h =
    subst (λ (is : List Item). Contains is (Malformed line)) (sym e) (contains_tail (Head splits sessions recoverers) rest (Malformed line) h)
names_below splits sessions recoverers items rest unreads.NoMemory e h = h
