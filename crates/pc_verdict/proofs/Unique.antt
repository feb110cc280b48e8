-- At most one verdict is right of a text.
use Rattle.std.proofs.Common.{◌≡◌, ◌≢◌, ◌⊎◌, ℕ, zero, suc, ◌+◌, ◌<◌, ◌≤◌, Bool, true, false, cond, List, [], ◌∷◌, ◌++◌, map, length, take, drop, Option, None, Some, refl, sym, ap, subst, ◌∙◌, inl, inr, arith, codes, bytes_eq, slice_get, Contains}
use Rattle.std.specs.List.{AllByRecursion, filter_map}
use Rattle.std.specs.Option.{option_map_or}
use Rattle.std.proofs.lemmas.List.{drop_more, take-append-drop, take-take}
use Rattle.std.proofs.lemmas.List.Elements.{All-contains, All-from_recursion}
use Rattle.std.proofs.lemmas.Option.{get_or_from_slice_get, same_Some, slice_get_within}
use Rattle.std.proofs.lemmas.Bool.{cases_lt}
use Rattle.pc_base.specs.declared.entry.Entry.{Entry}
use Rattle.pc_check.specs.declared.rule.Rule.{Rule}
use Rattle.pc_check.specs.declared.rule.Rule.TheVariants as rules_broken
use Rattle.pc_check.specs.FirstBroken.{IsFirstBroken, IsNamedFor, head_with}
use Rattle.pc_check.specs.Rules.{rule_of}
use Rattle.pc_history.specs.History.{MayFollow}
use Rattle.pc_journal.specs.Journal.{journal_text}
use Rattle.pc_journal.specs.Side.{◌⏎◌}
use Rattle.pc_lists.proofs.Lists.{contains_head, contains_tail}
use Rattle.pc_proto.specs.declared.event.Event.{Event}
use Rattle.pc_read.proofs.Again.{journals_are_read}
use Rattle.pc_read.proofs.Spelled.{reports_are_read}
use Rattle.pc_read.specs.Items.{Item, Head, Line, ReportWord, Row, End, Malformed, entry_items, head_items, over_items, row_items, second_items, text_lines, third_items}
use Rattle.pc_read.specs.JournalsAreRead.{at_lines}
use Rattle.pc_read.specs.ReadAsSpelled.{rows_then_end}
use Rattle.pc_report.specs.Report.{report_text}
use Rattle.pc_report.specs.ReportOf.{report_of}
use Rattle.pc_spelling.specs.ReadingHead.{actors_at, ranges_at}
use Rattle.pc_spelling.specs.ReadingLines.{entry_at}
use Rattle.pc_spelling.specs.ReadingReport.{is_report_row}
use Rattle.pc_verdict.proofs.ReportText.{lines_then_end, report_made, rows_are}
use Rattle.pc_verdict.proofs.Shapes.{body_items}
use Rattle.pc_verdict.specs.declared.verdict.Verdict.TheVariants as verdicts
use Rattle.pc_verdict.specs.Differing.{IsFirstDifference}
use Rattle.pc_verdict.specs.OneVerdict.{OneVerdictIsRight}
use Rattle.pc_verdict.specs.ReadAs.{IsReadAs, report_lines, row_texts}
use Rattle.pc_verdict.specs.Reading.{IsWithinGrammar, entry_in, row_in}
use Rattle.pc_verdict.specs.Verdicts.{BreaksReport, BreaksRun, IsNoRun, IsRunText}
use Rattle.pc_world.proofs.Prefixes.{run_may}
use Rattle.pc_world.specs.Local.{Head as head_of_run, IsActorOf}
use Rattle.pc_world.specs.Run.{IsRun, protocol}

-- ---- one reading

entries_back : (n : ℕ) (entries : List (Entry Event)) (rows : List (List ℕ)) → filter_map entry_in (body_items n entries rows) ≡ entries
entries_back n [] rows = none rows
  where
    none : (more : List (List ℕ)) → filter_map entry_in (map Row more ++ (End ∷ [])) ≡ []
    none [] = refl
    none (row ∷ more) = none more
entries_back n (entry ∷ entries) rows = ap (λ (es : List (Entry Event)). entry ∷ es) (entries_back (n + 1) entries rows)

rows_back : (n : ℕ) (entries : List (Entry Event)) (rows : List (List ℕ)) → filter_map row_in (body_items n entries rows) ≡ rows
rows_back n [] rows = each rows
  where
    each : (more : List (List ℕ)) → filter_map row_in (map Row more ++ (End ∷ [])) ≡ more
    each [] = refl
    each (row ∷ more) = ap (λ (rs : List (List ℕ)). row ∷ rs) (each more)
rows_back n (entry ∷ entries) rows = rows_back (n + 1) entries rows

-- Two readings of one text have all in common.
record IsSameReading (splits others : List (List ℕ)) (sessions many recoverers more : ℕ) (entries events : List (Entry Event)) (rows texts : List (List ℕ)) : Type 0 where
  keys : splits ≡ others
  first : sessions ≡ many
  second : recoverers ≡ more
  history : entries ≡ events
  report : rows ≡ texts

record IsSameFront (splits others : List (List ℕ)) (sessions many recoverers more : ℕ) (items rest : List Item) : Type 0 where
  keys : splits ≡ others
  first : sessions ≡ many
  second : recoverers ≡ more
  below : items ≡ rest

same_front : (splits others : List (List ℕ)) (sessions many recoverers more : ℕ) (items rest : List Item) → Head splits sessions recoverers ∷ items ≡ Head others many more ∷ rest → IsSameFront splits others sessions many recoverers more items rest
same_front splits others sessions many recoverers more items rest e = record { keys = cc; first = cc; second = cc; below = cc }

same_reading : (bytes : List ℕ) (splits others : List (List ℕ)) (sessions many recoverers more : ℕ) (entries events : List (Entry Event)) (rows texts : List (List ℕ)) → IsReadAs bytes splits sessions recoverers entries rows → IsReadAs bytes others many more events texts → IsSameReading splits others sessions many recoverers more entries events rows texts
same_reading bytes splits others sessions many recoverers more entries events rows texts h k =
    let front = same_front splits others sessions many recoverers more (body_items 4 entries rows) (body_items 4 events texts) (sym h.items ∙ k.items) in
    record {
      keys = front.keys;
      first = front.first;
      second = front.second;
      history = sym (entries_back 4 entries rows) ∙ ap (filter_map entry_in) front.below ∙ entries_back 4 events texts;
      report = sym (rows_back 4 entries rows) ∙ ap (filter_map row_in) front.below ∙ rows_back 4 events texts;
    }

-- A run's text is read as its journal and the rows of its report.
pub run_read : (bytes : List ℕ) (h : IsRunText bytes) → IsReadAs bytes h.splits h.sessions h.recoverers h.entries (row_texts (report_of (head_with h.splits h.sessions h.recoverers) h.entries))
run_read bytes h =
    let report = report_of (head_with h.splits h.sessions h.recoverers) h.entries in
    let rows = row_texts report in
    let text : report_text report ≡ codes "report" ⏎ rows_then_end rows = (report_made report h.report_fits).whole ∙ ap (λ (bs : List ℕ). codes "report" ⏎ bs) (sym (lines_then_end rows)) in
    let journal = journals_are_read h.splits h.sessions h.recoverers h.entries (rows_then_end rows) h.head_fits h.entries_fit in
    record {
      items =
          ap (λ (bs : List ℕ). head_items (text_lines bs)) (h.whole ∙ ap (λ (bs : List ℕ). journal_text h.splits h.sessions h.recoverers h.entries ++ bs) text)
          ∙ journal
          ∙ ap (λ (items : List Item). Head h.splits h.sessions h.recoverers ∷ (at_lines 4 h.entries ++ (ReportWord ∷ items))) (reports_are_read (length h.entries + 5) rows (rows_are report h.report_fits));
    }

-- ---- malformed lines

body_fine : (n : ℕ) (entries : List (Entry Event)) (rows : List (List ℕ)) → AllByRecursion IsWithinGrammar (body_items n entries rows)
body_fine n [] rows = (tt, each rows)
  where
    each : (more : List (List ℕ)) → AllByRecursion IsWithinGrammar (map Row more ++ (End ∷ []))
    each [] = (tt, tt)
    each (row ∷ more) = (tt, each more)
body_fine n (entry ∷ entries) rows = (tt, body_fine (n + 1) entries rows)

never_malformed : {T : Type 0} (bytes : List ℕ) (splits : List (List ℕ)) (sessions recoverers : ℕ) (entries : List (Entry Event)) (rows : List (List ℕ)) (line : ℕ) → IsReadAs bytes splits sessions recoverers entries rows → Contains (head_items (text_lines bytes)) (Malformed line) → T
never_malformed bytes splits sessions recoverers entries rows line h bad =
    let items = Head splits sessions recoverers ∷ body_items 4 entries rows in
    absurd (All-contains IsWithinGrammar items (Malformed line) (All-from_recursion IsWithinGrammar items (tt, body_fine 4 entries rows)) (subst (λ (is : List Item). Contains is (Malformed line)) h.items bad))

-- The line of a malformed item, if it is one.
fault_in : Item → Option ℕ
fault_in (Malformed line) = Some line
fault_in (Head splits sessions recoverers) = None
fault_in (Line line entry) = None
fault_in ReportWord = None
fault_in (Row text) = None
fault_in End = None

-- So many malformed lines.
faults : List Item → ℕ
faults items = length (filter_map fault_in items)

over_faults : (n : ℕ) (lines : List (List ℕ)) → faults (over_items n lines) ≤ 1
unfolding over_items faults fault_in
over_faults n [] = omega arith
over_faults n ([] ∷ []) = omega arith
over_faults n ([] ∷ next ∷ below) = omega arith
over_faults n ((b ∷ bs) ∷ below) = omega arith

row_faults : (ends kept : Bool) (n : ℕ) (line : List ℕ) (over rest : List Item) → faults over ≤ 1 → faults rest ≤ 1 → faults (cond ends (End ∷ over) (cond kept (Row line ∷ rest) (Malformed n ∷ []))) ≤ 1
unfolding faults fault_in
row_faults true kept n line over rest h k = h
row_faults false true n line over rest h k = k
row_faults false false n line over rest h k = omega arith

rows_faults : (n : ℕ) (lines : List (List ℕ)) → faults (row_items n lines) ≤ 1
unfolding row_items faults fault_in
rows_faults n [] = omega arith
rows_faults n (line ∷ []) = omega arith
rows_faults n (line ∷ next ∷ below) =
    row_faults (bytes_eq line (codes "end")) (is_report_row line) n line (over_items (n + 1) (next ∷ below)) (row_items (n + 1) (next ∷ below)) (over_faults (n + 1) (next ∷ below)) (rows_faults (n + 1) (next ∷ below))

entry_faults : (reports : Bool) (n : ℕ) (read : Option (Entry Event)) (rows rest : List Item) → faults rows ≤ 1 → faults rest ≤ 1 → faults (cond reports (ReportWord ∷ rows) (option_map_or (λ entry. Line n entry ∷ rest) read (Malformed n ∷ []))) ≤ 1
unfolding faults fault_in
entry_faults true n read rows rest h k = h
entry_faults false n (Some entry) rows rest h k = k
entry_faults false n None rows rest h k = omega arith

entries_faults : (n : ℕ) (lines : List (List ℕ)) → faults (entry_items n lines) ≤ 1
unfolding entry_items faults fault_in
entries_faults n [] = omega arith
entries_faults n (line ∷ []) = omega arith
entries_faults n (line ∷ next ∷ below) =
    entry_faults (bytes_eq line (codes "report")) n (entry_at line) (row_items (n + 1) (next ∷ below)) (entry_items (n + 1) (next ∷ below)) (rows_faults (n + 1) (next ∷ below)) (entries_faults (n + 1) (next ∷ below))

third_faults : (keys : List (List ℕ)) (lines : List (List ℕ)) → faults (third_items keys lines) ≤ 1
unfolding third_items faults fault_in
third_faults keys [] = omega arith
third_faults keys (line ∷ []) = omega arith
third_faults keys (line ∷ next ∷ below) = by (actors_at line)
  where
    by : (o : Option (ℕ × ℕ)) → faults (option_map_or (λ counts. Head keys counts.0 counts.1 ∷ entry_items 4 (next ∷ below)) o (Malformed 3 ∷ [])) ≤ 1
    by None = omega arith
    by (Some counts) = entries_faults 4 (next ∷ below)

second_faults : (lines : List (List ℕ)) → faults (second_items lines) ≤ 1
unfolding second_items faults fault_in
second_faults [] = omega arith
second_faults (line ∷ []) = omega arith
second_faults (line ∷ next ∷ below) = by (ranges_at line)
  where
    by : (o : Option (List (List ℕ))) → faults (option_map_or (λ keys. third_items keys (next ∷ below)) o (Malformed 2 ∷ [])) ≤ 1
    by None = omega arith
    by (Some keys) = third_faults keys (next ∷ below)

head_faults : (lines : List (List ℕ)) → faults (head_items lines) ≤ 1
unfolding head_items faults fault_in
head_faults [] = omega arith
head_faults (line ∷ []) = omega arith
head_faults (line ∷ next ∷ below) = by (bytes_eq line (codes "journal 1"))
  where
    by : (b : Bool) → faults (cond b (second_items (next ∷ below)) (Malformed 1 ∷ [])) ≤ 1
    by true = second_faults (next ∷ below)
    by false = omega arith

head_or_tail : {X : Type 0} (y : X) (ys : List X) (x : X) → Contains (y ∷ ys) x → (y ≡ x) ⊎ Contains ys x
head_or_tail y ys x (zero, within, is) = inl is
head_or_tail y ys x (suc k, within, is) = inr (k, omega arith, is)

fault_among : (items : List Item) (line : ℕ) → Contains items (Malformed line) → Contains (filter_map fault_in items) line
unfolding fault_in
fault_among [] line (k, within, is) = absurd (omega arith)
fault_among (item ∷ items) line there =
    elim (head_or_tail item items (Malformed line) there) [
      | inl same ↦ subst (λ (x : Item). Contains (filter_map fault_in (x ∷ items)) line) (sym same) (contains_head line (filter_map fault_in items))
      | inr later ↦ behind item (fault_among items line later)
    ]
  where
    behind : (x : Item) → Contains (filter_map fault_in items) line → Contains (filter_map fault_in (x ∷ items)) line
    behind (Malformed other) h = contains_tail other (filter_map fault_in items) line h
    behind (Head splits sessions recoverers) h = h
    behind (Line other entry) h = h
    behind ReportWord h = h
    behind (Row text) h = h
    behind End h = h

only_one : (xs : List ℕ) (x y : ℕ) → length xs ≤ 1 → Contains xs x → Contains xs y → x ≡ y
only_one [] x y few (k, within, is) other = absurd (omega arith)
only_one (z ∷ []) x y few h k = at z x h ∙ sym (at z y k)
  where
    at : (a b : ℕ) → Contains (a ∷ []) b → b ≡ a
    at a b (zero, within, is) = sym is
    at a b (suc j, within, is) = absurd (omega arith)
only_one (z ∷ w ∷ ws) x y few h k = absurd (omega arith)

one_malformed : (lines : List (List ℕ)) (line other : ℕ) → Contains (head_items lines) (Malformed line) → Contains (head_items lines) (Malformed other) → line ≡ other
unfolding faults
one_malformed lines line other h k = only_one (filter_map fault_in (head_items lines)) line other (head_faults lines) (fault_among (head_items lines) line h) (fault_among (head_items lines) other k)

-- ---- the first fault

parted : {X : Type 0} (xs : List X) (place : ℕ) (x : X) → slice_get xs place ≡ Some x → take place xs ++ (x ∷ drop (place + 1) xs) ≡ xs
parted {X} xs place x at =
    let within = slice_get_within xs place x at in
    ap (λ (l : List X). take place xs ++ l) (ap (λ (y : X). y ∷ drop (place + 1) xs) (sym (get_or_from_slice_get xs place x x at)) ∙ sym (drop_more xs place x within)) ∙ take-append-drop place xs

take_get : {X : Type 0} (xs : List X) (m n : ℕ) → m < n → slice_get (take n xs) m ≡ slice_get xs m
take_get [] m zero h = absurd (omega arith)
take_get [] m (suc n) h = refl
take_get (x ∷ xs) m zero h = absurd (omega arith)
take_get (x ∷ xs) zero (suc n) h = refl
take_get (x ∷ xs) (suc m) (suc n) h = take_get xs m n (omega arith)

-- Which of two places comes first.
data Which (m n : ℕ) : Type 0 where
  Before : m < n → Which m n
  Same : m ≡ n → Which m n
  Behind : n < m → Which m n

which : (m n : ℕ) → Which m n
which m n =
    elim (cases_lt m n) [
      | inl less ↦ Before less
      | inr rest ↦ elim (cases_lt n m) [
        | inl more ↦ Behind more
        | inr other ↦ Same (omega arith)
      ]
    ]

named_as : (head : head_of_run) (place : ℕ) (e : Entry Event) (rule : Rule) → IsNamedFor head place e rule
    → ((rule ≡ rules_broken.Step) × (e.step ≢ place)) ⊎ (((rule ≡ rules_broken.Actor) × (e.step ≡ place) × (IsActorOf head e.actor → ⊥)) ⊎ ((e.step ≡ place) × IsActorOf head e.actor × (rule ≡ rule_of e.event)))
named_as head place e rules_broken.Step h = inl (refl, h)
named_as head place e rules_broken.Actor h = inr (inl (refl, h.0, h.1))
named_as head place e rule h = inr (inr h)

named_once : (head : head_of_run) (place : ℕ) (e : Entry Event) (rule other : Rule) → IsNamedFor head place e rule → IsNamedFor head place e other → rule ≡ other
named_once head place e rule other h k =
    elim (named_as head place e rule h) [
      | inl step ↦ elim (named_as head place e other k) [
        | inl again ↦ step.0 ∙ sym again.0
        | inr more ↦ elim more [
          | inl actor ↦ absurd (step.1 actor.1)
          | inr kind ↦ absurd (step.1 kind.0)
        ]
      ]
      | inr rest ↦ elim rest [
        | inl actor ↦ elim (named_as head place e other k) [
          | inl step ↦ absurd (step.1 actor.1)
          | inr more ↦ elim more [
            | inl again ↦ actor.0 ∙ sym again.0
            | inr kind ↦ absurd (actor.2 kind.1)
          ]
        ]
        | inr kind ↦ elim (named_as head place e other k) [
          | inl step ↦ absurd (step.1 kind.0)
          | inr more ↦ elim more [
            | inl actor ↦ absurd (actor.2 kind.1)
            | inr again ↦ kind.2 ∙ sym again.2
          ]
        ]
      ]
    ]

module _ (head : head_of_run) (entries : List (Entry Event)) where
  no_fault : {T : Type 0} (place : ℕ) (rule : Rule) → IsRun head entries → IsFirstBroken head entries place rule → T
  no_fault place rule run broken =
      absurd (broken.broken.wrong (run_may head (take place entries) broken.entry (drop (place + 1) entries) (subst (λ (es : List (Entry Event)). IsRun head es) (sym (parted entries place broken.entry broken.there)) run)))

  not_before : {T : Type 0} (place later : ℕ) (rule other : Rule) → IsFirstBroken head entries place rule → IsFirstBroken head entries later other → place < later → T
  not_before place later rule other h k less =
      let cut = take later entries in
      let there : slice_get cut place ≡ Some h.entry = take_get entries place later less ∙ h.there in
      let same : take place cut ≡ take place entries = take-take place later entries (omega arith) in
      absurd (h.broken.wrong (subst (λ (es : List (Entry Event)). MayFollow (protocol head) es h.entry) same (run_may head (take place cut) h.entry (drop (place + 1) cut) (subst (λ (es : List (Entry Event)). IsRun head es) (sym (parted cut place h.entry there)) k.run))))

  one_rule : (place : ℕ) (rule other : Rule) → IsFirstBroken head entries place rule → IsFirstBroken head entries place other → rule ≡ other
  one_rule place rule other h k =
      let same : h.entry ≡ k.entry = same_Some h.entry k.entry (sym h.there ∙ k.there) in
      named_once head (length (take place entries)) k.entry rule other (subst (λ (e : Entry Event). IsNamedFor head (length (take place entries)) e rule) same h.broken.named) k.broken.named

  one_fault : (place later : ℕ) (rule other : Rule) → IsFirstBroken head entries place rule → IsFirstBroken head entries later other → (place ≡ later) × (rule ≡ other)
  one_fault place later rule other h k =
      elim (which place later) [
        | Before less ↦ not_before place later rule other h k less
        | Same same ↦ (same, one_rule later rule other (subst (λ (p : ℕ). IsFirstBroken head entries p rule) same h) k)
        | Behind more ↦ not_before later place other rule k h more
      ]

-- ---- the first difference

no_earlier : {T : Type 0} (one other : List (List ℕ)) (place later : ℕ) → IsFirstDifference one other place → IsFirstDifference one other later → place < later → T
no_earlier one other place later h k less =
    absurd (h.differ (sym (take_get one place later less) ∙ ap (λ (lines : List (List ℕ)). slice_get lines place) k.same ∙ take_get other place later less))

one_difference : (one other : List (List ℕ)) (place later : ℕ) → IsFirstDifference one other place → IsFirstDifference one other later → place ≡ later
one_difference one other place later h k =
    elim (which place later) [
      | Before less ↦ no_earlier one other place later h k less
      | Same same ↦ same
      | Behind more ↦ no_earlier one other later place k h more
    ]

-- ---- one verdict

run_not_broken : {T : Type 0} (bytes : List ℕ) (line : ℕ) (rule : Rule) → IsRunText bytes → IsNoRun bytes line rule → T
run_not_broken bytes line rule h k =
    let rows = row_texts (report_of (head_with h.splits h.sessions h.recoverers) h.entries) in
    let same = same_reading bytes h.splits k.splits h.sessions k.sessions h.recoverers k.recoverers h.entries k.entries rows k.rows (run_read bytes h) k.read in
    let head : head_with h.splits h.sessions h.recoverers ≡ head_with k.splits k.sessions k.recoverers = λ i. head_with (same.keys i) (same.first i) (same.second i) in
    let run : IsRun (head_with k.splits k.sessions k.recoverers) k.entries = subst (λ (es : List (Entry Event)). IsRun (head_with k.splits k.sessions k.recoverers) es) same.history (subst (λ (hd : head_of_run). IsRun hd h.entries) head h.run) in
    elim k.breaks [
      | inl broken ↦ no_fault (head_with k.splits k.sessions k.recoverers) k.entries broken.place rule run broken.broken
      | inr wrong ↦
          let reported : report_lines k.rows ≡ report_lines (row_texts (report_of (head_with k.splits k.sessions k.recoverers) k.entries)) = ap report_lines (sym same.report) ∙ (λ i. report_lines (row_texts (report_of (head i) (same.history i)))) in
          absurd (wrong.differs.differ (ap (λ (lines : List (List ℕ)). slice_get lines wrong.place) reported))
    ]

one_break : (bytes : List ℕ) (line place : ℕ) (rule other : Rule) → IsNoRun bytes line rule → IsNoRun bytes place other → (line ≡ place) × (rule ≡ other)
one_break bytes line place rule other h k =
    let same = same_reading bytes h.splits k.splits h.sessions k.sessions h.recoverers k.recoverers h.entries k.entries h.rows k.rows h.read k.read in
    let head : head_with h.splits h.sessions h.recoverers ≡ head_with k.splits k.sessions k.recoverers = λ i. head_with (same.keys i) (same.first i) (same.second i) in
    let one = head_with k.splits k.sessions k.recoverers in
    let moved : BreaksRun one k.entries line rule ⊎ BreaksReport one k.entries k.rows line rule =
    subst (λ (rs : List (List ℕ)). BreaksRun one k.entries line rule ⊎ BreaksReport one k.entries rs line rule) same.report
    (subst (λ (es : List (Entry Event)). BreaksRun one es line rule ⊎ BreaksReport one es h.rows line rule) same.history
    (subst (λ (hd : head_of_run). BreaksRun hd h.entries line rule ⊎ BreaksReport hd h.entries h.rows line rule) head h.breaks)) in
    elim moved [
      | inl first ↦ elim k.breaks [
        | inl second ↦
            let is = one_fault one k.entries first.place second.place rule other first.broken second.broken in
            (first.at ∙ ap (λ (n : ℕ). n + 4) is.0 ∙ sym second.at, is.1)
        | inr second ↦ no_fault one k.entries first.place rule second.run first.broken
      ]
      | inr first ↦ elim k.breaks [
        | inl second ↦ no_fault one k.entries second.place other first.run second.broken
        | inr second ↦
            let is = one_difference (report_lines k.rows) (report_lines (row_texts (report_of one k.entries))) first.place second.place first.differs second.differs in
            (first.at ∙ ap (λ (n : ℕ). length k.entries + 4 + n) is ∙ sym second.at, first.named ∙ sym second.named)
      ]
    ]

pub one_verdict_is_right : OneVerdictIsRight
one_verdict_is_right bytes verdicts.Run verdicts.Run h k = refl
one_verdict_is_right bytes verdicts.Run (verdicts.NotRun line rule) h k = run_not_broken bytes line rule h k
one_verdict_is_right bytes verdicts.Run (verdicts.Malformed line) h k =
    never_malformed bytes h.splits h.sessions h.recoverers h.entries (row_texts (report_of (head_with h.splits h.sessions h.recoverers) h.entries)) line (run_read bytes h) k
one_verdict_is_right bytes (verdicts.NotRun line rule) verdicts.Run h k = run_not_broken bytes line rule k h
one_verdict_is_right bytes (verdicts.NotRun line rule) (verdicts.NotRun place other) h k =
    let is = one_break bytes line place rule other h k in
    λ i. verdicts.NotRun (is.0 i) (is.1 i)
one_verdict_is_right bytes (verdicts.NotRun line rule) (verdicts.Malformed place) h k =
    never_malformed bytes h.splits h.sessions h.recoverers h.entries h.rows place h.read k
one_verdict_is_right bytes (verdicts.Malformed line) verdicts.Run h k =
    never_malformed bytes k.splits k.sessions k.recoverers k.entries (row_texts (report_of (head_with k.splits k.sessions k.recoverers) k.entries)) line (run_read bytes k) h
one_verdict_is_right bytes (verdicts.Malformed line) (verdicts.NotRun place other) h k =
    never_malformed bytes k.splits k.sessions k.recoverers k.entries k.rows line k.read h
one_verdict_is_right bytes (verdicts.Malformed line) (verdicts.Malformed place) h k = ap verdicts.Malformed (one_malformed (text_lines bytes) line place h k)
