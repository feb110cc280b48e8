-- What was read of a text, and what is found of it.
use Rattle.std.proofs.Common.{◌≡◌, ℕ, ◌+◌, ◌^◌, ◌<◌, ◌≤◌, List, [], ◌∷◌, ◌++◌, map, length, Option, None, Some, option_map, refl, sym, ap, subst, ◌∙◌, inr, arith, codes}
use Rattle.std.specs.List.{AllByRecursion, filter_map}
use Rattle.std.proofs.lemmas.List.{append_cancel_right, length-map}
use Rattle.std.proofs.lemmas.List.Elements.{recursion_from_All}
use Rattle.std.proofs.lemmas.List.Splits.{length-slice_split}
use Rattle.std.proofs.lemmas.List.Sums.{count_by-le-length}
use Rattle.std.proofs.Common.{◌==◌, Bor}
use Rattle.pc_base.specs.declared.entry.Entry.{Entry}
use Rattle.pc_check.specs.declared.rule.Rule.TheVariants as rules_broken
use Rattle.pc_check.specs.FirstBroken.{head_with}
use Rattle.pc_journal.specs.Journal.{journal_text}
use Rattle.pc_journal.specs.Side.{◌⏎◌}
use Rattle.pc_proto.specs.declared.event.Event.{Event}
use Rattle.pc_read.proofs.Spelled.{journals_are_spelled, reports_are_spelled}
use Rattle.pc_read.specs.Items.{Item, Head, Row, End, entry_items, head_items, text_lines}
use Rattle.pc_read.specs.ReadAsSpelled.{rows_then_end}
use Rattle.pc_report.specs.declared.rows.Report.{Report}
use Rattle.pc_report.specs.Report.{report_text}
use Rattle.pc_report.specs.ReportOf.{report_of}
use Rattle.pc_report.specs.Spelled.{FitsReport}
use Rattle.pc_verdict.proofs.ReportText.{lines_then_end, report_made}
use Rattle.pc_verdict.proofs.Shapes.{body_items, body_lines, entries_count, entries_shape, head_rest, parts_count}
use Rattle.pc_verdict.specs.declared.journal.Journal.{Journal}
use Rattle.pc_verdict.specs.declared.verdict.Verdict.TheVariants as verdicts
use Rattle.pc_verdict.specs.Differing.{IsFirstDifference, IsMadeOf}
use Rattle.pc_verdict.specs.ReadAs.{report_lines, row_texts}
use Rattle.pc_verdict.specs.Reading.{IsBodyOf, IsReadFrom, IsWithinGrammar, entry_in, report_line_in, row_in}
use Rattle.pc_verdict.specs.Verdicts.{IsVerdictOf}
use Rattle.pc_world.specs.Local.{Head as head_of_run}
use Rattle.pc_world.specs.Run.{IsRun}

-- ---- what was read

-- The head that was given is the first item.
pub head_first : (o : Option (List (List ℕ))) (keys : List (List ℕ)) (sessions recoverers : ℕ) (items rest : List Item) → o ≡ Some keys → option_map (λ item. item ∷ rest) (option_map (λ splits. Head splits sessions recoverers) o) ≡ Some items → items ≡ Head keys sessions recoverers ∷ rest
head_first None keys sessions recoverers items rest is given = absurd cc
head_first (Some some) keys sessions recoverers items rest is given = cc

module _ (bytes : List ℕ) (j : Journal) (rest : List Item) (e : head_items (text_lines bytes) ≡ Head j.splits j.sessions j.recoverers ∷ rest) (body : IsBodyOf rest j.body) where
  rows : List (List ℕ)
  rows = filter_map row_in rest

  rest_shape : (below : List (List ℕ)) → rest ≡ entry_items 4 below → rest ≡ body_items 4 (filter_map entry_in rest) (filter_map row_in rest)
  rest_shape below is =
      let fine : AllByRecursion IsWithinGrammar (entry_items 4 below) = subst (AllByRecursion IsWithinGrammar) is (recursion_from_All IsWithinGrammar rest body.each) in
      subst (λ (items : List Item). items ≡ body_items 4 (filter_map entry_in items) (filter_map row_in items)) (sym is) (entries_shape 4 below fine)

  line_count : length (text_lines bytes) ≤ length bytes + 1
  line_count = omega (arith, length-slice_split (λ (b : ℕ). b == 10) bytes, count_by-le-length (λ (b : ℕ). b == 10) bytes)

  pub read_from : length bytes < 2 ^ 63 → IsReadFrom bytes j
  read_from small =
      let head = head_rest j.splits j.sessions j.recoverers rest (text_lines bytes) e in
      let shape = rest_shape head.below head.entries in
      let few : length head.below ≤ length (text_lines bytes) = head.fewer in
      let count : length rest ≤ length head.below + 1 = omega (arith, ap length head.entries, entries_count 4 head.below) in
      let entries : length j.body.entries ≡ length (filter_map entry_in rest) = ap length body.entries in
      let report : length j.body.report ≡ length (filter_map report_line_in rest) = sym (length-map j.body.report (λ line. line.now)) ∙ ap length body.report in
      record {
        rows = filter_map row_in rest;
        read = record { items = e ∙ ap (λ (items : List Item). Head j.splits j.sessions j.recoverers ∷ items) (shape ∙ ap (λ (es : List (Entry Event)). body_items 4 es (filter_map row_in rest)) (sym body.entries)) };
        lines = body.report ∙ ap (filter_map report_line_in) shape ∙ body_lines 4 (filter_map entry_in rest) (filter_map row_in rest);
        room = omega (arith, line_count, parts_count rest, few, count, entries, report);
      }

-- ---- what is found

module _ (bytes : List ℕ) (j : Journal) (h : IsReadFrom bytes j) where
  module _ (run : IsRun (head_with j.splits j.sessions j.recoverers) j.body.entries) (report : Report) (is : report ≡ report_of (head_with j.splits j.sessions j.recoverers) j.body.entries) where
    pub found_differing : (place : ℕ) → IsFirstDifference (map (λ line. line.now) j.body.report) (report_lines (row_texts report)) place → IsVerdictOf bytes (verdicts.NotRun (length j.body.entries + 4 + place) rules_broken.Report)
    found_differing place differs = record {
      splits = j.splits;
      sessions = j.sessions;
      recoverers = j.recoverers;
      entries = j.body.entries;
      rows = h.rows;
      read = h.read;
      breaks = inr (record {
        run = run;
        place = place;
        differs =
            subst (λ (lines : List (List ℕ)). IsFirstDifference lines (report_lines (row_texts (report_of (head_with j.splits j.sessions j.recoverers) j.body.entries))) place) h.lines
            (subst (λ (r : Report). IsFirstDifference (map (λ line. line.now) j.body.report) (report_lines (row_texts r)) place) is differs);
        at = refl;
        named = refl;
      });
    }

    same_rows : report_lines h.rows ≡ report_lines (row_texts report) → h.rows ≡ row_texts report
    same_rows e = append_cancel_right h.rows (row_texts report) (codes "end" ∷ []) cc

    pub found_run : FitsReport report → map (λ line. line.now) j.body.report ≡ report_lines (row_texts report) → IsVerdictOf bytes verdicts.Run
    found_run fits same =
        let rows : h.rows ≡ row_texts report = same_rows (sym h.lines ∙ same) in
        let spelled = journals_are_spelled bytes j.splits j.sessions j.recoverers j.body.entries (map Row h.rows ++ (End ∷ [])) h.read.items in
        let below : spelled.below ≡ rows_then_end h.rows = reports_are_spelled (length j.body.entries + 5) h.rows spelled.below (sym spelled.read_below) in
        let text : codes "report" ⏎ spelled.below ≡ report_text report =
        ap (λ (bs : List ℕ). codes "report" ⏎ bs) (below ∙ ap rows_then_end rows ∙ lines_then_end (row_texts report)) ∙ sym (report_made report fits).whole in
        record {
          splits = j.splits;
          sessions = j.sessions;
          recoverers = j.recoverers;
          entries = j.body.entries;
          run = run;
          head_fits = spelled.fitting_head;
          entries_fit = spelled.fitting_entries;
          report_fits = subst FitsReport is fits;
          whole = spelled.text ∙ ap (λ (bs : List ℕ). journal_text j.splits j.sessions j.recoverers j.body.entries ++ bs) (text ∙ ap report_text is);
        }

-- The splits of a journal that was read are few.
pub few_splits : (j : Journal) (bytes : List ℕ) → IsReadFrom bytes j → length j.splits + 1 < 2 ^ 32
few_splits j bytes h = (journals_are_spelled bytes j.splits j.sessions j.recoverers j.body.entries (map Row h.rows ++ (End ∷ [])) h.read.items).fitting_head.cuts.count

-- What was reported and printed of the journal.
pub record IsPrintedOf (j : Journal) (entries : List (Entry Event)) (report : Report) (text : List ℕ) (lines : List (Bor (List ℕ))) : Type 0 where
  pub same : entries ≡ j.body.entries
  pub reported : (head : head_of_run) → head.splits ≡ j.splits → report ≡ report_of head entries
  pub fits : FitsReport report
  pub printed : text ≡ report_text report
  pub given : lines ≡ j.body.report

module _ (j : Journal) (entries : List (Entry Event)) (report : Report) (text : List ℕ) (lines : List (Bor (List ℕ))) (p : IsPrintedOf j entries report text lines) (run : IsRun (head_with j.splits j.sessions j.recoverers) j.body.entries) (bytes : List ℕ) (h : IsReadFrom bytes j) where
  is_report : report ≡ report_of (head_with j.splits j.sessions j.recoverers) j.body.entries
  is_report = p.reported (head_with j.splits j.sessions j.recoverers) refl ∙ ap (report_of (head_with j.splits j.sessions j.recoverers)) p.same

  is_made : IsMadeOf (report_lines (row_texts report)) text
  is_made = subst (IsMadeOf (report_lines (row_texts report))) (sym p.printed) (report_made report p.fits)

  pub differing_found : (place : ℕ) → ((wanted : List (List ℕ)) → IsMadeOf wanted text → IsFirstDifference (map (λ line. line.now) lines) wanted place) → IsVerdictOf bytes (verdicts.NotRun (length entries + 4 + place) rules_broken.Report)
  differing_found place differs =
      let first = subst (λ (ls : List (Bor (List ℕ))). IsFirstDifference (map (λ line. line.now) ls) (report_lines (row_texts report)) place) p.given (differs (report_lines (row_texts report)) is_made) in
      subst (λ (es : List (Entry Event)). IsVerdictOf bytes (verdicts.NotRun (length es + 4 + place) rules_broken.Report)) (sym p.same) (found_differing bytes j h run report is_report place first)

  pub run_found : ((wanted : List (List ℕ)) → IsMadeOf wanted text → map (λ line. line.now) lines ≡ wanted) → IsVerdictOf bytes verdicts.Run
  run_found same =
      found_run bytes j h run report is_report p.fits (ap (λ (ls : List (Bor (List ℕ))). map (λ line. line.now) ls) (sym p.given) ∙ same (report_lines (row_texts report)) is_made)
