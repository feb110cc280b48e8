-- Views, goals, findings and fates: what was printed is read again, and what is read is spelled so.
use Rattle.std.proofs.Common.{◌≡◌, ℕ, true, List, Some, option_map, refl, ap}
use Rattle.std.specs.List.{list_all}
use Rattle.pc_proto.specs.declared.view.View.{View}
use Rattle.pc_proto.specs.declared.view.View.TheVariants as views
use Rattle.pc_proto.specs.declared.fate.Goal.{Goal}
use Rattle.pc_proto.specs.declared.fate.Goal.TheVariants as goals
use Rattle.pc_proto.specs.declared.fate.Finding.{Finding}
use Rattle.pc_proto.specs.declared.fate.Finding.TheVariants as findings
use Rattle.pc_proto.specs.declared.fate.Fate.{Fate}
use Rattle.pc_proto.specs.declared.fate.Fate.TheVariants as fates
use Rattle.pc_journal.specs.View.{view_text, goal_text, finding_text, fate_text}
use Rattle.pc_spelling.specs.Cutting.{cut}
use Rattle.pc_journal.specs.Fits.{FitsView, FitsGoal, FitsFinding, FitsFate}
use Rattle.pc_spelling.specs.ReadingLines.{view_at, goal_at, finding_at, fate_at}
use Rattle.pc_spelling.specs.Bytes.{is_line_byte}
use Rattle.pc_spelling.proofs.LineParts.{◌⊗◌, number, name, fields, last}
use Rattle.pc_spelling.proofs.Readings.{IsReading}
use Rattle.pc_spelling.proofs.Words.{words_take, or_word_takes, no_word_takes, alone_takes, behind_takes}
use Rattle.pc_spelling.proofs.Numbers.{number32, ts}
use Rattle.pc_spelling.proofs.Names.{key, who}
use Rattle.pc_spelling.proofs.Parts.{writes, keys, why}

-- ---- what a record or mark says

view_again : (x : View) → FitsView x → view_at (view_text x) ≡ Some x
unfolding view_at cut
view_again views.Nothing h = refl
view_again (views.Pending e t) h = ap (option_map (λ p. views.Pending p.0 p.1)) ((number number32 ⊗ last (name ts)).again (e, t) h)
view_again (views.Staging e t ws) h = ap (option_map (λ p. views.Staging p.0 p.1.0 p.1.1)) ((number number32 ⊗ name ts ⊗ last writes).again (e, (t, ws)) h)
view_again (views.Committed e t ks) h = ap (option_map (λ p. views.Committed p.0 p.1.0 p.1.1)) ((number number32 ⊗ name ts ⊗ last keys).again (e, (t, ks)) h)
view_again (views.Aborted e w ks) h = ap (option_map (λ p. views.Aborted p.0 p.1.0 p.1.1)) ((number number32 ⊗ fields why ⊗ last keys).again (e, (w, ks)) h)

view_takes : (bs : List ℕ) (x : View) → view_at bs ≡ Some x → (bs ≡ view_text x) × FitsView x
unfolding view_at
view_takes = words_take 32
    (or_word_takes (alone_takes views.Nothing tt refl)
    (or_word_takes (behind_takes (λ p. views.Pending p.0 p.1) (λ p h. (h, refl)) (number number32 ⊗ last (name ts)))
    (or_word_takes (behind_takes (λ p. views.Staging p.0 p.1.0 p.1.1) (λ p h. (h, refl)) (number number32 ⊗ name ts ⊗ last writes))
    (or_word_takes (behind_takes (λ p. views.Committed p.0 p.1.0 p.1.1) (λ p h. (h, refl)) (number number32 ⊗ name ts ⊗ last keys))
    (or_word_takes (behind_takes (λ p. views.Aborted p.0 p.1.0 p.1.1) (λ p h. (h, refl)) (number number32 ⊗ fields why ⊗ last keys))
    no_word_takes)))))

view_bytes : (x : View) → FitsView x → list_all is_line_byte (view_text x) ≡ true
view_bytes views.Nothing h = refl
view_bytes (views.Pending e t) h = (number number32 ⊗ last (name ts)).bytes (e, t) h
view_bytes (views.Staging e t ws) h = (number number32 ⊗ name ts ⊗ last writes).bytes (e, (t, ws)) h
view_bytes (views.Committed e t ks) h = (number number32 ⊗ name ts ⊗ last keys).bytes (e, (t, ks)) h
view_bytes (views.Aborted e w ks) h = (number number32 ⊗ fields why ⊗ last keys).bytes (e, (w, ks)) h

pub view : IsReading is_line_byte FitsView view_text view_at
view = record { again = view_again; takes = view_takes; bytes = view_bytes }

-- ---- what a push asks for

goal_again : (x : Goal) → FitsGoal x → goal_at (goal_text x) ≡ Some x
unfolding goal_at cut
goal_again goals.Abort h = refl
goal_again (goals.Move t) h = ap (option_map goals.Move) ((last (name ts)).again t h)

goal_takes : (bs : List ℕ) (x : Goal) → goal_at bs ≡ Some x → (bs ≡ goal_text x) × FitsGoal x
unfolding goal_at
goal_takes = words_take 32
    (or_word_takes (alone_takes goals.Abort tt refl)
    (or_word_takes (behind_takes goals.Move (λ p h. (h, refl)) (last (name ts)))
    no_word_takes))

goal_bytes : (x : Goal) → FitsGoal x → list_all is_line_byte (goal_text x) ≡ true
goal_bytes goals.Abort h = refl
goal_bytes (goals.Move t) h = (last (name ts)).bytes t h

pub goal : IsReading is_line_byte FitsGoal goal_text goal_at
goal = record { again = goal_again; takes = goal_takes; bytes = goal_bytes }

-- ---- what a recovery found

finding_again : (x : Finding) → FitsFinding x → finding_at (finding_text x) ≡ Some x
unfolding finding_at cut
finding_again findings.All h = refl
finding_again (findings.Missing k w) h = ap (option_map (λ p. findings.Missing p.0 p.1)) ((name key ⊗ last (name who)).again (k, w) h)

finding_takes : (bs : List ℕ) (x : Finding) → finding_at bs ≡ Some x → (bs ≡ finding_text x) × FitsFinding x
unfolding finding_at
finding_takes = words_take 32
    (or_word_takes (alone_takes findings.All tt refl)
    (or_word_takes (behind_takes (λ p. findings.Missing p.0 p.1) (λ p h. (h, refl)) (name key ⊗ last (name who)))
    no_word_takes))

finding_bytes : (x : Finding) → FitsFinding x → list_all is_line_byte (finding_text x) ≡ true
finding_bytes findings.All h = refl
finding_bytes (findings.Missing k w) h = (name key ⊗ last (name who)).bytes (k, w) h

pub finding : IsReading is_line_byte FitsFinding finding_text finding_at
finding = record { again = finding_again; takes = finding_takes; bytes = finding_bytes }

-- ---- what becomes of an intent

fate_again : (x : Fate) → FitsFate x → fate_at (fate_text x) ≡ Some x
unfolding fate_at cut
fate_again (fates.Committed e t) h = ap (option_map (λ p. fates.Committed p.0 p.1)) ((number number32 ⊗ last (name ts)).again (e, t) h)
fate_again fates.Aborted h = refl
fate_again (fates.Pending t) h = ap (option_map fates.Pending) ((last (name ts)).again t h)

fate_takes : (bs : List ℕ) (x : Fate) → fate_at bs ≡ Some x → (bs ≡ fate_text x) × FitsFate x
unfolding fate_at
fate_takes = words_take 32
    (or_word_takes (behind_takes (λ p. fates.Committed p.0 p.1) (λ p h. (h, refl)) (number number32 ⊗ last (name ts)))
    (or_word_takes (alone_takes fates.Aborted tt refl)
    (or_word_takes (behind_takes fates.Pending (λ p h. (h, refl)) (last (name ts)))
    no_word_takes)))

fate_bytes : (x : Fate) → FitsFate x → list_all is_line_byte (fate_text x) ≡ true
fate_bytes (fates.Committed e t) h = (number number32 ⊗ last (name ts)).bytes (e, t) h
fate_bytes fates.Aborted h = refl
fate_bytes (fates.Pending t) h = (last (name ts)).bytes t h

pub fate : IsReading is_line_byte FitsFate fate_text fate_at
fate = record { again = fate_again; takes = fate_takes; bytes = fate_bytes }
