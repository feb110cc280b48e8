-- Answers: what was printed is read again, and what is read is spelled so.
use Rattle.std.proofs.Common.{◌≡◌, ℕ, true, List, Some, option_map, refl, ap}
use Rattle.std.specs.List.{list_all}
use Rattle.pc_proto.specs.declared.answer.Answer.{Answer}
use Rattle.pc_proto.specs.declared.answer.Answer.TheVariants as answers
use Rattle.pc_journal.specs.Answer.{answer_text}
use Rattle.pc_spelling.specs.Cutting.{cut}
use Rattle.pc_journal.specs.Fits.{FitsAnswer}
use Rattle.pc_spelling.specs.ReadingLines.{answer_at}
use Rattle.pc_spelling.specs.Bytes.{is_line_byte}
use Rattle.pc_spelling.proofs.LineParts.{◌⊗◌, number, name, fields, last}
use Rattle.pc_spelling.proofs.Readings.{IsReading}
use Rattle.pc_spelling.proofs.Words.{words_take, or_word_takes, no_word_takes, alone_takes, behind_takes}
use Rattle.pc_spelling.proofs.Numbers.{number32, number64, ts, id}
use Rattle.pc_spelling.proofs.Names.{key, maybe_value}
use Rattle.pc_spelling.proofs.Parts.{told_rows, why}

-- ---- answers

answer_again : (x : Answer) → FitsAnswer x → answer_at (answer_text x) ≡ Some x
unfolding answer_at cut
answer_again (answers.Begun i t) h = ap (option_map (λ p. answers.Begun p.0 p.1)) ((name id ⊗ last (name ts)).again (i, t) h)
answer_again (answers.Value v) h = ap (option_map answers.Value) ((last (fields maybe_value)).again v h)
answer_again (answers.Rows rs) h = ap (option_map answers.Rows) ((last told_rows).again rs h)
answer_again answers.Written h = refl
answer_again (answers.Committed i t) h = ap (option_map (λ p. answers.Committed p.0 p.1)) ((name id ⊗ last (name ts)).again (i, t) h)
answer_again (answers.RolledBack i w) h = ap (option_map (λ p. answers.RolledBack p.0 p.1)) ((name id ⊗ last (fields why)).again (i, w) h)
answer_again answers.Learnt h = refl
answer_again answers.NotYet h = refl
answer_again answers.Done h = refl
answer_again (answers.Blocked i) h = ap (option_map answers.Blocked) ((last (name id)).again i h)
answer_again (answers.Unavailable n) h = ap (option_map answers.Unavailable) ((last (number number32)).again n h)
answer_again (answers.Aborted w) h = ap (option_map answers.Aborted) ((last (fields why)).again w h)
answer_again (answers.Restart k t) h = ap (option_map (λ p. answers.Restart p.0 p.1)) ((name key ⊗ last (name ts)).again (k, t) h)
answer_again (answers.Unknown i) h = ap (option_map answers.Unknown) ((last (name id)).again i h)
answer_again (answers.Moved t) h = ap (option_map answers.Moved) ((last (name ts)).again t h)
answer_again (answers.Clock n) h = ap (option_map answers.Clock) ((last (number number64)).again n h)
answer_again answers.NoTxn h = refl

answer_takes : (bs : List ℕ) (x : Answer) → answer_at bs ≡ Some x → (bs ≡ answer_text x) × FitsAnswer x
unfolding answer_at
answer_takes = words_take 32
    (or_word_takes (behind_takes (λ p. answers.Begun p.0 p.1) (λ p h. (h, refl)) (name id ⊗ last (name ts)))
    (or_word_takes (behind_takes answers.Value (λ p h. (h, refl)) (last (fields maybe_value)))
    (or_word_takes (behind_takes answers.Rows (λ p h. (h, refl)) (last told_rows))
    (or_word_takes (alone_takes answers.Written tt refl)
    (or_word_takes (behind_takes (λ p. answers.Committed p.0 p.1) (λ p h. (h, refl)) (name id ⊗ last (name ts)))
    (or_word_takes (behind_takes (λ p. answers.RolledBack p.0 p.1) (λ p h. (h, refl)) (name id ⊗ last (fields why)))
    (or_word_takes (alone_takes answers.Learnt tt refl)
    (or_word_takes (alone_takes answers.NotYet tt refl)
    (or_word_takes (alone_takes answers.Done tt refl)
    (or_word_takes (behind_takes answers.Blocked (λ p h. (h, refl)) (last (name id)))
    (or_word_takes (behind_takes answers.Unavailable (λ p h. (h, refl)) (last (number number32)))
    (or_word_takes (behind_takes answers.Aborted (λ p h. (h, refl)) (last (fields why)))
    (or_word_takes (behind_takes (λ p. answers.Restart p.0 p.1) (λ p h. (h, refl)) (name key ⊗ last (name ts)))
    (or_word_takes (behind_takes answers.Unknown (λ p h. (h, refl)) (last (name id)))
    (or_word_takes (behind_takes answers.Moved (λ p h. (h, refl)) (last (name ts)))
    (or_word_takes (behind_takes answers.Clock (λ p h. (h, refl)) (last (number number64)))
    (or_word_takes (alone_takes answers.NoTxn tt refl)
    no_word_takes)))))))))))))))))

answer_bytes : (x : Answer) → FitsAnswer x → list_all is_line_byte (answer_text x) ≡ true
answer_bytes (answers.Begun i t) h = (name id ⊗ last (name ts)).bytes (i, t) h
answer_bytes (answers.Value v) h = (last (fields maybe_value)).bytes v h
answer_bytes (answers.Rows rs) h = (last told_rows).bytes rs h
answer_bytes answers.Written h = refl
answer_bytes (answers.Committed i t) h = (name id ⊗ last (name ts)).bytes (i, t) h
answer_bytes (answers.RolledBack i w) h = (name id ⊗ last (fields why)).bytes (i, w) h
answer_bytes answers.Learnt h = refl
answer_bytes answers.NotYet h = refl
answer_bytes answers.Done h = refl
answer_bytes (answers.Blocked i) h = (last (name id)).bytes i h
answer_bytes (answers.Unavailable n) h = (last (number number32)).bytes n h
answer_bytes (answers.Aborted w) h = (last (fields why)).bytes w h
answer_bytes (answers.Restart k t) h = (name key ⊗ last (name ts)).bytes (k, t) h
answer_bytes (answers.Unknown i) h = (last (name id)).bytes i h
answer_bytes (answers.Moved t) h = (last (name ts)).bytes t h
answer_bytes (answers.Clock n) h = (last (number number64)).bytes n h
answer_bytes answers.NoTxn h = refl

pub answer : IsReading is_line_byte FitsAnswer answer_text answer_at
answer = record { again = answer_again; takes = answer_takes; bytes = answer_bytes }
