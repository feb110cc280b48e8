-- Calls: what was printed is read again, and what is read is spelled so.
use Rattle.std.proofs.Common.{◌≡◌, ℕ, true, List, Some, option_map, refl, ap}
use Rattle.std.specs.List.{list_all}
use Rattle.pc_proto.specs.declared.call.Call.{Call}
use Rattle.pc_proto.specs.declared.call.Call.TheVariants as calls
use Rattle.pc_journal.specs.Call.{call_text}
use Rattle.pc_spelling.specs.Cutting.{cut}
use Rattle.pc_journal.specs.Fits.{FitsCall}
use Rattle.pc_spelling.specs.ReadingLines.{call_at}
use Rattle.pc_spelling.specs.Bytes.{is_line_byte}
use Rattle.pc_spelling.proofs.LineParts.{◌⊗◌, name, fields, last}
use Rattle.pc_spelling.proofs.Readings.{IsReading}
use Rattle.pc_spelling.proofs.Words.{words_take, or_word_takes, no_word_takes, alone_takes, behind_takes}
use Rattle.pc_spelling.proofs.Numbers.{id}
use Rattle.pc_spelling.proofs.Names.{key, value, priority, span}

-- ---- calls

call_again : (x : Call) → FitsCall x → call_at (call_text x) ≡ Some x
unfolding call_at cut
call_again (calls.Begin p) h = ap (option_map calls.Begin) ((last (name priority)).again p h)
call_again (calls.Get k) h = ap (option_map calls.Get) ((last (name key)).again k h)
call_again (calls.Scan s) h = ap (option_map calls.Scan) ((last span).again s h)
call_again (calls.Put k v) h = ap (option_map (λ p. calls.Put p.0 p.1)) ((name key ⊗ last (fields value)).again (k, v) h)
call_again (calls.Delete k) h = ap (option_map calls.Delete) ((last (name key)).again k h)
call_again calls.Commit h = refl
call_again calls.Rollback h = refl
call_again (calls.Learn i) h = ap (option_map calls.Learn) ((last (name id)).again i h)
call_again calls.Round h = refl

call_takes : (bs : List ℕ) (x : Call) → call_at bs ≡ Some x → (bs ≡ call_text x) × FitsCall x
unfolding call_at
call_takes = words_take 32
    (or_word_takes (behind_takes calls.Begin (λ p h. (h, refl)) (last (name priority)))
    (or_word_takes (behind_takes calls.Get (λ p h. (h, refl)) (last (name key)))
    (or_word_takes (behind_takes calls.Scan (λ p h. (h, refl)) (last span))
    (or_word_takes (behind_takes (λ p. calls.Put p.0 p.1) (λ p h. (h, refl)) (name key ⊗ last (fields value)))
    (or_word_takes (behind_takes calls.Delete (λ p h. (h, refl)) (last (name key)))
    (or_word_takes (alone_takes calls.Commit tt refl)
    (or_word_takes (alone_takes calls.Rollback tt refl)
    (or_word_takes (behind_takes calls.Learn (λ p h. (h, refl)) (last (name id)))
    (or_word_takes (alone_takes calls.Round tt refl)
    no_word_takes)))))))))

call_bytes : (x : Call) → FitsCall x → list_all is_line_byte (call_text x) ≡ true
call_bytes (calls.Begin p) h = (last (name priority)).bytes p h
call_bytes (calls.Get k) h = (last (name key)).bytes k h
call_bytes (calls.Scan s) h = (last span).bytes s h
call_bytes (calls.Put k v) h = (name key ⊗ last (fields value)).bytes (k, v) h
call_bytes (calls.Delete k) h = (last (name key)).bytes k h
call_bytes calls.Commit h = refl
call_bytes calls.Rollback h = refl
call_bytes (calls.Learn i) h = (last (name id)).bytes i h
call_bytes calls.Round h = refl

pub call : IsReading is_line_byte FitsCall call_text call_at
call = record { again = call_again; takes = call_takes; bytes = call_bytes }
