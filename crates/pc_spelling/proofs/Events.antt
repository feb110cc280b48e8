-- Events and entries: what was printed is read again, and what is read is spelled so.
use Rattle.std.proofs.Common.{◌≡◌, ℕ, true, List, [], ◌∷◌, ◌++◌, None, Some, option_map, refl, ap, ◌∙◌, ◌==◌, inl, inr}
use Rattle.std.specs.List.{list_all}
use Rattle.std.proofs.lemmas.Bool.{eqb-true}
use Rattle.pc_proto.specs.declared.event.Event.{Event}
use Rattle.pc_proto.specs.declared.event.Event.TheVariants as events
use Rattle.pc_proto.specs.declared.call.Call.{Call}
use Rattle.pc_journal.specs.Call.{call_text}
use Rattle.pc_journal.specs.Event.{event_text, entry_text}
use Rattle.pc_journal.specs.Number.{reading_text}
use Rattle.pc_spelling.specs.Cutting.{each_part, cut_last}
use Rattle.pc_journal.specs.Fits.{Fits64, FitsCall, FitsEntry}
use Rattle.pc_spelling.specs.Reading.{number64_at}
use Rattle.pc_spelling.specs.ReadingLines.{asked_at, call_at, reading_at, entry_at}
use Rattle.pc_spelling.proofs.Cuts.{chosen, cut_last_at, cut_last_some}
use Rattle.pc_spelling.proofs.ByteClasses.{all_joined}
use Rattle.pc_spelling.proofs.Readings.{each_part_takes}
use Rattle.pc_spelling.proofs.Requests.{request}
use Rattle.pc_spelling.proofs.Replies.{reply}
use Rattle.pc_spelling.proofs.Calls.{call}
use Rattle.pc_spelling.proofs.Answers.{answer}
use Rattle.pc_spelling.specs.Cutting.{cut}
use Rattle.pc_journal.specs.Fits.{FitsEvent}
use Rattle.pc_spelling.specs.ReadingLines.{event_at}
use Rattle.pc_spelling.specs.Bytes.{is_line_byte, is_part_byte}
use Rattle.pc_spelling.proofs.LineParts.{◌⊗◌, number, name, last}
use Rattle.pc_spelling.proofs.Readings.{IsReading, made_reading}
use Rattle.pc_spelling.proofs.Words.{words_take, or_word_takes, no_word_takes, behind_takes}
use Rattle.pc_spelling.proofs.Numbers.{number64, id}
use Rattle.pc_spelling.proofs.Names.{actor, range}

-- ---- a call and its reading

reading_takes : (bs : List ℕ) (n : ℕ) → reading_at bs ≡ Some n → (bs ≡ reading_text n) × Fits64 n
unfolding reading_at
reading_takes [] n e = absurd cc
reading_takes (sign ∷ digits) n e =
    elim (chosen (sign == 64) (number64_at digits) None (Some n) e) [
      | inl hit ↦
          let taken = number64.takes digits n hit.1 in
          (ap (λ (b : ℕ). b ∷ digits) (eqb-true sign 64 hit.0) ∙ ap (λ (t : List ℕ). 64 ∷ t) taken.0, taken.1)
      | inr miss ↦ absurd (cc miss.1)
    ]

reading_again : (n : ℕ) → Fits64 n → reading_at (reading_text n) ≡ Some n
unfolding reading_at
reading_again n h = number64.again n h

reading : IsReading is_part_byte Fits64 reading_text reading_at
reading = record { again = reading_again; takes = reading_takes; bytes = λ n h. (number number64).bytes n h }

asked_again : (p : Call × ℕ) → FitsCall p.0 × Fits64 p.1 → asked_at (call_text p.0 ++ (32 ∷ reading_text p.1)) ≡ Some p
unfolding asked_at
asked_again p h =
    ap (each_part call_at reading_at) (cut_last_at is_part_byte 32 refl (call_text p.0) (reading_text p.1) (reading.bytes p.1 h.1)) ∙ rw (call.again p.0 h.0, reading.again p.1 h.1) refl

asked_takes : (bs : List ℕ) (p : Call × ℕ) → asked_at bs ≡ Some p → (bs ≡ call_text p.0 ++ (32 ∷ reading_text p.1)) × (FitsCall p.0 × Fits64 p.1)
unfolding asked_at
asked_takes bs p e =
    let parts = each_part_takes call_at reading_at (cut_last 32 bs) p e in
    let first = call.takes parts.0.0 p.0 parts.2 in
    let second = reading.takes parts.0.1 p.1 parts.3 in
    (cut_last_some 32 bs parts.0 parts.1 ∙ ap (λ (xs : List ℕ). xs ++ (32 ∷ parts.0.1)) first.0 ∙ ap (λ (ys : List ℕ). call_text p.0 ++ (32 ∷ ys)) second.0, (first.1, second.1))

asked : IsReading is_line_byte (λ (p : Call × ℕ). FitsCall p.0 × Fits64 p.1) (λ (p : Call × ℕ). call_text p.0 ++ (32 ∷ reading_text p.1)) asked_at
asked = record {
  again = asked_again;
  takes = asked_takes;
  bytes = λ p h. all_joined is_line_byte (call_text p.0) (32 ∷ reading_text p.1) (call.bytes p.0 h.0) ((last reading).bytes p.1 h.1);
}

-- ---- events

event_again : (x : Event) → FitsEvent x → event_at (event_text x) ≡ Some x
unfolding event_at cut
event_again (events.Ask c r) h = ap (option_map (λ p. events.Ask p.0 p.1)) (asked.again (c, r) h)
event_again (events.Send n r q) h = ap (option_map (λ p. events.Send p.0 p.1.0 p.1.1)) ((number number64 ⊗ name range ⊗ request).again (n, (r, q)) h)
event_again (events.Eval a n r) h = ap (option_map (λ p. events.Eval p.0 p.1.0 p.1.1)) ((name actor ⊗ number number64 ⊗ reply).again (a, (n, r)) h)
event_again (events.Hear n s) h = ap (option_map (λ p. events.Hear p.0 p.1)) ((number number64 ⊗ last (number number64)).again (n, s) h)
event_again (events.Tell a) h = ap (option_map events.Tell) (answer.again a h)
event_again (events.Meet i s) h = ap (option_map (λ p. events.Meet p.0 p.1)) ((name id ⊗ last (number number64)).again (i, s) h)

event_takes : (bs : List ℕ) (x : Event) → event_at bs ≡ Some x → (bs ≡ event_text x) × FitsEvent x
unfolding event_at
event_takes = words_take 32
    (or_word_takes (behind_takes (λ p. events.Ask p.0 p.1) (λ p h. (h, refl)) asked)
    (or_word_takes (behind_takes (λ p. events.Send p.0 p.1.0 p.1.1) (λ p h. (h, refl)) (number number64 ⊗ name range ⊗ request))
    (or_word_takes (behind_takes (λ p. events.Eval p.0 p.1.0 p.1.1) (λ p h. (h, refl)) (name actor ⊗ number number64 ⊗ reply))
    (or_word_takes (behind_takes (λ p. events.Hear p.0 p.1) (λ p h. (h, refl)) (number number64 ⊗ last (number number64)))
    (or_word_takes (behind_takes events.Tell (λ p h. (h, refl)) answer)
    (or_word_takes (behind_takes (λ p. events.Meet p.0 p.1) (λ p h. (h, refl)) (name id ⊗ last (number number64)))
    no_word_takes))))))

event_bytes : (x : Event) → FitsEvent x → list_all is_line_byte (event_text x) ≡ true
event_bytes (events.Ask c r) h = asked.bytes (c, r) h
event_bytes (events.Send n r q) h = (number number64 ⊗ name range ⊗ request).bytes (n, (r, q)) h
event_bytes (events.Eval a n r) h = (name actor ⊗ number number64 ⊗ reply).bytes (a, (n, r)) h
event_bytes (events.Hear n s) h = (number number64 ⊗ last (number number64)).bytes (n, s) h
event_bytes (events.Tell a) h = answer.bytes a h
event_bytes (events.Meet i s) h = (name id ⊗ last (number number64)).bytes (i, s) h

pub event : IsReading is_line_byte FitsEvent event_text event_at
event = record { again = event_again; takes = event_takes; bytes = event_bytes }

-- ---- entries

pub entry : IsReading is_line_byte FitsEntry entry_text entry_at
unfolding entry_at
entry = made_reading _ (λ x h. ((x.step, (x.actor, x.event)), h, refl)) (λ p h. (h, refl)) (number number64 ⊗ name actor ⊗ event)
