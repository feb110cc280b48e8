-- The parts of a line that have several fields: what was printed is read again, and what is read is spelled so.
use Rattle.std.proofs.Common.{◌≡◌, ℕ, true, List, ◌∷◌, ◌++◌, Option, None, Some, option_map, refl, sym, ap, codes, All}
use Rattle.std.specs.List.{list_all}
use Rattle.pc_base.specs.declared.transaction.TxnId.{TxnId}
use Rattle.pc_base.specs.Key.{is_key_byte}
use Rattle.pc_base.specs.Value.{is_value_byte}
use Rattle.pc_proto.specs.declared.reply.Origin.{Origin}
use Rattle.pc_proto.specs.declared.why.Why.{Why}
use Rattle.pc_proto.specs.declared.why.Why.TheVariants as whys
use Rattle.pc_journal.specs.Answer.{told_row_text}
use Rattle.pc_journal.specs.Lists.{listed}
use Rattle.pc_journal.specs.Meta.{meta_text, point_text, write_text}
use Rattle.pc_journal.specs.Optional.{key_text}
use Rattle.pc_journal.specs.Reply.{row_text}
use Rattle.pc_journal.specs.Why.{why_text}
use Rattle.pc_spelling.specs.Bytes.{is_part_byte}
use Rattle.pc_spelling.specs.Cutting.{cut, ◌:&◌, list_at}
use Rattle.pc_journal.specs.Fits.{FitsKeys, FitsMeta, FitsPoint, FitsRow, FitsToldRow, FitsWhy, FitsWrite, FitsWrites}
use Rattle.pc_spelling.specs.Reading.{keys_at, meta_at, point_at, row_at, told_row_at, why_at, write_at, writes_at}
use Rattle.pc_spelling.proofs.ByteClasses.{digits_in_keys, keys_in_values, origins_in_values, values_in_parts, within_both}
use Rattle.pc_spelling.proofs.Names.{key, value_bytes, who, priority, origin, no_dash_key}
use Rattle.pc_spelling.proofs.Numbers.{number32, number64, ts, id}
use Rattle.pc_spelling.proofs.Readings.{IsReading, both_reading, made_reading, list_reading, wider}
use Rattle.pc_spelling.proofs.Words.{words_take, or_word_takes, no_word_takes, alone_takes, behind_takes}

-- Two fields with a colon between them, the first made of the bytes of keys.
infixr 60 ◌⊗◌
◌⊗◌ : {A B : Type 0} {P : A → Type 0} {Q : B → Type 0} {s : A → List ℕ} {t : B → List ℕ} {f : List ℕ → Option A} {g : List ℕ → Option B} → IsReading is_key_byte P s f → IsReading is_value_byte Q t g → IsReading is_value_byte (λ (p : A × B). P p.0 × Q p.1) (λ (p : A × B). s p.0 ++ (58 ∷ t p.1)) (f :& g)
one ⊗ other = both_reading 58 refl refl keys_in_values one other

-- The last field, whose bytes are those of keys.
last : {A : Type 0} {P : A → Type 0} {s : A → List ℕ} {f : List ℕ → Option A} → IsReading is_key_byte P s f → IsReading is_value_byte P s f
last one = wider keys_in_values one

-- ---- metas, points, writes

pub meta : IsReading is_value_byte FitsMeta meta_text meta_at
unfolding meta_at
meta = made_reading _ (λ m h. ((m.id, (m.epoch, (m.priority, (m.born, m.anchor)))), h, refl)) (λ p h. (h, refl))
    (id ⊗ wider digits_in_keys number32 ⊗ priority ⊗ wider digits_in_keys number64 ⊗ last key)

pub point : IsReading is_value_byte FitsPoint (λ (p : TxnId × (ℕ × ℕ)). point_text p.0 p.1.0 p.1.1) point_at
unfolding point_at
point = id ⊗ wider digits_in_keys number32 ⊗ last (wider digits_in_keys number32)

pub write : IsReading is_value_byte FitsWrite write_text write_at
unfolding write_at
write = key ⊗ last (wider digits_in_keys number32)

no_dash_write : write_at (codes "-") ≡ None
unfolding write_at cut
no_dash_write = refl

pub writes : IsReading is_part_byte FitsWrites (listed write_text) writes_at
unfolding writes_at
writes = list_reading no_dash_write refl values_in_parts refl refl write

pub keys : IsReading is_part_byte FitsKeys (listed key_text) keys_at
unfolding keys_at
keys = list_reading no_dash_key refl (within_both keys_in_values values_in_parts) refl refl key

no_dash_meta : meta_at (codes "-") ≡ None
unfolding meta_at cut
no_dash_meta = refl

pub metas : IsReading is_part_byte (All FitsMeta) (listed meta_text) (list_at meta_at)
metas = list_reading no_dash_meta refl values_in_parts refl refl meta

-- ---- rows

pub row : IsReading is_value_byte FitsRow row_text row_at
unfolding row_at
row = made_reading _ (λ r h. ((r.0, (r.1, r.2)), h, refl)) (λ p h. (h, refl))
    (both_reading 64 refl refl keys_in_values key (both_reading 61 refl refl origins_in_values origin value_bytes))

pub told_row : IsReading is_value_byte FitsToldRow told_row_text told_row_at
unfolding told_row_at
told_row = made_reading _ (λ r h. ((r.0, r.2), (h.0, h.1.1), ap (λ (o : Origin). (r.0, o, r.2)) (sym h.1.0))) (λ p h. ((h.0, (refl, h.1)), refl))
    (both_reading 61 refl refl keys_in_values key value_bytes)

-- ---- causes

why_again : (why : Why) → FitsWhy why → why_at (why_text why) ≡ Some why
unfolding why_at cut
why_again (whys.Pushed by) h = ap (option_map whys.Pushed) (who.again by h)
why_again (whys.Missing k by) h = ap (option_map (λ p. whys.Missing p.0 p.1)) ((key ⊗ last who).again (k, by) h)
why_again (whys.Refresh k t) h = ap (option_map (λ p. whys.Refresh p.0 p.1)) ((key ⊗ last ts).again (k, t) h)
why_again whys.Client h = refl

why_takes : (bs : List ℕ) (why : Why) → why_at bs ≡ Some why → (bs ≡ why_text why) × FitsWhy why
unfolding why_at
why_takes = words_take 58
    (or_word_takes (behind_takes whys.Pushed (λ p h. (h, refl)) (last who))
    (or_word_takes (behind_takes (λ p. whys.Missing p.0 p.1) (λ p h. (h, refl)) (key ⊗ last who))
    (or_word_takes (behind_takes (λ p. whys.Refresh p.0 p.1) (λ p h. (h, refl)) (key ⊗ last ts))
    (or_word_takes (alone_takes whys.Client tt refl)
    no_word_takes))))

why_bytes : (why : Why) → FitsWhy why → list_all is_value_byte (why_text why) ≡ true
why_bytes (whys.Pushed by) h = (last who).bytes by h
why_bytes (whys.Missing k by) h = (key ⊗ last who).bytes (k, by) h
why_bytes (whys.Refresh k t) h = (key ⊗ last ts).bytes (k, t) h
why_bytes whys.Client h = refl

pub why : IsReading is_value_byte FitsWhy why_text why_at
why = record { again = why_again; takes = why_takes; bytes = why_bytes }

-- ---- lists of rows

no_dash_row : row_at (codes "-") ≡ None
unfolding row_at cut
no_dash_row = refl

pub rows : IsReading is_part_byte (All FitsRow) (listed row_text) (list_at row_at)
rows = list_reading no_dash_row refl values_in_parts refl refl row

no_dash_told_row : told_row_at (codes "-") ≡ None
unfolding told_row_at cut
no_dash_told_row = refl

pub told_rows : IsReading is_part_byte (All FitsToldRow) (listed told_row_text) (list_at told_row_at)
told_rows = list_reading no_dash_told_row refl values_in_parts refl refl told_row
