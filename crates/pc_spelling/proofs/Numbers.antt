-- Numbers and timestamps: what was printed is read again, and what is read is spelled so.
use Rattle.std.proofs.Common.{◌≡◌, ℕ, ◌+◌, ◌*◌, ◌/◌, ◌%◌, ◌^◌, ◌<◌, ◌≤◌, Bool, true, false, cond, not, ◌&&◌, ◌==◌, ltb, List, [], ◌∷◌, ◌++◌, length, get_or, Option, None, Some, refl, sym, ap, subst, ◌∙◌, inl, inr, arith, rules, eq-zero-or-pos}
use Rattle.std.specs.Fmt.{decimal}
use Rattle.std.specs.List.{list_all}
use Rattle.std.specs.Str.Parse.{digits_value}
use Rattle.std.proofs.lemmas.Bool.{lt-ltb, ltb-true, ne_eqb, eqb-false, not-true, not_from_false}
use Rattle.std.proofs.lemmas.Fmt.{digits_decimal, digits_value-decimal, decimal-digits_value, decimal_nonempty, first_decimal, decimal_digit}
use Rattle.std.proofs.lemmas.Grind.{common_steps}
use Rattle.std.proofs.lemmas.Nat.{div-mul-add, mod-mul-add}
use Rattle.std.proofs.lemmas.Option.{cond_some}
use Rattle.std.proofs.lemmas.Str.Parse.{IsNumeralModel, numerals_by_value}
use Rattle.pc_journal.specs.Number.{ts_text}
use Rattle.pc_journal.specs.Names.{id_text}
use Rattle.pc_spelling.specs.Bytes.{is_digit}
use Rattle.pc_spelling.specs.Cutting.{cut, both}
use Rattle.pc_journal.specs.Fits.{Fits32, Fits64, FitsId, FitsTimestamp}
use Rattle.pc_spelling.specs.Reading.{is_numeral, number_at, number32_at, number64_at, ts_at, id_at}
use Rattle.pc_base.specs.Key.{is_key_byte}
use Rattle.pc_spelling.proofs.ByteClasses.{both_true, true_both, digits_in_keys}
use Rattle.pc_spelling.proofs.Readings.{IsReading, both_reading, made_reading, wider}

own : IsNumeralModel (λ ds. list_all is_digit ds ≡ true) (digits_value 10)
own = numerals_by_value (λ ds. list_all is_digit ds ≡ true) (search (rules, common_steps))

-- Digits without a leading zero are a numeral.
numeral_from : (bs : List ℕ) → list_all is_digit bs ≡ true → 0 < length bs → (get_or bs 0 0 ≡ 48 → length bs ≡ 1) → is_numeral bs ≡ true
numeral_from [] digits some first = absurd (omega arith)
numeral_from (a ∷ []) digits some first = (both_true (is_digit a) true digits).0
numeral_from (a ∷ b ∷ bs) digits some first =
    let other : (a == 48) ≡ false = ne_eqb a 48 (λ e. absurd (omega (arith, first e))) in
    true_both (not (a == 48)) (list_all is_digit (a ∷ b ∷ bs)) (not_from_false (a == 48) other) digits

numeral_parts : (bs : List ℕ) → is_numeral bs ≡ true → (list_all is_digit bs ≡ true) × (0 < length bs) × (get_or bs 0 0 ≡ 48 → length bs ≡ 1)
numeral_parts [] h = absurd cc
numeral_parts (a ∷ []) h = (true_both (is_digit a) true h refl, omega arith, λ e. refl)
numeral_parts (a ∷ b ∷ bs) h =
    let p = both_true (not (a == 48)) (list_all is_digit (a ∷ b ∷ bs)) h in
    (p.1, omega arith, λ e. absurd (eqb-false a 48 (not-true (a == 48) p.0) e))

only_zero : (n : ℕ) → n < 2 ^ 64 → get_or (decimal n) 0 0 ≡ 48 → length (decimal n) ≡ 1
only_zero n small first =
    elim (eq-zero-or-pos n) [
      | inl none ↦ ap (λ (k : ℕ). length (decimal k)) none ∙ ap length (decimal_digit 0 (omega arith))
      | inr some ↦ absurd (omega (arith, first_decimal n some small))
    ]

decimal_numeral : (n : ℕ) → n < 2 ^ 64 → is_numeral (decimal n) ≡ true
decimal_numeral n small = numeral_from (decimal n) (digits_decimal own n small) (decimal_nonempty n small) (only_zero n small)

number_again : (limit n : ℕ) → n < limit → limit ≤ 2 ^ 64 → number_at limit (decimal n) ≡ Some n
unfolding number_at
number_again limit n h most =
    let small : n < 2 ^ 64 = omega arith in
    let value : digits_value 10 (decimal n) ≡ n = digits_value-decimal own n small in
    let below : ltb (digits_value 10 (decimal n)) limit ≡ true = lt-ltb (digits_value 10 (decimal n)) limit (omega (arith, value)) in
    let test : (is_numeral (decimal n) && ltb (digits_value 10 (decimal n)) limit) ≡ true = true_both (is_numeral (decimal n)) (ltb (digits_value 10 (decimal n)) limit) (decimal_numeral n small) below in
    ap (λ (b : Bool). cond b (Some (digits_value 10 (decimal n))) None) test ∙ ap Some value

number_takes : (limit : ℕ) (bs : List ℕ) (n : ℕ) → limit ≤ 2 ^ 64 → number_at limit bs ≡ Some n → (bs ≡ decimal n) × (n < limit)
unfolding number_at
number_takes limit bs n most e =
    let p = cond_some (is_numeral bs && ltb (digits_value 10 bs) limit) (digits_value 10 bs) n e in
    let tests = both_true (is_numeral bs) (ltb (digits_value 10 bs) limit) p.0 in
    let parts = numeral_parts bs tests.0 in
    let below : digits_value 10 bs < limit = ltb-true (digits_value 10 bs) limit tests.1 in
    let whole : decimal (digits_value 10 bs) ≡ bs = decimal-digits_value own bs parts.0 parts.1 parts.2 (omega arith) in
    subst (λ (k : ℕ). (bs ≡ decimal k) × (k < limit)) p.1 (sym whole, below)

pub number_reading : (limit : ℕ) → limit ≤ 2 ^ 64 → IsReading is_digit (λ (n : ℕ). n < limit) decimal (number_at limit)
number_reading limit most = record {
  again = λ n h. number_again limit n h most;
  takes = λ bs n e. number_takes limit bs n most e;
  bytes = λ n h. digits_decimal own n (omega arith);
}

pub number32 : IsReading is_digit Fits32 decimal number32_at
number32 = number_reading (2 ^ 32) (omega arith)

pub number64 : IsReading is_digit Fits64 decimal number64_at
number64 = number_reading (2 ^ 64) (omega arith)

-- Two numbers of these widths, a dot between them.
dotted : {P Q : ℕ → Type 0} {one other : List ℕ → Option ℕ} → IsReading is_digit P decimal one → IsReading is_digit Q decimal other → IsReading is_key_byte (λ (p : ℕ × ℕ). P p.0 × Q p.1) (λ (p : ℕ × ℕ). decimal p.0 ++ (46 ∷ decimal p.1)) (both 46 one other)
dotted one other = both_reading 46 refl refl digits_in_keys one (wider digits_in_keys other)

parts_text : (wall logical : ℕ) → logical < 2 ^ 32 → ts_text (wall * 2 ^ 32 + logical) ≡ decimal wall ++ (46 ∷ decimal logical)
parts_text wall logical small = rw (div-mul-add, mod-mul-add) refl

pub ts : IsReading is_key_byte FitsTimestamp ts_text ts_at
unfolding ts_at
ts = made_reading (λ p. p.0 * 2 ^ 32 + p.1)
    (λ n h. ((n / 2 ^ 32, n % 2 ^ 32), (omega arith, omega arith), omega arith))
    (λ p h. (omega arith, parts_text p.0 p.1 h.1))
    (dotted number64 number32)

pub id : IsReading is_key_byte FitsId id_text id_at
unfolding id_at
id = made_reading (λ p. record { session = p.0; number = p.1 }) (λ i h. ((i.session, i.number), h, refl)) (λ p h. (h, refl)) (dotted number32 number32)

pub no_empty_id : id_at [] ≡ None
unfolding id_at cut
no_empty_id = refl
