-- Which texts name a transaction.
use Rattle.std.proofs.Common.{◌≡◌, ℕ, ◌+◌, ◌-◌, ◌^◌, ◌<◌, ◌≤◌, ◌&&◌, ◌||◌, ◌==◌, not, nat_le, slice_index, Bool, true, false, cond, List, [], length, Option, Some, None, Result, Ok, Err, refl, sym, ap, ◌∙◌, arith}
use Rattle.std.specs.Char.{is_ascii_digit}
use Rattle.std.specs.List.{after_first, before_first, list_all, position_or_len}
use Rattle.std.specs.Result.{OkIff}
use Rattle.std.specs.Str.Parse.{ParsesUnsigned, digits_value}
use Rattle.std.proofs.lemmas.Bool.{and_parts, and_right, le-leb, leb-true, lt-leb}
use Rattle.std.proofs.lemmas.List.{drop_all}
use Rattle.pc_base.specs.declared.transaction.TxnId.{TxnId}
use Rattle.pc_work.proofs.Digits.{digits_parsed}
use Rattle.pc_work.specs.Learn.{learnt_in, positive_in}
use Rattle.pc_work.specs.Number.{is_number}
use Rattle.pc_work.specs.Reading.{◌>>=◌}

-- A number that was read, where it is from 1.
abbrev pub from_one : {E : Type 0} → Result ℕ E → Option ℕ
from_one (Ok number) = cond (nat_le 1 number) (Some number) None
from_one (Err fault) = None

within : {E : Type 0} (some value : ℕ) (parsed : Result ℕ E) → 0 < some → OkIff parsed ((0 < some) × (value < 2 ^ 32)) value
    → from_one parsed ≡ cond (nat_le 1 value && nat_le value (2 ^ 32 - 1)) (Some value) None
within some value (Ok n) is_some h =
    let e : n ≡ value = h.1 in
    let below : value < 2 ^ 32 = h.0.1 in
    let fits : value ≤ 2 ^ 32 - 1 = omega arith in
    ap (λ n. cond (nat_le 1 n) (Some n) None) e ∙ by (nat_le 1 value) (le-leb value (2 ^ 32 - 1) fits)
  where
    by : (b : Bool) → nat_le value (2 ^ 32 - 1) ≡ true → cond b (Some value) None ≡ cond (b && nat_le value (2 ^ 32 - 1)) (Some value) None
    by true e = sym (ap (λ t. cond t (Some value) None) e)
    by false e = refl
within some value (Err fault) is_some h =
    let past : (value < 2 ^ 32) → ⊥ = λ below. h (is_some, below) in
    let above : 2 ^ 32 - 1 < value = omega (arith, past) in
    sym (ap (λ t. cond t (Some value) None) (and_right (nat_le 1 value) (nat_le value (2 ^ 32 - 1)) (lt-leb value (2 ^ 32 - 1) above)))

by_number : (text : List ℕ) (b : Bool) → is_number text ≡ b
    → cond b (cond (nat_le 1 (digits_value 10 text) && nat_le (digits_value 10 text) (2 ^ 32 - 1)) (Some (digits_value 10 text)) None) None ≡ positive_in text
unfolding positive_in
by_number text true e =
    sym (ap (λ b. cond (b && nat_le 1 (digits_value 10 text) && nat_le (digits_value 10 text) (2 ^ 32 - 1)) (Some (digits_value 10 text)) None) e)
by_number text false e =
    sym (ap (λ b. cond (b && nat_le 1 (digits_value 10 text) && nat_le (digits_value 10 text) (2 ^ 32 - 1)) (Some (digits_value 10 text)) None) e)

-- A text that is no number spells none.
pub no_number : (text : List ℕ) → is_number text ≡ false → None ≡ positive_in text
no_number text e = by_number text false e

-- What `parse` answers to a number, where that is from 1, is the number that the text spells.
pub positive_parsed : {E : Type 0} (text : List ℕ) (parsed : Result ℕ E) → is_number text ≡ true → ParsesUnsigned 32 10 text parsed → from_one parsed ≡ positive_in text
positive_parsed text parsed e parses =
    let parts = and_parts (nat_le 1 (length text) && list_all is_ascii_digit text) (length text == 1 || not (slice_index text 0 == 48)) e in
    let both = and_parts (nat_le 1 (length text)) (list_all is_ascii_digit text) parts.0 in
    within (length text) (digits_value 10 text) parsed (leb-true 1 (length text) both.0) (digits_parsed text parsed e parses) ∙ by_number text true e

-- The bytes are a point.
abbrev is_point : ℕ → Bool
is_point byte = byte == 46

-- The transaction of this session and number.
abbrev of_both : Option ℕ → Option ℕ → Option TxnId
of_both one two = one >>= λ session. two >>= λ number. Some (record { session = session; number = number })

parts_of : (text : List ℕ) → of_both (positive_in (before_first is_point text)) (positive_in (after_first is_point text)) ≡ learnt_in text
unfolding learnt_in
parts_of text = refl

-- What stands round the first point, as it was read.
pub learnt_by : (text before after : List ℕ) (one two : Option ℕ) → before ≡ before_first is_point text → after ≡ after_first is_point text → one ≡ positive_in before → two ≡ positive_in after → of_both one two ≡ learnt_in text
learnt_by text before after one two first last is next =
    ap (λ o. of_both o two) (is ∙ ap positive_in first) ∙ ap (of_both (positive_in (before_first is_point text))) (next ∙ ap positive_in last) ∙ parts_of text

nothing_behind : (one : Option ℕ) → of_both one None ≡ None
nothing_behind None = refl
nothing_behind (Some session) = refl

-- A text without a point names nothing.
pub no_point : (text : List ℕ) → position_or_len is_point text ≡ length text → None ≡ learnt_in text
no_point text none =
    let rest : [] ≡ after_first is_point text = sym (drop_all (position_or_len is_point text + 1) text (omega arith)) in
    sym (nothing_behind (positive_in (before_first is_point text))) ∙ learnt_by text (before_first is_point text) [] (positive_in (before_first is_point text)) None refl rest refl (no_number [] refl)

pub read_positive : {E : Type 0} (parsed : Result ℕ E) (n : ℕ) → parsed ≡ Ok n → 1 ≤ n → Some n ≡ from_one parsed
read_positive parsed n is low = sym (ap from_one is ∙ ap (λ b. cond b (Some n) None) (le-leb 1 n low))

pub read_zero : {E : Type 0} (parsed : Result ℕ E) (n : ℕ) → parsed ≡ Ok n → n < 1 → None ≡ from_one parsed
read_zero parsed n is low = sym (ap from_one is ∙ ap (λ b. cond b (Some n) None) (lt-leb 1 n low))

pub read_none : {E : Type 0} (parsed : Result ℕ E) (fault : E) → parsed ≡ Err fault → None ≡ from_one parsed
read_none parsed fault is = sym (ap from_one is)
