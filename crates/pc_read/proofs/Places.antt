-- Where a byte stands first or last, and what is cut there.
use Rattle.std.proofs.Common.{◌≡◌, ℕ, ◌+◌, ◌-◌, ◌<◌, Bool, true, false, not, ◌==◌, List, ◌∷◌, ◌++◌, length, take, drop, get_or, Option, None, Some, refl, sym, ap, subst, ◌∙◌, arith, suc, take_all}
use Rattle.std.specs.List.{list_all}
use Rattle.std.proofs.lemmas.Bool.{eqb-true, eq-eqb, false_from_ne_true, not_from_false}
use Rattle.std.proofs.lemmas.List.{get_or-take, length-take, length-drop, get_or-drop}
use Rattle.std.proofs.lemmas.List.Elements.{All-from_get_or}
use Rattle.std.proofs.lemmas.List.Sums.{list_all-from_AllPass}
use Rattle.std.proofs.Math.Seq.{split_at}
use Rattle.memchr.specs.Find.{IsFirstByte, IsLastByte, is_byte}
use Rattle.pc_spelling.specs.Cutting.{cut, cut_last}
use Rattle.pc_spelling.proofs.Cuts.{cut_at, cut_none, cut_last_at, cut_last_none}

-- A byte that is not this one.
abbrev other_than : ℕ → ℕ → Bool
other_than byte b = not (b == byte)

itself_out : (byte : ℕ) → other_than byte byte ≡ false
itself_out byte = rw (eq-eqb byte byte refl) refl

none_there : (byte : ℕ) (xs : List ℕ) → ((k : ℕ) → k < length xs → is_byte byte (get_or xs k 0) ≡ true → ⊥) → list_all (other_than byte) xs ≡ true
none_there byte xs none =
    list_all-from_AllPass (other_than byte) xs (All-from_get_or (λ b. other_than byte b ≡ true) xs 0 (λ i inside. not_from_false (get_or xs i 0 == byte) (false_from_ne_true (get_or xs i 0 == byte) (none i inside))))

parted : (byte : ℕ) (bs : List ℕ) (k : ℕ) → k < length bs → is_byte byte (get_or bs k 0) ≡ true → bs ≡ take k bs ++ (byte ∷ drop (k + 1) bs)
parted byte bs k inside here =
    let one : suc k ≡ k + 1 = omega arith in
    split_at bs k 0 inside ∙ ap (λ (b : ℕ). take k bs ++ (b ∷ drop (suc k) bs)) (eqb-true (get_or bs k 0) byte here) ∙ ap (λ (n : ℕ). take k bs ++ (byte ∷ drop n bs)) one

-- All that stands behind a place.
all_behind : (bs : List ℕ) (n : ℕ) → take (length bs - n) (drop n bs) ≡ drop n bs
all_behind bs n = take_all (length bs - n) (drop n bs) (omega (arith, length-drop n bs))

pub cut_at_first : (byte : ℕ) (bs : List ℕ) (k : ℕ) → IsFirstByte (is_byte byte) bs (Some k) → ◌≡◌ {A = Option (List ℕ × List ℕ)} (Some (take k bs, take (length bs - (k + 1)) (drop (k + 1) bs))) (cut byte bs)
cut_at_first byte bs k h =
    let clear = none_there byte (take k bs) (λ i inside hit. h.0.before i (omega arith) (omega (arith, length-take k bs)) (subst (λ b. is_byte byte b ≡ true) (get_or-take k bs i 0 (omega (arith, length-take k bs))) hit)) in
    ap (λ (rest : List ℕ). Some (take k bs, rest)) (all_behind bs (k + 1)) ∙ sym (ap (cut byte) (parted byte bs k h.0.high h.1) ∙ cut_at (other_than byte) byte (itself_out byte) (take k bs) (drop (k + 1) bs) clear)

pub cut_nowhere : (byte : ℕ) (bs : List ℕ) → IsFirstByte (is_byte byte) bs None → cut byte bs ≡ None
cut_nowhere byte bs h = cut_none (other_than byte) byte (itself_out byte) bs (none_there byte bs (λ i inside hit. h i (omega arith) inside hit))

pub cut_at_last : (byte : ℕ) (bs : List ℕ) (k : ℕ) → IsLastByte (is_byte byte) bs (Some k) → ◌≡◌ {A = Option (List ℕ × List ℕ)} (Some (take k bs, take (length bs - (k + 1)) (drop (k + 1) bs))) (cut_last byte bs)
cut_at_last byte bs k h =
    let clear = none_there byte (drop (k + 1) bs) (λ i inside hit. h.0.after (k + 1 + i) (omega arith) (omega (arith, length-drop (k + 1) bs)) (subst (λ b. is_byte byte b ≡ true) (get_or-drop (k + 1) bs i 0) hit)) in
    ap (λ (rest : List ℕ). Some (take k bs, rest)) (all_behind bs (k + 1)) ∙ sym (ap (cut_last byte) (parted byte bs k h.0.high h.1) ∙ cut_last_at (other_than byte) byte (itself_out byte) (take k bs) (drop (k + 1) bs) clear)

pub cut_last_nowhere : (byte : ℕ) (bs : List ℕ) → IsLastByte (is_byte byte) bs None → cut_last byte bs ≡ None
cut_last_nowhere byte bs h = cut_last_none (other_than byte) byte (itself_out byte) bs (none_there byte bs (λ i inside hit. h i (omega arith) inside hit))
