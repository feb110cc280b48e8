-- The split keys of a head: what is counted of them, and that they rise.
use Rattle.std.proofs.Common.{◌≡◌, ℕ, ◌+◌, Bool, true, false, cond, ◌&&◌, ◌==◌, List, [], ◌∷◌, length, suc, Option, None, Some, option_map, option_and_then, is_some, refl, sym, ap, ◌∙◌, arith}
use Rattle.std.specs.List.{slice_split}
use Rattle.pc_base.specs.Rising.{keys_rise}
use Rattle.pc_base.specs.Span.{key_below}
use Rattle.pc_spelling.specs.Cutting.{cut, each_at}
use Rattle.pc_spelling.specs.Reading.{key_at, number32_at}
use Rattle.pc_spelling.specs.ReadingHead.{splits_at}
use Rattle.pc_spelling.proofs.Names.{key}
use Rattle.pc_read.specs.Rising.{is_above, rising}
use Rattle.pc_read.proofs.Items.{parts_cut, parts_whole, shorter_cut}

pub rising_cut : (before : Option (List ℕ)) (bs text behind : List ℕ) → cut 32 bs ≡ Some (text, behind) → rising before (slice_split (λ b. b == 32) bs) ≡ cond (is_some (key_at text) && is_above before text) (option_map suc (rising (Some text) (slice_split (λ b. b == 32) behind))) None
rising_cut before bs text behind e = ap (rising before) (parts_cut 32 bs text behind e)

pub rising_last : (before : Option (List ℕ)) (bs : List ℕ) → cut 32 bs ≡ None → rising before (slice_split (λ b. b == 32) bs) ≡ cond (is_some (key_at bs) && is_above before bs) (Some 1) None
rising_last before bs e = ap (rising before) (parts_whole 32 bs e)

-- ---- what is counted

abbrev counted : (List (List ℕ) → Bool) → Option (List (List ℕ)) → Option ℕ
counted rises keys = option_and_then (λ ks. cond (rises ks) (Some (length ks)) None) keys

with_front : (b r : Bool) (n : ℕ) → cond b (option_map suc (cond r (Some n) None)) None ≡ cond (b && r) (Some (suc n)) None
with_front true true n = refl
with_front true false n = refl
with_front false true n = refl
with_front false false n = refl

never : (b : Bool) → cond b (option_map suc None) None ≡ None
never true = refl
never false = refl

-- One more key in front of those that are counted.
one_more : (b : Bool) (k : List ℕ) (rises : List (List ℕ) → Bool) (o : Option (List ℕ)) (rest : Option (List (List ℕ))) → ((x : List ℕ) → o ≡ Some x → x ≡ k) → ((xs : List (List ℕ)) → rises (k ∷ xs) ≡ (b && keys_rise (k ∷ xs))) → cond (is_some o && b) (option_map suc (counted (λ ks. keys_rise (k ∷ ks)) rest)) None ≡ counted rises (option_and_then (λ x. option_map (λ xs. x ∷ xs) rest) o)
one_more b k rises None rest same says = refl
one_more b k rises (Some x) None same says = never b
one_more b k rises (Some x) (Some xs) same says =
    with_front b (keys_rise (k ∷ xs)) (length xs) ∙ ap (λ (t : Bool). cond t (Some (suc (length xs))) None) (sym (says xs)) ∙ ap (λ (y : List ℕ). cond (rises (y ∷ xs)) (Some (suc (length xs))) None) (sym (same x refl))

key_same : (k x : List ℕ) → key_at k ≡ Some x → x ≡ k
key_same k x e = sym (key.takes k x e).0

rising_above : (before : List ℕ) (keys : List (List ℕ)) → rising (Some before) keys ≡ counted (λ ks. keys_rise (before ∷ ks)) (each_at key_at keys)
rising_above before [] = refl
rising_above before (k ∷ keys) =
    ap (λ (o : Option ℕ). cond (is_some (key_at k) && key_below before k) (option_map suc o) None) (rising_above k keys) ∙ one_more (key_below before k) k (λ ks. keys_rise (before ∷ ks)) (key_at k) (each_at key_at keys) (key_same k) (λ xs. refl)

pub rising_counts : (keys : List (List ℕ)) → rising None keys ≡ counted keys_rise (each_at key_at keys)
rising_counts [] = refl
rising_counts (k ∷ keys) =
    ap (λ (o : Option ℕ). cond (is_some (key_at k) && true) (option_map suc o) None) (rising_above k keys) ∙ one_more true k keys_rise (key_at k) (each_at key_at keys) (key_same k) (λ xs. refl)

-- The count that stands first is one more than what is counted.
abbrev pub fit_count : Option ℕ → Option ℕ → Bool
fit_count (Some n) (Some found) = n == found + 1
fit_count _ _ = false

fits_one : (n : ℕ) (ks : List (List ℕ)) (t r : Bool) → t ≡ (n == length ks + 1) → fit_count (Some n) (cond r (Some (length ks)) None) ≡ is_some (cond (t && r) (Some ks) None)
fits_one n ks true true e = sym e
fits_one n ks true false e = refl
fits_one n ks false true e = sym e
fits_one n ks false false e = refl

fits_count : (count : Option ℕ) (keys : Option (List (List ℕ))) → fit_count count (counted keys_rise keys) ≡ is_some (option_and_then (λ n. option_and_then (λ ks. cond (n == length ks + 1 && keys_rise ks) (Some ks) None) keys) count)
fits_count None None = refl
fits_count None (Some ks) = refl
fits_count (Some n) None = refl
fits_count (Some n) (Some ks) = fits_one n ks (n == length ks + 1) (keys_rise ks) refl

-- What a cut at the first space says of the number and the keys behind it.
pub splits_cut : (bs count keys : List ℕ) → cut 32 bs ≡ Some (count, keys) → is_some (splits_at (slice_split (λ b. b == 32) bs)) ≡ fit_count (number32_at count) (rising None (slice_split (λ b. b == 32) keys))
unfolding splits_at
splits_cut bs count keys e =
    ap (λ (ps : List (List ℕ)). is_some (splits_at ps)) (parts_cut 32 bs count keys e)
    ∙ sym (ap (fit_count (number32_at count)) (rising_counts (slice_split (λ b. b == 32) keys)) ∙ fits_count (number32_at count) (each_at key_at (slice_split (λ b. b == 32) keys)))

abbrev no_keys : Option (List (List ℕ))
no_keys = Some []

one_fits : (t : Bool) (x : List (List ℕ)) → is_some (cond (t && true) (Some x) None) ≡ t
one_fits true x = refl
one_fits false x = refl

only_one : (o : Option ℕ) → is_some (option_and_then (λ n. cond (n == 1 && true) (no_keys) None) o) ≡ fit_count o (Some 0)
only_one None = refl
only_one (Some n) = one_fits (n == 1) []

pub splits_whole : (bs : List ℕ) → cut 32 bs ≡ None → is_some (splits_at (slice_split (λ b. b == 32) bs)) ≡ fit_count (number32_at bs) (Some 0)
unfolding splits_at
splits_whole bs e = ap (λ (ps : List (List ℕ)). is_some (splits_at ps)) (parts_whole 32 bs e) ∙ only_one (number32_at bs)

none_fits : (o : Option ℕ) → fit_count o None ≡ false
none_fits None = refl
none_fits (Some n) = refl

pub no_count : (bs count keys : List ℕ) → cut 32 bs ≡ Some (count, keys) → number32_at count ≡ None → is_some (splits_at (slice_split (λ b. b == 32) bs)) ≡ false
no_count bs count keys e none = splits_cut bs count keys e ∙ ap (λ (o : Option ℕ). fit_count o (rising None (slice_split (λ b. b == 32) keys))) none

pub no_keys_rise : (bs count keys : List ℕ) → cut 32 bs ≡ Some (count, keys) → rising None (slice_split (λ b. b == 32) keys) ≡ None → is_some (splits_at (slice_split (λ b. b == 32) bs)) ≡ false
no_keys_rise bs count keys e none = splits_cut bs count keys e ∙ ap (fit_count (number32_at count)) none ∙ none_fits (number32_at count)

pub both_counted : (bs count keys : List ℕ) (n found : ℕ) → cut 32 bs ≡ Some (count, keys) → number32_at count ≡ Some n → rising None (slice_split (λ b. b == 32) keys) ≡ Some found → is_some (splits_at (slice_split (λ b. b == 32) bs)) ≡ (n == found + 1)
both_counted bs count keys n found e first second =
    splits_cut bs count keys e ∙ ap (λ (o : Option ℕ). fit_count o (rising None (slice_split (λ b. b == 32) keys))) first ∙ ap (fit_count (Some n)) second

pub ruleset split_rules = (no_count, no_keys_rise, both_counted, splits_whole)

pub rising_stops : (found : ℕ) (before : Option (List ℕ)) (bs rest text behind : List ℕ) → rising None (slice_split (λ b. b == 32) bs) ≡ option_map (λ more. found + more) (rising before (slice_split (λ b. b == 32) rest)) → cut 32 rest ≡ Some (text, behind) → (is_some (key_at text) && is_above before text) ≡ false → rising None (slice_split (λ b. b == 32) bs) ≡ None
rising_stops found before bs rest text behind so_far e bad =
    so_far ∙ ap (option_map (λ more. found + more)) (rising_cut before rest text behind e ∙ ap (λ (t : Bool). cond t (option_map suc (rising (Some text) (slice_split (λ b. b == 32) behind))) None) bad)

one_further : (found : ℕ) (o : Option ℕ) → option_map (λ more. found + more) (option_map suc o) ≡ option_map (λ more. (found + 1) + more) o
one_further found None = refl
one_further found (Some m) =
    let same : found + suc m ≡ (found + 1) + m = omega arith in
    ap Some same

pub rising_goes : (found : ℕ) (before : Option (List ℕ)) (bs rest text behind : List ℕ) → rising None (slice_split (λ b. b == 32) bs) ≡ option_map (λ more. found + more) (rising before (slice_split (λ b. b == 32) rest)) → cut 32 rest ≡ Some (text, behind) → (is_some (key_at text) && is_above before text) ≡ true → rising None (slice_split (λ b. b == 32) bs) ≡ option_map (λ more. (found + 1) + more) (rising (Some text) (slice_split (λ b. b == 32) behind))
rising_goes found before bs rest text behind so_far e good =
    so_far ∙ ap (option_map (λ more. found + more)) (rising_cut before rest text behind e ∙ ap (λ (t : Bool). cond t (option_map suc (rising (Some text) (slice_split (λ b. b == 32) behind))) None) good) ∙ one_further found (rising (Some text) (slice_split (λ b. b == 32) behind))

pub ruleset rising_parts = (rising_cut, rising_last, shorter_cut)
