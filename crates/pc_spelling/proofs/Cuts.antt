-- Where a text is cut: at the byte that its first part lacks, or at the byte that its last part lacks.
use Rattle.std.proofs.Common.{◌≡◌, ◌⊎◌, ℕ, Bool, true, false, cond, ◌==◌, List, [], ◌∷◌, ◌++◌, Option, None, Some, option_map, option_and_then, refl, ap, subst, inl, inr}
use Rattle.std.specs.List.{list_all, slice_split}
use Rattle.std.proofs.lemmas.Bool.{eq-eqb, eqb-true}
use Rattle.std.proofs.lemmas.Option.{same_Some}
use Rattle.std.specs.Option.{option_map_or}
use Rattle.pc_spelling.specs.Cutting.{cut, cut_last}
use Rattle.pc_spelling.proofs.ByteClasses.{both_true, is_other}

-- What a test chose, by what it says.
pub chosen : {A : Type 0} (b : Bool) (x y z : A) → cond b x y ≡ z → ((b ≡ true) × (x ≡ z)) ⊎ ((b ≡ false) × (y ≡ z))
chosen true x y z e = inl (refl, e)
chosen false x y z e = inr (refl, e)

pub map_some : {A B : Type 0} (f : A → B) (o : Option A) (y : B) → option_map f o ≡ Some y → (x : A) × (o ≡ Some x) × (f x ≡ y)
map_some f None y e = absurd cc
map_some f (Some x) y e = (x, refl, same_Some (f x) y e)

pub then_some : {A B : Type 0} (f : A → Option B) (o : Option A) (y : B) → option_and_then f o ≡ Some y → (x : A) × (o ≡ Some x) × (f x ≡ Some y)
then_some f None y e = absurd cc
then_some f (Some x) y e = (x, refl, e)

pub cut_at : (class : ℕ → Bool) (byte : ℕ) → class byte ≡ false → (xs rest : List ℕ) → list_all class xs ≡ true → cut byte (xs ++ (byte ∷ rest)) ≡ Some (xs, rest)
unfolding cut
cut_at class byte out [] rest h = rw (eq-eqb byte byte refl) refl
cut_at class byte out (x ∷ xs) rest h =
    let p = both_true (class x) (list_all class xs) h in
    rw (is_other class byte x out p.0, cut_at class byte out xs rest p.1) refl

pub cut_none : (class : ℕ → Bool) (byte : ℕ) → class byte ≡ false → (xs : List ℕ) → list_all class xs ≡ true → cut byte xs ≡ None
unfolding cut
cut_none class byte out [] h = refl
cut_none class byte out (x ∷ xs) h =
    let p = both_true (class x) (list_all class xs) h in
    rw (is_other class byte x out p.0, cut_none class byte out xs p.1) refl

pub cut_some : (byte : ℕ) (bs : List ℕ) (p : List ℕ × List ℕ) → cut byte bs ≡ Some p → bs ≡ p.0 ++ (byte ∷ p.1)
unfolding cut
cut_some byte [] p e = absurd cc
cut_some byte (b ∷ bs) p e =
    elim (chosen (b == byte) (Some ([], bs)) (option_map (λ q. (b ∷ q.0, q.1)) (cut byte bs)) (Some p) e) [
      | inl hit ↦ subst (λ (q : List ℕ × List ℕ). b ∷ bs ≡ q.0 ++ (byte ∷ q.1)) (same_Some ([], bs) p hit.1) (ap (λ (x : ℕ). x ∷ bs) (eqb-true b byte hit.0))
      | inr miss ↦
          let m = map_some (λ (q : List ℕ × List ℕ). (b ∷ q.0, q.1)) (cut byte bs) p miss.1 in
          subst (λ (q : List ℕ × List ℕ). b ∷ bs ≡ q.0 ++ (byte ∷ q.1)) m.2 (ap (λ (t : List ℕ). b ∷ t) (cut_some byte bs m.0 m.1))
    ]

pub cut_last_none : (class : ℕ → Bool) (byte : ℕ) → class byte ≡ false → (xs : List ℕ) → list_all class xs ≡ true → cut_last byte xs ≡ None
unfolding cut_last
cut_last_none class byte out [] h = refl
cut_last_none class byte out (x ∷ xs) h =
    let p = both_true (class x) (list_all class xs) h in
    rw (cut_last_none class byte out xs p.1, is_other class byte x out p.0) refl

pub cut_last_at : (class : ℕ → Bool) (byte : ℕ) → class byte ≡ false → (xs rest : List ℕ) → list_all class rest ≡ true → cut_last byte (xs ++ (byte ∷ rest)) ≡ Some (xs, rest)
unfolding cut_last
cut_last_at class byte out [] rest h = rw (cut_last_none class byte out rest h, eq-eqb byte byte refl) refl
cut_last_at class byte out (x ∷ xs) rest h = rw (cut_last_at class byte out xs rest h) refl

cut_last_front : (byte b : ℕ) (bs : List ℕ) (o : Option (List ℕ × List ℕ)) (p : List ℕ × List ℕ) → ((q : List ℕ × List ℕ) → o ≡ Some q → bs ≡ q.0 ++ (byte ∷ q.1)) → option_map_or (λ q. Some (b ∷ q.0, q.1)) o (cond (b == byte) (Some ([], bs)) None) ≡ Some p → b ∷ bs ≡ p.0 ++ (byte ∷ p.1)
cut_last_front byte b bs None p below e =
    elim (chosen (b == byte) (Some ([], bs)) None (Some p) e) [
      | inl hit ↦ subst (λ (q : List ℕ × List ℕ). b ∷ bs ≡ q.0 ++ (byte ∷ q.1)) (same_Some ([], bs) p hit.1) (ap (λ (x : ℕ). x ∷ bs) (eqb-true b byte hit.0))
      | inr miss ↦ absurd (cc miss.1)
    ]
cut_last_front byte b bs (Some q) p below e =
    subst (λ (q : List ℕ × List ℕ). b ∷ bs ≡ q.0 ++ (byte ∷ q.1)) (same_Some (b ∷ q.0, q.1) p e) (ap (λ (t : List ℕ). b ∷ t) (below q refl))

pub cut_last_some : (byte : ℕ) (bs : List ℕ) (p : List ℕ × List ℕ) → cut_last byte bs ≡ Some p → bs ≡ p.0 ++ (byte ∷ p.1)
unfolding cut_last
cut_last_some byte [] p e = absurd cc
cut_last_some byte (b ∷ bs) p e = cut_last_front byte b bs (cut_last byte bs) p (λ q h. cut_last_some byte bs q h) e

-- ---- lists of texts

pub split_at : (class : ℕ → Bool) (byte : ℕ) → class byte ≡ false → (xs rest : List ℕ) → list_all class xs ≡ true → slice_split (λ b. b == byte) (xs ++ (byte ∷ rest)) ≡ xs ∷ slice_split (λ b. b == byte) rest
split_at class byte out [] rest h = rw (eq-eqb byte byte refl) refl
split_at class byte out (x ∷ xs) rest h =
    let p = both_true (class x) (list_all class xs) h in
    rw (is_other class byte x out p.0, split_at class byte out xs rest p.1) refl

pub split_none : (class : ℕ → Bool) (byte : ℕ) → class byte ≡ false → (xs : List ℕ) → list_all class xs ≡ true → slice_split (λ b. b == byte) xs ≡ xs ∷ []
split_none class byte out [] h = refl
split_none class byte out (x ∷ xs) h =
    let p = both_true (class x) (list_all class xs) h in
    rw (is_other class byte x out p.0, split_none class byte out xs p.1) refl
