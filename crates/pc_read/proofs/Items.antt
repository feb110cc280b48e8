-- A list is readable where each of its parts is.
use Rattle.std.proofs.Common.{◌≡◌, ℕ, ◌<◌, Bool, true, false, cond, ◌||◌, ◌&&◌, ◌==◌, List, [], ◌∷◌, length, Option, None, Some, option_map, option_and_then, is_some, IsSome, refl, sym, ap, ◌∙◌, arith, codes, bytes_eq, length-append, inl, inr}
use Rattle.std.specs.List.{list_all, slice_split}
use Rattle.std.proofs.Math.Bool.{and-true}
use Rattle.std.proofs.lemmas.Option.{some_pair_parts}
use Rattle.pc_spelling.specs.Cutting.{cut, each_at, list_at}
use Rattle.pc_spelling.proofs.Cuts.{chosen, cut_some, map_some}

some_of_then : {A B : Type 0} (o : Option A) (rest : Option B) (f : A → B → B) → (is_some o && is_some rest) ≡ is_some (option_and_then (λ x. option_map (f x) rest) o)
some_of_then None rest f = refl
some_of_then (Some x) None f = refl
some_of_then (Some x) (Some y) f = refl

map_none : {A B : Type 0} (f : A → B) (o : Option A) → option_map f o ≡ None → o ≡ None
map_none f None e = refl
map_none f (Some x) e = absurd cc

each_readable : {A : Type 0} (read : List ℕ → Option A) (parts : List (List ℕ)) → list_all (λ bs. is_some (read bs)) parts ≡ is_some (each_at read parts)
each_readable read [] = refl
each_readable {A} read (bs ∷ parts) =
    ap (λ (b : Bool). is_some (read bs) && b) (each_readable read parts) ∙ some_of_then (read bs) (each_at read parts) (λ (first : A) (rest : List A). first ∷ rest)

either_some : {A : Type 0} (b : Bool) (x : A) (o : Option A) → (b || is_some o) ≡ is_some (cond b (Some x) o)
either_some true x o = refl
either_some false x o = refl

pub readable_list : {A : Type 0} (read : List ℕ → Option A) (bs : List ℕ) → (bytes_eq bs (codes "-") || list_all (λ part. is_some (read part)) (slice_split (λ b. b == 44) bs)) ≡ is_some (list_at read bs)
readable_list read bs =
    ap (λ (b : Bool). bytes_eq bs (codes "-") || b) (each_readable read (slice_split (λ b. b == 44) bs)) ∙ either_some (bytes_eq bs (codes "-")) [] (each_at read (slice_split (λ b. b == 44) bs))

none_from : {A : Type 0} (o : Option A) → is_some o ≡ false → o ≡ None
none_from None e = refl
none_from (Some x) e = absurd cc

-- What a test of the parts says of the list.
pub given_list : {A : Type 0} (read : List ℕ → Option A) (bs : List ℕ) (r : Bool) → r ≡ (bytes_eq bs (codes "-") || list_all (λ part. is_some (read part)) (slice_split (λ b. b == 44) bs)) → r ≡ true → IsSome (list_at read bs)
given_list read bs r e hit = sym (readable_list read bs) ∙ sym e ∙ hit

pub no_list : {A : Type 0} (read : List ℕ → Option A) (bs : List ℕ) (r : Bool) → r ≡ (bytes_eq bs (codes "-") || list_all (λ part. is_some (read part)) (slice_split (λ b. b == 44) bs)) → r ≡ false → list_at read bs ≡ None
no_list read bs r e miss = none_from (list_at read bs) (sym (readable_list read bs) ∙ sym e ∙ miss)

-- Where a list is cut at its first comma, its parts are what stands before it and the parts behind it.
pub parts_cut : (byte : ℕ) (bs before behind : List ℕ) → cut byte bs ≡ Some (before, behind) → slice_split (λ b. b == byte) bs ≡ before ∷ slice_split (λ b. b == byte) behind
unfolding cut
parts_cut byte [] before behind e = absurd cc
parts_cut byte (b ∷ bs) before behind e =
    elim (chosen (b == byte) (Some ([], bs)) (option_map (λ q. (b ∷ q.0, q.1)) (cut byte bs)) (Some (before, behind)) e) [
      | inl hit ↦
          let parts = some_pair_parts [] before bs behind hit.1 in
          rw hit.0 (cc (parts.0, parts.1))
      | inr miss ↦
          let m = map_some (λ (q : List ℕ × List ℕ). (b ∷ q.0, q.1)) (cut byte bs) (before, behind) miss.1 in
          let below = parts_cut byte bs m.0.0 m.0.1 m.1 in
          let front : b ∷ m.0.0 ≡ before = ap (λ (q : List ℕ × List ℕ). q.0) m.2 in
          let back : m.0.1 ≡ behind = ap (λ (q : List ℕ × List ℕ). q.1) m.2 in
          let whole : slice_split (λ c. c == byte) (b ∷ bs) ≡ (b ∷ m.0.0) ∷ slice_split (λ c. c == byte) m.0.1 = rw (miss.0, below) refl in
          whole ∙ ap (λ (x : List ℕ). x ∷ slice_split (λ c. c == byte) m.0.1) front ∙ ap (λ (y : List ℕ). before ∷ slice_split (λ c. c == byte) y) back
    ]

pub parts_whole : (byte : ℕ) (bs : List ℕ) → cut byte bs ≡ None → slice_split (λ b. b == byte) bs ≡ bs ∷ []
unfolding cut
parts_whole byte [] e = refl
parts_whole byte (b ∷ bs) e =
    elim (chosen (b == byte) (Some ([], bs)) (option_map (λ q. (b ∷ q.0, q.1)) (cut byte bs)) None e) [
      | inl hit ↦ absurd (cc hit.1)
      | inr miss ↦ rw (miss.0, parts_whole byte bs (map_none (λ (q : List ℕ × List ℕ). (b ∷ q.0, q.1)) (cut byte bs) miss.1)) refl
    ]

pub shorter_cut : (byte : ℕ) (bs before behind : List ℕ) → cut byte bs ≡ Some (before, behind) → length behind < length bs
shorter_cut byte bs before behind e = omega (arith, ap length (cut_some byte bs (before, behind) e), length-append before (byte ∷ behind))

pub ruleset list_parts = (parts_cut, parts_whole, shorter_cut)

-- The last item decides where the items before it are all readable.
pub last_item : (readable : List ℕ → Bool) (bs rest : List ℕ) → list_all readable (slice_split (λ b. b == 44) bs) ≡ list_all readable (slice_split (λ b. b == 44) rest) → cut 44 rest ≡ None → readable rest ≡ list_all readable (slice_split (λ b. b == 44) bs)
last_item readable bs rest so_far whole =
    sym (so_far ∙ ap (list_all readable) (parts_whole 44 rest whole) ∙ and-true (readable rest))
