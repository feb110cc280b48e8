-- What stands at the places of two lists that belong together.
use Rattle.std.proofs.Common.{◌≡◌, ℕ, zero, suc, ◌<◌, ◌≤◌, inl, inr, Contains, List, [], ◌∷◌, ◌++◌, length, slice_get, slice_index_or, insert, remove, take, Some, refl, sym, ap, subst, ◌∙◌, arith}
use Rattle.std.proofs.lemmas.List.{append-nil, append_assoc}
use Rattle.std.proofs.lemmas.List.Elements.{Contains-append_right}
use Rattle.std.specs.List.{AllZip}
use Rattle.pc_lists.proofs.Lists.{contains_cons, contains_head, contains_nil, contains_tail}
use Rattle.pc_lists.proofs.Zips.{zip_from}

pub there : {X : Type 0} (xs : List X) (i : ℕ) → i < length xs → (x : X) × (slice_get xs i ≡ Some x)
there [] i lt = absurd (omega arith)
there (x ∷ xs) zero lt = (x, refl)
there (x ∷ xs) (suc i) lt = there xs i (omega arith)

-- a list of which the first one was taken
pub is_cut : {X : Type 0} (xs others : List X) (first : X) → 1 ≤ length xs → first ≡ slice_index_or xs 0 first → others ≡ remove xs 0 → xs ≡ first ∷ others
is_cut [] others first some value rest = absurd (omega arith)
is_cut (x ∷ xs) others first some value rest = λ i. sym value i ∷ sym rest i

-- and one to which one was put in front
pub insert_front : {X : Type 0} (xs : List X) (x : X) → insert xs 0 x ≡ x ∷ xs
insert_front [] x = refl
insert_front (y ∷ ys) x = refl

-- and one whose items were all written
pub written_back : {X : Type 0} (ys rest : List X) (n : ℕ) → n ≡ length ys → take n (ys ++ rest) ≡ ys
written_back {X} ys rest n long = ap (λ m. take m (ys ++ rest)) long ∙ take-front ys
  where
    take-front : (ys : List X) → take (length ys) (ys ++ rest) ≡ ys
    take-front [] = refl
    take-front (y ∷ ys) = ap (λ zs. y ∷ zs) (take-front ys)

module _ {X Y : Type 0} (R : X → Y → Type 0) where
  pub zip_long : (xs : List X) (ys : List Y) → AllZip R xs ys → length ys ≡ length xs
  zip_long [] [] zips = refl
  zip_long [] (y ∷ ys) zips = absurd zips
  zip_long (x ∷ xs) [] zips = absurd zips
  zip_long (x ∷ xs) (y ∷ ys) zips = ap suc (zip_long xs ys zips.1)

  -- what the other list has at the same place
  pub zip_at : (xs : List X) (ys : List Y) (i : ℕ) (y : Y) → AllZip R xs ys → slice_get ys i ≡ Some y → (x : X) × (slice_get xs i ≡ Some x) × R x y
  zip_at [] [] i y zips at = absurd cc
  zip_at [] (b ∷ ys) i y zips at = absurd zips
  zip_at (a ∷ xs) [] i y zips at = absurd zips
  zip_at (a ∷ xs) (b ∷ ys) zero y zips at = let same : b ≡ y = cc in (a, refl, subst (R a) same zips.0)
  zip_at (a ∷ xs) (b ∷ ys) (suc i) y zips at = zip_at xs ys i y zips.1 at

  pub zip_push : (xs : List X) (ys : List Y) (x : X) (y : Y) → AllZip R xs ys → R x y → AllZip R (xs ++ x ∷ []) (ys ++ y ∷ [])
  zip_push [] [] x y zips is = (is, tt)
  zip_push [] (b ∷ ys) x y zips is = absurd zips
  zip_push (a ∷ xs) [] x y zips is = absurd zips
  zip_push (a ∷ xs) (b ∷ ys) x y zips is = (zips.0, zip_push xs ys x y zips.1 is)

  pub zip_all : (P : X → Type 0) (Q : Y → Type 0) → ((x : X) (y : Y) → P x → R x y → Q y) → (xs : List X) (ys : List Y) → AllZip R xs ys → ((x : X) → Contains xs x → P x) → (y : Y) → Contains ys y → Q y
  zip_all P Q on [] [] zips all y c = absurd (contains_nil y c)
  zip_all P Q on [] (b ∷ ys) zips all y c = absurd zips
  zip_all P Q on (a ∷ xs) [] zips all y c = absurd zips
  zip_all P Q on (a ∷ xs) (b ∷ ys) zips all y c = elim (contains_cons b ys y c) [
    | inl same ↦ subst Q same (on a b (all a (contains_head a xs)) zips.0)
    | inr later ↦ zip_all P Q on xs ys zips.1 (λ x cx. all x (contains_tail a xs x cx)) y later
  ]

-- The items before those that are left belong to these.
pub record ZipsBut {X Y : Type 0} (R : X → Y → Type 0) (all left : List X) (made : List Y) : Type 0 where
  pub done : List X
  pub whole : all ≡ done ++ left
  pub zips : AllZip R done made

module _ {X Y : Type 0} (R : X → Y → Type 0) where
  pub zips_none : (all : List X) → ZipsBut R all all []
  zips_none all = record { done = []; whole = refl; zips = tt }

  pub zips_more : (all left : List X) (next : X) (made : List Y) (y : Y) → ZipsBut R all (next ∷ left) made → R next y → ZipsBut R all left (made ++ y ∷ [])
  zips_more all left next made y so_far is = record {
    done = so_far.done ++ next ∷ [];
    whole = so_far.whole ∙ sym (append_assoc so_far.done (next ∷ []) left);
    zips = zip_push R so_far.done made next y so_far.zips is;
  }

  pub zips_all : (all : List X) (made : List Y) → ZipsBut R all [] made → AllZip R all made
  zips_all all made so_far = subst (λ xs. AllZip R xs made) (sym (append-nil so_far.done) ∙ sym so_far.whole) so_far.zips

  -- the next one is one of all
  pub zips_next : (all left : List X) (next : X) (made : List Y) → ZipsBut R all (next ∷ left) made → Contains all next
  zips_next all left next made so_far = subst (λ xs. Contains xs next) (sym so_far.whole) (Contains-append_right so_far.done (next ∷ left) next (contains_head next left))

-- What was run at each place, and then written back over the list that was run.
pub ran_back : {X : Type 0} (R : X → X → Type 0) (whole gone rest xs : List X) (n : ℕ) → whole ≡ xs → n ≡ length xs → length gone ≡ length whole → ((i : ℕ) (d : X) → i < length whole → R (slice_index_or whole i d) (slice_index_or gone i d)) → AllZip R xs (take n (gone ++ rest))
ran_back R whole gone rest xs n same count long each =
    let ran = subst (λ ls. AllZip R ls gone) same (zip_from R whole gone long each) in
    subst (AllZip R xs) (sym (written_back gone rest n (count ∙ sym (zip_long R xs gone ran)))) ran
