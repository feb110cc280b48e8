-- A list that is walked beside another one.
use Rattle.std.proofs.Common.{◌≡◌, List, [], ◌∷◌, ◌++◌, map, refl, ap, ◌∙◌}

pub rests_same : {A : Type 0} (front rest other : List A) → front ++ rest ≡ front ++ other → rest ≡ other
rests_same [] rest other same = same
rests_same (x ∷ front) rest other same = rests_same front rest other (let e = same in cc)

one-more : {R A : Type 0} (shows : R → A) (ys : List R) (y : R) (later : List A) → map shows ys ++ shows y ∷ later ≡ map shows (ys ++ y ∷ []) ++ later
one-more shows [] y later = refl
one-more shows (x ∷ ys) y later = ap (λ zs. shows x ∷ zs) (one-more shows ys y later)

pub walked_more : {R A : Type 0} (shows : R → A) (ys : List R) (y : R) (keys rest later : List A) → keys ≡ map shows ys ++ rest → rest ≡ shows y ∷ later → keys ≡ map shows (ys ++ y ∷ []) ++ later
walked_more shows ys y keys rest later before first = before ∙ ap (λ zs. map shows ys ++ zs) first ∙ one-more shows ys y later
