-- What holds of each element of a list that is walked.
use Rattle.std.proofs.Common.{◌≡◌, All, Contains, List, [], ◌∷◌, ◌++◌, map, sym}
use Rattle.std.proofs.lemmas.List.{map-append}
use Rattle.std.proofs.lemmas.List.Elements.{All-contains, All-push}
use Rattle.pc_lists.proofs.Lists.{contains_head, contains_tail}

contains-last : {A : Type 0} (front : List A) (x : A) (rest : List A) → Contains (front ++ x ∷ rest) x
contains-last [] x rest = contains_head x rest
contains-last (y ∷ front) x rest = contains_tail y (front ++ x ∷ rest) x (contains-last front x rest)

module _ {A : Type 0} (P : A → Type 0) where
  pub all_of_last : (front : List A) (x : A) (rest : List A) → All P (front ++ x ∷ rest) → P x
  all_of_last front x rest h = All-contains P (front ++ x ∷ rest) x h (contains-last front x rest)

  pub all_with_last : (front : List A) (x : A) → All P front → P x → All P (front ++ x ∷ [])
  all_with_last front x h p = All-push P front x h p

pub map_with_last : {R A : Type 0} (shows : R → A) (ys : List R) (y : R) → map shows ys ++ shows y ∷ [] ≡ map shows (ys ++ y ∷ [])
map_with_last shows ys y = sym (map-append shows ys (y ∷ []))
