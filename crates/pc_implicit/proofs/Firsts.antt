-- The first that the elements of a list give, of a list that is one element longer.
use Rattle.std.proofs.Common.{◌≡◌, List, [], ◌∷◌, ◌++◌, filter_map, slice_get, Option, None, Some, refl, sym, ap, ◌∙◌}
use Rattle.std.proofs.lemmas.List.Elements.{filter_map-append}
use Rattle.std.specs.List.{cons_option}
use Rattle.std.specs.Option.{option_or}

pub or_none : {Y : Type 0} (o : Option Y) → option_or o None ≡ o
or_none None = refl
or_none (Some y) = refl

first-joined : {Y : Type 0} (ys : List Y) (o : Option Y) → slice_get (ys ++ cons_option o []) 0 ≡ option_or (slice_get ys 0) o
first-joined [] None = refl
first-joined [] (Some y) = refl
first-joined (y ∷ ys) o = refl

-- the first stays, and where there was none it is the new element's
pub first_push : {X Y : Type 0} (f : X → Option Y) (xs : List X) (x : X) → slice_get (filter_map f (xs ++ x ∷ [])) 0 ≡ option_or (slice_get (filter_map f xs) 0) (f x)
first_push f xs x = ap (λ ys. slice_get ys 0) (filter_map-append f xs (x ∷ [])) ∙ first-joined (filter_map f xs) (f x)

none-joined : {Y : Type 0} (ys zs : List Y) → slice_get (ys ++ zs) 0 ≡ None → slice_get ys 0 ≡ None
none-joined [] zs h = refl
none-joined (y ∷ ys) zs h = absurd cc

-- what gives none has no beginning that gives one
pub none_front : {X Y : Type 0} (f : X → Option Y) (xs ys : List X) → slice_get (filter_map f (xs ++ ys)) 0 ≡ None → slice_get (filter_map f xs) 0 ≡ None
none_front f xs ys h = none-joined (filter_map f xs) (filter_map f ys) (ap (λ zs. slice_get zs 0) (sym (filter_map-append f xs ys)) ∙ h)
