-- What is below the greatest timestamp in a range whose timestamps all are.
use Rattle.std.proofs.Common.{◌≡◌, ℕ, ◌<◌, List, [], ◌∷◌, map, fold, All, Option, None, Some, IfSome, ◌++◌, get_or, length-append, subst, arith}
use Rattle.std.proofs.lemmas.List.Elements.{All-head, All-tail}
use Rattle.std.proofs.lemmas.List.{get_or_append_left}
use Rattle.std.proofs.lemmas.Grind.{common_steps}
use Rattle.pc_base.specs.declared.version.Version.{Version}
use Rattle.pc_base.specs.Span.{same_key}
use Rattle.pc_base.specs.Versions.{later, newest}
use Rattle.pc_base.specs.Timestamp.{greatest}
use Rattle.pc_world.specs.RangeState.{RangeState}
use Rattle.pc_world.specs.Stamps.{AllBelowGreatest, state_stamps}
use Rattle.std.specs.List.{filter}

below-later : (best : Option Version) (v : Version) → IfSome best (λ w. w.ts < greatest) → v.ts < greatest → IfSome (later best v) (λ w. w.ts < greatest)
below-later best v h k = grind (arith, common_steps)

below-newest : (key : List ℕ) (versions : List Version) (best : Option Version) → IfSome best (λ w. w.ts < greatest) → AllBelowGreatest (map (λ v. v.ts) versions) → IfSome (fold later best (filter (λ v. same_key v.key key) versions)) (λ w. w.ts < greatest)
below-newest key [] best h all = h
below-newest key (v ∷ vs) best h all =
    let head = All-head (λ ts. ts < greatest) v.ts (map (λ v. v.ts) vs) all in
    let tail = All-tail (λ ts. ts < greatest) v.ts (map (λ v. v.ts) vs) all in
    let next = below-later best v h head in
    grind (arith, common_steps, below-newest key vs best h tail, below-newest key vs (later best v) next tail)

pub newest_has_room : (key : List ℕ) (versions : List Version) (v : Version) → AllBelowGreatest (map (λ v. v.ts) versions) → newest key versions ≡ Some v → v.ts < greatest
newest_has_room key versions v all found = let h = below-newest key versions None tt all in grind (arith, common_steps)

front : {X : Type 0} (P : X → Type 0) (xs ys : List X) → All P (xs ++ ys) → All P xs
front P xs ys all = λ k d h. let at : get_or (xs ++ ys) k d ≡ get_or xs k d = get_or_append_left xs ys d k h in subst P at (all k d (omega (arith, length-append xs ys)))

pub versions_have_room : (s : RangeState) → AllBelowGreatest (state_stamps s) → AllBelowGreatest (map (λ v. v.ts) s.versions)
versions_have_room s all =
    let rest = All-tail (λ ts. ts < greatest) _ _ all in
    front (λ ts. ts < greatest) (map (λ v. v.ts) s.versions) _ rest
