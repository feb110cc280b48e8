-- The names of an object's members, as the map keeps them and as its value has them.
use Rattle.std.proofs.Common.{◌≡◌, ℕ, ◌&&◌, ◌||◌, List, [], ◌∷◌, map, Bor, String, Global, string_bytes, nat_eq, refl, ap}
use Rattle.std.specs.List.{list_any, list_all}
use Rattle.std.specs.Cmp.Lexicographic.{pointwise}
use Rattle.serde_json.specs.View.{members_view}
use Rattle.serde_json.specs.declared.value.Value.{Value}
use Rattle.pc_work.specs.Members.{is_among, only_among}

-- A name is among those behind references.
pub is_among_map : (names : List (Bor (List ℕ))) (name : List ℕ) → list_any (λ known. pointwise nat_eq known.now name) names ≡ is_among (map (λ known. known.now) names) name
is_among_map [] name = refl
is_among_map (known ∷ names) name = ap (λ found. pointwise nat_eq known.now name || found) (is_among_map names name)

-- A map's keys are the names of the members that it stands for.
pub only_among_keys : (names : List (List ℕ)) (entries : List (String Global × Value)) → only_among names (members_view entries) ≡ list_all (λ key. is_among names (string_bytes key)) (map (λ entry. entry.0) entries)
only_among_keys names [] = refl
only_among_keys names (entry ∷ entries) = ap (λ rest. is_among names (string_bytes entry.0) && rest) (only_among_keys names entries)
