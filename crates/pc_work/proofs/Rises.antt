-- Keys that rise, by neighbours as the code compares them.
use Rattle.std.proofs.Common.{◌≡◌, ℕ, zero, suc, ◌+◌, ◌<◌, ◌&&◌, Bool, true, false, List, [], ◌∷◌, length, get_or, refl, sym, ap, subst, ◌∙◌, arith}
use Rattle.std.specs.List.{IsAllAdjacentAnswer}
use Rattle.std.proofs.lemmas.Bool.{and_right}
use Rattle.pc_base.specs.Span.{key_below}
use Rattle.pc_base.specs.Rising.{keys_rise}

all_rise : (keys : List (List ℕ)) → ((k : ℕ) (d : List ℕ) → k + 1 < length keys → true ≡ key_below (get_or keys k d) (get_or keys (k + 1) d)) → true ≡ keys_rise keys
all_rise [] h = refl
all_rise (key ∷ []) h = refl
all_rise (key ∷ next ∷ others) h =
    let here : true ≡ key_below key next = h 0 key (omega arith) in
    let behind = λ (k : ℕ) (d : List ℕ) (within : k + 1 < length (next ∷ others)).
    (let more : suc k + 1 ≡ suc (k + 1) = omega arith in subst (λ n. true ≡ key_below (get_or (next ∷ others) k d) (get_or (key ∷ next ∷ others) n d)) more (h (suc k) d (omega arith))) in
    all_rise (next ∷ others) behind ∙ ap (λ first. first && keys_rise (next ∷ others)) here

one_falls : (keys : List (List ℕ)) (k : ℕ) → k + 1 < length keys → ((d : List ℕ) → false ≡ key_below (get_or keys k d) (get_or keys (k + 1) d)) → false ≡ keys_rise keys
one_falls [] k within h = absurd (omega arith)
one_falls (key ∷ []) k within h = absurd (omega arith)
one_falls (key ∷ next ∷ others) zero within h =
    let here : false ≡ key_below key next = h key in
    ap (λ first. first && keys_rise (next ∷ others)) here
one_falls (key ∷ next ∷ others) (suc k) within h =
    let more : suc k + 1 ≡ suc (k + 1) = omega arith in
    let behind = λ (d : List ℕ). subst (λ n. false ≡ key_below (get_or (next ∷ others) k d) (get_or (key ∷ next ∷ others) n d)) more (h d) in
    sym (and_right (key_below key next) (keys_rise (next ∷ others)) (sym (one_falls (next ∷ others) k (omega arith) behind)))

-- What comparing each key with its neighbour answers.
pub rises_is : (keys : List (List ℕ)) (answer : Bool) → IsAllAdjacentAnswer (λ key next b. b ≡ key_below key next) keys answer → answer ≡ keys_rise keys
rises_is keys true h = all_rise keys h
rises_is keys false h = one_falls keys h.0 h.1 h.2
