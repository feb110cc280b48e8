-- What the tests for the same one tell.
use Rattle.std.proofs.Common.{◌≡◌, ◌↔◌, ◌==◌, ◌&&◌, ℕ, Bool, true, false, List, IsTrue, refl, ap}
use Rattle.std.proofs.lemmas.Bool.{and_from, and_parts, eq-eqb, eqb-true}
use Rattle.std.specs.Bool.{Decides, MatchBool}
use Rattle.std.specs.Cmp.Lexicographic.{pointwise, pointwise_decides}
use mathlib.Core.Bool.{beq}
use Rattle.pc_base.specs.Span.{same_key}
use Rattle.pc_lists.proofs.Same.{same_key-is, same_key-equal}

pub same_key_is : (one other : List ℕ) → IsTrue (same_key one other) → one ≡ other
same_key_is one other h = same_key-is one other h

pub equal_key_is : (one other : List ℕ) → one ≡ other → IsTrue (same_key one other)
equal_key_is one other h = same_key-equal one other h

pub same_bool : (one other : Bool) → IsTrue (beq one other) ↔ (one ≡ other)
same_bool true true = (λ h. refl, λ h. refl)
same_bool true false = (λ h. absurd cc, λ h. absurd cc)
same_bool false true = (λ h. absurd cc, λ h. absurd cc)
same_bool false false = (λ h. refl, λ h. refl)

-- past two gates that are not shut
pub past_gates : (one other : Bool) (P Q R : Type 0) → one ≡ false → other ≡ false → R ↔ MatchBool one P (MatchBool other Q R)
past_gates true other P Q R is isnt = absurd cc
past_gates false true P Q R is isnt = absurd cc
past_gates false false P Q R is isnt = (λ r. r, λ r. r)

pub both : {P Q R : Type 0} → P ↔ Q → Q ↔ R → P ↔ R
both one other = (λ p. other.0 (one.0 p), λ r. one.1 (other.1 r))

key-decides : (one other : List ℕ) → Decides (same_key one other) (one ≡ other)
key-decides one other = (same_key_is one other, equal_key_is one other)

-- the test of two lists of keys
pub keys_decide : (one other : List (List ℕ)) → Decides (pointwise same_key one other) (one ≡ other)
keys_decide one other = pointwise_decides key-decides one other

-- The test of two writes.
abbrev same_write : List ℕ × ℕ → List ℕ × ℕ → Bool
same_write one other = same_key one.0 other.0 && one.1 == other.1

write-decides : (one other : List ℕ × ℕ) → Decides (same_write one other) (one ≡ other)
write-decides one other = (there, back)
  where
    there : same_write one other ≡ true → one ≡ other
    there h =
        let parts = and_parts (same_key one.0 other.0) (one.1 == other.1) h in
        let key : one.0 ≡ other.0 = same_key_is one.0 other.0 parts.0 in
        let seq : one.1 ≡ other.1 = eqb-true one.1 other.1 parts.1 in
        λ i. (key i, seq i)

    back : one ≡ other → same_write one other ≡ true
    back h = and_from (same_key one.0 other.0) (one.1 == other.1) (equal_key_is one.0 other.0 (ap (λ w. w.0) h)) (eq-eqb one.1 other.1 (ap (λ w. w.1) h))

-- the test of two lists of writes
pub writes_decide : (one other : List (List ℕ × ℕ)) → Decides (pointwise same_write one other) (one ≡ other)
writes_decide one other = pointwise_decides write-decides one other
