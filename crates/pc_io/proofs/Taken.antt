-- Counting the bytes that were taken from a source.
use Rattle.std.proofs.Common.{◌≡◌, ℕ, ◌+◌, ◌≤◌, ◌↔◌, List, ◌++◌, length, take, drop, None, Some, IfSome, ap, sym, ◌∙◌, arith, length-append, length-take}
use Rattle.std.proofs.Math.Seq.{drop-append_seam}
use Rattle.std.specs.declared.option.Option.{Option}
use Rattle.std.specs.Io.KnownBytes.{Consumes}
use Rattle.std.proofs.KnownBytes.{Consumes-trans}
use Rattle.pc_io.specs.Reading.{TakesExactly, TakesAtMost}

-- a source that lost n bytes lost exactly n
TakesExactly-consumed : (left : List ℕ) (rest : Option (List ℕ)) (bytes : List ℕ) (n : ℕ) → Consumes (Some left) rest bytes → length bytes ≡ n
    → TakesExactly n left rest
TakesExactly-consumed left None bytes n took count = absurd took
TakesExactly-consumed left (Some rest) bytes n took count =
    let total : length left ≡ length bytes + length rest = ap length took ∙ length-append bytes rest in
    (omega arith, ap Some (sym (drop-append_seam bytes rest) ∙ ap (λ k. drop k (bytes ++ rest)) count ∙ ap (drop n) (sym took)))

-- where n bytes were taken, both sides hold
exactly_taken : {P : Type 0} (left rest : Option (List ℕ)) (bytes : List ℕ) (n : ℕ) → Consumes left rest bytes → length bytes ≡ n → P
    → IfSome left (λ xs. P ↔ TakesExactly n xs rest)
exactly_taken None rest bytes n took count holds = tt
exactly_taken (Some left) rest bytes n took count holds =
    (λ _. TakesExactly-consumed left rest bytes n took count, λ _. holds)

-- one more read made the number of bytes n
pub exactly_taken-more : {P : Type 0} (left mid rest : Option (List ℕ)) (bytes into : List ℕ) (count n : ℕ) → Consumes left mid bytes → Consumes mid rest (take count into)
    → count ≤ length into → length bytes + count ≡ n → P → IfSome left (λ xs. P ↔ TakesExactly n xs rest)
exactly_taken-more left mid rest bytes into count n before more fits total holds =
    exactly_taken left rest (bytes ++ take count into) n (Consumes-trans left mid rest bytes (take count into) before more)
    (omega (arith, length-append bytes (take count into), length-take count into)) holds

-- one more read, within what may be taken
pub TakesAtMost-more : (left mid rest : Option (List ℕ)) (bytes into : List ℕ) (count most : ℕ) → Consumes left mid bytes → Consumes mid rest (take count into)
    → length bytes + count ≤ most → TakesAtMost most left rest
TakesAtMost-more left mid rest bytes into count most before more total = (
  bytes ++ take count into,
  Consumes-trans left mid rest bytes (take count into) before more,
  omega (arith, length-append bytes (take count into), length-take count into),
)
