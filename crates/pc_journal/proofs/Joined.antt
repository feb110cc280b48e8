-- What is joined by a byte is the first piece, and the byte before each of the others.
use Rattle.std.proofs.Common.{◌≡◌, ℕ, List, [], ◌∷◌, ◌++◌, map, sym, ap, ◌∙◌, append-nil}
use Rattle.std.specs.List.{flat_map, join_with_byte}
use Rattle.pc_journal.specs.Lists.{listed}

pub joined : {A : Type 0} (byte : ℕ) (text : A → List ℕ) (first : List ℕ) (rest : List A) → join_with_byte byte (first ∷ map text rest) ≡ first ++ flat_map (λ item. byte ∷ text item) rest
joined byte text first [] = sym (append-nil first)
joined byte text first (second ∷ rest) = ap (λ more. first ++ (byte ∷ more)) (joined byte text (text second) rest)

-- A list of the first item and the rest is spelled so.
pub listed_first : {A : Type 0} (text : A → List ℕ) (items : List A) (first : A) (rest : List A) → items ≡ first ∷ rest → listed text items ≡ text first ++ flat_map (λ item. 44 ∷ text item) rest
listed_first text items first rest split = ap (listed text) split ∙ joined 44 text (text first) rest
