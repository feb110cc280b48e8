-- Texts that begin with a word: which word it is decides how what stands behind it is read.
use Rattle.std.proofs.Common.{◌≡◌, ℕ, Bool, List, ◌∷◌, ◌++◌, Option, None, Some, refl, ap, subst, ◌∙◌, inl, inr, bytes_eq}
use Rattle.std.proofs.lemmas.Option.{same_Some}
use Rattle.std.proofs.lemmas.Slice.Eq.{bytes_eq-Decides}
use Rattle.pc_spelling.specs.Cutting.{cut, word_of, word_or_all, or_word, no_word, alone, behind}
use Rattle.pc_spelling.proofs.Cuts.{chosen, map_some, cut_some}
use Rattle.pc_spelling.proofs.Readings.{IsReading}

-- A word with what stands behind it.
abbrev pub worded : ℕ → List ℕ → Option (List ℕ) → List ℕ
worded byte word None = word
worded byte word (Some rest) = word ++ (byte ∷ rest)

-- Where one kind of words is read, what is read is spelled so.
pub record OneWord {A : Type 0} (byte : ℕ) (P : A → Type 0) (text : A → List ℕ) (word : List ℕ) (one : Option (List ℕ) → Option A) : Type 0 where
  pub takes : (rest : Option (List ℕ)) (x : A) → one rest ≡ Some x → (worded byte word rest ≡ text x) × P x

pub record SomeWords {A : Type 0} (byte : ℕ) (P : A → Type 0) (text : A → List ℕ) (words : List ℕ × Option (List ℕ) → Option A) : Type 0 where
  pub takes : (p : List ℕ × Option (List ℕ)) (x : A) → words p ≡ Some x → (worded byte p.0 p.1 ≡ text x) × P x

word_of_text : (byte : ℕ) (bs : List ℕ) (o : Option (List ℕ × List ℕ)) → ((p : List ℕ × List ℕ) → o ≡ Some p → bs ≡ p.0 ++ (byte ∷ p.1)) → bs ≡ worded byte (word_or_all bs o).0 (word_or_all bs o).1
word_of_text byte bs None h = refl
word_of_text byte bs (Some p) h = h p refl

pub words_take : {A : Type 0} {P : A → Type 0} {text : A → List ℕ} {words : List ℕ × Option (List ℕ) → Option A} (byte : ℕ) → SomeWords byte P text words → (bs : List ℕ) (x : A) → words (word_of byte bs) ≡ Some x → (bs ≡ text x) × P x
words_take byte h bs x e =
    let taken = h.takes (word_of byte bs) x e in
    (word_of_text byte bs (cut byte bs) (cut_some byte bs) ∙ taken.0, taken.1)

pub or_word_takes : {A : Type 0} {P : A → Type 0} {text : A → List ℕ} {one : Option (List ℕ) → Option A} {other : List ℕ × Option (List ℕ) → Option A} {byte : ℕ} {word : List ℕ} → OneWord byte P text word one → SomeWords byte P text other → SomeWords byte P text (or_word word one other)
or_word_takes {A} {P} {text} {one} {other} {byte} {word} first below = record {
  takes = λ p x e.
      elim (chosen (bytes_eq p.0 word) (one p.1) (other p) (Some x) e) [
        | inl hit ↦
            let taken = first.takes p.1 x hit.1 in
            (ap (λ (w : List ℕ). worded byte w p.1) ((bytes_eq-Decides p.0 word).0 hit.0) ∙ taken.0, taken.1)
        | inr miss ↦ below.takes p x miss.1
      ];
}

pub no_word_takes : {A : Type 0} {P : A → Type 0} {text : A → List ℕ} {byte : ℕ} → SomeWords byte P text no_word
no_word_takes = record { takes = λ p x e. absurd cc }

pub alone_takes : {A : Type 0} {P : A → Type 0} {text : A → List ℕ} {byte : ℕ} {word : List ℕ} (value : A) → P value → word ≡ text value → OneWord byte P text word (alone value)
alone_takes {A} {P} {text} {byte} {word} value h spelled = record { takes = λ rest x e. go rest x e }
  where
    go : (rest : Option (List ℕ)) (x : A) → alone value rest ≡ Some x → (worded byte word rest ≡ text x) × P x
    go None x e = subst (λ (y : A). (word ≡ text y) × P y) (same_Some value x e) (spelled, h)
    go (Some rest) x e = absurd cc

pub behind_takes : {A B : Type 0} {class : ℕ → Bool} {P : A → Type 0} {Q : B → Type 0} {text : A → List ℕ} {t : B → List ℕ} {f : List ℕ → Option B} {byte : ℕ} {word : List ℕ} (make : B → A) → ((b : B) → Q b → P (make b) × (word ++ (byte ∷ t b) ≡ text (make b))) → IsReading class Q t f → OneWord byte P text word (behind make f)
behind_takes {A} {B} {class} {P} {Q} {text} {t} {f} {byte} {word} make into r = record { takes = λ rest x e. go rest x e }
  where
    go : (rest : Option (List ℕ)) (x : A) → behind make f rest ≡ Some x → (worded byte word rest ≡ text x) × P x
    go None x e = absurd cc
    go (Some rest) x e =
        let m = map_some make (f rest) x e in
        let taken = r.takes rest m.0 m.1 in
        let made = into m.0 taken.1 in
        subst (λ (y : A). (word ++ (byte ∷ rest) ≡ text y) × P y) m.2 (ap (λ (bs : List ℕ). word ++ (byte ∷ bs)) taken.0 ∙ made.1, made.0)
