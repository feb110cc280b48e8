-- What holds of each reading beside its text: what was printed is read again, what is read is spelled so, and of which bytes
-- the text is made. That of a whole is composed of those of its parts.
use Rattle.std.proofs.Common.{◌≡◌, ◌<◌, ℕ, Bool, true, false, ◌==◌, List, [], ◌∷◌, ◌++◌, map, length, Option, None, Some, option_map, option_and_then, refl, sym, ap, subst, ◌∙◌, inl, inr, arith, codes, bytes_eq, IfSome, All}
use Rattle.std.specs.List.{list_all, slice_split, join_with_byte, AllByRecursion}
use Rattle.std.proofs.lemmas.Bool.{cases_Bool}
use Rattle.std.proofs.lemmas.Option.{same_Some}
use Rattle.std.proofs.lemmas.List.Elements.{All-from_recursion, recursion_from_All}
use Rattle.std.proofs.lemmas.List.Splits.{join_with_byte-slice_split, length-slice_split}
use Rattle.std.proofs.lemmas.Slice.Eq.{bytes_eq-Decides}
use Rattle.pc_journal.specs.Lists.{listed}
use Rattle.pc_journal.specs.Optional.{or_dash}
use Rattle.pc_spelling.specs.Cutting.{cut, each_part, both, made, or_dash_at, each_at, list_at}
use Rattle.pc_spelling.proofs.ByteClasses.{IsWithin, all_within, all_joined, true_both}
use Rattle.pc_spelling.proofs.Cuts.{chosen, map_some, then_some, cut_at, cut_some, split_at, split_none}

-- The reading is that of the text, for what has this property, and the text is made of such bytes.
pub record IsReading {A : Type 0} (class : ℕ → Bool) (P : A → Type 0) (text : A → List ℕ) (read : List ℕ → Option A) : Type 0 where
  pub again : (x : A) → P x → read (text x) ≡ Some x
  pub takes : (bs : List ℕ) (x : A) → read bs ≡ Some x → (bs ≡ text x) × P x
  pub bytes : (x : A) → P x → list_all class (text x) ≡ true

pub wider : {A : Type 0} {inner outer : ℕ → Bool} {P : A → Type 0} {text : A → List ℕ} {read : List ℕ → Option A} → IsWithin inner outer → IsReading inner P text read → IsReading outer P text read
wider within r = record { again = r.again; takes = r.takes; bytes = λ x h. all_within within _ (r.bytes x h) }

-- ---- two parts

both_again : {A B : Type 0} (class : ℕ → Bool) (byte : ℕ) (one : List ℕ → Option A) (other : List ℕ → Option B) (xs ys : List ℕ) (x : A) (y : B) → class byte ≡ false → list_all class xs ≡ true → one xs ≡ Some x → other ys ≡ Some y → both byte one other (xs ++ (byte ∷ ys)) ≡ Some (x, y)
both_again class byte one other xs ys x y out clear p q = rw (cut_at class byte out xs ys clear, p, q) refl

pair_parts : {A B : Type 0} (a x : A) (b y : B) → ◌≡◌ {A = A × B} (a, b) (x, y) → (a ≡ x) × (b ≡ y)
pair_parts a x b y e = (ap (λ p. p.0) e, ap (λ p. p.1) e)

pub each_part_takes : {A B : Type 0} (one : List ℕ → Option A) (other : List ℕ → Option B) (cuts : Option (List ℕ × List ℕ)) (p : A × B) → each_part one other cuts ≡ Some p → (parts : List ℕ × List ℕ) × (cuts ≡ Some parts) × (one parts.0 ≡ Some p.0) × (other parts.1 ≡ Some p.1)
each_part_takes one other cuts p e =
    let a = then_some (λ (q : List ℕ × List ℕ). option_and_then (λ x. option_map (λ y. (x, y)) (other q.1)) (one q.0)) cuts p e in
    let b = then_some (λ x. option_map (λ y. (x, y)) (other a.0.1)) (one a.0.0) p a.2 in
    let c = map_some (λ y. (b.0, y)) (other a.0.1) p b.2 in
    (a.0, a.1, b.1 ∙ ap Some (pair_parts b.0 p.0 c.0 p.1 c.2).0, c.1 ∙ ap Some (pair_parts b.0 p.0 c.0 p.1 c.2).1)

pub both_reading : {A B : Type 0} {inner outer : ℕ → Bool} {P : A → Type 0} {Q : B → Type 0} {s : A → List ℕ} {t : B → List ℕ} {f : List ℕ → Option A} {g : List ℕ → Option B} (byte : ℕ) → inner byte ≡ false → outer byte ≡ true → IsWithin inner outer → IsReading inner P s f → IsReading outer Q t g → IsReading outer (λ (p : A × B). P p.0 × Q p.1) (λ (p : A × B). s p.0 ++ (byte ∷ t p.1)) (both byte f g)
both_reading {A} {B} {inner} {outer} {P} {Q} {s} {t} {f} {g} byte out here within one other = record {
  again = λ p h. both_again inner byte f g (s p.0) (t p.1) p.0 p.1 out (one.bytes p.0 h.0) (one.again p.0 h.0) (other.again p.1 h.1);
  takes = λ bs p e.
      let parts = each_part_takes f g (cut byte bs) p e in
      let first = one.takes parts.0.0 p.0 parts.2 in
      let second = other.takes parts.0.1 p.1 parts.3 in
      (cut_some byte bs parts.0 parts.1 ∙ ap (λ (xs : List ℕ). xs ++ (byte ∷ parts.0.1)) first.0 ∙ ap (λ (ys : List ℕ). s p.0 ++ (byte ∷ ys)) second.0, (first.1, second.1));
  bytes = λ p h. all_joined outer (s p.0) (byte ∷ t p.1) (all_within within (s p.0) (one.bytes p.0 h.0)) (true_both (outer byte) (list_all outer (t p.1)) here (other.bytes p.1 h.1));
}

-- ---- what is made of another

pub made_reading : {A B : Type 0} {class : ℕ → Bool} {P : A → Type 0} {Q : B → Type 0} {s : A → List ℕ} {t : B → List ℕ} {f : List ℕ → Option A} (make : A → B) → ((b : B) → Q b → (a : A) × P a × (make a ≡ b)) → ((a : A) → P a → Q (make a) × (t (make a) ≡ s a)) → IsReading class P s f → IsReading class Q t (made make f)
made_reading {A} {B} {class} {P} {Q} {s} {t} {f} make out into one = record {
  again = λ b q.
      let a = out b q in
      ap (λ (x : B). option_map make (f (t x))) (sym a.2) ∙ ap (λ (xs : List ℕ). option_map make (f xs)) (into a.0 a.1).1 ∙ ap (option_map make) (one.again a.0 a.1) ∙ ap Some a.2;
  takes = λ bs b e.
      let m = map_some make (f bs) b e in
      let taken = one.takes bs m.0 m.1 in
      subst (λ (x : B). (bs ≡ t x) × Q x) m.2 (taken.0 ∙ sym (into m.0 taken.1).1, (into m.0 taken.1).0);
  bytes = λ b q.
      let a = out b q in
      subst (λ (x : B). list_all class (t x) ≡ true) a.2 (ap (list_all class) (into a.0 a.1).1 ∙ one.bytes a.0 a.1);
}

-- ---- what may be absent, and lists

same_bytes : (xs ys : List ℕ) → bytes_eq xs ys ≡ true → xs ≡ ys
same_bytes xs ys e = (bytes_eq-Decides xs ys).0 e

-- What the reading never gives is no text of it.
pub no_text : {A : Type 0} {class : ℕ → Bool} {P : A → Type 0} {text : A → List ℕ} {read : List ℕ → Option A} (other : List ℕ) → read other ≡ None → IsReading class P text read → (x : A) → P x → bytes_eq (text x) other ≡ false
no_text {A} {class} {P} {text} {read} other none r x h =
    elim (cases_Bool (bytes_eq (text x) other)) [
      | inl hit ↦ absurd (cc (r.again x h, ap read (same_bytes (text x) other hit), none))
      | inr miss ↦ miss
    ]

pub or_dash_reading : {A : Type 0} {class : ℕ → Bool} {P : A → Type 0} {text : A → List ℕ} {read : List ℕ → Option A} → read (codes "-") ≡ None → class 45 ≡ true → IsReading class P text read → IsReading class (λ (o : Option A). IfSome o P) (or_dash text) (or_dash_at read)
or_dash_reading {A} {class} {P} {text} {read} none dash r = record {
  again = λ o h. dash_again o h;
  takes = λ bs o e. dash_takes bs o e;
  bytes = λ o h. dash_bytes o h;
}
  where
    dash_again : (o : Option A) → IfSome o P → or_dash_at read (or_dash text o) ≡ Some o
    dash_again None h = refl
    dash_again (Some x) h = rw (no_text (codes "-") none r x h, r.again x h) refl

    dash_takes : (bs : List ℕ) (o : Option A) → or_dash_at read bs ≡ Some o → (bs ≡ or_dash text o) × IfSome o P
    dash_takes bs o e =
        elim (chosen (bytes_eq bs (codes "-")) (Some None) (option_map Some (read bs)) (Some o) e) [
          | inl hit ↦ subst (λ (x : Option A). (bs ≡ or_dash text x) × IfSome x P) (same_Some None o hit.1) (same_bytes bs (codes "-") hit.0, tt)
          | inr miss ↦
              let m = map_some Some (read bs) o miss.1 in
              subst (λ (x : Option A). (bs ≡ or_dash text x) × IfSome x P) m.2 (r.takes bs m.0 m.1)
        ]

    dash_bytes : (o : Option A) → IfSome o P → list_all class (or_dash text o) ≡ true
    dash_bytes None h = rw dash refl
    dash_bytes (Some x) h = r.bytes x h

-- ---- lists

-- Texts of a class that lacks the byte are found again in what they are joined to.
pub split_joined : (class : ℕ → Bool) (byte : ℕ) → class byte ≡ false → (first : List ℕ) (rest : List (List ℕ)) → list_all class first ≡ true → AllByRecursion (λ (bs : List ℕ). list_all class bs ≡ true) rest → slice_split (λ b. b == byte) (join_with_byte byte (first ∷ rest)) ≡ first ∷ rest
split_joined class byte out first [] h hs = split_none class byte out first h
split_joined class byte out first (second ∷ rest) h hs =
    split_at class byte out first (join_with_byte byte (second ∷ rest)) h ∙ ap (λ (below : List (List ℕ)). first ∷ below) (split_joined class byte out second rest hs.0 hs.1)

-- Texts are joined to bytes of each class that has their bytes and the byte between them.
pub joined_bytes : (class : ℕ → Bool) (byte : ℕ) → class byte ≡ true → (first : List ℕ) (rest : List (List ℕ)) → list_all class first ≡ true → AllByRecursion (λ (bs : List ℕ). list_all class bs ≡ true) rest → list_all class (join_with_byte byte (first ∷ rest)) ≡ true
joined_bytes class byte here first [] h hs = h
joined_bytes class byte here first (second ∷ rest) h hs =
    all_joined class first (byte ∷ join_with_byte byte (second ∷ rest)) h (true_both (class byte) (list_all class (join_with_byte byte (second ∷ rest))) here (joined_bytes class byte here second rest hs.0 hs.1))

pub texts_bytes : {A : Type 0} {class : ℕ → Bool} {P : A → Type 0} {text : A → List ℕ} {read : List ℕ → Option A} → IsReading class P text read → (xs : List A) → AllByRecursion P xs → AllByRecursion (λ (bs : List ℕ). list_all class bs ≡ true) (map text xs)
texts_bytes r [] h = tt
texts_bytes r (x ∷ xs) h = (r.bytes x h.0, texts_bytes r xs h.1)

pub each_again : {A : Type 0} {class : ℕ → Bool} {P : A → Type 0} {text : A → List ℕ} {read : List ℕ → Option A} → IsReading class P text read → (xs : List A) → AllByRecursion P xs → each_at read (map text xs) ≡ Some xs
each_again r [] h = refl
each_again r (x ∷ xs) h = rw (r.again x h.0, each_again r xs h.1) refl

pub each_takes : {A : Type 0} {class : ℕ → Bool} {P : A → Type 0} {text : A → List ℕ} {read : List ℕ → Option A} → IsReading class P text read → (parts : List (List ℕ)) (xs : List A) → each_at read parts ≡ Some xs → (parts ≡ map text xs) × AllByRecursion P xs
each_takes {A} {class} {P} {text} {read} r [] xs e = subst (λ (ys : List A). ([] ≡ map text ys) × AllByRecursion P ys) (same_Some [] xs e) (refl, tt)
each_takes {A} {class} {P} {text} {read} r (bs ∷ parts) xs e =
    let a = then_some (λ (first : A). option_map (λ (rest : List A). first ∷ rest) (each_at read parts)) (read bs) xs e in
    let b = map_some (λ (rest : List A). a.0 ∷ rest) (each_at read parts) xs a.2 in
    let first = r.takes bs a.0 a.1 in
    let rest = each_takes r parts b.0 b.1 in
    subst (λ (ys : List A). (bs ∷ parts ≡ map text ys) × AllByRecursion P ys) b.2 (ap (λ (x : List ℕ). x ∷ parts) first.0 ∙ ap (λ (ys : List (List ℕ)). text a.0 ∷ ys) rest.0, (first.1, rest.1))

pub list_reading : {A : Type 0} {inner outer : ℕ → Bool} {P : A → Type 0} {text : A → List ℕ} {read : List ℕ → Option A} → read (codes "-") ≡ None → inner 44 ≡ false → IsWithin inner outer → outer 44 ≡ true → outer 45 ≡ true → IsReading inner P text read → IsReading outer (All P) (listed text) (list_at read)
list_reading {A} {inner} {outer} {P} {text} {read} none out within comma dash r = record {
  again = λ xs h. list_again xs (recursion_from_All P xs h);
  takes = λ bs xs e. ((list_takes bs xs e).0, All-from_recursion P xs (list_takes bs xs e).1);
  bytes = λ xs h. list_bytes xs (recursion_from_All P xs h);
}
  where
    not_dash : (first : A) (rest : List A) → P first → AllByRecursion P rest → bytes_eq (join_with_byte 44 (text first ∷ map text rest)) (codes "-") ≡ false
    not_dash first rest h hs =
        elim (cases_Bool (bytes_eq (join_with_byte 44 (text first ∷ map text rest)) (codes "-"))) [
          | inl hit ↦
              let whole : text first ∷ map text rest ≡ codes "-" ∷ [] = sym (split_joined inner 44 out (text first) (map text rest) (r.bytes first h) (texts_bytes r rest hs)) ∙ ap (slice_split (λ b. b == 44)) (same_bytes (join_with_byte 44 (text first ∷ map text rest)) (codes "-") hit) in
              let only : text first ≡ codes "-" = cc in
              absurd (cc (r.again first h, ap read only, none))
          | inr miss ↦ miss
        ]

    list_again : (xs : List A) → AllByRecursion P xs → list_at read (listed text xs) ≡ Some xs
    list_again [] h = refl
    list_again (x ∷ xs) h = rw (not_dash x xs h.0 h.1, split_joined inner 44 out (text x) (map text xs) (r.bytes x h.0) (texts_bytes r xs h.1)) (each_again r (x ∷ xs) h)

    from_parts : (parts : List (List ℕ)) (xs : List A) → parts ≡ map text xs → 0 < length parts → join_with_byte 44 parts ≡ listed text xs
    from_parts parts [] e some = absurd (omega (arith, ap length e))
    from_parts parts (x ∷ xs) e some = ap (join_with_byte 44) e

    list_takes : (bs : List ℕ) (xs : List A) → list_at read bs ≡ Some xs → (bs ≡ listed text xs) × AllByRecursion P xs
    list_takes bs xs e =
        elim (chosen (bytes_eq bs (codes "-")) (Some []) (each_at read (slice_split (λ b. b == 44) bs)) (Some xs) e) [
          | inl hit ↦ subst (λ (ys : List A). (bs ≡ listed text ys) × AllByRecursion P ys) (same_Some [] xs hit.1) (same_bytes bs (codes "-") hit.0, tt)
          | inr miss ↦
              let parts = each_takes r (slice_split (λ b. b == 44) bs) xs miss.1 in
              (sym (join_with_byte-slice_split 44 bs) ∙ from_parts (slice_split (λ b. b == 44) bs) xs parts.0 (omega (arith, length-slice_split (λ b. b == 44) bs)), parts.1)
        ]

    list_bytes : (xs : List A) → AllByRecursion P xs → list_all outer (listed text xs) ≡ true
    list_bytes [] h = rw dash refl
    list_bytes (x ∷ xs) h =
        let wide = wider within r in
        joined_bytes outer 44 comma (text x) (map text xs) (wide.bytes x h.0) (texts_bytes wide xs h.1)
