-- The writes that are not proved yet, after one more, after one is sent again, and after one is proved; and what they tell of all writes.
use Rattle.std.proofs.Common.{◌≡◌, ℕ, Bool, true, false, ◌&&◌, ◌==◌, cond, not, All, IsTrue, OnErr, OnOk, Result, Ok, Err, List, [], ◌∷◌, ◌++◌, map, refl, sym, ap, subst, ◌∙◌, ◌↔◌}
use Rattle.std.proofs.lemmas.List.{map-append}
use Rattle.std.proofs.lemmas.List.Elements.{All-cons, All-head, All-nil, All-tail, filter-append}
use Rattle.std.specs.List.{list_any}
use Rattle.pc_base.specs.Span.{same_key}
use Rattle.pc_own.specs.Flying.{is_other_write, without_write}
use Rattle.pc_world.specs.Known.Writes.{Write, asked_again, is_proved, listed_as, proved_at, unproved}

-- The write as a stage lists it.
abbrev listed_one : Write → List ℕ × ℕ
listed_one w = (w.key, w.seq)

-- The write, where it is not proved, in front of the others.
abbrev front_if : Bool → List ℕ × ℕ → List (List ℕ × ℕ) → List (List ℕ × ℕ)
front_if b w ws = cond b (w ∷ ws) ws

map-cond : (b : Bool) (w : Write) (ws : List Write) → map listed_one (cond b (w ∷ ws) ws) ≡ front_if b (listed_one w) (map listed_one ws)
map-cond true w ws = refl
map-cond false w ws = refl

-- Those that are not proved, write by write.
flying-cons : (w : Write) (ws : List Write) → listed_as (unproved (w ∷ ws)) ≡ front_if (not (is_proved w)) (listed_one w) (listed_as (unproved ws))
flying-cons w ws = map-cond (not (is_proved w)) w (unproved ws)

-- ---- one more write

pub flying_pushed : (ws : List Write) (w : Write) → is_proved w ≡ false → listed_as (unproved (ws ++ w ∷ [])) ≡ listed_as (unproved ws) ++ (w.key, w.seq) ∷ []
flying_pushed ws w fresh =
    ap (map listed_one) (filter-append (λ v. not (is_proved v)) ws (w ∷ []))
    ∙ map-append listed_one (unproved ws) (unproved (w ∷ []))
    ∙ ap (λ b. listed_as (unproved ws) ++ map listed_one (cond (not b) (w ∷ []) [])) fresh

-- ---- a write that is proved leaves

module _ (key : List ℕ) (seq ts : ℕ) where
  -- It is the write of this key and sequence.
  abbrev hit : Write → Bool
  hit w = w.seq == seq && same_key w.key key

  abbrev Step : Bool → Bool → Write → List (List ℕ × ℕ) → Type 0
  Step b p w rest =
      front_if (not (is_proved (cond b (record w { proofs = w.proofs ++ ts ∷ [] }) w))) (listed_one (cond b (record w { proofs = w.proofs ++ ts ∷ [] }) w)) (without_write key seq rest)
      ≡ without_write key seq (front_if (not p) (listed_one w) rest)

  more-proved : (proofs : List ℕ) → list_any (λ ts. true) (proofs ++ ts ∷ []) ≡ true
  more-proved [] = refl
  more-proved (p ∷ ps) = refl

  filter-drop : (f : List ℕ × ℕ) (rest : List (List ℕ × ℕ)) → is_other_write key seq f ≡ false → without_write key seq (f ∷ rest) ≡ without_write key seq rest
  filter-drop f rest h = ap (λ b. cond b (f ∷ without_write key seq rest) (without_write key seq rest)) h

  filter-keep : (f : List ℕ × ℕ) (rest : List (List ℕ × ℕ)) → is_other_write key seq f ≡ true → without_write key seq (f ∷ rest) ≡ f ∷ without_write key seq rest
  filter-keep f rest h = ap (λ b. cond b (f ∷ without_write key seq rest) (without_write key seq rest)) h

  step : (b p : Bool) (w : Write) (rest : List (List ℕ × ℕ)) → hit w ≡ b → is_proved w ≡ p → Step b p w rest
  step true true w rest at was = ap (λ b. front_if (not b) (listed_one (record w { proofs = w.proofs ++ ts ∷ [] })) (without_write key seq rest)) (more-proved w.proofs)
  step true false w rest at was =
      ap (λ b. front_if (not b) (listed_one (record w { proofs = w.proofs ++ ts ∷ [] })) (without_write key seq rest)) (more-proved w.proofs)
      ∙ sym (filter-drop (listed_one w) rest (ap not at))
  step false true w rest at was = ap (λ b. front_if (not b) (listed_one w) (without_write key seq rest)) was
  step false false w rest at was =
      ap (λ b. front_if (not b) (listed_one w) (without_write key seq rest)) was
      ∙ sym (filter-keep (listed_one w) rest (ap not at))

  pub flying_proved : (ws : List Write) → listed_as (unproved (map (proved_at key seq ts) ws)) ≡ without_write key seq (listed_as (unproved ws))
  flying_proved [] = refl
  flying_proved (w ∷ ws) =
      flying-cons (proved_at key seq ts w) (map (proved_at key seq ts) ws)
      ∙ ap (λ rest. front_if (not (is_proved (proved_at key seq ts w))) (listed_one (proved_at key seq ts w)) rest) (flying_proved ws)
      ∙ step (hit w) (is_proved w) w (listed_as (unproved ws)) refl refl
      ∙ ap (without_write key seq) (sym (flying-cons w ws))

-- ---- a write that is sent again stays

module _ (seq ts : ℕ) where
  again-same : (b : Bool) (w : Write) → let x : Write = cond b (record w { asked = w.asked ++ ts ∷ [] }) w in (rest : List (List ℕ × ℕ)) → front_if (not (is_proved x)) (listed_one x) rest ≡ front_if (not (is_proved w)) (listed_one w) rest
  again-same true w rest = refl
  again-same false w rest = refl

  pub flying_asked : (ws : List Write) → listed_as (unproved (map (asked_again seq ts) ws)) ≡ listed_as (unproved ws)
  flying_asked [] = refl
  flying_asked (w ∷ ws) =
      flying-cons (asked_again seq ts w) (map (asked_again seq ts) ws)
      ∙ ap (λ rest. front_if (not (is_proved (asked_again seq ts w))) (listed_one (asked_again seq ts w)) rest) (flying_asked ws)
      ∙ again-same (w.seq == seq) w (listed_as (unproved ws))
      ∙ sym (flying-cons w ws)

-- ---- after a change, or none where memory ran out

pub flying_kept : {T E : Type 0} (f : Write → Write) (g : List (List ℕ × ℕ) → List (List ℕ × ℕ)) → ((ws : List Write) → listed_as (unproved (map f ws)) ≡ g (listed_as (unproved ws)))
    → (r : Result T E) (ws new : List Write) (flying after : List (List ℕ × ℕ)) → flying ≡ listed_as (unproved ws)
    → OnOk r (new ≡ map f ws) → OnErr r (new ≡ ws) → OnOk r (after ≡ g flying) → OnErr r (after ≡ flying) → after ≡ listed_as (unproved new)
flying_kept f g same (Ok x) ws new flying after are ok err moved left = moved ∙ ap g are ∙ sym (same ws) ∙ ap (λ vs. listed_as (unproved vs)) (sym ok)
flying_kept f g same (Err e) ws new flying after are ok err moved left = left ∙ are ∙ ap (λ vs. listed_as (unproved vs)) (sym err)

pub on_err_refl : {T E X : Type 0} (r : Result T E) (x : X) → OnErr r (x ≡ x)
on_err_refl (Ok y) x = tt
on_err_refl (Err e) x = refl

-- ---- what they tell of all writes

module _ (test : List ℕ → Bool) where
  -- Where the test holds of a write, it is proved.
  abbrev Clear : Write → Type 0
  Clear w = IsTrue (test w.key) → IsTrue (is_proved w)

  abbrev Out : List ℕ × ℕ → Type 0
  Out one = test one.0 ≡ false

  clear-one : (b p : Bool) (w : Write) (ws : List Write) → test w.key ≡ b → is_proved w ≡ p → (All Out (listed_as (unproved ws)) ↔ All Clear ws) → All Out (front_if (not p) (listed_one w) (listed_as (unproved ws))) ↔ All Clear (w ∷ ws)
  clear-one b true w ws at was later = (
    λ a. All-cons Clear w ws (λ t. was) (later.0 a),
    λ a. later.1 (All-tail Clear w ws a),
  )
  clear-one true false w ws at was later = (
    λ a. let off : test w.key ≡ false = All-head Out (listed_one w) (listed_as (unproved ws)) a in let no : true ≡ false = sym at ∙ off in absurd (cc no),
    λ a. let on : is_proved w ≡ true = All-head Clear w ws a at in let no : true ≡ false = sym on ∙ was in absurd (cc no),
  )
  clear-one false false w ws at was later = (
    λ a. All-cons Clear w ws (λ t. let no : true ≡ false = sym t ∙ at in absurd (cc no)) (later.0 (All-tail Out (listed_one w) (listed_as (unproved ws)) a)),
    λ a. All-cons Out (listed_one w) (listed_as (unproved ws)) at (later.1 (All-tail Clear w ws a)),
  )

  pub all_clear : (ws : List Write) → All Out (listed_as (unproved ws)) ↔ All Clear ws
  all_clear [] = (λ a. All-nil Clear, λ a. All-nil Out)
  all_clear (w ∷ ws) =
      let one = clear-one (test w.key) (is_proved w) w ws refl refl (all_clear ws) in
      subst (λ l. All Out l ↔ All Clear (w ∷ ws)) (sym (flying-cons w ws)) one
