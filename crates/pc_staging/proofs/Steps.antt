-- The first and the last step at which something was heard.
use Rattle.std.proofs.Common.{◌≡◌, ℕ, ◌<◌, ◌≤◌, min, max, nat_lt, Bool, true, false, Option, Some, None, is_some, List, [], ◌∷◌, ◌++◌, refl, ◌∙◌, arith, All, Any, Contains}
use Rattle.std.proofs.lemmas.Bool.{ltb-false, ltb-true}
use Rattle.std.proofs.lemmas.List.Elements.{All-append, All-contains, All-cons, All-nil, All-weaker}
use Rattle.pc_lists.proofs.Anywhere.{any_kept, any_last, any_of, any_weaker}
use Rattle.pc_staging.specs.Kept.{earlier_step, is_step_before, later_step}
use Rattle.pc_staging.specs.Standing.{IsFirstStep, IsLastStep}
use Rattle.pc_world.specs.Known.Traffic.{Heard}

pub lt_true : (a b : ℕ) → a < b → nat_lt a b ≡ true
lt_true a b low = by (nat_lt a b) refl
  where
    by : (c : Bool) → nat_lt a b ≡ c → nat_lt a b ≡ true
    by true is = is
    by false is = let h : b ≤ a = ltb-false a b is in absurd (omega arith)

pub none_any : {X : Type 0} (P : X → Type 0) (xs : List X) → All (λ x. P x → ⊥) xs → Any P xs → ⊥
none_any P xs none some = let one = any_of (λ x. P x → ⊥) P xs none some in one.1 one.2

module _ (P : Heard → Type 0) where
  -- what is so of none that came since leaves both steps
  pub first_on : (first : Option ℕ) (heard more : List Heard) → IsFirstStep P heard first → All (λ h. P h → ⊥) more → IsFirstStep P (heard ++ more) first
  first_on None heard more f none = All-append (λ h. P h → ⊥) heard more f none
  first_on (Some step) heard more f none = (
    any_kept (λ h. P h × (h.step ≡ step)) heard more f.0,
    All-append (λ h. P h → step ≤ h.step) heard more f.1 (All-weaker (λ h. P h → ⊥) (λ h. P h → step ≤ h.step) (λ h no is. absurd (no is)) more none),
  )

  pub last_on : (last : Option ℕ) (heard more : List Heard) → IsLastStep P heard last → All (λ h. P h → ⊥) more → IsLastStep P (heard ++ more) last
  last_on None heard more f none = All-append (λ h. P h → ⊥) heard more f none
  last_on (Some step) heard more f none = (
    any_kept (λ h. P h × (h.step ≡ step)) heard more f.0,
    All-append (λ h. P h → h.step ≤ step) heard more f.1 (All-weaker (λ h. P h → ⊥) (λ h. P h → h.step ≤ step) (λ h no is. absurd (no is)) more none),
  )

  -- one more is the first, or leaves it
  pub first_push : (first : Option ℕ) (heard : List Heard) (h : Heard) → IsFirstStep P heard first → P h → IsFirstStep P (heard ++ h ∷ []) (Some (earlier_step first h.step))
  first_push None heard h f is = (
    any_last (λ g. P g × (g.step ≡ h.step)) heard h (is, refl),
    All-append (λ g. P g → h.step ≤ g.step) heard (h ∷ []) (All-weaker (λ g. P g → ⊥) (λ g. P g → h.step ≤ g.step) (λ g no so. absurd (no so)) heard f)
        (All-cons (λ g. P g → h.step ≤ g.step) h [] (λ so. omega arith) (All-nil (λ g. P g → h.step ≤ g.step))),
  )
  first_push (Some step) heard h f is = by (nat_lt h.step step) refl
    where
      rest : (m : ℕ) → m ≤ step → m ≤ h.step → All (λ g. P g → m ≤ g.step) (heard ++ h ∷ [])
      rest m low under =
          All-append (λ g. P g → m ≤ g.step) heard (h ∷ [])
          (All-weaker (λ g. P g → step ≤ g.step) (λ g. P g → m ≤ g.step) (λ g above so. let up : step ≤ g.step = above so in omega (arith, up, low)) heard f.1)
          (All-cons (λ g. P g → m ≤ g.step) h [] (λ so. under) (All-nil (λ g. P g → m ≤ g.step)))

      by : (b : Bool) → nat_lt h.step step ≡ b → IsFirstStep P (heard ++ h ∷ []) (Some (min step h.step))
      by true low =
          let under : h.step < step = ltb-true h.step step low in
          let e : h.step ≡ min step h.step = omega (arith, under) in
          let least : min step h.step ≤ step = omega (arith, under) in
          let own : min step h.step ≤ h.step = omega (arith, under) in
          (any_last (λ g. P g × (g.step ≡ min step h.step)) heard h (is, e), rest (min step h.step) least own)
      by false high =
          let above : step ≤ h.step = ltb-false h.step step high in
          let e : step ≡ min step h.step = omega (arith, above) in
          let least : min step h.step ≤ step = omega (arith, above) in
          let own : min step h.step ≤ h.step = omega (arith, above) in (
            any_kept (λ g. P g × (g.step ≡ min step h.step)) heard (h ∷ [])
                (any_weaker (λ g. P g × (g.step ≡ step)) (λ g. P g × (g.step ≡ min step h.step)) (λ g so. (so.0, so.1 ∙ e)) heard f.0),
            rest (min step h.step) least own,
          )

  -- one more is the last, or leaves it
  pub last_push : (last : Option ℕ) (heard : List Heard) (h : Heard) → IsLastStep P heard last → P h → IsLastStep P (heard ++ h ∷ []) (Some (later_step last h.step))
  last_push None heard h f is = (
    any_last (λ g. P g × (g.step ≡ h.step)) heard h (is, refl),
    All-append (λ g. P g → g.step ≤ h.step) heard (h ∷ []) (All-weaker (λ g. P g → ⊥) (λ g. P g → g.step ≤ h.step) (λ g no so. absurd (no so)) heard f)
        (All-cons (λ g. P g → g.step ≤ h.step) h [] (λ so. omega arith) (All-nil (λ g. P g → g.step ≤ h.step))),
  )
  last_push (Some step) heard h f is = by (nat_lt step h.step) refl
    where
      rest : (m : ℕ) → step ≤ m → h.step ≤ m → All (λ g. P g → g.step ≤ m) (heard ++ h ∷ [])
      rest m high over =
          All-append (λ g. P g → g.step ≤ m) heard (h ∷ [])
          (All-weaker (λ g. P g → g.step ≤ step) (λ g. P g → g.step ≤ m) (λ g below so. let up : g.step ≤ step = below so in omega (arith, up, high)) heard f.1)
          (All-cons (λ g. P g → g.step ≤ m) h [] (λ so. over) (All-nil (λ g. P g → g.step ≤ m)))

      by : (b : Bool) → nat_lt step h.step ≡ b → IsLastStep P (heard ++ h ∷ []) (Some (max step h.step))
      by true low =
          let under : step < h.step = ltb-true step h.step low in
          let e : h.step ≡ max step h.step = omega (arith, under) in
          let most : step ≤ max step h.step = omega (arith, under) in
          let own : h.step ≤ max step h.step = omega (arith, under) in
          (any_last (λ g. P g × (g.step ≡ max step h.step)) heard h (is, e), rest (max step h.step) most own)
      by false high =
          let above : h.step ≤ step = ltb-false step h.step high in
          let e : step ≡ max step h.step = omega (arith, above) in
          let most : step ≤ max step h.step = omega (arith, above) in
          let own : h.step ≤ max step h.step = omega (arith, above) in (
            any_kept (λ g. P g × (g.step ≡ max step h.step)) heard (h ∷ [])
                (any_weaker (λ g. P g × (g.step ≡ step)) (λ g. P g × (g.step ≡ max step h.step)) (λ g so. (so.0, so.1 ∙ e)) heard f.0),
            rest (max step h.step) most own,
          )

  -- there is a first step exactly where some reply is so
  pub first_some : (first : Option ℕ) (heard : List Heard) → IsFirstStep P heard first → is_some first ≡ true → Any P heard
  first_some None heard f is = absurd cc
  first_some (Some step) heard f is = any_weaker (λ h. P h × (h.step ≡ step)) P (λ h so. so.0) heard f.0

  pub first_is : (first : Option ℕ) (heard : List Heard) → IsFirstStep P heard first → Any P heard → is_some first ≡ true
  first_is None heard f some = absurd (none_any P heard f some)
  first_is (Some step) heard f some = refl

module _ (P Q : Heard → Type 0) (heard : List Heard) where
  -- One reply that is so was evaluated before another that is that.
  abbrev pub IsThenSeen : Heard → Type 0
  IsThenSeen h = P h × Any (λ later. (h.step < later.step) × Q later) heard

  pub then_seen : (first last : Option ℕ) → IsFirstStep P heard first → IsLastStep Q heard last → is_step_before first last ≡ true → Any IsThenSeen heard
  then_seen None last f l is = absurd cc
  then_seen (Some step) None f l is = absurd cc
  then_seen (Some step) (Some end) f l is =
      let low : step < end = ltb-true step end is in
      any_weaker (λ h. P h × (h.step ≡ step)) IsThenSeen
      (λ h p. (
        p.0,
        any_weaker (λ later. Q later × (later.step ≡ end)) (λ later. (h.step < later.step) × Q later)
            (λ later q. let from : h.step ≡ step = p.1 in let to : later.step ≡ end = q.1 in (omega (arith, low, from, to), q.0))
            heard l.0,
      ))
      heard f.0

  pub before_is : (first last : Option ℕ) (h later : Heard) → IsFirstStep P heard first → IsLastStep Q heard last → Contains heard h → P h → Contains heard later → Q later → h.step < later.step → is_step_before first last ≡ true
  before_is None last h later f l there p seen q low = absurd (All-contains (λ h. P h → ⊥) heard h f there p)
  before_is (Some step) None h later f l there p seen q low = absurd (All-contains (λ h. Q h → ⊥) heard later l seen q)
  before_is (Some step) (Some end) h later f l there p seen q low =
      let from : step ≤ h.step = All-contains (λ h. P h → step ≤ h.step) heard h f.1 there p in
      let to : later.step ≤ end = All-contains (λ h. Q h → h.step ≤ end) heard later l.1 seen q in
      lt_true step end (omega (arith, from, to, low))
