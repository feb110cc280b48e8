-- How ranges take seats and are handed in, one after another.
use Rattle.std.proofs.Common.{◌≡◌, ℕ, ◌+◌, ◌<◌, ◌≤◌, Bool, true, false, cond, ◌&&◌, is_ok, nat_lt, inl, inr, Contains, List, [], ◌∷◌, ◌++◌, length, Result, Ok, Err, OnOk, OnErr, refl, sym, ap, subst, ◌∙◌, arith, length-append}
use Rattle.std.proofs.lemmas.Bool.Decides.{nat_tests}
use Rattle.std.proofs.lemmas.List.{append-nil, append_assoc, map-append}
use Rattle.std.proofs.lemmas.List.Elements.{Contains-push_cases, filter-append}
use Rattle.pc_base.specs.declared.actor.ActorId.{ActorId}
use Rattle.pc_base.specs.declared.actor.ActorId.TheVariants as actors
use Rattle.pc_history.specs.Closed.{ids_of}
use Rattle.pc_history.specs.declared.view.Part.{Part}
use Rattle.pc_history.specs.Meanings.{OpenerMeaning}
use Rattle.pc_proto.specs.declared.event.Event.{Event}
use Rattle.pc_range.specs.Seats.{AreFree, HandsIn, HasSeated, is_range_there, ranges_there}
use Rattle.pc_world.specs.Local.{Head}

lt-false : (m n : ℕ) → n ≤ m → nat_lt m n ≡ false
lt-false m n h = grind (arith, nat_tests)

lt-true : (m n : ℕ) → m < n → nat_lt m n ≡ true
lt-true m n h = grind (arith, nat_tests)

kept-one : (count range : ℕ) (b : Bool) → nat_lt range count ≡ b → ranges_there count (actors.Range range ∷ []) ≡ cond b (actors.Range range ∷ []) []
kept-one count range b is = ap (λ t. cond t (actors.Range range ∷ []) []) is

-- a range that is not there takes no seat
pub skipped : (count range : ℕ) (before : OpenerMeaning Head Event) → count ≤ range → AreFree range before.seated → HasSeated count (range + 1) (actors.Range range ∷ []) before before
skipped count range before past free = record {
  seated = ap (λ (s : List ActorId). record before { seated = s }) (sym (ap (λ l. before.seated ++ l) (kept-one count range false (lt-false range count past)) ∙ append-nil before.seated));
  free = λ r from there. free r (omega arith) there;
  few = omega arith;
}

-- one that is there takes one
pub taken : (count range : ℕ) (before after : OpenerMeaning Head Event) → range < count → AreFree range before.seated → after ≡ record before { seated = after.seated } → after.seated ≡ before.seated ++ actors.Range range ∷ []
    → HasSeated count (range + 1) (actors.Range range ∷ []) before after
taken count range before after there free same seats = record {
  seated = same ∙ ap (λ (s : List ActorId). record before { seated = s }) (seats ∙ ap (λ l. before.seated ++ l) (sym (kept-one count range true (lt-true range count there))));
  free = λ r from in_it. elim (Contains-push_cases before.seated (actors.Range range) (actors.Range r) (subst (λ l. Contains l (actors.Range r)) seats in_it)) [
    | inl earlier ↦ free r (omega arith) earlier
    | inr now ↦ absurd (let same_range : range ≡ r = cc in omega arith)
  ];
  few = omega (arith, ap length seats, length-append before.seated (actors.Range range ∷ []));
}

-- first these, then those
pub seated-both : (count middle next : ℕ) (xs ys : List ActorId) (a b c : OpenerMeaning Head Event) → HasSeated count middle xs a b → HasSeated count next ys b c → HasSeated count next (xs ++ ys) a c
seated-both count middle next xs ys a b c first second =
    let seats : b.seated ≡ a.seated ++ ranges_there count xs = ap (λ (o : OpenerMeaning Head Event). o.seated) first.seated in
    let whole : b.seated ++ ranges_there count ys ≡ a.seated ++ ranges_there count (xs ++ ys) =
    ap (λ l. l ++ ranges_there count ys) seats ∙ (append_assoc a.seated (ranges_there count xs) (ranges_there count ys) ∙ ap (λ l. a.seated ++ l) (sym (filter-append (is_range_there count) xs ys))) in
    record {
      seated = second.seated ∙ (subst (λ (o : OpenerMeaning Head Event). record b { seated = b.seated ++ ranges_there count ys } ≡ record o { seated = b.seated ++ ranges_there count ys }) first.seated refl
          ∙ ap (λ (s : List ActorId). record a { seated = s }) whole);
      free = second.free;
      few = omega (arith, first.few, second.few, length-append xs ys);
    }

whole-ok : (b : Bool) → (b && true) ≡ b
whole-ok true = refl
whole-ok false = refl

whole-err : (b : Bool) → (b && false) ≡ false
whole-err true = refl
whole-err false = refl

-- an actor that was handed in
pub handed-one : {A E : Type 0} (r : Result A E) (id : ActorId) (part : Part Event) (before after : OpenerMeaning Head Event) → after ≡ record before { parts = before.parts ++ part ∷ []; whole = before.whole && is_ok r } → part.id ≡ id
    → OnOk r (HandsIn (id ∷ []) before after)
handed-one (Ok a) id part before after is whose = record {
  more = part ∷ [];
  handed = is ∙ ap (λ w. record before { parts = before.parts ++ part ∷ []; whole = w }) (whole-ok before.whole);
  whose = ap (λ i. i ∷ []) whose;
}
handed-one (Err e) id part before after is whose = tt

pub not-handed : {A E : Type 0} (r : Result A E) (part : Part Event) (before after : OpenerMeaning Head Event) → after ≡ record before { parts = before.parts ++ part ∷ []; whole = before.whole && is_ok r }
    → OnErr r (after.whole ≡ false)
not-handed (Ok a) part before after is = tt
not-handed (Err e) part before after is = ap (λ (o : OpenerMeaning Head Event). o.whole) is ∙ whole-err before.whole

-- first these, then those
pub hands-both : (xs ys : List ActorId) (a b c : OpenerMeaning Head Event) → HandsIn xs a b → HandsIn ys b c → HandsIn (xs ++ ys) a c
hands-both xs ys a b c first second =
    let parts : b.parts ≡ a.parts ++ first.more = ap (λ (o : OpenerMeaning Head Event). o.parts) first.handed in record {
      more = first.more ++ second.more;
      handed = second.handed
          ∙ (subst (λ (o : OpenerMeaning Head Event). record b { parts = b.parts ++ second.more } ≡ record o { parts = b.parts ++ second.more }) first.handed refl
          ∙ ap (λ (ps : List (Part Event)). record a { parts = ps }) (ap (λ l. l ++ second.more) parts ∙ append_assoc a.parts first.more second.more));
      whose = map-append (λ (p : Part Event). p.id) first.more second.more ∙ (ap (λ l. l ++ ids_of second.more) first.whose ∙ ap (λ l. xs ++ l) second.whose);
    }

-- what the next range's start asks, after those before it
pub record IsReady (count range : ℕ) (opener : OpenerMeaning Head Event) : Type 0 where
  pub counts : count ≡ length opener.world.splits + 1
  pub free : AreFree range opener.seated
  pub few : length opener.seated < 65536

pub ready : (count next range : ℕ) (ids : List ActorId) (before now : OpenerMeaning Head Event) → HasSeated count next ids before now → range ≡ next → count ≡ length before.world.splits + 1 → length before.seated + 8 ≤ 65536 → length ids < 8
    → IsReady count range now
ready count next range ids before now seated same counts few short = record {
  counts = counts ∙ ap (λ (o : OpenerMeaning Head Event). length o.world.splits + 1) (sym seated.seated);
  free = λ r from there. seated.free r (omega (arith, same)) there;
  few = omega (arith, seated.few);
}

one-of : (n range : ℕ) (b : Bool) → b ≡ nat_lt range n → cond b (actors.Range range ∷ []) [] ≡ ranges_there n (actors.Range range ∷ [])
one-of n range b is = sym (kept-one n range b (sym is))

-- the first range that is handed in, if it is there
pub hands-first : (n range : ℕ) (b : Bool) (a c : OpenerMeaning Head Event) → b ≡ nat_lt range n → HandsIn (cond b (actors.Range range ∷ []) []) a c → HandsIn (ranges_there n (actors.Range range ∷ [])) a c
hands-first n range b a c is h = subst (λ ids. HandsIn ids a c) (one-of n range b is) h

-- and the next one
pub hands-more : (n range : ℕ) (xs : List ActorId) (b : Bool) (a m c : OpenerMeaning Head Event) → HandsIn (ranges_there n xs) a m → b ≡ nat_lt range n → HandsIn (cond b (actors.Range range ∷ []) []) m c
    → HandsIn (ranges_there n (xs ++ actors.Range range ∷ [])) a c
hands-more n range xs b a m c first is second =
    subst (λ ids. HandsIn ids a c) (sym (filter-append (is_range_there n) xs (actors.Range range ∷ [])))
    (hands-both (ranges_there n xs) (ranges_there n (actors.Range range ∷ [])) a m c first (hands-first n range b m c is second))

-- and the next ones
pub hands-further : (n : ℕ) (xs ys : List ActorId) (a m c : OpenerMeaning Head Event) → HandsIn (ranges_there n xs) a m → HandsIn (ranges_there n ys) m c → HandsIn (ranges_there n (xs ++ ys)) a c
hands-further n xs ys a m c first second =
    subst (λ ids. HandsIn ids a c) (sym (filter-append (is_range_there n) xs ys)) (hands-both (ranges_there n xs) (ranges_there n ys) a m c first second)

-- what the start of the next eight ranges asks, after those before them
pub record AreRangesReady (count range : ℕ) (opener : OpenerMeaning Head Event) : Type 0 where
  pub counts : count ≡ length opener.world.splits + 1
  pub free : AreFree range opener.seated
  pub few : length opener.seated + 8 ≤ 65536

pub ranges-ready : (count next : ℕ) (ids : List ActorId) (before now : OpenerMeaning Head Event) → HasSeated count next ids before now → count ≡ length before.world.splits + 1 → length before.seated ≤ 65504 → length ids ≤ 24
    → AreRangesReady count next now
ranges-ready count next ids before now seated counts few short = record {
  counts = counts ∙ ap (λ (o : OpenerMeaning Head Event). length o.world.splits + 1) (sym seated.seated);
  free = seated.free;
  few = omega (arith, seated.few);
}
