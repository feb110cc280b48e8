-- A read is good just as far as the replies take it, round after round.
use Rattle.std.proofs.Common.{◌≡◌, ◌⊎◌, ◌&&◌, ℕ, ◌<◌, ◌≤◌, max, nat_le, nat_lt, Bool, true, false, if◌then◌else◌, Contains, List, [], ◌∷◌, Option, None, Some, fold, count_by, refl, sym, ap, subst, ◌∙◌, inl, inr, arith, IsTrue}
use Rattle.std.proofs.lemmas.Bool.{and_from, and_parts, cases_lt, le-leb, leb-true, le-ltb, lt-ltb}
use Rattle.pc_base.specs.declared.span.Span.{Span}
use Rattle.pc_base.specs.declared.transaction.TxnId.{TxnId}
use Rattle.pc_base.specs.Transaction.{same_txn}
use Rattle.pc_knowledge.specs.Good.{IsGoodJustTo, good_after_all, good_from, taken_further}
use Rattle.pc_lists.proofs.Counts.{count-cons, one_if}
use Rattle.pc_lists.proofs.Lists.{contains_cons, contains_head, contains_nil, contains_tail}
use Rattle.pc_lists.proofs.Same.{same_txn-is, same_txn-self}
use Rattle.pc_proto.specs.declared.reply.Reply.{Reply}
use Rattle.pc_proto.specs.declared.reply.Reply.TheVariants as replies
use Rattle.pc_proto.specs.declared.request.Request.{Request}
use Rattle.pc_proto.specs.declared.request.Request.TheVariants as requests
use Rattle.pc_world.specs.Known.Reads.{AtOnce, Further, IsGoodTo, holds_span}
use Rattle.pc_world.specs.Known.Traffic.{Heard}

-- Where a way ends.
abbrev pub end_of : Option (ℕ × ℕ) → ℕ
end_of None = 0
end_of (Some way) = way.1

-- The way may be gone from here, and leads further.
rises-one : (o : Option (ℕ × ℕ)) (g : ℕ) → g ≤ good_from o g
rises-one None g = omega arith
rises-one (Some way) g = if-rises (nat_le way.0 g)
  where
    if-rises : (b : Bool) → g ≤ (if b then max g way.1 else g)
    if-rises true = omega arith
    if-rises false = omega arith

one-reaches : (o : Option (ℕ × ℕ)) (g : ℕ) → (good_from o g ≡ g) ⊎ ((good_from o g ≡ end_of o) × (g < end_of o))
one-reaches None g = inl refl
one-reaches (Some way) g = if-reaches (nat_le way.0 g)
  where
    if-reaches : (b : Bool) → ((if b then max g way.1 else g) ≡ g) ⊎ (((if b then max g way.1 else g) ≡ way.1) × (g < way.1))
    if-reaches false = inl refl
    if-reaches true = elim (cases_lt g way.1) [
      | inl below ↦ inr (omega arith, below)
      | inr above ↦ inl (omega arith)
    ]

-- a way from where it is good already
goes-on : (way : ℕ × ℕ) (g : ℕ) → way.0 ≤ g → good_from (Some way) g ≤ g → way.1 ≤ g
goes-on way g low still =
    let test : nat_le way.0 g ≡ true = le-leb way.0 g low in
    let is : good_from (Some way) g ≡ max g way.1 = ap (λ (b : Bool). if b then max g way.1 else g) test in
    omega arith

module _ {X : Type 0} (f : X → Option (ℕ × ℕ)) where
  -- How far all ways lead, each gone once, in turn.
  abbrev pub round : List X → ℕ → ℕ
  round xs good = fold (λ g x. good_from (f x) g) good xs

  pub rises : (xs : List X) (g : ℕ) → g ≤ round xs g
  rises [] g = omega arith
  rises (x ∷ xs) g = omega (arith, rises-one (f x) g, rises xs (good_from (f x) g))

  stays : (xs : List X) (g : ℕ) (x : X) → round xs g ≤ g → Contains xs x → good_from (f x) g ≤ g
  stays [] g x still c = absurd (contains_nil x c)
  stays (y ∷ xs) g x still c =
      let first : good_from (f y) g ≤ g = omega (arith, rises xs (good_from (f y) g)) in
      let same : good_from (f y) g ≡ g = omega (arith, rises-one (f y) g) in
      elim (contains_cons y xs x c) [
        | inl is ↦ subst (λ z. good_from (f z) g ≤ g) is first
        | inr later ↦ stays xs g x (subst (λ n. round xs n ≤ g) same still) later
      ]

  reaches : (xs : List X) (g : ℕ) → (round xs g ≡ g) ⊎ ((x : X) × Contains xs x × (round xs g ≡ end_of (f x)) × (g < end_of (f x)))
  reaches [] g = inl refl
  reaches (x ∷ xs) g =
      elim (reaches xs (good_from (f x) g)) [
        | inl is ↦ elim (one-reaches (f x) g) [
          | inl same ↦ inl (is ∙ same)
          | inr far ↦ inr (x, contains_head x xs, is ∙ far.0, far.1)
        ]
        | inr far ↦ inr (far.0, contains_tail x xs far.0 far.1, far.2, omega (arith, rises-one (f x) g, far.3))
      ]

  -- The ways that end further than this.
  abbrev pub beyond : ℕ → X → Bool
  beyond g x = nat_lt g (end_of (f x))

  no-more-one : (g r : ℕ) (x : X) → g ≤ r → one_if (beyond r x) ≤ one_if (beyond g x)
  no-more-one g r x low = elim (cases_lt r (end_of (f x))) [
    | inl below ↦
        let one : beyond r x ≡ true = lt-ltb r (end_of (f x)) below in
        let other : beyond g x ≡ true = lt-ltb g (end_of (f x)) (omega arith) in
        omega (arith, ap one_if one, ap one_if other)
    | inr above ↦
        let one : beyond r x ≡ false = le-ltb r (end_of (f x)) above in
        omega (arith, ap one_if one)
  ]

  no-more : (g r : ℕ) (xs : List X) → g ≤ r → count_by (beyond r) xs ≤ count_by (beyond g) xs
  no-more g r [] low = omega arith
  no-more g r (x ∷ xs) low = omega (arith, count-cons (beyond r) x xs, count-cons (beyond g) x xs, no-more-one g r x low, no-more g r xs low)

  fewer : (g r : ℕ) (xs : List X) (x : X) → Contains xs x → end_of (f x) ≡ r → g < r → count_by (beyond r) xs < count_by (beyond g) xs
  fewer g r [] x c is far = absurd (contains_nil x c)
  fewer g r (y ∷ xs) x c is far =
      elim (contains_cons y xs x c) [
        | inl same ↦
            let end : end_of (f y) ≡ r = ap (λ z. end_of (f z)) same ∙ is in
            let one : beyond r y ≡ false = le-ltb r (end_of (f y)) (omega arith) in
            let other : beyond g y ≡ true = lt-ltb g (end_of (f y)) (omega arith) in
            omega (arith, count-cons (beyond r) y xs, count-cons (beyond g) y xs, ap one_if one, ap one_if other, no-more g r xs (omega arith))
        | inr later ↦
            omega (arith, count-cons (beyond r) y xs, count-cons (beyond g) y xs, no-more-one g r y (omega arith), fewer g r xs x later is far)
      ]

  -- each round that leads on leaves fewer ways
  pub leaves_fewer : (xs : List X) (g : ℕ) → g < round xs g → count_by (beyond (round xs g)) xs < count_by (beyond g) xs
  leaves_fewer xs g far = elim (reaches xs g) [
    | inl same ↦ absurd (omega (arith, same))
    | inr end ↦ fewer g (round xs g) xs end.0 end.1 (sym end.2) far
  ]

-- ---- the replies that were heard

-- What a way says of its request and reply.
abbrev IsWayOf : TxnId → Span → Request → Reply → Option (ℕ × ℕ) → Type 0
IsWayOf id span request reply o =
    (way : ℕ × ℕ) → o ≡ Some way → (wider : Span) × (request ≡ requests.Refresh id way.0 way.1 wider) × (reply ≡ replies.Refreshed) × IsTrue (holds_span wider span)

some-is : (one two : ℕ × ℕ) → Some one ≡ Some two → one ≡ two
some-is one two e = cc

way-of : (id : TxnId) (span : Span) (request : Request) (reply : Reply) → IsWayOf id span request reply (taken_further id span request reply)
way-of id span (requests.Refresh other from to wider) replies.Refreshed = if-way (same_txn other id && holds_span wider span) refl
  where
    if-way : (b : Bool) → same_txn other id && holds_span wider span ≡ b → IsWayOf id span (requests.Refresh other from to wider) replies.Refreshed (if b then Some (from, to) else None)
    if-way false is way e = absurd cc
    if-way true is way e =
        let parts = and_parts (same_txn other id) (holds_span wider span) is in
        let same : other ≡ id = same_txn-is other id parts.0 in
        let there : (from, to) ≡ way = some-is (from, to) way e in
        (wider, ap (λ (p : TxnId × (ℕ × ℕ)). requests.Refresh p.0 p.1.0 p.1.1 wider) (λ i. (same i, there i)), refl, parts.1)
way-of id span (requests.Refresh other from to wider) (replies.Value origin1 value1) = λ way e. absurd cc
way-of id span (requests.Refresh other from to wider) (replies.Rows rows1) = λ way e. absurd cc
way-of id span (requests.Refresh other from to wider) (replies.Conflict holder1 ts1 key1) = λ way e. absurd cc
way-of id span (requests.Refresh other from to wider) (replies.Written ts1) = λ way e. absurd cc
way-of id span (requests.Refresh other from to wider) (replies.Unrefreshed key1 ts1) = λ way e. absurd cc
way-of id span (requests.Refresh other from to wider) (replies.Status view1) = λ way e. absurd cc
way-of id span (requests.Refresh other from to wider) (replies.Refused view1) = λ way e. absurd cc
way-of id span (requests.Refresh other from to wider) (replies.Unsure view1) = λ way e. absurd cc
way-of id span (requests.Refresh other from to wider) replies.Found = λ way e. absurd cc
way-of id span (requests.Refresh other from to wider) replies.Missing = λ way e. absurd cc
way-of id span (requests.Refresh other from to wider) replies.Resolved = λ way e. absurd cc
way-of id span (requests.Refresh other from to wider) replies.Removed = λ way e. absurd cc
way-of id span (requests.Refresh other from to wider) (replies.Listed metas1) = λ way e. absurd cc
way-of id span (requests.Get id1 epoch1 seq1 ts1 key1) reply = λ way e. absurd cc
way-of id span (requests.Scan id1 epoch1 seq1 ts1 span1) reply = λ way e. absurd cc
way-of id span (requests.Put meta1 seq1 ts1 key1 value1) reply = λ way e. absurd cc
way-of id span (requests.Beat meta1 ts1 now1) reply = λ way e. absurd cc
way-of id span (requests.Stage meta1 ts1 now1 writes1 locks1) reply = λ way e. absurd cc
way-of id span (requests.Commit meta1 ts1 locks1) reply = λ way e. absurd cc
way-of id span (requests.Abort meta1 why1 locks1) reply = λ way e. absurd cc
way-of id span (requests.Push holder1 by1 level1 now1 goal1) reply = λ way e. absurd cc
way-of id span (requests.Query id1 epoch1 seq1 ts1 key1 by1) reply = λ way e. absurd cc
way-of id span (requests.Recover id1 epoch1 ts1 anchor1 finding1) reply = λ way e. absurd cc
way-of id span (requests.Resolve id1 key1 fate1) reply = λ way e. absurd cc
way-of id span (requests.Remove id1 anchor1) reply = λ way e. absurd cc
way-of id span requests.Records reply = λ way e. absurd cc

way-there : (id : TxnId) (span wider : Span) (from to : ℕ) → IsTrue (holds_span wider span) → taken_further id span (requests.Refresh id from to wider) replies.Refreshed ≡ Some (from, to)
way-there id span wider from to holds = ap (λ (b : Bool). if b then Some (from, to) else None) (and_from (same_txn id id) (holds_span wider span) (same_txn-self id) holds)

-- The way that a reply shows.
abbrev pub way_in : TxnId → Span → Heard → Option (ℕ × ℕ)
way_in id span h = taken_further id span h.request h.reply

module _ (id : TxnId) (all : List Heard) (span : Span) (ts : ℕ) where
  stays-good-one : (h : Heard) (g : ℕ) (o : Option (ℕ × ℕ)) → way_in id span h ≡ o → Contains all h → IsGoodTo id all span ts g → IsGoodTo id all span ts (good_from o g)
  stays-good-one h g None is c good = good
  stays-good-one h g (Some way) is c good = if-good (nat_le way.0 g) refl
    where
      if-good : (b : Bool) → nat_le way.0 g ≡ b → IsGoodTo id all span ts (if b then max g way.1 else g)
      if-good false test = good
      if-good true test =
          let w = way-of id span h.request h.reply way is in
          Further g w.0 way.0 way.1 good (record { reply = h; listed = c; asked = w.1; told = w.2 }) w.3 (leb-true way.0 g test)

  stays-good : (heard : List Heard) (g : ℕ) → ((h : Heard) → Contains heard h → Contains all h) → IsGoodTo id all span ts g → IsGoodTo id all span ts (good_after_all id span heard g)
  stays-good [] g inside good = good
  stays-good (h ∷ heard) g inside good =
      stays-good heard (good_from (way_in id span h) g) (λ x c. inside x (contains_tail h heard x c)) (stays-good-one h g (way_in id span h) refl (inside h (contains_head h heard)) good)

  -- a round takes it only as far as it is good
  pub round_good : (g : ℕ) → IsGoodTo id all span ts g → IsGoodTo id all span ts (good_after_all id span all g)
  round_good g good = stays-good all g (λ h c. c) good

  no-further : (g : ℕ) → ts ≤ g → good_after_all id span all g ≤ g → (other : ℕ) → IsGoodTo id all span ts other → other ≤ g
  no-further g low still ts AtOnce = low
  no-further g low still other (Further good wider from to before was holds far) =
      let earlier : good ≤ g = no-further g low still good before in
      let way : way_in id span was.reply ≡ Some (from, to) =
      ap (λ (p : Request × Reply). taken_further id span p.0 p.1) (λ i. (was.asked i, was.told i)) ∙ way-there id span wider from to holds in
      let end : to ≤ g = goes-on (from, to) g (omega arith) (subst (λ o. good_from o g ≤ g) way (stays (way_in id span) all g was.reply still was.listed)) in
      omega arith

  -- where a round takes it no further, it is good just so far
  pub just_good : (g : ℕ) → ts ≤ g → IsGoodTo id all span ts g → good_after_all id span all g ≤ g → IsGoodJustTo id all span ts g
  just_good g low good still = record { good_to = good; greatest = no-further g low still }
