-- The one history evaluates each message once unless it is held up, and what an actor knows to be full is.
use Rattle.std.proofs.Common.{◌≡◌, ℕ, zero, suc, ◌+◌, ◌<◌, ◌≤◌, ◌⊎◌, inl, inr, Bool, true, false, ◌==◌, cond, nat_le, All, Contains, IsTrue, List, [], ◌∷◌, length, count_by, slice_get, slice_index, Some, refl, sym, ap, subst, ◌∙◌, arith}
use Rattle.std.proofs.lemmas.Bool.{and_from, and_parts, eq-eqb, eqb-true, false≢true}
use Rattle.std.proofs.lemmas.Bool.Decides.{nat_tests}
use Rattle.std.proofs.lemmas.List.{length-map}
use Rattle.std.proofs.lemmas.List.Elements.{All-contains, All-head, All-tail}
use Rattle.std.proofs.lemmas.List.Folds.{Any-from_list_any}
use Rattle.std.proofs.lemmas.Option.{slice_get_within}
use Rattle.std.specs.List.{AllByRecursion}
use Rattle.pc_base.specs.declared.actor.ActorId.{ActorId}
use Rattle.pc_base.specs.declared.actor.ActorId.TheVariants as actors
use Rattle.pc_base.specs.declared.entry.Entry.{Entry}
use Rattle.pc_closing.specs.Closing.{IsKeptIn}
use Rattle.pc_closing.proofs.Leaving.{refused-on}
use Rattle.pc_closing.specs.Full.{range_is_full}
use Rattle.pc_closing.specs.HeldUp.{holds_up}
use Rattle.pc_closing.specs.Leaving.{HasSettledAll, IsSettled}
use Rattle.pc_closing.specs.Served.{AreServed, IsServedOnce}
use Rattle.pc_desk.specs.Desk.{GivesOnce, KnowsFull}
use Rattle.pc_desk.specs.Refused.{HasUseBack, WasGivenBack}
use Rattle.pc_history.proofs.Histories.{contains-own, stands-contains}
use Rattle.pc_history.proofs.Ids.{same_id-true}
use Rattle.pc_history.specs.Closed.{IsClosedPart, Stands, spenders}
use Rattle.pc_history.specs.declared.view.Known.{Known as KnownEntry}
use Rattle.pc_history.specs.declared.view.Part.{Part}
use Rattle.pc_history.specs.Own.{entries_of, own, same_id}
use Rattle.pc_history.proofs.Uses.{uses_of-cons}
use Rattle.pc_history.specs.Parts.{known_entry, uses_at, uses_of}
use Rattle.pc_implicit.proofs.Hearing.{WasSentBy, heard_is_so, sent_is_so}
use Rattle.pc_implicit.proofs.Shown.{WasAnswered}
use Rattle.pc_lists.proofs.Counts.{count-cons}
use Rattle.pc_lists.proofs.Each.{each-contains}
use Rattle.pc_lists.proofs.Lists.{all_from_contains, contains_cons, contains_get, contains_head, contains_nil, contains_tail}
use Rattle.pc_range.specs.Message.{sending}
use Rattle.pc_proto.specs.declared.event.Event.{Event}
use Rattle.pc_proto.specs.declared.event.Event.TheVariants as events
use Rattle.pc_turns.proofs.Evaluated.{served_is_evaluated_once, unspent_is_never_evaluated}
use Rattle.pc_turns.specs.Once.{evaluations_of, is_evaluation_of}
use Rattle.pc_world.specs.After.{known_at}
use Rattle.pc_world.specs.Caused.{Evaluates}
use Rattle.pc_world.specs.Known.{Known, known_of}
use Rattle.pc_world.specs.Known.Traffic.{Heard, Sent}
use Rattle.pc_world.specs.Local.{Head}
use Rattle.pc_world.specs.Named.{is_send_of}
use Rattle.pc_world.specs.Run.{IsRun, protocol}
use Rattle.pc_world.specs.Tell.Refusal.{is_heard}

-- none passes, or one does
counted : {X : Type 0} (f : X → Bool) (xs : List X) → (count_by f xs ≡ 0) ⊎ ((x : X) × Contains xs x × (f x ≡ true))
counted f [] = inl refl
counted {X} f (x ∷ xs) = by (f x) refl (counted f xs)
  where
    by : (b : Bool) → f x ≡ b → (count_by f xs ≡ 0) ⊎ ((y : X) × Contains xs y × (f y ≡ true)) → (count_by f (x ∷ xs) ≡ 0) ⊎ ((y : X) × Contains (x ∷ xs) y × (f y ≡ true))
    by true is rest = inr (x, contains_head x xs, is)
    by false is (inl none) = inl (let rest : count_by f (x ∷ xs) ≡ 0 + count_by f xs = count-cons f x xs ∙ ap (λ b. cond b 1 0 + count_by f xs) is in omega arith)
    by false is (inr one) = inr (one.0, contains_tail x xs one.0 one.1, one.2)

index-once : (xs : List ℕ) (i : ℕ) → All (λ u. u ≤ 1) xs → slice_index xs i ≤ 1
index-once [] i once = omega arith
index-once (x ∷ xs) zero once = All-head (λ u. u ≤ 1) x xs once
index-once (x ∷ xs) (suc i) once = index-once xs i (All-tail (λ u. u ≤ 1) x xs once)

of-evaluation : (id : ActorId) (number : ℕ) (event : Event) → is_evaluation_of id number event ≡ true → Evaluates id number event
of-evaluation id number (events.Eval actor sent reply) is =
    let both = and_parts (same_id id actor) (sent == number) is in
    (sym (same_id-true id actor both.0), eqb-true sent number both.1)
of-evaluation id number event is = absurd (false≢true is)

-- what is known with uses has them
has-uses : (ks : List (KnownEntry Event)) (k : KnownEntry Event) → Contains ks k → k.uses ≤ uses_of k.entry.step ks
has-uses [] k there = absurd (contains_nil k there)
has-uses (x ∷ xs) k there =
    let all = uses_of-cons k.entry.step x xs in
    elim (contains_cons x xs k there) [
      | inl here ↦
          let same : x.entry.step ≡ k.entry.step = ap (λ (y : KnownEntry Event). y.entry.step) here in
          let as_many : x.uses ≡ k.uses = ap (λ (y : KnownEntry Event). y.uses) here in
          let mine : uses_at k.entry.step x ≡ x.uses = ap (λ b. cond b x.uses 0) (eq-eqb x.entry.step k.entry.step same) in
          omega (arith, all, as_many, mine)
      | inr later ↦ let rest : k.uses ≤ uses_of k.entry.step xs = has-uses xs k later in omega (arith, all, rest)
    ]

at-most : (limit place long : ℕ) → limit < place + 2 → place < long → nat_le limit long ≡ true
at-most limit place long many within = let h : limit ≤ long = omega arith in grind (arith, nat_tests)

module _ (limit : ℕ) (head : Head) (history : List (Entry Event)) (run : IsRun head history) (part : Part Event) (closed : IsClosedPart (protocol head) history part) where
  -- The known entry stands in the history, at its place in its actor's list.
  abbrev StandsThere : KnownEntry Event → Type 0
  StandsThere k = Stands (protocol head) history k

  -- a range that the actor knows to be full is full
  pub full_there : (range : ℕ) → KnowsFull range limit part.known → range_is_full limit head history range ≡ true
  full_there range f =
      let list = own (protocol head) (actors.Range range) history in
      let same : f.entry ≡ known_entry f.full.entry f.full.place 0 = cc in
      let stands : StandsThere (known_entry f.full.entry f.full.place 0) = subst StandsThere same (All-contains StandsThere part.known f.entry closed.stand f.knows) in
      let there : slice_get (entries_of list) f.full.place ≡ Some f.full.entry = subst (λ (id : ActorId). slice_get (entries_of (own (protocol head) id history)) f.full.place ≡ Some f.full.entry) f.full.whose stands in
      let long : length (entries_of list) ≡ length list = length-map list (λ p. p.entry) in
      at-most limit f.full.place (length list) f.full.many (subst (λ n. f.full.place < n) long (slice_get_within (entries_of list) f.full.place f.full.entry there))

  module _ (given : GivesOnce part) where
    -- What the actor knows by its own list.
    abbrev k : Known
    k = known_of part.own

    known-is : known_at head part.id history ≡ k
    known-is = ap known_of closed.list

    -- the entry in which it was sent
    sending-of : (m : Sent) → Contains k.sent m → WasSentBy head history part.id m
    sending-of m there = each-contains (WasSentBy head history part.id) k.sent m (subst (λ (l : Known). AllByRecursion (WasSentBy head history part.id) l.sent) known-is (sent_is_so head history run part.id)) there

    -- one evaluation is the only one
    evaluated-once : (m : Sent) → Contains k.sent m → (e : Entry Event) → Contains history e → Evaluates part.id m.number e.event → evaluations_of part.id m.number history ≡ 1
    evaluated-once m there e listed of_it =
        let w = sending-of m there in
        let p = contains-own (protocol head) history w.send w.listed in
        let mine : Contains part.own p.0 = subst (λ ps. Contains ps p.0) (ap (λ id. own (protocol head) id history) w.whose ∙ closed.list) p.1 in
        let at = contains_get part.own p.0 mine in
        let all = closed.uses at.0 p.0 at.1 in
        let uses : spenders (protocol head) p.0.entry.step history ≤ slice_index part.given at.0 = omega arith in
        let few : slice_index part.given at.0 ≤ 1 = index-once part.given at.0 given.once in
        let spent : spenders (protocol head) w.send.step history ≤ 1 = subst (λ (x : Entry Event). spenders (protocol head) x.step history ≤ 1) p.2 (omega arith) in
        served_is_evaluated_once head history part.id m.number run (record {
          send = w.send;
          sent = w.listed;
          whose = w.whose;
          says = ap (is_send_of m.number) w.sends ∙ eq-eqb m.number m.number refl;
          spent = spent;
          evaluation = e;
          evaluated = listed;
          of_it = of_it;
        })

    evaluated-most : (m : Sent) → Contains k.sent m → evaluations_of part.id m.number history ≤ 1
    evaluated-most m there = by (counted (λ (e : Entry Event). is_evaluation_of part.id m.number e.event) history)
      where
        by : (evaluations_of part.id m.number history ≡ 0) ⊎ ((e : Entry Event) × Contains history e × (is_evaluation_of part.id m.number e.event ≡ true)) → evaluations_of part.id m.number history ≤ 1
        by (inl none) = omega arith
        by (inr one) = let once = evaluated-once m there one.0 one.1 (of-evaluation part.id m.number one.0.event one.2) in omega arith

    -- what was heard was evaluated
    heard-once : (m : Sent) → Contains k.sent m → IsTrue (is_heard k.heard m) → evaluations_of part.id m.number history ≡ 1
    heard-once m there heard =
        let a = Any-from_list_any (λ (h : Heard). h.number == m.number) k.heard heard in
        let h = a.1 in
        let same : h.number ≡ m.number = eqb-true h.number m.number a.4 in
        let w : WasAnswered head history part.id h.number h.request h.reply =
        each-contains (λ (x : Heard). WasAnswered head history part.id x.number x.request x.reply) k.heard h
        (subst (λ (l : Known). AllByRecursion (λ (x : Heard). WasAnswered head history part.id x.number x.request x.reply) l.heard) known-is (heard_is_so head history run part.id)) (a.0, a.2, a.3) in
        evaluated-once m there w.eval w.evaluated (subst (Evaluates part.id m.number) (sym w.told) (refl, same))

    -- what it has the use of back is never evaluated
    never : (m : Sent) → HasUseBack part m → evaluations_of part.id m.number history ≡ 0
    never m back =
        let e = sending back.step part.id m.number m.range m.request in
        let own_note = known_entry e back.place back.uses in
        let there : Contains history e = stands-contains (protocol head) history own_note (All-contains StandsThere part.known own_note closed.stand back.knows) in
        let p = contains-own (protocol head) history e there in
        let at = contains_get part.own p.0 (subst (λ ps. Contains ps p.0) closed.list p.1) in
        let few : slice_index part.given at.0 ≤ 1 = index-once part.given at.0 given.once in
        let has : back.uses ≤ uses_of p.0.entry.step part.known = subst (λ (x : Entry Event). back.uses ≤ uses_of x.step part.known) (sym p.2) (has-uses part.known own_note back.knows) in
        let some : 1 ≤ back.uses = back.some in
        unspent_is_never_evaluated head history part at.0 m.number p.0 run closed at.1 (ap (λ (x : Entry Event). is_send_of m.number x.event) p.2 ∙ eq-eqb m.number m.number refl) (omega arith)

    pub held_there : (m : Sent) → WasGivenBack limit part m → holds_up limit head history part.id m ≡ true
    held_there m refused =
        and_from (range_is_full limit head history m.range) (evaluations_of part.id m.number history == 0) (full_there m.range refused.full) (eq-eqb (evaluations_of part.id m.number history) 0 (never m refused.back))

    served-once : (m : Sent) → Contains k.sent m → IsSettled limit part m → IsServedOnce (holds_up limit head history part.id) part.id history k m
    served-once m there (inl heard) = let once = heard-once m there heard in record { most = omega arith; once = inl once }
    served-once m there (inr (inl knows)) =
        let once = evaluated-once m there knows.evaluation.entry (stands-contains (protocol head) history knows.evaluation (All-contains StandsThere part.known knows.evaluation closed.stand knows.knows)) knows.of_it in
        record { most = omega arith; once = inl once }
    served-once m there (inr (inr held)) = record {
      most = evaluated-most m there;
      once = inr (record { front = held.front; sent = held.sent; no_later = held.no_later; unheard = held.unheard; is = held_there held.front held.refused });
    }

    pub served : All (IsSettled limit part) k.sent → AreServed (holds_up limit head history part.id) part.id history k
    served settled = all_from_contains (IsServedOnce (holds_up limit head history part.id) part.id history k) k.sent (λ m there. served-once m there (All-contains (IsSettled limit part) k.sent m settled there))

-- an actor that was handed in is kept in the history
pub kept_in : (limit : ℕ) (head : Head) (history : List (Entry Event)) (actor : ActorId) (old new : Part Event) → IsRun head history → IsClosedPart (protocol head) history new → HasSettledAll limit old new → new.id ≡ actor
    → IsKeptIn limit head history actor old
kept_in limit head history actor old new run closed left id = record {
  list = ap (λ i. own (protocol head) i history) (sym id) ∙ (closed.list ∙ left.own);
  served = subst (λ (i : ActorId). AreServed (holds_up limit head history i) i history (known_of old.own)) id
      (subst (λ o. AreServed (holds_up limit head history new.id) new.id history (known_of o)) left.own (served limit head history run new closed left.given left.settled));
  full = λ range f. full_there limit head history run new closed range (record { entry = f.entry; knows = left.known f.entry f.knows; full = f.full });
  held = λ m refused. subst (λ (i : ActorId). holds_up limit head history i m ≡ true) id (held_there limit head history run new closed left.given m (refused-on limit old new left.own left.id left.known m refused));
}
