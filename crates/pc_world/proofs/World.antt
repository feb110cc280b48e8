-- The protocol is a world: its events meet the laws that a meaning of events has to meet.
use Rattle.std.proofs.Common.{◌≡◌, ◌≢◌, ℕ, ◌+◌, ◌<◌, ◌≤◌, Bool, true, false, ◌==◌, ◌⊎◌, inl, inr, Any, Contains, List, [], ◌∷◌, ◌++◌, length, Option, refl, sym, ap, subst, ◌∙◌, arith, length-append}
use Rattle.std.proofs.lemmas.Bool.{and_from, and_parts, eq-eqb, eqb-true}
use Rattle.std.proofs.lemmas.List.Elements.{Contains-push_cases}
use Rattle.pc_base.specs.declared.actor.ActorId.{ActorId}
use Rattle.pc_base.specs.declared.actor.ActorId.TheVariants as actors
use Rattle.pc_base.specs.declared.entry.Entry.{Entry}
use Rattle.pc_base.specs.declared.transaction.TxnId.{TxnId}
use Rattle.pc_history.proofs.Ids.{same_id-equal, same_id-true}
use Rattle.pc_history.specs.declared.pair.Pair.{Pair}
use Rattle.pc_history.specs.History.{MayFollow}
use Rattle.pc_history.specs.Own.{named_in, own, same_id}
use Rattle.pc_history.specs.World.{HasAll, IsWorld, NamesAtMostOne, NamesOneOrNone}
use Rattle.pc_proto.specs.declared.event.Event.{Event}
use Rattle.pc_proto.specs.declared.event.Event.TheVariants as events
use Rattle.pc_world.proofs.Kept.{next_kept}
use Rattle.pc_world.proofs.Knowing.{known_other, known_same}
use Rattle.pc_world.proofs.Prefixes.{run_induction}
use Rattle.pc_world.specs.Caused.{Evaluates, IsCaused, IsCommittedTold, IsEvalOf, IsSendTo, SendsTo, TellsCommitted}
use Rattle.pc_world.specs.Known.{Known, known_of}
use Rattle.pc_world.specs.Known.Traffic.{sent_by}
use Rattle.pc_world.specs.Local.{Head, MayComeNext}
use Rattle.pc_world.specs.Named.{is_eval, is_send_of, is_tell}
use Rattle.pc_world.specs.Run.{IsRun, protocol}

sends : (range : ActorId) (number : ℕ) (event : Event) → SendsTo range number event → is_send_of number event ≡ true
sends (actors.Range range) number (events.Send sent to request) h = eq-eqb sent number h.0
sends range number event h = absurd h

evaluates : (actor : ActorId) (number : ℕ) (event : Event) → Evaluates actor number event → is_eval event ≡ true
evaluates actor number (events.Eval sender sent reply) h = refl
evaluates actor number event h = absurd h

tells : (id : TxnId) (event : Event) → TellsCommitted id event → is_tell event ≡ true
tells id (events.Tell answer) h = refl
tells id event h = absurd h

-- what is caused names one of the entries, or nothing at all
module _ (head : Head) where
  one-or-none : (entries : List (Entry Event)) (event : Event) (id : ActorId) → IsCaused entries event id → NamesOneOrNone (protocol head) entries event
  one-or-none entries (events.Eval actor number reply) id (k, e, inside, at, is) =
      inr (e, (k, inside, at), and_from (same_id actor e.actor) (is_send_of number e.event) (same_id-equal actor e.actor (sym is.whose)) (sends id number e.event is.send))
  one-or-none entries (events.Hear number step) id (k, e, inside, at, is) =
      inr (e, (k, inside, at), and_from (e.step == step) (is_eval e.event) (eq-eqb e.step step is.at) (evaluates id number e.event is.eval))
  one-or-none entries (events.Meet txn step) id (k, e, inside, at, is) =
      inr (e, (k, inside, at), and_from (e.step == step) (is_tell e.event) (eq-eqb e.step step is.at) (tells txn e.event is.tell))
  one-or-none entries (events.Ask call reading) id cause = inl (λ e. refl)
  one-or-none entries (events.Send number range request) id cause = inl (λ e. refl)
  one-or-none entries (events.Tell answer) id cause = inl (λ e. refl)

any-more : (P : Entry Event → Type 0) (some all : List (Entry Event)) → HasAll some all → Any P some → Any P all
any-more P some all has (k, e, inside, at, is) = let there = has e (k, inside, at) in (there.0, e, there.1, there.2, is)

caused-more : (some all : List (Entry Event)) (event : Event) (id : ActorId) → HasAll some all → IsCaused some event id → IsCaused all event id
caused-more some all (events.Eval actor number reply) id has cause = any-more (IsSendTo id actor number) some all has cause
caused-more some all (events.Hear number step) id has cause = any-more (IsEvalOf id number step) some all has cause
caused-more some all (events.Meet txn step) id has cause = any-more (IsCommittedTold txn step) some all has cause
caused-more some all (events.Ask call reading) id has cause = cause
caused-more some all (events.Send number range request) id has cause = cause
caused-more some all (events.Tell answer) id has cause = cause

same-or-not : (a b : ActorId) → (a ≡ b) ⊎ (a ≢ b)
same-or-not a b = by (same_id a b) refl
  where
    by : (t : Bool) → same_id a b ≡ t → (a ≡ b) ⊎ (a ≢ b)
    by true e = inl (same_id-true a b e)
    by false e = inr (λ h. let t : same_id a b ≡ true = same_id-equal a b h in absurd cc)

none-there : (a : Entry Event) → Contains [] a → ⊥
none-there a (k, inside, at) = omega arith

-- an event names at most one entry of a run
module _ (head : Head) where
  StepsBelow : List (Entry Event) → Type 0
  StepsBelow history = (a : Entry Event) → Contains history a → a.step < length history

  steps-below : (history : List (Entry Event)) → IsRun head history → StepsBelow history
  unfolding StepsBelow
  steps-below = run_induction head StepsBelow (λ a there. absurd (none-there a there)) (λ history e run may below a there.
      let n : length (history ++ e ∷ []) ≡ length history + 1 = length-append history (e ∷ []) in
      let at : e.step ≡ length history = may.step in
      elim (Contains-push_cases history e a there) [
        | inl before ↦ let h : a.step < length history = below a before in omega arith
        | inr same ↦ let h : e.step ≡ a.step = ap (λ (x : Entry Event). x.step) same in omega arith
      ])

  IsOnePerStep : List (Entry Event) → Type 0
  IsOnePerStep history = (a b : Entry Event) → Contains history a → Contains history b → a.step ≡ b.step → a ≡ b

  one-per-step : (history : List (Entry Event)) → IsRun head history → IsOnePerStep history
  unfolding IsOnePerStep StepsBelow
  one-per-step = run_induction head IsOnePerStep (λ a b there _ same. absurd (none-there a there)) (λ history e run may one a b is_a is_b same.
      let below : (x : Entry Event) → Contains history x → x.step < length history = steps-below history run in
      let at : e.step ≡ length history = may.step in
      elim (Contains-push_cases history e a is_a) [
        | inl a_before ↦ elim (Contains-push_cases history e b is_b) [
          | inl b_before ↦ one a b a_before b_before same
          | inr b_now ↦ absurd (let h : a.step < length history = below a a_before in let k : e.step ≡ b.step = ap (λ (x : Entry Event). x.step) b_now in omega arith)
        ]
        | inr a_now ↦ elim (Contains-push_cases history e b is_b) [
          | inl b_before ↦ absurd (let h : b.step < length history = below b b_before in let k : e.step ≡ a.step = ap (λ (x : Entry Event). x.step) a_now in omega arith)
          | inr b_now ↦ sym a_now ∙ b_now
        ]
      ])

  next-number-is : (actor : ActorId) (entries : List (Pair Event)) (event : Event) (named : Option (Entry Event)) (number : ℕ) → MayComeNext head actor entries event named → is_send_of number event ≡ true → number ≡ length (known_of entries).sent + 1
  next-number-is (actors.Range range) entries (events.Send sent to request) named number may is = absurd may
  next-number-is (actors.Session session) entries (events.Send sent to request) named number may is = sym (eqb-true sent number is) ∙ may.next
  next-number-is (actors.Recoverer recoverer) entries (events.Send sent to request) named number may is = sym (eqb-true sent number is) ∙ may.next
  next-number-is actor entries event named number may is = absurd cc

  -- the next message of an actor has the next number
  number-of-next : (history : List (Entry Event)) (e : Entry Event) (number : ℕ) → MayFollow (protocol head) history e → is_send_of number e.event ≡ true → number ≡ length (known_of (own (protocol head) e.actor history)).sent + 1
  number-of-next history e number may is = next-number-is e.actor (own (protocol head) e.actor history) e.event (named_in (protocol head) history e.event) number may.local.next is

  sent-count : ActorId → List (Entry Event) → ℕ
  sent-count id history = length (known_of (own (protocol head) id history)).sent

  count-same : (id : ActorId) (history : List (Entry Event)) (e : Entry Event) → e.actor ≡ id → sent-count id (history ++ e ∷ []) ≡ sent-count id history + length (sent_by e.event)
  unfolding sent-count
  count-same id history e same =
      ap (λ (k : Known). length k.sent) (known_same head id history e same) ∙ length-append (known_of (own (protocol head) id history)).sent (sent_by e.event)

  count-other : (id : ActorId) (history : List (Entry Event)) (e : Entry Event) → e.actor ≢ id → sent-count id (history ++ e ∷ []) ≡ sent-count id history
  unfolding sent-count
  count-other id history e differ = ap (λ (k : Known). length k.sent) (known_other head id history e differ)

  count-grows : (id : ActorId) (history : List (Entry Event)) (e : Entry Event) → sent-count id history ≤ sent-count id (history ++ e ∷ [])
  count-grows id history e =
      elim (same-or-not e.actor id) [ inl same ↦ omega (arith, count-same id history e same) | inr differ ↦ omega (arith, count-other id history e differ) ]

  one-sent : (number : ℕ) (event : Event) → is_send_of number event ≡ true → length (sent_by event) ≡ 1
  one-sent number (events.Send sent to request) is = refl
  one-sent number event is = absurd cc

  AreCounted : List (Entry Event) → Type 0
  AreCounted history = (a : Entry Event) (number : ℕ) → Contains history a → is_send_of number a.event ≡ true → number ≤ sent-count a.actor history

  counted : (history : List (Entry Event)) → IsRun head history → AreCounted history
  unfolding AreCounted
  counted = run_induction head AreCounted (λ a number there is. absurd (none-there a there)) (λ history e run may all a number there is.
      elim (Contains-push_cases history e a there) [
        | inl before ↦ omega (arith, all a number before is, count-grows a.actor history e)
        | inr same ↦ subst (λ x. number ≤ sent-count x.actor (history ++ e ∷ [])) same
            (let is_e : is_send_of number e.event ≡ true = subst (λ x. is_send_of number x.event ≡ true) (sym same) is in
            let n = number-of-next history e number may is_e in
            last-counted history e number n (one-sent number e.event is_e))
      ])
    where
      last-counted : (history : List (Entry Event)) (e : Entry Event) (number : ℕ) → number ≡ length (known_of (own (protocol head) e.actor history)).sent + 1 → length (sent_by e.event) ≡ 1 → number ≤ sent-count e.actor (history ++ e ∷ [])
      last-counted history e number n one = let count : sent-count e.actor history ≡ length (known_of (own (protocol head) e.actor history)).sent = unfold sent-count in refl in omega (arith, count-same e.actor history e refl)

  -- the message sent next has a number that no earlier one of its actor has
  is-new : (history : List (Entry Event)) (e a : Entry Event) (number : ℕ) → IsRun head history → MayFollow (protocol head) history e → Contains history a → a.actor ≡ e.actor → is_send_of number a.event ≡ true → is_send_of number e.event ≡ true → ⊥
  unfolding AreCounted sent-count
  is-new history e a number run may there same is_a is_e =
      let all : (x : Entry Event) (number : ℕ) → Contains history x → is_send_of number x.event ≡ true → number ≤ length (known_of (own (protocol head) x.actor history)).sent = counted history run in
      let before : number ≤ length (known_of (own (protocol head) e.actor history)).sent = subst (λ id. number ≤ length (known_of (own (protocol head) id history)).sent) same (all a number there is_a) in
      omega (arith, number-of-next history e number may is_e)

  IsOnePerNumber : List (Entry Event) → Type 0
  IsOnePerNumber history = (a b : Entry Event) (number : ℕ) → Contains history a → Contains history b → a.actor ≡ b.actor → is_send_of number a.event ≡ true → is_send_of number b.event ≡ true → a ≡ b

  one-per-number : (history : List (Entry Event)) → IsRun head history → IsOnePerNumber history
  unfolding IsOnePerNumber
  one-per-number = run_induction head IsOnePerNumber (λ a b number there _ same ia ib. absurd (none-there a there)) (λ history e run may one a b number is_a is_b same ia ib.
      elim (Contains-push_cases history e a is_a) [
        | inl a_before ↦ elim (Contains-push_cases history e b is_b) [
          | inl b_before ↦ one a b number a_before b_before same ia ib
          | inr b_now ↦ absurd (is-new history e a number run may a_before (same ∙ ap (λ (x : Entry Event). x.actor) (sym b_now)) ia (subst (λ x. is_send_of number x.event ≡ true) (sym b_now) ib))
        ]
        | inr a_now ↦ elim (Contains-push_cases history e b is_b) [
          | inl b_before ↦ absurd (is-new history e b number run may b_before (sym same ∙ ap (λ (x : Entry Event). x.actor) (sym a_now)) ib (subst (λ x. is_send_of number x.event ≡ true) (sym a_now) ia))
          | inr b_now ↦ sym a_now ∙ b_now
        ]
      ])

  pub names_one : (history : List (Entry Event)) (event : Event) → IsRun head history → NamesAtMostOne (protocol head) history event
  unfolding IsOnePerStep IsOnePerNumber
  names_one history (events.Eval actor number reply) run a b is_a is_b na nb =
      let one : actor ≡ a.actor = same_id-true actor a.actor (and_parts (same_id actor a.actor) (is_send_of number a.event) na).0 in
      let other : actor ≡ b.actor = same_id-true actor b.actor (and_parts (same_id actor b.actor) (is_send_of number b.event) nb).0 in
      one-per-number history run a b number is_a is_b (sym one ∙ other)
      (and_parts (same_id actor a.actor) (is_send_of number a.event) na).1 (and_parts (same_id actor b.actor) (is_send_of number b.event) nb).1
  names_one history (events.Hear number step) run a b is_a is_b na nb =
      one-per-step history run a b is_a is_b
      (eqb-true a.step step (and_parts (a.step == step) (is_eval a.event) na).0 ∙ sym (eqb-true b.step step (and_parts (b.step == step) (is_eval b.event) nb).0))
  names_one history (events.Meet txn step) run a b is_a is_b na nb =
      one-per-step history run a b is_a is_b
      (eqb-true a.step step (and_parts (a.step == step) (is_tell a.event) na).0 ∙ sym (eqb-true b.step step (and_parts (b.step == step) (is_tell b.event) nb).0))
  names_one history event run a b is_a is_b na nb = absurd cc

  -- the protocol is a world
  pub is_world : IsWorld (protocol head)
  is_world = record {
    names = one-or-none head;
    names_one = names_one;
    more = caused-more;
    keeps = λ history event id fine kept local caused. next_kept head id history event fine kept local;
  }
