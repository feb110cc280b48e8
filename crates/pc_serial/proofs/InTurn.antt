-- Of two committed transactions of one session the one that was begun first stands first.
use Rattle.std.proofs.Common.{◌≡◌, ℕ, ◌+◌, ◌<◌, ◌≤◌, Bool, true, false, ◌⊎◌, inl, inr, List, [], ◌∷◌, ◌++◌, append_assoc, append-nil, Option, None, Some, Contains, refl, sym, ap, subst, ◌∙◌, arith}
use Rattle.std.proofs.lemmas.Bool.{cases_lt}
use Rattle.std.proofs.lemmas.List.Elements.{Contains-append_right}
use Rattle.std.specs.List.{cons_option}
use Rattle.pc_base.specs.declared.actor.ActorId.{ActorId}
use Rattle.pc_base.specs.declared.actor.ActorId.TheVariants as actors
use Rattle.pc_base.specs.declared.entry.Entry.{Entry}
use Rattle.pc_base.specs.declared.transaction.TxnId.{TxnId}
use Rattle.pc_base.specs.Transaction.{same_txn}
use Rattle.pc_history.proofs.Histories.{own-push, own-push_same}
use Rattle.pc_history.specs.declared.pair.Pair.{Pair}
use Rattle.pc_history.specs.History.{MayFollow}
use Rattle.pc_history.specs.Own.{named_in, own, pair}
use Rattle.pc_implicit.proofs.Agreed.{begun_next, committed_row}
use Rattle.pc_implicit.proofs.CommitCalls.{is-begin, is-tell, same-told}
use Rattle.pc_implicit.proofs.Commits.{act_of}
use Rattle.pc_implicit.proofs.Begins.{committed_was_begun}
use Rattle.pc_implicit.proofs.Did.{session_at}
use Rattle.pc_implicit.proofs.Doing.{Does, same_or_not, told_by_row}
use Rattle.pc_implicit.proofs.Ended.{ended_never_commits}
use Rattle.pc_implicit.proofs.Fronts.{split_there}
use Rattle.pc_implicit.proofs.Moves.{is_first, open_is_first}
use Rattle.pc_implicit.proofs.OpenOver.{IsOpenHere}
use Rattle.pc_implicit.proofs.OpenReads.{IsWithin}
use Rattle.pc_implicit.proofs.OwnNext.{does_next, first_next, open_next}
use Rattle.pc_implicit.proofs.OwnSplit.{StandsBehind, own_split}
use Rattle.pc_implicit.specs.Ends.{SaysOver}
use Rattle.pc_lists.proofs.Lists.{contains_cons, contains_head, contains_nil, contains_tail}
use Rattle.pc_lists.proofs.Same.{same_txn-is, same_txn-self}
use Rattle.pc_proto.specs.declared.answer.Answer.{Answer}
use Rattle.pc_proto.specs.declared.answer.Answer.TheVariants as answers
use Rattle.pc_proto.specs.declared.call.Call.{Call}
use Rattle.pc_proto.specs.declared.call.Call.TheVariants as calls
use Rattle.pc_proto.specs.declared.event.Event.{Event}
use Rattle.pc_proto.specs.declared.event.Event.TheVariants as events
use Rattle.pc_serial.proofs.Legal.{is-legal}
use Rattle.pc_world.proofs.Knowing.{known_other, known_same}
use Rattle.pc_world.proofs.Prefixes.{run_front, run_induction, run_may}
use Rattle.pc_world.specs.After.{known_at}
use Rattle.pc_world.specs.CommitOrder.{all_begun, begun_in}
use Rattle.pc_world.specs.Committed.{IsCommitted}
use Rattle.pc_world.specs.Known.{Known, call_in, call_of, first_if, known_of, open_txn}
use Rattle.pc_world.specs.Known.Statements.{begun_after, is_open_after, is_open_told, statement_after}
use Rattle.pc_world.specs.Known.Transactions.{Txn}
use Rattle.pc_world.specs.Legal.{BeganAfter, Learns, StandsBefore, TellsBegun, committed_in_order}
use Rattle.pc_world.specs.Local.{Head, MayComeNext, MayDo}
use Rattle.pc_world.specs.Operations.{is_last_after}
use Rattle.pc_world.specs.Run.{IsRun, protocol}

-- The session was told an answer that ended the transaction, which was open.
pub record HasEnded (head : Head) (history : List (Entry Event)) (id : TxnId) : Type 0 where
  pub before : List (Pair Event)
  pub end : Pair Event
  pub rest : List (Pair Event)
  pub whole : own (protocol head) (actors.Session id.session) history ≡ before ++ end ∷ rest
  pub answer : Answer
  pub tells : end.entry.event ≡ events.Tell answer
  pub here : IsOpenHere (known_of before) id
  pub closes : is_open_told answer true ≡ false

txn-is : (one other : TxnId) → one.session ≡ other.session → one.number ≡ other.number → one ≡ other
txn-is one other session number = λ i. record { session = session i; number = number i }

first-here : (id : TxnId) (b : Bool) (txns : List Txn) → is_first id txns ≡ true → b ≡ true → (t : Txn) × (first_if b txns ≡ Some t) × (t.id ≡ id)
first-here id true [] first is = absurd cc
first-here id true (t ∷ ts) first is = (t, refl, same_txn-is t.id id first)
first-here id false txns first is = absurd cc

is-begin-call : Option Call → Bool
is-begin-call (Some (calls.Begin priority)) = true
is-begin-call o = false

module _ (head : Head) where
  -- the session has its own entries of the beginning first
  own-along : (actor : ActorId) (front back : List (Entry Event)) → (more : List (Pair Event)) × (own (protocol head) actor (front ++ back) ≡ own (protocol head) actor front ++ more)
  own-along actor front [] = ([], ap (own (protocol head) actor) (append-nil front) ∙ sym (append-nil (own (protocol head) actor front)))
  own-along actor front (e ∷ es) =
      let first = own-push (protocol head) actor front e in
      let rest = own-along actor (front ++ e ∷ []) es in (
        first.0 ++ rest.0,
        ap (own (protocol head) actor) (sym (append_assoc front (e ∷ []) es)) ∙ rest.1 ∙ ap (λ ps. ps ++ rest.0) first.1 ∙ append_assoc (own (protocol head) actor front) first.0 rest.0,
      )

  -- ---- no transaction is open in a call that begins one

  ClosedInBegin : List (Entry Event) → Type 0
  ClosedInBegin history = (session : ℕ) → is-begin-call (call_of (known_at head (actors.Session session) history)) ≡ true → (known_at head (actors.Session session) history).is_open ≡ false

  closed-next : (history : List (Entry Event)) (e : Entry Event) (session : ℕ) → MayDo head (actors.Session session) (known_at head (actors.Session session) history) e.event → (event : Event) → e.event ≡ event
      → (is-begin-call (call_of (known_at head (actors.Session session) history)) ≡ true → (known_at head (actors.Session session) history).is_open ≡ false)
      → is-begin-call (call_in (statement_after event (known_at head (actors.Session session) history).statement)) ≡ true → is_open_after event (known_at head (actors.Session session) history).is_open ≡ false
  unfolding is-begin-call
  closed-next history e session may (events.Ask (calls.Begin priority) reading) is before asks = (subst (MayDo head (actors.Session session) (known_at head (actors.Session session) history)) is may).outside refl
  closed-next history e session may (events.Ask call reading) is before asks = absurd (cc asks)
  closed-next history e session may (events.Tell answer) is before asks = absurd (cc asks)
  closed-next history e session may event is before asks = before asks

  closed_in_begin : (history : List (Entry Event)) → IsRun head history → (session : ℕ) → is-begin-call (call_of (known_at head (actors.Session session) history)) ≡ true → (known_at head (actors.Session session) history).is_open ≡ false
  unfolding ClosedInBegin is-begin-call
  closed_in_begin = run_induction head ClosedInBegin (λ session call. absurd (cc call)) (λ history e run may all session call.
      let actor : ActorId = actors.Session session in
      elim (same_or_not e.actor actor) [
        | inl same ↦
            let k = known_at head actor history in
            let known = known_same head actor history e same in
            let act : MayDo head actor k e.event = subst (λ a. MayComeNext head a (own (protocol head) a history) e.event (named_in (protocol head) history e.event)) same may.local.next in
            ap (λ (x : Known). x.is_open) known
            ∙ closed-next history e session act e.event refl (all session) (sym (ap (λ (x : Known). is-begin-call (call_of x)) known) ∙ call)
        | inr differ ↦
            let still = known_other head actor history e differ in
            ap (λ (x : Known). x.is_open) still ∙ all session (ap (λ (x : Known). is-begin-call (call_of x)) (sym still) ∙ call)
      ])

  -- ---- each transaction that was begun is open, or has ended

  -- it stays ended
  ended-more : (history : List (Entry Event)) (e : Entry Event) (id : TxnId) → HasEnded head history id → HasEnded head (history ++ e ∷ []) id
  ended-more history e id h =
      let more = own-push (protocol head) (actors.Session id.session) history e in
      record {
        before = h.before;
        end = h.end;
        rest = h.rest ++ more.0;
        whole = more.1 ∙ ap (λ ps. ps ++ more.0) h.whole ∙ append_assoc h.before (h.end ∷ h.rest) more.0;
        answer = h.answer;
        tells = h.tells;
        here = h.here;
        closes = h.closes;
      }

  AreEnded : List (Entry Event) → Type 0
  AreEnded history = (id : TxnId) → 1 ≤ id.number → id.number ≤ (session_at head id history).begun → IsOpenHere (session_at head id history) id ⊎ HasEnded head history id

  -- One more entry of the session.
  module _ (history : List (Entry Event)) (e : Entry Event) (run : IsRun head history) (may : MayFollow (protocol head) history e) (id : TxnId) (same : e.actor ≡ actors.Session id.session) where
    here-then : is_first id (session_at head id (history ++ e ∷ [])).txns ≡ true → (session_at head id (history ++ e ∷ [])).is_open ≡ true → IsOpenHere (session_at head id (history ++ e ∷ [])) id
    here-then first is_open =
        let k = session_at head id (history ++ e ∷ []) in
        let t = first-here id k.is_open k.txns first is_open in
        record { t = t.0; opened = t.1; named = t.2 }

    -- a transaction that is begun is open
    begun-open : (new : TxnId) (ts : ℕ) → e.event ≡ events.Tell (answers.Begun new ts) → new ≡ id → IsOpenHere (session_at head id (history ++ e ∷ [])) id
    begun-open new ts is eq =
        here-then
        ((first_next head history e id same) ∙ ap (λ event. is_last_after id event (is_first id (session_at head id history).txns)) is ∙ ap (λ i. same_txn i id) eq ∙ same_txn-self id)
        ((open_next head history e id same) ∙ ap (λ event. is_open_after event (session_at head id history).is_open) is)

    -- where one begins, none was open
    begins-closed : (new : TxnId) (ts : ℕ) → e.event ≡ events.Tell (answers.Begun new ts) → IsOpenHere (session_at head id history) id → ⊥
    unfolding is-begin-call
    begins-closed new ts is here =
        let k = session_at head id history in
        let does : Does head (actors.Session id.session) k (events.Tell (answers.Begun new ts)) = subst (Does head (actors.Session id.session) k) is (does_next head history e id same may) in
        let row = told_by_row head (actors.Session id.session) k (answers.Begun new ts) does (λ h. cc h) (λ h. cc h) in
        let call : call_of k ≡ Some (calls.Begin row.priority) = ap call_in does.opened ∙ ap Some row.asked in
        let closed : k.is_open ≡ false = closed_in_begin history run id.session (ap is-begin-call call) in
        let both : true ≡ false = sym (open_is_first k here.t here.opened).1 ∙ closed in
        cc both

    -- what is open stays so, or ends with the entry
    open-next : ((new : TxnId) (ts : ℕ) → e.event ≡ events.Tell (answers.Begun new ts) → ⊥) → IsOpenHere (session_at head id history) id
        → IsOpenHere (session_at head id (history ++ e ∷ [])) id ⊎ HasEnded head (history ++ e ∷ []) id
    open-next none here =
        let k = session_at head id history in
        let was = open_is_first k here.t here.opened in
        let first : is_first id (session_at head id (history ++ e ∷ [])).txns ≡ true =
        (first_next head history e id same) ∙ same-told head id e.event (is_first id k.txns) none ∙ ap (λ i. is_first i k.txns) (sym here.named) ∙ was.0 in
        elim (is-tell head id e.event) [
          | inl tells ↦ told tells.0 tells.1 (is_open_told tells.0 true) refl first was.1
          | inr other ↦ elim other [
            | inl asks ↦ inl (here-then first ((open_next head history e id same) ∙ ap (λ event. is_open_after event k.is_open) asks.2 ∙ was.1))
            | inr within ↦ inl (here-then first ((open_next head history e id same) ∙ within-open e.event k.is_open within ∙ was.1))
          ]
        ]
      where
        within-open : (event : Event) (b : Bool) → IsWithin event → is_open_after event b ≡ b
        within-open (events.Ask call reading) b within = absurd within
        within-open (events.Tell answer) b within = absurd within
        within-open event b within = refl

        told : (answer : Answer) → e.event ≡ events.Tell answer → (b : Bool) → is_open_told answer true ≡ b → is_first id (session_at head id (history ++ e ∷ [])).txns ≡ true
            → (session_at head id history).is_open ≡ true → IsOpenHere (session_at head id (history ++ e ∷ [])) id ⊎ HasEnded head (history ++ e ∷ []) id
        told answer tells true stays first was_open =
            inl (here-then first ((open_next head history e id same) ∙ ap (λ event. is_open_after event (session_at head id history).is_open) tells ∙ ap (is_open_told answer) was_open ∙ stays))
        told answer tells false closes first was_open =
            inr (record {
              before = own (protocol head) (actors.Session id.session) history;
              end = pair e (named_in (protocol head) history e.event);
              rest = [];
              whole = own-push_same (protocol head) (actors.Session id.session) history e same;
              answer = answer;
              tells = tells;
              here = here;
              closes = closes;
            })

    ended-next : (1 ≤ id.number) → (id.number ≤ (session_at head id history).begun → IsOpenHere (session_at head id history) id ⊎ HasEnded head history id)
        → id.number ≤ (session_at head id (history ++ e ∷ [])).begun → IsOpenHere (session_at head id (history ++ e ∷ [])) id ⊎ HasEnded head (history ++ e ∷ []) id
    ended-next some before low =
        let k = session_at head id history in
        let begun : (session_at head id (history ++ e ∷ [])).begun ≡ begun_after e.event k.begun = ap (λ (x : Known). x.begun) (known_same head (actors.Session id.session) history e same) in
        elim (is-begin head id e.event) [
          | inl new ↦
              let next = begun_next head (actors.Session id.session) k new.0 new.1 (subst (Does head (actors.Session id.session) k) new.2 (does_next head history e id same may)) in
              let grown : begun_after e.event k.begun ≡ k.begun + 1 = ap (λ event. begun_after event k.begun) new.2 in
              elim (cases_lt k.begun id.number) [
                | inr old ↦ elim (before old) [
                  | inl here ↦ absurd (begins-closed new.0 new.1 new.2 here)
                  | inr ended ↦ inr (ended-more history e id ended)
                ]
                | inl above ↦
                    let session : id.session ≡ new.0.session = session-is next.0 in
                    let at : new.0.number ≡ k.begun + 1 = next.1 in
                    let number : new.0.number ≡ id.number = omega (arith, above, low, begun, grown, at) in
                    inl (begun-open new.0 new.1 new.2 (txn-is new.0 id (sym session) number))
              ]
          | inr none ↦
              let kept : begun_after e.event k.begun ≡ k.begun = same-begun e.event k.begun none in
              elim (before (omega (arith, low, begun, kept))) [
                | inl here ↦ open-next none here
                | inr ended ↦ inr (ended-more history e id ended)
              ]
        ]
      where
        session-is : {m n : ℕ} → actors.Session m ≡ actors.Session n → m ≡ n
        session-is h = cc h

        same-begun : (event : Event) (n : ℕ) → ((other : TxnId) (ts : ℕ) → event ≡ events.Tell (answers.Begun other ts) → ⊥) → begun_after event n ≡ n
        same-begun (events.Tell (answers.Begun other ts)) n none = absurd (none other ts refl)
        same-begun (events.Tell answer) n none = refl
        same-begun event n none = refl

  -- so it is of each one that was begun
  are_ended : (history : List (Entry Event)) → IsRun head history → (id : TxnId) → 1 ≤ id.number → id.number ≤ (session_at head id history).begun → IsOpenHere (session_at head id history) id ⊎ HasEnded head history id
  unfolding AreEnded
  are_ended = run_induction head AreEnded (λ id some low. absurd (omega (arith, some, low))) (λ history e run may all id some low.
      elim (same_or_not e.actor (actors.Session id.session)) [
        | inl same ↦ ended-next history e run may id same some (all id some) low
        | inr differ ↦
            let still : session_at head id (history ++ e ∷ []) ≡ session_at head id history = known_other head (actors.Session id.session) history e differ in
            elim (all id some (subst (λ (k : Known). id.number ≤ k.begun) still low)) [
              | inl here ↦ inl (subst (λ k. IsOpenHere k id) (sym still) here)
              | inr ended ↦ inr (ended-more history e id ended)
            ]
      ])

-- ---- the one that was begun first stands first

-- a transaction that was begun was told so
begun-told : (history : List (Entry Event)) (id : TxnId) → Contains (all_begun history) id → (e : Entry Event) × Contains history e × ((ts : ℕ) × (e.event ≡ events.Tell (answers.Begun id ts)))
begun-told [] id there = absurd (contains_nil id there)
begun-told (e ∷ es) id there = by (begun_in e.event) refl there (begun-told es id)
  where
    begin-is : (event : Event) (x : TxnId) → begun_in event ≡ Some x → (ts : ℕ) × (event ≡ events.Tell (answers.Begun x ts))
    begin-is (events.Tell (answers.Begun other ts)) x h = let same : other ≡ x = cc h in (ts, ap (λ i. events.Tell (answers.Begun i ts)) same)
    begin-is (events.Tell answer) x h = absurd (cc h)
    begin-is event x h = absurd (cc h)

    by : (o : Option TxnId) → begun_in e.event ≡ o → Contains (cons_option o (all_begun es)) id
        → (Contains (all_begun es) id → (x : Entry Event) × Contains es x × ((ts : ℕ) × (x.event ≡ events.Tell (answers.Begun id ts))))
        → (x : Entry Event) × Contains (e ∷ es) x × ((ts : ℕ) × (x.event ≡ events.Tell (answers.Begun id ts)))
    by None is there rest = let r = rest there in (r.0, contains_tail e es r.0 r.1, r.2)
    by (Some x) is there rest =
        elim (contains_cons x (all_begun es) id there) [
          | inl same ↦ (e, contains_head e es, begin-is e.event id (is ∙ ap Some same))
          | inr later ↦ let r = rest later in (r.0, contains_tail e es r.0 r.1, r.2)
        ]

-- The transaction's begin, and what its session knew before it.
record BeginsAt (head : Head) (history : List (Entry Event)) (id : TxnId) : Type 0 where
  front : List (Entry Event)
  e : Entry Event
  back : List (Entry Event)
  whole : history ≡ front ++ e ∷ back
  whose : e.actor ≡ actors.Session id.session
  ts : ℕ
  tells : e.event ≡ events.Tell (answers.Begun id ts)
  number : id.number ≡ (session_at head id front).begun + 1

module _ (head : Head) (history : List (Entry Event)) (run : IsRun head history) where
  begins-at : (id : TxnId) (ts : ℕ) → IsCommitted head history id ts → BeginsAt head history id
  begins-at id ts is =
      let told = begun-told history id (committed_was_begun head history run id ts is) in
      let s = split_there history told.0 told.1 in
      let may : MayFollow (protocol head) s.before told.0 = run_may head s.before told.0 s.later (subst (IsRun head) s.whole run) in
      let next =
      begun_next head told.0.actor (known_at head told.0.actor s.before) id told.2.0
      (subst (Does head told.0.actor (known_at head told.0.actor s.before)) told.2.1 (act_of head s.before told.0 may)) in
      record {
        front = s.before;
        e = told.0;
        back = s.later;
        whole = s.whole;
        whose = next.0;
        ts = told.2.0;
        tells = told.2.1;
        number = next.1 ∙ ap (λ a. (known_at head a s.before).begun + 1) next.0;
      }

  -- the first one ended before the second one began
  ended-before : (one other : TxnId) (ts : ℕ) → one.session ≡ other.session → one.number < other.number → IsCommitted head history one ts → (second : BeginsAt head history other) → HasEnded head second.front one
  ended-before one other ts session less is second =
      let front : IsRun head second.front = run_front head second.front (second.e ∷ second.back) (subst (IsRun head) second.whole run) in
      let first = begins-at one ts is in
      let number = first.number in
      let after : other.number ≡ (session_at head other second.front).begun + 1 = second.number in
      let begun : (session_at head one second.front).begun ≡ (session_at head other second.front).begun = ap (λ n. (known_at head (actors.Session n) second.front).begun) session in
      elim (are_ended head second.front front one (omega (arith, number)) (omega (arith, less, after, begun))) [
        | inl here ↦
            let may : MayFollow (protocol head) second.front second.e = run_may head second.front second.e second.back (subst (IsRun head) second.whole run) in
            absurd (begins-closed head second.front second.e front may one (second.whose ∙ ap actors.Session (sym session)) other second.ts second.tells here)
        | inr e ↦ e
      ]

  -- A session's transaction that has ended before another one began.
  module _ (one other : TxnId) (ts : ℕ) (session : one.session ≡ other.session) (known : (e : Entry Event) → Contains history e → e.event ≡ events.Tell (answers.Unknown one) → ⊥)
      (is : IsCommitted head history one ts) (second : BeginsAt head history other) (ended : HasEnded head second.front one) where
    -- The session's list, with both.
    record HasBoth : Type 0 where
      more : List (Pair Event)
      whole :
          own (protocol head) (actors.Session other.session) history
          ≡ ended.before ++ ended.end ∷ ended.rest ++ pair second.e (named_in (protocol head) second.front second.e.event) ∷ more

    own-list : HasBoth
    own-list =
        let S = protocol head in
        let actor : ActorId = actors.Session other.session in
        let p = pair second.e (named_in S second.front second.e.event) in
        let mine : own S actor second.front ≡ ended.before ++ ended.end ∷ ended.rest = ap (λ n. own S (actors.Session n) second.front) (sym session) ∙ ended.whole in
        let along = own-along head actor (second.front ++ second.e ∷ []) second.back in
        let joined : history ≡ (second.front ++ second.e ∷ []) ++ second.back = second.whole ∙ sym (append_assoc second.front (second.e ∷ []) second.back) in
        let here : own S actor (second.front ++ second.e ∷ []) ≡ (ended.before ++ ended.end ∷ ended.rest) ++ p ∷ [] = own-push_same S actor second.front second.e second.whose ∙ ap (λ ps. ps ++ p ∷ []) mine in
        record {
          more = along.0;
          whole =
              ap (own S actor) joined ∙ along.1 ∙ ap (λ ps. ps ++ along.0) here
              ∙ append_assoc (ended.before ++ ended.end ∷ ended.rest) (p ∷ []) along.0;
        }

    -- Where it was told that it ended.
    at-end : StandsBehind (protocol head) (actors.Session one.session) second.front ended.before ended.end
    at-end = own_split (protocol head) (actors.Session one.session) second.front ended.before ended.end ended.rest ended.whole

    end-whole : history ≡ at-end.front ++ ended.end.entry ∷ (at-end.back ++ second.e ∷ second.back)
    unfolding at-end
    end-whole = second.whole ∙ ap (λ h. h ++ second.e ∷ second.back) at-end.whole ∙ append_assoc at-end.front (ended.end.entry ∷ at-end.back) (second.e ∷ second.back)

    end-open : IsOpenHere (known_at head ended.end.entry.actor at-end.front) one
    unfolding at-end
    end-open =
        subst (λ a. IsOpenHere (known_at head a at-end.front) one) (sym at-end.actor)
        (subst (λ ps. IsOpenHere (known_of ps) one) (sym at-end.mine) ended.here)

    end-does : (answer : Answer) → ended.answer ≡ answer → Does head ended.end.entry.actor (known_at head ended.end.entry.actor at-end.front) (events.Tell answer)
    end-does answer is_answer =
        let may : MayFollow (protocol head) at-end.front ended.end.entry = run_may head at-end.front ended.end.entry (at-end.back ++ second.e ∷ second.back) (subst (IsRun head) end-whole run) in
        subst (Does head ended.end.entry.actor (known_at head ended.end.entry.actor at-end.front)) (ended.tells ∙ ap events.Tell is_answer) (act_of head at-end.front ended.end.entry may)

    -- it was not told that it is over
    not-over : (answer : Answer) → ended.answer ≡ answer → SaysOver answer → ⊥
    not-over answer is_answer says =
        let o = end-open in
        ended_never_commits head at-end.front ended.end.entry (at-end.back ++ second.e ∷ second.back) one history [] ts (subst (IsRun head) end-whole run)
        (record { answer = answer; tells = ended.tells ∙ ap events.Tell is_answer; says = says; t = o.t; opened = o.opened; named = o.named })
        (sym end-whole ∙ sym (append-nil history)) is

    the-open : (t : Txn) → open_txn (known_at head ended.end.entry.actor at-end.front) ≡ Some t → t.id ≡ one
    the-open t opened = let o = end-open in let same : t ≡ o.t = let both : Some t ≡ Some o.t = sym opened ∙ o.opened in cc both in ap (λ (x : Txn). x.id) same ∙ o.named

    -- so it was told committed, and the other began after that
    end-told : (answer : Answer) → ended.answer ≡ answer → is_open_told answer true ≡ false → BeganAfter head history one other
    end-told (answers.Committed x at) is_answer closes =
        let row = committed_row head ended.end.entry.actor (known_at head ended.end.entry.actor at-end.front) x at (end-does (answers.Committed x at) is_answer) in
        let same : x ≡ one = row.whose ∙ the-open row.t row.opened in
        record {
          before = ended.before;
          learning = ended.end;
          between = ended.rest;
          begin = pair second.e (named_in (protocol head) second.front second.e.event);
          later = own-list.more;
          whole = own-list.whole;
          learns = subst (λ event. Learns head history one ended.before event ended.end.named) (sym (ended.tells ∙ ap events.Tell is_answer)) same;
          begins = subst (TellsBegun other) (sym second.tells) refl;
        }
    end-told (answers.RolledBack x why) is_answer closes = absurd (not-over (answers.RolledBack x why) is_answer tt)
    end-told (answers.Aborted why) is_answer closes = absurd (not-over (answers.Aborted why) is_answer tt)
    end-told (answers.Unknown x) is_answer closes =
        let row = told_by_row head ended.end.entry.actor (known_at head ended.end.entry.actor at-end.front) (answers.Unknown x) (end-does (answers.Unknown x) is_answer) (λ h. cc h) (λ h. cc h) in
        let same : x ≡ one = row.whose ∙ the-open row.t row.opened in
        let there : Contains history ended.end.entry =
        subst (λ h. Contains h ended.end.entry) (sym end-whole)
        (Contains-append_right at-end.front (ended.end.entry ∷ (at-end.back ++ second.e ∷ second.back)) ended.end.entry (contains_head ended.end.entry (at-end.back ++ second.e ∷ second.back))) in
        absurd (known ended.end.entry there (ended.tells ∙ ap events.Tell (is_answer ∙ ap answers.Unknown same)))
    end-told answer is_answer closes = absurd (cc closes)

-- the session's later transaction began after it knew that the earlier one had committed
pub began_after : (head : Head) (history : List (Entry Event)) (one other : TxnId) (ts later : ℕ) → IsRun head history → one.session ≡ other.session → one.number < other.number
    → ((e : Entry Event) → Contains history e → e.event ≡ events.Tell (answers.Unknown one) → ⊥)
    → IsCommitted head history one ts → IsCommitted head history other later → BeganAfter head history one other
began_after head history one other ts later run session less known is also =
    let second = begins-at head history run other later also in
    let ended = ended-before head history run one other ts session less is second in
    end-told head history run one other ts session known is second ended ended.answer refl ended.closes

-- of two committed transactions of one session the one that was begun first stands first
pub sessions_go_in_turn : (head : Head) (history : List (Entry Event)) (one other : TxnId) (ts later : ℕ) → IsRun head history → one.session ≡ other.session → one.number < other.number
    → ((e : Entry Event) → Contains history e → e.event ≡ events.Tell (answers.Unknown one) → ⊥)
    → IsCommitted head history one ts → IsCommitted head history other later → StandsBefore one other (committed_in_order head history)
sessions_go_in_turn head history one other ts later run session less known is also =
    (is-legal head history run).in_order one other ts later is also (began_after head history one other ts later run session less known is also)
