-- What is to be heard next was evaluated behind what was heard before, where that matters: how a call keeps that.
use Rattle.std.proofs.Common.{◌≡◌, ℕ, ◌<◌, inl, inr, true, false, None, Some, List, [], ◌∷◌, ◌++◌, All, Contains, sym, ap, ◌∙◌, subst, arith}
use Rattle.std.proofs.lemmas.List.Elements.{All-contains, All-head, Contains-append_cases, Contains-append_left, Contains-push}
use Rattle.std.specs.Option.{option_map_or}
use Rattle.pc_base.specs.declared.transaction.TxnId.{TxnId}
use Rattle.pc_base.specs.Transaction.{same_txn}
use Rattle.pc_desk.specs.declared.answered.Answered.{Answered}
use Rattle.pc_desk.specs.Desk.{DeskMeaning, KeepsTrack}
use Rattle.pc_desk.specs.Waiting.{WentOn}
use Rattle.pc_follows.specs.Heartbeats.{is_heartbeat}
use Rattle.pc_follows.specs.WaveEvaluation.{IsInWave, IsSending}
use Rattle.pc_history.specs.declared.pair.Pair.{Pair}
use Rattle.pc_lists.proofs.Lists.{all_from_contains, contains_cons, contains_nil}
use Rattle.pc_proto.specs.declared.event.Event.{Event}
use Rattle.pc_proto.specs.declared.request.Request.{Request}
use Rattle.pc_proto.specs.Requests.{is_about, subject}
use Rattle.pc_session.specs.Behind.{MustComeFirst, IsPastSending, WaitsBehindHeard}
use Rattle.pc_txn.specs.Standing.{is_query_of}
use Rattle.pc_world.specs.Known.{known_of, open_txn}
use Rattle.pc_world.specs.Known.Traffic.{Heard, request_sent}
use Rattle.pc_world.specs.Known.Transactions.{Txn}

-- what was sent after a step was so in each longer list
pub past_on : (own more : List (Pair Event)) (step : ℕ) → IsPastSending own step → IsPastSending (own ++ more) step
past_on own more step past = record { sending = past.sending; there = Contains-append_left own more past.sending past.there; sends = past.sends; above = past.above }

-- ---- what it says of the reply that is heard next

module _ {C : Type 0} (d : DeskMeaning C) (track : KeepsTrack d) (a : Answered) (rest : List Answered) (first : d.replies ≡ a ∷ rest) where
  in_wave : IsInWave d.log.part.own a.step
  in_wave = All-head (λ (x : Answered). IsInWave d.log.part.own x.step) a rest (subst (All (λ (x : Answered). IsInWave d.log.part.own x.step)) first track.wave.wave)

  -- it was evaluated after all that something was sent after
  pub evaluated_past : (step : ℕ) → IsPastSending d.log.part.own step → step < a.step
  evaluated_past step past =
      let above = past.above in
      let low : past.sending.entry.step < a.step =
      All-contains (λ (p : Pair Event). IsSending p.entry.event → p.entry.step < a.step) d.log.part.own past.sending in_wave.sent past.there past.sends in
      omega (arith, above, low)

  module _ (Waits : ℕ → Type 0) (behind : WaitsBehindHeard Waits d.log.part.own) (waits : Waits a.number) (request : Request) (said : request_sent a.number (known_of d.log.part.own).sent ≡ Some request) where
    -- a heartbeat after all that was heard before
    pub beats_behind : is_heartbeat request ≡ true → All (λ (g : Heard). g.step < a.step) (known_of d.log.part.own).heard
    beats_behind beats = all_from_contains (λ (g : Heard). g.step < a.step) (known_of d.log.part.own).heard (λ g there. evaluated_past g.step (behind a.number request waits said g there (inl beats)))

    -- what speaks of a record after all that was heard of it
    pub records_behind : (id : TxnId) → is_about id request ≡ true → (g : Heard) → Contains (known_of d.log.part.own).heard g → is_about id g.request ≡ true → g.step < a.step
    records_behind id about g there its = evaluated_past g.step (behind a.number request waits said g there (inr (inl (speaks id request about, speaks id g.request its))))
      where
        speaks : (id : TxnId) (r : Request) → is_about id r ≡ true → subject r ≡ None → ⊥
        speaks id r about none = let isnt : false ≡ true = sym (ap (λ o. option_map_or (λ other. same_txn other id) o false) none) ∙ about in absurd cc

-- ---- how it is kept

-- where something is sent, all that was heard lies before
pub behind_sending : (own : List (Pair Event)) (p : Pair Event) (Waits : ℕ → Type 0) → All (λ (h : Heard). WentOn own h.step) (known_of own).heard → All (λ (q : Pair Event). q.entry.step < p.entry.step) own → IsSending p.entry.event
    → (known_of (own ++ p ∷ [])).heard ≡ (known_of own).heard → WaitsBehindHeard Waits (own ++ p ∷ [])
behind_sending own p Waits went above sends same number request waits said g there comes =
    let w = All-contains (λ (h : Heard). WentOn own h.step) (known_of own).heard g went (subst (λ hs. Contains hs g) same there) in
    let low = w.above in
    let high : w.later.entry.step < p.entry.step = All-contains (λ (q : Pair Event). q.entry.step < p.entry.step) own w.later above w.there in
    record { sending = p; there = Contains-push own p; sends = sends; above = omega (arith, low, high) }

-- where nothing new is sent, heard or waited for
pub behind_still : (own more : List (Pair Event)) (Waits After : ℕ → Type 0) → WaitsBehindHeard Waits own → ((number : ℕ) → After number → Waits number) → (known_of (own ++ more)).sent ≡ (known_of own).sent → (known_of (own ++ more)).heard ≡ (known_of own).heard
    → ((t : Txn) → open_txn (known_of (own ++ more)) ≡ Some t → (u : Txn) × (open_txn (known_of own) ≡ Some u) × (t.id ≡ u.id)) → WaitsBehindHeard After (own ++ more)
behind_still own more Waits After behind fewer sent heard open_is number request waits said g there comes =
    past_on own more g.step (behind number request (fewer number waits) (ap (request_sent number) (sym sent) ∙ said) g (subst (λ hs. Contains hs g) heard there) (first_of comes))
  where
    first_of : MustComeFirst (known_of (own ++ more)) request g → MustComeFirst (known_of own) request g
    first_of (inl beats) = inl beats
    first_of (inr (inl both)) = inr (inl both)
    first_of (inr (inr asks)) = let u = open_is asks.0 asks.1 in inr (inr (u.0, u.1, subst (λ id. is_query_of id g.request ≡ true) u.2 asks.2))

-- where a reply is heard that goes before none of those that still wait
pub behind_hearing : (own more : List (Pair Event)) (h : Heard) (Waits After : ℕ → Type 0) → WaitsBehindHeard Waits own → ((number : ℕ) → After number → Waits number) → (known_of (own ++ more)).sent ≡ (known_of own).sent
    → (known_of (own ++ more)).heard ≡ (known_of own).heard ++ h ∷ [] → ((t : Txn) → open_txn (known_of (own ++ more)) ≡ Some t → (u : Txn) × (open_txn (known_of own) ≡ Some u) × (t.id ≡ u.id))
    → ((number : ℕ) (request : Request) → After number → request_sent number (known_of own).sent ≡ Some request → MustComeFirst (known_of own) request h → ⊥) → WaitsBehindHeard After (own ++ more)
behind_hearing own more h Waits After behind fewer sent heard open_is last number request waits said g there comes =
    elim (Contains-append_cases (known_of own).heard (h ∷ []) g (subst (λ hs. Contains hs g) heard there)) [
      | inl before ↦ past_on own more g.step (behind number request (fewer number waits) said_before g before (first_of g comes))
      | inr here ↦ elim (contains_cons h [] g here) [
        | inl same ↦ absurd (last number request waits said_before (subst (MustComeFirst (known_of own) request) (sym same) (first_of g comes)))
        | inr none ↦ absurd (contains_nil g none)
      ]
    ]
  where
    said_before : request_sent number (known_of own).sent ≡ Some request
    said_before = ap (request_sent number) (sym sent) ∙ said

    first_of : (g : Heard) → MustComeFirst (known_of (own ++ more)) request g → MustComeFirst (known_of own) request g
    first_of g (inl beats) = inl beats
    first_of g (inr (inl both)) = inr (inl both)
    first_of g (inr (inr asks)) = let u = open_is asks.0 asks.1 in inr (inr (u.0, u.1, subst (λ id. is_query_of id g.request ≡ true) u.2 asks.2))
