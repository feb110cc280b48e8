-- While a transaction is not decided, its own intent at a key is past each write that was written there.
use Rattle.std.proofs.Common.{◌≡◌, ℕ, ◌≤◌, max, true, false, inl, inr, List, [], ◌∷◌, ◌++◌, Option, None, Some, sym, ap, subst, ◌∙◌, arith}
use Rattle.pc_base.specs.declared.entry.Entry.{Entry}
use Rattle.pc_base.specs.declared.transaction.TxnId.{TxnId}
use Rattle.pc_history.specs.History.{MayFollow}
use Rattle.pc_implicit.proofs.Anchored.{put_anchored}
use Rattle.pc_implicit.proofs.Evals.{evaluated_state}
use Rattle.pc_implicit.proofs.Homes.{undecided_before}
use Rattle.pc_implicit.proofs.OwnKeys.{LaidNow, StoodThere, put_written}
use Rattle.pc_implicit.proofs.OwnLaid.{Begins, Grows, grown_last, how_laid, is_overtaken, not_overtaken}
use Rattle.pc_implicit.proofs.OwnOver.{Decides, Lays, Moves, Stays, own_over}
use Rattle.pc_implicit.proofs.Runs.{reply_is}
use Rattle.pc_implicit.proofs.Written.{IsWrittenNow, written_cases}
use Rattle.pc_implicit.specs.Decided.{decision}
use Rattle.pc_implicit.specs.Replied.{WasWritten}
use Rattle.pc_implicit.specs.Staging.{IsPastWrite}
use Rattle.pc_implicit.specs.Writes.{home_of, own_intent}
use Rattle.pc_lists.proofs.Lists.{contains_nil}
use Rattle.pc_proto.specs.declared.event.Event.{Event}
use Rattle.pc_proto.specs.declared.event.Event.TheVariants as events
use Rattle.pc_proto.specs.declared.meta.TxnMeta.{TxnMeta}
use Rattle.pc_proto.specs.declared.record.Intent.{Intent}
use Rattle.pc_proto.specs.declared.reply.Reply.TheVariants as replies
use Rattle.pc_proto.specs.declared.request.Request.TheVariants as requests
use Rattle.pc_proto.specs.Intents.{grown, last_seq, own_at}
use Rattle.pc_world.proofs.Prefixes.{run_induction}
use Rattle.pc_world.specs.After.{state_at}
use Rattle.pc_world.specs.Evaluation.{intents_after, reply}
use Rattle.pc_world.specs.Evaluation.Put.{is_overtaken_by, laid, overtaken}
use Rattle.pc_world.specs.Local.{Head}
use Rattle.pc_world.specs.RangeState.{RangeState}
use Rattle.pc_world.specs.Run.{IsRun, protocol}

-- An own intent that is past the write.
abbrev pub HasPast : ℕ → ℕ → ℕ → Option Intent → Type 0
HasPast epoch seq ts own = (i : Intent) × (own ≡ Some i) × IsPastWrite epoch seq ts i

-- a put that it does not overtake lays one that is past the write too
pub laid_past : (epoch seq ts : ℕ) (meta : TxnMeta) (put_seq at : ℕ) (value : Option (List ℕ)) (own : Option Intent) (i : Intent) → own ≡ Some i → overtaken meta put_seq own ≡ false → i.ts ≤ at
    → IsPastWrite epoch seq ts i → IsPastWrite epoch seq ts (laid meta put_seq at value own)
laid_past epoch seq ts meta put_seq at value own i is first rises past =
    let free = not_overtaken meta put_seq i (ap (overtaken meta put_seq) (sym is) ∙ first) in
    let high = free.0 in
    let reached = past.epoch_reached in
    let low = past.ts_reached in
    elim (how_laid meta put_seq at value own) [
      | Grows j own_is same eq ↦
          let one : j ≡ i = let both : Some j ≡ Some i = sym own_is ∙ is in cc both in
          let epochs : i.meta.epoch ≡ meta.epoch = ap (λ (x : Intent). x.meta.epoch) (sym one) ∙ same in
          let also : j.meta.epoch ≡ i.meta.epoch = ap (λ (x : Intent). x.meta.epoch) one in
          let last : last_seq (grown put_seq at value j) ≡ max (last_seq i) put_seq = grown_last put_seq at value j ∙ ap (λ (x : Intent). max (last_seq x) put_seq) one in
          subst (IsPastWrite epoch seq ts) (sym eq) (record {
            epoch_reached = omega (arith, reached, also);
            seq_reached = λ now. let has = past.seq_reached (sym also ∙ now) in omega (arith, has, last);
            ts_reached = omega (arith, low, rises);
          })
      | Begins none eq ↦
          let differ : i.meta.epoch ≡ meta.epoch → ⊥ = none i is in
          subst (IsPastWrite epoch seq ts) (sym eq) (record {
            epoch_reached = omega (arith, reached, high);
            seq_reached = λ now. absurd (differ (omega (arith, reached, high, now)));
            ts_reached = omega (arith, low, rises);
          })
    ]

moved-past : (epoch seq ts at : ℕ) (i : Intent) → IsPastWrite epoch seq ts i → IsPastWrite epoch seq ts (record i { ts = max i.ts at })
moved-past epoch seq ts at i past = record { epoch_reached = past.epoch_reached; seq_reached = past.seq_reached; ts_reached = let low = past.ts_reached in omega (arith, low) }

-- a put that was laid is past itself
laid-itself : (meta : TxnMeta) (seq at : ℕ) (value : Option (List ℕ)) (own : Option Intent) → IsPastWrite meta.epoch seq at (laid meta seq at value own)
laid-itself meta seq at value own =
    elim (how_laid meta seq at value own) [
      | Grows i is same eq ↦
          let last : last_seq (grown seq at value i) ≡ max (last_seq i) seq = grown_last seq at value i in
          subst (IsPastWrite meta.epoch seq at) (sym eq) (record { epoch_reached = omega (arith, same); seq_reached = λ now. omega (arith, last); ts_reached = omega arith })
      | Begins none eq ↦
          subst (IsPastWrite meta.epoch seq at) (sym eq) (record { epoch_reached = omega arith; seq_reached = λ now. omega arith; ts_reached = omega arith })
    ]

stood-past : (meta : TxnMeta) (seq at : ℕ) (i : Intent) → is_overtaken_by meta seq i ≡ true → i.ts ≡ at → IsPastWrite meta.epoch seq at i
stood-past meta seq at i over is =
    elim (is_overtaken meta seq i over) [
      | inl less ↦ record { epoch_reached = omega (arith, less); seq_reached = λ now. absurd (omega (arith, less, now)); ts_reached = omega (arith, is) }
      | inr both ↦ let same = both.0 in record { epoch_reached = omega (arith, same); seq_reached = λ now. both.1; ts_reached = omega (arith, is) }
    ]

module _ (head : Head) (history : List (Entry Event)) (run : IsRun head history) (e : Entry Event) (may : MayFollow (protocol head) history e) (id : TxnId) (key : List ℕ) where
  -- over one more entry, while the transaction is not decided
  past-over : (epoch seq ts : ℕ) → decision (home_of head id history) ≡ None → HasPast epoch seq ts (own_intent head id key history) → HasPast epoch seq ts (own_intent head id key (history ++ e ∷ []))
  past-over epoch seq ts none has =
      elim (own_over head history run e may id key) [
        | Stays same ↦ (has.0, same ∙ has.1, has.2)
        | Lays l ↦
            let own = own_intent head id key history in
            (laid l.meta l.seq l.at l.value own, l.laid_now, laid_past epoch seq ts l.meta l.seq l.at l.value own has.0 has.1 l.first (l.rises has.0 has.1) has.2)
        | Moves i at own low eq ↦
            let one : has.0 ≡ i = let both : Some has.0 ≡ Some i = sym has.1 ∙ own in cc both in
            (record i { ts = max i.ts at }, eq, moved-past epoch seq ts at i (subst (IsPastWrite epoch seq ts) one has.2))
        | Decides s decided ↦ let both : None ≡ Some s = sym none ∙ decided in absurd cc
      ]

  -- a write that the entry writes
  past-now : (epoch seq ts : ℕ) → IsWrittenNow head history e id epoch key seq ts → HasPast epoch seq ts (own_intent head id key (history ++ e ∷ []))
  past-now epoch seq ts w =
      let ev = w.ev in
      let anchored = put_anchored head history run ev.send ev.listed w.number ev.range w.meta seq w.asked key w.value (ev.sends ∙ ap (events.Send w.number ev.range) w.asks) in
      let s = state_at head ev.range history in
      let told : reply (requests.Put w.meta seq w.asked key w.value) s ≡ replies.Written ts =
      ap (λ r. reply r s) (sym w.asks) ∙ sym (reply_is head history e w.actor w.number (replies.Written ts) may w.is ev) in
      let state : own_intent head id key (history ++ e ∷ []) ≡ own_at id key (intents_after (requests.Put w.meta seq w.asked key w.value) s) =
      ap (λ r. own_at id key (state_at head r (history ++ e ∷ [])).intents) (sym anchored.there)
      ∙ ap (λ (x : RangeState). own_at id key x.intents) (evaluated_state head history e w.actor w.number ev.range (replies.Written ts) ev w.is)
      ∙ ap (λ r. own_at id key (intents_after r s)) w.asks in
      elim (put_written id key w.meta seq w.asked w.value s ts w.whose told) [
        | StoodThere i own over at eq ↦ (i, state ∙ eq, subst (λ n. IsPastWrite n seq ts i) w.epoch_is (stood-past w.meta seq ts i over at))
        | LaidNow over eq ↦
            let own = own_at id key s.intents in
            (laid w.meta seq ts w.value own, state ∙ eq, subst (λ n. IsPastWrite n seq ts (laid w.meta seq ts w.value own)) w.epoch_is (laid-itself w.meta seq ts w.value own))
      ]

module _ (head : Head) where
  -- The own intent of each transaction that is not decided is past what was written.
  abbrev AllPast : List (Entry Event) → Type 0
  AllPast history = (id : TxnId) (epoch : ℕ) (key : List ℕ) (seq ts : ℕ) → decision (home_of head id history) ≡ None → WasWritten history id epoch key seq ts → HasPast epoch seq ts (own_intent head id key history)

  all-past : (history : List (Entry Event)) → IsRun head history → AllPast history
  all-past = run_induction head AllPast (λ id epoch key seq ts none w. absurd (contains_nil w.replied.send w.replied.listed)) (λ history e run may all id epoch key seq ts none w.
      let before = undecided_before head id history e none in
      elim (written_cases head history run e may id epoch key seq ts w) [
        | inl old ↦ past-over head history run e may id key epoch seq ts before (all id epoch key seq ts before old)
        | inr now ↦ past-now head history run e may id key epoch seq ts now
      ])

  pub written_stays : (history : List (Entry Event)) (id : TxnId) (epoch : ℕ) (key : List ℕ) (seq ts : ℕ) → IsRun head history → decision (home_of head id history) ≡ None → WasWritten history id epoch key seq ts
      → (i : Intent) × (own_intent head id key history ≡ Some i) × IsPastWrite epoch seq ts i
  written_stays history id epoch key seq ts run none w = all-past history run id epoch key seq ts none w
