-- Where a proof of a write comes from: the entry that gave it found or left the transaction's own intent with that write, no higher than the
-- proof says.
use Rattle.std.proofs.Common.{◌≡◌, ℕ, ◌<◌, ◌≤◌, max, nat_le, true, ◌==◌, ◌&&◌, ◌⊎◌, inl, inr, List, [], ◌∷◌, ◌++◌, Option, None, Some, refl, sym, ap, ◌∙◌, arith}
use Rattle.std.proofs.lemmas.Bool.{and_parts, eqb-true, leb-true}
use Rattle.std.proofs.lemmas.List.{append_assoc}
use Rattle.pc_base.specs.declared.entry.Entry.{Entry}
use Rattle.pc_base.specs.declared.transaction.TxnId.{TxnId}
use Rattle.pc_history.specs.History.{MayFollow}
use Rattle.pc_implicit.proofs.Evals.{evaluated_state}
use Rattle.pc_implicit.proofs.EvaluatedAt.{goes_to}
use Rattle.pc_implicit.proofs.OwnKeys.{LaidNow, StoodThere, laid_time, put_written}
use Rattle.pc_implicit.proofs.OwnLaid.{Begins, Grows, grown_last, how_laid, is_overtaken}
use Rattle.pc_implicit.proofs.Runs.{reply_is}
use Rattle.pc_implicit.proofs.Written.{IsFoundNow, IsRepliedNow, IsWrittenNow, found_is, proven_cases}
use Rattle.pc_implicit.specs.Replied.{WasProven}
use Rattle.pc_implicit.specs.Writes.{own_intent}
use Rattle.pc_lists.proofs.Lists.{contains_nil}
use Rattle.pc_proto.specs.declared.event.Event.{Event}
use Rattle.pc_proto.specs.declared.event.Event.TheVariants as events
use Rattle.pc_proto.specs.declared.meta.TxnMeta.{TxnMeta}
use Rattle.pc_proto.specs.declared.record.Intent.{Intent}
use Rattle.pc_proto.specs.declared.reply.Reply.{Reply}
use Rattle.pc_proto.specs.declared.reply.Reply.TheVariants as replies
use Rattle.pc_proto.specs.declared.request.Request.{Request}
use Rattle.pc_proto.specs.declared.request.Request.TheVariants as requests
use Rattle.pc_proto.specs.Intents.{last_seq, own_at}
use Rattle.pc_world.proofs.Prefixes.{run_induction}
use Rattle.pc_world.specs.After.{state_at}
use Rattle.pc_world.specs.Evaluation.{intents_after, reply as reply_of}
use Rattle.pc_world.specs.Evaluation.Put.{laid}
use Rattle.pc_world.specs.Evaluation.Query.{is_found, write_stands}
use Rattle.pc_world.specs.Local.{Head}
use Rattle.pc_world.specs.RangeOf.{range_of}
use Rattle.pc_world.specs.RangeState.{RangeState}
use Rattle.pc_world.specs.Run.{IsRun, protocol}

-- The own intent has this write of the epoch, no higher than this timestamp; or it is of a later epoch.
pub record HasProven (own : Option Intent) (epoch seq ts : ℕ) : Type 0 where
  pub i : Intent
  pub is : own ≡ Some i
  pub low : i.ts ≤ ts
  pub has : (epoch < i.meta.epoch) ⊎ ((i.meta.epoch ≡ epoch) × (seq ≤ last_seq i))

-- The entry gives the proof.
abbrev pub ProvesNow : Head → List (Entry Event) → Entry Event → TxnId → ℕ → List ℕ → ℕ → ℕ → Type 0
ProvesNow head history e id epoch key seq ts = IsWrittenNow head history e id epoch key seq ts ⊎ IsFoundNow head history e id epoch key seq ts

-- The entry that gave a proof, and those before it.
pub record ProvenAt (head : Head) (history : List (Entry Event)) (id : TxnId) (epoch : ℕ) (key : List ℕ) (seq ts : ℕ) : Type 0 where
  pub before : List (Entry Event)
  pub e : Entry Event
  pub later : List (Entry Event)
  pub whole : history ≡ before ++ e ∷ later
  pub may : MayFollow (protocol head) before e
  pub gives : ProvesNow head before e id epoch key seq ts

-- a proof was given by an entry
pub proven_at : (head : Head) (history : List (Entry Event)) → IsRun head history → (id : TxnId) (epoch : ℕ) (key : List ℕ) (seq ts : ℕ) → WasProven history id epoch key seq ts → ProvenAt head history id epoch key seq ts
proven_at head = run_induction head (λ history. (id : TxnId) (epoch : ℕ) (key : List ℕ) (seq ts : ℕ) → WasProven history id epoch key seq ts → ProvenAt head history id epoch key seq ts)
    (λ id epoch key seq ts proven. absurd (elim proven [ inl w ↦ contains_nil w.replied.eval w.replied.evaluated | inr f ↦ contains_nil f.replied.eval f.replied.evaluated ]))
    (λ history e run may all id epoch key seq ts proven.
    elim (proven_cases head history run e may id epoch key seq ts proven) [
      | inl old ↦
          let a = all id epoch key seq ts old in
          record { before = a.before; e = a.e; later = a.later ++ e ∷ []; whole = ap (λ h. h ++ e ∷ []) a.whole ∙ append_assoc a.before (a.e ∷ a.later) (e ∷ []); may = a.may; gives = a.gives }
      | inr now ↦ record { before = history; e = e; later = []; whole = refl; may = may; gives = now }
    ])

laid-proven : (meta : TxnMeta) (seq ts : ℕ) (value : Option (List ℕ)) (own : Option Intent) → ((laid meta seq ts value own).meta.epoch ≡ meta.epoch) × (seq ≤ last_seq (laid meta seq ts value own))
laid-proven meta seq ts value own =
    elim (how_laid meta seq ts value own) [
      | Grows i is same eq ↦
          let last : last_seq (laid meta seq ts value own) ≡ max (last_seq i) seq = ap last_seq eq ∙ grown_last seq ts value i in
          (ap (λ (x : Intent). x.meta.epoch) eq ∙ same, omega (arith, last))
      | Begins none eq ↦
          let last : last_seq (laid meta seq ts value own) ≡ max 0 seq = ap last_seq eq in
          (ap (λ (x : Intent). x.meta.epoch) eq, omega (arith, last))
    ]

module _ (head : Head) (history : List (Entry Event)) (run : IsRun head history) (e : Entry Event) (may : MayFollow (protocol head) history e) (id : TxnId) (epoch : ℕ) (key : List ℕ) (seq ts : ℕ) where
  -- What the range answered to the message, and what it left.
  record AnswersHere (request : Request) (told : Reply) : Type 0 where
    answer : reply_of request (state_at head (range_of head.splits key) history) ≡ told
    left : own_intent head id key (history ++ e ∷ []) ≡ own_at id key (intents_after request (state_at head (range_of head.splits key) history))

  answers-here : (request : Request) (told : Reply) (w : IsRepliedNow head history e request told) → w.ev.range ≡ range_of head.splits key → AnswersHere request told
  answers-here request told w there =
      let ev = w.ev in
      record {
        answer = ap (λ r. reply_of r (state_at head (range_of head.splits key) history)) (sym w.asks) ∙ ap (λ r. reply_of ev.request (state_at head r history)) (sym there) ∙ sym (reply_is head history e w.actor w.number told may w.is ev);
        left =
            ap (λ r. own_at id key (state_at head r (history ++ e ∷ [])).intents) (sym there)
            ∙ ap (λ (x : RangeState). own_at id key x.intents) (evaluated_state head history e w.actor w.number ev.range told ev w.is)
            ∙ ap (λ r. own_at id key (intents_after ev.request (state_at head r history))) there ∙ ap (λ r. own_at id key (intents_after r (state_at head (range_of head.splits key) history))) w.asks;
      }

  written-proven : IsWrittenNow head history e id epoch key seq ts → HasProven (own_intent head id key (history ++ e ∷ [])) epoch seq ts
  written-proven w =
      let s = state_at head (range_of head.splits key) history in
      let there : w.ev.range ≡ range_of head.splits key = goes_to head history run w.ev.send w.ev.listed w.number w.ev.range (requests.Put w.meta seq w.asked key w.value) (w.ev.sends ∙ ap (events.Send w.number w.ev.range) w.asks) in
      let a = answers-here (requests.Put w.meta seq w.asked key w.value) (replies.Written ts) (record { actor = w.actor; number = w.number; is = w.is; ev = w.ev; asks = w.asks }) there in
      let same : w.meta.epoch ≡ epoch = w.epoch_is in
      elim (put_written id key w.meta seq w.asked w.value s ts w.whose a.answer) [
        | StoodThere i own over at eq ↦
            let time : i.ts ≡ ts = at in
            record {
              i = i;
              is = a.left ∙ eq;
              low = omega (arith, time);
              has = elim (is_overtaken w.meta seq i over) [
                | inl less ↦ inl (omega (arith, less, same))
                | inr is_in ↦ inr (is_in.0 ∙ w.epoch_is, is_in.1)
              ];
            }
        | LaidNow over eq ↦
            let own = own_at id key s.intents in
            let time : (laid w.meta seq ts w.value own).ts ≡ ts = laid_time id key w.meta seq ts w.value own in
            let has = laid-proven w.meta seq ts w.value own in
            record { i = laid w.meta seq ts w.value own; is = a.left ∙ eq; low = omega (arith, time); has = inr (has.0 ∙ w.epoch_is, has.1) }
      ]

  found-proven : IsFoundNow head history e id epoch key seq ts → HasProven (own_intent head id key (history ++ e ∷ [])) epoch seq ts
  found-proven w =
      let s = state_at head (range_of head.splits key) history in
      let r = w.replied in
      let there : r.ev.range ≡ range_of head.splits key = goes_to head history run r.ev.send r.ev.listed r.number r.ev.range (requests.Query id epoch seq ts key w.by) (r.ev.sends ∙ ap (events.Send r.number r.ev.range) r.asks) in
      let a = answers-here (requests.Query id epoch seq ts key w.by) replies.Found r there in
      by (own_at id key s.intents) refl (found_is (write_stands id epoch seq ts key s) a.answer) a.left
    where
      by : (o : Option Intent) → own_at id key (state_at head (range_of head.splits key) history).intents ≡ o → is_found epoch seq ts o ≡ true
          → own_intent head id key (history ++ e ∷ []) ≡ own_at id key (state_at head (range_of head.splits key) history).intents → HasProven (own_intent head id key (history ++ e ∷ [])) epoch seq ts
      by None own h left = absurd cc
      by (Some i) own h left =
          let parts = and_parts (i.meta.epoch == epoch) (nat_le seq (last_seq i) && nat_le i.ts ts) h in
          let rest = and_parts (nat_le seq (last_seq i)) (nat_le i.ts ts) parts.1 in
          record { i = i; is = left ∙ own; low = leb-true i.ts ts rest.1; has = inr (eqb-true i.meta.epoch epoch parts.0, leb-true seq (last_seq i) rest.0) }

  -- the entry that gives a proof leaves the write in the own intent
  pub proven_now : ProvesNow head history e id epoch key seq ts → HasProven (own_intent head id key (history ++ e ∷ [])) epoch seq ts
  proven_now gives = elim gives [ inl written ↦ written-proven written | inr found ↦ found-proven found ]
