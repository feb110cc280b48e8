-- The entry that commits a transaction finds all that it wrote in its intents.
use Rattle.std.proofs.Common.{◌≡◌, ℕ, ◌<◌, ◌≤◌, max, Bool, true, false, cond, ◌⊎◌, inl, inr, List, [], ◌∷◌, ◌++◌, filter, map, fold, Option, None, Some, Contains, refl, sym, ap, subst, ◌∙◌, arith}
use Rattle.std.proofs.lemmas.List.{append-nil}
use Rattle.std.proofs.lemmas.List.Elements.{Contains-append_left, Contains-append_right}
use Rattle.std.specs.List.{AllByRecursion as Each}
use Rattle.pc_base.specs.declared.actor.ActorId.{ActorId}
use Rattle.pc_base.specs.declared.actor.ActorId.TheVariants as actors
use Rattle.pc_base.specs.declared.entry.Entry.{Entry}
use Rattle.pc_base.specs.declared.transaction.TxnId.{TxnId}
use Rattle.pc_base.specs.Span.{same_key}
use Rattle.pc_implicit.proofs.CommitPoint.{DecidesNow}
use Rattle.pc_implicit.proofs.CommitsSent.{IsBeyond, IsInForce, IsOver, IsPassed, commits_sent}
use Rattle.pc_implicit.proofs.Doing.{same_or_not}
use Rattle.pc_implicit.proofs.Evals.{NamedMessage, evaluated_state}
use Rattle.pc_implicit.proofs.OwnLaid.{HasFront, StandsIn}
use Rattle.pc_implicit.proofs.OwnStanding.{own_hold}
use Rattle.pc_implicit.proofs.PutsSent.{AreAnswers, orderly}
use Rattle.pc_implicit.proofs.StageWords.{CommitsBy}
use Rattle.pc_implicit.proofs.Turns.{not_session}
use Rattle.pc_implicit.proofs.WriteLists.{Laid, RiseAt, left_over, rise_at, rise_last}
use Rattle.pc_implicit.specs.Decided.{decision, epoch_of, time_of}
use Rattle.pc_implicit.specs.Replied.{WasProven}
use Rattle.pc_implicit.specs.Writes.{IsWholeBy, LastWriteStands, home_of, own_intent, txns_of, writes_on}
use Rattle.pc_lists.proofs.Each.{each-contains}
use Rattle.pc_lists.proofs.Lists.{contains_cons, contains_head, contains_nil, contains_tail}
use Rattle.pc_lists.proofs.Same.{same_key-is}
use Rattle.pc_proto.specs.declared.event.Event.{Event}
use Rattle.pc_proto.specs.declared.event.Event.TheVariants as events
use Rattle.pc_proto.specs.declared.meta.TxnMeta.{TxnMeta}
use Rattle.pc_proto.specs.declared.record.Intent.{Intent}
use Rattle.pc_proto.specs.declared.reply.Reply.{Reply}
use Rattle.pc_proto.specs.declared.request.Request.TheVariants as requests
use Rattle.pc_proto.specs.Intents.{last_seq, own_at}
use Rattle.pc_proto.specs.Place.{Place}
use Rattle.pc_world.proofs.Knowing.{known_other, state_other}
use Rattle.pc_world.specs.After.{state_at}
use Rattle.pc_world.specs.Evaluation.{intents_after}
use Rattle.pc_world.specs.Known.{Known}
use Rattle.pc_world.specs.Known.Transactions.{Txn}
use Rattle.pc_world.specs.Known.Writes.{IsProvedBy, Write}
use Rattle.pc_world.specs.Local.{Head}
use Rattle.pc_world.specs.RangeOf.{range_of}
use Rattle.pc_world.specs.RangeState.{RangeState}
use Rattle.pc_world.specs.Run.{IsRun}
use Rattle.pc_world.specs.StageFate.{SentStage}

-- A commit of the transaction, at this epoch and timestamp, was sent.
pub record WasAsked (history : List (Entry Event)) (id : TxnId) (epoch ts : ℕ) : Type 0 where
  pub send : Entry Event
  pub listed : Contains history send
  pub number : ℕ
  pub range : ℕ
  pub meta : TxnMeta
  pub locks : List (List ℕ)
  pub sends : send.event ≡ events.Send number range (requests.Commit meta ts locks)
  pub whose : meta.id ≡ id
  pub epoch_is : meta.epoch ≡ epoch

-- What the transaction wrote at the keys stands at this timestamp.
abbrev pub AllWritesStand : Head → List (Entry Event) → Txn → ℕ → Type 0
AllWritesStand head history t ts =
    (key : List ℕ) (front : List Laid) (seq : ℕ) (value : Option (List ℕ)) → writes_on key t.writes ≡ front ++ (seq, value) ∷ [] → LastWriteStands head history t key value ts

-- The stage by which the transaction is committed, at this epoch and timestamp.
pub record IsImplied (head : Head) (history : List (Entry Event)) (id : TxnId) (epoch ts : ℕ) : Type 0 where
  pub stage : SentStage
  pub commits : CommitsBy head history stage
  pub whose : stage.meta.id ≡ id
  pub epoch_is : stage.meta.epoch ≡ epoch
  pub ts_is : stage.ts ≡ ts

-- The transaction was so committed by a stage at some time.
pub record WasImplied (head : Head) (history : List (Entry Event)) (id : TxnId) (epoch ts : ℕ) : Type 0 where
  pub front : List (Entry Event)
  pub back : List (Entry Event)
  pub whole : front ++ back ≡ history
  pub implied : IsImplied head front id epoch ts

-- The committed transaction was committed by a commit that was sent, or by a stage; it is in that epoch still, and what it wrote stands.
pub record IsSettled (head : Head) (history : List (Entry Event)) (id : TxnId) (epoch ts : ℕ) : Type 0 where
  pub asked : WasAsked history id epoch ts ⊎ WasImplied head history id epoch ts
  pub epochs : (t : Txn) → Contains (txns_of head id history) t → t.id ≡ id → t.epoch ≡ epoch
  pub stand : (t : Txn) → Contains (txns_of head id history) t → t.id ≡ id → AllWritesStand head history t ts

-- what is written at a key is a write of it
pub unwritten-at : (key : List ℕ) (ws : List Write) (x : Laid) → Contains (writes_on key ws) x → (w : Write) × Contains ws w × (w.key ≡ key) × (w.seq ≡ x.0) × (w.value ≡ x.1)
unwritten-at key [] x there = absurd (contains_nil x there)
unwritten-at key (w ∷ ws) x there = by (same_key w.key key) refl (unwritten-at key ws x) there
  where
    by : (b : Bool) → same_key w.key key ≡ b → (Contains (writes_on key ws) x → (v : Write) × Contains ws v × (v.key ≡ key) × (v.seq ≡ x.0) × (v.value ≡ x.1))
        → Contains (map {B = Laid} (λ (v : Write). (v.seq, v.value)) (cond b (w ∷ filter (λ v. same_key v.key key) ws) (filter (λ v. same_key v.key key) ws))) x
        → (v : Write) × Contains (w ∷ ws) v × (v.key ≡ key) × (v.seq ≡ x.0) × (v.value ≡ x.1)
    by true e rest there =
        let first : Laid = (w.seq, w.value) in
        elim (contains_cons first (writes_on key ws) x there) [
          | inl same ↦ (w, contains_head w ws, same_key-is w.key key e, ap (λ (y : Laid). y.0) same, ap (λ (y : Laid). y.1) same)
          | inr later ↦ let r = rest later in (r.0, contains_tail w ws r.0 r.1, r.2, r.3, r.4)
        ]
    by false e rest there = let r = rest there in (r.0, contains_tail w ws r.0 r.1, r.2, r.3, r.4)

-- an intent in which the last write at the key stands has all of them, and lies no higher than that was proved or the record has gone
is-whole : (t : Txn) (key : List ℕ) (home : Place) (front : List Laid) (seq : ℕ) (value : Option (List ℕ)) → writes_on key t.writes ≡ front ++ (seq, value) ∷ [] → RiseAt 0 (front ++ (seq, value) ∷ [])
    → (proof ts : ℕ) → proof ≤ ts → time_of home ≤ ts → (i : Intent) → StandsIn t.epoch home seq proof i → HasFront (writes_on key t.writes) i → IsWholeBy t key ts i
is-whole t key home front seq value is rise proof ts low ts_low i stands f =
    let has = stands.has in
    let nothing : f.rest ≡ [] =
    elim (left_over (λ x. last_seq i < x.0) i.history f.rest front (seq, value) (f.whole ∙ is) f.above) [ inl empty ↦ empty | inr above ↦ absurd (omega (arith, above, has)) ] in
    let whole : i.history ≡ writes_on key t.writes = sym (append-nil i.history) ∙ ap (λ l. i.history ++ l) (sym nothing) ∙ f.whole in
    let greatest : last_seq i ≡ seq = ap (λ l. fold (λ most (x : Laid). max most x.0) 0 l) (whole ∙ is) ∙ rise_last 0 front (seq, value) rise in
    let high : i.ts ≤ max proof (time_of home) = stands.low (omega (arith, greatest)) in
    record { epoch = stands.epoch_is; low = omega (arith, high, low, ts_low); whole = whole }

-- The transaction's intent at the key, in which all that it wrote there stands, at or below the timestamp.
abbrev pub HasWhole : Head → List (Entry Event) → Txn → List ℕ → ℕ → Type 0
HasWhole head history t key ts = (i : Intent) × (own_intent head t.id key history ≡ Some i) × IsWholeBy t key ts i

-- the last write at a key
pub last_at : (key : List ℕ) (ws : List Write) (front : List Laid) (seq : ℕ) (value : Option (List ℕ)) → writes_on key ws ≡ front ++ (seq, value) ∷ [] → (w : Write) × Contains ws w × (w.key ≡ key) × (w.seq ≡ seq)
last_at key ws front seq value is =
    let last : Laid = (seq, value) in
    let w = unwritten-at key ws last (subst (λ l. Contains l last) (sym is) (Contains-append_right front (last ∷ []) last (contains_head last []))) in
    (w.0, w.1, w.2, w.3)

-- A transaction that is not decided, whose record has gone no further than this timestamp.
module _ (head : Head) (history : List (Entry Event)) (run : IsRun head history) (t : Txn) (known : Contains (txns_of head t.id history) t) (none : decision (home_of head t.id history) ≡ None)
    (ts : ℕ) (ts_low : time_of (home_of head t.id history) ≤ ts) where
  -- where its last write at a key stands, all that it wrote there stands
  pub whole_where : (key : List ℕ) (front : List Laid) (seq : ℕ) (value : Option (List ℕ)) → writes_on key t.writes ≡ front ++ (seq, value) ∷ [] → (at : ℕ) → at ≤ ts
      → (i : Intent) → own_intent head t.id key history ≡ Some i → StandsIn t.epoch (home_of head t.id history) seq at i → HasWhole head history t key ts
  whole_where key front seq value is at low i own stands =
      let rise : RiseAt 0 (front ++ (seq, value) ∷ []) = subst (RiseAt 0) is (rise_at key 0 t.writes (orderly head history run (actors.Session t.id.session) t known).rise) in
      let h = own_hold head history run t known key in
      (i, own, is-whole t key (home_of head t.id history) front seq value is rise at ts low ts_low i stands (h.front none i own stands.epoch_is))

  -- so where it was proved at or below the timestamp
  pub whole_if_proved : (key : List ℕ) (front : List Laid) (seq : ℕ) (value : Option (List ℕ)) → writes_on key t.writes ≡ front ++ (seq, value) ∷ []
      → (w : Write) → Contains t.writes w → w.key ≡ key → w.seq ≡ seq → IsProvedBy ts w → HasWhole head history t key ts
  whole_if_proved key front seq value is w inside at_key of_seq by =
      let low : by.1 ≤ ts = by.4 in
      let o = orderly head history run (actors.Session t.id.session) t known in
      let proof : WasProven history t.id t.epoch w.key w.seq by.1 = each-contains (AreAnswers history t.id t.epoch) t.writes w o.answers inside by.1 (by.0, by.2, by.3) in
      let proven : WasProven history t.id t.epoch key seq by.1 =
      subst (λ n. WasProven history t.id t.epoch key n by.1) of_seq (subst (λ k. WasProven history t.id t.epoch k w.seq by.1) at_key proof) in
      let r = (own_hold head history run t known key).written none seq by.1 proven in
      whole_where key front seq value is by.1 low r.0 r.1 r.2

-- An entry that decides the transaction and changes no intent, where it has each of its writes in a whole intent.
module _ (head : Head) (history : List (Entry Event)) (e : Entry Event) (id : TxnId) (epoch ts : ℕ)
    (actor : ActorId) (number : ℕ) (reply : Reply) (is : e.event ≡ events.Eval actor number reply) (ev : NamedMessage head history e.actor actor number reply)
    (keeps : (s : RangeState) → intents_after ev.request s ≡ s.intents) where
  -- it leaves each intent
  pub own-kept : (key : List ℕ) → own_intent head id key (history ++ e ∷ []) ≡ own_intent head id key history
  own-kept key =
      elim (same_or_not e.actor (actors.Range (range_of head.splits key))) [
        | inl at ↦
            let range : ev.range ≡ range_of head.splits key = let both = sym ev.there ∙ at in cc both in
            ap (λ r. own_at id key (state_at head r (history ++ e ∷ [])).intents) (sym range)
            ∙ ap (λ (x : RangeState). own_at id key x.intents) (evaluated_state head history e actor number ev.range reply ev is)
            ∙ ap (own_at id key) (keeps (state_at head ev.range history))
            ∙ ap (λ r. own_at id key (state_at head r history).intents) range
        | inr differ ↦ ap (λ (x : RangeState). own_at id key x.intents) (state_other head (actors.Range (range_of head.splits key)) history e differ)
      ]

  -- so the transaction is settled by it
  pub settled_by : WasAsked (history ++ e ∷ []) id epoch ts ⊎ WasImplied head (history ++ e ∷ []) id epoch ts
      → ((t : Txn) → Contains (txns_of head id history) t → t.id ≡ id → t.epoch ≡ epoch)
      → ((t : Txn) → Contains (txns_of head id history) t → t.id ≡ id → (key : List ℕ) (front : List Laid) (seq : ℕ) (value : Option (List ℕ)) → writes_on key t.writes ≡ front ++ (seq, value) ∷ [] → HasWhole head history t key ts)
      → IsSettled head (history ++ e ∷ []) id epoch ts
  settled_by asked epochs wholes =
      let before : (t : Txn) → Contains (txns_of head id (history ++ e ∷ [])) t → Contains (txns_of head id history) t =
      λ t there. subst (λ (l : Known). Contains l.txns t) (known_other head (actors.Session id.session) history e (λ h. not_session ev.range id.session (sym ev.there ∙ h))) there in
      record {
        asked = asked;
        epochs = λ t there same. epochs t (before t there) same;
        stand = λ t there same key front seq value at_key.
            let r = wholes t (before t there) same key front seq value at_key in
            let still : own_intent head t.id key (history ++ e ∷ []) ≡ own_intent head t.id key history = subst (λ i. own_intent head i key (history ++ e ∷ []) ≡ own_intent head i key history) (sym same) (own-kept key) in
            inr (r.0, still ∙ r.1, r.2);
      }

module _ (head : Head) (history : List (Entry Event)) (run : IsRun head history) (e : Entry Event) (id : TxnId) (epoch ts : ℕ)
    (none : decision (home_of head id history) ≡ None) (now : DecidesNow head history e id epoch ts) where
  sends-commit : now.ev.send.event ≡ events.Send now.number now.ev.range (requests.Commit now.meta ts now.locks)
  sends-commit = let ev = now.ev in ev.sends ∙ ap (events.Send now.number ev.range) now.asks

  -- the transaction's writes were proved by the commit
  in-force : (t : Txn) → Contains (txns_of head id history) t → t.id ≡ id → (epoch ≡ t.epoch) × Each (IsProvedBy ts) t.writes
  in-force t known same =
      let ev = now.ev in
      let who : t.id ≡ now.meta.id = same ∙ sym now.whose in
      let became = commits_sent head history run ev.send ev.listed now.number ev.range now.meta ts now.locks sends-commit t (subst (λ i. Contains (txns_of head i history) t) (sym now.whose) known) who in
      let epochs : now.meta.epoch ≡ epoch = now.epoch_is in
      let epoch_low = now.epoch_low in
      let ts_low = now.ts_low in
      let undecided : decision (home_of head now.meta.id history) ≡ None = subst (λ i. decision (home_of head i history) ≡ None) (sym now.whose) none in
      elim became [
        | IsOver s decided ↦ let both : None ≡ Some s = sym undecided ∙ decided in absurd cc
        | IsInForce force proved ↦ (sym epochs ∙ force, proved)
        | IsPassed beyond ↦ absurd (not-beyond epochs epoch_low ts_low (subst (λ i. IsBeyond now.meta.epoch ts (home_of head i history)) now.whose beyond))
      ]
    where
      not-beyond : now.meta.epoch ≡ epoch → epoch_of (home_of head id history) ≤ epoch → time_of (home_of head id history) ≤ ts → IsBeyond now.meta.epoch ts (home_of head id history) → ⊥
      not-beyond epochs epoch_low ts_low (inl later) = omega (arith, epochs, epoch_low, later)
      not-beyond epochs epoch_low ts_low (inr above) = omega (arith, ts_low, above)

  -- so the last one at a key stands in an intent of all that it wrote there
  whole-intent : (t : Txn) → Contains (txns_of head id history) t → t.id ≡ id → (key : List ℕ) (front : List Laid) (seq : ℕ) (value : Option (List ℕ)) → writes_on key t.writes ≡ front ++ (seq, value) ∷ []
      → HasWhole head history t key ts
  whole-intent t known same key front seq value is =
      let own : Contains (txns_of head t.id history) t = subst (λ i. Contains (txns_of head i history) t) (sym same) known in
      let undecided : decision (home_of head t.id history) ≡ None = subst (λ i. decision (home_of head i history) ≡ None) (sym same) none in
      let ts_low : time_of (home_of head t.id history) ≤ ts = subst (λ i. time_of (home_of head i history) ≤ ts) (sym same) now.ts_low in
      let w = last_at key t.writes front seq value is in
      whole_if_proved head history run t own undecided ts ts_low key front seq value is w.0 w.1 w.2 w.3 (each-contains (IsProvedBy ts) t.writes w.0 (in-force t known same).1 w.1)

  -- it is settled by the entry
  pub settled_now : IsSettled head (history ++ e ∷ []) id epoch ts
  settled_now =
      let ev = now.ev in
      settled_by head history e id epoch ts now.actor now.number now.reply now.is ev (λ s. ap (λ r. intents_after r s) now.asks)
      (inl (record {
        send = ev.send;
        listed = Contains-append_left history (e ∷ []) ev.send ev.listed;
        number = now.number;
        range = ev.range;
        meta = now.meta;
        locks = now.locks;
        sends = sends-commit;
        whose = now.whose;
        epoch_is = now.epoch_is;
      }))
      (λ t known same. sym (in-force t known same).0) whole-intent
