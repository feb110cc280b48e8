-- What a committed transaction wrote stands over each later entry.
use Rattle.std.proofs.Common.{◌≡◌, ℕ, ◌<◌, ◌≤◌, max, false, inl, inr, List, [], ◌∷◌, ◌++◌, fold, Option, None, Some, Contains, sym, ap, subst, ◌∙◌, arith}
use Rattle.std.proofs.lemmas.List.{append-nil, append_assoc}
use Rattle.std.proofs.lemmas.List.Elements.{Contains-append_left}
use Rattle.std.specs.Option.{option_map}
use Rattle.pc_implicit.proofs.StagedAs.{staged_in}
use Rattle.pc_base.specs.declared.actor.ActorId.{ActorId}
use Rattle.pc_base.specs.declared.actor.ActorId.TheVariants as actors
use Rattle.pc_base.specs.declared.entry.Entry.{Entry}
use Rattle.pc_base.specs.declared.transaction.TxnId.{TxnId}
use Rattle.pc_base.specs.declared.version.Version.{Version}
use Rattle.pc_history.specs.History.{MayFollow}
use Rattle.pc_implicit.proofs.Agreed.{IsNew}
use Rattle.pc_implicit.proofs.Anchored.{commit_anchored}
use Rattle.pc_implicit.proofs.Made.{status_same}
use Rattle.pc_implicit.proofs.Doing.{same_or_not}
use Rattle.pc_implicit.proofs.Evals.{NamedMessage, evaluated_state, of_entry, range_evaluates}
use Rattle.pc_implicit.proofs.Fates.{FateIsSo, fates_are_so}
use Rattle.pc_implicit.proofs.Homes.{home_is}
use Rattle.pc_implicit.proofs.OwnKeys.{AsBefore, Ends, IsGone, IsLaid, IsMoved, own_changes}
use Rattle.pc_implicit.proofs.OwnLaid.{not_overtaken}
use Rattle.pc_implicit.proofs.PutsSent.{HasPut, orderly, puts_sent}
use Rattle.pc_implicit.proofs.KnownOver.{IsKnownOver, over_of}
use Rattle.pc_implicit.proofs.Refusals.{decided-at, not_refused}
use Rattle.pc_implicit.proofs.Turns.{IsAnswered, Restarted, WentOn, Wrote, comes_from}
use Rattle.pc_implicit.proofs.VersionSteps.{makes_version, version_stays}
use Rattle.pc_implicit.proofs.WriteLists.{Laid, RiseAt, alike_at, each_low, rise_at, rise_value, written_at}
use Rattle.pc_implicit.specs.Decided.{decision, time_of}
use Rattle.pc_implicit.specs.Writes.{IsWholeBy, LastWriteStands, home_of, own_intent, place_under, txns_of, writes_on}
use Rattle.pc_lists.proofs.Each.{each-contains}
use Rattle.pc_proto.specs.declared.event.Event.{Event}
use Rattle.pc_proto.specs.declared.event.Event.TheVariants as events
use Rattle.pc_proto.specs.declared.fate.Fate.{Fate}
use Rattle.pc_proto.specs.declared.fate.Fate.TheVariants as fates
use Rattle.pc_proto.specs.declared.meta.TxnMeta.{TxnMeta}
use Rattle.pc_proto.specs.declared.record.Intent.{Intent}
use Rattle.pc_proto.specs.declared.record.Standing.TheVariants as standings
use Rattle.pc_proto.specs.declared.record.Status.{Status}
use Rattle.pc_proto.specs.declared.reply.Reply.{Reply}
use Rattle.pc_proto.specs.declared.request.Request.TheVariants as requests
use Rattle.pc_proto.specs.declared.why.Why.{Why}
use Rattle.pc_proto.specs.Intents.{last_seq, last_value, later_write, own_at}
use Rattle.pc_proto.specs.Place.{Nothing}
use Rattle.pc_proto.specs.RecordRows.Reached.{status_of}
use Rattle.pc_world.proofs.Knowing.{state_other}
use Rattle.pc_world.specs.After.{known_at, place_at, state_at}
use Rattle.pc_world.specs.Committed.{anchor_in}
use Rattle.pc_world.specs.Evaluation.{intents_after, state_after, versions_after}
use Rattle.pc_world.specs.Evaluation.Put.{overtaken}
use Rattle.pc_world.specs.Known.Transactions.{Txn}
use Rattle.pc_world.specs.Local.{Head}
use Rattle.pc_world.specs.RangeOf.{range_of}
use Rattle.pc_world.specs.RangeState.{RangeState}
use Rattle.pc_world.specs.Run.{IsRun, protocol}
use Rattle.pc_world.specs.StageFate.{IsDead, IsUncommitted, SentCommit, WasCommitRefused, commit_request, stage_request}
use Rattle.pc_implicit.proofs.SettledNow.{IsSettled, WasAsked, WasImplied}
use Rattle.pc_implicit.proofs.StagesKnown.{HasSent}
use Rattle.pc_implicit.proofs.StagesSent.{has_sent_commit, has_sent_stage}
use Rattle.pc_implicit.proofs.NeverDead.{never_dead}

asked-more : (history : List (Entry Event)) (e : Entry Event) (id : TxnId) (epoch ts : ℕ) → WasAsked history id epoch ts → WasAsked (history ++ e ∷ []) id epoch ts
asked-more history e id epoch ts w = record {
  send = w.send;
  listed = Contains-append_left history (e ∷ []) w.send w.listed;
  number = w.number;
  range = w.range;
  meta = w.meta;
  locks = w.locks;
  sends = w.sends;
  whose = w.whose;
  epoch_is = w.epoch_is;
}

implied-more : (head : Head) (history : List (Entry Event)) (e : Entry Event) (id : TxnId) (epoch ts : ℕ) → WasImplied head history id epoch ts → WasImplied head (history ++ e ∷ []) id epoch ts
implied-more head history e id epoch ts w = record {
  front = w.front;
  back = w.back ++ e ∷ [];
  whole = sym (append_assoc w.front w.back (e ∷ [])) ∙ ap (λ h. h ++ e ∷ []) w.whole;
  implied = w.implied;
}

-- The range of the key evaluates one more request.
module _ (head : Head) (history : List (Entry Event)) (run : IsRun head history) (e : Entry Event)
    (actor : ActorId) (number : ℕ) (told : Reply) (ev : NamedMessage head history e.actor actor number told) (is : e.event ≡ events.Eval actor number told)
    (key : List ℕ) (there : ev.range ≡ range_of head.splits key) (t : Txn) (known : Contains (txns_of head t.id history) t) (epoch ts : ℕ)
    (decided : decision (home_of head t.id history) ≡ Some (status_of standings.Committed epoch ts)) (epochs : t.epoch ≡ epoch) where
  s : RangeState
  s = state_at head (range_of head.splits key) history

  state-is : state_at head (range_of head.splits key) (history ++ e ∷ []) ≡ state_after ev.request s
  unfolding s
  state-is =
      ap (λ r. state_at head r (history ++ e ∷ [])) (sym there) ∙ evaluated_state head history e actor number ev.range told ev is
      ∙ ap (λ r. state_after ev.request (state_at head r history)) there

  put-past : (meta : TxnMeta) (seq0 ts0 : ℕ) (value0 : Option (List ℕ)) (i : Intent) → ev.request ≡ requests.Put meta seq0 ts0 key value0 → meta.id ≡ t.id → i.meta.epoch ≡ t.epoch → i.history ≡ writes_on key t.writes
      → own_at t.id key s.intents ≡ Some i → overtaken meta seq0 (own_at t.id key s.intents) ≡ false → ⊥
  unfolding s
  put-past meta seq0 ts0 value0 i asked whose same whole own over =
      let put : HasPut t meta.epoch seq0 key value0 =
      puts_sent head history run ev.send ev.listed number ev.range meta seq0 ts0 key value0 (ev.sends ∙ ap (events.Send number ev.range) asked)
      t (subst (λ j. Contains (txns_of head j history) t) (sym whose) known) (sym whose) in
      let free = not_overtaken meta seq0 i (ap (overtaken meta seq0) (sym own) ∙ over) in
      let high = free.0 in
      let low = put.low in
      let equal : i.meta.epoch ≡ meta.epoch = omega (arith, high, low, same) in
      let past : last_seq i < seq0 = free.1 equal in
      let w = put.written (sym equal ∙ same) in
      let laid : Contains i.history (w.0.seq, w.0.value) = subst (λ l. Contains l (w.0.seq, w.0.value)) (sym whole) (written_at key t.writes w.0 w.1 w.3) in
      let below : w.0.seq ≤ last_seq i = each-contains (λ (x : Laid). x.0 ≤ last_seq i) i.history (w.0.seq, w.0.value) (each_low i.history) laid in
      let seq : w.0.seq ≡ seq0 = w.2 in
      omega (arith, past, below, seq)

  fate-so : (fate : Fate) → ev.request ≡ requests.Resolve t.id key fate → FateIsSo fate (home_of head t.id history)
  fate-so fate asked = fates_are_so head history run ev.send ev.listed number ev.range t.id key fate (ev.sends ∙ ap (events.Send number ev.range) asked)

  intent-stands : (front : List Laid) (seq : ℕ) (value : Option (List ℕ)) → writes_on key t.writes ≡ front ++ (seq, value) ∷ [] → (i : Intent) → own_at t.id key s.intents ≡ Some i → IsWholeBy t key ts i
      → LastWriteStands head (history ++ e ∷ []) t key value ts
  unfolding s
  intent-stands front seq value at_key i own w =
      let later : own_intent head t.id key (history ++ e ∷ []) ≡ own_at t.id key (intents_after ev.request s) = ap (λ (x : RangeState). own_at t.id key x.intents) state-is in
      let low = w.low in
      elim (own_changes t.id key ev.request s) [
        | AsBefore same ↦ inr (i, later ∙ same ∙ own, w)
        | IsLaid meta seq0 ts0 value0 asked whose over eq ↦ absurd (put-past meta seq0 ts0 value0 i asked whose w.epoch w.whole own over)
        | IsMoved at j asked there eq ↦
            let one : j ≡ i = let both : Some j ≡ Some i = sym there ∙ own in cc in
            let reached : at ≤ time_of (home_of head t.id history) = fate-so (fates.Pending at) asked in
            let time : time_of (home_of head t.id history) ≡ ts = (decided-at (home_of head t.id history) (status_of standings.Committed epoch ts) decided).1 in
            inr (record i { ts = max i.ts at }, later ∙ eq ∙ ap (λ (x : Intent). Some (record x { ts = max x.ts at })) one, record { epoch = w.epoch; low = omega (arith, low, reached, time); whole = w.whole })
        | IsGone fate j asked ends there eq ↦ gone fate ends asked (fate-so fate asked)
      ]
    where
      gone : (fate : Fate) → Ends fate → ev.request ≡ requests.Resolve t.id key fate → FateIsSo fate (home_of head t.id history) → LastWriteStands head (history ++ e ∷ []) t key value ts
      gone (fates.Committed at_epoch at) ends asked so =
          let both : Some (status_of standings.Committed at_epoch at) ≡ Some (status_of standings.Committed epoch ts) = sym so ∙ decided in
          let same = status_same at_epoch epoch at ts both in
          let o = orderly head history run (actors.Session t.id.session) t known in
          let rise : RiseAt 0 (front ++ (seq, value) ∷ []) = subst (RiseAt 0) at_key (rise_at key 0 t.writes o.rise) in
          let last : last_value i ≡ Some value = ap (λ l. option_map (λ (x : Laid). x.1) (fold later_write None l)) (w.whole ∙ at_key) ∙ rise_value 0 front (seq, value) rise in
          let asks : ev.request ≡ requests.Resolve t.id key (fates.Committed epoch ts) =
          asked ∙ ap (λ n. requests.Resolve t.id key (fates.Committed n at)) same.0 ∙ ap (λ n. requests.Resolve t.id key (fates.Committed epoch n)) same.1 in
          let v : Version = record { key = key; ts = ts; id = t.id; value = value } in
          let made : Contains (versions_after (requests.Resolve t.id key (fates.Committed epoch ts)) s) v = makes_version t.id key epoch ts value s i own (w.epoch ∙ epochs) w.low last in
          inl (subst (λ (x : RangeState). Contains x.versions v) (sym state-is) (subst (λ r. Contains (versions_after r s) v) (sym asks) made))
      gone fates.Aborted ends asked so =
          let both : Some (status_of (standings.Aborted so.0) so.1 so.2) ≡ Some (status_of standings.Committed epoch ts) = sym so.3 ∙ decided in
          absurd (differ so.0 so.1 so.2 both)
        where
          differ : (why : Why) (n at : ℕ) → ◌≡◌ {A = Option Status} (Some (status_of (standings.Aborted why) n at)) (Some (status_of standings.Committed epoch ts)) → ⊥
          differ why n at h = let same : status_of (standings.Aborted why) n at ≡ status_of standings.Committed epoch ts = cc in let standing : standings.Aborted why ≡ standings.Committed = ap (λ (x : Status). x.standing) same in absurd cc
      gone (fates.Pending at) ends asked so = absurd ends

  -- what stood at the key stands after it
  pub eval_stands : (front : List Laid) (seq : ℕ) (value : Option (List ℕ)) → writes_on key t.writes ≡ front ++ (seq, value) ∷ [] → LastWriteStands head history t key value ts → LastWriteStands head (history ++ e ∷ []) t key value ts
  unfolding s
  eval_stands front seq value at_key stands =
      elim stands [
        | inl version ↦ inl (version_stays head (range_of head.splits key) history (e ∷ []) (record { key = key; ts = ts; id = t.id; value = value }) version)
        | inr intent ↦ intent-stands front seq value at_key intent.0 intent.1 intent.2
      ]

-- A committed transaction is not known to have come to nothing.
module _ (head : Head) (history : List (Entry Event)) (run : IsRun head history) (id : TxnId) (epoch ts : ℕ)
    (decided : decision (home_of head id history) ≡ Some (status_of standings.Committed epoch ts)) (settled : IsSettled head history id epoch ts) where
  commit-not-refused : IsKnownOver (known_at head (actors.Session id.session) history) id → WasAsked history id epoch ts → ⊥
  commit-not-refused over a =
      let anchored = commit_anchored head history run a.send a.listed a.number a.range a.meta ts a.locks a.sends in
      let there : place_at head a.range a.meta.id history ≡ home_of head a.meta.id history =
      ap (λ r. place_at head r a.meta.id history) anchored.there ∙ sym (home_is head a.meta.id history a.meta.anchor anchored.anchor) in
      let as_sent : decision (home_of head a.meta.id history) ≡ Some (status_of standings.Committed a.meta.epoch ts) =
      subst (λ n. decision (home_of head a.meta.id history) ≡ Some (status_of standings.Committed n ts)) (sym a.epoch_is)
      (subst (λ i. decision (home_of head i history) ≡ Some (status_of standings.Committed epoch ts)) (sym a.whose) decided) in
      let place : decision (place_at head a.range a.meta.id (history ++ [])) ≡ Some (status_of standings.Committed a.meta.epoch ts) =
      subst (λ h. decision (place_at head a.range a.meta.id h) ≡ Some (status_of standings.Committed a.meta.epoch ts)) (sym (append-nil history)) (ap decision there ∙ as_sent) in
      let c : SentCommit = record { meta = a.meta; ts = ts; locks = a.locks } in
      let sent = has_sent_commit head history run a.send a.listed a.number a.range c a.sends in
      let known : HasSent (known_at head (actors.Session id.session) history).sent (commit_request c) = subst (λ (i : TxnId). HasSent (known_at head (actors.Session i.session) history).sent (commit_request c)) a.whose sent in
      let who : actors.Session id.session ≡ a.send.actor = ap (λ (i : TxnId). actors.Session i.session) (sym a.whose) ∙ sym anchored.whose in
      not_refused head history [] (subst (IsRun head) (sym (append-nil history)) run) a.send a.listed a.number a.range a.meta ts a.locks a.sends place
      (subst (λ actor. WasCommitRefused (known_at head actor history).heard c) who (over.refused c known a.whose))

  stage-not-dead : IsKnownOver (known_at head (actors.Session id.session) history) id → WasImplied head history id epoch ts → ⊥
  stage-not-dead over w =
      let n = w.implied in
      let s = n.stage in
      let sent = has_sent_stage head history run s (staged_in w.front w.back history w.whole s n.commits.sent) in
      let known : HasSent (known_at head (actors.Session id.session) history).sent (stage_request s) = subst (λ (i : TxnId). HasSent (known_at head (actors.Session i.session) history).sent (stage_request s)) n.whose sent in
      let dead : IsDead (known_at head (actors.Session s.meta.id.session) history).heard s =
      subst (λ (i : TxnId). IsDead (known_at head (actors.Session i.session) history).heard s) (sym n.whose) (over.dead s known n.whose) in
      never_dead head w.front w.back (subst (IsRun head) (sym w.whole) run) s n.commits (subst (λ h. IsDead (known_at head (actors.Session s.meta.id.session) h).heard s) (sym w.whole) dead)

  pub settled_not_over : IsKnownOver (known_at head (actors.Session id.session) history) id → ⊥
  settled_not_over over = elim settled.asked [ inl asked ↦ commit-not-refused over asked | inr implied ↦ stage-not-dead over implied ]

-- One more entry after the transaction was committed.
module _ (head : Head) (history : List (Entry Event)) (run : IsRun head history) (e : Entry Event) (may : MayFollow (protocol head) history e) (id : TxnId) (epoch ts : ℕ)
    (decided : decision (home_of head id history) ≡ Some (status_of standings.Committed epoch ts)) (settled : IsSettled head history id epoch ts) where
  -- its session does not know it uncommitted
  known-committed : (t : Txn) → t.id ≡ id → IsUncommitted t.id (known_at head (actors.Session id.session) history).sent (known_at head (actors.Session id.session) history).heard → ⊥
  known-committed t same uncommitted =
      let k = known_at head (actors.Session id.session) history in
      settled_not_over head history run id epoch ts decided settled (over_of k id (subst (λ i. IsUncommitted i k.sent k.heard) same uncommitted))

  -- so it goes on as it was
  pub goes_on : (u : Txn) → Contains (txns_of head id (history ++ e ∷ [])) u → u.id ≡ id
      → (t : Txn) × Contains (txns_of head id history) t × (t.id ≡ id) × (u.epoch ≡ t.epoch) × ((key : List ℕ) → writes_on key u.writes ≡ writes_on key t.writes)
  goes_on u there same =
      elim (comes_from head history run e may (actors.Session id.session) u there) [
        | inl b ↦ absurd (new-none b.new)
        | inr c ↦
            let who : c.t.id ≡ id = sym c.same ∙ same in
            elim c.turn [
              | WentOn more alike ↦ (c.t, c.there, who, more, λ key. alike_at (IsAnswered history c.t) key c.t.writes u.writes alike)
              | Wrote w f more writes ↦ absurd (known-committed c.t who f.uncommitted)
              | Restarted r next writes ↦ absurd (known-committed c.t who r.uncommitted)
            ]
      ]
    where
      new-none : IsNew history u.id → ⊥
      new-none new =
          let none : anchor_in id history ≡ None = ap (λ i. anchor_in i history) (sym same) ∙ new.anchor in
          let both : decision Nothing ≡ Some (status_of standings.Committed epoch ts) = ap (λ o. decision (place_under head id history o)) (sym none) ∙ decided in absurd cc

  stands-as : (t u : Txn) (key : List ℕ) (value : Option (List ℕ)) → u.id ≡ t.id → u.epoch ≡ t.epoch → writes_on key u.writes ≡ writes_on key t.writes
      → LastWriteStands head (history ++ e ∷ []) t key value ts → LastWriteStands head (history ++ e ∷ []) u key value ts
  stands-as t u key value same epochs writes stands =
      elim stands [
        | inl version ↦
            inl (subst (λ i. Contains (state_at head (range_of head.splits key) (history ++ e ∷ [])).versions (record { key = key; ts = ts; id = i; value = value })) (sym same) version)
        | inr intent ↦
            let w = intent.2 in
            inr (
              intent.0,
              subst (λ i. own_intent head i key (history ++ e ∷ []) ≡ Some intent.0) (sym same) intent.1,
              record { epoch = w.epoch ∙ sym epochs; low = w.low; whole = w.whole ∙ sym writes },
            )
      ]

  still-stands : (t : Txn) → Contains (txns_of head id history) t → t.id ≡ id → (key : List ℕ) (front : List Laid) (seq : ℕ) (value : Option (List ℕ)) → writes_on key t.writes ≡ front ++ (seq, value) ∷ []
      → LastWriteStands head (history ++ e ∷ []) t key value ts
  still-stands t known same key front seq value is =
      let before = settled.stand t known same key front seq value is in
      elim (same_or_not e.actor (actors.Range (range_of head.splits key))) [
        | inl at ↦
            let what = range_evaluates head history e (range_of head.splits key) may at in
            let ev = of_entry head history e what.0 what.1 what.2 run may what.3 in
            let range : ev.range ≡ range_of head.splits key = let both = sym ev.there ∙ at in cc both in
            eval_stands head history run e what.0 what.1 what.2 ev what.3 key range t (subst (λ i. Contains (txns_of head i history) t) (sym same) known) epoch ts
            (subst (λ i. decision (home_of head i history) ≡ Some (status_of standings.Committed epoch ts)) (sym same) decided) (settled.epochs t known same) front seq value is before
        | inr differ ↦
            let still = state_other head (actors.Range (range_of head.splits key)) history e differ in
            elim before [
              | inl version ↦ inl (subst (λ (x : RangeState). Contains x.versions (record { key = key; ts = ts; id = t.id; value = value })) (sym still) version)
              | inr intent ↦ inr (intent.0, ap (λ (x : RangeState). own_at t.id key x.intents) still ∙ intent.1, intent.2)
            ]
      ]

  -- it is settled still
  pub settled_more : IsSettled head (history ++ e ∷ []) id epoch ts
  settled_more = record {
    asked = elim settled.asked [ inl asked ↦ inl (asked-more history e id epoch ts asked) | inr implied ↦ inr (implied-more head history e id epoch ts implied) ];
    epochs = λ u there same. let g = goes_on u there same in g.3 ∙ settled.epochs g.0 g.1 g.2;
    stand = λ u there same key front seq value is.
        let g = goes_on u there same in
        let writes = g.4 key in
        stands-as g.0 u key value (same ∙ sym g.2) g.3 writes (still-stands g.0 g.1 g.2 key front seq value (sym writes ∙ is));
  }
