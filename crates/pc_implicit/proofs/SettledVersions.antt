-- Each version is the last write at its key of a transaction that is committed at its timestamp.
use Rattle.std.proofs.Common.{◌≡◌, ℕ, ◌<◌, ◌⊎◌, inl, inr, List, [], ◌∷◌, ◌++◌, fold, None, Some, Contains, refl, sym, ap, subst, ◌∙◌, arith}
use Rattle.std.proofs.lemmas.List.Elements.{All-contains, recursion_from_All}
use Rattle.std.specs.Option.{option_map}
use Rattle.pc_implicit.proofs.StagedAs.{staged_in}
use Rattle.pc_base.specs.declared.actor.ActorId.{ActorId}
use Rattle.pc_base.specs.declared.actor.ActorId.TheVariants as actors
use Rattle.pc_base.specs.declared.entry.Entry.{Entry}
use Rattle.pc_base.specs.declared.version.Version.{Version}
use Rattle.pc_history.specs.History.{MayFollow}
use Rattle.pc_implicit.proofs.Agreed.{agreed, one_txn}
use Rattle.pc_implicit.proofs.Doing.{same_or_not}
use Rattle.pc_implicit.proofs.Evals.{NamedMessage, evaluated_state, of_entry, range_evaluates}
use Rattle.pc_implicit.proofs.Fates.{fates_are_so}
use Rattle.pc_implicit.proofs.Forward.{Has, commit_known, has_more}
use Rattle.pc_implicit.proofs.Homes.{home_commits, home_on}
use Rattle.pc_implicit.proofs.IntentKeys.{each-found}
use Rattle.pc_implicit.proofs.LaidIntents.{own-there}
use Rattle.pc_implicit.proofs.Metas.{EventHas, metas_agree}
use Rattle.pc_implicit.proofs.OwnStanding.{own_hold}
use Rattle.pc_implicit.proofs.PutsSent.{orderly}
use Rattle.pc_implicit.proofs.RisingVersions.{LiesAbove, versions_rise}
use Rattle.pc_implicit.proofs.Settled.{settled}
use Rattle.pc_implicit.proofs.VersionSteps.{IsMade, version_cases}
use Rattle.pc_implicit.proofs.WriteLists.{Laid, RiseAt, rise_at, rise_value}
use Rattle.pc_implicit.specs.Decided.{decision}
use Rattle.pc_implicit.specs.Writes.{IsOfCommitted, home_of, own_intent, txns_of, writes_on}
use Rattle.pc_lists.proofs.Each.{each-contains}
use Rattle.pc_lists.proofs.Lists.{contains_head, contains_nil}
use Rattle.pc_proto.specs.declared.event.Event.{Event}
use Rattle.pc_proto.specs.declared.event.Event.TheVariants as events
use Rattle.pc_proto.specs.declared.fate.Fate.TheVariants as fates
use Rattle.pc_proto.specs.declared.record.Intent.{Intent}
use Rattle.pc_proto.specs.declared.record.Standing.TheVariants as standings
use Rattle.pc_proto.specs.declared.reply.Reply.{Reply}
use Rattle.pc_proto.specs.declared.request.Request.TheVariants as requests
use Rattle.pc_proto.specs.Intents.{last_value, later_write, own_at}
use Rattle.pc_proto.specs.RecordRows.Reached.{status_of}
use Rattle.pc_world.proofs.Knowing.{state_other}
use Rattle.pc_world.specs.After.{known_at, state_at}
use Rattle.pc_world.specs.Evaluation.{state_after}
use Rattle.pc_world.specs.Known.Transactions.{Txn}
use Rattle.pc_world.specs.Local.{Head}
use Rattle.pc_world.specs.RangeOf.{range_of}
use Rattle.pc_world.specs.RangeState.{RangeState}
use Rattle.pc_world.specs.Run.{IsRun, protocol}
use Rattle.pc_implicit.proofs.SettledNow.{IsSettled, WasAsked, WasImplied}
use Rattle.pc_implicit.proofs.StagesSent.{staged_txn}
use Rattle.pc_world.proofs.Prefixes.{run_induction}
use Rattle.pc_implicit.proofs.SettledOn.{goes_on}

-- The version is of a transaction that its anchor's range has decided committed at its timestamp, in the range of its key, and is the
-- transaction's last write there.
pub record IsOf (head : Head) (history : List (Entry Event)) (range : ℕ) (v : Version) : Type 0 where
  pub epoch : ℕ
  pub decided : decision (home_of head v.id history) ≡ Some (status_of standings.Committed epoch v.ts)
  pub there : range ≡ range_of head.splits v.key
  pub t : Txn
  pub known : Contains (txns_of head v.id history) t
  pub whose : t.id ≡ v.id
  pub front : List Laid
  pub seq : ℕ
  pub last : writes_on v.key t.writes ≡ front ++ (seq, v.value) ∷ []

pub last-of : (ws : List Laid) (x : Laid) → Contains ws x → (front : List Laid) × (w : Laid) × (ws ≡ front ++ w ∷ [])
last-of [] x there = absurd (contains_nil x there)
last-of (y ∷ []) x there = ([], y, refl)
last-of (y ∷ z ∷ ws) x there = let r = last-of (z ∷ ws) z (contains_head z ws) in (y ∷ r.0, r.1, ap (λ l. y ∷ l) r.2)

-- the version has the value of the last write that its intent had
is-last : (v : Version) (i : Intent) (front : List Laid) (w : Laid) (all : List Laid) → i.history ≡ front ++ w ∷ [] → all ≡ front ++ w ∷ [] → RiseAt 0 all → last_value i ≡ Some v.value → all ≡ front ++ (w.0, v.value) ∷ []
is-last v i front w all whole is rise last =
    let says : last_value i ≡ Some w.1 = ap (λ h. option_map (λ (x : Laid). x.1) (fold later_write None h)) whole ∙ rise_value 0 front w (subst (RiseAt 0) is rise) in
    let value : w.1 ≡ v.value = let both : Some w.1 ≡ Some v.value = sym says ∙ last in cc both in
    is ∙ (λ i. front ++ (w.0, value i) ∷ [])

module _ (head : Head) (history : List (Entry Event)) (run : IsRun head history) (e : Entry Event) (may : MayFollow (protocol head) history e) where
  -- an earlier version, over one more entry
  of-more : (range : ℕ) (v : Version) → IsOf head history range v → IsOf head (history ++ e ∷ []) range v
  of-more range v o =
      let before = settled head history run v.id o.epoch v.ts o.decided in
      let on = has_more head history e (actors.Session v.id.session) v.id (o.t, o.known, o.whose) in
      let g = goes_on head history run e may v.id o.epoch v.ts o.decided before on.0 on.1 on.2 in
      let numbered = (agreed head history run (actors.Session v.id.session)).numbered in
      let same : g.0 ≡ o.t = one_txn (actors.Session v.id.session) _ (known_at head (actors.Session v.id.session) history).txns g.0 o.t numbered g.1 o.known (g.2 ∙ sym o.whose) in
      record {
        epoch = o.epoch;
        decided = (home_on head v.id history e).decided (status_of standings.Committed o.epoch v.ts) o.decided;
        there = o.there;
        t = on.0;
        known = on.1;
        whose = on.2;
        front = o.front;
        seq = o.seq;
        last = g.4 v.key ∙ ap (λ (x : Txn). writes_on v.key x.writes) same ∙ o.last;
      }

  -- what a resolve made a version of
  made-of : (actor : ActorId) (number : ℕ) (told : Reply) (ev : NamedMessage head history e.actor actor number told) (v : Version) → IsMade ev.request (state_at head ev.range history) v → IsOf head history ev.range v
  made-of actor number told ev v m =
      let sends : ev.send.event ≡ events.Send number ev.range (requests.Resolve v.id v.key (fates.Committed m.epoch v.ts)) = ev.sends ∙ ap (events.Send number ev.range) m.asks in
      let decided : decision (home_of head v.id history) ≡ Some (status_of standings.Committed m.epoch v.ts) = fates_are_so head history run ev.send ev.listed number ev.range v.id v.key (fates.Committed m.epoch v.ts) sends in
      let goes : (ev.range ≡ range_of head.splits v.key) × _ = subst (EventHas head history) sends ((metas_agree head history run).entries ev.send ev.listed) in
      let there : ev.range ≡ range_of head.splits v.key = goes.0 in
      let s = settled head history run v.id m.epoch v.ts decided in
      let has = its-txn s.asked in
      of-txn there decided s has.0 has.1 has.2
    where
      -- its session knows the transaction, of which it sent a commit or a stage
      its-txn : WasAsked history v.id m.epoch v.ts ⊎ WasImplied head history v.id m.epoch v.ts → Has v.id (txns_of head v.id history)
      its-txn (inl a) = subst (λ i. Has i (txns_of head i history)) a.whose (commit_known head history run a.send a.listed a.number a.range a.meta v.ts a.locks a.sends)
      its-txn (inr w) =
          let n = w.implied in
          subst (λ i. Has i (txns_of head i history)) n.whose (staged_txn head history run n.stage (staged_in w.front w.back history w.whole n.stage n.commits.sent))

      own-is : ev.range ≡ range_of head.splits v.key → (t : Txn) → t.id ≡ v.id → own_intent head t.id v.key history ≡ Some m.i
      own-is there t same =
          ap (λ i. own_at i v.key (state_at head (range_of head.splits v.key) history).intents) same
          ∙ ap (λ r. own_at v.id v.key (state_at head r history).intents) (sym there) ∙ m.own

      above : (v : Version) (i : Intent) → ev.range ≡ range_of head.splits v.key → own_at v.id v.key (state_at head ev.range history).intents ≡ Some i → (w : Version) → w.key ≡ v.key
          → Contains (state_at head ev.range history).versions w → w.ts < i.ts
      above v i there own w same inside =
          let s = state_at head ev.range history in
          let rising = versions_rise head ev.range history in
          let lies = each-found (LiesAbove s.versions) v.key i s.intents (own-there v.id v.key s.intents i own).0 (recursion_from_All (LiesAbove s.versions) s.intents rising.above) in
          All-contains (λ (x : Version). x.key ≡ v.key → x.ts < i.ts) s.versions w lies inside same

      of-txn : ev.range ≡ range_of head.splits v.key → decision (home_of head v.id history) ≡ Some (status_of standings.Committed m.epoch v.ts) → IsSettled head history v.id m.epoch v.ts
          → (t : Txn) → Contains (txns_of head v.id history) t → t.id ≡ v.id → IsOf head history ev.range v
      of-txn there decided s t known same =
          let own : Contains (txns_of head t.id history) t = subst (λ i. Contains (txns_of head i history) t) (sym same) known in
          let epoch : m.i.meta.epoch ≡ t.epoch = m.epoch_is ∙ sym (s.epochs t known same) in
          let among = (own_hold head history run t own v.key).among m.i (own-is there t same) in
          let some = among.some epoch in
          let inside : Contains (writes_on v.key t.writes) some.0 = each-contains (λ x. Contains (writes_on v.key t.writes) x) m.i.history some.0 (among.each epoch) some.1 in
          let l = last-of (writes_on v.key t.writes) some.0 inside in
          let w = l.1 in
          let low = m.low in
          elim (s.stand t known same v.key l.0 w.0 w.1 l.2) [
            | inl version ↦
                let old : Version = record { key = v.key; ts = v.ts; id = t.id; value = w.1 } in
                let high : v.ts < m.i.ts = above v m.i there m.own old refl (subst (λ r. Contains (state_at head r history).versions old) (sym there) version) in
                absurd (omega (arith, low, high))
            | inr intent ↦
                let one : intent.0 ≡ m.i = let both : Some intent.0 ≡ Some m.i = sym intent.1 ∙ own-is there t same in cc both in
                let whole : m.i.history ≡ l.0 ++ w ∷ [] = ap (λ (i : Intent). i.history) (sym one) ∙ intent.2.whole ∙ l.2 in
                let rise : RiseAt 0 (writes_on v.key t.writes) = rise_at v.key 0 t.writes (orderly head history run (actors.Session t.id.session) t own).rise in
                record {
                  epoch = m.epoch;
                  decided = decided;
                  there = there;
                  t = t;
                  known = known;
                  whose = same;
                  front = l.0;
                  seq = w.0;
                  last = is-last v m.i l.0 w (writes_on v.key t.writes) whole l.2 rise m.last;
                }
          ]

  versions-more : ((range : ℕ) (v : Version) → Contains (state_at head range history).versions v → IsOf head history range v)
      → (range : ℕ) (v : Version) → Contains (state_at head range (history ++ e ∷ [])).versions v → IsOf head (history ++ e ∷ []) range v
  versions-more all range v inside =
      elim (same_or_not e.actor (actors.Range range)) [
        | inl at ↦
            let what = range_evaluates head history e range may at in
            let ev = of_entry head history e what.0 what.1 what.2 run may what.3 in
            let same : ev.range ≡ range = let both = sym ev.there ∙ at in cc both in
            let state = evaluated_state head history e what.0 what.1 ev.range what.2 ev what.3 in
            let here : Contains (state_after ev.request (state_at head ev.range history)).versions v =
            subst (λ (s : RangeState). Contains s.versions v) state (subst (λ r. Contains (state_at head r (history ++ e ∷ [])).versions v) (sym same) inside) in
            elim (version_cases ev.request (state_at head ev.range history) v here) [
              | inl before ↦ of-more range v (all range v (subst (λ r. Contains (state_at head r history).versions v) same before))
              | inr made ↦ subst (λ r. IsOf head (history ++ e ∷ []) r v) same (of-more ev.range v (made-of what.0 what.1 what.2 ev v made))
            ]
        | inr differ ↦ of-more range v (all range v (subst (λ (s : RangeState). Contains s.versions v) (state_other head (actors.Range range) history e differ) inside))
      ]

module _ (head : Head) where
  all-of : (history : List (Entry Event)) → IsRun head history → (range : ℕ) (v : Version) → Contains (state_at head range history).versions v → IsOf head history range v
  all-of = run_induction head (λ history. (range : ℕ) (v : Version) → Contains (state_at head range history).versions v → IsOf head history range v)
      (λ range v inside. absurd (contains_nil v inside)) (λ history e run may all. versions-more head history run e may all)

  -- each version is of a committed transaction
  pub versions_are_committed : (history : List (Entry Event)) (range : ℕ) (v : Version) → IsRun head history → Contains (state_at head range history).versions v → IsOfCommitted head history range v
  versions_are_committed history range v run inside =
      let o = all-of history run range v inside in
      record {
        committed = home_commits head v.id history o.epoch v.ts o.decided;
        there = o.there;
        t = o.t;
        known = o.known;
        whose = o.whose;
        front = o.front;
        seq = o.seq;
        last = o.last;
      }
