-- What becomes of a transaction's own intent at a key over one more entry of a run.
use Rattle.std.proofs.Common.{◌≡◌, ℕ, ◌≤◌, max, false, inl, inr, List, [], ◌∷◌, ◌++◌, Option, None, Some, Contains, sym, ap, ◌∙◌, arith}
use Rattle.pc_base.specs.declared.actor.ActorId.{ActorId}
use Rattle.pc_base.specs.declared.actor.ActorId.TheVariants as actors
use Rattle.pc_base.specs.declared.entry.Entry.{Entry}
use Rattle.pc_base.specs.declared.transaction.TxnId.{TxnId}
use Rattle.pc_history.specs.History.{MayFollow}
use Rattle.pc_implicit.proofs.Doing.{same_or_not}
use Rattle.pc_implicit.proofs.Evals.{NamedMessage, evaluated_state, of_entry, range_evaluates}
use Rattle.pc_implicit.proofs.Fates.{FateIsSo, fates_are_so}
use Rattle.pc_implicit.proofs.OwnKeys.{AsBefore, Ends, IsGone, IsLaid, IsMoved, own_changes}
use Rattle.pc_implicit.specs.Decided.{decision, time_of}
use Rattle.pc_implicit.specs.Writes.{home_of, own_intent}
use Rattle.pc_proto.specs.declared.event.Event.{Event}
use Rattle.pc_proto.specs.declared.event.Event.TheVariants as events
use Rattle.pc_proto.specs.declared.fate.Fate.{Fate}
use Rattle.pc_proto.specs.declared.fate.Fate.TheVariants as fates
use Rattle.pc_proto.specs.declared.meta.TxnMeta.{TxnMeta}
use Rattle.pc_proto.specs.declared.record.Intent.{Intent}
use Rattle.pc_proto.specs.declared.record.Standing.TheVariants as standings
use Rattle.pc_proto.specs.declared.record.Status.{Status}
use Rattle.pc_proto.specs.declared.reply.Reply.{Reply}
use Rattle.pc_proto.specs.declared.request.Request.TheVariants as requests
use Rattle.pc_proto.specs.Intents.{own_at}
use Rattle.pc_proto.specs.Place.{Place}
use Rattle.pc_proto.specs.RecordRows.Reached.{status_of}
use Rattle.pc_world.proofs.Knowing.{state_other}
use Rattle.pc_world.specs.After.{state_at}
use Rattle.pc_world.specs.Evaluation.{intents_after}
use Rattle.pc_world.specs.Evaluation.Put.{laid, overtaken, write_ts}
use Rattle.pc_world.specs.Local.{Head}
use Rattle.pc_world.specs.RangeOf.{range_of}
use Rattle.pc_world.specs.RangeState.{RangeState}
use Rattle.pc_world.specs.Run.{IsRun, protocol}

-- The entry evaluates a put of the transaction at the key, which was sent and not overtaken, and lays this intent, no lower than its own
-- intent lay.
pub record IsLaidOver (history : List (Entry Event)) (e : Entry Event) (id : TxnId) (key : List ℕ) (own later : Option Intent) : Type 0 where
  pub send : Entry Event
  pub listed : Contains history send
  pub number : ℕ
  pub range : ℕ
  pub told : Reply
  pub evaluates : e.event ≡ events.Eval send.actor number told
  pub meta : TxnMeta
  pub seq : ℕ
  pub asked : ℕ
  pub value : Option (List ℕ)
  pub sends : send.event ≡ events.Send number range (requests.Put meta seq asked key value)
  pub whose : meta.id ≡ id
  pub first : overtaken meta seq own ≡ false
  pub at : ℕ
  pub rises : (i : Intent) → own ≡ Some i → i.ts ≤ at
  pub laid_now : later ≡ Some (laid meta seq at value own)

-- What becomes of the own intent: it stays, a put of the transaction lays it, it is moved no further than the transaction's record,
-- or the transaction is decided.
pub data OwnOver (head : Head) (history : List (Entry Event)) (e : Entry Event) (id : TxnId) (key : List ℕ) (later : Option Intent) : Type 0 where
  Stays : later ≡ own_intent head id key history → OwnOver head history e id key later
  Lays : IsLaidOver history e id key (own_intent head id key history) later → OwnOver head history e id key later
  Moves : (i : Intent) (at : ℕ) → own_intent head id key history ≡ Some i → at ≤ time_of (home_of head id history)
      → later ≡ Some (record i { ts = max i.ts at }) → OwnOver head history e id key later
  Decides : (s : Status) → decision (home_of head id history) ≡ Some s → OwnOver head history e id key later

-- the transaction of a fate that takes its intent away is decided
fate-decides : (fate : Fate) (p : Place) → Ends fate → FateIsSo fate p → (s : Status) × (decision p ≡ Some s)
fate-decides (fates.Committed epoch ts) p ends so = (status_of standings.Committed epoch ts, so)
fate-decides fates.Aborted p ends so = (status_of (standings.Aborted so.0) so.1 so.2, so.3)
fate-decides (fates.Pending ts) p ends so = absurd ends

module _ (head : Head) (history : List (Entry Event)) (run : IsRun head history) (e : Entry Event) (may : MayFollow (protocol head) history e) (id : TxnId) (key : List ℕ) where
  over-evaluation : (actor : ActorId) (number : ℕ) (told : Reply) (ev : NamedMessage head history e.actor actor number told) → e.event ≡ events.Eval actor number told → ev.range ≡ range_of head.splits key
      → OwnOver head history e id key (own_intent head id key (history ++ e ∷ []))
  over-evaluation actor number told ev is there =
      let s = state_at head ev.range history in
      let here : own_at id key s.intents ≡ own_intent head id key history = ap (λ r. own_at id key (state_at head r history).intents) there in
      let state : own_intent head id key (history ++ e ∷ []) ≡ own_at id key (intents_after ev.request s) =
      ap (λ r. own_at id key (state_at head r (history ++ e ∷ [])).intents) (sym there)
      ∙ ap (λ (x : RangeState). own_at id key x.intents) (evaluated_state head history e actor number ev.range told ev is) in
      elim (own_changes id key ev.request s) [
        | AsBefore same ↦ Stays (state ∙ same ∙ here)
        | IsLaid meta seq asked value asks whose first eq ↦
            let own = own_at id key s.intents in
            let at = write_ts meta asked key own s in
            Lays (record {
              send = ev.send;
              listed = ev.listed;
              number = number;
              range = ev.range;
              told = told;
              evaluates = is ∙ ap (λ a. events.Eval a number told) (sym ev.whose);
              meta = meta;
              seq = seq;
              asked = asked;
              value = value;
              sends = ev.sends ∙ ap (events.Send number ev.range) asks;
              whose = whose;
              first = ap (overtaken meta seq) (sym here) ∙ first;
              at = at;
              rises = λ i own_is. above-own meta asked s own i (here ∙ own_is);
              laid_now = state ∙ eq ∙ ap (λ o. Some (laid meta seq at value o)) here;
            })
        | IsMoved at i asks own eq ↦
            let so : at ≤ time_of (home_of head id history) = fates_are_so head history run ev.send ev.listed number ev.range id key (fates.Pending at) (ev.sends ∙ ap (events.Send number ev.range) asks) in
            Moves i at (sym here ∙ own) so (state ∙ eq)
        | IsGone fate i asks ends own eq ↦
            let so = fates_are_so head history run ev.send ev.listed number ev.range id key fate (ev.sends ∙ ap (events.Send number ev.range) asks) in
            let d = fate-decides fate (home_of head id history) ends so in
            Decides d.0 d.1
      ]
    where
      above-own : (meta : TxnMeta) (asked : ℕ) (s : RangeState) (own : Option Intent) (i : Intent) → own ≡ Some i → i.ts ≤ write_ts meta asked key own s
      above-own meta asked s None i is = absurd cc
      above-own meta asked s (Some j) i is = let same : j ≡ i = cc in let time : j.ts ≡ i.ts = ap (λ (x : Intent). x.ts) same in omega (arith, time)

  -- what becomes of the own intent over the entry
  pub own_over : OwnOver head history e id key (own_intent head id key (history ++ e ∷ []))
  own_over =
      let range = range_of head.splits key in
      elim (same_or_not e.actor (actors.Range range)) [
        | inl at ↦
            let what = range_evaluates head history e range may at in
            let ev = of_entry head history e what.0 what.1 what.2 run may what.3 in
            let there : ev.range ≡ range = let both = sym ev.there ∙ at in cc both in
            over-evaluation what.0 what.1 what.2 ev what.3 there
        | inr elsewhere ↦ Stays (ap (λ (x : RangeState). own_at id key x.intents) (state_other head (actors.Range range) history e elsewhere))
      ]
