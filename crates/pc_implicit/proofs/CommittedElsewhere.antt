-- Where a transaction is decided committed, and its intent at a key it wrote lay above a timestamp below the commit's, no intent of it comes
-- at or below that timestamp again: what it wrote there stands in that intent, or as a version above which a late put lands.
use Rattle.std.proofs.Common.{◌≡◌, ℕ, ◌<◌, ◌≤◌, max, nat_le, Bool, true, false, ◌⊎◌, inl, inr, List, [], ◌∷◌, ◌++◌, Option, None, Some, Contains, refl, sym, ap, ◌∙◌, arith}
use Rattle.std.proofs.lemmas.Bool.{leb-true, leb-false}
use Rattle.std.proofs.lemmas.List.Elements.{All-contains, recursion_from_All}
use Rattle.pc_base.specs.declared.actor.ActorId.{ActorId}
use Rattle.pc_base.specs.declared.actor.ActorId.TheVariants as actors
use Rattle.pc_base.specs.declared.entry.Entry.{Entry}
use Rattle.pc_base.specs.declared.transaction.TxnId.{TxnId}
use Rattle.pc_base.specs.declared.version.Version.{Version}
use Rattle.pc_base.specs.Versions.{above_newest}
use Rattle.pc_history.specs.History.{MayFollow}
use Rattle.pc_implicit.proofs.Doing.{same_or_not}
use Rattle.pc_implicit.proofs.Evals.{NamedMessage, evaluated_state, of_entry, range_evaluates}
use Rattle.pc_implicit.proofs.IntentKeys.{each-found}
use Rattle.pc_implicit.proofs.LaidIntents.{own-there}
use Rattle.pc_implicit.proofs.OwnKeys.{AsBefore, IsGone, IsLaid, IsMoved, laid_time, own_changes}
use Rattle.pc_implicit.proofs.RisingVersions.{LiesAbove, versions_rise}
use Rattle.pc_implicit.proofs.Settled.{settled}
use Rattle.pc_implicit.proofs.SettledVersions.{last-of}
use Rattle.pc_implicit.proofs.VersionSearches.{above_newest-each}
use Rattle.pc_implicit.proofs.WriteLists.{Laid}
use Rattle.pc_implicit.specs.Decided.{decision}
use Rattle.pc_implicit.specs.Writes.{LastWriteStands, home_of, own_intent, txns_of, writes_on}
use Rattle.pc_proto.specs.declared.event.Event.{Event}
use Rattle.pc_proto.specs.declared.event.Event.TheVariants as events
use Rattle.pc_proto.specs.declared.meta.TxnMeta.{TxnMeta}
use Rattle.pc_proto.specs.declared.record.Intent.{Intent}
use Rattle.pc_proto.specs.declared.record.Standing.TheVariants as standings
use Rattle.pc_proto.specs.declared.reply.Reply.{Reply}
use Rattle.pc_proto.specs.Intents.{own_at}
use Rattle.pc_proto.specs.RecordRows.Reached.{status_of}
use Rattle.pc_world.proofs.Knowing.{state_other}
use Rattle.pc_world.specs.After.{state_at}
use Rattle.pc_world.specs.Evaluation.{intents_after}
use Rattle.pc_world.specs.Evaluation.Put.{laid, write_ts}
use Rattle.pc_world.specs.Known.Transactions.{Txn}
use Rattle.pc_world.specs.Local.{Head}
use Rattle.pc_world.specs.RangeOf.{range_of}
use Rattle.pc_world.specs.RangeState.{RangeState}
use Rattle.pc_world.specs.Run.{IsRun, protocol}

-- The transaction has no intent at the key at or below this timestamp.
abbrev pub IsOff : Head → List (Entry Event) → TxnId → List ℕ → ℕ → Type 0
IsOff head history id key ts = (i : Intent) → own_intent head id key history ≡ Some i → ts < i.ts

-- The key has a version above this timestamp.
pub record HasVersionOver (head : Head) (history : List (Entry Event)) (key : List ℕ) (ts : ℕ) : Type 0 where
  pub v : Version
  pub there : Contains (state_at head (range_of head.splits key) history).versions v
  pub at_key : v.key ≡ key
  pub above : ts < v.ts

-- of each two numbers the first is at most the second, or above it
pub at-most : (a b : ℕ) → (a ≤ b) ⊎ (b < a)
at-most a b = by (nat_le a b) refl
  where
    by : (t : Bool) → nat_le a b ≡ t → (a ≤ b) ⊎ (b < a)
    by true is = inl (leb-true a b is)
    by false is = inr (leb-false a b is)

module _ (head : Head) (id : TxnId) (key : List ℕ) (ts : ℕ) where
  -- an intent lies above each version of its key
  intent-above : (history : List (Entry Event)) (i : Intent) → own_intent head id key history ≡ Some i → (v : Version) → v.key ≡ key → Contains (state_at head (range_of head.splits key) history).versions v → v.ts < i.ts
  intent-above history i own v same inside =
      let s = state_at head (range_of head.splits key) history in
      let lies = each-found (LiesAbove s.versions) key i s.intents (own-there id key s.intents i own).0 (recursion_from_All (LiesAbove s.versions) s.intents (versions_rise head (range_of head.splits key) history).above) in
      All-contains (λ (x : Version). x.key ≡ key → x.ts < i.ts) s.versions v lies inside same

  laid-off : (history : List (Entry Event)) (meta : TxnMeta) (asked : ℕ) (own : Option Intent) → own_intent head id key history ≡ own → IsOff head history id key ts → (own_intent head id key history ≡ None → HasVersionOver head history key ts)
      → ts < write_ts meta asked key own (state_at head (range_of head.splits key) history)
  laid-off history meta asked (Some i) is off none = let above = off i is in omega (arith, above)
  laid-off history meta asked None is off none =
      let h = none is in
      let s = state_at head (range_of head.splits key) history in
      let newest : h.v.ts < above_newest key s.versions = All-contains (λ (v : Version). v.key ≡ key → v.ts < above_newest key s.versions) s.versions h.v (above_newest-each key s.versions) h.there h.at_key in
      let above = h.above in
      omega (arith, newest, above)

  module _ (history : List (Entry Event)) (run : IsRun head history) (e : Entry Event) (may : MayFollow (protocol head) history e) (off : IsOff head history id key ts) (none : own_intent head id key history ≡ None → HasVersionOver head history key ts) where
    off-evaluation : (actor : ActorId) (number : ℕ) (told : Reply) (ev : NamedMessage head history e.actor actor number told) → e.event ≡ events.Eval actor number told → ev.range ≡ range_of head.splits key → IsOff head (history ++ e ∷ []) id key ts
    off-evaluation actor number told ev is there i own =
        let s = state_at head (range_of head.splits key) history in
        let state : own_intent head id key (history ++ e ∷ []) ≡ own_at id key (intents_after ev.request s) =
        ap (λ r. own_at id key (state_at head r (history ++ e ∷ [])).intents) (sym there)
        ∙ ap (λ (x : RangeState). own_at id key x.intents) (evaluated_state head history e actor number ev.range told ev is)
        ∙ ap (λ r. own_at id key (intents_after ev.request (state_at head r history))) there in
        let later : own_at id key (intents_after ev.request s) ≡ Some i = sym state ∙ own in
        elim (own_changes id key ev.request s) [
          | AsBefore same ↦ off i (sym same ∙ later)
          | IsLaid meta seq asked value asks whose first eq ↦
              let at = write_ts meta asked key (own_at id key s.intents) s in
              let made = laid meta seq at value (own_at id key s.intents) in
              let one : made ≡ i = let both : Some made ≡ Some i = sym eq ∙ later in cc both in
              let time : made.ts ≡ at = laid_time id key meta seq at value (own_at id key s.intents) in
              let same_time : made.ts ≡ i.ts = ap (λ (x : Intent). x.ts) one in
              let above : ts < at = laid-off history meta asked (own_at id key s.intents) refl off none in
              omega (arith, time, same_time, above)
          | IsMoved at j asks old eq ↦
              let above = off j old in
              let one : record j { ts = max j.ts at } ≡ i = let both : Some (record j { ts = max j.ts at }) ≡ Some i = sym eq ∙ later in cc both in
              let time : max j.ts at ≡ i.ts = ap (λ (x : Intent). x.ts) one in
              omega (arith, above, time)
          | IsGone fate j asks ends old eq ↦ let both : None ≡ Some i = sym eq ∙ later in absurd cc
        ]

    -- so it is after one more entry
    pub off_more : IsOff head (history ++ e ∷ []) id key ts
    off_more =
        let range = range_of head.splits key in
        elim (same_or_not e.actor (actors.Range range)) [
          | inl at ↦
              let what = range_evaluates head history e range may at in
              let ev = of_entry head history e what.0 what.1 what.2 run may what.3 in
              let there : ev.range ≡ range = let both = sym ev.there ∙ at in cc both in
              off-evaluation what.0 what.1 what.2 ev what.3 there
          | inr elsewhere ↦ λ i own. off i (sym (ap (λ (x : RangeState). own_at id key x.intents) (state_other head (actors.Range range) history e elsewhere)) ∙ own)
        ]

  -- What a transaction that is decided committed above this timestamp wrote at the key.
  module _ (history : List (Entry Event)) (run : IsRun head history) (epoch at : ℕ) (decided : decision (home_of head id history) ≡ Some (status_of standings.Committed epoch at)) (above : ts < at)
      (t : Txn) (known : Contains (txns_of head id history) t) (named : t.id ≡ id) (x : Laid) (wrote : Contains (writes_on key t.writes) x) where
    stands-so : (value : Option (List ℕ)) × LastWriteStands head history t key value at
    stands-so =
        let l = last-of (writes_on key t.writes) x wrote in
        let w = l.1 in
        (w.1, (settled head history run id epoch at decided).stand t known named key l.0 w.0 w.1 l.2)

    same-own : own_intent head t.id key history ≡ own_intent head id key history
    same-own = ap (λ i. own_intent head i key history) named

    -- where it has no intent it has a version
    pub version_over : own_intent head id key history ≡ None → HasVersionOver head history key ts
    unfolding same-own
    version_over none =
        let s = stands-so in
        elim s.1 [
          | inl there ↦ record { v = record { key = key; ts = at; id = t.id; value = s.0 }; there = there; at_key = refl; above = above }
          | inr intent ↦ let both : None ≡ Some intent.0 = sym none ∙ sym same-own ∙ intent.1 in absurd cc
        ]

    -- where it has none that has all its writes at or below the timestamp, it has none there
    pub off_now : ((i : Intent) → own_intent head id key history ≡ Some i → i.meta.epoch ≡ t.epoch → i.history ≡ writes_on key t.writes → i.ts ≤ ts → ⊥) → IsOff head history id key ts
    unfolding same-own
    off_now whole i own =
        let s = stands-so in
        elim s.1 [
          | inl there ↦
              let v : Version = record { key = key; ts = at; id = t.id; value = s.0 } in
              let high : at < i.ts = intent-above history i own v refl there in
              omega (arith, above, high)
          | inr intent ↦
              let one : intent.0 ≡ i = let both : Some intent.0 ≡ Some i = sym intent.1 ∙ same-own ∙ own in cc both in
              let is = intent.2 in
              elim (at-most i.ts ts) [
                | inl low ↦ absurd (whole i own (ap (λ (y : Intent). y.meta.epoch) (sym one) ∙ is.epoch) (ap (λ (y : Intent). y.history) (sym one) ∙ is.whole) low)
                | inr high ↦ high
              ]
        ]
