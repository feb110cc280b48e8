-- Intents stand in the order of their keys, at most one at a key, above its versions; these stand by key and timestamp, and rise.
use Rattle.std.proofs.Common.{◌≡◌, ℕ, ◌<◌, ◌≤◌, max, not, List, [], ◌∷◌, fold, ◌⊎◌, inl, inr, Option, sym, subst, ◌∙◌, All, arith}
use Rattle.std.proofs.lemmas.Cmp.{nat_list_cmp_total}
use Rattle.std.proofs.lemmas.List.Elements.{All-from_recursion, All-weaker, recursion_from_All}
use Rattle.std.proofs.lemmas.List.Kept.{AllPairs-cons}
use Rattle.std.specs.Cmp.Lexicographic.{slice_cmp}
use Rattle.std.specs.declared.cmp.Ordering.TheVariants.{Less, Equal}
use Rattle.std.specs.List.{AllByRecursion as Each, AllPairs}
use Rattle.std.specs.List.Sorted.{IsStrictlySortedBy}
use Rattle.std.specs.Map.{keys_of}
use Rattle.std.specs.Ordering.{nat_cmp}
use Rattle.pc_base.proofs.Entries.{sorted_inserted, sorted_left}
use Rattle.pc_base.proofs.VersionOrder.{below_of_one_key, each_with_version, equal_versions, sorted_with_version}
use Rattle.pc_base.specs.declared.entry.Entry.{Entry}
use Rattle.pc_base.specs.declared.transaction.TxnId.{TxnId}
use Rattle.pc_base.specs.declared.version.Version.{Version}
use Rattle.pc_base.specs.Keyed.{without}
use Rattle.pc_base.specs.Span.{same_key}
use Rattle.pc_base.specs.Versions.{above_newest, version_cmp, with_version}
use Rattle.pc_implicit.proofs.IntentKeys.{differ-rising, each-found, each-laid, each-left, each-replaced, pairs-none}
use Rattle.pc_implicit.proofs.LaidIntents.{Turns, own-there, put-intents, resolve-intents, resolve-turns}
use Rattle.pc_implicit.proofs.Lift.{GoesOn, over}
use Rattle.pc_implicit.proofs.VersionSearches.{above_newest-each}
use Rattle.pc_implicit.specs.Versions.{IsRising}
use Rattle.pc_lists.proofs.Each.{each-weaker}
use Rattle.pc_proto.specs.declared.event.Event.{Event}
use Rattle.pc_proto.specs.declared.fate.Fate.{Fate}
use Rattle.pc_proto.specs.declared.record.Intent.{Intent}
use Rattle.pc_proto.specs.declared.request.Request.{Request}
use Rattle.pc_proto.specs.declared.request.Request.TheVariants as requests
use Rattle.pc_proto.specs.Intents.{own_at}
use Rattle.pc_world.specs.After.{state_at}
use Rattle.pc_world.specs.Evaluation.{intents_after, state_after, versions_after}
use Rattle.pc_world.specs.Evaluation.IntentChange.{intents_with}
use Rattle.pc_world.specs.Evaluation.Resolve.{change_for, new_versions}
use Rattle.pc_world.specs.Local.{Head}
use Rattle.pc_world.specs.RangeState.{RangeState, no_state}

-- The later of the two lies above, if they have one key.
abbrev pub Rise : Version → Version → Type 0
Rise v w = v.key ≡ w.key → v.ts < w.ts

-- The intent lies above each version of its key.
abbrev pub LiesAbove : List Version → List ℕ × Intent → Type 0
LiesAbove versions e = All (λ v. v.key ≡ e.0 → v.ts < e.1.ts) versions

-- The intents stand in the order of their keys.
abbrev pub AreInKeyOrder : List (List ℕ × Intent) → Type 0
AreInKeyOrder es = IsStrictlySortedBy (slice_cmp nat_cmp) (keys_of es)

ordered-row : (request : Request) (s : RangeState) → AreInKeyOrder s.intents → AreInKeyOrder (intents_after request s)
ordered-row (requests.Put meta seq ts key value) s h = put-intents AreInKeyOrder meta seq ts key value s (λ i lands. sorted_inserted nat_list_cmp_total key i s.intents h) h
ordered-row (requests.Resolve id key fate) s h =
    resolve-intents AreInKeyOrder id key fate s.intents h (sorted_left nat_list_cmp_total (λ k. not (same_key k key)) s.intents h)
    (λ i ts own. sorted_inserted nat_list_cmp_total key (record i { ts = max i.ts ts }) s.intents h)
ordered-row request s h = h

landed-above : (key k : List ℕ) (versions : List Version) (i : Intent) → above_newest key versions ≤ i.ts → k ≡ key → LiesAbove versions (k, i)
landed-above key k versions i high same =
    All-weaker (λ v. v.key ≡ key → v.ts < above_newest key versions) (λ v. v.key ≡ k → v.ts < i.ts)
    (λ v below at. let under : v.ts < above_newest key versions = below (at ∙ same) in omega (arith, under, high)) versions (above_newest-each key versions)

module _ (id : TxnId) (key : List ℕ) (fate : Fate) (s : RangeState) where
  own : Option Intent
  own = own_at id key s.intents

  -- the intents after the resolve, still above the versions before it
  still-above : Each (LiesAbove s.versions) s.intents → Each (LiesAbove s.versions) (intents_with key (change_for fate (own_at id key s.intents)) s.intents)
  still-above a =
      resolve-intents (Each (LiesAbove s.versions)) id key fate s.intents a (each-left (LiesAbove s.versions) key (LiesAbove s.versions) (λ e differ h. h) s.intents a)
      (λ i ts own. each-replaced (LiesAbove s.versions) key i (record i { ts = max i.ts ts }) s.intents (own-there id key s.intents i own).0
      (λ k h. All-weaker (λ v. v.key ≡ k → v.ts < i.ts) (λ v. v.key ≡ k → v.ts < max i.ts ts) (λ v below at. let under : v.ts < i.ts = below at in omega (arith, under)) s.versions h) a)

  module _ (turns : Turns id key fate (own_at id key s.intents)) where
    made : Version
    made = record { key = key; ts = turns.ts; id = id; value = turns.value }

    above-made : Each (LiesAbove s.versions) s.intents → Each (LiesAbove (with_version s.versions made)) (without same_key key s.intents)
    unfolding made
    above-made a =
        each-left (LiesAbove s.versions) key (LiesAbove (with_version s.versions made))
        (λ e differ h. All-from_recursion (λ v. v.key ≡ e.0 → v.ts < e.1.ts) (with_version s.versions made)
        (each_with_version (λ v. v.key ≡ e.0 → v.ts < e.1.ts) s.versions made (λ at. absurd (differ (sym at)))
        (recursion_from_All (λ v. v.key ≡ e.0 → v.ts < e.1.ts) s.versions h))) s.intents a

    rise-made : Each (LiesAbove s.versions) s.intents → IsStrictlySortedBy version_cmp s.versions → IsStrictlySortedBy version_cmp (with_version s.versions made)
    unfolding made
    rise-made a h =
        let there = own-there id key s.intents turns.intent turns.there in
        let low = turns.low in
        let found : LiesAbove s.versions (key, turns.intent) = each-found (LiesAbove s.versions) key turns.intent s.intents there.0 a in
        sorted_with_version s.versions made
        (each-weaker (λ v. v.key ≡ key → v.ts < turns.intent.ts) (λ v. version_cmp made v ≡ Equal → ⊥)
        (λ v below equal.
        let same = equal_versions made v equal in
        let under : v.ts < turns.intent.ts = below (sym same.0) in
        let at : turns.ts ≡ v.ts = same.1 in
        omega (arith, under, low, at))
        s.versions (recursion_from_All (λ v. v.key ≡ key → v.ts < turns.intent.ts) s.versions found)) h

-- The intents lie above the versions, and these stand by key and timestamp.
AreRising : List (List ℕ × Intent) → List Version → Type 0
AreRising intents versions = Each (LiesAbove versions) intents × IsStrictlySortedBy version_cmp versions

rising-row : (request : Request) (s : RangeState) → AreRising s.intents s.versions → AreRising (intents_after request s) (versions_after request s)
unfolding AreRising made
rising-row (requests.Put meta seq ts key value) s h = (
  put-intents (Each (LiesAbove s.versions)) meta seq ts key value s
      (λ i lands. each-laid (LiesAbove s.versions) key i s.intents (λ k same. landed-above key k s.versions i lands.above same) h.0) h.0,
  h.1,
)
rising-row (requests.Resolve id key fate) s h = by (resolve-turns id key fate (own_at id key s.intents))
  where
    by : (new_versions id key fate (own_at id key s.intents) ≡ []) ⊎ Turns id key fate (own_at id key s.intents)
        → AreRising (intents_with key (change_for fate (own_at id key s.intents)) s.intents) (fold with_version s.versions (new_versions id key fate (own_at id key s.intents)))
    by (inl none) =
        subst (λ more. AreRising (intents_with key (change_for fate (own_at id key s.intents)) s.intents) (fold with_version s.versions more)) (sym none) (still-above id key fate s h.0, h.1)
    by (inr turns) =
        subst (λ c. AreRising (intents_with key c s.intents) (fold with_version s.versions (new_versions id key fate (own_at id key s.intents)))) (sym turns.drops)
        (subst (λ more. AreRising (without same_key key s.intents) (fold with_version s.versions more)) (sym turns.made)
        (above-made id key fate s turns h.0, rise-made id key fate s turns h.0 h.1))
rising-row request s h = h

-- What stands in order, and above what.
record IsOrderly (s : RangeState) : Type 0 where
  intents : AreInKeyOrder s.intents
  rising : AreRising s.intents s.versions

orderly-step : (request : Request) (s : RangeState) → IsOrderly s → IsOrderly (state_after request s)
orderly-step request s h = record { intents = ordered-row request s h.intents; rising = rising-row request s h.rising }

orderly-goes-on : GoesOn (λ s t. IsOrderly s → IsOrderly t)
orderly-goes-on = record {
  same = λ s h. h;
  on = λ s t u h k r. k (h r);
  step = orderly-step;
}

none-orderly : IsOrderly no_state
unfolding AreRising IsStrictlySortedBy
none-orderly = record { intents = tt; rising = (tt, tt) }

rises : (vs : List Version) → IsStrictlySortedBy version_cmp vs → AllPairs Rise vs
unfolding IsStrictlySortedBy
rises [] sorted = pairs-none Rise
rises (v ∷ vs) sorted =
    AllPairs-cons Rise v vs (All-from_recursion (Rise v) vs (each-weaker (λ w. version_cmp v w ≡ Less) (Rise v) (λ w less same. below_of_one_key v w less same) vs sorted.0)) (rises vs sorted.1)

orderly-rises : (s : RangeState) → IsOrderly s → IsRising s
unfolding AreRising
orderly-rises s h = record {
  single = differ-rising s.intents h.intents;
  above = All-from_recursion (LiesAbove s.versions) s.intents h.rising.0;
  rising = rises s.versions h.rising.1;
}

pub versions_rise : (head : Head) (range : ℕ) (history : List (Entry Event)) → IsRising (state_at head range history)
versions_rise head range history = orderly-rises (state_at head range history) (over (λ s t. IsOrderly s → IsOrderly t) orderly-goes-on head range [] history none-orderly)
