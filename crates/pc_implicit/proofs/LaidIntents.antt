-- Where a put lays its intent, and which version a resolve makes of an intent.
use Rattle.std.proofs.Common.{◌≡◌, ℕ, ◌≤◌, max, Bool, true, false, ◌==◌, if◌then◌else◌, List, [], ◌∷◌, ◌⊎◌, inl, inr, Option, None, Some, refl, ap, subst, ◌∙◌, arith}
use Rattle.std.specs.BTreeMap.{insert_entry}
use Rattle.std.specs.Cmp.Lexicographic.{slice_cmp}
use Rattle.std.specs.Option.{option_map_or}
use Rattle.std.specs.Ordering.{nat_cmp}
use Rattle.pc_base.specs.Bound.{free_from}
use Rattle.pc_base.specs.declared.transaction.TxnId.{TxnId}
use Rattle.pc_base.specs.Keyed.{without}
use Rattle.pc_base.specs.Span.{same_key}
use Rattle.pc_base.specs.Transaction.{same_txn}
use Rattle.pc_base.specs.Versions.{above_newest}
use Rattle.pc_lists.proofs.Same.{same_txn-is}
use Rattle.pc_proto.specs.declared.fate.Fate.{Fate}
use Rattle.pc_proto.specs.declared.fate.Fate.TheVariants as fates
use Rattle.pc_proto.specs.declared.meta.TxnMeta.{TxnMeta}
use Rattle.pc_proto.specs.declared.record.Intent.{Intent}
use Rattle.pc_proto.specs.Intents.{fresh, grown, intent_at, kept_if, last_value, other_at, own_at}
use Rattle.pc_world.specs.Evaluation.IntentChange.{Drop, intents_with}
use Rattle.pc_world.specs.Evaluation.Put.{Stands, Lands, first_outcome, laid, outcome_of_put, overtaken, own_outcome, put_change, write_ts}
use Rattle.pc_world.specs.Evaluation.Resolve.{change_for, is_committed_by, new_versions, version_for}
use Rattle.pc_world.specs.RangeState.{RangeState}

-- what was kept was there, and passes the test
pub kept-from : {A : Type 0} (test : A → Bool) (o : Option A) (x : A) → kept_if test o ≡ Some x → (o ≡ Some x) × (test x ≡ true)
kept-from test None x h = absurd cc
kept-from test (Some y) x h = by (test y) refl h
  where
    by : (b : Bool) → test y ≡ b → (if b then Some y else None) ≡ Some x → (Some y ≡ Some x) × (test x ≡ true)
    by true is kept = (kept, let same : y ≡ x = cc in subst (λ z. test z ≡ true) same is)
    by false is kept = absurd cc

-- a transaction's own intent at a key is the one there, and its own
pub own-there : (id : TxnId) (key : List ℕ) (es : List (List ℕ × Intent)) (i : Intent) → own_at id key es ≡ Some i → (intent_at key es ≡ Some i) × (i.meta.id ≡ id)
own-there id key es i h =
    let kept = kept-from (λ (i : Intent). same_txn i.meta.id id) (intent_at key es) i h in
    (kept.0, same_txn-is i.meta.id id kept.1)

-- The intent is the transaction's own, and lies where the bound and the key's versions leave it.
pub record LandsAt (meta : TxnMeta) (key : List ℕ) (s : RangeState) (i : Intent) : Type 0 where
  pub mine : i.meta.id ≡ meta.id
  pub free : free_from meta.id s.bound ≤ i.ts
  pub above : above_newest key s.versions ≤ i.ts

laid-lands : (meta : TxnMeta) (seq ts : ℕ) (key : List ℕ) (value : Option (List ℕ)) (own : Option Intent) (s : RangeState) → ((i : Intent) → own ≡ Some i → i.meta.id ≡ meta.id) → LandsAt meta key s (laid meta seq (write_ts meta ts key own s) value own)
laid-lands meta seq ts key value None s mine = record { mine = refl; free = omega arith; above = omega arith }
laid-lands meta seq ts key value (Some i) s mine = by (i.meta.epoch == meta.epoch)
  where
    by : (b : Bool) → LandsAt meta key s (if b then grown seq (write_ts meta ts key (Some i) s) value i else fresh meta seq (write_ts meta ts key (Some i) s) value)
    by true = record { mine = mine i refl; free = omega arith; above = omega arith }
    by false = record { mine = refl; free = omega arith; above = omega arith }

-- what is so of the intents, and after each that lands there, is so after a put
pub put-intents : (Q : List (List ℕ × Intent) → Type 0) (meta : TxnMeta) (seq ts : ℕ) (key : List ℕ) (value : Option (List ℕ)) (s : RangeState)
    → ((i : Intent) → LandsAt meta key s i → Q (insert_entry (slice_cmp nat_cmp) s.intents key i)) → Q s.intents → Q (intents_with key (put_change (outcome_of_put meta seq ts key value s)) s.intents)
put-intents Q meta seq ts key value s lays stays = by (other_at meta.id key s.intents) (own_at meta.id key s.intents) (λ i there. (own-there meta.id key s.intents i there).1)
  where
    lands : (b : Bool) (at : ℕ) (i : Intent) → LandsAt meta key s i → Q (intents_with key (put_change (if b then Stands at else Lands i)) s.intents)
    lands true at i is = stays
    lands false at i is = lays i is

    by : (other own : Option Intent) → ((i : Intent) → own ≡ Some i → i.meta.id ≡ meta.id) → Q (intents_with key (put_change (first_outcome other (own_outcome meta seq ts key value own s))) s.intents)
    by (Some i) own mine = stays
    by None own mine = lands (overtaken meta seq own) (option_map_or (λ i. i.ts) own 0) (laid meta seq (write_ts meta ts key own s) value own) (laid-lands meta seq ts key value own s mine)

-- what is so of the intents, without those at the key, and where one there was moved up, is so after a resolve
pub resolve-intents : (Q : List (List ℕ × Intent) → Type 0) (id : TxnId) (key : List ℕ) (fate : Fate) (es : List (List ℕ × Intent)) → Q es → Q (without same_key key es)
    → ((i : Intent) (ts : ℕ) → own_at id key es ≡ Some i → Q (insert_entry (slice_cmp nat_cmp) es key (record i { ts = max i.ts ts }))) → Q (intents_with key (change_for fate (own_at id key es)) es)
resolve-intents Q id key fate es stays drops moves = by fate (own_at id key es) refl
  where
    by : (fate : Fate) (own : Option Intent) → own_at id key es ≡ own → Q (intents_with key (change_for fate own) es)
    by fate None there = stays
    by (fates.Committed epoch ts) (Some i) there = drops
    by fates.Aborted (Some i) there = drops
    by (fates.Pending ts) (Some i) there = moves i ts there

-- A resolve turns the transaction's own intent into a version at or above it.
pub record Turns (id : TxnId) (key : List ℕ) (fate : Fate) (own : Option Intent) : Type 0 where
  pub intent : Intent
  pub there : own ≡ Some intent
  pub ts : ℕ
  pub value : Option (List ℕ)
  pub low : intent.ts ≤ ts
  pub drops : change_for fate own ≡ Drop
  pub made : new_versions id key fate own ≡ record { key = key; ts = ts; id = id; value = value } ∷ []

-- a resolve makes no version, or one of an intent
pub resolve-turns : (id : TxnId) (key : List ℕ) (fate : Fate) (own : Option Intent) → (new_versions id key fate own ≡ []) ⊎ Turns id key fate own
resolve-turns id key fate None = inl refl
resolve-turns id key fates.Aborted (Some i) = inl refl
resolve-turns id key (fates.Pending ts) (Some i) = inl refl
resolve-turns id key (fates.Committed epoch ts) (Some i) = by (is_committed_by epoch ts i) (last_value i) refl refl
  where
    by : (b : Bool) (value : Option (Option (List ℕ))) → is_committed_by epoch ts i ≡ b → last_value i ≡ value → (new_versions id key (fates.Committed epoch ts) (Some i) ≡ []) ⊎ Turns id key (fates.Committed epoch ts) (Some i)
    by false value is last = inl (ap (λ b. if b then version_for id key ts (last_value i) else []) is)
    by true None is last = inl (ap (λ b. if b then version_for id key ts (last_value i) else []) is ∙ ap (version_for id key ts) last)
    by true (Some value) is last = inr (record {
      intent = i;
      there = refl;
      ts = ts;
      value = value;
      low = grind arith;
      drops = refl;
      made = ap (λ b. if b then version_for id key ts (last_value i) else []) is ∙ ap (version_for id key ts) last;
    })
