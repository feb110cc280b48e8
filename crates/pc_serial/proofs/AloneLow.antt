-- A range whose timestamps are all at or below the begin timestamp of one transaction, and that leaves it that timestamp: so it stays over the
-- requests of this transaction, and each reply is as low.
use Rattle.std.proofs.Common.{◌≡◌, ℕ, ◌-◌, ◌≤◌, ◌<◌, Bool, true, false, if◌then◌else◌, List, [], ◌∷◌, ◌⊎◌, inl, inr, Option, None, Some, IfSome, Contains, sym, subst, ◌∙◌, arith}
use Rattle.std.proofs.lemmas.Grind.{common_steps}
use Rattle.std.specs.Cmp.Lexicographic.{slice_cmp}
use Rattle.std.specs.List.{AllByRecursion as Each}
use Rattle.std.specs.Option.{option_map, option_map_or}
use Rattle.std.specs.Ordering.{nat_cmp}
use Rattle.std.specs.Prelude.{⊤}
use Rattle.pc_base.specs.Bound.{ReadBound, free_from, raised}
use Rattle.pc_base.specs.declared.transaction.TxnId.{TxnId}
use Rattle.pc_base.specs.declared.version.Version.{Version}
use Rattle.pc_base.specs.Keyed.{at}
use Rattle.pc_base.specs.Span.{same_key}
use Rattle.pc_base.specs.Versions.{above_newest}
use Rattle.pc_implicit.proofs.OwnKeys.{laid_time, own_is}
use Rattle.pc_implicit.proofs.VersionSteps.{version_cases}
use Rattle.pc_lists.proofs.Each.{each-insert, each-without}
use Rattle.pc_lists.proofs.Lists.{contains_head, contains_tail}
use Rattle.pc_lists.proofs.Same.{same_txn-is, same_txn-self}
use Rattle.pc_proto.specs.declared.fate.Fate.{Fate}
use Rattle.pc_proto.specs.declared.fate.Fate.TheVariants as fates
use Rattle.pc_proto.specs.declared.meta.TxnMeta.{TxnMeta}
use Rattle.pc_proto.specs.declared.record.Intent.{Intent}
use Rattle.pc_proto.specs.declared.request.Request.{Request}
use Rattle.pc_proto.specs.declared.request.Request.TheVariants as requests
use Rattle.pc_proto.specs.Intents.{first_other, other_at, own_at}
use Rattle.pc_proto.specs.Stamps.{fate_stamps, reply_stamps, request_stamps}
use Rattle.pc_serial.proofs.AloneIntents.{own_of_one}
use Rattle.pc_world.proofs.Stamps.Reads.{get-bound, get-within, scan-bound, scan-within}
use Rattle.pc_world.proofs.Stamps.Rows.{record-reply, table-within}
use Rattle.pc_world.proofs.Stamps.Searches.{above-newest-within, other-within, own-within}
use Rattle.pc_world.proofs.Stamps.Within.{AtMost, StateWithin}
use Rattle.pc_world.proofs.Stamps.Writes.{resolve-versions}
use Rattle.pc_world.specs.Evaluation.{reply, state_after, versions_after}
use Rattle.pc_world.specs.Evaluation.Get.{bound_after_read, get_blocker}
use Rattle.pc_world.specs.Evaluation.IntentChange.{IntentChange, Leave, Lay, Drop, intents_with}
use Rattle.pc_world.specs.Evaluation.Put.{PutOutcome, Meets, Stands, Lands, first_outcome, laid, outcome_of_put, overtaken, own_outcome, put_change, put_reply, write_ts}
use Rattle.pc_world.specs.Evaluation.Resolve.{change_for}
use Rattle.pc_world.specs.RangeState.{RangeState}

-- The range is at or below the timestamp, and leaves it to the transaction; each version there is lower, or the transaction's own, which is over
-- then.
pub record IsLow (n : ℕ) (last : TxnId) (Over : Type 0) (s : RangeState) : Type 0 where
  pub within : StateWithin n s
  pub free : free_from last s.bound ≤ n
  pub versions : (v : Version) → Contains s.versions v → (v.ts < n) ⊎ ((v.id ≡ last) × Over)

-- A fate of the transaction that commits is that of one that is over.
abbrev pub SettlesOver : TxnId → Type 0 → TxnId → Fate → Type 0
SettlesOver last Over id (fates.Committed epoch ts) = id ≡ last → Over
SettlesOver last Over id fate = ⊤

-- The request is one that a session alone sends: its timestamps are as low, and it reads at just this one.
abbrev pub IsLowRequest : ℕ → TxnId → Type 0 → RangeState → Request → Type 0
IsLowRequest n last Over s (requests.Get id epoch seq ts key) = (id ≡ last) × (ts ≡ n)
IsLowRequest n last Over s (requests.Scan id epoch seq ts span) = (id ≡ last) × (ts ≡ n)
IsLowRequest n last Over s (requests.Put meta seq ts key value) =
    (meta.id ≡ last) × (ts ≤ n) × ((v : Version) → Contains s.versions v → v.ts < n)
IsLowRequest n last Over s (requests.Refresh id from to span) = ⊥
IsLowRequest n last Over s (requests.Query id epoch seq ts key by) = ⊥
IsLowRequest n last Over s (requests.Resolve id key fate) = AtMost n (fate_stamps fate) × SettlesOver last Over id fate
IsLowRequest n last Over s request = AtMost n (request_stamps request)

-- a read by the transaction at the timestamp leaves it to the transaction
raised-own : (last : TxnId) (n : ℕ) (b : ReadBound) → free_from last b ≤ n → free_from last (raised n (Some last) b) ≤ n
raised-own last n b h = let self = same_txn-self last in grind (arith, common_steps)

read-free : (last : TxnId) (n : ℕ) (blocker : Option Intent) (b : ReadBound) → free_from last b ≤ n → free_from last (bound_after_read blocker last n b) ≤ n
read-free last n None b h = raised-own last n b h
read-free last n (Some i) b h = h

module _ (n : ℕ) where
  -- ---- intents

  abbrev ChangeLow : IntentChange → Type 0
  ChangeLow Leave = ⊤
  ChangeLow (Lay i) = i.ts ≤ n
  ChangeLow Drop = ⊤

  changed : (key : List ℕ) (change : IntentChange) (intents : List (List ℕ × Intent)) → ChangeLow change → Each (λ e. e.1.ts ≤ n) intents → Each (λ e. e.1.ts ≤ n) (intents_with key change intents)
  changed key Leave intents h a = a
  changed key (Lay i) intents h a = each-insert (λ (i : Intent). i.ts ≤ n) (slice_cmp nat_cmp) key i intents h a
  changed key Drop intents h a = each-without (λ (i : Intent). i.ts ≤ n) same_key key intents a

  resolved-low : (fate : Fate) (own : Option Intent) → AtMost n (fate_stamps fate) → IfSome own (λ i. i.ts ≤ n) → ChangeLow (change_for fate own)
  resolved-low fate None h a = tt
  resolved-low (fates.Committed epoch ts) (Some i) h a = tt
  resolved-low fates.Aborted (Some i) h a = tt
  resolved-low (fates.Pending ts) (Some i) h a = let low = h.0 in omega (arith, low, a)

  -- ---- a put

  abbrev OutcomeLow : PutOutcome → Type 0
  OutcomeLow (Meets i) = i.ts ≤ n
  OutcomeLow (Stands ts) = ts ≤ n
  OutcomeLow (Lands i) = i.ts ≤ n

  own-low : (own : Option Intent) → IfSome own (λ i. i.ts ≤ n) → option_map_or (λ i. i.ts) own 0 ≤ n
  own-low None h = omega arith
  own-low (Some i) h = h

  either-low : (b : Bool) (ts : ℕ) (i : Intent) → ts ≤ n → i.ts ≤ n → OutcomeLow (if b then Stands ts else Lands i)
  either-low true ts i h k = h
  either-low false ts i h k = k

  first-low : (other : Option Intent) (outcome : PutOutcome) → IfSome other (λ i. i.ts ≤ n) → OutcomeLow outcome → OutcomeLow (first_outcome other outcome)
  first-low None outcome h k = k
  first-low (Some i) outcome h k = h

  put-change-low : (outcome : PutOutcome) → OutcomeLow outcome → ChangeLow (put_change outcome)
  put-change-low (Meets i) h = tt
  put-change-low (Stands ts) h = tt
  put-change-low (Lands i) h = h

  put-reply-low : (key : List ℕ) (outcome : PutOutcome) → OutcomeLow outcome → AtMost n (reply_stamps (put_reply key outcome))
  put-reply-low key (Meets i) h = (h, tt)
  put-reply-low key (Stands ts) h = (h, tt)
  put-reply-low key (Lands i) h = (h, tt)

  each-of : {X : Type 0} (P : X → Type 0) (xs : List X) → ((x : X) → Contains xs x → P x) → Each P xs
  each-of P [] on = tt
  each-of P (x ∷ xs) on = (on x (contains_head x xs), each-of P xs (λ y there. on y (contains_tail x xs y there)))

  above-low : (key : List ℕ) (versions : List Version) → ((v : Version) → Contains versions v → v.ts < n) → above_newest key versions ≤ n
  above-low key [] low = omega arith
  above-low key (v ∷ vs) low =
      let first : v.ts < n = low v (contains_head v vs) in
      let each : Each (λ (x : Version). x.ts ≤ n - 1) (v ∷ vs) = each-of (λ (x : Version). x.ts ≤ n - 1) (v ∷ vs) (λ x there. let less = low x there in omega (arith, less)) in
      let above = above-newest-within (n - 1) key (v ∷ vs) each in
      omega (arith, above, first)

  module _ (last : TxnId) (Over : Type 0) (s : RangeState) (low : IsLow n last Over s) where
    outcome-low : (meta : TxnMeta) (seq ts : ℕ) (key : List ℕ) (value : Option (List ℕ)) → meta.id ≡ last → ts ≤ n → ((v : Version) → Contains s.versions v → v.ts < n) → OutcomeLow (outcome_of_put meta seq ts key value s)
    outcome-low meta seq ts key value whose at below =
        let own = own_at meta.id key s.intents in
        let own_within = own-within n meta.id key s.intents low.within.intents in
        let stood : option_map_or (λ (i : Intent). i.ts) own 0 ≤ n = own-low own own_within in
        let free : free_from meta.id s.bound ≤ n = subst (λ i. free_from i s.bound ≤ n) (sym whose) low.free in
        let above : above_newest key s.versions ≤ n = above-low key s.versions below in
        let written : write_ts meta ts key own s ≤ n = omega (arith, stood, free, above, at) in
        let lands : (laid meta seq (write_ts meta ts key own s) value own).ts ≤ n = subst (λ t. t ≤ n) (sym (laid_time meta.id key meta seq (write_ts meta ts key own s) value own)) written in
        first-low (other_at meta.id key s.intents) (own_outcome meta seq ts key value own s) (other-within n meta.id key s.intents low.within.intents)
        (either-low (overtaken meta seq own) (option_map_or (λ i. i.ts) own 0) (laid meta seq (write_ts meta ts key own s) value own) stood lands)

    -- what is so of the versions stays so where the request has no commit of another's intent
    versions-low : (request : Request) → IsLowRequest n last Over s request → Each (λ e. e.1.meta.id ≡ last) s.intents → (v : Version) → Contains (versions_after request s) v → (v.ts < n) ⊎ ((v.id ≡ last) × Over)
    versions-low request h a v there = elim (version_cases request s v there) [
      | inl old ↦ low.versions v old
      | inr made ↦
          let mine : v.id ≡ last = by made.i (own-of v.id v.key made.i made.own) (own-is v.id v.key made.i made.own) in
          let settles : IsLowRequest n last Over s (requests.Resolve v.id v.key (fates.Committed made.epoch v.ts)) = subst (IsLowRequest n last Over s) made.asks h in
          inr (mine, settles.1 mine)
    ]
      where
        own-of : (id : TxnId) (key : List ℕ) (i : Intent) → own_at id key s.intents ≡ Some i → i.meta.id ≡ last
        own-of id key i is = own_of_one last id key i s.intents a is

        own-is : (id : TxnId) (key : List ℕ) (i : Intent) → own_at id key s.intents ≡ Some i → i.meta.id ≡ id
        own-is id key i is = same_txn-is i.meta.id id (own_is id (at same_key key s.intents) i is)

        by : (i : Intent) → i.meta.id ≡ last → i.meta.id ≡ v.id → v.id ≡ last
        by i one two = sym two ∙ one

    -- over each request of the session
    pub low_after : (request : Request) → IsLowRequest n last Over s request → Each (λ e. e.1.meta.id ≡ last) s.intents → IsLow n last Over (state_after request s)
    low_after (requests.Get id epoch seq ts key) h a = record {
      within = record {
        bound = get-bound n id ts key s (omega (arith, h.1)) low.within;
        versions = low.within.versions;
        intents = low.within.intents;
        table = low.within.table;
      };
      free =
          subst (λ t. free_from last (bound_after_read (get_blocker id t key s) id t s.bound) ≤ n) (sym h.1)
          (subst (λ i. free_from last (bound_after_read (get_blocker id n key s) i n s.bound) ≤ n) (sym h.0) (read-free last n (get_blocker id n key s) s.bound low.free));
      versions = low.versions;
    }
    low_after (requests.Scan id epoch seq ts span) h a = record {
      within = record {
        bound = scan-bound n id ts span s (omega (arith, h.1)) low.within;
        versions = low.within.versions;
        intents = low.within.intents;
        table = low.within.table;
      };
      free =
          let blocker = option_map (λ (e : List ℕ × Intent). e.1) (first_other span ts id s.intents) in
          subst (λ t. free_from last (bound_after_read blocker id t s.bound) ≤ n) (sym h.1)
          (subst (λ i. free_from last (bound_after_read blocker i n s.bound) ≤ n) (sym h.0) (read-free last n blocker s.bound low.free));
      versions = low.versions;
    }
    low_after (requests.Put meta seq ts key value) h a = record {
      within = record {
        bound = low.within.bound;
        versions = low.within.versions;
        intents = changed key (put_change (outcome_of_put meta seq ts key value s)) s.intents (put-change-low (outcome_of_put meta seq ts key value s) (outcome-low meta seq ts key value h.0 h.1 h.2)) low.within.intents;
        table = low.within.table;
      };
      free = low.free;
      versions = low.versions;
    }
    low_after (requests.Refresh id from to span) h a = absurd h
    low_after (requests.Query id epoch seq ts key by) h a = absurd h
    low_after (requests.Resolve id key fate) h a = record {
      within = record {
        bound = low.within.bound;
        versions = resolve-versions n id key fate s h.0 low.within;
        intents = changed key (change_for fate (own_at id key s.intents)) s.intents (resolved-low fate (own_at id key s.intents) h.0 (own-within n id key s.intents low.within.intents)) low.within.intents;
        table = low.within.table;
      };
      free = low.free;
      versions = versions-low (requests.Resolve id key fate) h a;
    }
    low_after request h a = record {
      within = record {
        bound = low.within.bound;
        versions = low.within.versions;
        intents = low.within.intents;
        table = table-within n request s.table h low.within.table;
      };
      free = low.free;
      versions = low.versions;
    }

    -- and so is each reply
    pub low_reply : (request : Request) → IsLowRequest n last Over s request → AtMost n (reply_stamps (reply request s))
    low_reply (requests.Get id epoch seq ts key) h = get-within n id epoch seq ts key s low.within
    low_reply (requests.Scan id epoch seq ts span) h = scan-within n id epoch seq ts span s low.within
    low_reply (requests.Put meta seq ts key value) h = put-reply-low key (outcome_of_put meta seq ts key value s) (outcome-low meta seq ts key value h.0 h.1 h.2)
    low_reply (requests.Refresh id from to span) h = absurd h
    low_reply (requests.Query id epoch seq ts key by) h = absurd h
    low_reply (requests.Resolve id key fate) h = tt
    low_reply request h = record-reply n request s.table h low.within.table
