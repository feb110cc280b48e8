-- A put and a resolve raise the timestamps of versions and intents by at most one.
use Rattle.std.proofs.Common.{ℕ, ◌+◌, ◌≤◌, Bool, true, false, ◌==◌, if◌then◌else◌, List, [], ◌∷◌, fold, Option, None, Some, IfSome, arith}
use Rattle.std.specs.Cmp.Lexicographic.{slice_cmp}
use Rattle.std.specs.List.{AllByRecursion as Each}
use Rattle.std.specs.Option.{option_map_or}
use Rattle.std.specs.Ordering.{nat_cmp}
use Rattle.pc_base.proofs.VersionOrder.{each_with_version}
use Rattle.pc_base.specs.Bound.{ReadBound, least_write, owns}
use Rattle.pc_base.specs.declared.transaction.TxnId.{TxnId}
use Rattle.pc_base.specs.declared.version.Version.{Version}
use Rattle.pc_base.specs.Span.{same_key}
use Rattle.pc_base.specs.Versions.{with_version}
use Rattle.pc_lists.proofs.Each.{each-insert, each-weaker, each-without}
use Rattle.pc_proto.specs.declared.fate.Fate.{Fate}
use Rattle.pc_proto.specs.declared.fate.Fate.TheVariants as fates
use Rattle.pc_proto.specs.declared.meta.TxnMeta.{TxnMeta}
use Rattle.pc_proto.specs.declared.record.Intent.{Intent}
use Rattle.pc_proto.specs.Intents.{fresh, grown, last_value, other_at, own_at}
use Rattle.pc_proto.specs.Stamps.{fate_stamps, reply_stamps}
use Rattle.pc_world.proofs.Stamps.Searches.{above-newest-within, other-within, own-within}
use Rattle.pc_world.proofs.Stamps.Within.{AtMost, StateWithin}
use Rattle.pc_world.specs.Evaluation.IntentChange.{IntentChange, Drop, Lay, Leave, intents_with}
use Rattle.pc_world.specs.Evaluation.Put.{PutOutcome, Lands, Meets, Stands, first_outcome, laid, outcome_of_put, overtaken, own_outcome, put_change, put_reply, write_ts}
use Rattle.pc_world.specs.Evaluation.Resolve.{change_for, is_committed_by, new_versions, resolve_change, settled, version_for, versions_after_resolve, versions_of}
use Rattle.pc_world.specs.RangeState.{RangeState}

abbrev pub ChangeAtMost : ℕ → IntentChange → Type 0
ChangeAtMost n Leave = Unit {0}
ChangeAtMost n (Lay i) = i.ts ≤ n
ChangeAtMost n Drop = Unit {0}

pub intents-after : (n : ℕ) (key : List ℕ) (change : IntentChange) (intents : List (List ℕ × Intent)) → ChangeAtMost (n + 1) change → Each (λ e. e.1.ts ≤ n) intents → Each (λ e. e.1.ts ≤ n + 1) (intents_with key change intents)
intents-after n key change intents h a =
    let more : Each (λ e. e.1.ts ≤ n + 1) intents = each-weaker (λ e. e.1.ts ≤ n) (λ e. e.1.ts ≤ n + 1) (λ e k. omega arith) intents a in
    by change h more
  where
    by : (change : IntentChange) → ChangeAtMost (n + 1) change → Each (λ e. e.1.ts ≤ n + 1) intents → Each (λ e. e.1.ts ≤ n + 1) (intents_with key change intents)
    by Leave h more = more
    by (Lay i) h more = each-insert (λ i. i.ts ≤ n + 1) (slice_cmp nat_cmp) key i intents h more
    by Drop h more = each-without (λ i. i.ts ≤ n + 1) same_key key intents more

free : (owner : Bool) (n ts : ℕ) → ts ≤ n → (if owner then ts else ts + 1) ≤ n + 1
free true n ts h = omega arith
free false n ts h = omega arith

pub least-write : (n : ℕ) (bound : ReadBound) (ts : ℕ) (id : TxnId) → bound.ts ≤ n → ts ≤ n → least_write bound ts id ≤ n + 1
least-write n bound ts id h k = omega (arith, free (owns id bound) n bound.ts h)

own-ts : (n : ℕ) (own : Option Intent) → IfSome own (λ i. i.ts ≤ n) → option_map_or (λ i. i.ts) own 0 ≤ n
own-ts n None h = omega arith
own-ts n (Some i) h = h

pub write-ts : (n : ℕ) (meta : TxnMeta) (ts : ℕ) (key : List ℕ) (own : Option Intent) (s : RangeState) → ts ≤ n → StateWithin n s → IfSome own (λ i. i.ts ≤ n) → write_ts meta ts key own s ≤ n + 1
write-ts n meta ts key own s h a k =
    omega (arith, least-write n s.bound ts meta.id a.bound h, above-newest-within n key s.versions a.versions, own-ts n own k)

either-laid : (same : Bool) (n seq ts : ℕ) (meta : TxnMeta) (value : Option (List ℕ)) (i : Intent) → ts ≤ n → (if same then grown seq ts value i else fresh meta seq ts value).ts ≤ n
either-laid true n seq ts meta value i h = h
either-laid false n seq ts meta value i h = h

laid-ts : (n : ℕ) (meta : TxnMeta) (seq ts : ℕ) (value : Option (List ℕ)) (own : Option Intent) → ts ≤ n → (laid meta seq ts value own).ts ≤ n
laid-ts n meta seq ts value None h = h
laid-ts n meta seq ts value (Some i) h = either-laid (i.meta.epoch == meta.epoch) n seq ts meta value i h

abbrev OutcomeAtMost : ℕ → PutOutcome → Type 0
OutcomeAtMost n (Meets i) = i.ts ≤ n
OutcomeAtMost n (Stands ts) = ts ≤ n
OutcomeAtMost n (Lands i) = i.ts ≤ n

either-outcome : (b : Bool) (n ts : ℕ) (i : Intent) → ts ≤ n → i.ts ≤ n → OutcomeAtMost n (if b then Stands ts else Lands i)
either-outcome true n ts i h k = h
either-outcome false n ts i h k = k

first-outcome : (n : ℕ) (other : Option Intent) (outcome : PutOutcome) → IfSome other (λ i. i.ts ≤ n) → OutcomeAtMost (n + 1) outcome → OutcomeAtMost (n + 1) (first_outcome other outcome)
first-outcome n None outcome h k = k
first-outcome n (Some i) outcome h k = omega arith

outcome : (n : ℕ) (meta : TxnMeta) (seq ts : ℕ) (key : List ℕ) (value : Option (List ℕ)) (s : RangeState) → ts ≤ n → StateWithin n s → OutcomeAtMost (n + 1) (outcome_of_put meta seq ts key value s)
outcome n meta seq ts key value s h a =
    let own = own_at meta.id key s.intents in
    let own_within = own-within n meta.id key s.intents a.intents in
    let at = write_ts meta ts key own s in
    let stood = own-ts n own own_within in
    let lands = laid-ts (n + 1) meta seq at value own (write-ts n meta ts key own s h a own_within) in
    first-outcome n (other_at meta.id key s.intents) (own_outcome meta seq ts key value own s) (other-within n meta.id key s.intents a.intents)
    (either-outcome (overtaken meta seq own) (n + 1) (option_map_or (λ i. i.ts) own 0) (laid meta seq at value own) (omega arith) lands)

change-of : (n : ℕ) (outcome : PutOutcome) → OutcomeAtMost n outcome → ChangeAtMost n (put_change outcome)
change-of n (Meets i) h = tt
change-of n (Stands ts) h = tt
change-of n (Lands i) h = h

reply-of : (n : ℕ) (key : List ℕ) (outcome : PutOutcome) → OutcomeAtMost n outcome → AtMost n (reply_stamps (put_reply key outcome))
reply-of n key (Meets i) h = (h, tt)
reply-of n key (Stands ts) h = (h, tt)
reply-of n key (Lands i) h = (h, tt)

pub put-intents : (n : ℕ) (meta : TxnMeta) (seq ts : ℕ) (key : List ℕ) (value : Option (List ℕ)) (s : RangeState) → ts ≤ n → StateWithin n s → Each (λ e. e.1.ts ≤ n + 1) (intents_with key (put_change (outcome_of_put meta seq ts key value s)) s.intents)
put-intents n meta seq ts key value s h a =
    let put = outcome_of_put meta seq ts key value s in
    intents-after n key (put_change put) s.intents (change-of (n + 1) put (outcome n meta seq ts key value s h a)) a.intents

pub put-reply : (n : ℕ) (meta : TxnMeta) (seq ts : ℕ) (key : List ℕ) (value : Option (List ℕ)) (s : RangeState) → ts ≤ n → StateWithin n s → AtMost (n + 1) (reply_stamps (put_reply key (outcome_of_put meta seq ts key value s)))
put-reply n meta seq ts key value s h a = reply-of (n + 1) key (outcome_of_put meta seq ts key value s) (outcome n meta seq ts key value s h a)

settled-ts : (n : ℕ) (fate : Fate) (i : Intent) → AtMost n (fate_stamps fate) → i.ts ≤ n → ChangeAtMost n (settled fate i)
settled-ts n (fates.Committed epoch ts) i h k = tt
settled-ts n fates.Aborted i h k = tt
settled-ts n (fates.Pending ts) i h k = omega (arith, h.0)

change-more : (n : ℕ) (change : IntentChange) → ChangeAtMost n change → ChangeAtMost (n + 1) change
change-more n Leave h = tt
change-more n (Lay i) h = omega arith
change-more n Drop h = tt

change-for : (n : ℕ) (fate : Fate) (own : Option Intent) → AtMost n (fate_stamps fate) → IfSome own (λ i. i.ts ≤ n) → ChangeAtMost (n + 1) (change_for fate own)
change-for n fate None h k = tt
change-for n fate (Some i) h k = change-more n (settled fate i) (settled-ts n fate i h k)

pub resolve-intents : (n : ℕ) (id : TxnId) (key : List ℕ) (fate : Fate) (s : RangeState) → AtMost n (fate_stamps fate) → StateWithin n s → Each (λ e. e.1.ts ≤ n + 1) (intents_with key (resolve_change id key fate s) s.intents)
resolve-intents n id key fate s h a =
    let own = own_at id key s.intents in
    intents-after n key (change_for fate own) s.intents (change-for n fate own h (own-within n id key s.intents a.intents)) a.intents

version-ts : (n : ℕ) (id : TxnId) (key : List ℕ) (ts : ℕ) (value : Option (Option (List ℕ))) → ts ≤ n → Each (λ v. v.ts ≤ n) (version_for id key ts value)
version-ts n id key ts None h = tt
version-ts n id key ts (Some value) h = (h, tt)

when : {X : Type 0} (P : X → Type 0) (b : Bool) (xs : List X) → Each P xs → Each P (if b then xs else [])
when P true xs h = h
when P false xs h = tt

versions-of : (n : ℕ) (id : TxnId) (key : List ℕ) (fate : Fate) (i : Intent) → AtMost n (fate_stamps fate) → Each (λ v. v.ts ≤ n) (versions_of id key fate i)
versions-of n id key (fates.Committed epoch ts) i h = when (λ (v : Version). v.ts ≤ n) (is_committed_by epoch ts i) (version_for id key ts (last_value i)) (version-ts n id key ts (last_value i) h.0)
versions-of n id key fates.Aborted i h = tt
versions-of n id key (fates.Pending ts) i h = tt

versions-new : (n : ℕ) (id : TxnId) (key : List ℕ) (fate : Fate) (own : Option Intent) → AtMost n (fate_stamps fate) → Each (λ v. v.ts ≤ n) (new_versions id key fate own)
versions-new n id key fate None h = tt
versions-new n id key fate (Some i) h = versions-of n id key fate i h

all-kept : (n : ℕ) (versions more : List Version) → Each (λ v. v.ts ≤ n) versions → Each (λ v. v.ts ≤ n) more → Each (λ v. v.ts ≤ n) (fold with_version versions more)
all-kept n versions [] a b = a
all-kept n versions (v ∷ vs) a b = all-kept n (with_version versions v) vs (each_with_version (λ v. v.ts ≤ n) versions v b.0 a) b.1

pub resolve-versions : (n : ℕ) (id : TxnId) (key : List ℕ) (fate : Fate) (s : RangeState) → AtMost n (fate_stamps fate) → StateWithin n s → Each (λ v. v.ts ≤ n) (versions_after_resolve id key fate s)
resolve-versions n id key fate s h a =
    let own = own_at id key s.intents in
    all-kept n s.versions (new_versions id key fate own) a.versions (versions-new n id key fate own h)
