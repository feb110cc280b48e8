-- What a transaction read stays as it was up to where the read is good: no other's intent lies there, and no other's version between.
use Rattle.std.proofs.Common.{◌≡◌, ℕ, ◌<◌, ◌≤◌, max, true, not, inl, inr, List, [], ◌∷◌, ◌++◌, append_assoc, Contains, Option, None, Some, IsTrue, refl, sym, ap, subst, ◌∙◌, arith}
use Rattle.std.proofs.lemmas.Bool.{and_from, and_parts, cases_lt, not-true}
use Rattle.std.proofs.lemmas.List.Elements.{Contains-append_left, recursion_from_All}
use Rattle.std.specs.List.{AllByRecursion as Each}
use Rattle.pc_base.specs.declared.actor.ActorId.{ActorId}
use Rattle.pc_base.specs.declared.entry.Entry.{Entry}
use Rattle.pc_base.specs.declared.span.Span.{Span}
use Rattle.pc_base.specs.declared.span.Span.TheVariants.{One, Between}
use Rattle.pc_base.specs.declared.transaction.TxnId.{TxnId}
use Rattle.pc_base.specs.declared.version.Version.{Version}
use Rattle.pc_base.specs.Span.{contains, is_before, is_from, key_below, same_key}
use Rattle.pc_implicit.proofs.EvaluatedAt.{answered_at, goes_to}
use Rattle.pc_implicit.proofs.Hearing.{IsSo, heard_is_so}
use Rattle.pc_implicit.proofs.Reading.{refreshes_stand}
use Rattle.pc_implicit.specs.Reads.{HasRead, Refreshes}
use Rattle.pc_lists.proofs.Each.{each-always, each-both, each-contains, each-weaker}
use Rattle.pc_lists.proofs.Same.{same_key-is}
use Rattle.pc_proto.specs.declared.event.Event.{Event}
use Rattle.pc_proto.specs.declared.event.Event.TheVariants as events
use Rattle.pc_proto.specs.declared.record.Intent.{Intent}
use Rattle.pc_proto.specs.declared.reply.Reply.TheVariants as replies
use Rattle.pc_proto.specs.declared.request.Request.TheVariants as requests
use Rattle.pc_serial.proofs.SolePieces.{sole-range}
use Rattle.pc_world.proofs.KeyOrder.{at_most-is, at_most-through, below-through}
use Rattle.pc_world.proofs.Prefixes.{run_front}
use Rattle.pc_world.specs.After.{known_at, state_at}
use Rattle.pc_world.specs.Known.Reads.{AtOnce, Further, IsGoodTo, WasRefreshed, ends_after, holds_span, starts_by}
use Rattle.pc_world.specs.Known.Traffic.{reply_in}
use Rattle.pc_world.specs.Local.{Head}
use Rattle.pc_world.specs.Named.{request_in, request_named}
use Rattle.pc_world.specs.RangeOf.{pieces, range_of}
use Rattle.pc_world.specs.RangeState.{RangeState}
use Rattle.pc_world.specs.Run.{IsRun}

-- ---- a span that holds another

from-held : (from first : Option (List ℕ)) (key : List ℕ) → starts_by from first ≡ true → is_from first key ≡ true → is_from from key ≡ true
from-held None first key h k = refl
from-held (Some one) None key h k = absurd cc
from-held (Some one) (Some other) key h k =
    ap not (at_most-through one other key (not-true (key_below other one) (sym (at_most-is one other) ∙ h)) (not-true (key_below key other) k))

before-held : (to end : Option (List ℕ)) (key : List ℕ) → ends_after to end ≡ true → is_before end key ≡ true → is_before to key ≡ true
before-held None end key h k = refl
before-held (Some one) None key h k = absurd cc
before-held (Some one) (Some other) key h k = below-through key other one k (not-true (key_below one other) (sym (at_most-is other one) ∙ h))

-- a span that holds another has its keys
pub holds-key : (wider span : Span) (key : List ℕ) → holds_span wider span ≡ true → contains span key ≡ true → contains wider key ≡ true
holds-key (One one) (One other) key h k = subst (λ x. same_key key x ≡ true) (sym (same_key-is one other h)) k
holds-key (One one) (Between first end) key h k = absurd cc
holds-key (Between from to) (One other) key h k = subst (λ x. contains (Between from to) x ≡ true) (sym (same_key-is key other k)) h
holds-key (Between from to) (Between first end) key h k =
    let ends = and_parts (starts_by from first) (ends_after to end) h in
    let inside = and_parts (is_from first key) (is_before end key) k in
    and_from (is_from from key) (is_before to key) (from-held from first key ends.0 inside.0) (before-held to end key ends.1 inside.1)

-- ---- refreshes that were heard

-- A refresh that held was evaluated on the range of each of the span's keys.
record IsRefreshed (head : Head) (history : List (Entry Event)) (id : TxnId) (span : Span) (from to : ℕ) : Type 0 where
  range : ℕ
  before : List (Entry Event)
  e : Entry Event
  later : List (Entry Event)
  whole : history ≡ before ++ e ∷ later
  refreshes : Refreshes head before range id span from to e
  sole : pieces head.splits span ≡ (range, span) ∷ []

module _ (head : Head) where
  -- what was heard to be refreshed was
  was-refreshed : (history : List (Entry Event)) → IsRun head history → (actor : ActorId) (id : TxnId) (span : Span) (from to : ℕ) → WasRefreshed id (known_at head actor history).heard span from to → IsRefreshed head history id span from to
  was-refreshed history run actor id span from to w =
      let so = each-contains (IsSo head history actor) (known_at head actor history).heard w.reply (heard_is_so head history run actor) w.listed in
      let a = answered_at head history run actor w.reply.number w.reply.request w.reply.reply so in
      let sends : a.at.send.event ≡ events.Send a.at.number so.range (requests.Refresh id from to span) = a.at.sends ∙ ap (events.Send a.at.number so.range) w.asked in
      record {
        range = so.range;
        before = a.before;
        e = a.e;
        later = a.later;
        whole = a.whole;
        refreshes = record {
          evaluated = a.at.there;
          request = requests.Refresh id from to span;
          asked = ap request_named a.at.named ∙ ap request_in sends;
          reply = replies.Refreshed;
          told = ap reply_in a.at.evaluates ∙ ap Some w.told;
          is = (refl, refl, refl, refl);
        };
        sole = goes_to head history run a.at.send (subst (λ h. Contains h a.at.send) (sym a.whole) (Contains-append_left a.before (a.e ∷ a.later) a.at.send a.at.listed)) a.at.number so.range (requests.Refresh id from to span) sends;
      }

-- ---- how far a read is good

-- At the key no other's intent lies at or below the second timestamp, and no other's version between the two.
pub record IsClearTo (id : TxnId) (key : List ℕ) (ts good : ℕ) (s : RangeState) : Type 0 where
  pub intents : Each (λ e. e.0 ≡ key → e.1.ts ≤ good → e.1.meta.id ≡ id) s.intents
  pub versions : Each (λ v. v.key ≡ key → (v.id ≡ id → ⊥) → ts < v.ts → good < v.ts) s.versions

module _ (id : TxnId) (key : List ℕ) (ts : ℕ) (s : RangeState) where
  at-once : (span : Span) → contains span key ≡ true → HasRead id span ts s → IsClearTo id key ts ts s
  at-once span inside read = record {
    intents =
        each-weaker (λ (e : List ℕ × Intent). IsTrue (contains span e.0) → e.1.ts ≤ ts → e.1.meta.id ≡ id) (λ e. e.0 ≡ key → e.1.ts ≤ ts → e.1.meta.id ≡ id)
        (λ e clear at low. clear (subst (λ k. contains span k ≡ true) (sym at) inside) low) s.intents
        (recursion_from_All (λ (e : List ℕ × Intent). IsTrue (contains span e.0) → e.1.ts ≤ ts → e.1.meta.id ≡ id) s.intents read.clear);
    versions = each-always (λ (v : Version). v.key ≡ key → (v.id ≡ id → ⊥) → ts < v.ts → ts < v.ts) (λ v at other above. above) s.versions;
  }

  further : (good from to : ℕ) (wider : Span) → contains wider key ≡ true → from ≤ good → IsClearTo id key ts good s → HasRead id wider to s
      → Each (λ v. IsTrue (contains wider v.key) → (v.id ≡ id → ⊥) → from < v.ts → to < v.ts) s.versions → IsClearTo id key ts (max good to) s
  further good from to wider inside low clear read between = record {
    intents =
        each-both (λ (e : List ℕ × Intent). e.0 ≡ key → e.1.ts ≤ good → e.1.meta.id ≡ id) (λ e. IsTrue (contains wider e.0) → e.1.ts ≤ to → e.1.meta.id ≡ id) (λ e. e.0 ≡ key → e.1.ts ≤ max good to → e.1.meta.id ≡ id)
        (λ e first then at high. elim (cases_lt good e.1.ts) [
          | inl above ↦ then (subst (λ k. contains wider k ≡ true) (sym at) inside) (omega (arith, above, high))
          | inr under ↦ first at under
        ]) s.intents clear.intents
        (recursion_from_All (λ (e : List ℕ × Intent). IsTrue (contains wider e.0) → e.1.ts ≤ to → e.1.meta.id ≡ id) s.intents read.clear);
    versions =
        each-both (λ (v : Version). v.key ≡ key → (v.id ≡ id → ⊥) → ts < v.ts → good < v.ts) (λ v. IsTrue (contains wider v.key) → (v.id ≡ id → ⊥) → from < v.ts → to < v.ts) (λ v. v.key ≡ key → (v.id ≡ id → ⊥) → ts < v.ts → max good to < v.ts)
        (λ v first then at other above.
        let one : good < v.ts = first at other above in
        let two : to < v.ts = then (subst (λ k. contains wider k ≡ true) (sym at) inside) other (omega (arith, low, one)) in
        omega (arith, one, two)) s.versions clear.versions between;
  }

module _ (head : Head) (history : List (Entry Event)) (run : IsRun head history) (front back : List (Entry Event)) (whole : history ≡ front ++ back) (actor : ActorId) (id : TxnId) (key : List ℕ) where
  goes-further : (ts good from to : ℕ) (wider : Span) → contains wider key ≡ true → from ≤ good → WasRefreshed id (known_at head actor front).heard wider from to → IsClearTo id key ts good (state_at head (range_of head.splits key) history) → IsClearTo id key ts (max good to) (state_at head (range_of head.splits key) history)
  goes-further ts good from to wider inside low refreshed clear =
      let r = was-refreshed head front (run_front head front back (subst (IsRun head) whole run)) actor id wider from to refreshed in
      let there : r.range ≡ range_of head.splits key = sole-range head.splits wider r.range key r.sole inside in
      let joined : history ≡ r.before ++ r.e ∷ (r.later ++ back) = whole ∙ ap (λ h. h ++ back) r.whole ∙ append_assoc r.before (r.e ∷ r.later) back in
      let stand = refreshes_stand head r.range id wider from to r.before r.e (r.later ++ back) (subst (IsRun head) joined run) r.refreshes in
      let now : state_at head r.range (r.before ++ r.e ∷ (r.later ++ back)) ≡ state_at head (range_of head.splits key) history = ap (state_at head r.range) (sym joined) ∙ ap (λ range. state_at head range history) there in
      let between = recursion_from_All (λ (v : Version). IsTrue (contains wider v.key) → (v.id ≡ id → ⊥) → from < v.ts → to < v.ts) (state_at head r.range (r.before ++ r.e ∷ (r.later ++ back))).versions stand.1 in
      further id key ts (state_at head (range_of head.splits key) history) good from to wider inside low clear (subst (HasRead id wider to) now stand.0)
      (subst (λ (s : RangeState). Each (λ v. IsTrue (contains wider v.key) → (v.id ≡ id → ⊥) → from < v.ts → to < v.ts) s.versions) now between)

  -- up to where the read is good, the key is clear
  pub good-is-clear : (span : Span) (ts : ℕ) → contains span key ≡ true → HasRead id span ts (state_at head (range_of head.splits key) history) → (good : ℕ) → IsGoodTo id (known_at head actor front).heard span ts good → IsClearTo id key ts good (state_at head (range_of head.splits key) history)
  good-is-clear span ts inside read good AtOnce = at-once id key ts (state_at head (range_of head.splits key) history) span inside read
  good-is-clear span ts inside read good (Further before wider from to prior refreshed held low) =
      goes-further ts before from to wider (holds-key wider span key held inside) low refreshed (good-is-clear span ts inside read before prior)
