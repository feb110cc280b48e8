-- What a read of a committed transaction finds is what was written before it in the commit order, or by itself.
use Rattle.std.proofs.Common.{◌≡◌, ℕ, true, ◌<◌, ◌≤◌, inl, inr, List, [], ◌∷◌, ◌++◌, append_assoc, flat_map, Option, None, Some, Contains, refl, sym, ap, subst, ◌∙◌, arith}
use Rattle.std.proofs.lemmas.List.Elements.{Contains-append_left, Contains-append_right}
use Rattle.pc_base.specs.declared.entry.Entry.{Entry}
use Rattle.pc_base.specs.declared.span.Span.{Span}
use Rattle.pc_base.specs.declared.transaction.TxnId.{TxnId}
use Rattle.pc_base.specs.declared.version.Version.{Version}
use Rattle.pc_base.specs.Span.{contains}
use Rattle.pc_base.specs.Versions.{visible}
use Rattle.pc_implicit.proofs.Begins.{committed_was_begun}
use Rattle.pc_implicit.proofs.Deciders.{decided_by}
use Rattle.pc_implicit.proofs.Fronts.{front_same}
use Rattle.pc_implicit.proofs.IntentKeys.{each-found}
use Rattle.pc_implicit.proofs.LaidIntents.{own-there}
use Rattle.pc_implicit.proofs.RisingVersions.{versions_rise}
use Rattle.pc_implicit.proofs.SessionReads.{HadDone, WasProved, last_seq_done}
use Rattle.pc_implicit.proofs.Settled.{writes_of_committed}
use Rattle.pc_implicit.proofs.SettledVersions.{versions_are_committed}
use Rattle.pc_implicit.specs.Decided.{decision}
use Rattle.pc_implicit.specs.Reads.{GrowsAbove}
use Rattle.pc_implicit.specs.Writes.{IsWholeBy, home_of, own_intent, txns_of, writes_on}
use Rattle.pc_lists.proofs.Each.{each-contains}
use Rattle.pc_lists.proofs.Lists.{contains_head}
use Rattle.pc_proto.specs.declared.event.Event.{Event}
use Rattle.pc_proto.specs.declared.record.Intent.{Intent}
use Rattle.pc_serial.proofs.GoodReads.{IsClearTo}
use Rattle.pc_serial.proofs.Laid.{RisesFrom, laid, laid-append, laid-last, last-laid, rises-front}
use Rattle.pc_serial.proofs.Order.{PointsDiffer}
use Rattle.pc_serial.proofs.OwnDone.{done-rises, laid-is, own-says, own-silent}
use Rattle.pc_serial.proofs.Ranks.{all-committed, before-low, point-earlier, point-later, stands-there}
use Rattle.pc_serial.proofs.SeenWrites.{AreInOrder, IsOfBefore, IsSeen, visible-written}
use Rattle.pc_serial.proofs.Undecided.{no-home}
use Rattle.pc_serial.proofs.Written.{LastWrite, last-write, written, written-by-last, written-left}
use Rattle.pc_world.proofs.Prefixes.{run_front}
use Rattle.pc_world.specs.After.{state_at}
use Rattle.pc_world.specs.Committed.{IsCommitted, commit_ts}
use Rattle.pc_world.specs.Evaluation.Get.{found_at, found_first, version_found}
use Rattle.pc_world.specs.Known.Transactions.{Txn}
use Rattle.pc_world.specs.Legal.{committed_in_order}
use Rattle.pc_world.specs.Local.{Head}
use Rattle.pc_world.specs.Operations.{Operation, Write, operations_of}
use Rattle.pc_world.specs.RangeOf.{range_of}
use Rattle.pc_world.specs.Run.{IsRun}

-- A transaction of the session, as it is known.
record IsKnown (head : Head) (history : List (Entry Event)) (id : TxnId) : Type 0 where
  t : Txn
  mine : Contains (txns_of head id history) t
  named : t.id ≡ id

module _ (head : Head) (history : List (Entry Event)) (run : IsRun head history) (differ : PointsDiffer head history) where
  -- a committed transaction is known to its session
  is-known : (id : TxnId) (ts : ℕ) → IsCommitted head history id ts → IsKnown head history id
  is-known id ts is =
      let d = decided_by head history run id ts is in
      let still = d.still d.later (front_same d.later) in
      let mine : Contains (txns_of head d.t.id history) still.now = subst (λ h. Contains (txns_of head d.t.id h) still.now) (sym d.whole) still.mine in
      record { t = still.now; mine = subst (λ i. Contains (txns_of head i history) still.now) d.named mine; named = still.named ∙ d.named }

  once : (id : TxnId) (one other : ℕ) → IsCommitted head history id one → IsCommitted head history id other → one ≡ other
  once id one other is also = let both : ◌≡◌ {A = Option ℕ} (Some one) (Some other) = sym is ∙ also in cc both

  -- A read of a transaction that is committed, and what it rests on.
  pub record IsReadOf (id : TxnId) (before later : List TxnId) (done : List Operation) (epoch seq ts : ℕ) (span : Span) (key : List ℕ) (front : List (Entry Event)) : Type 0 where
    pub stands : committed_in_order head history ≡ before ++ id ∷ later
    pub rest : List Operation
    pub did : operations_of history id ≡ done ++ rest
    pub at : ℕ
    pub committed : IsCommitted head history id at
    pub back : List (Entry Event)
    pub whole : history ≡ front ++ back
    pub inside : contains span key ≡ true
    pub last : seq ≡ last_seq_done done
    pub proved : (own : ℕ) (value : Option (List ℕ)) → Contains done (Write key own value) → (at : ℕ) × WasProved head front id epoch own key at
    pub had : HadDone head front id epoch done
    pub uncommitted : commit_ts head front id ≡ None
    pub good : ℕ
    pub clear : IsClearTo id key ts good (state_at head (range_of head.splits key) history)
    pub reaches : at ≤ good
    pub low : ts ≤ at
    pub grows : GrowsAbove id span ts (state_at head (range_of head.splits key) front).versions (state_at head (range_of head.splits key) history).versions

  module _ (id : TxnId) (before later : List TxnId) (done : List Operation) (epoch seq ts : ℕ) (span : Span) (key : List ℕ) (front : List (Entry Event)) (r : IsReadOf id before later done epoch seq ts span key front) where
    run-front : IsRun head front
    run-front = run_front head front r.back (subst (IsRun head) r.whole run)

    undecided : decision (home_of head id front) ≡ None
    undecided = no-home head id history run front r.back r.whole r.at r.committed r.uncommitted

    in-order : AreInOrder (operations_of history) (IsCommitted head history) key ts before (state_at head (range_of head.splits key) front).versions
    in-order first other back earlier at low whole there is also =
        (before-low head history differ first other (back ++ id ∷ later) (r.stands ∙ ap (λ xs. xs ++ id ∷ later) whole ∙ append_assoc first (other ∷ back) (id ∷ later)) earlier at low there is also).0

    -- a version that the read may see is of a transaction before
    of-before : (v : Version) → Contains (state_at head (range_of head.splits key) front).versions v → v.key ≡ key → v.ts ≤ ts
        → IsOfBefore (operations_of history) (IsCommitted head history) key ts before (state_at head (range_of head.splits key) front).versions v
    of-before v there of_key seen =
        let still : Contains (state_at head (range_of head.splits key) history).versions v =
        r.grows.kept v there in
        let early = versions_are_committed head front (range_of head.splits key) v run-front there in
        let now = versions_are_committed head history (range_of head.splits key) v run still in
        let low = r.low in
        let is_last : laid key (operations_of history v.id) ≡ now.front ++ (now.seq, v.value) ∷ [] =
        laid-is head history run v.id now.t now.known now.whose key ∙ subst (λ k. writes_on k now.t.writes ≡ now.front ++ (now.seq, v.value) ∷ []) of_key now.last in
        let last = last-laid key (operations_of history v.id) now.front now.seq v.value is_last in
        let first = point-earlier head history run front r.back v.id v.ts r.whole early.committed now.committed in
        let second = point-later head history run front r.back id r.at r.whole r.uncommitted r.committed in
        record {
          there = stands-there head history differ before id later r.stands v.id r.at v.ts (committed_was_begun head history run v.id v.ts now.committed) r.committed now.committed (omega (arith, seen, low)) (omega (arith, first, second));
          at = now.committed;
          last = last.0;
          value = last.1;
        }

    -- a version that stands at the end, of one that stands before, was seen
    was-seen : (other : TxnId) (at : ℕ) (value : Option (List ℕ)) → (other ≡ id → ⊥) → at ≤ r.at → IsCommitted head history other at → (v : Version) → v ≡ record { key = key; ts = at; id = other; value = value }
        → Contains (state_at head (range_of head.splits key) history).versions v → IsSeen (operations_of history) (IsCommitted head history) key ts before (state_at head (range_of head.splits key) front).versions other value
    was-seen other at value apart early is v made there =
        let of_key : v.key ≡ key = ap (λ (v : Version). v.key) made in
        let whose : v.id ≡ other = ap (λ (v : Version). v.id) made in
        let ts_is : v.ts ≡ at = ap (λ (v : Version). v.ts) made in
        let reaches = r.reaches in
        let differs : v.id ≡ id → ⊥ = λ same. apart (sym whose ∙ same) in
        let not_above : ts < v.ts → ⊥ = λ above.
        let high : r.good < v.ts = each-contains (λ (v : Version). v.key ≡ key → (v.id ≡ id → ⊥) → ts < v.ts → r.good < v.ts) (state_at head (range_of head.splits key) history).versions v r.clear.versions there of_key differs above in
        omega (arith, high, ts_is, early, reaches) in
        elim (r.grows.above v there) [
          | inl old ↦ record {
            v = v;
            there = old;
            of_key = of_key;
            low = omega (arith, not_above);
            at = subst (IsCommitted head history other) (sym ts_is) is;
            value_is = ap (λ (v : Version). v.value) made;
          }
          | inr new ↦ absurd (not_above (new (subst (λ k. contains span k ≡ true) (sym of_key) r.inside) differs))
        ]

    -- no intent of another is left
    none-left : (other : TxnId) (at : ℕ) (t : Txn) → t.id ≡ other → (other ≡ id → ⊥) → at ≤ r.at → (i : Intent) → own_intent head t.id key history ≡ Some i → IsWholeBy t key at i → ⊥
    none-left other at t named apart early i own whole =
        let here = own-there t.id key (state_at head (range_of head.splits key) history).intents i own in
        let low = whole.low in
        let reaches = r.reaches in
        let mine : i.meta.id ≡ id =
        each-found (λ (e : List ℕ × Intent). e.0 ≡ key → e.1.ts ≤ r.good → e.1.meta.id ≡ id) key i (state_at head (range_of head.splits key) history).intents here.0 r.clear.intents refl (omega (arith, low, early, reaches)) in
        apart (sym named ∙ sym here.1 ∙ mine)

    -- what one that stands before wrote of the key last was seen
    seen-before : (other : TxnId) → Contains before other → (last : LastWrite key (operations_of history other))
        → IsSeen (operations_of history) (IsCommitted head history) key ts before (state_at head (range_of head.splits key) front).versions other last.value
    seen-before other there last =
        let c = all-committed head history differ other (subst (λ xs. Contains xs other) (sym r.stands) (Contains-append_left before (id ∷ later) other there)) in
        let order = before-low head history differ before id later r.stands other r.at c.0 there r.committed c.1 in
        let k = is-known other c.0 c.1 in
        let ends : writes_on key k.t.writes ≡ laid key last.front ++ (last.seq, last.value) ∷ [] =
        sym (laid-is head history run other k.t k.mine k.named key) ∙ laid-last key (operations_of history other) last in
        let stands = writes_of_committed head history k.t c.0 key (laid key last.front) last.seq last.value run (subst (λ i. Contains (txns_of head i history) k.t) (sym k.named) k.mine)
        (subst (λ i. IsCommitted head history i c.0) (sym k.named) c.1) ends in
        elim stands [
          | inl version ↦
              was-seen other c.0 last.value order.1 order.0 c.1 (record { key = key; ts = c.0; id = k.t.id; value = last.value }) (ap (λ i. record { key = key; ts = c.0; id = i; value = last.value }) k.named) version
          | inr intent ↦ absurd (none-left other c.0 k.t k.named order.1 order.0 intent.0 intent.1 intent.2)
        ]

    visible-before : (version_found (visible key ts (state_at head (range_of head.splits key) front).versions)).1 ≡ written key (flat_map (operations_of history) before)
    visible-before =
        visible-written (operations_of history) (IsCommitted head history) key ts before (state_at head (range_of head.splits key) front).versions (versions_rise head (range_of head.splits key) front).rising once in-order of-before seen-before

    done-rise : RisesFrom 0 (laid key done)
    done-rise =
        let k = is-known id r.at r.committed in
        rises-front 0 (laid key done) (laid key r.rest) (subst (RisesFrom 0) (ap (laid key) r.did ∙ laid-append key done r.rest) (done-rises head history run id k.t k.mine k.named key))

    -- the read finds what was written last
    pub found-is-written : (found_at id epoch seq ts key (state_at head (range_of head.splits key) front)).1 ≡ written key (flat_map (operations_of history) before ++ done)
    found-is-written =
        let s = state_at head (range_of head.splits key) front in
        elim (last-write key done) [
          | inl last ↦
              let there : Contains done (Write key last.seq last.value) =
              subst (λ xs. Contains xs (Write key last.seq last.value)) (sym last.whole) (Contains-append_right last.front (Write key last.seq last.value ∷ last.back) (Write key last.seq last.value) (contains_head (Write key last.seq last.value) last.back)) in
              let p = r.proved last.seq last.value there in
              ap (λ o. (found_first o (visible key ts s.versions)).1)
              (own-says head front run-front id epoch done r.had undecided key seq last r.last done-rise p.0 p.1)
              ∙ sym (written-by-last key (flat_map (operations_of history) before) done last)
          | inr leaves ↦
              ap (λ o. (found_first o (visible key ts s.versions)).1) (own-silent head front run-front id epoch done r.had undecided key seq leaves)
              ∙ visible-before
              ∙ sym (written-left key (flat_map (operations_of history) before) done leaves)
        ]
