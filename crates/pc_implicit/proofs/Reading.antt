-- A read that found what it asked for, and a refresh that held, at their evaluation and after it.
use Rattle.std.proofs.Common.{◌≡◌, ℕ, ◌<◌, ◌≤◌, Bool, true, false, not, nat_le, if◌then◌else◌, List, [], ◌∷◌, ◌++◌, Option, None, Some, refl, sym, ap, subst, ◌∙◌, inl, inr, All, arith}
use Rattle.std.proofs.lemmas.List.{append_assoc}
use Rattle.std.proofs.lemmas.List.Elements.{All-contains, All-from_recursion, All-weaker}
use Rattle.std.specs.Option.{option_map}
use Rattle.std.specs.Prelude.{IsTrue}
use Rattle.pc_base.specs.declared.actor.ActorId.TheVariants as actors
use Rattle.pc_base.specs.declared.entry.Entry.{Entry}
use Rattle.pc_base.specs.declared.span.Span.{Span}
use Rattle.pc_base.specs.declared.span.Span.TheVariants.{One}
use Rattle.pc_base.specs.declared.transaction.TxnId.{TxnId}
use Rattle.pc_base.specs.declared.version.Version.{Version}
use Rattle.pc_base.specs.Bound.{raised}
use Rattle.pc_base.specs.Span.{contains, key_below}
use Rattle.pc_base.specs.Transaction.{same_txn}
use Rattle.pc_base.specs.Versions.{first_between}
use Rattle.pc_history.specs.History.{MayFollow}
use Rattle.pc_history.specs.Own.{named_in}
use Rattle.pc_implicit.proofs.ClosedBounds.{raised-closed}
use Rattle.pc_implicit.proofs.Evals.{of_entry, range_evaluates}
use Rattle.pc_implicit.proofs.IntentKeys.{differ-found}
use Rattle.pc_implicit.proofs.Lift.{over}
use Rattle.pc_implicit.proofs.ReadSteps.{IsClear, StaysRead, read_goes_on}
use Rattle.pc_implicit.proofs.RisingVersions.{versions_rise}
use Rattle.pc_implicit.proofs.Runs.{reply_is}
use Rattle.pc_implicit.proofs.VersionSearches.{none-between, none-other}
use Rattle.pc_implicit.specs.Versions.{IsRising}
use Rattle.pc_implicit.specs.Reads.{GrowsAbove, HasRead, IsReadOfSpan, IsRefreshOfSpan, RangeEvaluated, Reads, Refreshes}
use Rattle.pc_lists.proofs.Each.{each-weaker}
use Rattle.pc_lists.proofs.Lists.{all_from_contains}
use Rattle.pc_lists.proofs.Same.{same_key-is, same_txn-is}
use Rattle.pc_proto.specs.declared.event.Event.{Event}
use Rattle.pc_proto.specs.declared.record.Intent.{Intent}
use Rattle.pc_proto.specs.declared.reply.Origin.{Origin}
use Rattle.pc_proto.specs.declared.reply.Reply.{Reply}
use Rattle.pc_proto.specs.declared.request.Request.{Request}
use Rattle.pc_proto.specs.declared.request.Request.TheVariants as requests
use Rattle.pc_proto.specs.Intents.{first_other, intent_at, kept_if}
use Rattle.pc_world.proofs.Knowing.{state_same}
use Rattle.pc_world.proofs.Prefixes.{run_front, run_may}
use Rattle.pc_world.specs.After.{state_at}
use Rattle.pc_world.specs.Evaluation.{reply, state_after}
use Rattle.pc_world.specs.Evaluation.Get.{bound_after_read, found_at, get_blocker, get_reply}
use Rattle.pc_world.specs.Evaluation.Refresh.{refresh_reply, refreshed_bound, refuter, refuter_in}
use Rattle.pc_world.specs.Evaluation.Scan.{rows_in, scan_reply}
use Rattle.pc_world.specs.Known.Traffic.{reply_in}
use Rattle.pc_world.specs.Local.{Head}
use Rattle.pc_world.specs.Named.{request_in, request_named}
use Rattle.pc_world.specs.RangeState.{RangeState}
use Rattle.pc_world.specs.Run.{IsRun, protocol}
use Rattle.pc_world.specs.StateOf.{state_with}

-- What an evaluation answers is so of the request and of the reply that the state gives, and the state is then as after the request.
pub record AnsweredSo (head : Head) (before : List (Entry Event)) (range : ℕ) (P : Request → Reply → Type 0) (e : Entry Event) : Type 0 where
  pub request : Request
  pub is : P request (reply request (state_at head range before))
  pub after : state_at head range (before ++ e ∷ []) ≡ state_after request (state_at head range before)

pub answered_so : (head : Head) (before : List (Entry Event)) (range : ℕ) (P : Request → Reply → Type 0) (e : Entry Event) → IsRun head before → MayFollow (protocol head) before e → RangeEvaluated head before range P e → AnsweredSo head before range P e
answered_so head before range P e run may a =
    let what = range_evaluates head before e range may a.evaluated in
    let ev = of_entry head before e what.0 what.1 what.2 run may what.3 in
    let there : ev.range ≡ range = let both = sym ev.there ∙ a.evaluated in cc both in
    let named : request_named (named_in (protocol head) before e.event) ≡ Some ev.request =
    ap request_named (ap (named_in (protocol head) before) what.3 ∙ ev.named) ∙ ap request_in ev.sends in
    let asked : ev.request ≡ a.request = let both = sym named ∙ a.asked in cc both in
    let told : what.2 ≡ a.reply = let both : Some what.2 ≡ Some a.reply = ap reply_in (sym what.3) ∙ a.told in cc both in
    let gives : what.2 ≡ reply ev.request (state_at head ev.range before) = reply_is head before e what.0 what.1 what.2 may what.3 ev in
    let answer : a.reply ≡ reply a.request (state_at head range before) =
    sym told ∙ gives ∙ ap (λ r. reply ev.request (state_at head r before)) there ∙ ap (λ q. reply q (state_at head range before)) asked in
    record {
      request = a.request;
      is = subst (P a.request) answer a.is;
      after = state_same head (actors.Range range) before e a.evaluated ∙ ap (λ o. state_with o (state_at head range before)) a.asked;
    }

module _ (reader : TxnId) (at : ℕ) (i : Intent) where
  -- an intent that does not stand in a read's way is the reader's own or above
  unblocked : kept_if (λ i. nat_le i.ts at) (kept_if (λ i. not (same_txn i.meta.id reader)) (Some i)) ≡ None → i.ts ≤ at → i.meta.id ≡ reader
  unblocked none low = by (same_txn i.meta.id reader) refl none
    where
      blocked : (b : Bool) → nat_le i.ts at ≡ b → (if b then Some i else None) ≡ None → ⊥
      blocked true is none = cc
      blocked false is none = let above : at < i.ts = grind arith in omega (arith, above, low)

      by : (b : Bool) → same_txn i.meta.id reader ≡ b → kept_if (λ i. nat_le i.ts at) (if not b then Some i else None) ≡ None → i.meta.id ≡ reader
      by true is none = same_txn-is i.meta.id reader is
      by false is none = absurd (blocked (nat_le i.ts at) refl none)

carried : (id reader : TxnId) (span piece : Span) (ts at : ℕ) (s : RangeState) → reader ≡ id → span ≡ piece → at ≡ ts → HasRead reader piece at s → HasRead id span ts s
carried id reader span piece ts at s same_id same_span same_ts h =
    subst (λ i. HasRead i span ts s) same_id (subst (λ p. HasRead reader p ts s) (sym same_span) (subst (λ t. HasRead reader piece t s) same_ts h))

module _ (s : RangeState) (rising : IsRising s) where
  get-clear : (reader : TxnId) (at : ℕ) (key : List ℕ) → get_blocker reader at key s ≡ None → All (IsClear reader (One key) at) s.intents
  get-clear reader at key none =
      All-from_recursion (IsClear reader (One key) at) s.intents
      (each-weaker (λ e. e.0 ≡ key → intent_at key s.intents ≡ Some e.1) (IsClear reader (One key) at)
      (λ e found inside low.
      let there : intent_at key s.intents ≡ Some e.1 = found (same_key-is e.0 key inside) in
      unblocked reader at e.1 (ap (λ o. kept_if (λ (i : Intent). nat_le i.ts at) (kept_if (λ (i : Intent). not (same_txn i.meta.id reader)) o)) (sym there) ∙ none) low)
      s.intents (differ-found key s.intents rising.single))

  module _ (id : TxnId) (span : Span) (ts : ℕ) where
    get-read : (reader : TxnId) (epoch seq at : ℕ) (key : List ℕ) (o : Option Intent) → get_blocker reader at key s ≡ o → (found : Origin × Option (List ℕ)) → IsReadOfSpan id span ts (requests.Get reader epoch seq at key) (get_reply o key found)
        → HasRead id span ts (record s { bound = bound_after_read o reader at s.bound })
    get-read reader epoch seq at key None none found h =
        carried id reader span (One key) ts at (record s { bound = raised at (Some reader) s.bound }) h.0 h.1 h.2
        (record { clear = get-clear reader at key none; closed = raised-closed reader at s.bound })
    get-read reader epoch seq at key (Some i) met found h = absurd h

    scan-read : (reader : TxnId) (epoch seq at : ℕ) (piece : Span) (o : Option (List ℕ × Intent)) → first_other piece at reader s.intents ≡ o → (rows : List (List ℕ × Origin × List ℕ)) → IsReadOfSpan id span ts (requests.Scan reader epoch seq at piece) (scan_reply o rows)
        → HasRead id span ts (record s { bound = bound_after_read (option_map (λ e. e.1) o) reader at s.bound })
    scan-read reader epoch seq at piece None none rows h =
        carried id reader span piece ts at (record s { bound = raised at (Some reader) s.bound }) h.0 h.1 h.2
        (record { clear = All-from_recursion (IsClear reader piece at) s.intents (none-other piece at reader s.intents none); closed = raised-closed reader at s.bound })
    scan-read reader epoch seq at piece (Some e) met rows h = absurd h

    read-now : (request : Request) → IsReadOfSpan id span ts request (reply request s) → HasRead id span ts (state_after request s) × ((state_after request s).versions ≡ s.versions)
    read-now (requests.Get reader epoch seq at key) h =
        let r = get-read reader epoch seq at key (get_blocker reader at key s) refl (found_at reader epoch seq at key s) h in
        (record { clear = r.clear; closed = r.closed }, refl)
    read-now (requests.Scan reader epoch seq at piece) h =
        let r = scan-read reader epoch seq at piece (first_other piece at reader s.intents) refl (rows_in reader epoch seq at piece s) h in
        (record { clear = r.clear; closed = r.closed }, refl)
    read-now request h = absurd h

-- where nothing refutes a refresh, neither a version nor an intent does
nothing-refutes : (v : Option Version) (e : Option (List ℕ × Intent)) → refuter v e ≡ None → (v ≡ None) × (e ≡ None)
nothing-refutes None None h = (refl, refl)
nothing-refutes (Some v) None h = absurd cc
nothing-refutes None (Some e) h = absurd cc
nothing-refutes (Some v) (Some e) h = absurd (by (key_below e.0 v.key) (e.0, e.1.ts) (v.key, v.ts) h)
  where
    by : (b : Bool) (one other : List ℕ × ℕ) → (if b then Some one else Some other) ≡ None → ⊥
    by true one other h = cc
    by false one other h = cc

module _ (id : TxnId) (span : Span) (from to : ℕ) where
  -- No version in the span lies above the first timestamp and not above the second.
  abbrev pub IsUnwritten : Version → Type 0
  IsUnwritten v = IsTrue (contains span v.key) → (v.id ≡ id → ⊥) → from < v.ts → to < v.ts

  -- What a refresh that held shows of the range after it.
  pub record IsRefreshed (t : RangeState) : Type 0 where
    pub read : HasRead id span to t
    pub unwritten : All IsUnwritten t.versions

  refreshed-at : (s : RangeState) (reader : TxnId) (at_from at_to : ℕ) (piece : Span) (o : Option (List ℕ × ℕ)) → refuter_in reader at_from at_to piece s ≡ o → IsRefreshOfSpan id span from to (requests.Refresh reader at_from at_to piece) (refresh_reply o)
      → IsRefreshed (record s { bound = refreshed_bound o reader at_to s.bound })
  refreshed-at s reader at_from at_to piece (Some w) met h = absurd h
  refreshed-at s reader at_from at_to piece None none h =
      let nothing = nothing-refutes (first_between piece at_from at_to s.versions) (first_other piece at_to reader s.intents) none in
      let unwritten : All (λ v. IsTrue (contains piece v.key) → at_from < v.ts → at_to < v.ts) s.versions =
      All-from_recursion (λ v. IsTrue (contains piece v.key) → at_from < v.ts → at_to < v.ts) s.versions (none-between piece at_from at_to s.versions nothing.0) in
      record {
        read =
            carried id reader span piece to at_to (record s { bound = raised at_to (Some reader) s.bound }) h.0 h.1 h.3
            (record { clear = All-from_recursion (IsClear reader piece at_to) s.intents (none-other piece at_to reader s.intents nothing.1); closed = raised-closed reader at_to s.bound });
        unwritten =
            All-weaker (λ v. IsTrue (contains piece v.key) → at_from < v.ts → at_to < v.ts) IsUnwritten
            (λ v held inside other low.
            let at_piece : contains piece v.key ≡ true = subst (λ p. contains p v.key ≡ true) h.1 inside in
            let above : at_to < v.ts = held at_piece (let same = h.2 in omega (arith, same, low)) in
            let same = h.3 in omega (arith, same, above))
            s.versions unwritten;
      }

  refreshed-now : (request : Request) (s : RangeState) → IsRefreshOfSpan id span from to request (reply request s) → IsRefreshed (state_after request s)
  refreshed-now (requests.Refresh reader at_from at_to piece) s h =
      let r = refreshed-at s reader at_from at_to piece (refuter_in reader at_from at_to piece s) refl h in
      record { read = record { clear = r.read.clear; closed = r.read.closed }; unwritten = r.unwritten }
  refreshed-now request s h = absurd h

module _ (head : Head) (range : ℕ) (id : TxnId) (span : Span) where
  -- what was read after an entry is read after those that follow it
  reads-on : (ts : ℕ) (before : List (Entry Event)) (e : Entry Event) (later : List (Entry Event)) → HasRead id span ts (state_at head range (before ++ e ∷ []))
      → HasRead id span ts (state_at head range (before ++ e ∷ later)) × GrowsAbove id span ts (state_at head range (before ++ e ∷ [])).versions (state_at head range (before ++ e ∷ later)).versions
  reads-on ts before e later read =
      let now = before ++ e ∷ [] in
      subst (λ h. HasRead id span ts (state_at head range h) × GrowsAbove id span ts (state_at head range now).versions (state_at head range h).versions)
      (append_assoc before (e ∷ []) later) (over (StaysRead id span ts) (read_goes_on id span ts) head range now later read)

  pub reads_stand : (ts : ℕ) (before : List (Entry Event)) (e : Entry Event) (later : List (Entry Event)) → IsRun head (before ++ e ∷ later) → Reads head before range id span ts e
      → HasRead id span ts (state_at head range (before ++ e ∷ later)) × GrowsAbove id span ts (state_at head range before).versions (state_at head range (before ++ e ∷ later)).versions
  reads_stand ts before e later run a =
      let s = state_at head range before in
      let so = answered_so head before range (IsReadOfSpan id span ts) e (run_front head before (e ∷ later) run) (run_may head before e later run) a in
      let now = read-now s (versions_rise head range before) id span ts so.request so.is in
      let here : HasRead id span ts (state_at head range (before ++ e ∷ [])) = subst (HasRead id span ts) (sym so.after) now.0 in
      let on = reads-on ts before e later here in
      let unchanged : (state_at head range (before ++ e ∷ [])).versions ≡ s.versions = ap (λ (t : RangeState). t.versions) so.after ∙ now.1 in
      (on.0, subst (λ vs. GrowsAbove id span ts vs (state_at head range (before ++ e ∷ later)).versions) unchanged on.1)

  pub refreshes_stand : (from to : ℕ) (before : List (Entry Event)) (e : Entry Event) (later : List (Entry Event)) → IsRun head (before ++ e ∷ later) → Refreshes head before range id span from to e
      → HasRead id span to (state_at head range (before ++ e ∷ later)) × All (IsUnwritten id span from to) (state_at head range (before ++ e ∷ later)).versions
  refreshes_stand from to before e later run a =
      let s = state_at head range before in
      let so = answered_so head before range (IsRefreshOfSpan id span from to) e (run_front head before (e ∷ later) run) (run_may head before e later run) a in
      let now : IsRefreshed id span from to (state_at head range (before ++ e ∷ [])) = subst (IsRefreshed id span from to) (sym so.after) (refreshed-now id span from to so.request s so.is) in
      let on = reads-on to before e later now.read in
      let grows = on.1 in (
        on.0,
        all_from_contains (IsUnwritten id span from to) (state_at head range (before ++ e ∷ later)).versions
            (λ v there. elim (grows.above v there) [
              | inl old ↦ All-contains (IsUnwritten id span from to) (state_at head range (before ++ e ∷ [])).versions v now.unwritten old
              | inr new ↦ λ inside other low. new inside other
            ]),
      )
