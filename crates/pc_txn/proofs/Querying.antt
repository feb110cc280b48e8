-- A query of a write of the open transaction that is in flight found it, or missed it.
use Rattle.std.proofs.Common.{◌≡◌, ◌≢◌, ℕ, ◌+◌, ◌<◌, ◌≤◌, max, nat_lt, Bool, true, false, cond, ◌&&◌, ◌==◌, inl, inr, ◌⊎◌, List, [], ◌∷◌, ◌++◌, map, filter, Option, Some, refl, sym, ap, ◌∙◌, subst, arith, All, Any, Contains, IsTrue}
use Rattle.std.proofs.lemmas.Bool.{and_parts, eq-eqb, eqb-true, ltb-false, ltb-true}
use Rattle.std.proofs.lemmas.List.{append-nil}
use Rattle.std.proofs.lemmas.List.Elements.{All-contains, All-cons, All-nil, All-push, All-weaker}
use Rattle.pc_base.specs.declared.transaction.Who.{Who}
use Rattle.pc_base.specs.Transaction.{same_txn}
use Rattle.pc_flight.proofs.Holding.{flights_hold, heard_stands}
use Rattle.pc_flight.specs.declared.write.WriteInFlight.{WriteInFlight}
use Rattle.pc_flight.specs.InFlight.{FlightStands, is_another}
use Rattle.pc_flight.specs.Laws.{IsKnownUnproved}
use Rattle.pc_follows.specs.Heartbeats.{last_shown}
use Rattle.pc_lists.proofs.Anywhere.{any_last}
use Rattle.pc_lists.proofs.Lists.{all_from_contains}
use Rattle.pc_lists.proofs.Same.{same_txn-self}
use Rattle.pc_proto.specs.declared.reply.Reply.{Reply}
use Rattle.pc_proto.specs.declared.reply.Reply.TheVariants as replies
use Rattle.pc_proto.specs.declared.request.Request.{Request}
use Rattle.pc_proto.specs.declared.request.Request.TheVariants as requests
use Rattle.pc_proto.specs.Requests.{is_about, is_put_of}
use Rattle.pc_reads.proofs.Goods.{stand_on}
use Rattle.pc_reads.specs.ReadsStanding.{TxnReadsStand}
use Rattle.pc_staging.proofs.Going.{proves_one, staging_on}
use Rattle.pc_staging.proofs.Hears.{missing_heard, refutes_at}
use Rattle.pc_staging.specs.Hearing.{HearsMissing}
use Rattle.pc_staging.specs.Kept.{refuted_at, with_stages}
use Rattle.pc_staging.specs.Laws.{LeavesStages, SendsNothingNew}
use Rattle.pc_staging.specs.Standing.{StagingStands, WasStageSent}
use Rattle.pc_txn.proofs.Above.{StaysUp, any_above, any_proved, reach_on, split_proved, staged_or_above}
use Rattle.pc_txn.proofs.Accounted.{accounted_on, accounted_up, no_message}
use Rattle.pc_txn.proofs.Found.{finds_none_alone, found_on, found_same, hit_proved, placed_proved}
use Rattle.pc_txn.proofs.Keeping.{shows_none, staged_before}
use Rattle.pc_txn.proofs.Late.{late_more, live_on, none_by}
use Rattle.pc_txn.proofs.Laying.{known_one, no_proof, place_is, seq_is, seq_low, waiting}
use Rattle.pc_txn.proofs.Lists.{any_before, none_among}
use Rattle.pc_txn.proofs.Proves.{found_proves}
use Rattle.pc_txn.proofs.Same.{if_true, same_epoch-self}
use Rattle.pc_txn.proofs.Writes.{proved-last_seq}
use Rattle.pc_txn.proofs.Written.{one_of_seq, proved_stays, writes_landed, writes_on}
use Rattle.pc_txn.specs.declared.txn.OpenTxn.{OpenTxn}
use Rattle.pc_txn.specs.Opened.{missed_at, opened_as, with_found}
use Rattle.pc_txn.specs.Standing.{AreLateByWrites, AreLiveHere, AreStagedThere, HasMovedOn, StandsAbove, IsAccountedFor, IsMissingAt, IsMissingJustBelow, IsStageHere, IsUndecidedOf, TxnStands, WasMissedAt, WritesWithinReach}
use Rattle.pc_txn.specs.Writing.{IsFoundProved, IsNotWritten, IsProvedAt, PutsUpTo, WritesStand, finds}
use Rattle.pc_world.specs.Known.{Known}
use Rattle.pc_world.specs.Known.Traffic.{Heard}
use Rattle.pc_world.specs.Known.Transactions.{Txn, has_staged, txn_heard}
use Rattle.pc_world.specs.Known.Writes.{Write, is_proved, last_seq_of, proved_at}
use Rattle.pc_world.specs.StageFate.{IsLate, RefutesRecord, RefutesWrite, SentCommit, SentStage, is_write_refuted}
use Rattle.pc_world.specs.Tell.End.{shows_staging}
use Rattle.pc_world.specs.Views.{shows_undecided}

module _ (k : Known) (stages : List SentStage) (commit : Option SentCommit) (t : Txn) (x : OpenTxn) (st : TxnStands k stages commit t x) (f : WriteInFlight) (there : Contains x.in_flight f) (now : Known) (h : Heard) (ts : ℕ) (by : Who)
    (asked : h.request ≡ requests.Query t.id t.epoch f.seq ts f.key by) (low : ts ≤ t.write_ts) (more : HasMovedOn k now [] (h ∷ [])) where
  abbrev query : Request
  query = requests.Query t.id t.epoch f.seq ts f.key by

  abbrev own : IsKnownUnproved t.writes f
  own = known_one k stages commit t x st f there

  place : own.w.key ≡ f.key
  place = place_is k stages commit t x st f there

  number : own.w.seq ≡ f.seq
  number = seq_is k stages commit t x st f there

  no_record : is_about t.id h.request ≡ false
  no_record = ap (is_about t.id) asked

  no_put : (n : ℕ) → IsTrue (is_put_of t.id t.epoch n h.request) → n ≡ f.seq
  no_put n put = let none : is_put_of t.id t.epoch n h.request ≡ false = ap (is_put_of t.id t.epoch n) asked in absurd cc

  same-sent : now.sent ≡ k.sent
  same-sent = more.sent ∙ append-nil k.sent

  shows_no_stage : All (λ h. (at : ℕ) → IsTrue (shows_staging t.id t.epoch at h) → ⊥) (h ∷ [])
  shows_no_stage =
      All-cons (λ h. (at : ℕ) → IsTrue (shows_staging t.id t.epoch at h) → ⊥) h [] (λ at. shows_none t.id t.epoch at h no_record) (All-nil (λ h. (at : ℕ) → IsTrue (shows_staging t.id t.epoch at h) → ⊥))

  shows_none_at : (at : ℕ) → All (λ h. IsTrue (shows_staging t.id t.epoch at h) → ⊥) (h ∷ [])
  shows_none_at at = All-weaker (λ h. (at : ℕ) → IsTrue (shows_staging t.id t.epoch at h) → ⊥) (λ h. IsTrue (shows_staging t.id t.epoch at h) → ⊥) (λ h none. none at) (h ∷ []) shows_no_stage

  views_then : All (IsUndecidedOf t) now.heard
  views_then =
      subst (λ hs. All (IsUndecidedOf t) hs) (sym more.heard)
      (All-push (IsUndecidedOf t) k.heard h st.views (λ about. let none = no_record in absurd cc))

  puts_then : All (λ m. PutsUpTo t (last_seq_of t.writes) m.request) now.sent
  puts_then = subst (λ ms. All (λ m. PutsUpTo t (last_seq_of t.writes) m.request) ms) (sym same-sent) st.puts

  put_heard_then : All (λ h. PutsUpTo t (last_seq_of t.writes) h.request) now.heard
  put_heard_then =
      subst (λ hs. All (λ h. PutsUpTo t (last_seq_of t.writes) h.request) hs) (sym more.heard)
      (All-push (λ h. PutsUpTo t (last_seq_of t.writes) h.request) k.heard h st.put_heard (subst (λ r. PutsUpTo t (last_seq_of t.writes) r) (sym asked) (λ epoch seq put. absurd cc)))

  reads_then : TxnReadsStand t.id now.heard t.reads x.reads
  reads_then = subst (λ hs. TxnReadsStand t.id hs t.reads x.reads) (sym more.heard) (stand_on t.id k.heard (h ∷ []) t.reads x.reads st.reads)

  -- ---- it was found

  module _ (told : h.reply ≡ replies.Found) (missed : (n : ℕ) → WasMissedAt k.heard t.id t.epoch f.key f.seq n → n < ts) where
    -- The transaction once a query found the write.
    abbrev t5 : Txn
    t5 = record t { writes = map (proved_at f.key f.seq ts) t.writes }

    heard-found : txn_heard k.sent (Some h) t ≡ t5
    heard-found =
        let F : Request → Reply → Txn = λ r y. txn_heard k.sent (Some (record { number = h.number; request = r; reply = y; step = h.step })) t in
        let G : ℕ → List Write → Txn = λ n w. record t { write_ts = n; writes = w } in
        let both = map (proved_at f.key f.seq ts) t.writes in
        let stays : max t.write_ts 0 ≡ t.write_ts = omega arith in
        ap (λ r. F r h.reply) asked
        ∙ ap (F query) told
        ∙ ap (λ n. G (max t.write_ts n) (cond (same_txn t.id t.id && (t.epoch == t.epoch)) both t.writes)) (if_true (same_txn t.id t.id) 0 0 (same_txn-self t.id))
        ∙ ap (λ n. G n (cond (same_txn t.id t.id && (t.epoch == t.epoch)) both t.writes)) stays
        ∙ ap (G t.write_ts) (if_true (same_txn t.id t.id && (t.epoch == t.epoch)) both t.writes (same_epoch-self t.id t.epoch))

    spares : (s : SentStage) → is_write_refuted s h.request h.reply ≡ false
    spares s = ap (λ r. is_write_refuted s r h.reply) asked ∙ ap (is_write_refuted s query) told

    leaves : LeavesStages stages t5 h
    leaves = record {
      unrefuted = all_from_contains (λ s. is_write_refuted s h.request h.reply ≡ false) stages (λ s inside. spares s);
      unseen = ap (λ r. shows_undecided t.id r h.reply) asked;
      reaches = λ s whose r. let none : is_write_refuted s h.request h.reply ≡ false = spares s in let is : is_write_refuted s h.request h.reply ≡ true = r in absurd cc;
    }

    staging5 : StagingStands now stages commit t5 x.staging
    staging5 =
        staging_on k now stages commit t t5 x.staging [] (h ∷ []) st.staging (record { sent = more.sent; heard = more.heard })
        (record { same = refl; no_earlier = omega arith; stays = inl (refl, proves_one f.key f.seq ts t.writes) })
        (All-nil (λ m. SendsNothingNew stages commit t.id m.request)) (All-cons (LeavesStages stages t5) h [] leaves (All-nil (LeavesStages stages t5)))

    stays5 : StaysUp t t5
    stays5 = record { id = refl; epoch = refl; up = omega arith }

    kept : (w : Write) → Contains t.writes w → IsTrue (is_proved w) → proved_at f.key f.seq ts w ≡ w
    kept = proved_stays k.heard k.sent t f.key f.seq ts t.write_ts h st.writes own.w own.written place number no_put (λ v place number. found_proves t v h f.seq ts f.key by asked told place number) own.unproved

    staged5 : AreStagedThere stages (k.heard ++ h ∷ []) t5
    staged5 at was =
        split_proved k.heard (h ∷ []) t t5 stays5 f.key f.seq ts kept missed stages at (st.staged at (staged_before k.heard (h ∷ []) t at (shows_none_at at) was))

    late5 : AreLateByWrites stages (k.heard ++ h ∷ []) t5
    late5 =
        all_from_contains (λ s. IsLate (k.heard ++ h ∷ []) s → Any (StandsAbove (k.heard ++ h ∷ []) t5 s.ts) t5.writes) stages
        (λ s inside late.
        let R : Heard → Type 0 = λ h. RefutesWrite s h ⊎ RefutesRecord s h in
        let w : WasStageSent k.sent t.id s = All-contains (WasStageSent k.sent t.id) stages s st.staging.sent inside in
        any_proved k.heard (h ∷ []) t t5 stays5 f.key f.seq ts kept missed s.ts
        (All-contains (λ s. IsLate k.heard s → Any (StandsAbove k.heard t s.ts) t.writes) stages s st.late inside
        (any_before R k.heard (h ∷ []) (All-cons (λ h. R h → ⊥) h [] (none_by t s h w.whose no_record (spares s)) (All-nil (λ h. R h → ⊥))) late)))

    -- the write that was found is the one of its sequence, and is proved
    own_found : IsFoundProved t5 h
    own_found epoch seq is =
        let it : (same_txn t.id t.id && (t.epoch == epoch && f.seq == seq)) ≡ true = sym (ap (λ r. finds t.id epoch seq r h.reply) asked ∙ ap (finds t.id epoch seq query) told) ∙ is in
        let parts = and_parts (t.epoch == epoch) (f.seq == seq) (and_parts (same_txn t.id t.id) (t.epoch == epoch && f.seq == seq) it).1 in
        let at : t.epoch ≡ epoch = eqb-true t.epoch epoch parts.0 in
        let of : f.seq ≡ seq = eqb-true f.seq seq parts.1 in
        let low = seq_low k stages commit t x st f there in
        let last : last_seq_of t5.writes ≡ last_seq_of t.writes = proved-last_seq f.key f.seq ts t.writes in (
          omega (arith, at),
          λ same. (
            omega (arith, low, of, last),
            subst (λ n. All (IsProvedAt n) t5.writes) of (hit_proved f.key f.seq ts t.writes (λ w inside is.
                ap (λ (w : Write). w.key) (one_of_seq t.writes st.writes.by_sequence w own.w inside own.written (is ∙ sym number)) ∙ place)),
          ),
        )

    found_by : TxnStands now stages commit t5 (with_found f.key f.seq x)
    found_by =
        let last : last_seq_of t5.writes ≡ last_seq_of t.writes = proved-last_seq f.key f.seq ts t.writes in
        let flight = filter (is_another f.key f.seq) x.in_flight in
        record {
          same =
              ap (λ (x : OpenTxn). record x { in_flight = flight }) st.same
              ∙ ap (λ n. record (opened_as x.shown x.cause x.reads.spans flight x.staging t5) { seq = n }) (sym last);
          number = omega (arith, st.number, more.begun);
          begun = st.begun;
          behind = st.behind;
          at_begin = st.at_begin;
          below = reach_on k now [] (h ∷ []) more t t5 refl refl st.below;
          views = views_then;
          shown = st.shown ∙ sym (ap (last_shown t) same-sent);
          staged = subst (λ hs. AreStagedThere stages hs t5) (sym more.heard) staged5;
          accounted =
              accounted_on k now [] (h ∷ []) more t t5 refl stages stages (any_proved k.heard (h ∷ []) t t5 stays5 f.key f.seq ts kept missed) (λ s inside. inl inside) st.accounted
              (no_message t.id (IsAccountedFor stages (k.heard ++ h ∷ []) t5));
          late = subst (λ hs. AreLateByWrites stages hs t5) (sym more.heard) late5;
          live = subst (λ hs. AreLiveHere stages hs x.staging.staged t5) (sym more.heard) (live_on k.heard (h ∷ []) x.staging.staged t t5 stages refl refl refl shows_no_stage st.live);
          puts = subst (λ n. All (λ m. PutsUpTo t n m.request) now.sent) (sym last) puts_then;
          put_heard = subst (λ n. All (λ h. PutsUpTo t n h.request) now.heard) (sym last) put_heard_then;
          found = subst (λ hs. All (IsFoundProved t5) hs) (sym more.heard)
              (found_on k.heard (h ∷ []) t t5 refl refl (omega (arith, last)) (λ seq low all. placed_proved f.key f.seq ts seq t.writes all) st.found (All-cons (IsFoundProved t5) h [] own_found (All-nil (IsFoundProved t5))));
          writes =
              subst (λ ms. WritesStand ms now.heard t5) (sym same-sent)
              (subst (λ hs. WritesStand k.sent hs t5) (sym more.heard)
              (writes_landed k.heard k.sent t f.key f.seq ts t.write_ts h st.writes own.w own.written place number no_put (λ v place number. found_proves t v h f.seq ts f.key by asked told place number)));
          flight =
              subst (λ t2. FlightStands flight t2) heard-found
              (heard_stands f.key f.seq x.in_flight flight refl t k.sent h st.flight (inr (record { ts = ts; by = by; asked = asked; told = told; low = low })));
          staging = staging5;
          reads = reads_then;
        }

    -- a query found it, no later than the write timestamp, and above each timestamp at which one missed it
    pub query_found : TxnStands now stages commit (txn_heard k.sent (Some h) t) (with_found f.key f.seq x)
    query_found = subst (λ t2. TxnStands now stages commit t2 (with_found f.key f.seq x)) (sym heard-found) found_by

  -- ---- it was missed

  module _ (told : h.reply ≡ replies.Missing) (staged : has_staged k.sent t.id t.epoch ts f.key f.seq ≡ true) where
    -- The transaction once a query missed the write, where a stage lists it.
    abbrev t6 : Txn
    t6 = record t { write_ts = max t.write_ts (ts + 1) }

    heard-missed : txn_heard k.sent (Some h) t ≡ t6
    heard-missed =
        let F : Request → Reply → Txn = λ r y. txn_heard k.sent (Some (record { number = h.number; request = r; reply = y; step = h.step })) t in
        let G : ℕ → List Write → Txn = λ n w. record t { write_ts = n; writes = w } in
        let listed = has_staged k.sent t.id t.epoch ts f.key f.seq in
        ap (λ r. F r h.reply) asked
        ∙ ap (F query) told
        ∙ ap (λ n. G (max t.write_ts n) (cond (same_txn t.id t.id && (t.epoch == t.epoch)) t.writes t.writes))
        (if_true (same_txn t.id t.id) (cond listed (ts + 1) 0) 0 (same_txn-self t.id) ∙ if_true listed (ts + 1) 0 staged)
        ∙ ap (G (max t.write_ts (ts + 1))) (if_true (same_txn t.id t.id && (t.epoch == t.epoch)) t.writes t.writes (same_epoch-self t.id t.epoch))

    missing_it : IsMissingAt t.id t.epoch f.key f.seq ts h
    missing_it = record { by = by; asked = asked; told = told }

    hears_it : HearsMissing k now t ts h
    hears_it = record {
      grown = record { sent = more.sent; heard = more.heard };
      seq = f.seq;
      key = f.key;
      by = by;
      asked = asked;
      staged = staged;
      waiting = waiting k stages commit t x st f there;
      told = told;
    }

    staging6 : StagingStands now stages commit t6 (with_stages (map (refuted_at ts h.step) x.staging.stages) x.staging)
    staging6 =
        subst (λ t2. StagingStands now stages commit t2 (with_stages (map (refuted_at ts h.step) x.staging.stages) x.staging)) heard-missed
        (missing_heard k now stages commit t x.staging st.staging h ts hears_it)

    -- a stage that is kept is refuted exactly where it is of this timestamp
    refutes : (s : SentStage) → Contains stages s → is_write_refuted s h.request h.reply ≡ (s.ts == ts)
    refutes s inside = refutes_at k now stages commit t x.staging st.staging h ts hears_it s inside

    stays6 : StaysUp t t6
    stays6 = record { id = refl; epoch = refl; up = omega arith }

    -- the write stands only above this timestamp
    own_above : StandsAbove (k.heard ++ h ∷ []) t6 ts own.w
    own_above = record {
      low = omega arith;
      above = λ proved.
          none_among (λ proof. proof ≤ ts) [] (All-nil (λ proof. proof ≤ ts → ⊥))
          (subst (λ ps. Any (λ proof. proof ≤ ts) ps) (no_proof own.w.proofs own.unproved) proved);
      fixed =
          inr (subst (λ n. WasMissedAt (k.heard ++ h ∷ []) t.id t.epoch own.w.key n ts) (sym number)
          (subst (λ key. WasMissedAt (k.heard ++ h ∷ []) t.id t.epoch key f.seq ts) (sym place) (any_last (IsMissingAt t.id t.epoch f.key f.seq ts) k.heard h missing_it)));
    }

    staged6 : AreStagedThere stages (k.heard ++ h ∷ []) t6
    staged6 at was = staged_or_above k.heard (h ∷ []) t t6 stays6 stages at t.writes (st.staged at (staged_before k.heard (h ∷ []) t at (shows_none_at at) was))

    late6 : AreLateByWrites stages (k.heard ++ h ∷ []) t6
    late6 =
        all_from_contains (λ s. IsLate (k.heard ++ h ∷ []) s → Any (StandsAbove (k.heard ++ h ∷ []) t6 s.ts) t.writes) stages
        (λ s inside late. by_one s inside late (is_write_refuted s h.request h.reply) refl)
      where
        by_one : (s : SentStage) → Contains stages s → IsLate (k.heard ++ h ∷ []) s → (b : Bool) → is_write_refuted s h.request h.reply ≡ b → Any (StandsAbove (k.heard ++ h ∷ []) t6 s.ts) t.writes
        by_one s inside late true is =
            let (n, within, at) = own.written in
            let same : s.ts ≡ ts = eqb-true s.ts ts (sym (refutes s inside) ∙ is) in
            (n, own.w, within, at, subst (λ n. StandsAbove (k.heard ++ h ∷ []) t6 n own.w) (sym same) own_above)
        by_one s inside late false is =
            let R : Heard → Type 0 = λ h. RefutesWrite s h ⊎ RefutesRecord s h in
            let w : WasStageSent k.sent t.id s = All-contains (WasStageSent k.sent t.id) stages s st.staging.sent inside in
            any_above k.heard (h ∷ []) t t6 stays6 s.ts t.writes
            (All-contains (λ s. IsLate k.heard s → Any (StandsAbove k.heard t s.ts) t.writes) stages s st.late inside
            (any_before R k.heard (h ∷ []) (All-cons (λ h. R h → ⊥) h [] (none_by t s h w.whose no_record is) (All-nil (λ h. R h → ⊥))) late))

    -- a stage lies at the write timestamp, or is refuted where that rises
    live6 : AreLiveHere stages (k.heard ++ h ∷ []) x.staging.staged t6
    live6 =
        all_from_contains (λ s. (IsLate (k.heard ++ h ∷ []) s → ⊥) → IsStageHere (k.heard ++ h ∷ []) x.staging.staged t6 s) stages (λ s inside unlate. by_ts s inside unlate (s.ts == ts) refl)
      where
        by_ts : (s : SentStage) → Contains stages s → (IsLate (k.heard ++ h ∷ []) s → ⊥) → (b : Bool) → (s.ts == ts) ≡ b → IsStageHere (k.heard ++ h ∷ []) x.staging.staged t6 s
        by_ts s inside unlate true is = absurd (unlate (any_last (λ h. RefutesWrite s h ⊎ RefutesRecord s h) k.heard h (inl (record { refuted = refutes s inside ∙ is }))))
        by_ts s inside unlate false is =
            let here : IsStageHere k.heard x.staging.staged t s =
            All-contains (λ s. (IsLate k.heard s → ⊥) → IsStageHere k.heard x.staging.staged t s) stages s st.live inside (λ late. unlate (late_more k.heard (h ∷ []) s late)) in
            let at : s.ts ≡ t.write_ts = here.at_write_ts in
            let differs : s.ts ≢ ts = λ same. let hit : (s.ts == ts) ≡ true = eq-eqb s.ts ts same in absurd cc in
            record {
              at_write_ts = omega (arith, at, low, differs);
              heard_last = λ was. here.heard_last (staged_before k.heard (h ∷ []) t s.ts (shows_none_at s.ts) was);
            }

    below6 : WritesWithinReach now t6
    below6 = by_reach (nat_lt t.write_ts (ts + 1)) refl
      where
        by_reach : (b : Bool) → nat_lt t.write_ts (ts + 1) ≡ b → WritesWithinReach now t6
        by_reach false e = let under : ts + 1 ≤ t.write_ts = ltb-false t.write_ts (ts + 1) e in reach_on k now [] (h ∷ []) more t t6 refl (omega (arith, under)) st.below
        by_reach true e =
            let up : t.write_ts < ts + 1 = ltb-true t.write_ts (ts + 1) e in
            inr (subst (λ hs. Any (IsMissingJustBelow t.id (max t.write_ts (ts + 1))) hs) (sym more.heard)
            (any_last (IsMissingJustBelow t.id (max t.write_ts (ts + 1))) k.heard h
            (record { epoch = t.epoch; seq = f.seq; at = ts; key = f.key; missing = missing_it; just = omega (arith, up) })))

    writes6 : WritesStand now.sent now.heard t6
    writes6 =
        let P : Request → Type 0 = λ r. (seq : ℕ) → IsNotWritten t seq (record { number = h.number; request = r; reply = h.reply; step = h.step }) in
        let none : (seq : ℕ) → IsNotWritten t seq h = subst P (sym asked) (λ seq put. absurd cc) in
        let w : WritesStand (k.sent ++ []) (k.heard ++ h ∷ []) t =
        writes_on k.sent [] k.heard (h ∷ []) t st.writes (All-push (λ h. (seq : ℕ) → IsNotWritten t seq h) [] h (All-nil (λ h. (seq : ℕ) → IsNotWritten t seq h)) none) in
        let v : WritesStand now.sent now.heard t = subst (λ ms. WritesStand ms now.heard t) (sym more.sent) (subst (λ hs. WritesStand (k.sent ++ []) hs t) (sym more.heard) w) in
        record { by_sequence = v.by_sequence; each_sent = v.each_sent; unwritten = v.unwritten; heard_proved = v.heard_proved; locked = v.locked; unanchored = v.unanchored }

    missed_by : TxnStands now stages commit t6 (missed_at ts h.step x)
    missed_by =
        let kept = with_stages (map (refuted_at ts h.step) x.staging.stages) x.staging in
        record {
          same = ap (λ (x : OpenTxn). record x { write_ts = max x.write_ts (ts + 1); staging = kept }) st.same;
          number = omega (arith, st.number, more.begun);
          begun = st.begun;
          behind = omega (arith, st.behind);
          at_begin = st.at_begin;
          below = below6;
          views = views_then;
          shown = st.shown ∙ sym (ap (last_shown t) same-sent);
          staged = subst (λ hs. AreStagedThere stages hs t6) (sym more.heard) staged6;
          accounted = accounted_up k now [] (h ∷ []) more t t6 refl stages stages stays6 refl refl (no_message t.id) st.accounted;
          late = subst (λ hs. AreLateByWrites stages hs t6) (sym more.heard) late6;
          live = subst (λ hs. AreLiveHere stages hs x.staging.staged t6) (sym more.heard) live6;
          puts = puts_then;
          put_heard = put_heard_then;
          found = subst (λ hs. All (IsFoundProved t6) hs) (sym more.heard)
              (found_same k.heard (h ∷ []) t t6 refl refl refl st.found (finds_none_alone t6 h (λ epoch seq. ap (λ r. finds t.id epoch seq r h.reply) asked ∙ ap (finds t.id epoch seq query) told)));
          writes = writes6;
          flight = flights_hold.on x.in_flight t t6 st.flight refl (omega arith);
          staging = staging6;
          reads = reads_then;
        }

    -- a query missed it at the timestamp of a stage that lists it
    pub query_missed : TxnStands now stages commit (txn_heard k.sent (Some h) t) (missed_at ts h.step x)
    query_missed = subst (λ t2. TxnStands now stages commit t2 (missed_at ts h.step x)) (sym heard-missed) missed_by
