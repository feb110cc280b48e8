-- A stage of the open transaction goes out, and is told a view.
use Rattle.std.proofs.Common.{◌≡◌, ◌≢◌, ℕ, ◌<◌, ◌≤◌, max, Bool, true, false, cond, not, ◌==◌, ◌⊎◌, inl, inr, List, [], ◌∷◌, ◌++◌, filter, Option, Some, None, refl, sym, ap, ◌∙◌, subst, arith, All, Any, Contains, IsTrue}
use Rattle.std.specs.Option.{option_map_or}
use Rattle.std.proofs.lemmas.Bool.{and_from, and_parts, eq-eqb, eqb-true}
use Rattle.std.proofs.lemmas.List.{append-nil}
use Rattle.std.proofs.lemmas.List.Elements.{All-contains, All-cons, All-nil, All-push, All-weaker, Contains-append_left, Contains-push}
use Rattle.pc_base.specs.declared.actor.ActorId.{ActorId}
use Rattle.pc_base.specs.declared.span.Span.{Span}
use Rattle.pc_base.specs.Transaction.{same_txn}
use Rattle.pc_flight.proofs.Holding.{flights_hold, staged_list}
use Rattle.pc_flight.specs.declared.write.WriteInFlight.{WriteInFlight}
use Rattle.pc_flight.specs.InFlight.{listed_in_flight}
use Rattle.pc_follows.specs.Heartbeats.{last_shown}
use Rattle.pc_lists.proofs.Anywhere.{any_kept, any_last}
use Rattle.pc_lists.proofs.Lists.{all_from_contains, contains_filter, contains_in_filter}
use Rattle.pc_lists.proofs.Same.{same_txn-self}
use Rattle.pc_proto.specs.declared.call.Call.TheVariants as calls
use Rattle.pc_proto.specs.declared.reply.Reply.{Reply}
use Rattle.pc_proto.specs.declared.reply.Reply.TheVariants as replies
use Rattle.pc_proto.specs.declared.request.Request.{Request}
use Rattle.pc_proto.specs.declared.view.View.{View}
use Rattle.pc_proto.specs.declared.view.View.TheVariants as views
use Rattle.pc_proto.specs.declared.why.Why.{Why}
use Rattle.pc_proto.specs.Replies.{is_undecided_status, view_in}
use Rattle.pc_proto.specs.Requests.{is_about, subject_anchor}
use Rattle.pc_proto.specs.Views.{is_final_view, is_staging_at, undecided_ts}
use Rattle.pc_reads.proofs.Goods.{stand_on}
use Rattle.pc_reads.specs.ReadsStanding.{TxnReadsStand}
use Rattle.pc_staging.proofs.Allowing.{allows}
use Rattle.pc_staging.proofs.Deciding.{implicit, late_stages}
use Rattle.pc_staging.proofs.Fates.{one_stage, stage_new}
use Rattle.pc_staging.proofs.Hears as hears
use Rattle.pc_staging.proofs.Sending.{stage_stands}
use Rattle.pc_staging.specs.Kept.{Evidence, after_stage, is_passed_by, is_staged_and_proved, seen_undecided, with_stages, without_stage}
use Rattle.pc_staging.specs.Standing.{AreRefutedBelow, IsPastStageBelow, StagingStands, WasStagedAt, stages_after}
use Rattle.pc_txn.proofs.Above.{StaysUp, any_above, reach_on, reach_raised}
use Rattle.pc_txn.proofs.Accounted.{accounted_on, no_message, shown_epoch, shown_known}
use Rattle.pc_txn.proofs.Commits.{read_on}
use Rattle.pc_txn.proofs.Found.{finds_none_alone, found_same}
use Rattle.pc_txn.proofs.Keeping.{staged_before, staged_split}
use Rattle.pc_txn.proofs.Late.{late_more, late_on, none_live}
use Rattle.pc_txn.proofs.Lists.{any_before}
use Rattle.pc_txn.proofs.Same.{if_true}
use Rattle.pc_txn.proofs.Shown.{shown-one}
use Rattle.pc_txn.proofs.Written.{writes_on}
use Rattle.pc_txn.specs.declared.txn.OpenTxn.{OpenTxn}
use Rattle.pc_txn.specs.Opened.{opened_as}
use Rattle.pc_txn.specs.Staged.{stage_now, stage_told_at, with_stage}
use Rattle.pc_txn.specs.Standing.{AreLateByWrites, AreLiveHere, AreStagedThere, HasMovedOn, StandsAbove, IsAccountedFor, IsFateKnown, IsStageHere, IsUndecidedOf, TxnStands}
use Rattle.pc_txn.specs.Writing.{IsFoundProved, IsNotWritten, PutsUpTo, WritesStand, finds}
use Rattle.pc_world.specs.Known.{Known, call_of, open_txn, reading_of}
use Rattle.pc_world.specs.Known.Reads.{IsGoodAt}
use Rattle.pc_world.specs.Known.Traffic.{Heard, Sent}
use Rattle.pc_world.specs.Known.Transactions.{Txn, meta_of, txn_heard, txn_sent}
use Rattle.pc_world.specs.Known.Writes.{last_seq_of}
use Rattle.pc_world.specs.MaySend.{MaySendRow}
use Rattle.pc_world.specs.StageFate.{IsLate, IsLateByRecord, OnStage, RefutesRecord, RefutesWrite, SentCommit, SentStage, is_past_stage, is_write_refuted, shows_past, stage_request}
use Rattle.pc_wave.specs.Shown.{ShowsSentStage}
use Rattle.pc_world.specs.Tell.End.{IsImplicit, shows_staging}

-- The stage of the transaction at its write timestamp, with this anchor and at this reading.
abbrev pub staged_now : Txn → List WriteInFlight → List ℕ → ℕ → SentStage
staged_now t flight anchor reading = record { meta = meta_of t anchor; ts = t.write_ts; now = reading; writes = listed_in_flight flight; locks = t.locks }

sent-stage : (t : Txn) (s : SentStage) → s.meta.id ≡ t.id → s.ts ≡ t.write_ts → t.read_ts ≤ t.write_ts → txn_sent (stage_request s) t ≡ read_on t
sent-stage t s whose at behind =
    let F : ℕ → Txn = λ n. record t { read_ts = n } in
    let top : max t.read_ts s.ts ≡ t.write_ts = omega (arith, at, behind) in
    ap F (if_true (same_txn s.meta.id t.id) (max t.read_ts s.ts) t.read_ts (ap (λ id. same_txn id t.id) whose ∙ same_txn-self t.id) ∙ top)

-- a transaction of which no stage stands in the way was not heard to stage at its write timestamp
pub not_staged_yet : (k : Known) (stages : List SentStage) (commit : Option SentCommit) (t : Txn) (x : OpenTxn) → TxnStands k stages commit t x → is_passed_by x.staging ≡ true → WasStagedAt k.heard t t.write_ts → ⊥
not_staged_yet k stages commit t x st passed was =
    elim (st.staged t.write_ts was) [
      | inl kept ↦ below kept
      | inr above ↦ nowhere above
    ]
  where
    below : Any (λ (y : SentStage). y.ts ≡ t.write_ts) stages → ⊥
    below (n, y, inside, at, is) =
        let late : IsLate k.heard y × (y.ts < t.write_ts) = All-contains (λ y. IsLate k.heard y × (y.ts < t.write_ts)) stages y (late_stages k stages commit t x.staging st.staging passed) (n, inside, at) in
        let low : y.ts < t.write_ts = late.1 in
        absurd (omega (arith, low, is))

    nowhere : Any (StandsAbove k.heard t t.write_ts) t.writes → ⊥
    nowhere (n, w, inside, at, above) = absurd (omega (arith, above.low))

-- a record that stages stands where it stages
staging_stands : (epoch ts : ℕ) (view : View) → is_staging_at epoch ts view ≡ true → undecided_ts view ≡ ts
staging_stands epoch ts (views.Staging at_epoch at writes) is = eqb-true at ts (and_parts (at_epoch == epoch) (at == ts) is).1
staging_stands epoch ts (views.Pending at_epoch at) is = absurd cc
staging_stands epoch ts views.Nothing is = absurd cc
staging_stands epoch ts (views.Committed at_epoch at locks) is = absurd cc
staging_stands epoch ts (views.Aborted at_epoch why locks) is = absurd cc

-- ---- it is sent

module _ (k now : Known) (stages : List SentStage) (commit : Option SentCommit) (shown : ℕ) (cause : Why) (spans : List Span) (flight : List WriteInFlight) (evidence : Evidence) (t : Txn) (anchor : List ℕ) (reading number range : ℕ) where
  abbrev x0 : OpenTxn
  x0 = opened_as shown cause spans flight evidence t

  abbrev s0 : SentStage
  s0 = staged_now t flight anchor reading

  abbrev m0 : Sent
  m0 = record { number = number; range = range; request = stage_request s0 }

  module _ (st : TxnStands k stages commit t x0) (passed : is_passed_by evidence ≡ true) (anchored : t.anchor ≡ Some anchor) (good : All (IsGoodAt t.id k.heard t.write_ts) t.reads) (more : HasMovedOn k now (m0 ∷ []) []) where
    heard-same : now.heard ≡ k.heard
    heard-same = more.heard ∙ append-nil k.heard

    writes2 : WritesStand now.sent now.heard (read_on t)
    writes2 =
        let w : WritesStand (k.sent ++ m0 ∷ []) (k.heard ++ []) t = writes_on k.sent (m0 ∷ []) k.heard [] t st.writes (All-nil (λ h. (seq : ℕ) → IsNotWritten t seq h)) in
        let v : WritesStand now.sent now.heard t = subst (λ ms. WritesStand ms now.heard t) (sym more.sent) (subst (λ hs. WritesStand (k.sent ++ m0 ∷ []) hs t) (sym more.heard) w) in
        record { by_sequence = v.by_sequence; each_sent = v.each_sent; unwritten = v.unwritten; heard_proved = v.heard_proved; locked = v.locked; unanchored = v.unanchored }

    -- a stage at the write timestamp is not late when it is sent
    new_not_late : IsLate k.heard s0 → ⊥
    new_not_late (n, h, inside, at, r) =
        elim r [
          | inl w ↦
              let below : AreRefutedBelow t.id t.write_ts h = All-contains (AreRefutedBelow t.id t.write_ts) k.heard h st.staging.reached (n, inside, at) in
              let low : s0.ts < t.write_ts = below s0 refl w.refuted in
              absurd (omega (arith, low))
          | inr p ↦
              let below : IsPastStageBelow t.id t.write_ts h = All-contains (IsPastStageBelow t.id t.write_ts) k.heard h st.staging.went_past (n, inside, at) in
              let low : s0.ts < t.write_ts = below s0 refl p in
              absurd (omega (arith, low))
        ]

    reads_up : StaysUp t (read_on t)
    reads_up = record { id = refl; epoch = refl; up = omega arith }

    staged2 : (ts : ℕ) → Any (λ y. y.ts ≡ ts) stages ⊎ Any (StandsAbove k.heard t ts) t.writes → Any (λ y. y.ts ≡ ts) (stages ++ s0 ∷ []) ⊎ Any (StandsAbove (k.heard ++ []) (read_on t) ts) t.writes
    staged2 ts (inl kept) = inl (any_kept (λ y. y.ts ≡ ts) stages (s0 ∷ []) kept)
    staged2 ts (inr above) = inr (any_above k.heard [] t (read_on t) reads_up ts t.writes above)

    late2 : AreLateByWrites (stages ++ s0 ∷ []) (k.heard ++ []) (read_on t)
    late2 =
        All-push (λ y. IsLate (k.heard ++ []) y → Any (StandsAbove (k.heard ++ []) (read_on t) y.ts) t.writes) stages s0
        (late_on k.heard [] t (read_on t) stages reads_up refl st.late (λ s there. All-nil (λ h. RefutesWrite s h ⊎ RefutesRecord s h → ⊥)))
        (λ late. absurd (new_not_late (subst (λ hs. IsLate hs s0) (append-nil k.heard) late)))

    live2 : AreLiveHere (stages ++ s0 ∷ []) k.heard evidence.staged (read_on t)
    live2 =
        All-push (λ y. (IsLate k.heard y → ⊥) → IsStageHere k.heard evidence.staged (read_on t) y) stages s0
        (none_live k.heard evidence.staged (read_on t) stages (All-weaker (λ y. IsLate k.heard y × (y.ts < t.write_ts)) (IsLate k.heard) (λ y late. late.0) stages (late_stages k stages commit t evidence st.staging passed)))
        (λ unlate. record { at_write_ts = refl; heard_last = λ was. absurd (not_staged_yet k stages commit t x0 st passed was) })

    abbrev P0 : SentStage → Type 0
    P0 = IsAccountedFor (stages ++ s0 ∷ []) (k.heard ++ []) (read_on t)

    staged_by : TxnStands now (stages ++ s0 ∷ []) commit (read_on t) (with_stage x0)
    staged_by = record {
      same = refl;
      number = omega (arith, st.number, more.begun);
      begun = omega (arith, st.begun, st.behind);
      behind = omega arith;
      at_begin = λ none. let e : Some anchor ≡ None = sym anchored ∙ none in absurd cc;
      below = reach_on k now (m0 ∷ []) [] more t (read_on t) refl refl st.below;
      views = subst (λ hs. All (IsUndecidedOf t) hs) (sym heard-same) st.views;
      shown = st.shown ∙ sym (ap (last_shown t) more.sent ∙ shown-one t k.sent m0 refl);
      staged = λ ts was.
          subst (λ hs. Any (λ y. y.ts ≡ ts) (stages ++ s0 ∷ []) ⊎ Any (StandsAbove hs (read_on t) ts) t.writes) (sym more.heard)
          (staged2 ts (st.staged ts (subst (λ hs. WasStagedAt hs t ts) heard-same was)));
      accounted =
          accounted_on k now (m0 ∷ []) [] more t (read_on t) refl stages (stages ++ s0 ∷ []) (λ ts above. any_above k.heard [] t (read_on t) reads_up ts t.writes above)
          (λ s inside. inl (Contains-append_left stages (s0 ∷ []) s inside)) st.accounted
          (All-cons (λ m. OnStage t.id P0 m.request) m0 [] (stage_new t.id P0 s0 m0.request refl (record { no_later = omega arith; fate = λ same. inl (Contains-push stages s0) })) (All-nil (λ m. OnStage t.id P0 m.request)));
      late = subst (λ hs. AreLateByWrites (stages ++ s0 ∷ []) hs (read_on t)) (sym more.heard) late2;
      live = subst (λ hs. AreLiveHere (stages ++ s0 ∷ []) hs evidence.staged (read_on t)) (sym heard-same) live2;
      puts =
          subst (λ ms. All (λ m. PutsUpTo t (last_seq_of t.writes) m.request) ms) (sym more.sent)
          (All-push (λ m. PutsUpTo t (last_seq_of t.writes) m.request) k.sent m0 st.puts (λ epoch seq put. absurd cc));
      put_heard = subst (λ hs. All (λ h. PutsUpTo t (last_seq_of t.writes) h.request) hs) (sym heard-same) st.put_heard;
      found = subst (λ hs. All (IsFoundProved (read_on t)) hs) (sym heard-same) st.found;
      writes = writes2;
      flight = flights_hold.on flight t (read_on t) st.flight refl (omega arith);
      staging =
          subst (λ t2. StagingStands now (stages ++ s0 ∷ []) commit t2 (with_stages (evidence.stages ++ record { ts = t.write_ts; refuted = None } ∷ []) evidence)) (sent-stage t s0 refl refl st.behind)
          (stage_stands k now stages commit t evidence s0 st.staging passed
          (record {
            sends = record { m = m0; grown = record { sent = more.sent; heard = more.heard }; said = refl };
            whose = refl;
            epoch_now = refl;
            at_write_ts = refl;
            in_flight = staged_list flight t.writes st.flight.in_flight;
          }));
      reads =
          let s : TxnReadsStand t.id k.heard t.reads (record { spans = spans; ts = t.read_ts }) = st.reads in
          subst (λ hs. TxnReadsStand t.id hs t.reads (record { spans = spans; ts = t.write_ts })) (sym heard-same) (record { kept = s.kept; of_reads = s.of_reads; good = good; ordered = s.ordered });
    }

-- its stage was sent
pub stage_sent : (k now : Known) (stages : List SentStage) (commit : Option SentCommit) (t : Txn) (x : OpenTxn) (anchor : List ℕ) (reading number range : ℕ) → TxnStands k stages commit t x → is_passed_by x.staging ≡ true → t.anchor ≡ Some anchor
    → All (IsGoodAt t.id k.heard t.write_ts) t.reads → HasMovedOn k now (record { number = number; range = range; request = stage_now x anchor reading } ∷ []) []
    → TxnStands now (stages ++ staged_now t x.in_flight anchor reading ∷ []) commit (txn_sent (stage_now x anchor reading) t) (with_stage x)
stage_sent k now stages commit t x anchor reading number range st passed anchored good more =
    let flight = x.in_flight in
    let P : OpenTxn → Type 0 = λ x.
    TxnStands k stages commit t x → is_passed_by x.staging ≡ true → HasMovedOn k now (record { number = number; range = range; request = stage_now x anchor reading } ∷ []) []
    → TxnStands now (stages ++ staged_now t x.in_flight anchor reading ∷ []) commit (txn_sent (stage_now x anchor reading) t) (with_stage x) in
    let at : P (opened_as x.shown x.cause x.reads.spans x.in_flight x.staging t) = λ st passed more.
    subst (λ t2. TxnStands now (stages ++ staged_now t flight anchor reading ∷ []) commit t2 (with_stage (opened_as x.shown x.cause x.reads.spans x.in_flight x.staging t))) (sym (sent-stage t (staged_now t flight anchor reading) refl refl st.behind))
    (staged_by k now stages commit x.shown x.cause x.reads.spans x.in_flight x.staging t anchor reading number range st passed anchored good more) in
    subst P (sym st.same) at st passed more

-- a record that is not final, and does not stage so, went another way
went_elsewhere : (s : SentStage) (view : View) → is_final_view view ≡ false → is_staging_at s.meta.epoch s.ts view ≡ false → is_past_stage s view ≡ true
went_elsewhere s (views.Staging epoch ts writes) unfinal other = ap not other
went_elsewhere s (views.Pending epoch ts) unfinal other = refl
went_elsewhere s views.Nothing unfinal other = refl
went_elsewhere s (views.Committed epoch ts locks) unfinal other = absurd cc
went_elsewhere s (views.Aborted epoch why locks) unfinal other = absurd cc

-- ---- it is told a view of a record that is not final

module _ (k now : Known) (stages : List SentStage) (commit : Option SentCommit) (t : Txn) (x : OpenTxn) (s : SentStage) (view : View) (recorded : ℕ) (h : Heard) (st : TxnStands k stages commit t x) (there : Contains stages s) (anchored : t.anchor ≡ Some s.meta.anchor)
    (asked : h.request ≡ stage_request s) (told : h.reply ≡ replies.Status view) (unfinal : is_final_view view ≡ false) (stands_at : undecided_ts view ≡ recorded)
    (is_shown : ShowsSentStage k t.id h)
    (first : is_staging_at t.epoch s.ts view ≡ false → WasStagedAt k.heard t s.ts → ⊥) (past : is_past_stage s view ≡ true → s.ts < undecided_ts view) (last : All (λ y. y.ts ≤ s.ts) stages)
    (more : HasMovedOn k now [] (h ∷ [])) (low : recorded ≤ now.high) where
  -- The transaction once its record was heard to stand there.
  abbrev reached : Txn
  reached = record t { write_ts = max t.write_ts recorded }

  abbrev after : List SentStage
  after = stages_after t.epoch s.ts view stages

  abbrev elsewhere : SentStage → Bool
  elsewhere y = not (y.ts == s.ts)

  own : (s.meta.id ≡ t.id) × (s.meta.epoch ≡ t.epoch)
  own = hears.own_each k.heard t stages x.staging.stages st.staging.kept s there

  heard-stage : txn_heard k.sent (Some h) t ≡ reached
  heard-stage =
      let F : Request → Reply → Txn = λ r y. txn_heard k.sent (Some (record { number = h.number; request = r; reply = y; step = h.step })) t in
      let G : ℕ → Txn = λ n. record t { write_ts = max t.write_ts n } in
      ap (λ r. F r h.reply) asked ∙ ap (F (stage_request s)) told
      ∙ ap G (if_true (same_txn s.meta.id t.id) (undecided_ts view) 0 (ap (λ id. same_txn id t.id) own.0 ∙ same_txn-self t.id) ∙ stands_at)

  sent-same : now.sent ≡ k.sent
  sent-same = more.sent ∙ append-nil k.sent

  epoch_is : x.epoch ≡ t.epoch
  epoch_is = ap (λ (x : OpenTxn). x.epoch) st.same

  staging3 : StagingStands now after commit reached (after_stage t.epoch s.ts h.step view x.staging)
  staging3 =
      subst (λ t2. StagingStands now after commit t2 (after_stage t.epoch s.ts h.step view x.staging)) heard-stage
      (hears.stage_heard k now stages commit t x.staging st.staging h (record { sent = more.sent; heard = more.heard }) s view there
      (record { grown = record { sent = more.sent; heard = more.heard }; asked = asked; told = told; past = past }) t.epoch s.ts h.step (after_stage t.epoch s.ts h.step view x.staging) refl refl refl refl)

  shows_it : (epoch ts : ℕ) → IsTrue (shows_staging t.id epoch ts h) → IsTrue (is_staging_at epoch ts view)
  shows_it epoch ts shows =
      let parts = and_parts (is_about t.id h.request) (option_map_or (is_staging_at epoch ts) (view_in h.reply) false) shows in
      sym (ap (λ reply. option_map_or (is_staging_at epoch ts) (view_in reply) false) told) ∙ parts.1

  -- which stages are kept then
  after_is : (b : Bool) → is_staging_at t.epoch s.ts view ≡ b → after ≡ cond b stages (filter elsewhere stages)
  after_is b is =
      ap (λ c. cond c stages (cond (is_staging_at t.epoch s.ts view) stages (filter elsewhere stages))) unfinal
      ∙ ap (λ c. cond c stages (filter elsewhere stages)) is

  -- each of them was kept before, and where the record went another way it is none of the stage's timestamp
  kept_before : (y : SentStage) → Contains after y → Contains stages y × (is_staging_at t.epoch s.ts view ≡ false → y.ts ≢ s.ts)
  kept_before y inside = by (is_staging_at t.epoch s.ts view) refl
    where
      by : (b : Bool) → is_staging_at t.epoch s.ts view ≡ b → Contains stages y × (is_staging_at t.epoch s.ts view ≡ false → y.ts ≢ s.ts)
      by true is = (subst (λ ys. Contains ys y) (after_is true is) inside, λ other. absurd cc)
      by false is =
          let f = contains_filter elsewhere stages y (subst (λ ys. Contains ys y) (after_is false is) inside) in
          (f.0, λ other same. let hit : (y.ts == s.ts) ≡ true = eq-eqb y.ts s.ts same in let not_it : not (y.ts == s.ts) ≡ true = f.1 in absurd cc)

  -- and the reply refutes none of them
  spares : (y : SentStage) → Contains after y → RefutesWrite y h ⊎ RefutesRecord y h → ⊥
  spares y inside refutes =
      elim refutes [
        | inl w ↦ let none : is_write_refuted y h.request h.reply ≡ false = ap (λ r. is_write_refuted y r h.reply) asked in let is : is_write_refuted y h.request h.reply ≡ true = w.refuted in absurd cc
        | inr p ↦
            let same : y ≡ s = one_stage y s (sym p.asked ∙ asked) in
            let past : shows_past y h.reply ≡ true = p.past in
            let past2 : is_past_stage s view ≡ true = sym (ap (λ z. is_past_stage z view) same) ∙ sym (ap (shows_past y) told) ∙ past in
            by past2 same (is_staging_at t.epoch s.ts view) refl
      ]
    where
      by : is_past_stage s view ≡ true → y ≡ s → (b : Bool) → is_staging_at t.epoch s.ts view ≡ b → ⊥
      by past same true is = hears.staged_not_past s view (ap (λ n. is_staging_at n s.ts view) own.1 ∙ is) past
      by past same false is = (kept_before y inside).1 is (ap (λ y. y.ts) same)

  -- it was not heard to stage where its stage went another way
  unstaged_there : is_staging_at t.epoch s.ts view ≡ false → WasStagedAt (k.heard ++ h ∷ []) t s.ts → ⊥
  unstaged_there other was =
      let P : Heard → Type 0 = λ h. IsTrue (shows_staging t.id t.epoch s.ts h) in
      first other
      (staged_before k.heard (h ∷ []) t s.ts
      (All-cons (λ h. P h → ⊥) h [] (λ shows. let is : is_staging_at t.epoch s.ts view ≡ true = shows_it t.epoch s.ts shows in absurd cc) (All-nil (λ h. P h → ⊥))) was)

  rises : StaysUp t reached
  rises = record { id = refl; epoch = refl; up = omega arith }

  staged3 : AreStagedThere after (k.heard ++ h ∷ []) reached
  staged3 ts was =
      elim (staged_split k.heard h t stages ts st.staged (shown_known k stages t st.accounted h is_shown ts) was) [
        | inl kept ↦ inl (by kept (is_staging_at t.epoch s.ts view) refl)
        | inr above ↦ inr (any_above k.heard (h ∷ []) t reached rises ts t.writes above)
      ]
    where
      by : Any (λ y. y.ts ≡ ts) stages → (b : Bool) → is_staging_at t.epoch s.ts view ≡ b → Any (λ y. y.ts ≡ ts) after
      by kept true is = subst (λ ys. Any (λ y. y.ts ≡ ts) ys) (sym (after_is true is)) kept
      by (n, y, inside, at, same) false is = subst (λ ys. Any (λ y. y.ts ≡ ts) ys) (sym (after_is false is)) (left (y.ts == s.ts) refl)
        where
          left : (b : Bool) → (y.ts == s.ts) ≡ b → Any (λ y. y.ts ≡ ts) (filter elsewhere stages)
          left true hit = absurd (unstaged_there is (subst (λ n. WasStagedAt (k.heard ++ h ∷ []) t n) (sym same ∙ eqb-true y.ts s.ts hit) was))
          left false miss =
              let (m, within, found) = contains_in_filter elsewhere stages y (n, inside, at) (ap not miss) in
              (m, y, within, found, same)

  -- what became of each stage that was kept is known: that of the one that was told is, where its record went another way
  known_after : (y : SentStage) → Contains stages y → IsFateKnown after (k.heard ++ h ∷ []) reached y
  known_after y inside = by (is_staging_at t.epoch s.ts view) refl (y.ts == s.ts) refl
    where
      by : (b : Bool) → is_staging_at t.epoch s.ts view ≡ b → (c : Bool) → (y.ts == s.ts) ≡ c → IsFateKnown after (k.heard ++ h ∷ []) reached y
      by true is c hit = inl (subst (λ ys. Contains ys y) (sym (after_is true is)) inside)
      by false is false miss = inl (subst (λ ys. Contains ys y) (sym (after_is false is)) (contains_in_filter elsewhere stages y inside (ap not miss)))
      by false is true hit =
          let same : y ≡ s = st.staging.apart y s inside there (eqb-true y.ts s.ts hit) in
          let past : is_past_stage s view ≡ true = went_elsewhere s view unfinal (ap (λ n. is_staging_at n s.ts view) own.1 ∙ is) in
          inr (inr (subst (IsLateByRecord (k.heard ++ h ∷ [])) (sym same) (any_last (RefutesRecord s) k.heard h (record { asked = asked; past = ap (shows_past s) told ∙ past }))))

  late3 : AreLateByWrites after (k.heard ++ h ∷ []) reached
  late3 =
      all_from_contains (λ y. IsLate (k.heard ++ h ∷ []) y → Any (StandsAbove (k.heard ++ h ∷ []) reached y.ts) t.writes) after
      (λ y inside late.
      let R : Heard → Type 0 = λ h. RefutesWrite y h ⊎ RefutesRecord y h in
      any_above k.heard (h ∷ []) t reached rises y.ts t.writes
      (All-contains (λ y. IsLate k.heard y → Any (StandsAbove k.heard t y.ts) t.writes) stages y st.late (kept_before y inside).0
      (any_before R k.heard (h ∷ []) (All-cons (λ h. R h → ⊥) h [] (spares y inside) (All-nil (λ h. R h → ⊥))) late)))

  -- each of them that is earlier was late before
  earlier_late : (y : SentStage) → Contains stages y → (y.ts == s.ts) ≡ false → IsLate k.heard y
  earlier_late y inside miss =
      let low : y.ts ≤ s.ts = All-contains (λ y. y.ts ≤ s.ts) stages y last inside in
      let differs : y.ts ≢ s.ts = λ same. let hit : (y.ts == s.ts) ≡ true = eq-eqb y.ts s.ts same in absurd cc in
      st.staging.older y s inside there (omega (arith, low, differs))

  abbrev told_evidence : Evidence
  told_evidence = after_stage t.epoch s.ts h.step view x.staging

  -- where it stages so, that is where it was heard to stage last
  staged_then : is_staging_at t.epoch s.ts view ≡ true → told_evidence.staged ≡ Some s.ts
  staged_then is =
      let yes : Evidence = record (seen_undecided h.step x.staging) { staged = Some s.ts } in
      let no_more : Evidence = without_stage s.ts (seen_undecided h.step x.staging) in
      ap (λ b. (cond b x.staging (cond (is_staging_at t.epoch s.ts view) yes no_more)).staged) unfinal ∙ ap (λ b. (cond b yes no_more).staged) is

  live3 : AreLiveHere after (k.heard ++ h ∷ []) told_evidence.staged reached
  live3 =
      all_from_contains (λ y. (IsLate (k.heard ++ h ∷ []) y → ⊥) → IsStageHere (k.heard ++ h ∷ []) told_evidence.staged reached y) after
      (λ y inside unlate. by y inside unlate (y.ts == s.ts) refl (is_staging_at t.epoch s.ts view) refl)
    where
      by : (y : SentStage) → Contains after y → (IsLate (k.heard ++ h ∷ []) y → ⊥) → (b : Bool) → (y.ts == s.ts) ≡ b → (c : Bool) → is_staging_at t.epoch s.ts view ≡ c → IsStageHere (k.heard ++ h ∷ []) told_evidence.staged reached y
      by y inside unlate false miss c is = absurd (unlate (late_more k.heard (h ∷ []) y (earlier_late y (kept_before y inside).0 miss)))
      by y inside unlate true hit false is = absurd ((kept_before y inside).1 is (eqb-true y.ts s.ts hit))
      by y inside unlate true hit true is =
          let here : IsStageHere k.heard x.staging.staged t y =
          All-contains (λ y. (IsLate k.heard y → ⊥) → IsStageHere k.heard x.staging.staged t y) stages y st.live (kept_before y inside).0 (λ late. unlate (late_more k.heard (h ∷ []) y late)) in
          let own_ts : y.ts ≡ s.ts = eqb-true y.ts s.ts hit in
          let at : y.ts ≡ t.write_ts = here.at_write_ts in
          let there_it : undecided_ts view ≡ s.ts = staging_stands t.epoch s.ts view is in
          record { at_write_ts = omega (arith, at, own_ts, there_it, stands_at); heard_last = λ was. staged_then is ∙ ap Some (sym own_ts) }

  writes3 : WritesStand now.sent now.heard reached
  writes3 =
      let P : Request → Type 0 = λ r. (seq : ℕ) → IsNotWritten t seq (record { number = h.number; request = r; reply = h.reply; step = h.step }) in
      let none : (seq : ℕ) → IsNotWritten t seq h = subst P (sym asked) (λ seq put. absurd cc) in
      let w : WritesStand (k.sent ++ []) (k.heard ++ h ∷ []) t =
      writes_on k.sent [] k.heard (h ∷ []) t st.writes (All-push (λ h. (seq : ℕ) → IsNotWritten t seq h) [] h (All-nil (λ h. (seq : ℕ) → IsNotWritten t seq h)) none) in
      let v : WritesStand now.sent now.heard t = subst (λ ms. WritesStand ms now.heard t) (sym more.sent) (subst (λ hs. WritesStand (k.sent ++ []) hs t) (sym more.heard) w) in
      record { by_sequence = v.by_sequence; each_sent = v.each_sent; unwritten = v.unwritten; heard_proved = v.heard_proved; locked = v.locked; unanchored = v.unanchored }

  told_by : TxnStands now after commit reached (stage_told_at s.ts view recorded h.step x)
  told_by =
      let kept : Evidence = after_stage x.epoch s.ts h.step view x.staging in
      record {
        same = ap (λ (x : OpenTxn). record x { write_ts = max x.write_ts recorded; staging = kept }) st.same;
        number = omega (arith, st.number, more.begun);
        begun = st.begun;
        behind = omega (arith, st.behind);
        at_begin = st.at_begin;
        below = reach_raised k now [] (h ∷ []) more t reached refl recorded refl low st.below;
        views =
            subst (λ hs. All (IsUndecidedOf t) hs) (sym more.heard)
            (All-push (IsUndecidedOf t) k.heard h st.views (λ about. record {
              anchored = ap subject_anchor asked ∙ sym anchored;
              undecided = ap is_undecided_status told ∙ ap not unfinal;
              no_later = λ epoch ts is. shown_epoch k stages t st.accounted h is_shown epoch ts (and_from (is_about t.id h.request) (option_map_or (is_staging_at epoch ts) (view_in h.reply) false) about is);
            }));
        shown = st.shown ∙ sym (ap (last_shown t) sent-same);
        staged = subst (λ hs. AreStagedThere after hs reached) (sym more.heard) staged3;
        accounted =
            accounted_on k now [] (h ∷ []) more t reached refl stages after (λ ts above. any_above k.heard (h ∷ []) t reached rises ts t.writes above) known_after st.accounted
            (no_message t.id (IsAccountedFor after (k.heard ++ h ∷ []) reached));
        late = subst (λ hs. AreLateByWrites after hs reached) (sym more.heard) late3;
        live = subst (λ n. AreLiveHere after now.heard (after_stage n s.ts h.step view x.staging).staged reached) (sym epoch_is) (subst (λ hs. AreLiveHere after hs told_evidence.staged reached) (sym more.heard) live3);
        puts = subst (λ ms. All (λ m. PutsUpTo t (last_seq_of t.writes) m.request) ms) (sym sent-same) st.puts;
        put_heard =
            let P : Heard → Type 0 = λ h. PutsUpTo t (last_seq_of t.writes) h.request in
            subst (λ hs. All P hs) (sym more.heard)
            (All-push P k.heard h st.put_heard (subst (λ r. PutsUpTo t (last_seq_of t.writes) r) (sym asked) (λ epoch seq put. absurd cc)));
        found = subst (λ hs. All (IsFoundProved reached) hs) (sym more.heard) (found_same k.heard (h ∷ []) t reached refl refl refl st.found (finds_none_alone reached h (λ epoch seq. ap (λ r. finds t.id epoch seq r h.reply) asked)));
        writes = writes3;
        flight = flights_hold.on x.in_flight t reached st.flight refl (omega arith);
        staging = subst (λ n. StagingStands now after commit reached (after_stage n s.ts h.step view x.staging)) (sym epoch_is) staging3;
        reads = subst (λ hs. TxnReadsStand t.id hs t.reads x.reads) (sym more.heard) (stand_on t.id k.heard (h ∷ []) t.reads x.reads st.reads);
      }

  -- its stage was told this view
  pub stage_told : TxnStands now after commit (txn_heard k.sent (Some h) t) (stage_told_at s.ts view recorded h.step x)
  stage_told = subst (λ t2. TxnStands now after commit t2 (stage_told_at s.ts view recorded h.step x)) (sym heard-stage) told_by

-- ---- what may be sent and told

module _ (splits : List (List ℕ)) (actor : ActorId) (k : Known) (stages : List SentStage) (commit : Option SentCommit) (t : Txn) (x : OpenTxn) (st : TxnStands k stages commit t x) where
  -- it stages its writes in flight in a commit, where no earlier stage or commit stands in the way, and its reads are good
  pub may_stage : (anchor : List ℕ) (reading : ℕ) → open_txn k ≡ Some t → call_of k ≡ Some calls.Commit → reading_of k ≡ Some reading → t.anchor ≡ Some anchor → x.in_flight ≢ [] → is_passed_by x.staging ≡ true
      → All (IsGoodAt t.id k.heard t.write_ts) t.reads → MaySendRow splits actor k (stage_now x anchor reading)
  may_stage anchor reading opened asked read anchored some passed good =
      subst (λ x. MaySendRow splits actor k (stage_now x anchor reading)) (sym st.same)
      (inl (allows.stage k stages commit t x.staging x.in_flight (staged_now t x.in_flight anchor reading) st.staging st.flight passed
      (record {
        opened = opened;
        asked = asked;
        whose = record { anchored = anchored; same = refl };
        good = record { begun = omega (arith, st.begun, st.behind); reads = good };
        at_write_ts = refl;
        listed = refl;
        some = some;
        read_now = read;
        all_locks = refl;
      })))

  -- where nothing is in flight, and it was last heard to stage at its write timestamp, it is committed there by its stage
  pub may_tell_committed : is_staged_and_proved x.in_flight t.write_ts x.staging ≡ true → IsImplicit k t t.write_ts
  may_tell_committed is = implicit k stages commit t x.staging st.staging x.in_flight t.write_ts st.flight refl is
