-- A heartbeat of the open transaction goes out, and is heard.
use Rattle.std.proofs.Common.{◌≡◌, ℕ, ◌≤◌, max, true, false, not, cond, ◌⊎◌, List, [], ◌∷◌, ◌++◌, Option, Some, refl, sym, ap, ◌∙◌, subst, arith, All, Any, inl}
use Rattle.std.specs.Option.{option_map_or}
use Rattle.std.proofs.lemmas.Bool.{and_from}
use Rattle.std.proofs.lemmas.List.{append-nil}
use Rattle.std.proofs.lemmas.List.Elements.{All-cons, All-nil, All-push}
use Rattle.pc_base.specs.declared.actor.ActorId.{ActorId}
use Rattle.pc_base.specs.Transaction.{same_txn}
use Rattle.pc_flight.proofs.Holding.{flights_hold}
use Rattle.pc_follows.specs.Heartbeats.{last_shown}
use Rattle.pc_lists.proofs.Same.{same_txn-self}
use Rattle.pc_proto.specs.declared.meta.TxnMeta.{TxnMeta}
use Rattle.pc_proto.specs.declared.reply.Reply.{Reply}
use Rattle.pc_proto.specs.declared.reply.Reply.TheVariants as replies
use Rattle.pc_proto.specs.declared.request.Request.{Request}
use Rattle.pc_proto.specs.declared.request.Request.TheVariants as requests
use Rattle.pc_proto.specs.declared.view.View.{View}
use Rattle.pc_proto.specs.Replies.{is_undecided_status, view_in}
use Rattle.pc_proto.specs.Requests.{is_about, subject_anchor}
use Rattle.pc_proto.specs.Views.{is_final_view, is_staging_at, undecided_ts}
use Rattle.pc_reads.proofs.Goods.{stand_on}
use Rattle.pc_reads.specs.ReadsStanding.{TxnReadsStand}
use Rattle.pc_staging.proofs.Going.{staging_on}
use Rattle.pc_staging.proofs.Hears as hears
use Rattle.pc_staging.specs.Kept.{Evidence, seen_undecided}
use Rattle.pc_staging.specs.Laws.{LeavesStages, SendsNothingNew}
use Rattle.pc_staging.specs.Standing.{StagingStands, WasStagedAt}
use Rattle.pc_txn.proofs.Above.{StaysUp, reach_on, reach_raised, staged_or_above}
use Rattle.pc_txn.proofs.Accounted.{accounted_up, no_message, one_message, shown_epoch, shown_known}
use Rattle.pc_txn.proofs.Found.{finds_none_alone, found_same}
use Rattle.pc_txn.proofs.Keeping.{staged_split}
use Rattle.pc_txn.proofs.Late.{late_on, none_by_other, none_live, still_late}
use Rattle.pc_txn.proofs.Same.{if_true}
use Rattle.pc_txn.proofs.Shown.{shown-beat}
use Rattle.pc_txn.proofs.Written.{writes_on}
use Rattle.pc_txn.specs.declared.txn.OpenTxn.{OpenTxn}
use Rattle.pc_txn.specs.Silence.{own_beat, raised_at, shown_at}
use Rattle.pc_txn.specs.Standing.{AreLateByWrites, AreLiveHere, AreStagedThere, HasMovedOn, StandsAbove, IsUndecidedOf, TxnStands}
use Rattle.pc_txn.specs.Writing.{IsFoundProved, IsNotWritten, PutsUpTo, WritesStand, finds}
use Rattle.pc_world.specs.Known.{Known, open_txn, reading_of}
use Rattle.pc_world.specs.Known.Traffic.{Heard, Sent}
use Rattle.pc_world.specs.Known.Transactions.{Txn, txn_heard, txn_sent}
use Rattle.pc_world.specs.Known.Writes.{last_seq_of}
use Rattle.pc_world.specs.MaySend.{MaySendRow}
use Rattle.pc_world.specs.StageFate.{IsLate, RefutesRecord, RefutesWrite, SentCommit, SentStage}
use Rattle.pc_wave.specs.Shown.{ShowsSentStage}

module _ (k now : Known) (stages : List SentStage) (commit : Option SentCommit) (t : Txn) (x : OpenTxn) (anchor : List ℕ) (reading number range : ℕ) (st : TxnStands k stages commit t x) where
  abbrev m0 : Sent
  m0 = record { number = number; range = range; request = own_beat x reading anchor }

  module _ (more : HasMovedOn k now (m0 ∷ []) []) where
    heard-same : now.heard ≡ k.heard
    heard-same = more.heard ∙ append-nil k.heard

    same_own : same_txn x.id t.id ≡ true
    same_own = ap (λ (x : OpenTxn). same_txn x.id t.id) st.same ∙ same_txn-self t.id

    -- its heartbeat was sent
    pub beat_sent : TxnStands now stages commit (txn_sent (own_beat x reading anchor) t) (shown_at reading x)
    beat_sent = record {
      same = ap (shown_at reading) st.same;
      number = omega (arith, st.number, more.begun);
      begun = st.begun;
      behind = st.behind;
      at_begin = st.at_begin;
      below = reach_on k now (m0 ∷ []) [] more t t refl refl st.below;
      views = subst (λ hs. All (IsUndecidedOf t) hs) (sym heard-same) st.views;
      shown = sym (ap (last_shown t) more.sent ∙ shown-beat t k.sent number range (record { id = x.id; epoch = x.epoch; priority = x.priority; born = x.born; anchor = anchor }) x.write_ts reading same_own);
      staged = subst (λ hs. AreStagedThere stages hs t) (sym heard-same) st.staged;
      accounted = accounted_up k now (m0 ∷ []) [] more t t refl stages stages (record { id = refl; epoch = refl; up = omega arith }) refl refl (one_message t.id m0 (λ P. tt)) st.accounted;
      late = subst (λ hs. AreLateByWrites stages hs t) (sym heard-same) st.late;
      live = subst (λ hs. AreLiveHere stages hs x.staging.staged t) (sym heard-same) st.live;
      puts =
          subst (λ ms. All (λ m. PutsUpTo t (last_seq_of t.writes) m.request) ms) (sym more.sent)
          (All-push (λ m. PutsUpTo t (last_seq_of t.writes) m.request) k.sent m0 st.puts (λ epoch seq put. absurd cc));
      put_heard = subst (λ hs. All (λ h. PutsUpTo t (last_seq_of t.writes) h.request) hs) (sym heard-same) st.put_heard;
      found = subst (λ hs. All (IsFoundProved t) hs) (sym heard-same) st.found;
      writes =
          subst (λ ms. WritesStand ms now.heard t) (sym more.sent)
          (subst (λ hs. WritesStand (k.sent ++ m0 ∷ []) hs t) (sym more.heard) (writes_on k.sent (m0 ∷ []) k.heard [] t st.writes (All-nil (λ h. (seq : ℕ) → IsNotWritten t seq h))));
      flight = st.flight;
      staging =
          staging_on k now stages commit t t x.staging (m0 ∷ []) [] st.staging (record { sent = more.sent; heard = more.heard })
          (record { same = refl; no_earlier = omega arith; stays = inl (refl, λ key seq u. u) })
          (All-cons (λ (m : Sent). SendsNothingNew stages commit t.id m.request) m0 [] (record { stage = tt; commits = tt }) (All-nil (λ (m : Sent). SendsNothingNew stages commit t.id m.request)))
          (All-nil (LeavesStages stages t));
      reads = subst (λ hs. TxnReadsStand t.id hs t.reads x.reads) (sym heard-same) st.reads;
    }

module _ (k now : Known) (stages : List SentStage) (commit : Option SentCommit) (t : Txn) (x : OpenTxn) (meta : TxnMeta) (ts reading : ℕ) (view : View) (recorded : ℕ) (h : Heard) (st : TxnStands k stages commit t x) (whose : meta.id ≡ t.id)
    (anchored : t.anchor ≡ Some meta.anchor) (asked : h.request ≡ requests.Beat meta ts reading) (told : h.reply ≡ replies.Status view) (unfinal : is_final_view view ≡ false) (stands_at : undecided_ts view ≡ recorded)
    (is_shown : ShowsSentStage k t.id h)
    (all_late : All (IsLate k.heard) stages) (more : HasMovedOn k now [] (h ∷ [])) (low : recorded ≤ now.high) where
  -- The transaction once its record was heard to stand there.
  abbrev raised : Txn
  raised = record t { write_ts = max t.write_ts recorded }

  heard-beat : txn_heard k.sent (Some h) t ≡ raised
  heard-beat =
      let F : Request → Reply → Txn = λ r y. txn_heard k.sent (Some (record { number = h.number; request = r; reply = y; step = h.step })) t in
      let G : ℕ → Txn = λ n. record t { write_ts = max t.write_ts n } in
      ap (λ r. F r h.reply) asked ∙ ap (F (requests.Beat meta ts reading)) told
      ∙ ap G (if_true (same_txn meta.id t.id) (undecided_ts view) 0 (ap (λ id. same_txn id t.id) whose ∙ same_txn-self t.id) ∙ stands_at)

  sent-same : now.sent ≡ k.sent
  sent-same = more.sent ∙ append-nil k.sent

  staging2 : StagingStands now stages commit raised (seen_undecided h.step x.staging)
  staging2 =
      subst (λ t2. StagingStands now stages commit t2 (seen_undecided h.step x.staging)) heard-beat
      (hears.beat_heard k now stages commit t x.staging st.staging h (record { sent = more.sent; heard = more.heard }) view
      (record { grown = record { sent = more.sent; heard = more.heard }; meta = meta; ts = ts; reading = reading; asked = asked; whose = whose; told = told }) h.step
      (seen_undecided h.step x.staging) refl (sym (ap (λ b. cond b x.staging (seen_undecided h.step x.staging)) unfinal)))

  writes2 : WritesStand now.sent now.heard raised
  writes2 =
      let P : Request → Type 0 = λ r. (seq : ℕ) → IsNotWritten t seq (record { number = h.number; request = r; reply = h.reply; step = h.step }) in
      let none : (seq : ℕ) → IsNotWritten t seq h = subst P (sym asked) (λ seq put. absurd cc) in
      let w : WritesStand (k.sent ++ []) (k.heard ++ h ∷ []) t =
      writes_on k.sent [] k.heard (h ∷ []) t st.writes (All-push (λ h. (seq : ℕ) → IsNotWritten t seq h) [] h (All-nil (λ h. (seq : ℕ) → IsNotWritten t seq h)) none) in
      let v : WritesStand now.sent now.heard t = subst (λ ms. WritesStand ms now.heard t) (sym more.sent) (subst (λ hs. WritesStand (k.sent ++ []) hs t) (sym more.heard) w) in
      record { by_sequence = v.by_sequence; each_sent = v.each_sent; unwritten = v.unwritten; heard_proved = v.heard_proved; locked = v.locked; unanchored = v.unanchored }

  rises : StaysUp t raised
  rises = record { id = refl; epoch = refl; up = omega arith }

  raised_by : TxnStands now stages commit raised (raised_at recorded h.step x)
  raised_by =
      let kept : Evidence = x.staging in
      record {
        same = ap (λ (x : OpenTxn). record x { write_ts = max x.write_ts recorded; staging = seen_undecided h.step kept }) st.same;
        number = omega (arith, st.number, more.begun);
        begun = st.begun;
        behind = omega (arith, st.behind);
        at_begin = st.at_begin;
        below = reach_raised k now [] (h ∷ []) more t raised refl recorded refl low st.below;
        views =
            subst (λ hs. All (IsUndecidedOf t) hs) (sym more.heard)
            (All-push (IsUndecidedOf t) k.heard h st.views (λ about. record {
              anchored = ap subject_anchor asked ∙ sym anchored;
              undecided = ap is_undecided_status told ∙ ap not unfinal;
              no_later = λ epoch at is. shown_epoch k stages t st.accounted h is_shown epoch at (and_from (is_about t.id h.request) (option_map_or (is_staging_at epoch at) (view_in h.reply) false) about is);
            }));
        shown = st.shown ∙ sym (ap (last_shown t) sent-same);
        staged = λ at was.
            subst (λ hs. Any (λ s. s.ts ≡ at) stages ⊎ Any (StandsAbove hs raised at) t.writes) (sym more.heard)
            (staged_or_above k.heard (h ∷ []) t raised rises stages at t.writes (staged_split k.heard h t stages at st.staged (shown_known k stages t st.accounted h is_shown at) (subst (λ hs. WasStagedAt hs t at) more.heard was)));
        late =
            subst (λ hs. AreLateByWrites stages hs raised) (sym more.heard)
            (late_on k.heard (h ∷ []) t raised stages rises refl st.late
            (λ s there.
            All-cons (λ h. RefutesWrite s h ⊎ RefutesRecord s h → ⊥) h [] (none_by_other s h (requests.Beat meta ts reading) asked (λ reply. refl) (λ e. absurd cc))
            (All-nil (λ h. RefutesWrite s h ⊎ RefutesRecord s h → ⊥))));
        accounted = accounted_up k now [] (h ∷ []) more t raised refl stages stages rises refl refl (no_message t.id) st.accounted;
        live = none_live now.heard x.staging.staged raised stages (subst (λ hs. All (IsLate hs) stages) (sym more.heard) (still_late k.heard (h ∷ []) stages all_late));
        puts = subst (λ ms. All (λ m. PutsUpTo t (last_seq_of t.writes) m.request) ms) (sym sent-same) st.puts;
        put_heard =
            let P : Heard → Type 0 = λ h. PutsUpTo t (last_seq_of t.writes) h.request in
            subst (λ hs. All P hs) (sym more.heard)
            (All-push P k.heard h st.put_heard (subst (λ r. PutsUpTo t (last_seq_of t.writes) r) (sym asked) (λ epoch seq put. absurd cc)));
        found = subst (λ hs. All (IsFoundProved raised) hs) (sym more.heard) (found_same k.heard (h ∷ []) t raised refl refl refl st.found (finds_none_alone raised h (λ epoch seq. ap (λ r. finds t.id epoch seq r h.reply) asked)));
        writes = writes2;
        flight = flights_hold.on x.in_flight t raised st.flight refl (omega arith);
        staging = staging2;
        reads = subst (λ hs. TxnReadsStand t.id hs t.reads x.reads) (sym more.heard) (stand_on t.id k.heard (h ∷ []) t.reads x.reads st.reads);
      }

  -- and heard, of a record that is not final
  pub beat_heard : TxnStands now stages commit (txn_heard k.sent (Some h) t) (raised_at recorded h.step x)
  beat_heard = subst (λ t2. TxnStands now stages commit t2 (raised_at recorded h.step x)) (sym heard-beat) raised_by

-- it may be sent, where the call was asked at its reading
pub may_beat : (splits : List (List ℕ)) (actor : ActorId) (k : Known) (stages : List SentStage) (commit : Option SentCommit) (t : Txn) (x : OpenTxn) → TxnStands k stages commit t x → open_txn k ≡ Some t → (reading : ℕ) (anchor : List ℕ) → t.anchor ≡ Some anchor → reading_of k ≡ Some reading
    → MaySendRow splits actor k (own_beat x reading anchor)
may_beat splits actor k stages commit t x st opened reading anchor anchored read =
    subst (λ x. MaySendRow splits actor k (own_beat x reading anchor)) (sym st.same)
    (record { t = t; opened = opened; whose = record { anchored = anchored; same = refl }; at_write_ts = refl; read_now = read })
