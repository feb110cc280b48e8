-- A commit of the open transaction goes out, and is refused.
use Rattle.std.proofs.Common.{◌≡◌, ℕ, ◌<◌, ◌≤◌, max, true, false, not, ◌⊎◌, List, [], ◌∷◌, ◌++◌, Option, Some, None, refl, sym, ap, ◌∙◌, subst, arith, All, Any, IsTrue}
use Rattle.std.specs.Option.{option_map_or}
use Rattle.std.proofs.lemmas.Bool.{and_from}
use Rattle.std.proofs.lemmas.List.{append-nil}
use Rattle.std.proofs.lemmas.List.Elements.{All-cons, All-nil, All-push}
use Rattle.pc_base.specs.declared.span.Span.{Span}
use Rattle.pc_base.specs.Transaction.{same_txn}
use Rattle.pc_flight.proofs.Holding.{flights_hold}
use Rattle.pc_follows.specs.Heartbeats.{last_shown}
use Rattle.pc_flight.specs.declared.write.WriteInFlight.{WriteInFlight}
use Rattle.pc_lists.proofs.Same.{same_txn-self}
use Rattle.pc_proto.specs.declared.reply.Reply.{Reply}
use Rattle.pc_proto.specs.declared.reply.Reply.TheVariants as replies
use Rattle.pc_proto.specs.declared.request.Request.{Request}
use Rattle.pc_proto.specs.declared.view.View.{View}
use Rattle.pc_proto.specs.declared.why.Why.{Why}
use Rattle.pc_proto.specs.Replies.{is_undecided_status, view_in}
use Rattle.pc_proto.specs.Requests.{is_about, subject_anchor}
use Rattle.pc_proto.specs.Views.{is_final_view, is_staging_at, undecided_ts}
use Rattle.pc_reads.proofs.Goods.{stand_on}
use Rattle.pc_reads.specs.ReadsStanding.{TxnReadsStand}
use Rattle.pc_staging.proofs.Hears as hears
use Rattle.pc_staging.proofs.Sending.{commit_stands}
use Rattle.pc_staging.specs.Kept.{Evidence, is_passed_by, seen_undecided}
use Rattle.pc_staging.specs.Standing.{StagingStands, WasStagedAt}
use Rattle.pc_txn.proofs.Above.{StaysUp, reach_on, reach_raised, staged_or_above}
use Rattle.pc_txn.proofs.Accounted.{accounted_up, no_message, one_message, shown_epoch, shown_known}
use Rattle.pc_txn.proofs.Found.{finds_none_alone, found_same}
use Rattle.pc_txn.proofs.Keeping.{staged_split}
use Rattle.pc_txn.proofs.Late.{late_on, live_on, none_by_other, none_live, still_late}
use Rattle.pc_txn.proofs.Same.{if_true}
use Rattle.pc_txn.proofs.Shown.{shown-one}
use Rattle.pc_txn.proofs.Written.{writes_on}
use Rattle.pc_txn.specs.declared.txn.OpenTxn.{OpenTxn}
use Rattle.pc_txn.specs.Opened.{with_commit, opened_as, own_commit, refused_at}
use Rattle.pc_txn.specs.Standing.{AreLateByWrites, AreLiveHere, HasMovedOn, StandsAbove, IsUndecidedOf, TxnStands}
use Rattle.pc_txn.specs.Writing.{IsFoundProved, IsNotWritten, PutsUpTo, WritesStand, finds}
use Rattle.pc_world.specs.Known.{Known}
use Rattle.pc_world.specs.Known.Reads.{IsGoodAt}
use Rattle.pc_world.specs.Known.Traffic.{Heard, Sent}
use Rattle.pc_world.specs.Known.Transactions.{Txn, meta_of, txn_heard, txn_sent}
use Rattle.pc_world.specs.Known.Writes.{last_seq_of}
use Rattle.pc_world.specs.StageFate.{IsLate, RefutesRecord, RefutesWrite, SentCommit, SentStage, commit_request}
use Rattle.pc_wave.specs.Shown.{ShowsSentStage}
use Rattle.pc_world.specs.Tell.End.{shows_staging}

-- The commit of the transaction, with this anchor.
abbrev pub commit_now : Txn → List ℕ → SentCommit
commit_now t anchor = record { meta = meta_of t anchor; ts = t.write_ts; locks = t.locks }

-- The transaction once its commit was sent.
abbrev pub read_on : Txn → Txn
read_on t = record t { read_ts = t.write_ts }

sent-commit : (t : Txn) (anchor : List ℕ) → t.read_ts ≤ t.write_ts → txn_sent (commit_request (commit_now t anchor)) t ≡ read_on t
sent-commit t anchor behind =
    let F : ℕ → Txn = λ n. record t { read_ts = n } in
    let top : max t.read_ts t.write_ts ≡ t.write_ts = omega arith in
    ap F (if_true (same_txn t.id t.id) (max t.read_ts t.write_ts) t.read_ts (same_txn-self t.id) ∙ top)

module _ (k now : Known) (stages : List SentStage) (commit : Option SentCommit) (shown : ℕ) (cause : Why) (spans : List Span) (flight : List WriteInFlight) (evidence : Evidence) (t : Txn) (anchor : List ℕ) (number range : ℕ) where
  abbrev x0 : OpenTxn
  x0 = opened_as shown cause spans flight evidence t

  abbrev m0 : Sent
  m0 = record { number = number; range = range; request = commit_request (commit_now t anchor) }

  abbrev c0 : SentCommit
  c0 = commit_now t anchor

  module _ (st : TxnStands k stages commit t x0) (passed : is_passed_by evidence ≡ true) (anchored : t.anchor ≡ Some anchor) (good : All (IsGoodAt t.id k.heard t.write_ts) t.reads) (more : HasMovedOn k now (m0 ∷ []) []) where
    heard-same : now.heard ≡ k.heard
    heard-same = more.heard ∙ append-nil k.heard

    writes2 : WritesStand now.sent now.heard (read_on t)
    writes2 =
        let w : WritesStand (k.sent ++ m0 ∷ []) (k.heard ++ []) t = writes_on k.sent (m0 ∷ []) k.heard [] t st.writes (All-nil (λ h. (seq : ℕ) → IsNotWritten t seq h)) in
        let v : WritesStand now.sent now.heard t = subst (λ ms. WritesStand ms now.heard t) (sym more.sent) (subst (λ hs. WritesStand (k.sent ++ m0 ∷ []) hs t) (sym more.heard) w) in
        record { by_sequence = v.by_sequence; each_sent = v.each_sent; unwritten = v.unwritten; heard_proved = v.heard_proved; locked = v.locked; unanchored = v.unanchored }

    reads_up : StaysUp t (read_on t)
    reads_up = record { id = refl; epoch = refl; up = omega arith }

    committing_by : TxnStands now stages (Some c0) (read_on t) (with_commit x0)
    committing_by = record {
      same = refl;
      number = omega (arith, st.number, more.begun);
      begun = omega (arith, st.begun, st.behind);
      behind = omega arith;
      at_begin = λ none. let e : Some anchor ≡ None = sym anchored ∙ none in absurd cc;
      below = reach_on k now (m0 ∷ []) [] more t (read_on t) refl refl st.below;
      views = subst (λ hs. All (IsUndecidedOf t) hs) (sym heard-same) st.views;
      shown = st.shown ∙ sym (ap (last_shown t) more.sent ∙ shown-one t k.sent m0 refl);
      staged = λ ts was. subst (λ hs. Any (λ s. s.ts ≡ ts) stages ⊎ Any (StandsAbove hs (read_on t) ts) t.writes) (sym more.heard) (staged_or_above k.heard [] t (read_on t) reads_up stages ts t.writes (st.staged ts (subst (λ hs. WasStagedAt hs t ts) heard-same was)));
      accounted = accounted_up k now (m0 ∷ []) [] more t (read_on t) refl stages stages reads_up refl refl (one_message t.id m0 (λ P. tt)) st.accounted;
      late = subst (λ hs. AreLateByWrites stages hs (read_on t)) (sym more.heard) (late_on k.heard [] t (read_on t) stages reads_up refl st.late (λ s there. All-nil (λ h. RefutesWrite s h ⊎ RefutesRecord s h → ⊥)));
      live =
          subst (λ hs. AreLiveHere stages hs evidence.staged (read_on t)) (sym more.heard)
          (live_on k.heard [] evidence.staged t (read_on t) stages refl refl refl (All-nil (λ h. (ts : ℕ) → IsTrue (shows_staging t.id t.epoch ts h) → ⊥)) st.live);
      puts =
          subst (λ ms. All (λ m. PutsUpTo t (last_seq_of t.writes) m.request) ms) (sym more.sent)
          (All-push (λ m. PutsUpTo t (last_seq_of t.writes) m.request) k.sent m0 st.puts (λ epoch seq put. absurd cc));
      put_heard = subst (λ hs. All (λ h. PutsUpTo t (last_seq_of t.writes) h.request) hs) (sym heard-same) st.put_heard;
      found = subst (λ hs. All (IsFoundProved (read_on t)) hs) (sym heard-same) st.found;
      writes = writes2;
      flight = flights_hold.on flight t (read_on t) st.flight refl (omega arith);
      staging =
          subst (λ t2. StagingStands now stages (Some c0) t2 (record evidence { commit = Some t.write_ts })) (sent-commit t anchor st.behind)
          (commit_stands k now stages commit t evidence c0 st.staging passed
          (record { sends = record { m = m0; grown = record { sent = more.sent; heard = more.heard }; said = refl }; whose = refl; at_write_ts = refl }));
      reads =
          let s : TxnReadsStand t.id k.heard t.reads (record { spans = spans; ts = t.read_ts }) = st.reads in
          subst (λ hs. TxnReadsStand t.id hs t.reads (record { spans = spans; ts = t.write_ts })) (sym heard-same) (record { kept = s.kept; of_reads = s.of_reads; good = good; ordered = s.ordered });
    }

-- its commit was sent
pub commit_sent : (k now : Known) (stages : List SentStage) (commit : Option SentCommit) (t : Txn) (x : OpenTxn) (anchor : List ℕ) (number range : ℕ) → TxnStands k stages commit t x → is_passed_by x.staging ≡ true → t.anchor ≡ Some anchor
    → All (IsGoodAt t.id k.heard t.write_ts) t.reads
    → HasMovedOn k now (record { number = number; range = range; request = own_commit x anchor } ∷ []) [] → TxnStands now stages (Some (commit_now t anchor)) (txn_sent (own_commit x anchor) t) (with_commit x)
commit_sent k now stages commit t x anchor number range st passed anchored good more =
    let P : OpenTxn → Type 0 = λ x.
    TxnStands k stages commit t x → is_passed_by x.staging ≡ true → HasMovedOn k now (record { number = number; range = range; request = own_commit x anchor } ∷ []) []
    → TxnStands now stages (Some (commit_now t anchor)) (txn_sent (own_commit x anchor) t) (with_commit x) in
    let at : P (opened_as x.shown x.cause x.reads.spans x.in_flight x.staging t) = λ st passed more.
    subst (λ t2. TxnStands now stages (Some (commit_now t anchor)) t2 (with_commit (opened_as x.shown x.cause x.reads.spans x.in_flight x.staging t))) (sym (sent-commit t anchor st.behind))
    (committing_by k now stages commit x.shown x.cause x.reads.spans x.in_flight x.staging t anchor number range st passed anchored good more) in
    subst P (sym st.same) at st passed more

module _ (k now : Known) (stages : List SentStage) (t : Txn) (x : OpenTxn) (c : SentCommit) (view : View) (recorded : ℕ) (h : Heard) (st : TxnStands k stages (Some c) t x) (anchored : t.anchor ≡ Some c.meta.anchor)
    (asked : h.request ≡ commit_request c) (told : h.reply ≡ replies.Status view) (unfinal : is_final_view view ≡ false) (stands_at : undecided_ts view ≡ recorded) (past : c.ts < recorded)
    (is_shown : ShowsSentStage k t.id h)
    (more : HasMovedOn k now [] (h ∷ [])) (low : recorded ≤ now.high) where
  -- The transaction once its record was heard to stand there.
  abbrev risen : Txn
  risen = record t { write_ts = max t.write_ts recorded }

  whose : c.meta.id ≡ t.id
  whose = st.staging.out.whose

  heard-commit : txn_heard k.sent (Some h) t ≡ risen
  heard-commit =
      let F : Request → Reply → Txn = λ r y. txn_heard k.sent (Some (record { number = h.number; request = r; reply = y; step = h.step })) t in
      let G : ℕ → Txn = λ n. record t { write_ts = max t.write_ts n } in
      ap (λ r. F r h.reply) asked ∙ ap (F (commit_request c)) told
      ∙ ap G (if_true (same_txn c.meta.id t.id) (undecided_ts view) 0 (ap (λ id. same_txn id t.id) whose ∙ same_txn-self t.id) ∙ stands_at)

  sent-same : now.sent ≡ k.sent
  sent-same = more.sent ∙ append-nil k.sent

  staging3 : StagingStands now stages None risen (record (seen_undecided h.step x.staging) { commit = None })
  staging3 =
      subst (λ t2. StagingStands now stages None t2 (record (seen_undecided h.step x.staging) { commit = None })) heard-commit
      (hears.commit_refused k now stages t x.staging c st.staging h view
      (record { grown = record { sent = more.sent; heard = more.heard }; asked = asked; told = told; past = λ other. subst (λ n. c.ts < n) (sym stands_at) past }) unfinal h.step refl)

  writes3 : WritesStand now.sent now.heard risen
  writes3 =
      let P : Request → Type 0 = λ r. (seq : ℕ) → IsNotWritten t seq (record { number = h.number; request = r; reply = h.reply; step = h.step }) in
      let none : (seq : ℕ) → IsNotWritten t seq h = subst P (sym asked) (λ seq put. absurd cc) in
      let w : WritesStand (k.sent ++ []) (k.heard ++ h ∷ []) t =
      writes_on k.sent [] k.heard (h ∷ []) t st.writes (All-push (λ h. (seq : ℕ) → IsNotWritten t seq h) [] h (All-nil (λ h. (seq : ℕ) → IsNotWritten t seq h)) none) in
      let v : WritesStand now.sent now.heard t = subst (λ ms. WritesStand ms now.heard t) (sym more.sent) (subst (λ hs. WritesStand (k.sent ++ []) hs t) (sym more.heard) w) in
      record { by_sequence = v.by_sequence; each_sent = v.each_sent; unwritten = v.unwritten; heard_proved = v.heard_proved; locked = v.locked; unanchored = v.unanchored }

  rises : StaysUp t risen
  rises = record { id = refl; epoch = refl; up = omega arith }

  refused_by : TxnStands now stages None risen (refused_at recorded h.step x)
  refused_by =
      let kept : Evidence = x.staging in
      record {
        same = ap (λ (x : OpenTxn). record x { write_ts = max x.write_ts recorded; staging = record (seen_undecided h.step kept) { commit = None } }) st.same;
        number = omega (arith, st.number, more.begun);
        begun = st.begun;
        behind = omega (arith, st.behind);
        at_begin = st.at_begin;
        below = reach_raised k now [] (h ∷ []) more t risen refl recorded refl low st.below;
        views =
            subst (λ hs. All (IsUndecidedOf t) hs) (sym more.heard)
            (All-push (IsUndecidedOf t) k.heard h st.views (λ about. record {
              anchored = ap subject_anchor asked ∙ sym anchored;
              undecided = ap is_undecided_status told ∙ ap not unfinal;
              no_later = λ epoch ts is. shown_epoch k stages t st.accounted h is_shown epoch ts (and_from (is_about t.id h.request) (option_map_or (is_staging_at epoch ts) (view_in h.reply) false) about is);
            }));
        shown = st.shown ∙ sym (ap (last_shown t) sent-same);
        staged = λ ts was.
            subst (λ hs. Any (λ s. s.ts ≡ ts) stages ⊎ Any (StandsAbove hs risen ts) t.writes) (sym more.heard)
            (staged_or_above k.heard (h ∷ []) t risen rises stages ts t.writes (staged_split k.heard h t stages ts st.staged (shown_known k stages t st.accounted h is_shown ts) (subst (λ hs. WasStagedAt hs t ts) more.heard was)));
        accounted = accounted_up k now [] (h ∷ []) more t risen refl stages stages rises refl refl (no_message t.id) st.accounted;
        late =
            subst (λ hs. AreLateByWrites stages hs risen) (sym more.heard)
            (late_on k.heard (h ∷ []) t risen stages rises refl st.late
            (λ s there.
            All-cons (λ h. RefutesWrite s h ⊎ RefutesRecord s h → ⊥) h [] (none_by_other s h (commit_request c) asked (λ reply. refl) (λ e. absurd cc))
            (All-nil (λ h. RefutesWrite s h ⊎ RefutesRecord s h → ⊥))));
        live = none_live now.heard x.staging.staged risen stages (subst (λ hs. All (IsLate hs) stages) (sym more.heard) (still_late k.heard (h ∷ []) stages (st.staging.behind_commit c refl)));
        puts = subst (λ ms. All (λ m. PutsUpTo t (last_seq_of t.writes) m.request) ms) (sym sent-same) st.puts;
        put_heard =
            let P : Heard → Type 0 = λ h. PutsUpTo t (last_seq_of t.writes) h.request in
            subst (λ hs. All P hs) (sym more.heard)
            (All-push P k.heard h st.put_heard (subst (λ r. PutsUpTo t (last_seq_of t.writes) r) (sym asked) (λ epoch seq put. absurd cc)));
        found = subst (λ hs. All (IsFoundProved risen) hs) (sym more.heard) (found_same k.heard (h ∷ []) t risen refl refl refl st.found (finds_none_alone risen h (λ epoch seq. ap (λ r. finds t.id epoch seq r h.reply) asked)));
        writes = writes3;
        flight = flights_hold.on x.in_flight t risen st.flight refl (omega arith);
        staging = staging3;
        reads = subst (λ hs. TxnReadsStand t.id hs t.reads x.reads) (sym more.heard) (stand_on t.id k.heard (h ∷ []) t.reads x.reads st.reads);
      }

  -- its commit was refused
  pub commit_refused : TxnStands now stages None (txn_heard k.sent (Some h) t) (refused_at recorded h.step x)
  commit_refused = subst (λ t2. TxnStands now stages None t2 (refused_at recorded h.step x)) (sym heard-commit) refused_by
