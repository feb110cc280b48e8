-- A write of the open transaction goes out, for the first time or again, and is written.
use Rattle.std.proofs.Common.{◌≡◌, ℕ, ◌+◌, ◌<◌, ◌≤◌, max, nat_lt, Bool, true, false, not, cond, ◌&&◌, ◌==◌, inl, inr, ◌⊎◌, List, [], ◌∷◌, ◌++◌, map, filter, Option, Some, None, refl, sym, ap, ◌∙◌, subst, arith, All, Any, Contains, IsTrue, unwrap_or}
use Rattle.std.specs.List.{list_any}
use Rattle.std.specs.Option.{option_or}
use Rattle.std.proofs.lemmas.Bool.{and_from, and_parts, eq-eqb, ltb-false, ltb-true}
use Rattle.std.proofs.lemmas.List.{append-nil}
use Rattle.std.proofs.lemmas.List.Elements.{All-contains, All-cons, All-nil, All-push, All-weaker, Contains-push}
use Rattle.pc_base.specs.declared.span.Span.{Span}
use Rattle.pc_base.specs.declared.transaction.TxnId.{TxnId}
use Rattle.pc_base.specs.Span.{same_key}
use Rattle.pc_base.specs.Transaction.{same_txn}
use Rattle.pc_flight.proofs.Holding.{added_stands, flights_hold, heard_stands}
use Rattle.pc_follows.specs.Heartbeats.{last_shown}
use Rattle.pc_flight.specs.declared.write.WriteInFlight.{WriteInFlight}
use Rattle.pc_flight.specs.InFlight.{FlightStands, is_another}
use Rattle.pc_flight.specs.Laws.{IsKnownUnproved}
use Rattle.pc_lists.proofs.Anywhere.{any_kept, any_last}
use Rattle.pc_lists.proofs.Lists.{all_from_contains}
use Rattle.pc_lists.proofs.Same.{same_key-equal, same_txn-self}
use Rattle.pc_proto.specs.declared.meta.TxnMeta.{TxnMeta}
use Rattle.pc_proto.specs.declared.reply.Reply.{Reply}
use Rattle.pc_proto.specs.declared.reply.Reply.TheVariants as replies
use Rattle.pc_proto.specs.declared.request.Request.{Request}
use Rattle.pc_proto.specs.declared.request.Request.TheVariants as requests
use Rattle.pc_proto.specs.declared.why.Why.{Why}
use Rattle.pc_proto.specs.Requests.{is_about, is_put_of, subject_anchor}
use Rattle.pc_reads.proofs.Goods.{stand_on}
use Rattle.pc_reads.specs.ReadsStanding.{TxnReadsStand}
use Rattle.pc_staging.proofs.Going.{again_proves, staging_on}
use Rattle.pc_staging.proofs.Hears.{refutes_above, written_heard}
use Rattle.pc_staging.proofs.Sending.{forgets}
use Rattle.pc_staging.proofs.Steps.{lt_true}
use Rattle.pc_staging.specs.Hearing.{HearsWritten}
use Rattle.pc_staging.specs.Kept.{Evidence, is_over, refuted_above, with_stages, without_stages}
use Rattle.pc_staging.specs.Laws.{LeavesStages, ProvesOn, SendsNothingNew}
use Rattle.pc_staging.specs.Standing.{HasUnproved, StagingStands, WasStagedAt, WasStageSent}
use Rattle.pc_txn.proofs.Above.{StaysUp, any_above, any_proved, reach_on, reach_raised, split_proved}
use Rattle.pc_txn.proofs.Accounted.{accounted_on, kept_at, no_message, one_message}
use Rattle.pc_txn.proofs.Found.{asked_proved, finds_none_alone, found_on, placed_proved}
use Rattle.pc_txn.proofs.Keeping.{shows_none, staged_before}
use Rattle.pc_txn.proofs.Late.{dead_late, kept_above, live_on, none_by, none_live}
use Rattle.pc_txn.proofs.Lists.{any_before, any_mapped, any_numbered, none_among}
use Rattle.pc_txn.proofs.Proves.{written_proves}
use Rattle.pc_txn.proofs.Puts.{anchor-some, own_seq, puts-own, puts-one, puts-up}
use Rattle.pc_txn.proofs.Same.{if_true, same_epoch-self}
use Rattle.pc_txn.proofs.Shown.{shown-one}
use Rattle.pc_txn.proofs.Writes.{asked-key, asked-last_seq, asked-proofs, asked-seq, below_last, last_seq-push, none_later, proved-last_seq, put-again, put-new}
use Rattle.pc_txn.proofs.Written.{laid, laid_again, new_write, proved_stays, writes_laid, writes_landed, writes_resent}
use Rattle.pc_txn.specs.declared.txn.OpenTxn.{OpenTxn}
use Rattle.pc_txn.specs.Opened.{landed_at, next_put, opened_as, put_at, with_next_write}
use Rattle.pc_txn.specs.Standing.{AreLateByWrites, AreLiveHere, AreStagedThere, HasMovedOn, StandsAbove, IsAccountedFor, IsStageHere, IsUndecidedOf, TxnStands, WasMissedAt}
use Rattle.pc_txn.specs.Writing.{IsFoundProved, IsNotWritten, IsProvedAt, IsUnwrittenWhereUnproved, PutsUpTo, WasAskedAt, WasWriteSent, WritesStand, finds}
use Rattle.pc_world.specs.Known.{Known}
use Rattle.pc_world.specs.Known.Traffic.{Heard, Sent}
use Rattle.pc_world.specs.Known.Transactions.{Txn, lists_write, meta_of, txn_heard, txn_sent, with_lock}
use Rattle.pc_world.specs.Known.Writes.{Write, asked_again, is_proved, last_seq_of, proved_at}
use Rattle.pc_world.specs.StageFate.{IsLate, RefutesRecord, RefutesWrite, SentCommit, SentStage, is_write_refuted}
use Rattle.pc_world.specs.Tell.End.{shows_staging}

abbrev put_next : List ℕ → Option (List ℕ) → Txn → Request
put_next key value t = requests.Put (meta_of t (unwrap_or t.anchor key)) (last_seq_of t.writes + 1) t.write_ts key value

sent-next : (key : List ℕ) (value : Option (List ℕ)) (t : Txn) → txn_sent (put_next key value t) t ≡ laid key value t
sent-next key value t =
    let F : Option (List ℕ) → List (List ℕ) → List Write → Txn = λ a l w. record t { anchor = a; locks = l; writes = w } in
    let r = put_next key value t in
    ap (λ a. F a (txn_sent r t).locks (txn_sent r t).writes) (if_true (same_txn t.id t.id) (option_or t.anchor (Some key)) t.anchor (same_txn-self t.id) ∙ anchor-some t.anchor key)
    ∙ ap (λ l. F (Some (unwrap_or t.anchor key)) l (txn_sent r t).writes) (if_true (same_txn t.id t.id) (with_lock key t.locks) t.locks (same_txn-self t.id))
    ∙ ap (F (Some (unwrap_or t.anchor key)) (with_lock key t.locks))
    (if_true (same_txn t.id t.id && (t.epoch == t.epoch)) _ t.writes (same_epoch-self t.id t.epoch)
    ∙ put-new (last_seq_of t.writes + 1) t.write_ts key value t.writes refl)

last-laid : (key : List ℕ) (value : Option (List ℕ)) (t : Txn) → last_seq_of (laid key value t).writes ≡ last_seq_of t.writes + 1
last-laid key value t = let e = last_seq-push t.writes (new_write (last_seq_of t.writes + 1) t.write_ts key value) in omega (arith, e)

about-anchored : (id : TxnId) (request : Request) → is_about id request ≡ true → subject_anchor request ≡ None → ⊥
about-anchored id (requests.Get other epoch seq ts key) about none = cc
about-anchored id (requests.Scan other epoch seq ts span) about none = cc
about-anchored id (requests.Put meta seq ts key value) about none = cc
about-anchored id (requests.Refresh other from to span) about none = cc
about-anchored id (requests.Query other epoch seq ts key by) about none = cc
about-anchored id (requests.Resolve other key fate) about none = cc
about-anchored id requests.Records about none = cc
about-anchored id request about none = cc

anchor-kept : (id : TxnId) (key : List ℕ) (request : Request) (anchor : Option (List ℕ)) → is_about id request ≡ true → subject_anchor request ≡ anchor → subject_anchor request ≡ Some (unwrap_or anchor key)
anchor-kept id key request None about is = absurd (about-anchored id request about is)
anchor-kept id key request (Some anchor) about is = is

-- what was heard of its record stands once it laid a write
undecided-laid : (key : List ℕ) (value : Option (List ℕ)) (t : Txn) (h : Heard) → IsUndecidedOf t h → IsUndecidedOf (laid key value t) h
undecided-laid key value t h undecided = λ about.
    let v = undecided about in
    record { anchored = anchor-kept t.id key h.request t.anchor about v.anchored; undecided = v.undecided; no_later = v.no_later }

-- nothing new of stages and commits is sent by a put
put_new : (stages : List SentStage) (commit : Option SentCommit) (id : TxnId) (number range : ℕ) (meta : TxnMeta) (seq ts : ℕ) (key : List ℕ) (value : Option (List ℕ))
    → All (λ (m : Sent). SendsNothingNew stages commit id m.request) (record { number = number; range = range; request = requests.Put meta seq ts key value } ∷ [])
put_new stages commit id number range meta seq ts key value =
    let m : Sent = record { number = number; range = range; request = requests.Put meta seq ts key value } in
    All-cons (λ (m : Sent). SendsNothingNew stages commit id m.request) m [] (record { stage = tt; commits = tt }) (All-nil (λ (m : Sent). SendsNothingNew stages commit id m.request))

module _ (k now : Known) (stages : List SentStage) (commit : Option SentCommit) (shown : ℕ) (cause : Why) (spans : List Span) (flight : List WriteInFlight) (evidence : Evidence) (t : Txn) (key : List ℕ) (value : Option (List ℕ)) (number range : ℕ) where
  abbrev x0 : OpenTxn
  x0 = opened_as shown cause spans flight evidence t

  abbrev m0 : Sent
  m0 = record { number = number; range = range; request = put_next key value t }

  abbrev t2 : Txn
  t2 = laid key value t

  module _ (st : TxnStands k stages commit t x0) (over : is_over evidence ≡ true) (more : HasMovedOn k now (m0 ∷ []) []) where
    heard-same : now.heard ≡ k.heard
    heard-same = more.heard ∙ append-nil k.heard

    puts-next : IsTrue (is_put_of t.id t.epoch (last_seq_of t.writes + 1) m0.request)
    puts-next = puts-own (meta_of t (unwrap_or t.anchor key)) (last_seq_of t.writes + 1) t.write_ts key value

    flight2 : FlightStands (flight ++ record { key = key; seq = last_seq_of t.writes + 1; value = value } ∷ []) t2
    flight2 =
        let meta : TxnMeta = meta_of t (unwrap_or t.anchor key) in
        subst (λ t2. FlightStands (flight ++ record { key = key; seq = last_seq_of t.writes + 1; value = value } ∷ []) t2) (sent-next key value t)
        (added_stands flight (flight ++ record { key = key; seq = last_seq_of t.writes + 1; value = value } ∷ []) t meta (last_seq_of t.writes + 1) t.write_ts key value refl st.flight
        (none_later 0 (last_seq_of t.writes + 1) t.writes (omega arith)) refl refl)

    staging2 : StagingStands now [] None t2 (without_stages evidence)
    staging2 =
        staging_on k now [] None t t2 (without_stages evidence) (m0 ∷ []) [] (forgets k stages commit t evidence st.staging over) (record { sent = more.sent; heard = more.heard })
        (record { same = refl; no_earlier = omega arith; stays = inr (refl, refl) })
        (put_new [] None t.id number range (meta_of t (unwrap_or t.anchor key)) (last_seq_of t.writes + 1) t.write_ts key value) (All-nil (LeavesStages [] t2))

    still_above : (ts : ℕ) → Any (StandsAbove k.heard t ts) t.writes → Any (StandsAbove (k.heard ++ []) t2 ts) t2.writes
    still_above ts above =
        any_kept (StandsAbove (k.heard ++ []) t2 ts) t.writes (new_write (last_seq_of t.writes + 1) t.write_ts key value ∷ [])
        (any_above k.heard [] t t2 (record { id = refl; epoch = refl; up = omega arith }) ts t.writes above)

    -- each stage that is forgotten was late, by a write that is proved only above it
    forgotten_above : (ts : ℕ) → Any (λ s. s.ts ≡ ts) stages → Any (StandsAbove (k.heard ++ []) t2 ts) t2.writes
    forgotten_above ts kept = still_above ts (kept_above k.heard t stages ts st.late (dead_late k stages commit t evidence st.staging over) kept)

    staged_on : (ts : ℕ) → Any (λ s. s.ts ≡ ts) stages ⊎ Any (StandsAbove k.heard t ts) t.writes → Any (λ (s : SentStage). s.ts ≡ ts) [] ⊎ Any (StandsAbove (k.heard ++ []) t2 ts) t2.writes
    staged_on ts there = inr (elim there [ inl kept ↦ forgotten_above ts kept | inr above ↦ still_above ts above ])

    laid_by : TxnStands now [] None t2 (with_next_write key value x0)
    laid_by =
        let e : last_seq_of t2.writes ≡ last_seq_of t.writes + 1 = last-laid key value t in
        record {
          same = ap (λ n. record (opened_as shown cause spans (flight ++ record { key = key; seq = last_seq_of t.writes + 1; value = value } ∷ []) (without_stages evidence) t2) { seq = n }) (sym e);
          number = omega (arith, st.number, more.begun);
          begun = st.begun;
          behind = st.behind;
          at_begin = λ none. absurd cc;
          below = reach_on k now (m0 ∷ []) [] more t t2 refl refl st.below;
          views = subst (λ hs. All (IsUndecidedOf t2) hs) (sym heard-same) (All-weaker (IsUndecidedOf t) (IsUndecidedOf t2) (undecided-laid key value t) k.heard st.views);
          shown = st.shown ∙ sym (ap (last_shown t) more.sent ∙ shown-one t k.sent m0 refl);
          staged = λ ts was.
              subst (λ hs. Any (λ (s : SentStage). s.ts ≡ ts) [] ⊎ Any (StandsAbove hs t2 ts) t2.writes) (sym more.heard) (staged_on ts (st.staged ts (subst (λ hs. WasStagedAt hs t ts) heard-same was)));
          accounted =
              accounted_on k now (m0 ∷ []) [] more t t2 refl stages [] still_above (λ s there. inr (inl (forgotten_above s.ts (kept_at stages s there)))) st.accounted
              (one_message t.id m0 (λ P. tt) (IsAccountedFor [] (k.heard ++ []) t2));
          late = All-nil (λ s. IsLate now.heard s → Any (StandsAbove now.heard t2 s.ts) t2.writes);
          live = All-nil (λ s. (IsLate now.heard s → ⊥) → IsStageHere now.heard None t2 s);
          puts =
              let P : Sent → Type 0 = λ m. PutsUpTo t2 (last_seq_of t2.writes) m.request in
              subst (λ ms. All P ms) (sym more.sent)
              (All-push P k.sent m0
              (All-weaker (λ m. PutsUpTo t (last_seq_of t.writes) m.request) P (λ m up. puts-up t2 (last_seq_of t.writes) (last_seq_of t2.writes) m.request (omega arith) up) k.sent st.puts)
              (puts-one t2 (last_seq_of t.writes + 1) (last_seq_of t2.writes) m0.request puts-next (omega arith)));
          put_heard =
              let P : Heard → Type 0 = λ h. PutsUpTo t2 (last_seq_of t2.writes) h.request in
              subst (λ hs. All P hs) (sym heard-same)
              (All-weaker (λ h. PutsUpTo t (last_seq_of t.writes) h.request) P (λ h up. puts-up t2 (last_seq_of t.writes) (last_seq_of t2.writes) h.request (omega arith) up) k.heard st.put_heard);
          found = subst (λ hs. All (IsFoundProved t2) hs) (sym more.heard)
              (found_on k.heard [] t t2 refl refl (omega (arith, e))
              (λ seq low all. All-push (IsProvedAt seq) t.writes (new_write (last_seq_of t.writes + 1) t.write_ts key value) all (λ same. absurd (omega (arith, low, same)))) st.found (All-nil (IsFoundProved t2)));
          writes =
              subst (λ ms. WritesStand ms now.heard t2) (sym more.sent)
              (subst (λ hs. WritesStand (k.sent ++ m0 ∷ []) hs t2) (sym heard-same)
              (writes_laid k.sent k.heard t key value m0 st.writes st.put_heard puts-next));
          flight = flight2;
          staging = staging2;
          reads = subst (λ hs. TxnReadsStand t.id hs t.reads (record { spans = spans; ts = t.read_ts })) (sym heard-same) st.reads;
        }

-- its next write was sent, where each stage is dead and no commit is out
pub next_laid : (k now : Known) (stages : List SentStage) (commit : Option SentCommit) (t : Txn) (x : OpenTxn) (key : List ℕ) (value : Option (List ℕ)) (number range : ℕ) → TxnStands k stages commit t x → is_over x.staging ≡ true
    → HasMovedOn k now (record { number = number; range = range; request = next_put x key value } ∷ []) [] → TxnStands now [] None (txn_sent (next_put x key value) t) (with_next_write key value x)
next_laid k now stages commit t x key value number range st over more =
    let P : OpenTxn → Type 0 = λ x.
    TxnStands k stages commit t x → is_over x.staging ≡ true → HasMovedOn k now (record { number = number; range = range; request = next_put x key value } ∷ []) []
    → TxnStands now [] None (txn_sent (next_put x key value) t) (with_next_write key value x) in
    let at : P (opened_as x.shown x.cause x.reads.spans x.in_flight x.staging t) = λ st over more.
    subst (λ t2. TxnStands now [] None t2 (with_next_write key value (opened_as x.shown x.cause x.reads.spans x.in_flight x.staging t))) (sym (sent-next key value t))
    (laid_by k now stages commit x.shown x.cause x.reads.spans x.in_flight x.staging t key value number range st over more) in
    subst P (sym st.same) at st over more

-- nothing proves a write that is not proved
pub no_proof : (proofs : List ℕ) → not (list_any (λ ts. true) proofs) ≡ true → proofs ≡ []
no_proof [] none = refl
no_proof (p ∷ ps) none = absurd cc

module _ (k : Known) (stages : List SentStage) (commit : Option SentCommit) (t : Txn) (x : OpenTxn) (st : TxnStands k stages commit t x) (f : WriteInFlight) (there : Contains x.in_flight f) where
  -- the write that is in flight, as it is known
  pub known_one : IsKnownUnproved t.writes f
  known_one = flights_hold.known x.in_flight t.writes st.flight.in_flight f there

  pub place_is : known_one.w.key ≡ f.key
  place_is = sym (ap (λ (f : WriteInFlight). f.key) known_one.same)

  pub seq_is : known_one.w.seq ≡ f.seq
  seq_is = sym (ap (λ (f : WriteInFlight). f.seq) known_one.same)

  pub value_is : known_one.w.value ≡ f.value
  value_is = sym (ap (λ (f : WriteInFlight). f.value) known_one.same)

  one_sent : list_any (λ w. w.seq == f.seq) t.writes ≡ true
  one_sent = any_numbered (λ (w : Write). w.seq) f.seq t.writes known_one.w known_one.written seq_is

  pub seq_low : f.seq ≤ last_seq_of t.writes
  seq_low = let low : known_one.w.seq ≤ last_seq_of t.writes = All-contains (λ w. w.seq ≤ last_seq_of t.writes) t.writes known_one.w (below_last t.writes) known_one.written in omega (arith, low, seq_is)

  pub waiting : HasUnproved f.key f.seq t.writes
  waiting =
      let (n, inside, at) = known_one.written in
      (n, known_one.w, inside, at, record { same_place = place_is; same_sequence = seq_is; unproved = known_one.unproved })

  -- a put of it was sent
  pub sent_of : Any (λ m. IsTrue (is_put_of t.id t.epoch f.seq m.request)) k.sent
  sent_of =
      subst (λ n. Any (λ m. IsTrue (is_put_of t.id t.epoch n m.request)) k.sent) seq_is
      (All-contains (WasWriteSent t k.sent) t.writes known_one.w st.writes.each_sent known_one.written)

  -- and was not heard to be written
  pub unwritten_of : All (IsNotWritten t f.seq) k.heard
  unwritten_of =
      subst (λ n. All (IsNotWritten t n) k.heard) seq_is
      (All-contains (IsUnwrittenWhereUnproved t k.heard) t.writes known_one.w st.writes.unwritten known_one.written known_one.unproved)

  abbrev put_then : List ℕ → ℕ → Request
  put_then anchor ts = requests.Put (meta_of t anchor) f.seq ts f.key f.value

  own_is : (anchor : List ℕ) (ts : ℕ) → put_at x anchor ts f ≡ put_then anchor ts
  own_is anchor ts = ap (λ x. put_at x anchor ts f) st.same

  module _ (anchor : List ℕ) (anchored : t.anchor ≡ Some anchor) (ts : ℕ) where
    sent-again : txn_sent (put_then anchor ts) t ≡ laid_again f.seq ts t
    sent-again =
        let F : Option (List ℕ) → List (List ℕ) → List Write → Txn = λ a l w. record t { anchor = a; locks = l; writes = w } in
        let r = put_then anchor ts in
        let same : option_or t.anchor (Some f.key) ≡ t.anchor = ap (λ a. option_or a (Some f.key)) anchored ∙ sym anchored in
        let locked : with_lock f.key t.locks ≡ t.locks = subst (λ key. with_lock key t.locks ≡ t.locks) place_is (All-contains (λ w. with_lock w.key t.locks ≡ t.locks) t.writes known_one.w st.writes.locked known_one.written) in
        ap (λ a. F a (txn_sent r t).locks (txn_sent r t).writes) (if_true (same_txn t.id t.id) (option_or t.anchor (Some f.key)) t.anchor (same_txn-self t.id) ∙ same)
        ∙ ap (λ l. F t.anchor l (txn_sent r t).writes) (if_true (same_txn t.id t.id) (with_lock f.key t.locks) t.locks (same_txn-self t.id) ∙ locked)
        ∙ ap (F t.anchor t.locks)
        (if_true (same_txn t.id t.id && (t.epoch == t.epoch)) _ t.writes (same_epoch-self t.id t.epoch) ∙ put-again f.seq ts f.key f.value t.writes one_sent)

    module _ (now : Known) (number range : ℕ) (more : HasMovedOn k now (record { number = number; range = range; request = put_then anchor ts } ∷ []) []) where
      abbrev m1 : Sent
      m1 = record { number = number; range = range; request = put_then anchor ts }

      abbrev t3 : Txn
      t3 = laid_again f.seq ts t

      same-heard : now.heard ≡ k.heard
      same-heard = more.heard ∙ append-nil k.heard

      staging3 : StagingStands now stages commit t3 x.staging
      staging3 =
          staging_on k now stages commit t t3 x.staging (m1 ∷ []) [] st.staging (record { sent = more.sent; heard = more.heard })
          (record {
            same = refl;
            no_earlier = omega arith;
            stays = inl (refl, subst (ProvesOn t.writes) (put-again f.seq ts f.key f.value t.writes one_sent) (again_proves f.key f.seq ts f.value t.writes one_sent));
          })
          (put_new stages commit t.id number range (meta_of t anchor) f.seq ts f.key f.value) (All-nil (LeavesStages stages t3))

      above_again : (at : ℕ) (w : Write) → StandsAbove k.heard t at w → StandsAbove k.heard t3 at (asked_again f.seq ts w)
      above_again at w a =
          let e = asked-proofs f.seq ts w in
          record {
            low = a.low;
            above = λ by. a.above (subst (λ ps. Any (λ proof. proof ≤ at) ps) e by);
            fixed =
                elim a.fixed [
                  | inl proved ↦ inl (ap (λ ps. list_any (λ n. true) ps) e ∙ proved)
                  | inr was ↦
                      inr (subst (λ n. WasMissedAt k.heard t.id t.epoch (asked_again f.seq ts w).key n at) (sym (asked-seq f.seq ts w))
                      (subst (λ place. WasMissedAt k.heard t.id t.epoch place w.seq at) (sym (asked-key f.seq ts w)) was))
                ];
          }

      above3 : (at : ℕ) → Any (StandsAbove k.heard t at) t.writes → Any (StandsAbove k.heard t3 at) t3.writes
      above3 at above =
          any_mapped (StandsAbove k.heard t at) (StandsAbove k.heard t3 at) (asked_again f.seq ts) t.writes
          (all_from_contains (λ w. StandsAbove k.heard t at w → StandsAbove k.heard t3 at (asked_again f.seq ts w)) t.writes (λ w inside. above_again at w)) above

      staged3 : AreStagedThere stages k.heard t3
      staged3 at was = elim (st.staged at was) [ inl kept ↦ inl kept | inr above ↦ inr (above3 at above) ]

      again_by : TxnStands now stages commit t3 x
      again_by =
          let last : last_seq_of t3.writes ≡ last_seq_of t.writes = asked-last_seq f.seq ts t.writes in
          record {
            same = st.same ∙ ap (λ n. record (opened_as x.shown x.cause x.reads.spans x.in_flight x.staging t) { seq = n }) (sym last);
            number = omega (arith, st.number, more.begun);
            begun = st.begun;
            behind = st.behind;
            at_begin = st.at_begin;
            below = reach_on k now (m1 ∷ []) [] more t t3 refl refl st.below;
            views = subst (λ hs. All (IsUndecidedOf t) hs) (sym same-heard) st.views;
            shown = st.shown ∙ sym (ap (last_shown t) more.sent ∙ shown-one t k.sent m1 refl);
            staged = subst (λ hs. AreStagedThere stages hs t3) (sym same-heard) staged3;
            accounted =
                accounted_on k now (m1 ∷ []) [] more t t3 refl stages stages (λ at above. subst (λ hs. Any (StandsAbove hs t3 at) t3.writes) (sym (append-nil k.heard)) (above3 at above))
                (λ s inside. inl inside) st.accounted (one_message t.id m1 (λ P. tt) (IsAccountedFor stages (k.heard ++ []) t3));
            late = subst (λ hs. AreLateByWrites stages hs t3) (sym same-heard)
                (All-weaker (λ s. IsLate k.heard s → Any (StandsAbove k.heard t s.ts) t.writes) (λ s. IsLate k.heard s → Any (StandsAbove k.heard t3 s.ts) t3.writes) (λ s by late. above3 s.ts (by late)) stages st.late);
            live =
                subst (λ hs. AreLiveHere stages hs x.staging.staged t3) (sym more.heard)
                (live_on k.heard [] x.staging.staged t t3 stages refl refl refl (All-nil (λ h. (at : ℕ) → IsTrue (shows_staging t.id t.epoch at h) → ⊥)) st.live);
            puts =
                subst (λ n. All (λ m. PutsUpTo t n m.request) now.sent) (sym last)
                (subst (λ ms. All (λ m. PutsUpTo t (last_seq_of t.writes) m.request) ms) (sym more.sent)
                (All-push (λ m. PutsUpTo t (last_seq_of t.writes) m.request) k.sent m1 st.puts
                (puts-one t f.seq (last_seq_of t.writes) m1.request (puts-own (meta_of t anchor) f.seq ts f.key f.value) seq_low)));
            put_heard =
                subst (λ n. All (λ h. PutsUpTo t n h.request) now.heard) (sym last)
                (subst (λ hs. All (λ h. PutsUpTo t (last_seq_of t.writes) h.request) hs) (sym same-heard) st.put_heard);
            found = subst (λ hs. All (IsFoundProved t3) hs) (sym more.heard)
                (found_on k.heard [] t t3 refl refl (omega (arith, last)) (λ seq low all. asked_proved f.seq ts seq t.writes all) st.found (All-nil (IsFoundProved t3)));
            writes =
                subst (λ ms. WritesStand ms now.heard t3) (sym more.sent)
                (subst (λ hs. WritesStand (k.sent ++ m1 ∷ []) hs t3) (sym same-heard) (writes_resent k.sent k.heard t f.seq ts m1 st.writes));
            flight =
                subst (λ t2. FlightStands x.in_flight t2) sent-again
                (flights_hold.resent x.in_flight t (meta_of t anchor) f.seq ts f.key f.value st.flight one_sent);
            staging = staging3;
            reads = subst (λ hs. TxnReadsStand t.id hs t.reads x.reads) (sym same-heard) st.reads;
          }

    -- it was sent again
    pub put_resent : (now : Known) (number range : ℕ) → HasMovedOn k now (record { number = number; range = range; request = put_at x anchor ts f } ∷ []) [] → TxnStands now stages commit (txn_sent (put_at x anchor ts f) t) x
    put_resent now number range more =
        let Q : Request → Type 0 = λ r. HasMovedOn k now (record { number = number; range = range; request = r } ∷ []) [] in
        subst (λ r. TxnStands now stages commit (txn_sent r t) x) (sym (own_is anchor ts))
        (subst (λ t2. TxnStands now stages commit t2 x) (sym sent-again) (again_by now number range (subst Q (own_is anchor ts) more)))

    -- and went out at that timestamp
    pub asked_then : WasAskedAt (txn_sent (put_at x anchor ts f) t) f.seq ts
    asked_then =
        let own : Write = known_one.w in
        let P : Write → Type 0 = λ w. (w.seq ≡ f.seq) × Contains w.asked ts in
        let again : P (asked_again f.seq ts own) =
        (asked-seq f.seq ts own ∙ seq_is, subst (λ b. Contains (cond b (record own { asked = own.asked ++ ts ∷ [] }) own).asked ts) (sym (eq-eqb own.seq f.seq seq_is)) (Contains-push own.asked ts)) in
        let (n, inside, is) = known_one.written in
        subst (λ r. WasAskedAt (txn_sent r t) f.seq ts) (sym (own_is anchor ts))
        (subst (λ t2. WasAskedAt t2 f.seq ts) (sym sent-again)
        (any_mapped (λ w. w ≡ own) P (asked_again f.seq ts) t.writes
        (all_from_contains (λ w. w ≡ own → P (asked_again f.seq ts w)) t.writes (λ w there same. subst (λ w. P (asked_again f.seq ts w)) (sym same) again))
        (n, own, inside, is, refl)))

  module _ (now : Known) (h : Heard) (meta : TxnMeta) (sent_at at : ℕ) (value : Option (List ℕ)) (whose : meta.id ≡ t.id) (epoch_now : meta.epoch ≡ t.epoch) (asked : h.request ≡ requests.Put meta f.seq sent_at f.key value)
      (told : h.reply ≡ replies.Written at) (missed : (ts : ℕ) → WasMissedAt k.heard t.id t.epoch f.key f.seq ts → ts < at) (more : HasMovedOn k now [] (h ∷ [])) (low : at ≤ now.high) where
    abbrev put : Request
    put = requests.Put meta f.seq sent_at f.key value

    abbrev t4 : Txn
    t4 = record t { write_ts = max t.write_ts at; writes = map (proved_at f.key f.seq at) t.writes }

    own_meta : (same_txn meta.id t.id && (meta.epoch == t.epoch)) ≡ true
    own_meta = subst (λ id. (same_txn id t.id && (meta.epoch == t.epoch)) ≡ true) (sym whose) (subst (λ n. (same_txn t.id t.id && (n == t.epoch)) ≡ true) (sym epoch_now) (same_epoch-self t.id t.epoch))

    heard-put : txn_heard k.sent (Some h) t ≡ t4
    heard-put =
        let F : Request → Reply → Txn = λ r y. txn_heard k.sent (Some (record { number = h.number; request = r; reply = y; step = h.step })) t in
        let G : ℕ → List Write → Txn = λ n w. record t { write_ts = max t.write_ts n; writes = w } in
        let both = map (proved_at f.key f.seq at) t.writes in
        ap (λ r. F r h.reply) asked
        ∙ ap (F put) told
        ∙ ap (λ n. G n (cond (same_txn meta.id t.id && (meta.epoch == t.epoch)) both t.writes)) (if_true (same_txn meta.id t.id) at 0 (ap (λ id. same_txn id t.id) whose ∙ same_txn-self t.id))
        ∙ ap (G at) (if_true (same_txn meta.id t.id && (meta.epoch == t.epoch)) both t.writes own_meta)

    other : is_about t.id h.request ≡ false
    other = ap (is_about t.id) asked

    puts_it : IsTrue (is_put_of t.id t.epoch f.seq h.request)
    puts_it =
        subst (λ r. IsTrue (is_put_of t.id t.epoch f.seq r)) (sym asked)
        (subst (λ id. IsTrue (is_put_of id t.epoch f.seq put)) whose (subst (λ n. IsTrue (is_put_of meta.id n f.seq put)) epoch_now (puts-own meta f.seq sent_at f.key value)))

    sent-same : now.sent ≡ k.sent
    sent-same = more.sent ∙ append-nil k.sent

    hears_it : HearsWritten k now t at h
    hears_it = record {
      grown = record { sent = more.sent; heard = more.heard };
      meta = meta;
      seq = f.seq;
      sent_at = sent_at;
      key = f.key;
      value = value;
      asked = asked;
      whose = whose;
      epoch_now = epoch_now;
      waiting = waiting;
      told = told;
    }

    staging4 : StagingStands now stages commit t4 (with_stages (map (refuted_above at h.step) x.staging.stages) x.staging)
    staging4 =
        subst (λ t2. StagingStands now stages commit t2 (with_stages (map (refuted_above at h.step) x.staging.stages) x.staging)) heard-put
        (written_heard k now stages commit t x.staging st.staging h at hears_it)

    stays : (w : Write) → Contains t.writes w → IsTrue (is_proved w) → proved_at f.key f.seq at w ≡ w
    stays = proved_stays k.heard k.sent t f.key f.seq at (max t.write_ts at) h st.writes known_one.w known_one.written place_is seq_is (λ n puts. own_seq t.id t.epoch f.seq n h.request puts_it puts) (λ v place number. written_proves t v h meta sent_at at f.seq f.key value asked told whose epoch_now place number) known_one.unproved

    stays_up : StaysUp t t4
    stays_up = record { id = refl; epoch = refl; up = omega arith }

    above4 : (ts : ℕ) → Any (StandsAbove k.heard t ts) t.writes → Any (StandsAbove (k.heard ++ h ∷ []) t4 ts) t4.writes
    above4 ts above = any_proved k.heard (h ∷ []) t t4 stays_up f.key f.seq at stays missed ts above

    shows_no_other : All (λ h. (ts : ℕ) → IsTrue (shows_staging t.id t.epoch ts h) → ⊥) (h ∷ [])
    shows_no_other = All-cons (λ h. (ts : ℕ) → IsTrue (shows_staging t.id t.epoch ts h) → ⊥) h [] (λ ts. shows_none t.id t.epoch ts h other) (All-nil (λ h. (ts : ℕ) → IsTrue (shows_staging t.id t.epoch ts h) → ⊥))

    staged4 : AreStagedThere stages (k.heard ++ h ∷ []) t4
    staged4 ts was =
        split_proved k.heard (h ∷ []) t t4 stays_up f.key f.seq at stays missed stages ts
        (st.staged ts
        (staged_before k.heard (h ∷ []) t ts
        (All-weaker (λ h. (ts : ℕ) → IsTrue (shows_staging t.id t.epoch ts h) → ⊥) (λ h. IsTrue (shows_staging t.id t.epoch ts h) → ⊥) (λ h none. none ts) (h ∷ []) shows_no_other) was))

    -- the write that was written has this one proof
    proofs_then : (proved_at f.key f.seq at known_one.w).proofs ≡ at ∷ []
    proofs_then =
        let own : Write = known_one.w in
        ap (λ b. (cond b (record own { proofs = own.proofs ++ at ∷ [] }) own).proofs) (and_from (own.seq == f.seq) (same_key own.key f.key) (eq-eqb own.seq f.seq seq_is) (same_key-equal own.key f.key place_is))
        ∙ ap (λ ps. ps ++ at ∷ []) (no_proof own.proofs known_one.unproved)

    own_above : (ts : ℕ) → ts < at → StandsAbove (k.heard ++ h ∷ []) t4 ts (proved_at f.key f.seq at known_one.w)
    own_above ts low = record {
      low = omega (arith, low);
      above = λ by.
          none_among (λ proof. proof ≤ ts) (at ∷ []) (All-cons (λ proof. proof ≤ ts → ⊥) at [] (λ le. absurd (omega (arith, low, le))) (All-nil (λ proof. proof ≤ ts → ⊥)))
          (subst (λ ps. Any (λ proof. proof ≤ ts) ps) proofs_then by);
      fixed = inl (ap (λ ps. list_any (λ ts. true) ps) proofs_then);
    }

    landed_above : (ts : ℕ) → ts < at → Any (StandsAbove (k.heard ++ h ∷ []) t4 ts) t4.writes
    landed_above ts low =
        let (n, inside, is) = known_one.written in
        any_mapped (λ w. w ≡ known_one.w) (StandsAbove (k.heard ++ h ∷ []) t4 ts) (proved_at f.key f.seq at) t.writes
        (all_from_contains (λ w. w ≡ known_one.w → StandsAbove (k.heard ++ h ∷ []) t4 ts (proved_at f.key f.seq at w)) t.writes
        (λ w there same. subst (λ w. StandsAbove (k.heard ++ h ∷ []) t4 ts (proved_at f.key f.seq at w)) (sym same) (own_above ts low)))
        (n, known_one.w, inside, is, refl)

    -- a stage that it refutes lies below where it was written
    refuted_below : (s : SentStage) → is_write_refuted s h.request h.reply ≡ true → s.ts < at
    refuted_below s refuted =
        let is : is_write_refuted s put (replies.Written at) ≡ true = sym (ap (λ r. is_write_refuted s r h.reply) asked ∙ ap (is_write_refuted s put) told) ∙ refuted in
        let parts = and_parts (same_txn meta.id s.meta.id && meta.epoch == s.meta.epoch) (lists_write f.key f.seq s.writes && nat_lt s.ts at) is in
        ltb-true s.ts at (and_parts (lists_write f.key f.seq s.writes) (nat_lt s.ts at) parts.1).1

    late4 : AreLateByWrites stages (k.heard ++ h ∷ []) t4
    late4 =
        all_from_contains (λ s. IsLate (k.heard ++ h ∷ []) s → Any (StandsAbove (k.heard ++ h ∷ []) t4 s.ts) t4.writes) stages
        (λ s there late. by s there late (is_write_refuted s h.request h.reply) refl)
      where
        by : (s : SentStage) → Contains stages s → IsLate (k.heard ++ h ∷ []) s → (b : Bool) → is_write_refuted s h.request h.reply ≡ b → Any (StandsAbove (k.heard ++ h ∷ []) t4 s.ts) t4.writes
        by s there late true is = landed_above s.ts (refuted_below s is)
        by s there late false is =
            let R : Heard → Type 0 = λ h. RefutesWrite s h ⊎ RefutesRecord s h in
            let w : WasStageSent k.sent t.id s = All-contains (WasStageSent k.sent t.id) stages s st.staging.sent there in
            above4 s.ts
            (All-contains (λ s. IsLate k.heard s → Any (StandsAbove k.heard t s.ts) t.writes) stages s st.late there
            (any_before R k.heard (h ∷ []) (All-cons (λ h. R h → ⊥) h [] (none_by t s h w.whose other is) (All-nil (λ h. R h → ⊥))) late))

    -- a stage lies at the write timestamp, or is refuted where that rises
    live4 : AreLiveHere stages (k.heard ++ h ∷ []) x.staging.staged t4
    live4 = by (nat_lt t.write_ts at) refl
      where
        refuted : t.write_ts < at → (s : SentStage) → Contains stages s → IsLate (k.heard ++ h ∷ []) s
        refuted high s there =
            let low : s.ts ≤ t.write_ts = All-contains (λ s. s.ts ≤ t.write_ts) stages s st.staging.timely there in
            any_last (λ h. RefutesWrite s h ⊎ RefutesRecord s h) k.heard h
            (inl (record { refuted = refutes_above k now stages commit t x.staging st.staging h at hears_it s there ∙ lt_true s.ts at (omega (arith, low, high)) }))

        by : (b : Bool) → nat_lt t.write_ts at ≡ b → AreLiveHere stages (k.heard ++ h ∷ []) x.staging.staged t4
        by true high = none_live (k.heard ++ h ∷ []) x.staging.staged t4 stages (all_from_contains (IsLate (k.heard ++ h ∷ [])) stages (refuted (ltb-true t.write_ts at high)))
        by false low =
            let under : at ≤ t.write_ts = ltb-false t.write_ts at low in
            let same : max t.write_ts at ≡ t.write_ts = omega (arith, under) in
            live_on k.heard (h ∷ []) x.staging.staged t t4 stages refl refl same
            shows_no_other st.live

    landed_by : TxnStands now stages commit t4 (landed_at f.key f.seq at h.step x)
    landed_by =
        let last : last_seq_of t4.writes ≡ last_seq_of t.writes = proved-last_seq f.key f.seq at t.writes in
        let flight = filter (is_another f.key f.seq) x.in_flight in
        let staging = with_stages (map (refuted_above at h.step) x.staging.stages) x.staging in
        record {
          same =
              ap (λ (x : OpenTxn). record x { write_ts = max x.write_ts at; in_flight = flight; staging = staging }) st.same
              ∙ ap (λ n. record (opened_as x.shown x.cause x.reads.spans flight staging t4) { seq = n }) (sym last);
          number = omega (arith, st.number, more.begun);
          begun = st.begun;
          behind = omega (arith, st.behind);
          at_begin = st.at_begin;
          below = reach_raised k now [] (h ∷ []) more t t4 refl at refl low st.below;
          views =
              subst (λ hs. All (IsUndecidedOf t) hs) (sym more.heard)
              (All-push (IsUndecidedOf t) k.heard h st.views (λ about. let none = other in absurd cc));
          shown = st.shown ∙ sym (ap (last_shown t) sent-same);
          staged = subst (λ hs. AreStagedThere stages hs t4) (sym more.heard) staged4;
          accounted = accounted_on k now [] (h ∷ []) more t t4 refl stages stages above4 (λ s inside. inl inside) st.accounted (no_message t.id (IsAccountedFor stages (k.heard ++ h ∷ []) t4));
          late = subst (λ hs. AreLateByWrites stages hs t4) (sym more.heard) late4;
          live = subst (λ hs. AreLiveHere stages hs x.staging.staged t4) (sym more.heard) live4;
          puts = subst (λ n. All (λ m. PutsUpTo t n m.request) now.sent) (sym last) (subst (λ ms. All (λ m. PutsUpTo t (last_seq_of t.writes) m.request) ms) (sym sent-same) st.puts);
          put_heard =
              subst (λ n. All (λ h. PutsUpTo t n h.request) now.heard) (sym last)
              (subst (λ hs. All (λ h. PutsUpTo t (last_seq_of t.writes) h.request) hs) (sym more.heard)
              (All-push (λ h. PutsUpTo t (last_seq_of t.writes) h.request) k.heard h st.put_heard (puts-one t f.seq (last_seq_of t.writes) h.request puts_it seq_low)));
          found = subst (λ hs. All (IsFoundProved t4) hs) (sym more.heard)
              (found_on k.heard (h ∷ []) t t4 refl refl (omega (arith, last)) (λ seq low all. placed_proved f.key f.seq at seq t.writes all) st.found (finds_none_alone t4 h (λ epoch seq. ap (λ r. finds t.id epoch seq r h.reply) asked)));
          writes =
              subst (λ ms. WritesStand ms now.heard t4) (sym sent-same)
              (subst (λ hs. WritesStand k.sent hs t4) (sym more.heard)
              (writes_landed k.heard k.sent t f.key f.seq at (max t.write_ts at) h st.writes known_one.w known_one.written place_is seq_is (λ n puts. own_seq t.id t.epoch f.seq n h.request puts_it puts)
              (λ v place number. written_proves t v h meta sent_at at f.seq f.key value asked told whose epoch_now place number)));
          flight =
              subst (λ t2. FlightStands flight t2) heard-put
              (heard_stands f.key f.seq x.in_flight flight refl t k.sent h st.flight
              (inl (record { meta = meta; sent_at = sent_at; value = value; ts = at; asked = asked; whose = whose; epoch_now = epoch_now; told = told })));
          staging = staging4;
          reads = subst (λ hs. TxnReadsStand t.id hs t.reads x.reads) (sym more.heard) (stand_on t.id k.heard (h ∷ []) t.reads x.reads st.reads);
        }

    -- it was written
    pub put_landed : TxnStands now stages commit (txn_heard k.sent (Some h) t) (landed_at f.key f.seq at h.step x)
    put_landed = subst (λ t2. TxnStands now stages commit t2 (landed_at f.key f.seq at h.step x)) (sym heard-put) landed_by
