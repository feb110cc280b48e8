-- The open transaction was told an answer that leaves it open, or makes it restart; or was just begun.
use Rattle.std.proofs.Common.{◌≡◌, ℕ, ◌+◌, ◌<◌, ◌≤◌, max, Bool, true, false, ◌⊎◌, List, [], Option, Some, None, refl, sym, ap, ◌∙◌, subst, arith, All, Any, IsTrue, ◌==◌, ◌&&◌, inl, inr}
use Rattle.std.specs.Option.{option_map_or}
use Rattle.std.proofs.lemmas.Bool.{and_parts, eqb-true}
use Rattle.std.proofs.lemmas.List.{append-nil}
use Rattle.std.proofs.lemmas.List.Elements.{All-nil, All-weaker}
use Rattle.pc_base.specs.declared.span.Span.{Span}
use Rattle.pc_base.specs.declared.transaction.Priority.{Priority}
use Rattle.pc_base.specs.declared.transaction.TxnId.{TxnId}
use Rattle.pc_base.specs.Transaction.{same_txn}
use Rattle.pc_flight.proofs.Holding.{flights_hold, nothing_stands}
use Rattle.pc_follows.specs.Heartbeats.{last_shown}
use Rattle.pc_lists.proofs.Anywhere.{any_of}
use Rattle.pc_lists.proofs.Same.{same_txn-is}
use Rattle.pc_proto.specs.declared.reply.Reply.{Reply}
use Rattle.pc_proto.specs.declared.reply.Reply.TheVariants as replies
use Rattle.pc_proto.specs.declared.request.Request.{Request}
use Rattle.pc_proto.specs.declared.request.Request.TheVariants as requests
use Rattle.pc_proto.specs.declared.why.Why.TheVariants as whys
use Rattle.pc_proto.specs.Replies.{view_in}
use Rattle.pc_proto.specs.Requests.{is_about, is_put_of, subject}
use Rattle.pc_proto.specs.Views.{is_staging_at}
use Rattle.pc_reads.proofs.Goods.{none_read}
use Rattle.pc_reads.specs.ReadsStanding.{TxnReadsStand}
use Rattle.pc_staging.proofs.Going.{staging_on}
use Rattle.pc_staging.proofs.Fates.{each_stage-more}
use Rattle.pc_staging.proofs.Sending.{forgets}
use Rattle.pc_staging.proofs.Sending as sending
use Rattle.pc_staging.specs.Kept.{Evidence, is_over, without_stages}
use Rattle.pc_staging.specs.Laws.{LeavesStages, SendsNothingNew}
use Rattle.pc_staging.specs.Standing.{AreRefutedBelow, WasStagedAt}
use Rattle.pc_txn.proofs.Shown.{shown-new}
use Rattle.pc_txn.proofs.Accounted.{accounted_up, no_message}
use Rattle.pc_txn.proofs.Found.{finds_none}
use Rattle.pc_txn.proofs.Keeping.{shows_none}
use Rattle.pc_txn.proofs.Above.{StaysUp, reach_on, staged_or_above}
use Rattle.pc_txn.proofs.Late.{late_on, live_on}
use Rattle.pc_txn.specs.Counted.{IsOfBegun, IsOwnHeard, IsOwnSent, IsOwnWrite, IsQueryOfBegun}
use Rattle.pc_txn.specs.declared.txn.OpenTxn.{OpenTxn}
use Rattle.pc_txn.specs.Opened.{just_begun, restarted_by}
use Rattle.pc_txn.specs.Standing.{AreLateByWrites, AreLiveHere, AreStagedThere, HasMovedOn, StandsAbove, IsAccountedFor, IsStageHere, IsUndecidedOf, TxnStands}
use Rattle.pc_txn.specs.Writing.{AreEarlierFirst, IsFoundProved, IsKeyLocked, IsProvedByHeard, IsUnwrittenWhereUnproved, PutsUpTo, WasWriteSent, WritesStand, finds}
use Rattle.pc_world.specs.Known.{Known}
use Rattle.pc_world.specs.Known.Reads.{Read}
use Rattle.pc_world.specs.Known.Traffic.{Heard, Sent}
use Rattle.pc_world.specs.Known.Transactions.{Txn, begun}
use Rattle.pc_world.specs.Known.Writes.{last_seq_of}
use Rattle.pc_world.specs.StageFate.{EachStage, IsLate, OnStage, RefutesRecord, RefutesWrite, SentCommit, SentStage, is_write_refuted}
use Rattle.pc_world.specs.Tell.End.{shows_staging}

-- The transaction with these reads, once an answer was told that leaves it open.
abbrev pub told_open : List Read → Option ℕ → Txn → Txn
told_open reads committed t = record t { reads = reads; restart = None; committed = committed }

-- it stands on, with the reads that it was told, where the coordinator kept their spans
pub stands_told : (k now : Known) (stages : List SentStage) (commit : Option SentCommit) (t : Txn) (x : OpenTxn) (reads : List Read) (spans : List Span) (committed : Option ℕ) → TxnStands k stages commit t x → HasMovedOn k now [] []
    → TxnReadsStand t.id k.heard reads (record { spans = spans; ts = x.reads.ts })
    → TxnStands now stages commit (told_open reads committed t) (record x { reads = record { spans = spans; ts = x.reads.ts } })
stands_told k now stages commit t x reads spans committed st more good =
    let sent-same : now.sent ≡ k.sent = more.sent ∙ append-nil k.sent in
    let heard-same : now.heard ≡ k.heard = more.heard ∙ append-nil k.heard in
    let w : WritesStand now.sent now.heard t = subst (λ ms. WritesStand ms now.heard t) (sym sent-same) (subst (λ hs. WritesStand k.sent hs t) (sym heard-same) st.writes) in
    let stays : StaysUp t (told_open reads committed t) = record { id = refl; epoch = refl; up = omega arith } in
    record {
      same = ap (λ (x : OpenTxn). record x { reads = record { spans = spans; ts = x.reads.ts } }) st.same;
      number = omega (arith, st.number, more.begun);
      begun = st.begun;
      behind = st.behind;
      at_begin = st.at_begin;
      below = reach_on k now [] [] more t (told_open reads committed t) refl refl st.below;
      views = subst (λ hs. All (IsUndecidedOf t) hs) (sym heard-same) st.views;
      shown = st.shown ∙ sym (ap (last_shown t) sent-same);
      staged = subst (λ hs. AreStagedThere stages hs (told_open reads committed t)) (sym more.heard) (λ ts was. staged_or_above k.heard [] t (told_open reads committed t) stays stages ts t.writes (st.staged ts (subst (λ hs. WasStagedAt hs t ts) (append-nil k.heard) was)));
      accounted = accounted_up k now [] [] more t (told_open reads committed t) refl stages stages stays refl refl (no_message t.id) st.accounted;
      late = subst (λ hs. AreLateByWrites stages hs (told_open reads committed t)) (sym more.heard) (late_on k.heard [] t (told_open reads committed t) stages stays refl st.late (λ s there. All-nil (λ h. RefutesWrite s h ⊎ RefutesRecord s h → ⊥)));
      live =
          subst (λ hs. AreLiveHere stages hs x.staging.staged (told_open reads committed t)) (sym more.heard)
          (live_on k.heard [] x.staging.staged t (told_open reads committed t) stages refl refl refl (All-nil (λ h. (ts : ℕ) → IsTrue (shows_staging t.id t.epoch ts h) → ⊥)) st.live);
      puts = subst (λ ms. All (λ m. PutsUpTo t (last_seq_of t.writes) m.request) ms) (sym sent-same) st.puts;
      put_heard = subst (λ hs. All (λ h. PutsUpTo t (last_seq_of t.writes) h.request) hs) (sym heard-same) st.put_heard;
      found = subst (λ hs. All (IsFoundProved (told_open reads committed t)) hs) (sym heard-same) st.found;
      writes = record { by_sequence = w.by_sequence; each_sent = w.each_sent; unwritten = w.unwritten; heard_proved = w.heard_proved; locked = w.locked; unanchored = w.unanchored };
      flight = flights_hold.on x.in_flight t (told_open reads committed t) st.flight refl (omega arith);
      staging =
          staging_on k now stages commit t (told_open reads committed t) x.staging [] [] st.staging (record { sent = more.sent; heard = more.heard })
          (record { same = refl; no_earlier = omega arith; stays = inl (refl, λ key seq u. u) }) (All-nil (λ m. SendsNothingNew stages commit t.id m.request))
          (All-nil (LeavesStages stages (told_open reads committed t)));
      reads = subst (λ hs. TxnReadsStand t.id hs reads (record { spans = spans; ts = x.reads.ts })) (sym heard-same) good;
    }

-- The transaction once it was told to restart for this write.
abbrev pub restarted : List ℕ → ℕ → Txn → Txn
restarted key ts t = record t { epoch = t.epoch + 1; read_ts = max t.read_ts t.write_ts; writes = []; reads = []; restart = Some (key, ts) }

-- what was put before is of an earlier epoch
puts_before : (key : List ℕ) (ts : ℕ) (t : Txn) (request : Request) → PutsUpTo t (last_seq_of t.writes) request → PutsUpTo (restarted key ts t) 0 request
puts_before key ts t request up epoch seq put = let l : epoch ≤ t.epoch = (up epoch seq put).0 in (omega arith, λ same. absurd (omega arith))

-- what was heard of its record is of an earlier epoch
undecided_before : (key : List ℕ) (ts : ℕ) (t : Txn) (h : Heard) → IsUndecidedOf t h → IsUndecidedOf (restarted key ts t) h
undecided_before key ts t h undecided = λ about.
    let v = undecided about in
    record { anchored = v.anchored; undecided = v.undecided; no_later = λ epoch at is. let l : epoch ≤ t.epoch = v.no_later epoch at is in omega arith }

-- what was staged before is of an earlier epoch
accounted_before : (key : List ℕ) (ts : ℕ) (t : Txn) (stages : List SentStage) (heard later : List Heard) (s : SentStage) → IsAccountedFor stages heard t s → IsAccountedFor [] later (restarted key ts t) s
accounted_before key ts t stages heard later s a = let low : s.meta.epoch ≤ t.epoch = a.no_later in record { no_later = omega arith; fate = λ same. absurd (omega arith) }

-- what was found before is of an earlier epoch
found_before : (key : List ℕ) (ts : ℕ) (t : Txn) (h : Heard) → IsFoundProved t h → IsFoundProved (restarted key ts t) h
found_before key ts t h f epoch seq is = let low : epoch ≤ t.epoch = (f epoch seq is).0 in (omega arith, λ same. absurd (omega arith))

-- nothing was heard to stage in the next epoch
unstaged_next : (t : Txn) (heard : List Heard) (epoch ts : ℕ) → t.epoch < epoch → All (IsUndecidedOf t) heard → Any (λ h. IsTrue (shows_staging t.id epoch ts h)) heard → ⊥
unstaged_next t heard epoch ts later views was =
    let f = any_of (IsUndecidedOf t) (λ h. IsTrue (shows_staging t.id epoch ts h)) heard views was in
    let parts = and_parts (is_about t.id f.0.request) (option_map_or (is_staging_at epoch ts) (view_in f.0.reply) false) f.2 in
    let low : epoch ≤ t.epoch = (f.1 parts.0).no_later epoch ts parts.1 in
    absurd (omega arith)

-- a transaction that has written nothing
nothing_written : (sent : List Sent) (heard : List Heard) (t : Txn) → t.writes ≡ [] → WritesStand sent heard t
nothing_written sent heard t none = record {
  by_sequence = subst (λ ws. AreEarlierFirst ws) (sym none) tt;
  each_sent = subst (λ ws. All (WasWriteSent t sent) ws) (sym none) (All-nil (WasWriteSent t sent));
  unwritten = subst (λ ws. All (IsUnwrittenWhereUnproved t heard) ws) (sym none) (All-nil (IsUnwrittenWhereUnproved t heard));
  heard_proved = subst (λ ws. All (IsProvedByHeard t heard) ws) (sym none) (All-nil (IsProvedByHeard t heard));
  locked = subst (λ ws. All (IsKeyLocked t.locks) ws) (sym none) (All-nil (IsKeyLocked t.locks));
  unanchored = λ un. none;
}

-- it begins anew, and stands
pub stands_restarted : (k now : Known) (stages : List SentStage) (commit : Option SentCommit) (t : Txn) (x : OpenTxn) (anchor key : List ℕ) (ts : ℕ) → TxnStands k stages commit t x → is_over x.staging ≡ true → t.anchor ≡ Some anchor → HasMovedOn k now [] []
    → TxnStands now [] None (restarted key ts t) (restarted_by key ts x)
stands_restarted k now stages commit t x anchor key ts st over anchored more =
    let sent-same : now.sent ≡ k.sent = more.sent ∙ append-nil k.sent in
    let heard-same : now.heard ≡ k.heard = more.heard ∙ append-nil k.heard in
    let kept : Evidence = without_stages x.staging in
    record {
      same = ap (λ (x : OpenTxn). record x {
        epoch = x.epoch + 1;
        seq = 0;
        in_flight = [];
        staging = kept;
        reads = record { spans = []; ts = max x.reads.ts x.write_ts };
        cause = whys.Refresh key ts;
      }) st.same;
      number = omega (arith, st.number, more.begun);
      begun = omega (arith, st.begun);
      behind = omega (arith, st.behind);
      at_begin = λ none. let e : Some anchor ≡ None = sym anchored ∙ none in absurd cc;
      below = reach_on k now [] [] more t (restarted key ts t) refl refl st.below;
      views = subst (λ hs. All (IsUndecidedOf (restarted key ts t)) hs) (sym heard-same) (All-weaker (IsUndecidedOf t) (IsUndecidedOf (restarted key ts t)) (undecided_before key ts t) k.heard st.views);
      shown = st.shown ∙ sym (ap (last_shown t) sent-same);
      staged = λ at was. absurd (unstaged_next t k.heard (t.epoch + 1) at (omega arith) st.views (subst (λ hs. WasStagedAt hs (restarted key ts t) at) heard-same was));
      accounted =
          subst (λ ms. EachStage t.id ms (IsAccountedFor [] now.heard (restarted key ts t))) (sym sent-same)
          (each_stage-more t.id (IsAccountedFor stages k.heard t) (IsAccountedFor [] now.heard (restarted key ts t)) (accounted_before key ts t stages k.heard now.heard) k.sent st.accounted);
      late = All-nil (λ s. IsLate now.heard s → Any (StandsAbove now.heard (restarted key ts t) s.ts) []);
      live = All-nil (λ s. (IsLate now.heard s → ⊥) → IsStageHere now.heard None (restarted key ts t) s);
      puts =
          subst (λ ms. All (λ m. PutsUpTo (restarted key ts t) 0 m.request) ms) (sym sent-same)
          (All-weaker (λ m. PutsUpTo t (last_seq_of t.writes) m.request) (λ m. PutsUpTo (restarted key ts t) 0 m.request) (λ m up. puts_before key ts t m.request up) k.sent st.puts);
      put_heard =
          subst (λ hs. All (λ h. PutsUpTo (restarted key ts t) 0 h.request) hs) (sym heard-same)
          (All-weaker (λ h. PutsUpTo t (last_seq_of t.writes) h.request) (λ h. PutsUpTo (restarted key ts t) 0 h.request) (λ h up. puts_before key ts t h.request up) k.heard st.put_heard);
      found = subst (λ hs. All (IsFoundProved (restarted key ts t)) hs) (sym heard-same) (All-weaker (IsFoundProved t) (IsFoundProved (restarted key ts t)) (found_before key ts t) k.heard st.found);
      writes = nothing_written now.sent now.heard (restarted key ts t) refl;
      flight = nothing_stands [] (restarted key ts t) refl refl;
      staging =
          staging_on k now [] None t (restarted key ts t) kept [] [] (forgets k stages commit t x.staging st.staging over) (record { sent = more.sent; heard = more.heard })
          (record { same = refl; no_earlier = omega arith; stays = inr (refl, refl) }) (All-nil (λ m. SendsNothingNew [] None t.id m.request)) (All-nil (LeavesStages [] (restarted key ts t)));
      reads = none_read t.id now.heard (max x.reads.ts x.write_ts);
    }

-- what is not about its record stages nothing
none_staged : (id : TxnId) (P : SentStage → Type 0) (request : Request) → is_about id request ≡ false → OnStage id P request
none_staged id P (requests.Stage meta ts now writes locks) other = λ same. let is : same_txn meta.id id ≡ true = same in absurd cc
none_staged id P request other = tt

same-number : (one other : TxnId) → same_txn one other ≡ true → one.number ≡ other.number
same-number one other h = eqb-true one.number other.number (and_parts (one.session == other.session) (one.number == other.number) h).1

new_put : (id : TxnId) (epoch begun : ℕ) (request : Request) → begun < id.number → IsOwnWrite begun request → (seq : ℕ) → IsTrue (is_put_of id epoch seq request) → ⊥
new_put id epoch begun (requests.Put meta at ts key value) new own seq is =
    let e : meta.id.number ≡ id.number = same-number meta.id id (and_parts (same_txn meta.id id) (meta.epoch == epoch && at == seq) is).0 in absurd (omega arith)
new_put id epoch begun request new own seq is = absurd cc

-- no write of it was refuted
new_refuted : (s : SentStage) (session begun : ℕ) (request : Request) (reply : Reply) → begun < s.meta.id.number → s.meta.id.session ≡ session → IsOwnWrite begun request → IsQueryOfBegun session begun request
    → IsTrue (is_write_refuted s request reply) → ⊥
new_refuted s session begun (requests.Put meta seq at key value) reply new whose own asks is = absurd (by reply is)
  where
    by : (reply : Reply) → IsTrue (is_write_refuted s (requests.Put meta seq at key value) reply) → ⊥
    by (replies.Written ts) is =
        let e : meta.id.number ≡ s.meta.id.number = same-number meta.id s.meta.id (and_parts (same_txn meta.id s.meta.id) (meta.epoch == s.meta.epoch) (and_parts (same_txn meta.id s.meta.id && meta.epoch == s.meta.epoch) _ is).0).0 in
        absurd (omega arith)
    by reply is = absurd cc
new_refuted s session begun (requests.Query id epoch seq at key by) reply new whose own asks is = absurd (found reply is)
  where
    found : (reply : Reply) → IsTrue (is_write_refuted s (requests.Query id epoch seq at key by) reply) → ⊥
    found replies.Missing is =
        let same : id ≡ s.meta.id = same_txn-is id s.meta.id (and_parts (same_txn id s.meta.id) (epoch == s.meta.epoch) (and_parts (same_txn id s.meta.id && epoch == s.meta.epoch) _ is).0).0 in
        let low : id.number ≤ begun = asks (ap (λ (id : TxnId). id.session) same ∙ whose) in
        let e : id.number ≡ s.meta.id.number = ap (λ (id : TxnId). id.number) same in
        absurd (omega arith)
    found reply is = absurd cc
new_refuted s session begun request reply new whose own asks is = absurd cc

-- no write of it was found
new_unfound : (id : TxnId) (session begun epoch seq : ℕ) (request : Request) (reply : Reply) → begun < id.number → id.session ≡ session → IsQueryOfBegun session begun request → finds id epoch seq request reply ≡ false
new_unfound id session begun epoch seq (requests.Query other at n ts key by) reply new whose asks = found reply (same_txn other id) refl
  where
    found : (reply : Reply) (b : Bool) → same_txn other id ≡ b → finds id epoch seq (requests.Query other at n ts key by) reply ≡ false
    found replies.Found false is = ap (λ b. b && (at == epoch && n == seq)) is
    found replies.Found true is =
        let same : other ≡ id = same_txn-is other id is in
        let low : other.number ≤ begun = asks (ap (λ (id : TxnId). id.session) same ∙ whose) in
        let e : other.number ≡ id.number = ap (λ (id : TxnId). id.number) same in
        absurd (omega arith)
    found reply b is = refl
new_unfound id session begun epoch seq request reply new whose asks = refl

about_same : (id : TxnId) (o : Option TxnId) → option_map_or (λ other. same_txn other id) o false ≡ true → o ≡ Some id
about_same id None e = absurd cc
about_same id (Some other) e = ap Some (same_txn-is other id e)

new_about : (id : TxnId) (session begun : ℕ) (request : Request) → begun < id.number → id.session ≡ session → IsOfBegun session begun request → is_about id request ≡ false
new_about id session begun request later whose own = by (is_about id request) refl
  where
    by : (b : Bool) → is_about id request ≡ b → is_about id request ≡ false
    by false is = is
    by true is = let l : id.number ≤ begun = own id (about_same id (subject request) is) whose in absurd (omega arith)

module _ (k now : Known) (session count : ℕ) (id : TxnId) (priority : Priority) (born ts : ℕ) (whose : id.session ≡ session) (next : id.number ≡ k.begun + 1)
    (sent : All (IsOwnSent session k.begun count) k.sent) (heard : All (IsOwnHeard session k.begun count) k.heard) (same_sent : now.sent ≡ k.sent) (same_heard : now.heard ≡ k.heard) (counts : id.number ≤ now.begun) (low : ts ≤ now.high) where
  abbrev t0 : Txn
  t0 = begun id priority born ts

  later : k.begun < id.number
  later = omega arith

  none_sent : All (λ m. is_about id m.request ≡ false) now.sent
  none_sent =
      subst (λ ms. All (λ m. is_about id m.request ≡ false) ms) (sym same_sent)
      (All-weaker (IsOwnSent session k.begun count) (λ m. is_about id m.request ≡ false) (λ m own. new_about id session k.begun m.request later whose own.own.record_of) k.sent sent)

  none_heard : All (λ h. is_about id h.request ≡ false) now.heard
  none_heard =
      subst (λ hs. All (λ h. is_about id h.request ≡ false) hs) (sym same_heard)
      (All-weaker (IsOwnHeard session k.begun count) (λ h. is_about id h.request ≡ false) (λ h own. new_about id session k.begun h.request later whose own.own.record_of) k.heard heard)

  none_written : All (AreRefutedBelow id ts) now.heard
  none_written =
      subst (λ hs. All (AreRefutedBelow id ts) hs) (sym same_heard)
      (All-weaker (IsOwnHeard session k.begun count) (AreRefutedBelow id ts)
      (λ h own s same refuted.
      let new : k.begun < s.meta.id.number = subst (λ (i : TxnId). k.begun < i.number) (sym same) later in
      absurd (new_refuted s session k.begun h.request h.reply new (ap (λ (i : TxnId). i.session) same ∙ whose) own.own.write own.own.query_of refuted))
      k.heard heard)

  -- a transaction that was just begun stands
  pub stands_begun : TxnStands now [] None t0 (just_begun t0)
  stands_begun = record {
    same = refl;
    number = counts;
    begun = omega arith;
    behind = omega arith;
    at_begin = λ none. refl;
    below = inl low;
    views = All-weaker (λ h. is_about id h.request ≡ false) (IsUndecidedOf t0) (λ h none about. let other : is_about id h.request ≡ false = none in absurd cc) now.heard none_heard;
    shown = sym (ap (last_shown t0) same_sent ∙ shown-new session count k.begun id whose later born k.sent sent);
    staged = λ at was.
        let f = any_of (λ h. is_about id h.request ≡ false) (λ h. IsTrue (shows_staging id 0 at h)) now.heard none_heard was in
        absurd (shows_none id 0 at f.0 f.1 f.2);
    accounted = All-weaker (λ m. is_about id m.request ≡ false) (λ m. OnStage id (IsAccountedFor [] now.heard t0) m.request) (λ m no. none_staged id (IsAccountedFor [] now.heard t0) m.request no) now.sent none_sent;
    late = All-nil (λ s. IsLate now.heard s → Any (StandsAbove now.heard t0 s.ts) []);
    live = All-nil (λ s. (IsLate now.heard s → ⊥) → IsStageHere now.heard None t0 s);
    puts =
        subst (λ ms. All (λ m. PutsUpTo t0 0 m.request) ms) (sym same_sent)
        (All-weaker (IsOwnSent session k.begun count) (λ m. PutsUpTo t0 0 m.request) (λ m own epoch seq put. absurd (new_put id epoch k.begun m.request later own.own.write seq put)) k.sent sent);
    put_heard =
        subst (λ hs. All (λ h. PutsUpTo t0 0 h.request) hs) (sym same_heard)
        (All-weaker (IsOwnHeard session k.begun count) (λ h. PutsUpTo t0 0 h.request) (λ h own epoch seq put. absurd (new_put id epoch k.begun h.request later own.own.write seq put)) k.heard heard);
    found = subst (λ hs. All (IsFoundProved t0) hs) (sym same_heard)
        (All-weaker (IsOwnHeard session k.begun count) (IsFoundProved t0) (λ h own. finds_none t0 h (λ epoch seq. new_unfound id session k.begun epoch seq h.request h.reply later whose own.own.query_of)) k.heard heard);
    writes = nothing_written now.sent now.heard t0 refl;
    flight = nothing_stands [] t0 refl refl;
    staging = sending.nothing_stands now t0 (record { none_sent = none_sent; none_heard = none_heard; none_written = none_written });
    reads = none_read id now.heard ts;
  }
