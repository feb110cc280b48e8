-- A commit's refreshes, and the commit itself, are to be sent.
use Rattle.std.proofs.Common.{◌≡◌, ℕ, ◌≤◌, ◌<◌, nat_lt, Bool, ◌&&◌, true, false, ◌⊎◌, inl, inr, List, [], ◌∷◌, map, None, Some, refl, sym, ap, ◌∙◌, subst, arith, All, Any, IsTrue, lit<, not}
use Rattle.std.proofs.lemmas.Bool.{and_parts, ltb-true}
use Rattle.std.proofs.lemmas.Option.{same_Some}
use Rattle.std.proofs.lemmas.List.Elements.{All-cons, All-map, All-nil, All-weaker}
use Rattle.pc_call.proofs.Below.{below_fresh}
use Rattle.pc_call.specs.Setting.{Setting}
use Rattle.pc_base.specs.declared.limits.TheConstants.{MOST_CONFLICTS}
use Rattle.pc_base.specs.declared.span.Span.{Span}
use Rattle.pc_call.proofs.Beginning.{AreTwo, IsNewFor, IsUnsentIn, beats_unasked, new_goes, none_held, none_met, none_paced, requests_are, unmet_now, wave_goes, none_told}
use Rattle.pc_call.proofs.Meeting.{none_low}
use Rattle.pc_call.proofs.Settled.{settled_fresh}
use Rattle.pc_call.proofs.Turning.{turn_begun}
use Rattle.pc_call.proofs.Unsent.{same_put_only, unsent_plain}
use Rattle.pc_call.specs.Committing.{CommitsNow, CommitsUpTo}
use Rattle.pc_call.proofs.Beside.{asked_anew, past_unmet}
use Rattle.pc_call.specs.Beside.{IsOfWrite, IsPastOrNoQuery, IsPastOrInFlight}
use Rattle.pc_call.specs.declared.later.LaterPut.{LaterPut}
use Rattle.pc_call.specs.declared.purpose.Purpose.{Purpose}
use Rattle.pc_call.specs.declared.purpose.Purpose.TheVariants as purposes
use Rattle.pc_call.specs.Fresh.{IsFresh, ShowsAlive}
use Rattle.pc_call.specs.Paced.{IsPaced}
use Rattle.pc_call.specs.Serving.{InCall, IsCommitBelow, IsMetUpTo, IsRefreshGoneOut, IsRefreshUpTo, IsRefusedBy, HasBeatenBy, KeepsStages, MeetsByPut, MetNoOtherWrite, MetNoWrite, Serves, WaitsMeanwhile, WasRefusedIfCommit, out_of}
use Rattle.pc_call.specs.Stages.{CommitsOnFrom, HasOutbox}
use Rattle.pc_call.specs.Suiting.{SuitsFlightIn}
use Rattle.pc_follows.specs.Heartbeats.{is_heartbeat}
use Rattle.pc_proto.specs.declared.call.Call.TheVariants as calls
use Rattle.pc_proto.specs.declared.reply.Reply.{Reply}
use Rattle.pc_proto.specs.declared.reply.Reply.TheVariants as replies
use Rattle.pc_proto.specs.declared.request.Request.{Request}
use Rattle.pc_proto.specs.declared.request.Request.TheVariants as requests
use Rattle.pc_proto.specs.declared.why.Why.{Why}
use Rattle.pc_proto.specs.Replies.{is_conflict, is_undecided_status}
use Rattle.pc_proto.specs.Requests.{is_commit, is_put, is_put_of}
use Rattle.pc_reads.proofs.Ordered.{sorted_apart}
use Rattle.pc_reads.specs.ReadsStanding.{refresh_to}
use Rattle.pc_reads.specs.Replies.{unrefreshed_by}
use Rattle.pc_txn.specs.declared.txn.OpenTxn.{OpenTxn}
use Rattle.pc_txn.specs.Opened.{own_commit}
use Rattle.pc_txn.specs.Standing.{TxnStands}
use Rattle.pc_wave.specs.declared.message.Message.{Message}
use Rattle.pc_wave.proofs.Lists.{at_least-before, at_least-fewer}
use Rattle.pc_wave.specs.Messages.{message_to_send}
use Rattle.pc_wave.specs.Standing.{MayGoOut, Pairwise, goes_beside}
use Rattle.pc_world.specs.Counting.{AtLeast}
use Rattle.pc_world.specs.Known.{Known}
use Rattle.pc_world.specs.Known.Statements.{Statement}
use Rattle.pc_world.specs.Known.Traffic.{Sent}
use Rattle.pc_world.specs.Known.Transactions.{Txn}
use Rattle.pc_world.specs.SameRequest.{IsSameRequest}
use Rattle.pc_world.specs.StageFate.{IsLate}
use Rattle.pc_world.specs.Tell.Data.{was_sent_now}
use Rattle.pc_world.specs.Tell.Refusal.{IsConflictOf, WasMoved, is_moved}
use Rattle.pc_call.proofs.Facts.{beat_moves}

module _ (set : Setting) (bound n : ℕ) (k : Known) (t : Txn) (x : OpenTxn) (s : Statement) (c : CommitsUpTo set.course.loses bound n k t x s) where
  -- only puts met intents
  unmet : (r : Request) → is_put r ≡ false → AtLeast (IsConflictOf r) 1 k.heard_now → ⊥
  unmet r none one =
      at_least-before (IsConflictOf r) 1 [] k.heard_now (All-weaker MeetsByPut (λ h. IsConflictOf r h → ⊥) (λ h meets c. same_put_only r h.request none (meets c.conflict) c.same) k.heard_now c.commits.met) one

  -- the commit goes on with these messages
  goes_on : (p : Purpose) (rs : List Request) → All (λ r. goes_beside r ≡ false) rs → All (IsNewFor set.course k) rs → All (λ r. is_put r ≡ false) rs → Pairwise AreTwo rs → out_of p (map message_to_send rs) ≡ None → KeepsStages p k c.stages → (set.course.loses ≡ false → HasBeatenBy p k t)
      → ((r : Request) → IsOfWrite t.id t.epoch x.in_flight r → WaitsMeanwhile p t.id t.epoch x.in_flight r) → SuitsFlightIn set.course.pipelines s.call x.in_flight → Serves set k s t x c.stages p (map message_to_send rs)
      → InCall set k x p (map message_to_send rs)
  goes_on p rs own new plain two out kept beaten left suits serves = record {
    t = t;
    open_in = c.open_in;
    stages = c.stages;
    stands = subst (λ o. TxnStands k c.stages o t x) (sym out) c.stands;
    kept = kept;
    cause = c.client;
    s = s;
    opened = c.opened;
    split = c.split;
    wave =
        wave_goes set.course k rs own (All-weaker (IsNewFor set.course k) (MayGoOut set.course k) (λ r n. new_goes set.course k r n) rs new)
        (All-weaker (λ r. is_put r ≡ false) (λ r. AtLeast (IsConflictOf r) 1 k.heard_now → ⊥) (λ r none. unmet r none) rs plain) two;
    paced = subst (λ hs. IsPaced hs k.heard_now) (sym (none_held rs)) c.paced;
    fewer = λ r waits other eight. c.none_eighth r (λ proved. waits (left r (inr proved))) eight;
    done =
        asked_anew k (WaitsMeanwhile p t.id t.epoch x.in_flight) (map (λ m. m.request) (map message_to_send rs))
        (All-weaker (IsPastOrInFlight k t.id t.epoch x.in_flight) (λ m. IsTrue (goes_beside m.request) ⊎ IsPastOrNoQuery k m.request ⊎ WaitsMeanwhile p t.id t.epoch x.in_flight m.request) past k.sent_now c.done)
        (subst (λ qs. All (IsUnsentIn k.sent_now) qs) (sym (requests_are rs)) (All-weaker (IsNewFor set.course k) (IsUnsentIn k.sent_now) (λ r n. n.unsent) rs new));
    below = λ goes_on. c.below;
    beaten = beaten;
    plain = suits;
    serves = serves;
  }
    where
      past : (m : Sent) → IsPastOrInFlight k t.id t.epoch x.in_flight m → IsTrue (goes_beside m.request) ⊎ IsPastOrNoQuery k m.request ⊎ WaitsMeanwhile p t.id t.epoch x.in_flight m.request
      past m (inl beside) = inl beside
      past m (inr (inl was)) = inr (inl was)
      past m (inr (inr flies)) = inr (inr (left m.request flies))

-- a commit that is of one request with another is it
same_commit : (r other : Request) → is_commit r ≡ true → IsSameRequest r other → other ≡ r
same_commit r other is (inl e) = sym e
same_commit (requests.Commit meta ts locks) other is (inr put) = absurd put
same_commit r other is (inr put) = absurd cc

same_refresh : (x : OpenTxn) (span : Span) (other : Request) → IsSameRequest (refresh_to x.id x.reads.ts x.write_ts span) other → other ≡ refresh_to x.id x.reads.ts x.write_ts span
same_refresh x span other (inl e) = sym e
same_refresh x span other (inr put) = absurd put

module _ (set : Setting) (n : ℕ) (k : Known) (x : OpenTxn) (s : Statement) (c : CommitsNow set.course.loses n k x s) (later : List LaterPut) (o : HasOutbox set.course.loses k x later) where
  abbrev said : Request
  said = own_commit x c.on.commits.anchor

  writes_at : x.write_ts ≡ c.t.write_ts
  writes_at = ap (λ x. x.write_ts) c.on.stands.same

  -- each commit that was sent lies below the one that goes out now
  not_said : (m : Sent) → WasRefusedIfCommit c.t.write_ts k.heard_now m → IsSameRequest said m.request → ⊥
  not_said m refused same =
      let is : m.request ≡ said = same_commit said m.request refl same in
      let r : Any (IsRefusedBy c.t.write_ts m) k.heard_now = refused (ap is_commit is) in
      let low : x.write_ts < c.t.write_ts = subst (IsCommitBelow c.t.write_ts) is r.4.past in
      omega (arith, low, writes_at)

  unsent_now : IsUnsentIn k.sent_now said
  unsent_now = All-weaker (WasRefusedIfCommit c.t.write_ts k.heard_now) (λ m. IsSameRequest said m.request → ⊥) not_said k.sent_now c.on.refused

  pub commit_begins : x.in_flight ≡ [] → InCall set k x (purposes.Commit n) (message_to_send said ∷ [])
  commit_begins none =
      goes_on set c.t.write_ts n k c.t x s c.on (purposes.Commit n) (said ∷ []) (All-cons (λ r. goes_beside r ≡ false) said [] refl (All-nil (λ r. goes_beside r ≡ false)))
      (All-cons (IsNewFor set.course k) said [] (record { unsent = unsent_now; unheard = unsent_plain (not set.course.loses && set.course.pipelines) k said refl unsent_now; untold = none_told k said refl }) (All-nil (IsNewFor set.course k)))
      (All-cons (λ r. is_put r ≡ false) said [] refl (All-nil (λ r. is_put r ≡ false))) (All-nil (AreTwo said), tt) refl c.on.late c.on.beaten
      (λ r of. elim of [ inl flies ↦ (let some = subst (λ fs. Any (λ w. IsTrue (is_put_of c.t.id c.t.epoch w.seq r)) fs) none flies in absurd (omega (arith, some.2))) | inr proved ↦ proved ])
      (subst (λ fs. SuitsFlightIn set.course.pipelines s.call fs) (sym none) (suits set.course.pipelines))
      (record {
        commits = c.on.commits;
        none_in_flight = none;
        refused =
            All-weaker (WasRefusedIfCommit c.t.write_ts k.heard_now) (λ m. (m.request ≡ said) ⊎ WasRefusedIfCommit c.t.write_ts k.heard_now m) (λ m r. inr r) k.sent_now c.on.refused;
        refreshes = c.on.refreshes;
        held = c.on.held;
        m = message_to_send said;
        one = refl;
        said = refl;
        good = λ e. c.good;
        there = λ e. absurd cc;
        settled = c.on.settled;
      })
    where
      suits : (b : Bool) → SuitsFlightIn b s.call []
      suits true = tt
      suits false = tt

pub refresh-more : (low high : ℕ) (r : Request) → low ≤ high → IsRefreshUpTo low r → IsRefreshUpTo high r
refresh-more low high (requests.Refresh id from to span) h up = omega arith
refresh-more low high r h up = tt

module _ (set : Setting) (n : ℕ) (k : Known) (t : Txn) (x : OpenTxn) (s : Statement) (puts : List Message) (c : CommitsOnFrom set.course.loses t.read_ts n k t x s puts) (behind : x.reads.ts < x.write_ts) (later : List LaterPut) (o : HasOutbox set.course.loses k x later) where
  abbrev asks : Span → Request
  asks span = refresh_to x.id x.reads.ts x.write_ts span

  reads_at : x.reads.ts ≡ t.read_ts
  reads_at = ap (λ x. x.reads.ts) c.on.stands.same

  writes_now : x.write_ts ≡ t.write_ts
  writes_now = ap (λ x. x.write_ts) c.on.stands.same

  -- none of it was sent
  unsent : (span : Span) → All (λ m. IsSameRequest (asks span) m.request → ⊥) k.sent_now
  unsent span =
      All-weaker (λ m. IsRefreshUpTo t.read_ts m.request) (λ m. IsSameRequest (asks span) m.request → ⊥)
      (λ m up same. let low : x.write_ts ≤ t.read_ts = subst (IsRefreshUpTo t.read_ts) (same_refresh x span m.request same) up in omega (arith, low, reads_at, behind)) k.sent_now c.on.refreshes

  refresh_new : (span : Span) → IsNewFor set.course k (asks span)
  refresh_new span = record { unsent = unsent span; unheard = unsent_plain (not set.course.loses && set.course.pipelines) k (asks span) refl (unsent span); untold = none_told k (asks span) refl }

  all_asked : (P : Request → Type 0) → ((span : Span) → P (asks span)) → (spans : List Span) → All P (map asks spans)
  all_asked P all [] = All-nil P
  all_asked P all (span ∷ spans) = All-cons P (asks span) (map asks spans) (all span) (all_asked P all spans)

  not_same : (one other : Span) → (one ≡ other → ⊥) → IsSameRequest (asks one) (asks other) → ⊥
  not_same one other differ (inl e) = let f : one ≡ other = cc in differ f
  not_same one other differ (inr put) = put

  apart : (one other : Span) → (one ≡ other → ⊥) → AreTwo (asks one) (asks other)
  apart one other differ = record { differ = not_same one other differ; back = not_same other one (λ e. differ (sym e)) }

  are_two : (spans : List Span) → Pairwise (λ one other. one ≡ other → ⊥) spans → Pairwise AreTwo (map asks spans)
  are_two [] d = tt
  are_two (span ∷ spans) d = (
    All-map (AreTwo (asks span)) asks spans (All-weaker (λ other. span ≡ other → ⊥) (λ other. AreTwo (asks span) (asks other)) (λ other differ. apart span other differ) spans d.0),
    are_two spans d.1,
  )

  pub refresh_begins : SuitsFlightIn set.course.pipelines calls.Commit x.in_flight → InCall set k x (purposes.Refresh n puts) (map message_to_send (map asks x.reads.spans))
  refresh_begins suits =
      goes_on set t.read_ts n k t x s c.on (purposes.Refresh n puts) (map asks x.reads.spans) (all_asked (λ r. goes_beside r ≡ false) (λ span. refl) x.reads.spans) (all_asked (IsNewFor set.course k) refresh_new x.reads.spans)
      (all_asked (λ r. is_put r ≡ false) (λ span. refl) x.reads.spans) (are_two x.reads.spans (sorted_apart x.reads.spans c.on.stands.reads.ordered)) refl c.on.late c.on.beaten (λ r flies. flies)
      (subst (λ call. SuitsFlightIn set.course.pipelines call x.in_flight) (sym c.on.commits.call) suits)
      (record {
        commits = c.on.commits;
        refused = c.on.refused;
        refreshes =
            All-weaker (λ m. IsRefreshUpTo t.read_ts m.request) (λ m. IsRefreshUpTo t.write_ts m.request)
            (λ m up. refresh-more t.read_ts t.write_ts m.request (omega (arith, c.on.stands.behind)) up) k.sent_now c.on.refreshes;
        behind = behind;
        asked = requests_are (map asks x.reads.spans);
        sent = λ quiet. All-weaker (λ m. IsRefreshUpTo t.read_ts m.request) (λ m. IsRefreshGoneOut t.write_ts (map message_to_send (map asks x.reads.spans)) m.request) (λ m up. none_gone m.request up) k.sent_now c.on.refreshes;
        in_turn = λ quiet. turn_begun (map asks x.reads.spans);
        held = All-weaker MetNoWrite (MetNoOtherWrite (map message_to_send (map asks x.reads.spans))) (λ h none. inl none) k.heard_now c.on.held;
        low = All-weaker MetNoWrite (IsMetUpTo k.top) (none_low k.top) k.heard_now c.on.held;
        none_eighth = c.on.none_eighth;
        counted = c.counted;
        settled = c.on.settled;
      })
    where
      none_gone : (q : Request) → IsRefreshUpTo t.read_ts q → IsRefreshGoneOut t.write_ts (map message_to_send (map asks x.reads.spans)) q
      none_gone (requests.Refresh id from to span) up = λ same. absurd (omega (arith, same, up, reads_at, writes_now, behind))
      none_gone q up = tt

-- a heartbeat decides nothing, and its reply moves nothing
beat_no_commit : (r : Request) → is_heartbeat r ≡ true → IsTrue (is_commit r) → ⊥
beat_no_commit (requests.Beat meta ts now) beat commits = cc
beat_no_commit r beat commits = absurd cc

beat_no_refresh : (ts : ℕ) (r : Request) → is_heartbeat r ≡ true → IsRefreshUpTo ts r
beat_no_refresh ts (requests.Beat meta at now) beat = tt
beat_no_refresh ts r beat = absurd cc

undecided_no_write : (reply : Reply) → is_undecided_status reply ≡ true → unrefreshed_by reply ≡ None
undecided_no_write (replies.Status view) is = refl
undecided_no_write reply is = absurd cc

pub beats_unmoved : (k : Known) → All (λ h. is_heartbeat h.request ≡ true) k.heard_now → AtLeast (WasMoved k) 1 k.heard_now → ⊥
beats_unmoved k heard one =
    at_least-before (WasMoved k) 1 [] k.heard_now
    (All-weaker (λ h. is_heartbeat h.request ≡ true) (λ h. WasMoved k h → ⊥) (λ h beat moved. let e : is_moved h.request h.reply ≡ false = beat_moves h.request h.reply beat in let f = (and_parts (was_sent_now k h) (is_moved h.request h.reply) moved).1 in absurd cc) k.heard_now heard) one

-- a commit that was just asked goes on
pub commit_asked_now : (loses : Bool) (k : Known) (x : OpenTxn) (s : Statement) (why : Why) (anchor : List ℕ) (f : IsFresh loses k x s why) → s.call ≡ calls.Commit → x.anchor ≡ Some anchor → CommitsUpTo loses f.t.read_ts 0 k f.t x s
commit_asked_now loses k x s why anchor f call anchored = record {
  open_in = f.open_in;
  stages = [];
  stands = f.stands;
  late = All-nil (IsLate k.heard);
  client = f.client;
  opened = f.opened;
  split = f.split;
  paced = none_paced k f.t x s f.open_in f.stands f.client f.opened f.split f.heard;
  commits = record {
    call = call;
    anchor = anchor;
    anchored = sym (ap (λ x. x.anchor) f.stands.same) ∙ anchored;
    few = lit< tt;
    moves = record { moved = tt; no_more = λ one. beats_unmoved k (All-weaker ShowsAlive (λ h. is_heartbeat h.request ≡ true) (λ h a. a.beat) k.heard_now f.heard) one };
    met = All-weaker (λ h. is_conflict h.reply ≡ false) MeetsByPut (λ h plain met. let e : false ≡ true = sym plain ∙ met in absurd cc) k.heard_now unmet;
  };
  refused = All-weaker (λ m. is_heartbeat m.request ≡ true) (WasRefusedIfCommit f.t.write_ts k.heard_now) (λ m beat commits. absurd (beat_no_commit m.request beat commits)) k.sent_now f.sent;
  refreshes = All-weaker (λ m. is_heartbeat m.request ≡ true) (λ m. IsRefreshUpTo f.t.read_ts m.request) (λ m beat. beat_no_refresh f.t.read_ts m.request beat) k.sent_now f.sent;
  held = All-weaker ShowsAlive MetNoWrite (λ h a. undecided_no_write h.reply a.undecided) k.heard_now f.heard;
  beaten = f.beaten;
  none_eighth = λ r proved eight. none_met k unmet r (at_least-fewer (IsConflictOf r) 1 MOST_CONFLICTS k.heard_now (omega arith) eight);
  below = below_fresh k f.heard;
  settled = settled_fresh k f.heard;
  done = All-weaker (λ m. IsTrue (goes_beside m.request) ⊎ IsPastOrNoQuery k m.request) (IsPastOrInFlight k f.t.id f.t.epoch x.in_flight) past k.sent_now (past_unmet k f.split unmet (beats_unasked k.sent_now f.sent));
}
  where
    unmet : All (λ h. is_conflict h.reply ≡ false) k.heard_now
    unmet = unmet_now k f.t x s f.open_in f.stands f.client f.opened f.split f.heard

    past : (m : Sent) → IsTrue (goes_beside m.request) ⊎ IsPastOrNoQuery k m.request → IsPastOrInFlight k f.t.id f.t.epoch x.in_flight m
    past m (inl beside) = inl beside
    past m (inr was) = inr (inl was)

-- where a commit goes on, it writes no earlier than it reads
pub goes_at_once : (loses : Bool) (bound n : ℕ) (k : Known) (t : Txn) (x : OpenTxn) (s : Statement) → CommitsUpTo loses bound n k t x s → x.reads.ts ≤ x.write_ts
goes_at_once loses bound n k t x s c =
    let reads : x.reads.ts ≡ t.read_ts = ap (λ x. x.reads.ts) c.stands.same in
    let writes : x.write_ts ≡ t.write_ts = ap (λ x. x.write_ts) c.stands.same in
    omega (arith, c.stands.behind)

-- what is to be refreshed lies behind
pub behind_of : (a b : ℕ) (r other : Bool) → r ≡ (nat_lt a b && other) → r ≡ true → a < b
behind_of a b r other made is = ltb-true a b (and_parts (nat_lt a b) other (sym made ∙ is)).0

-- the anchor of a commit that goes out is the transaction's
pub anchor_now : (loses : Bool) (n : ℕ) (k : Known) (x : OpenTxn) (s : Statement) (c : CommitsNow loses n k x s) (anchor : List ℕ) → x.anchor ≡ Some anchor → c.on.commits.anchor ≡ anchor
anchor_now loses n k x s c anchor is = same_Some c.on.commits.anchor anchor (sym c.on.commits.anchored ∙ sym (ap (λ x. x.anchor) c.on.stands.same) ∙ is)
