-- The round of a conflict was made, and its message goes out again.
use Rattle.std.proofs.Common.{◌≡◌, ℕ, ◌≤◌, Bool, true, false, cond, ◌&&◌, ◌⊎◌, inl, inr, List, [], ◌∷◌, ◌++◌, map, find, Option, Some, refl, sym, ap, ◌∙◌, subst, arith, All, Any, IsTrue, append_assoc, count_by, not}
use Rattle.std.specs.List.{list_any}
use Rattle.std.proofs.lemmas.Bool.{eq-eqb}
use Rattle.std.proofs.lemmas.List.Elements.{All-append, All-cons, All-head, All-map, All-nil, All-tail, All-weaker}
use Rattle.pc_call.proofs.Below.{below_beside}
use Rattle.pc_txn.specs.Silence.{own_beat}
use Rattle.pc_txn.specs.Queries.{own_query}
use Rattle.pc_proto.specs.declared.answer.Answer.{Answer}
use Rattle.pc_base.specs.declared.transaction.TxnId.{TxnId}
use Rattle.pc_call.specs.Beaten.{HasBeatenIn}
use Rattle.pc_call.specs.Setting.{Setting}
use Rattle.pc_base.specs.declared.limits.TheConstants.{MOST_CONFLICTS, MOST_IN_FLIGHT}
use Rattle.pc_call.proofs.Beating.{IsSilentHeard, IsSilentSent, beaten_beside, not_nil, first_beside}
use Rattle.pc_call.proofs.Facts.{before_is, open_by, open_is, unsent_goes}
use Rattle.pc_call.proofs.StillReplies.{refresh_kind}
use Rattle.pc_call.proofs.Holders.{holders_again}
use Rattle.pc_call.proofs.Lists.{all_changed, all_unmapped, kept_by, only_found}
use Rattle.pc_call.proofs.Meeting.{any_goes_on}
use Rattle.pc_call.proofs.Beside.{IsAskedOrBeside, asked-kept}
use Rattle.pc_call.proofs.JustSo.{just_so_beside}
use Rattle.pc_call.proofs.Kept.{kept_on}
use Rattle.pc_call.proofs.Full.{full_from}
use Rattle.pc_call.proofs.StageLists.{order_kept}
use Rattle.pc_call.specs.Beside.{AreAskedOrDone}
use Rattle.pc_call.specs.declared.purpose.Purpose.{Purpose}
use Rattle.pc_call.specs.declared.purpose.Purpose.TheVariants as purposes
use Rattle.pc_call.specs.Paced.{IsPaced}
use Rattle.pc_call.specs.Rounding.{KeepsPace, MakesRound, IsPushedOnce}
use Rattle.pc_call.specs.Serving.{AreReadsOf, HasBeatenBy, InCall, IsReadFor, IsOpenFor, IsSplit, LaysLast, LaysNext, NoOtherMetEighth, ReadsNothing, SendsAgain, Serves, ServesAbort, ServesBeat, ServesCommit, ServesProve, ServesRead, ServesRefresh, ServesWrite, WaitsMeanwhile, holder_met, holders_met, out_of, ServesQuery, ServesLastBeat}
use Rattle.pc_call.specs.Waiting.{waits_on}
use Rattle.pc_follows.specs.Heartbeats.{is_heartbeat}
use Rattle.pc_follows.specs.PipelinedPuts.{heard_before, proves, was_in_flight}
use Rattle.pc_proto.specs.declared.call.Call.{Call}
use Rattle.pc_proto.specs.declared.reply.Reply.{Reply}
use Rattle.pc_proto.specs.declared.reply.Reply.TheVariants as replies
use Rattle.pc_proto.specs.declared.request.Request.{Request}
use Rattle.pc_proto.specs.declared.request.Request.TheVariants as requests
use Rattle.pc_proto.specs.declared.why.Why.{Why}
use Rattle.pc_proto.specs.Replies.{holder_in, is_conflict}
use Rattle.pc_proto.specs.Requests.{is_about, is_put_of}
use Rattle.pc_txn.proofs.Keeping.{quiet_leaves, stands_on}
use Rattle.pc_txn.proofs.Late.{late_more}
use Rattle.pc_txn.specs.declared.txn.OpenTxn.{OpenTxn}
use Rattle.pc_txn.specs.Opened.{own_abort, own_commit}
use Rattle.pc_txn.specs.Standing.{HasMovedOn, LeavesAsIs, TxnStands, is_plain, is_query_of}
use Rattle.pc_txn.specs.Writing.{WasAskedAt}
use Rattle.pc_wave.proofs.Changed.{found_all}
use Rattle.pc_wave.proofs.ForCall.{same_before}
use Rattle.pc_wave.proofs.Lists.{at_least-before}
use Rattle.pc_wave.proofs.Rounds.{found_at, wave_again, wave_went}
use Rattle.pc_wave.specs.declared.message.Message.{Message}
use Rattle.pc_wave.specs.Due.{MadeRound}
use Rattle.pc_wave.specs.declared.message.Progress.TheVariants as progresses
use Rattle.pc_wave.specs.declared.step.Step.TheVariants as steps
use Rattle.pc_wave.specs.Messages.{conflicts_at, first_changed, goes_again, is_in_conflict, is_to_send, progress_conflicts, progress_has_answer, progress_to_send, step_of}
use Rattle.pc_wave.specs.Standing.{AreOfTwo, IsAsFar, MessageStands, MetConflict, Pairwise, WaveStands, goes_beside}
use Rattle.pc_world.specs.Answering.{IsRefreshReply, MayAnswer}
use Rattle.pc_world.specs.Counting.{AtLeast}
use Rattle.pc_world.specs.Known.{Known}
use Rattle.pc_world.specs.Known.Reads.{read_heard}
use Rattle.pc_world.specs.Known.Traffic.{Heard, Sent}
use Rattle.pc_world.specs.Known.Transactions.{Txn}
use Rattle.pc_world.specs.SameRequest.{IsSameRequest}
use Rattle.pc_world.specs.StageFate.{IsLate}
use Rattle.pc_world.specs.Tell.Data.{IsFirstPut, IsPutFor, sent_before}
use Rattle.pc_world.specs.Tell.Refusal.{IsConflictOf, is_heard, is_moved}
use Rattle.pc_refusals.specs.Moves.{IsNoMove}

pub beside_quiet : (r : Request) → goes_beside r ≡ true → is_plain r ≡ true
beside_quiet (requests.Put meta seq ts key value) e = absurd cc
beside_quiet (requests.Stage meta ts now writes locks) e = absurd cc
beside_quiet (requests.Commit meta ts locks) e = absurd cc
beside_quiet (requests.Beat meta ts now) e = absurd cc
beside_quiet r e = refl

pub beside_silent : (r : Request) → goes_beside r ≡ true → is_heartbeat r ≡ false
beside_silent (requests.Beat meta ts now) e = absurd cc
beside_silent r e = refl

beside_no_read : (r : Request) (reply : Reply) → goes_beside r ≡ true → read_heard r reply ≡ []
beside_no_read (requests.Get id epoch seq ts key) reply e = absurd cc
beside_no_read (requests.Scan id epoch seq ts span) reply e = absurd cc
beside_no_read r reply e = refl

beside_no_move : (r : Request) (reply : Reply) → goes_beside r ≡ true → is_moved r reply ≡ false
beside_no_move (requests.Stage meta ts now writes locks) reply e = absurd cc
beside_no_move (requests.Commit meta ts locks) reply e = absurd cc
beside_no_move r reply e = refl

beside_no_put : (t : Txn) (key : List ℕ) (value : Option (List ℕ)) (seq : ℕ) (r : Request) → goes_beside r ≡ true → IsPutFor t key value seq r → ⊥
beside_no_put t key value seq (requests.Put meta at ts place what) e put = cc
beside_no_put t key value seq r e put = put

beside_reads_nothing : (r : Request) → goes_beside r ≡ true → ReadsNothing r
beside_reads_nothing (requests.Get id epoch seq ts key) e = absurd cc
beside_reads_nothing (requests.Scan id epoch seq ts span) e = absurd cc
beside_reads_nothing r e = record { no_get = refl; no_scan = refl }

module _ (set : Setting) (start k : Known) (x : OpenTxn) (p : Purpose) (ms : List Message) (w : InCall set start x p ms) (number : ℕ) (conflict : Reply)
    (due : step_of ms ≡ steps.Round number conflict) (made : MakesRound start k x.id conflict) where
  abbrev ms2 : List Message
  ms2 = first_changed (conflicts_at number) goes_again ms

  module _ (m : Message) (found_c : find is_in_conflict ms ≡ Some m) (progress : m.progress ≡ progresses.Met number conflict) where
    found : find (conflicts_at number) ms ≡ Some m
    found = found_at number ms m found_c (ap (progress_conflicts number) progress ∙ eq-eqb number number refl)

    stands_m : MessageStands set.course start m
    stands_m = found_all is_in_conflict (MessageStands set.course start) ms m found_c w.wave.stand

    met : MetConflict set.course start number m.request conflict
    met = subst (λ p. IsAsFar set.course start m.request m.conflicts p) progress stands_m.as_far

    gone : HasMovedOn start k made.sent_more made.heard_more
    gone = record { sent = made.more.sent; heard = made.more.heard; begun = made.begun; high = made.high }

    made_round : MadeRound start k conflict
    made_round = record { sent_more = made.sent_more; heard_more = made.heard_more; more = made.more; sent = made.sent_beside; heard = made.heard_beside; followed = made.followed }

    wave2 : WaveStands set.course k ms2
    wave2 = wave_again set.course start k ms number conflict w.wave due made_round

    requests2 : map (λ m. m.request) ms2 ≡ map (λ m. m.request) ms
    requests2 = kept_by (conflicts_at number) goes_again (λ (m : Message). m.request) ms (λ m. refl)

    holder_is : holder_in conflict ≡ Some met.holder.id
    holder_is = ap holder_in met.is

    pace : IsPushedOnce met.holder.id start.heard_now k.heard_now
    pace = subst (λ o. KeepsPace o start.heard_now k.heard_now) holder_is made.pace

    paced2 : IsPaced (holders_met ms2) k.heard_now
    paced2 = record {
      pushes = λ id.
          let held = holders_again id met.holder.id number ms m found (ap holder_met progress ∙ holder_is) in
          let pushed = pace.pushes id in
          let more = pace.met id in
          let old = w.paced.pushes id in
          omega arith;
      behind = pace.behind;
    }

    abbrev waits : Request → Type 0
    waits = WaitsMeanwhile p w.t.id w.t.epoch x.in_flight

    fewer2 : NoOtherMetEighth waits k.heard_now ms2
    fewer2 r left none eight =
        let P : Request → Type 0 = λ q. IsSameRequest q r → ⊥ in
        let before : All (λ (m : Message). P m.request) ms = all_unmapped P (λ (m : Message). m.request) ms (subst (λ rs. All P rs) requests2 (All-map P (λ (m : Message). m.request) ms2 none)) in
        w.fewer r left before
        (at_least-before (IsConflictOf r) MOST_CONFLICTS start.heard_now made.heard_more
        (All-weaker (λ h. is_conflict h.reply ≡ false) (λ h. IsConflictOf r h → ⊥)
        (λ h none c. let e : false ≡ true = sym none ∙ c.conflict in absurd cc) made.heard_more made.unmet)
        (subst (λ hs. AtLeast (IsConflictOf r) MOST_CONFLICTS hs) made.more.heard_now eight))

    done2 : AreAskedOrDone waits k (map (λ m. m.request) ms2)
    done2 =
        let asked : List Request = map (λ m. m.request) ms in
        subst (AreAskedOrDone waits k) (sym requests2)
        (asked-kept start k made.sent_more made.heard_more made.more asked waits (All-weaker (λ m. IsTrue (goes_beside m.request)) (IsAskedOrBeside asked) (λ m beside. inl beside) made.sent_more made.sent_beside)
        (λ r none. All-weaker (λ h. is_conflict h.reply ≡ false) (λ h. IsConflictOf r h → ⊥) (λ h plain c. let e : false ≡ true = sym plain ∙ c.conflict in absurd cc) made.heard_more made.unmet) w.done)

    same_id : x.id ≡ w.t.id
    same_id = ap (λ x. x.id) w.stands.same

    leaves : (hs : List Heard) → All (λ h. IsTrue (goes_beside h.request)) hs → All (λ h. is_about x.id h.request ≡ false) hs → All (λ h. is_query_of x.id h.request ≡ false) hs → All (LeavesAsIs w.t) hs
    leaves [] a b q = All-nil (LeavesAsIs w.t)
    leaves (h ∷ hs) a b q =
        let quiet : is_plain h.request ≡ true = beside_quiet h.request (All-head (λ h. IsTrue (goes_beside h.request)) h hs a) in
        let no : is_about w.t.id h.request ≡ false = subst (λ id. is_about id h.request ≡ false) same_id (All-head (λ h. is_about x.id h.request ≡ false) h hs b) in
        let unasked : is_query_of w.t.id h.request ≡ false = subst (λ id. is_query_of id h.request ≡ false) same_id (All-head (λ h. is_query_of x.id h.request ≡ false) h hs q) in
        All-cons (LeavesAsIs w.t) h hs (quiet_leaves w.t h quiet unasked no)
        (leaves hs (All-tail (λ h. IsTrue (goes_beside h.request)) h hs a) (All-tail (λ h. is_about x.id h.request ≡ false) h hs b) (All-tail (λ h. is_query_of x.id h.request ≡ false) h hs q))

    stands2 : TxnStands k w.stages (out_of p ms) w.t x
    stands2 =
        stands_on start k w.stages (out_of p ms) w.t x made.sent_more made.heard_more w.stands gone
        (All-weaker (λ m. IsTrue (goes_beside m.request)) (λ m. IsTrue (is_plain m.request)) (λ m of. beside_quiet m.request of) made.sent_more made.sent_beside)
        (leaves made.heard_more made.heard_beside made.other made.unqueried)

    split2 : IsSplit k
    split2 = record {
      sent_first = w.split.sent_first;
      sent = made.more.sent ∙ ap (λ ms. ms ++ made.sent_more) w.split.sent ∙ append_assoc w.split.sent_first start.sent_now made.sent_more ∙ ap (λ ms. w.split.sent_first ++ ms) (sym made.more.sent_now);
      heard_first = w.split.heard_first;
      heard = made.more.heard ∙ ap (λ hs. hs ++ made.heard_more) w.split.heard ∙ append_assoc w.split.heard_first start.heard_now made.heard_more ∙ ap (λ hs. w.split.heard_first ++ hs) (sym made.more.heard_now);
      unheard =
          let P : Sent → Type 0 = λ m. IsTrue (goes_beside m.request) ⊎ (is_heard w.split.heard_first m ≡ false) in
          subst (λ ms. All P ms) (sym made.more.sent_now) (All-append P start.sent_now made.sent_more w.split.unheard (All-weaker (λ m. IsTrue (goes_beside m.request)) P (λ m of. inl of) made.sent_more made.sent_beside));
    }

    beaten2 : set.course.loses ≡ false → HasBeatenBy p k w.t
    beaten2 = by p w.beaten
      where
        on : HasBeatenIn set.course.loses start w.t → HasBeatenIn set.course.loses k w.t
        on b =
            beaten_beside set.course.loses start k w.t made.sent_more made.heard_more made.more made.statement w.open_in
            (All-weaker (λ m. IsTrue (goes_beside m.request)) IsSilentSent (λ m of. beside_silent m.request of) made.sent_more made.sent_beside)
            (All-weaker (λ h. IsTrue (goes_beside h.request)) IsSilentHeard (λ h of. beside_silent h.request of) made.heard_more made.heard_beside) b

        by : (q : Purpose) → (set.course.loses ≡ false → HasBeatenBy q start w.t) → set.course.loses ≡ false → HasBeatenBy q k w.t
        by (purposes.Beat call reading) b = λ quiet.
            first_beside start k made.sent_more made.heard_more made.more (All-weaker (λ m. IsTrue (goes_beside m.request)) IsSilentSent (λ m of. beside_silent m.request of) made.sent_more made.sent_beside) (b quiet)
        by (purposes.Prove call all) b = on b
        by purposes.Read b = on b
        by purposes.Write b = on b
        by (purposes.Refresh n puts) b = on b
        by (purposes.Stage n) b = on b
        by (purposes.Query n holder puts) b = on b
        by (purposes.Commit n) b = on b
        by (purposes.LastBeat answer reading) b = λ quiet. tt
        by (purposes.Abort why) b = on b

    pub goes_on : out_of p ms2 ≡ out_of p ms → Serves set k w.s w.t x w.stages p ms2 → InCall set k x p ms2
    goes_on out serves = record {
      t = w.t;
      open_in = open_by start k w.t made.is_open made.first w.open_in;
      stages = w.stages;
      stands = subst (λ o. TxnStands k w.stages o w.t x) (sym out) stands2;
      kept = kept_on p start k w.stages (λ s late. subst (λ hs. IsLate hs s) (sym made.more.heard) (late_more start.heard made.heard_more s late)) w.kept;
      cause = w.cause;
      s = w.s;
      opened = made.statement ∙ w.opened;
      split = split2;
      wave = wave2;
      paced = paced2;
      fewer = fewer2;
      done = done2;
      below = λ goes. below_beside start k made.heard_more made.first made.more.heard_now made.heard_beside made.unmet (w.below goes);
      beaten = beaten2;
      plain = w.plain;
      serves = serves;
    }

    read_serves : ServesRead set.splits start w.s x ms → ServesRead set.splits k w.s x ms2
    read_serves r = record {
      asked = subst (λ rs. AreReadsOf set.splits x w.s.call rs) (sym requests2) r.asked;
      clear = r.clear;
      heard =
          subst (λ hs. All (IsReadFor (map (λ m. m.request) ms2)) hs) (sym made.more.heard_now)
          (All-append (IsReadFor (map (λ m. m.request) ms2)) start.heard_now made.heard_more (subst (λ rs. All (IsReadFor rs) start.heard_now) (sym requests2) r.heard)
          (All-weaker (λ h. IsTrue (goes_beside h.request)) (IsReadFor (map (λ m. m.request) ms2)) (λ h of. inl (beside_no_read h.request h.reply of)) made.heard_more made.heard_beside));
    }

    before_same : sent_before k ≡ sent_before start
    unfolding split2
    before_same = before_is k split2 ∙ sym (before_is start w.split)

    first_back : (m : Sent) → IsFirstPut k w.s w.t m → IsFirstPut start w.s w.t m
    first_back m f = record {
      seq = f.seq;
      key = f.key;
      value = f.value;
      asked = f.asked;
      put = f.put;
      first = subst (λ ms. IsTrue (not (list_any (λ other. is_put_of w.t.id w.t.epoch f.seq other.request) ms))) before_same f.first;
    }

    new_on : All (λ m. IsFirstPut start w.s w.t m → ⊥) start.sent_now → All (λ m. IsFirstPut k w.s w.t m → ⊥) k.sent_now
    new_on a =
        let P : Sent → Type 0 = λ m. IsFirstPut k w.s w.t m → ⊥ in
        subst (λ ms. All P ms) (sym made.more.sent_now)
        (All-append P start.sent_now made.sent_more (All-weaker (λ m. IsFirstPut start w.s w.t m → ⊥) P (λ m none f. none (first_back m f)) start.sent_now a)
        (All-weaker (λ m. IsTrue (goes_beside m.request)) P (λ m of f. beside_no_put w.t f.key f.value f.seq m.request of f.put) made.sent_more made.sent_beside))

    -- messages of a round move no stage or commit
    still_on : All IsNoMove start.heard_now → All IsNoMove k.heard_now
    still_on still =
        subst (λ hs. All IsNoMove hs) (sym made.more.heard_now)
        (All-append IsNoMove start.heard_now made.heard_more still (All-weaker (λ h. IsTrue (goes_beside h.request)) IsNoMove (λ h of. beside_no_move h.request h.reply of) made.heard_more made.heard_beside))

    write_serves : ServesWrite start w.s w.t x ms → ServesWrite k w.s w.t x ms2
    write_serves r = by r.lays
      where
        is_m : r.m ≡ m
        is_m = (only_found is_in_conflict r.m m (subst (λ ms. find is_in_conflict ms ≡ Some m) r.one found_c)).0

        at_number : conflicts_at number r.m ≡ true
        at_number = ap (conflicts_at number) is_m ∙ ap (progress_conflicts number) progress ∙ eq-eqb number number refl

        by : LaysNext start w.s w.t x r.key r.value r.m ⊎ LaysLast start w.t x r.key r.value r.m → ServesWrite k w.s w.t x ms2
        by (inl l) = let f : false ≡ true = ap (progress_conflicts number) (sym l.to_send) ∙ at_number in absurd cc
        by (inr l) = record {
          key = r.key;
          value = r.value;
          call = r.call;
          m = goes_again r.m;
          one = ap (first_changed (conflicts_at number) goes_again) r.one ∙ ap (λ b. cond b (goes_again r.m ∷ []) (r.m ∷ [])) at_number;
          unmoved = still_on r.unmoved;
          lays = inr (record {
            w = l.w;
            there = l.there;
            place = l.place;
            what = l.what;
            anchor = l.anchor;
            anchored = l.anchored;
            said = l.said;
            first = ap (λ ms. list_any (λ other. is_put_of w.t.id w.t.epoch l.w.seq other.request) ms) before_same ∙ l.first;
          });
        }

    -- messages beside read nothing
    unasked_on : All (λ m. ReadsNothing m.request) start.sent_now → All (λ m. ReadsNothing m.request) k.sent_now
    unasked_on a =
        let P : Sent → Type 0 = λ m. ReadsNothing m.request in
        subst (λ ms. All P ms) (sym made.more.sent_now)
        (All-append P start.sent_now made.sent_more a (All-weaker (λ m. IsTrue (goes_beside m.request)) P (λ m of. beside_reads_nothing m.request of) made.sent_more made.sent_beside))

    unread_on : All (λ h. ReadsNothing h.request) start.heard_now → All (λ h. ReadsNothing h.request) k.heard_now
    unread_on a =
        let P : Heard → Type 0 = λ h. ReadsNothing h.request in
        subst (λ hs. All P hs) (sym made.more.heard_now)
        (All-append P start.heard_now made.heard_more a (All-weaker (λ h. IsTrue (goes_beside h.request)) P (λ h of. beside_reads_nothing h.request of) made.heard_more made.heard_beside))

    module _ (call : Call) (all : Bool) where
      -- what was sent went out at its timestamp
      goes_then : (y : Message) (a : SendsAgain call all start w.t x y) → is_to_send y ≡ false → WasAskedAt w.t a.w.seq a.ts
      goes_then y a out = elim a.goes_at [ inl now ↦ let f : false ≡ true = sym out ∙ unsent_goes y now.0 in absurd cc | inr was ↦ was.0 ]

      again_still : (y : Message) → SendsAgain call all start w.t x y → SendsAgain call all k w.t x y
      again_still y a = record {
        w = a.w;
        waits = a.waits;
        before = ap (λ ms. list_any (λ other. is_put_of w.t.id w.t.epoch a.w.seq other.request) ms) before_same ∙ a.before;
        anchor = a.anchor;
        anchored = a.anchored;
        ts = a.ts;
        said = a.said;
        low = a.low;
        goes_at = elim a.goes_at [ inl now ↦ inl now | inr was ↦ inr (was.0, just_so_beside start k made.heard_more made.more.heard_now made.heard_beside y (ap goes_beside a.said) was.1) ];
        there = a.there;
      }

      again_once_more : SendsAgain call all start w.t x m → SendsAgain call all k w.t x (goes_again m)
      again_once_more a = record {
        w = a.w;
        waits = a.waits;
        before = ap (λ ms. list_any (λ other. is_put_of w.t.id w.t.epoch a.w.seq other.request) ms) before_same ∙ a.before;
        anchor = a.anchor;
        anchored = a.anchored;
        ts = a.ts;
        said = a.said;
        low = a.low;
        goes_at = inr (goes_then m a (ap progress_to_send progress), λ to_send none. wave_went set.course start k ms number conflict w.wave due made_round m found_c);
        there = λ none. a.there (ap progress_has_answer progress);
      }

      -- the messages prove their writes on
      pub again_all : (ys : List Message) → find (conflicts_at number) ys ≡ Some m → Pairwise AreOfTwo ys → All (SendsAgain call all start w.t x) ys → All (SendsAgain call all k w.t x) (first_changed (conflicts_at number) goes_again ys)
      again_all ys there differ again = all_changed AreOfTwo (conflicts_at number) goes_again (SendsAgain call all start w.t x) (SendsAgain call all k w.t x) m again_once_more (λ y apart a. again_still y a) ys there differ again

      full_on : MOST_IN_FLIGHT ≤ count_by (was_in_flight start w.t) w.t.writes → MOST_IN_FLIGHT ≤ count_by (was_in_flight k w.t) w.t.writes
      full_on many =
          let heard : heard_before k ≡ heard_before start = same_before start k made.sent_more made.heard_more made.more in
          subst (λ ms. MOST_IN_FLIGHT ≤ count_by (λ v. list_any (λ m. is_put_of w.t.id w.t.epoch v.seq m.request) ms && not (list_any (proves w.t v) (heard_before k))) w.t.writes) (sym before_same)
          (subst (λ hs. MOST_IN_FLIGHT ≤ count_by (λ v. list_any (λ m. is_put_of w.t.id w.t.epoch v.seq m.request) (sent_before start) && not (list_any (proves w.t v) hs)) w.t.writes) (sym heard) many)

      full_off : MOST_IN_FLIGHT ≤ count_by (was_in_flight k w.t) w.t.writes → MOST_IN_FLIGHT ≤ count_by (was_in_flight start w.t) w.t.writes
      full_off many =
          let heard : heard_before k ≡ heard_before start = same_before start k made.sent_more made.heard_more made.more in
          subst (λ hs. MOST_IN_FLIGHT ≤ count_by (λ v. list_any (λ m. is_put_of w.t.id w.t.epoch v.seq m.request) (sent_before start) && not (list_any (proves w.t v) hs)) w.t.writes) heard
          (subst (λ ms. MOST_IN_FLIGHT ≤ count_by (λ v. list_any (λ m. is_put_of w.t.id w.t.epoch v.seq m.request) ms && not (list_any (proves w.t v) (heard_before k))) w.t.writes) before_same many)

      prove_serves : ServesProve call all start w.s w.t x ms → ServesProve call all k w.s w.t x ms2
      prove_serves r = record {
        begins = r.begins;
        asked = r.asked;
        full = λ is. full_on (r.full is);
        fills = λ full. r.fills (full_from start k w.t w.t (open_is start w.t w.open_in) (made.first ∙ open_is start w.t w.open_in) full_off full);
        in_order = order_kept (conflicts_at number) goes_again (λ m. refl) ms r.in_order;
        writes = r.writes;
        room = r.room;
        again = again_all ms found w.wave.differ r.again;
        each =
            All-weaker (λ f. waits_on call all f.key ≡ true → Any (IsOpenFor f) ms) (λ f. waits_on call all f.key ≡ true → Any (IsOpenFor f) ms2)
            (λ f one waits. any_goes_on (conflicts_at number) goes_again (IsOpenFor f) (λ y at goes. (goes.0, refl)) ms (one waits)) x.in_flight r.each;
        unasked = unasked_on r.unasked;
        unread = unread_on r.unread;
        new = new_on r.new;
        unmoved = still_on r.unmoved;
      }

    kind : MayAnswer m.request (replies.Conflict met.holder met.ts met.key)
    kind = subst (MayAnswer m.request) met.is met.kind

    -- a message of another kind met no intent
    no_kind : {A : Type 0} (y : Message) → ms ≡ y ∷ [] → (r : Request) → y.request ≡ r → (MayAnswer r (replies.Conflict met.holder met.ts met.key) → ⊥) → A
    no_kind y one r said never =
        let is_m : y ≡ m = (only_found is_in_conflict y m (subst (λ ms. find is_in_conflict ms ≡ Some m) one found_c)).0 in
        absurd (never (subst (λ q. MayAnswer q (replies.Conflict met.holder met.ts met.key)) (sym (ap (λ (m : Message). m.request) is_m) ∙ said) kind))

    serves_at : (q : Purpose) → p ≡ q → Serves set k w.s w.t x w.stages q ms2 → Serves set k w.s w.t x w.stages p ms2
    serves_at q e r = subst (λ q. Serves set k w.s w.t x w.stages q ms2) (sym e) r

    outs : (q : Purpose) → p ≡ q → out_of q ms2 ≡ out_of q ms → out_of p ms2 ≡ out_of p ms
    outs q e same = ap (λ q. out_of q ms2) e ∙ same ∙ sym (ap (λ q. out_of q ms) e)

    pub beat_again : (call : Call) (reading : ℕ) → ServesBeat call reading start w.s w.t x ms → InCall set k x p ms2
    beat_again call reading r = absurd (not_nil met.before met.h met.later (sym met.whole ∙ r.unheard))

    pub prove_again : (call : Call) (all : Bool) → p ≡ purposes.Prove call all → ServesProve call all start w.s w.t x ms → InCall set k x p ms2
    prove_again call all e r = goes_on (outs (purposes.Prove call all) e refl) (serves_at (purposes.Prove call all) e (prove_serves call all r))

    pub read_again : p ≡ purposes.Read → ServesRead set.splits start w.s x ms → InCall set k x p ms2
    read_again e r = goes_on (outs purposes.Read e refl) (serves_at purposes.Read e (read_serves r))

    pub write_again : p ≡ purposes.Write → ServesWrite start w.s w.t x ms → InCall set k x p ms2
    write_again e r = goes_on (outs purposes.Write e refl) (serves_at purposes.Write e (write_serves r))

    pub refresh_again : (n : ℕ) (puts : List Message) → ServesRefresh set.course.loses n puts start w.s w.t x ms → InCall set k x p ms2
    refresh_again n puts r =
        let Q : Request → Type 0 = λ r. (reply : Reply) → MayAnswer r reply → IsRefreshReply reply in
        let all : All (λ (m : Message). Q m.request) ms = all_unmapped Q (λ (m : Message). m.request) ms (refresh_kind m.request conflict x (map (λ m. m.request) ms) r.asked) in
        absurd (found_all is_in_conflict (λ (m : Message). Q m.request) ms m found_c all (replies.Conflict met.holder met.ts met.key) kind)

    pub commit_again : (n : ℕ) → ServesCommit n start w.s w.t x ms → InCall set k x p ms2
    commit_again n r = no_kind r.m r.one (own_commit x r.commits.anchor) r.said (λ may. may)

    pub query_again : (n : ℕ) (holder : TxnId) (puts : List Message) → ServesQuery set.course n holder puts start w.s w.t x w.stages ms → InCall set k x p ms2
    query_again n holder puts r = no_kind r.m r.asks (own_query x r.w.key r.w.seq) r.said (λ may. may)

    pub last_again : (answer : Answer) (reading : ℕ) → ServesLastBeat set.course.loses answer reading start w.s w.t x w.stages ms → InCall set k x p ms2
    last_again answer reading r = no_kind r.m r.one (own_beat x reading r.gives_up.anchor) r.said (λ may. may)

    pub abort_again : (why : Why) → ServesAbort why start w.s w.t x ms → InCall set k x p ms2
    abort_again why r = no_kind r.m r.one (own_abort x why r.anchor) r.said (λ may. may)
