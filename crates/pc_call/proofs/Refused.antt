-- The reply to the commit of an open call shows that its record is pending: the commit goes on, or is given up.
use Rattle.std.proofs.Common.{◌≡◌, ℕ, ◌+◌, ◌<◌, ◌≤◌, find, max, nat_lt, Bool, true, false, cond, ◌&&◌, ◌==◌, ◌⊎◌, inl, inr, List, [], ◌∷◌, map, Option, None, Some, refl, sym, ap, ◌∙◌, subst, arith, All, Any, Contains, IsTrue}
use Rattle.std.proofs.lemmas.Bool.{eq-eqb, ltb-false, ltb-true}
use Rattle.std.proofs.lemmas.List.Elements.{All-cons, All-nil, All-push, All-weaker}
use Rattle.pc_call.proofs.Beating.{beaten_so}
use Rattle.pc_call.proofs.Below.{below_heard}
use Rattle.pc_call.specs.Beaten.{HasBeatenIn}
use Rattle.pc_call.specs.Setting.{Setting}
use Rattle.pc_base.specs.declared.limits.TheConstants.{MOST_CONFLICTS, MOST_REFUSALS}
use Rattle.pc_call.proofs.Beside.{IsSentOnceMore, all_over}
use Rattle.pc_call.proofs.Silent.{IsBeatPurpose}
use Rattle.pc_call.proofs.Decided.{commit_known, commit_out, commit_said, commit_stands, commits}
use Rattle.pc_call.proofs.Eighths.{none_eighth}
use Rattle.pc_call.proofs.Facts.{unmoved}
use Rattle.pc_call.proofs.Hearing.{beaten_on, done_by, far, found, gone, paced2, same_request, split2, wave2}
use Rattle.pc_call.specs.declared.later.LaterPut.{LaterPut}
use Rattle.pc_call.specs.Stages.{IsUndecidedAt, KeepsOutbox}
use Rattle.pc_call.proofs.Lists.{only_found}
use Rattle.pc_call.proofs.Reading.{sent_in}
use Rattle.pc_call.specs.Beside.{ArePastOrInFlight, IsOfProved, IsPastOrNoQuery, IsPastOrInFlight, is_query}
use Rattle.pc_call.specs.GivenUp.{GivesUpBy}
use Rattle.pc_call.proofs.Settled.{settled_heard}
use Rattle.pc_call.proofs.Undecided.{no_final, stands_there, within_stamps}
use Rattle.pc_call.specs.Committing.{AreRefusals, CommitsOn, IsRefusalOf, IsUsedUp}
use Rattle.pc_call.specs.declared.purpose.Purpose.{Purpose}
use Rattle.pc_call.specs.declared.purpose.Purpose.TheVariants as purposes
use Rattle.pc_call.specs.Learned.{known_heard}
use Rattle.pc_call.specs.Paced.{IsPaced}
use Rattle.pc_call.specs.Serving.{InCall, IsCommitBelow, IsOpenIn, IsRefreshUpTo, IsRefusedBy, KeepsStages, MeetsByPut, MetNoWrite, NoneMetEighth, ServesCommit, WaitsMeanwhile, WasRefusedIfCommit, is_last_beat}
use Rattle.pc_call.specs.Suiting.{SuitsFlightIn}
use Rattle.pc_follows.specs.OwnStages.{refuses_stage}
use Rattle.pc_lists.proofs.Anywhere.{any_kept, any_last, any_weaker}
use Rattle.pc_proto.specs.declared.answer.Answer.TheVariants as answers
use Rattle.pc_proto.specs.declared.reply.Reply.TheVariants as replies
use Rattle.pc_proto.specs.declared.request.Request.{Request}
use Rattle.pc_proto.specs.declared.request.Request.TheVariants as requests
use Rattle.pc_proto.specs.declared.view.View.{View}
use Rattle.pc_proto.specs.Replies.{is_conflict, is_undecided_status, status_ts}
use Rattle.pc_proto.specs.Stamps.{greatest_of, reply_stamps}
use Rattle.pc_reads.specs.Replies.{unrefreshed_by}
use Rattle.pc_refusals.specs.Moves.{CountsMoves, DecidesAt, ShowsRecord, moves_with}
use Rattle.pc_txn.proofs.Commits.{commit_now, commit_refused}
use Rattle.pc_txn.proofs.Late.{still_late}
use Rattle.pc_txn.specs.Counted.{IsCounted}
use Rattle.pc_txn.specs.declared.txn.OpenTxn.{OpenTxn}
use Rattle.pc_txn.specs.Opened.{own_commit, refused_at}
use Rattle.pc_txn.specs.Standing.{TxnStands}
use Rattle.pc_wave.proofs.Hearing.{came_request}
use Rattle.pc_wave.proofs.Lists.{at_least-before, at_least-fewer}
use Rattle.pc_wave.specs.declared.message.Message.{Message}
use Rattle.pc_wave.specs.Messages.{awaits_at, back_with, first_changed, progress_awaits, progress_to_send, wave_awaits}
use Rattle.pc_wave.specs.Standing.{IsHeardTo, IsMessageAt, IsPastWhereUndecided, goes_beside, messages_of}
use Rattle.pc_world.specs.Answering.{MayAnswer}
use Rattle.pc_world.specs.Counting.{LastIs}
use Rattle.pc_follows.specs.RoundsMade.{rounds_by}
use Rattle.pc_follows.specs.Eighth.{WasMovedEighth}
use Rattle.pc_world.specs.Known.{Known}
use Rattle.pc_world.specs.Known.Traffic.{Heard, Sent}
use Rattle.pc_world.specs.Known.Transactions.{Txn, txn_heard}
use Rattle.pc_world.specs.StageFate.{IsLate, commit_request}
use Rattle.pc_world.specs.Tell.Data.{was_sent_now}
use Rattle.pc_world.specs.Tell.Refusal.{IsConflictOf, WasMoved}

below-more : (low high : ℕ) (r : Request) → low ≤ high → IsCommitBelow low r → IsCommitBelow high r
below-more low high (requests.Commit meta ts locks) up below = omega arith
below-more low high r up below = tt

refused-more : (low high : ℕ) (m : Sent) → low ≤ high → (h : Heard) → IsRefusedBy low m h → IsRefusedBy high m h
refused-more low high m up h r = record { asked = r.asked; undecided = r.undecided; past = below-more low high m.request up r.past }

module _ (session clock count : ℕ) (set : Setting) (k : Known) (x : OpenTxn) (p : Purpose) (ms : List Message) (counted : IsCounted session clock count k) (w : InCall set k x p ms)
    (number recorded : ℕ) (view : View) (h : Heard) (waited : wave_awaits number ms ≡ true) (is : IsHeardTo k number (replies.Status view) h) (undecided : IsUndecidedAt (replies.Status view) recorded) (n : ℕ) (e : p ≡ purposes.Commit n)
    (later : List LaterPut) (outbox : KeepsOutbox set.course.loses k x later ms) where
  abbrev k2 : Known
  k2 = known_heard h k

  abbrev t2 : Txn
  t2 = txn_heard k.sent (Some h) w.t

  abbrev x2 : OpenTxn
  x2 = refused_at recorded h.step x

  abbrev c : ServesCommit n k w.s w.t x ms
  c = commits session clock count set k x p ms counted w number view h waited is n e

  said : h.request ≡ commit_request (commit_now w.t c.commits.anchor)
  said = commit_known session clock count set k x p ms counted w number view h waited is n e

  low : recorded ≤ k2.high
  low =
      let f : greatest_of (reply_stamps h.reply) ≡ greatest_of (reply_stamps (replies.Status view)) = ap (λ y. greatest_of (reply_stamps y)) is.told in
      within_stamps view recorded undecided k2.high (omega (arith, f))

  past : w.t.write_ts < recorded
  past =
      let own : Contains k.txns w.t = subst (λ ts. Contains ts w.t) (sym w.open_in.first) (0, omega arith, refl) in
      subst (λ at. w.t.write_ts < at) undecided.there ((subst (λ r. IsPastWhereUndecided w.t r (replies.Status view)) said (is.past w.t own)) refl (omega arith) undecided.undecided)

  mine : Contains k.txns w.t
  mine = subst (λ ts. Contains ts w.t) (sym w.open_in.first) (0, omega arith, refl)

  stands2 : TxnStands k2 w.stages None t2 x2
  stands2 =
      commit_refused k k2 w.stages w.t x (commit_now w.t c.commits.anchor) view recorded h (commit_stands session clock count set k x p ms counted w number view h waited is n e) c.commits.anchored said is.told (no_final view recorded undecided) (stands_there view recorded undecided) past
      (is.shown w.t mine) (gone session clock count set k x p ms counted w number (replies.Status view) h waited is) low

  late2 : All (IsLate k2.heard) w.stages
  late2 = still_late k.heard (h ∷ []) w.stages (subst (λ q. KeepsStages q k w.stages) e w.kept)

  open2 : IsOpenIn k2 t2
  open2 = record { others = map (txn_heard k.sent (Some h)) w.open_in.others; is_open = w.open_in.is_open; first = ap (map (txn_heard k.sent (Some h))) w.open_in.first }

  writes_at : t2.write_ts ≡ max w.t.write_ts recorded
  writes_at = sym (ap (λ x. x.write_ts) stands2.same) ∙ ap (λ (x : OpenTxn). max x.write_ts recorded) w.stands.same

  was_now : was_sent_now k h ≡ true
  was_now =
      let f = far session clock count set k x p ms counted w number (replies.Status view) h waited is in
      let asked = sym (same_request session clock count set k x p ms counted w number (replies.Status view) h waited is) ∙ commit_said session clock count set k x p ms counted w number view h waited is n e in
      let out : Any (IsMessageAt number (own_commit x c.commits.anchor)) k.sent_now = subst (λ q. Any (IsMessageAt number q) (messages_of set.course.pipelines k q)) asked f.0.out.now in
      sent_in set.course k number (own_commit x c.commits.anchor) h out is.numbered

  -- the reply shows where the record stands
  pub shows : ShowsRecord k x.write_ts recorded h
  shows = record {
    asked = subst (DecidesAt x.write_ts) (sym (commit_said session clock count set k x p ms counted w number view h waited is n e)) refl;
    undecided = ap is_undecided_status is.told ∙ undecided.undecided;
    shown = ap status_ts is.told ∙ undecided.there;
    now = was_now;
  }

  pub few_before : n < MOST_REFUSALS
  few_before = c.commits.few

  pub moves_before : CountsMoves k n
  moves_before = c.commits.moves

  refused_now : (m : Sent) → m.request ≡ commit_request (commit_now w.t c.commits.anchor) → WasRefusedIfCommit t2.write_ts k2.heard_now m
  refused_now m asked = λ commits.
      any_last (IsRefusedBy t2.write_ts m) k.heard_now h (record {
        asked = said ∙ sym asked;
        undecided = ap is_undecided_status is.told ∙ undecided.undecided;
        past = let high : w.t.write_ts < t2.write_ts = omega (arith, writes_at, past) in subst (IsCommitBelow t2.write_ts) (sym asked) high;
      })

  refused_both : (m : Sent) → (m.request ≡ commit_request (commit_now w.t c.commits.anchor)) ⊎ WasRefusedIfCommit w.t.write_ts k.heard_now m → WasRefusedIfCommit t2.write_ts k2.heard_now m
  refused_both m (inl asked) = refused_now m asked
  refused_both m (inr r) = λ commits.
      any_weaker (IsRefusedBy w.t.write_ts m) (IsRefusedBy t2.write_ts m) (refused-more w.t.write_ts t2.write_ts m (omega (arith, writes_at))) k2.heard_now
      (any_kept (IsRefusedBy w.t.write_ts m) k.heard_now (h ∷ []) (r commits))

  refused2 : All (WasRefusedIfCommit t2.write_ts k2.heard_now) k.sent_now
  refused2 =
      let as_known : own_commit x c.commits.anchor ≡ commit_request (commit_now w.t c.commits.anchor) = ap (λ x. own_commit x c.commits.anchor) w.stands.same in
      All-weaker (λ m. (m.request ≡ commit_request (commit_now w.t c.commits.anchor)) ⊎ WasRefusedIfCommit w.t.write_ts k.heard_now m) (WasRefusedIfCommit t2.write_ts k2.heard_now) refused_both k.sent_now
      (subst (λ r. All (λ m. (m.request ≡ r) ⊎ WasRefusedIfCommit w.t.write_ts k.heard_now m) k.sent_now) as_known c.refused)

  paced_none : IsPaced [] k2.heard_now
  paced_none =
      let paced = paced2 session clock count set k x p ms counted w number (replies.Status view) h waited is in
      record { pushes = λ id. let a = paced.pushes id in omega arith; behind = paced.behind }

  reads_there : w.t.read_ts ≡ w.t.write_ts
  reads_there =
      c.there (ap (λ p. progress_to_send p && (c.m.lost == 0)) (commit_out session clock count set k x p ms counted w number view h waited is n e))

  beaten_now : HasBeatenIn set.course.loses k2 t2
  beaten_now = beaten_on session clock count set k x p ms counted w number (replies.Status view) h waited is (λ beat. subst IsBeatPurpose e beat)

  abbrev ms2 : List Message
  ms2 = first_changed (awaits_at number) (back_with number (replies.Status view)) ms

  only_proved : (q : Request) → WaitsMeanwhile p w.t.id w.t.epoch x.in_flight q → IsOfProved w.t.id w.t.epoch x.in_flight q
  only_proved q left = subst (λ p. WaitsMeanwhile p w.t.id w.t.epoch x.in_flight q) e left

  is_found : c.m ≡ (found session clock count set k x p ms counted w number (replies.Status view) h waited is).0
  is_found =
      let f = found session clock count set k x p ms counted w number (replies.Status view) h waited is in
      (only_found (awaits_at number) c.m f.0 (subst (λ ms. find (awaits_at number) ms ≡ Some f.0) c.one f.1)).0

  few : All (λ m. m.conflicts < MOST_CONFLICTS) ms
  few =
      let P : Message → Type 0 = λ m. m.conflicts < MOST_CONFLICTS in
      subst (λ ms. All P ms) (sym c.one) (All-cons P c.m [] (subst P (sym is_found) (far session clock count set k x p ms counted w number (replies.Status view) h waited is).1) (All-nil P))

  none_eighth2 : NoneMetEighth w.t.id w.t.epoch x.in_flight k2.heard_now
  none_eighth2 r proved eight =
      none_eighth set.course k (WaitsMeanwhile p w.t.id w.t.epoch x.in_flight) ms w.fewer w.wave.stand few r (λ left. proved (only_proved r left))
      (at_least-before (IsConflictOf r) MOST_CONFLICTS k.heard_now (h ∷ [])
      (All-cons (λ h. IsConflictOf r h → ⊥) h [] (λ c. let e : false ≡ true = sym (ap is_conflict is.told) ∙ c.conflict in absurd cc) (All-nil (λ h. IsConflictOf r h → ⊥))) eight)

  one_back : ms2 ≡ back_with number (replies.Status view) c.m ∷ []
  one_back =
      ap (first_changed (awaits_at number) (back_with number (replies.Status view))) c.one
      ∙ ap (λ b. cond b (back_with number (replies.Status view) c.m ∷ []) (c.m ∷ []))
      (ap (progress_awaits number) (commit_out session clock count set k x p ms counted w number view h waited is n e) ∙ eq-eqb number number refl)

  done2 : ArePastOrInFlight k2 w.t.id w.t.epoch x.in_flight
  done2 =
      All-weaker (λ m. IsTrue (goes_beside m.request) ⊎ IsPastOrNoQuery k2 m.request ⊎ WaitsMeanwhile p w.t.id w.t.epoch x.in_flight m.request) (IsPastOrInFlight k2 w.t.id w.t.epoch x.in_flight) by k2.sent_now
      (all_over k2 set.course (WaitsMeanwhile p w.t.id w.t.epoch x.in_flight) ms2 (wave2 session clock count set k x p ms counted w number (replies.Status view) h waited is)
      (done_by session clock count set k x p ms counted w number (replies.Status view) h waited is (WaitsMeanwhile p w.t.id w.t.epoch x.in_flight) (λ r left. left))
      (subst (λ ms. All IsSentOnceMore ms) (sym one_back) (All-cons IsSentOnceMore (back_with number (replies.Status view) c.m) [] refl (All-nil IsSentOnceMore)))
      (subst (λ ms. All (λ (m : Message). is_query m.request ≡ false) ms) (sym one_back)
      (All-cons (λ (m : Message). is_query m.request ≡ false) (back_with number (replies.Status view) c.m) [] (ap is_query (came_request number (replies.Status view) c.m ∙ c.said)) (All-nil (λ (m : Message). is_query m.request ≡ false)))))
    where
      by : (m : Sent) → IsTrue (goes_beside m.request) ⊎ IsPastOrNoQuery k2 m.request ⊎ WaitsMeanwhile p w.t.id w.t.epoch x.in_flight m.request → IsPastOrInFlight k2 w.t.id w.t.epoch x.in_flight m
      by m (inl beside) = inl beside
      by m (inr (inl past)) = inr (inl past)
      by m (inr (inr left)) = inr (inr (inr (only_proved m.request left)))

  met2 : All MeetsByPut k2.heard_now
  met2 = All-push MeetsByPut k.heard_now h c.commits.met (λ met. let e : false ≡ true = sym (ap is_conflict is.told) ∙ met in absurd cc)

  -- the commit goes on where it was moved fewer times than it may be
  pub refused_goes_on : (n2 : ℕ) → CountsMoves k2 n2 → (WasMovedEighth k2 → ⊥) → CommitsOn set.course.loses n2 k2 x2
  refused_goes_on n2 counts fewer = record {
    t = t2;
    s = w.s;
    on = record {
      open_in = open2;
      stages = w.stages;
      stands = stands2;
      late = late2;
      client = w.cause;
      opened = w.opened;
      split = split2 session clock count set k x p ms counted w number (replies.Status view) h waited is;
      paced = paced_none;
      commits = record {
        call = c.commits.call;
        anchor = c.commits.anchor;
        anchored = c.commits.anchored;
        few = few2 (nat_lt n2 MOST_REFUSALS) refl;
        moves = counts;
        met = met2;
      };
      refused = refused2;
      refreshes = subst (λ ts. All (λ m. IsRefreshUpTo ts m.request) k.sent_now) (sym reads_there) c.refreshes;
      held = All-push MetNoWrite k.heard_now h c.held (ap unrefreshed_by is.told);
      beaten = beaten_now;
      none_eighth = none_eighth2;
      below = below_heard k w.t h w.open_in (subst (MayAnswer h.request) (sym is.told) is.kind) (ap (λ q. refuses_stage q h.reply) said) (w.below (ap is_last_beat e));
      settled = settled_heard k w.t h w.open_in (ap is_conflict is.told) (λ r. ap (λ q. rounds_by (Some w.t) h q h.reply r) said) c.settled;
      done = done2;
    };
  }
    where
      few2 : (b : Bool) → nat_lt n2 MOST_REFUSALS ≡ b → n2 < MOST_REFUSALS
      few2 true e = ltb-true n2 MOST_REFUSALS e
      few2 false e = absurd (fewer (at_least-fewer (WasMoved k2) MOST_REFUSALS n2 k2.heard_now (ltb-false n2 MOST_REFUSALS e) counts.moved))

  -- and gives up where it was moved as often
  pub refused_gives_up : IsUsedUp k2 recorded → GivesUpBy set.course.loses k2 x2 (answers.Moved recorded)
  refused_gives_up used = record {
    t = t2;
    stages = w.stages;
    open_in = open2;
    cause = w.cause;
    s = w.s;
    opened = w.opened;
    split = split2 session clock count set k x p ms counted w number (replies.Status view) h waited is;
    paced = paced_none;
    met = met2;
    beaten = beaten_so set.course.loses k2 t2 beaten_now;
    first = λ quiet left. (beaten_now quiet).first;
    gives_up = record {
      call = c.commits.call;
      anchor = c.commits.anchor;
      anchored = c.commits.anchored;
      stands = stands2;
      late = late2;
      why = record { eight = used.eight; last = used.last };
    };
  }

  pub refusal : (r : Option ℕ) → AreRefusals k2 recorded r → IsRefusalOf set session k2 recorded x2 r
  refusal None used = refused_gives_up used
  refusal (Some n2) counts = (refused_goes_on n2 counts.0 counts.1, subst (λ call. SuitsFlightIn set.course.pipelines call x.in_flight) c.commits.call w.plain)

-- so often was the commit moved that it is given up
pub used_up : (k now : Known) (h : Heard) (ts recorded n n2 : ℕ) → n2 ≡ moves_with ts recorded n → n < MOST_REFUSALS → CountsMoves now n2 → (ts < recorded → LastIs (WasMoved now) (λ h. status_ts h.reply ≡ recorded) now.heard_now) → WasMovedEighth now → IsUsedUp now recorded
used_up k now h ts recorded n n2 made few counts last eight = record { eight = eight; last = last (above (nat_lt ts recorded) refl) }
  where
    above : (b : Bool) → nat_lt ts recorded ≡ b → ts < recorded
    above true is = ltb-true ts recorded is
    above false is =
        let same : n2 ≡ n = made ∙ ap (λ b. cond (b && nat_lt n MOST_REFUSALS) (n + 1) n) is in
        absurd (unmoved now n (subst (CountsMoves now) same counts) (omega (arith, few)) eight)

pub used_otherwise : (b : Bool) → b ≡ false → IsTrue b → ⊥
used_otherwise true e is = cc
used_otherwise false e is = cc

pub same_commit : (p : Purpose) (n m : ℕ) → p ≡ purposes.Commit n → p ≡ purposes.Commit m → n ≡ m
same_commit p n m one other = let e : purposes.Commit n ≡ purposes.Commit m = sym one ∙ other in cc
