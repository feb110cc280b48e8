-- A commit that would give up while a recovery may have committed it sends its last heartbeat; and gives up once that showed a record that is not final.
use Rattle.std.proofs.Common.{◌≡◌, ℕ, zero, suc, ◌+◌, ◌≤◌, Bool, true, false, ◌||◌, ◌==◌, ◌⊎◌, inl, inr, List, [], ◌∷◌, ◌++◌, map, Option, Some, None, refl, sym, ap, ◌∙◌, subst, arith, All, Any, Contains, IsTrue}
use Rattle.std.proofs.lemmas.List.Elements.{All-cons, All-contains, All-head, All-nil, All-push, All-tail, All-weaker}
use Rattle.std.proofs.lemmas.List.Folds.{list_any-append}
use Rattle.std.proofs.lemmas.Option.{same_Some}
use Rattle.pc_base.specs.declared.span.Span.{Span}
use Rattle.pc_base.specs.declared.transaction.TxnId.{TxnId}
use Rattle.pc_base.specs.Transaction.{same_txn}
use Rattle.pc_call.proofs.Beating.{heard_longer, not_aborted}
use Rattle.pc_call.proofs.Beginning.{any_true, undecided_plain, wave_goes}
use Rattle.pc_call.proofs.Decided.{one_out}
use Rattle.pc_call.proofs.Dying.{over_beaten, refuted_before}
use Rattle.pc_call.proofs.Facts.{beat_moves, open_is}
use Rattle.pc_call.proofs.FoundDecided.{HearsOwn}
use Rattle.pc_call.proofs.Hearing.{gone, one_asked, paced2, split2}
use Rattle.pc_call.proofs.Undecided.{no_final, stands_there, within_stamps}
use Rattle.pc_call.proofs.WhyStays.{made_then, why_on, with_none}
use Rattle.pc_call.specs.declared.purpose.Purpose.{Purpose}
use Rattle.pc_call.specs.declared.purpose.Purpose.TheVariants as purposes
use Rattle.pc_call.specs.GivenUp.{GivesUpBy}
use Rattle.pc_call.specs.GivingUp.{IsAfterAllHeard}
use Rattle.pc_call.specs.Learned.{known_heard}
use Rattle.pc_call.specs.Paced.{IsPaced}
use Rattle.pc_call.specs.Serving.{InCall, IsOpenIn, MeetsByPut, Serves, ServesLastBeat, WaitsMeanwhile}
use Rattle.pc_call.specs.Beside.{IsAskedOrDone}
use Rattle.pc_call.specs.Setting.{Setting}
use Rattle.pc_call.specs.Stages.{IsUndecidedAt}
use Rattle.pc_call.specs.Suiting.{SuitsFlightIn}
use Rattle.pc_follows.specs.Heartbeats.{AreBeatsHeard, FindsAborted, HasBeaten, IsBeatDue, IsStageInDoubt, KeepsHeartbeats, TellsAfterBeats, is_heartbeat}
use Rattle.pc_follows.specs.Refreshes.{IsNoneBefore}
use Rattle.pc_follows.specs.Resends.{AreAnsweredNow}
use Rattle.pc_follows.specs.RoundsMade.{rounds_by, rounds_made, with_conflict}
use Rattle.pc_lists.proofs.Anywhere.{any_head, any_kept, any_last, any_later}
use Rattle.pc_lists.proofs.Same.{same_txn-self}
use Rattle.pc_proto.specs.declared.answer.Answer.{Answer}
use Rattle.pc_proto.specs.declared.answer.Answer.TheVariants as answers
use Rattle.pc_proto.specs.declared.call.Call.TheVariants as calls
use Rattle.pc_proto.specs.declared.event.Event.TheVariants as events
use Rattle.pc_proto.specs.declared.reply.Reply.{Reply}
use Rattle.pc_proto.specs.declared.reply.Reply.TheVariants as replies
use Rattle.pc_proto.specs.declared.request.Request.{Request}
use Rattle.pc_proto.specs.declared.request.Request.TheVariants as requests
use Rattle.pc_proto.specs.declared.view.View.{View}
use Rattle.pc_proto.specs.declared.why.Why.{Why}
use Rattle.pc_proto.specs.Replies.{is_conflict, is_undecided_status, view_in}
use Rattle.pc_proto.specs.Requests.{is_about, is_commit, is_put, subject_anchor}
use Rattle.pc_proto.specs.Stamps.{greatest_of, reply_stamps}
use Rattle.pc_proto.specs.Views.{AbortsWith}
use Rattle.pc_staging.proofs.Deciding.{all_refused, in_doubt}
use Rattle.pc_staging.specs.Kept.{is_over}
use Rattle.pc_staging.specs.Standing.{IsBehind}
use Rattle.pc_txn.proofs.Alive.{beat_heard}
use Rattle.pc_txn.proofs.Late.{still_late}
use Rattle.pc_txn.specs.Counted.{IsCounted}
use Rattle.pc_txn.specs.declared.txn.OpenTxn.{OpenTxn}
use Rattle.pc_txn.specs.Opened.{meta_now}
use Rattle.pc_txn.specs.Silence.{own_beat, raised_at}
use Rattle.pc_txn.specs.Standing.{TxnStands}
use Rattle.pc_wave.proofs.Lists.{any_before, at_least-before}
use Rattle.pc_wave.specs.declared.message.Message.{Message}
use Rattle.pc_wave.specs.declared.message.Progress.TheVariants as progresses
use Rattle.pc_wave.specs.Messages.{message_to_send, progress_awaits, wave_awaits}
use Rattle.pc_wave.specs.Standing.{AreAnsweredIn, IsHeardTo, MayGoOut, goes_beside}
use Rattle.pc_world.specs.Counting.{AtLeast}
use Rattle.pc_world.specs.Known.{Known}
use Rattle.pc_world.specs.Known.Statements.{Statement}
use Rattle.pc_world.specs.Known.Traffic.{Heard, Sent}
use Rattle.pc_world.specs.Known.Transactions.{Txn, txn_heard}
use Rattle.pc_world.specs.SameRequest.{IsSameRequest}
use Rattle.pc_world.specs.StageFate.{IsCommitWith, IsDead, IsLate, IsStageWith, OnCommit, OnStage, SentStage, SomeStage, WasCommitRefused}
use Rattle.pc_world.specs.Tell.Refusal.{IsConflictOf, is_heard}
use Rattle.pc_world.specs.Views.{shows_committed}

or_no : (b : Bool) → (b || false) ≡ true → b ≡ true
or_no true e = refl
or_no false e = absurd cc

-- what is the same as a heartbeat is one
same_beat : (one other : Request) → is_heartbeat one ≡ true → IsSameRequest one other → is_heartbeat other ≡ true
same_beat one other beat (inl e) = sym (ap is_heartbeat e) ∙ beat
same_beat (requests.Put meta seq ts key value) other beat (inr put) = absurd cc
same_beat one other beat (inr put) = absurd put

beat_in_wave : (r : Request) → is_heartbeat r ≡ true → goes_beside r ≡ false
beat_in_wave (requests.Beat meta ts now) beat = refl
beat_in_wave r beat = absurd cc

beat_puts_none : (r : Request) → is_heartbeat r ≡ true → is_put r ≡ false
beat_puts_none (requests.Beat meta ts now) beat = refl
beat_puts_none r beat = absurd cc

beat_refreshes_none : (span : Span) (r : Request) (reply : Reply) → is_heartbeat r ≡ true → IsNoneBefore span r reply
beat_refreshes_none span (requests.Beat meta ts now) reply beat = tt
beat_refreshes_none span r reply beat = absurd cc

every : {X : Type 0} (P : X → Type 0) → ((x : X) → P x) → (xs : List X) → All P xs
every P all [] = All-nil P
every P all (x ∷ xs) = All-cons P x xs (all x) (every P all xs)

-- one that is so stands before the last, or is the last
any_either : {X : Type 0} (P : X → Type 0) (xs : List X) (y : X) → Any P (xs ++ y ∷ []) → Any P xs ⊎ P y
any_either P [] y (zero, x, there, is, h) = inr (subst P (sym is) h)
any_either P [] y (suc k, x, there, is, h) = absurd (omega arith)
any_either P (z ∷ xs) y (zero, x, there, is, h) = inl (any_head P z xs (subst P (sym is) h))
any_either P (z ∷ xs) y (suc k, x, there, is, h) = elim (any_either P xs y (k, x, omega arith, is, h)) [ inl some ↦ inl (any_later P z xs some) | inr last ↦ inr last ]

-- ---- it is to be sent

module _ (B D E : SentStage → Type 0) (both : (s : SentStage) → B s → D s → E s) (id : TxnId) where
  stage_both : (r : Request) → OnStage id B r → IsStageWith id D r → IsStageWith id E r
  stage_both (requests.Stage meta ts now writes locks) on is = (is.0, both (record { meta = meta; ts = ts; now = now; writes = writes; locks = locks }) (on is.0) is.1)
  stage_both r on is = absurd is

  stage_so : (sent : List Sent) → All (λ m. OnStage id B m.request) sent → SomeStage id sent D → SomeStage id sent E
  stage_so sent each (n, m, inside, at, d) = (n, m, inside, at, stage_both m.request (All-contains (λ m. OnStage id B m.request) sent m each (n, inside, at)) d)

module _ (set : Setting) (k : Known) (x : OpenTxn) (answer : Answer) (g : GivesUpBy set.course.loses k x answer) where
  -- some stage is late and not dead, where that is not over
  some_in_doubt : is_over x.staging ≡ false → IsStageInDoubt k g.t
  some_in_doubt not_over =
      elim (in_doubt k g.stages None g.t x.staging g.gives_up.stands.staging not_over) [
        | inl stage ↦
            stage_so (λ s. IsBehind k.heard g.t.write_ts s ⊎ Contains g.stages s) (λ s. IsDead k.heard s → ⊥) (λ s. IsLate k.heard s × (IsDead k.heard s → ⊥))
            (λ s here alive. elim here [ inl behind ↦ absurd (alive behind.dead) | inr there ↦ (All-contains (IsLate k.heard) g.stages s g.gives_up.late there, alive) ])
            g.t.id k.sent g.gives_up.stands.staging.each stage
        | inr commit ↦ absurd (none_out commit)
      ]
    where
      none_out : Any (λ m. IsCommitWith g.t.id (λ c. WasCommitRefused k.heard c → ⊥) m.request) k.sent → ⊥
      none_out (n, m, inside, at, out) =
          commit_both m.request (All-contains (λ m. OnCommit g.t.id (WasCommitRefused k.heard) m.request) k.sent m (all_refused k g.stages None g.t x.staging g.gives_up.stands.staging refl) (n, inside, at)) out
        where
          commit_both : (r : Request) → OnCommit g.t.id (WasCommitRefused k.heard) r → IsCommitWith g.t.id (λ c. WasCommitRefused k.heard c → ⊥) r → ⊥
          commit_both (requests.Commit meta ts locks) on is = is.1 (on is.0)
          commit_both r on is = is

  -- a heartbeat that went out in the call was heard in it
  beat_was_heard : (m : Sent) → is_heartbeat m.request ≡ true → IsTrue (goes_beside m.request) ⊎ (is_heard g.split.heard_first m ≡ false) → IsTrue (is_heard k.heard m) → IsTrue (is_heard k.heard_now m)
  beat_was_heard m beat (inl beside) heard = let no : goes_beside m.request ≡ false = beat_in_wave m.request beat in absurd cc
  beat_was_heard m beat (inr none) heard =
      let whole : is_heard k.heard m ≡ (is_heard g.split.heard_first m || is_heard k.heard_now m) = ap (λ hs. is_heard hs m) g.split.heard ∙ list_any-append (λ (h : Heard). h.number == m.number) g.split.heard_first k.heard_now in
      sym (ap (λ b. b || is_heard k.heard_now m) none) ∙ sym whole ∙ heard

  module _ (request : Request) (beat : is_heartbeat request ≡ true) where
    all_heard : set.course.loses ≡ false → AreAnsweredNow k request
    all_heard quiet =
        both_of k.sent_now g.split.unheard (g.beaten quiet).heard
      where
        both_of : (sent : List Sent) → All (λ m. IsTrue (goes_beside m.request) ⊎ (is_heard g.split.heard_first m ≡ false)) sent → All (λ m. IsTrue (is_heartbeat m.request) → IsTrue (is_heard k.heard m)) sent
            → All (λ m. IsSameRequest request m.request → IsTrue (is_heard k.heard_now m)) sent
        both_of [] a b = All-nil (λ m. IsSameRequest request m.request → IsTrue (is_heard k.heard_now m))
        both_of (m ∷ sent) a b =
            All-cons (λ m. IsSameRequest request m.request → IsTrue (is_heard k.heard_now m)) m sent
            (λ same.
            let other : is_heartbeat m.request ≡ true = same_beat request m.request beat same in
            beat_was_heard m other (All-head (λ m. IsTrue (goes_beside m.request) ⊎ (is_heard g.split.heard_first m ≡ false)) m sent a) (All-head (λ m. IsTrue (is_heartbeat m.request) → IsTrue (is_heard k.heard m)) m sent b other))
            (both_of sent (All-tail (λ m. IsTrue (goes_beside m.request) ⊎ (is_heard g.split.heard_first m ≡ false)) m sent a) (All-tail (λ m. IsTrue (is_heartbeat m.request) → IsTrue (is_heard k.heard m)) m sent b))

    answered : (loses : Bool) → set.course.loses ≡ loses → AreAnsweredIn loses k request
    answered false quiet = all_heard quiet
    answered true some = tt

    may_go : MayGoOut set.course k request
    may_go = record { answered = answered set.course.loses refl; again = λ quiet some. let e : true ≡ false = sym beat ∙ quiet in absurd cc }

    unmet : AtLeast (IsConflictOf request) 1 k.heard_now → ⊥
    unmet one =
        at_least-before (IsConflictOf request) 1 [] k.heard_now
        (All-weaker MeetsByPut (λ h. IsConflictOf request h → ⊥)
        (λ h by_put c.
        let put : is_put h.request ≡ true = by_put c.conflict in
        let none : is_put h.request ≡ false = beat_puts_none h.request (same_beat request h.request beat c.same) in
        absurd cc)
        k.heard_now g.met)
        one

  pub last_beat_begins : (s : Statement) (reading : ℕ) (anchor : List ℕ) → k.statement ≡ Some s → s.reading ≡ reading → x.anchor ≡ Some anchor → is_over x.staging ≡ false → SuitsFlightIn set.course.pipelines calls.Commit x.in_flight
      → InCall set k x (purposes.LastBeat answer reading) (message_to_send (own_beat x reading anchor) ∷ [])
  last_beat_begins s reading anchor opened read anchored not_over suits =
      let beat = own_beat x reading anchor in
      let same : s ≡ g.s = same_Some s g.s (sym opened ∙ g.opened) in
      let own : anchor ≡ g.gives_up.anchor = same_Some anchor g.gives_up.anchor (sym anchored ∙ ap (λ (x : OpenTxn). x.anchor) g.gives_up.stands.same ∙ g.gives_up.anchored) in
      record {
        t = g.t;
        open_in = g.open_in;
        stages = g.stages;
        stands = g.gives_up.stands;
        kept = g.gives_up.late;
        cause = g.cause;
        s = g.s;
        opened = g.opened;
        split = g.split;
        wave =
            wave_goes set.course k (beat ∷ []) (All-cons (λ r. goes_beside r ≡ false) beat [] refl (All-nil (λ r. goes_beside r ≡ false)))
            (All-cons (MayGoOut set.course k) beat [] (may_go beat refl) (All-nil (MayGoOut set.course k)))
            (All-cons (λ r. AtLeast (IsConflictOf r) 1 k.heard_now → ⊥) beat [] (unmet beat refl) (All-nil (λ r. AtLeast (IsConflictOf r) 1 k.heard_now → ⊥)))
            (All-nil _, tt);
        paced = g.paced;
        fewer = λ r left others eight. absurd (left tt);
        done = every (IsAskedOrDone (WaitsMeanwhile (purposes.LastBeat answer reading) g.t.id g.t.epoch x.in_flight) k (beat ∷ [])) (λ m. inr (inr (inr tt))) k.sent_now;
        below = λ goes. absurd cc;
        beaten = λ quiet. tt;
        plain = subst (λ call. SuitsFlightIn set.course.pipelines call x.in_flight) (sym g.gives_up.call) suits;
        serves = record {
          gives_up = g.gives_up;
          read_now = sym (ap (λ (s : Statement). s.reading) same) ∙ read;
          some = not_over;
          doubt = some_in_doubt not_over;
          m = message_to_send beat;
          one = refl;
          said = ap (own_beat x reading) own;
          met = g.met;
          beaten = λ quiet. record { none_due = (g.beaten quiet).none_due; heard = All-weaker (λ m. IsTrue (is_heartbeat m.request) → IsTrue (is_heard k.heard m)) (λ m. IsTrue (is_heartbeat m.request) → IsTrue (is_heard k.heard m) ⊎ (wave_awaits m.number (message_to_send beat ∷ []) ≡ true)) (λ m was is. inl (was is)) k.sent_now (g.beaten quiet).heard; alive = (g.beaten quiet).alive };
          first = λ quiet ready. g.first quiet not_over;
        };
      }

-- ---- it is heard

module _ (session clock count : ℕ) (set : Setting) (k : Known) (x : OpenTxn) (p : Purpose) (ms : List Message) (counted : IsCounted session clock count k) (w : InCall set k x p ms)
    (number : ℕ) (view : View) (h : Heard) (waited : wave_awaits number ms ≡ true) (is : IsHeardTo k number (replies.Status view) h) (answer : Answer) (reading : ℕ) (e : p ≡ purposes.LastBeat answer reading) where
  abbrev k2 : Known
  k2 = known_heard h k

  abbrev t2 : Txn
  t2 = txn_heard k.sent (Some h) w.t

  pub last_beat : ServesLastBeat set.course.loses answer reading k w.s w.t x w.stages ms
  last_beat = subst (λ q. Serves set k w.s w.t x w.stages q ms) e w.serves

  abbrev b : ServesLastBeat set.course.loses answer reading k w.s w.t x w.stages ms
  b = last_beat

  out : b.m.progress ≡ progresses.Sent number
  out = one_out number b.m (subst (λ ms. wave_awaits number ms ≡ true) b.one waited)

  pub last_beat_said : h.request ≡ own_beat x reading b.gives_up.anchor
  last_beat_said = one_asked session clock count set k x p ms counted w number (replies.Status view) h waited is b.m b.one ∙ b.said

  open2 : IsOpenIn k2 t2
  open2 = record { others = map (txn_heard k.sent (Some h)) w.open_in.others; is_open = w.open_in.is_open; first = ap (map (txn_heard k.sent (Some h))) w.open_in.first }

  beat : is_heartbeat h.request ≡ true
  beat = ap is_heartbeat last_beat_said

  due_before : IsBeatDue k2 t2 → IsBeatDue k w.t
  due_before d = record {
    s = d.s;
    opened = d.opened;
    asks = d.asks;
    first = d.first;
    whose = open_is k w.t w.open_in;
    anchor = d.anchor;
    anchored = d.anchored;
    uncommitted = λ ts was. d.uncommitted ts (any_kept (λ h. IsTrue (shows_committed w.t.id ts h)) k.heard (h ∷ []) was);
    late = d.late;
  }

  heard_last : (m : Sent) → wave_awaits m.number ms ≡ true → IsTrue (is_heard k2.heard m)
  heard_last m awaits =
      let one : (progress_awaits m.number b.m.progress || false) ≡ true = subst (λ ms. wave_awaits m.number ms ≡ true) b.one awaits in
      let same : (number == m.number) ≡ true = or_no (number == m.number) (sym (ap (λ pr. progress_awaits m.number pr || false) out) ∙ one) in
      any_true (λ (h : Heard). h.number == m.number) k2.heard (any_last (λ (g : Heard). IsTrue (g.number == m.number)) k.heard h (ap (λ n. n == m.number) is.numbered ∙ same))

  beats_heard : set.course.loses ≡ false → AreBeatsHeard k2
  beats_heard quiet =
      All-weaker (λ m. IsTrue (is_heartbeat m.request) → IsTrue (is_heard k.heard m) ⊎ (wave_awaits m.number ms ≡ true)) (λ m. IsTrue (is_heartbeat m.request) → IsTrue (is_heard k2.heard m))
      (λ m was is_beat. elim (was is_beat) [ inl heard ↦ heard_longer k.heard (h ∷ []) m heard | inr awaits ↦ heard_last m awaits ]) k.sent_now (b.beaten quiet).heard

  -- what it finds its call is told: where it is aborted, that
  pub last_beat_tells : (told : Answer) → ((why : Why) → AbortsWith why view → told ≡ answers.Aborted why) → set.course.loses ≡ false → KeepsHeartbeats k2 (events.Tell told)
  last_beat_tells told aborts quiet s u opened whose =
      let same : t2 ≡ u = same_Some t2 u (sym (open_is k2 t2 open2) ∙ whose) in
      subst (λ u. TellsAfterBeats k2 u told) same (record {
        none_due = λ d. (b.beaten quiet).none_due (due_before d);
        heard = beats_heard quiet;
        aborted = λ why found.
            elim (any_either (FindsAborted t2 why) k.heard_now h found) [
              | inl before ↦ absurd ((b.beaten quiet).alive why (before.0, before.1, before.2, before.3, record { beat = before.4.beat; aborted = before.4.aborted }))
              | inr f ↦
                  let one : f.aborted.view ≡ view = same_Some f.aborted.view view (sym f.aborted.told ∙ ap view_in is.told) in
                  aborts why (subst (AbortsWith why) one f.aborted.cause)
            ];
      })

  -- it is of the transaction's own
  pub last_beat_own : HearsOwn k w.t w.s h
  last_beat_own = record {
    call = b.gives_up.call;
    anchor = b.gives_up.anchor;
    anchored = b.gives_up.anchored;
    about = ap (is_about w.t.id) last_beat_said ∙ ap (λ id. same_txn id w.t.id) (ap (λ (x : OpenTxn). x.id) w.stands.same) ∙ same_txn-self w.t.id;
    named = ap subject_anchor last_beat_said;
    no_commit = ap is_commit last_beat_said;
  }

  module _ (recorded : ℕ) (undecided : IsUndecidedAt (replies.Status view) recorded) (after : IsAfterAllHeard k.heard h) where
    is_open_view : is_undecided_status h.reply ≡ true
    is_open_view = ap is_undecided_status is.told ∙ undecided.undecided

    plain : is_conflict h.reply ≡ false
    plain = undecided_plain h.reply is_open_view

    low : recorded ≤ k2.high
    low = let f : greatest_of (reply_stamps h.reply) ≡ greatest_of (reply_stamps (replies.Status view)) = ap (λ y. greatest_of (reply_stamps y)) is.told in within_stamps view recorded undecided k2.high (omega (arith, f))

    alive2 : set.course.loses ≡ false → (why : Why) → Any (FindsAborted t2 why) k2.heard_now → ⊥
    alive2 quiet why found =
        let P : Heard → Type 0 = FindsAborted w.t why in
        (b.beaten quiet).alive why
        (any_before P k.heard_now (h ∷ [])
        (All-cons (λ h. P h → ⊥) h [] (λ f. not_aborted why h.reply is_open_view f.aborted.view f.aborted.told f.aborted.cause) (All-nil (λ h. P h → ⊥)))
        (found.0, found.1, found.2, found.3, record { beat = found.4.beat; aborted = found.4.aborted }))

    pub beaten2 : set.course.loses ≡ false → HasBeaten k2 t2
    beaten2 quiet = record { none_due = λ d. (b.beaten quiet).none_due (due_before d); heard = beats_heard quiet; alive = alive2 quiet }

    -- rounds stand as before
    same_rounds : rounds_made k2 ≡ rounds_made k
    same_rounds =
        made_then k w.t h w.open_in
        ∙ ap (λ q. rounds_by (Some w.t) h q h.reply (with_conflict h (rounds_made k))) last_beat_said
        ∙ with_none k w.t h w.open_in plain (rounds_made k)

    pub last_beat_stands : TxnStands k2 w.stages None t2 (raised_at recorded h.step x)
    last_beat_stands =
        beat_heard k k2 w.stages None w.t x (meta_now x b.gives_up.anchor) x.write_ts reading view recorded h b.gives_up.stands (ap (λ (x : OpenTxn). x.id) w.stands.same) b.gives_up.anchored last_beat_said is.told (no_final view recorded undecided)
        (stands_there view recorded undecided) (is.shown w.t mine) b.gives_up.late (gone session clock count set k x p ms counted w number (replies.Status view) h waited is) low
      where
        mine : Contains k.txns w.t
        mine = subst (λ ts. Contains ts w.t) (sym w.open_in.first) (0, omega arith, refl)

    -- each of its stages is dead then
    pub over_then : is_over (raised_at recorded h.step x).staging ≡ true
    over_then =
        over_beaten x.staging h.step b.gives_up.stands.staging.commit_at
        (refuted_before k.heard w.t h.step (after beat) w.stages x.staging.stages b.gives_up.stands.staging.kept b.gives_up.late)

    paced_then : IsPaced [] k2.heard_now
    paced_then =
        let old = paced2 session clock count set k x p ms counted w number (replies.Status view) h waited is in
        record {
          pushes = λ id. let low = old.pushes id in omega (arith, low);
          behind = old.behind;
        }

    -- so it gives up by the answer for which it was sent
    pub gives_up_then : GivesUpBy set.course.loses k2 (raised_at recorded h.step x) answer
    gives_up_then = record {
      t = t2;
      stages = w.stages;
      open_in = open2;
      cause = w.cause;
      s = w.s;
      opened = w.opened;
      split = split2 session clock count set k x p ms counted w number (replies.Status view) h waited is;
      paced = paced_then;
      met = met_then;
      beaten = beaten2;
      first = λ quiet left. let f : true ≡ false = sym over_then ∙ left in absurd cc;
      gives_up = record {
        call = b.gives_up.call;
        anchor = b.gives_up.anchor;
        anchored = b.gives_up.anchored;
        stands = last_beat_stands;
        late = still_late k.heard (h ∷ []) w.stages b.gives_up.late;
        why = why_on k w.t h w.open_in plain (beat_moves h.request h.reply beat) same_rounds (λ span. beat_refreshes_none span h.request h.reply beat) answer b.gives_up.why;
      };
    }
      where
        met_then : All MeetsByPut k2.heard_now
        met_then = All-push MeetsByPut k.heard_now h b.met (λ met. absurd cc)

-- Whatever reply shows such a record.
pub beat_gave_up : (session clock count : ℕ) (set : Setting) (k : Known) (x : OpenTxn) (p : Purpose) (ms : List Message) (counted : IsCounted session clock count k) (w : InCall set k x p ms) (number : ℕ) (reply : Reply) (h : Heard) → wave_awaits number ms ≡ true → IsHeardTo k number reply h
    → (answer : Answer) (reading recorded : ℕ) → p ≡ purposes.LastBeat answer reading → IsUndecidedAt reply recorded → IsAfterAllHeard k.heard h
    → GivesUpBy set.course.loses (known_heard h k) (raised_at recorded h.step x) answer × (is_over (raised_at recorded h.step x).staging ≡ true)
beat_gave_up session clock count set k x p ms counted w number (replies.Status view) h waited is answer reading recorded e undecided after =
    (gives_up_then session clock count set k x p ms counted w number view h waited is answer reading e recorded undecided after, over_then session clock count set k x p ms counted w number view h waited is answer reading e recorded undecided after)
beat_gave_up session clock count set k x p ms counted w number reply h waited is answer reading recorded e undecided after = let f : false ≡ true = undecided.undecided in absurd cc

-- A purpose that is such a heartbeat has its answer.
abbrev pub answer_of : Purpose → Option Answer
answer_of (purposes.LastBeat answer reading) = Some answer
answer_of _ = None

pub same_answer : (p : Purpose) (one other : Answer) (reading at : ℕ) → p ≡ purposes.LastBeat one reading → p ≡ purposes.LastBeat other at → one ≡ other
same_answer p one other reading at e f = same_Some one other (sym (ap answer_of e) ∙ ap answer_of f)
