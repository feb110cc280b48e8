-- A call shows first that its transaction is alive: its heartbeat is to be sent, and is heard.
use Rattle.std.proofs.Common.{◌≡◌, ◌≢◌, ℕ, zero, suc, ◌+◌, ◌≤◌, nat_le, Bool, true, false, ◌&&◌, ◌==◌, inl, is_some, List, drop, [], ◌∷◌, ◌++◌, map, Some, None, refl, sym, ap, ◌∙◌, subst, arith, All, Any, Contains, IsTrue, ◌⊎◌, not}
use Rattle.std.proofs.lemmas.Bool.{and_parts, eq-eqb, le-leb, leb-true}
use Rattle.std.proofs.lemmas.List.Elements.{All-cons, All-head, All-nil, All-tail, All-weaker}
use Rattle.std.proofs.lemmas.List.{append-nil}
use Rattle.std.proofs.lemmas.Option.{same_Some}
use Rattle.pc_call.specs.Beaten.{BeatsOnlyFirst}
use Rattle.pc_call.proofs.Undecided.{no_final, stands_there, within_stamps}
use Rattle.pc_call.specs.Beside.{is_query}
use Rattle.pc_call.specs.Setting.{Setting}
use Rattle.pc_base.specs.declared.limits.TheConstants.{HEARTBEAT, MOST_CONFLICTS, MOST_REFUSALS}
use Rattle.pc_base.specs.Transaction.{same_txn}
use Rattle.pc_call.proofs.Beating.{not_aborted}
use Rattle.pc_call.proofs.Beginning.{AreTwo, IsNewFor, any_true, begins_so, none_met, none_told}
use Rattle.pc_call.proofs.Committing.{beats_unmoved}
use Rattle.pc_call.proofs.Closing.{closing-left, closing-may, opened3}
use Rattle.pc_call.proofs.Decided.{one_out}
use Rattle.pc_call.proofs.Eighths.{any_eighth}
use Rattle.pc_call.proofs.Ending.{EndsWith, IsFinalAs, final_aborted}
use Rattle.pc_call.proofs.Facts.{open_is}
use Rattle.pc_call.proofs.Hearing.{far, found, gone, one_asked, same_request, split2}
use Rattle.pc_call.proofs.Told.{may_tell, still_open}
use Rattle.pc_call.proofs.Unsent.{unsent_plain}
use Rattle.pc_call.specs.declared.later.LaterPut.{LaterPut}
use Rattle.pc_call.specs.Alive.{GoesOnAlive}
use Rattle.pc_call.specs.declared.purpose.Purpose.{Purpose}
use Rattle.pc_call.specs.declared.purpose.Purpose.TheVariants as purposes
use Rattle.pc_call.specs.Finished.{MayTellOver, left_at}
use Rattle.pc_call.specs.Fresh.{IsFresh, IsJustAsked, ShowsAlive}
use Rattle.pc_call.specs.Learned.{known_heard}
use Rattle.pc_call.specs.Serving.{InCall, IsOpenIn, IsSplit, KeepsStages, Serves, ServesBeat, out_of, HasBeatenBy}
use Rattle.pc_call.specs.Stages.{HasOutbox, IsUndecidedAt}
use Rattle.pc_call.specs.Suiting.{SuitsFlightIn}
use Rattle.pc_follows.specs.Heartbeats.{AreBeatsHeard, FindsAborted, IsBeatDue, KeepsHeartbeats, TellsAfterBeats, is_heartbeat, last_shown}
use Rattle.pc_proto.specs.declared.answer.Answer.TheVariants as answers
use Rattle.pc_proto.specs.declared.call.Call.{Call}
use Rattle.pc_proto.specs.declared.call.Call.TheVariants as calls
use Rattle.pc_proto.specs.declared.event.Event.TheVariants as events
use Rattle.pc_proto.specs.declared.fate.Fate.TheVariants as fates
use Rattle.pc_proto.specs.declared.reply.Reply.TheVariants as replies
use Rattle.pc_proto.specs.declared.reply.Reply.{Reply}
use Rattle.pc_proto.specs.declared.request.Request.{Request}
use Rattle.pc_proto.specs.declared.view.View.{View}
use Rattle.pc_proto.specs.declared.view.View.TheVariants as views
use Rattle.pc_proto.specs.declared.why.Why.{Why}
use Rattle.pc_proto.specs.Replies.{is_conflict, is_undecided_status, view_in}
use Rattle.pc_proto.specs.Requests.{is_about, subject_anchor}
use Rattle.pc_proto.specs.Stamps.{greatest_of, reply_stamps, why_stamps}
use Rattle.pc_proto.specs.Views.{AbortsWith}
use Rattle.pc_lists.proofs.Anywhere.{any_last, any_of}
use Rattle.pc_lists.proofs.Same.{same_txn-self}
use Rattle.pc_txn.proofs.Alive.{beat_heard}
use Rattle.pc_txn.proofs.Rows.{uncommitted}
use Rattle.pc_txn.specs.Counted.{IsCounted}
use Rattle.pc_txn.specs.declared.txn.OpenTxn.{OpenTxn}
use Rattle.pc_txn.specs.Opened.{meta_now}
use Rattle.pc_txn.specs.Silence.{is_silent, own_beat, raised_at}
use Rattle.pc_txn.specs.Standing.{TxnStands}
use Rattle.pc_wave.proofs.Lists.{at_least-fewer}
use Rattle.pc_wave.specs.declared.message.Message.{Message}
use Rattle.pc_wave.specs.declared.message.Progress.TheVariants as progresses
use Rattle.pc_wave.specs.Messages.{message_to_send, progress_to_send, wave_awaits}
use Rattle.pc_wave.specs.Standing.{AreAnsweredBut, IsHeardTo, goes_beside}
use Rattle.pc_follows.specs.Eighth.{MetEighth, WasMovedEighth}
use Rattle.pc_world.specs.Known.{Known, call_in}
use Rattle.pc_world.specs.Known.Statements.{Statement}
use Rattle.pc_world.specs.Known.Traffic.{Heard, Sent}
use Rattle.pc_world.specs.Known.Transactions.{Txn, txn_heard}
use Rattle.pc_world.specs.MayTell.{is_past_range}
use Rattle.pc_world.specs.SameRequest.{IsSameRequest}
use Rattle.pc_world.specs.StageFate.{IsLate}
use Rattle.pc_world.specs.Send.Abort.{own_cause}
use Rattle.pc_world.specs.Tell.Refusal.{IsConflictOf, MayBlock, WasMoved, is_heard}
use Rattle.pc_world.specs.Views.{ShowsAborted}

all_both : {X : Type 0} (P Q R : X → Type 0) → ((x : X) → P x → Q x → R x) → (xs : List X) → All P xs → All Q xs → All R xs
all_both P Q R both [] a b = All-nil R
all_both P Q R both (x ∷ xs) a b = All-cons R x xs (both x (All-head P x xs a) (All-head Q x xs b)) (all_both P Q R both xs (All-tail P x xs a) (All-tail Q x xs b))

no_rollback : (call : Call) → MayBlock call → call ≡ calls.Rollback → ⊥
no_rollback call may e = subst MayBlock e may

pub blocks_within : (call : Call) (reading : ℕ) → MayBlock call → is_past_range (record { call = call; reading = reading }) ≡ false
blocks_within (calls.Begin priority) reading may = absurd may
blocks_within call reading may = refl

module _ (k : Known) (x : OpenTxn) (call : Call) (reading : ℕ) (why : Why) (f : IsJustAsked k x (record { call = call; reading = reading }) why) where
  nothing_sent : (P : Sent → Type 0) → All P k.sent_now
  nothing_sent P = subst (λ ms. All P ms) (sym f.none_sent) (All-nil P)

  nothing_heard : (P : Heard → Type 0) → All P k.heard_now
  nothing_heard P = subst (λ hs. All P hs) (sym f.none_heard) (All-nil P)

  none_behind : BeatsOnlyFirst k
  none_behind =
      let P : Sent → Type 0 = λ m. is_heartbeat m.request ≡ false in
      subst (λ ms. All P (drop 1 ms)) (sym f.none_sent) (All-nil P)

  split_asked : IsSplit k
  split_asked = record {
    sent_first = k.sent;
    sent = sym (append-nil k.sent) ∙ ap (λ ms. k.sent ++ ms) (sym f.none_sent);
    heard_first = k.heard;
    heard = sym (append-nil k.heard) ∙ ap (λ hs. k.heard ++ hs) (sym f.none_heard);
    unheard = nothing_sent (λ m. IsTrue (goes_beside m.request) ⊎ (is_heard k.heard m ≡ false));
  }

  shown_is : x.shown ≡ last_shown f.t k.sent
  shown_is = f.stands.shown

  -- where it has not been silent for long, no heartbeat is due
  none_due : is_silent reading x ≡ false → IsBeatDue k f.t → ⊥
  none_due lively d =
      let same : record { call = call; reading = reading } ≡ d.s = same_Some (record { call = call; reading = reading }) d.s (sym f.opened ∙ d.opened) in
      let at : reading ≡ d.s.reading = ap (λ (s : Statement). s.reading) same in
      let some : is_some x.anchor ≡ true = ap is_some (ap (λ x. x.anchor) f.stands.same ∙ d.anchored) in
      let late : x.shown + HEARTBEAT ≤ reading = omega (arith, d.late, shown_is, at) in
      let silent : is_silent reading x ≡ true = ap (λ b. b && nat_le (x.shown + HEARTBEAT) reading) some ∙ le-leb (x.shown + HEARTBEAT) reading late in
      let e : false ≡ true = sym lively ∙ silent in
      cc

  -- where none is due the call begins
  pub fresh_so : (loses : Bool) → (IsBeatDue k f.t → ⊥) → IsFresh loses k x (record { call = call; reading = reading }) why
  fresh_so loses none = record {
    t = f.t;
    open_in = f.open_in;
    stands = f.stands;
    client = f.client;
    cause = f.cause;
    low = f.low;
    opened = f.opened;
    split = split_asked;
    sent = nothing_sent (λ m. is_heartbeat m.request ≡ true);
    heard = nothing_heard ShowsAlive;
    beaten = λ quiet. record {
      none_due = none;
      heard = nothing_sent (λ m. IsTrue (is_heartbeat m.request) → IsTrue (is_heard k.heard m));
      alive = λ cause found. absurd (omega (arith, (subst (λ hs. Any (FindsAborted f.t cause) hs) f.none_heard found).2));
      first = none_behind;
    };
  }

  -- so it does where the transaction was not silent for long
  pub fresh_lively : (loses : Bool) → is_silent reading x ≡ false → IsFresh loses k x (record { call = call; reading = reading }) why
  fresh_lively loses lively = fresh_so loses (none_due lively)

  -- or where the call shows no life
  pub fresh_aside : (loses : Bool) → (MayBlock call → ⊥) → IsFresh loses k x (record { call = call; reading = reading }) why
  fresh_aside loses aside =
      fresh_so loses (λ d. aside (subst MayBlock (sym (ap (λ (s : Statement). s.call) (same_Some (record { call = call; reading = reading }) d.s (sym f.opened ∙ d.opened)))) d.asks))

  -- else its heartbeat is to be sent
  pub beat_begins : (set : Setting) (anchor : List ℕ) (later : List LaterPut) → HasOutbox set.course.loses k x later → MayBlock call → SuitsFlightIn set.course.pipelines call x.in_flight → is_silent reading x ≡ true → x.anchor ≡ Some anchor → InCall set k x (purposes.Beat call reading) (message_to_send (own_beat x reading anchor) ∷ [])
  beat_begins set anchor later o asks suits silent anchored =
      let beat = own_beat x reading anchor in
      let own : f.t.anchor ≡ Some anchor = sym (ap (λ x. x.anchor) f.stands.same) ∙ anchored in
      begins_so k f.t x (record { call = call; reading = reading }) f.open_in f.stands f.client f.opened split_asked (nothing_heard ShowsAlive) set (nothing_sent (λ m. is_query m.request ≡ false)) (purposes.Beat call reading) (beat ∷ [])
      (All-cons (λ r. goes_beside r ≡ false) beat [] refl (All-nil (λ r. goes_beside r ≡ false)))
      (All-cons (IsNewFor set.course k) beat []
      (record { unsent = nothing_sent (λ m. IsSameRequest beat m.request → ⊥); unheard = unsent_plain (not set.course.loses && set.course.pipelines) k beat refl (nothing_sent (λ m. IsSameRequest beat m.request → ⊥)); untold = none_told k beat refl })
      (All-nil (IsNewFor set.course k))) (All-nil (AreTwo beat), tt) refl (λ quiet. none_behind) suits
      (record {
        asked = refl;
        asks = asks;
        anchor = anchor;
        anchored = own;
        m = message_to_send beat;
        one = refl;
        said = refl;
        due = λ e unlost. record {
          s = record { call = call; reading = reading };
          opened = f.opened;
          asks = asks;
          first = f.none_sent;
          whose = open_is k f.t f.open_in;
          anchor = anchor;
          anchored = own;
          uncommitted = uncommitted f.t k.heard f.stands.views;
          late = late;
        };
        sent = nothing_sent (λ s. s.request ≡ beat);
        some = λ e. absurd cc;
        unheard = f.none_heard;
        low = subst (λ cause. All (λ ts. ts ≤ k.top + 1) (why_stamps cause)) f.cause f.low;
      })
    where
      late : last_shown f.t k.sent + HEARTBEAT ≤ reading
      late =
          let test = (and_parts (is_some x.anchor) (nat_le (x.shown + HEARTBEAT) reading) silent).1 in
          let l : x.shown + HEARTBEAT ≤ reading = leb-true (x.shown + HEARTBEAT) reading test in
          omega (arith, l, shown_is)

module _ (session clock count : ℕ) (set : Setting) (k : Known) (x : OpenTxn) (p : Purpose) (ms : List Message) (counted : IsCounted session clock count k) (w : InCall set k x p ms)
    (number : ℕ) (view : View) (h : Heard) (waited : wave_awaits number ms ≡ true) (is : IsHeardTo k number (replies.Status view) h) (call : Call) (reading : ℕ) (e : p ≡ purposes.Beat call reading) where
  abbrev k2 : Known
  k2 = known_heard h k

  abbrev t2 : Txn
  t2 = txn_heard k.sent (Some h) w.t

  abbrev b : ServesBeat call reading k w.s w.t x ms
  b = subst (λ q. Serves set k w.s w.t x w.stages q ms) e w.serves

  st : TxnStands k [] None w.t x
  st = subst (λ ss. TxnStands k ss None w.t x) (subst (λ q. KeepsStages q k w.stages) e w.kept) (subst (λ o. TxnStands k w.stages o w.t x) (ap (λ q. out_of q ms) e) w.stands)

  mine : Contains k.txns w.t
  mine = subst (λ ts. Contains ts w.t) (sym w.open_in.first) (0, omega arith, refl)

  out : b.m.progress ≡ progresses.Sent number
  out = one_out number b.m (subst (λ ms. wave_awaits number ms ≡ true) b.one waited)

  said : h.request ≡ own_beat x reading b.anchor
  said = one_asked session clock count set k x p ms counted w number (replies.Status view) h waited is b.m b.one ∙ b.said

  same_id : x.id ≡ w.t.id
  same_id = ap (λ x. x.id) w.stands.same

  open2 : IsOpenIn k2 t2
  open2 = record { others = map (txn_heard k.sent (Some h)) w.open_in.others; is_open = w.open_in.is_open; first = ap (map (txn_heard k.sent (Some h))) w.open_in.first }

  -- what was sent in the call is that heartbeat
  beats : All (λ m. is_heartbeat m.request ≡ true) k.sent_now
  beats = All-weaker (λ (s : Sent). s.request ≡ own_beat x reading b.anchor) (λ s. is_heartbeat s.request ≡ true) (λ s same. ap is_heartbeat same) k.sent_now b.sent

  none_due2 : IsBeatDue k2 t2 → ⊥
  none_due2 d = b.some (ap progress_to_send out) d.first

  heard_now : (s : Sent) → s.request ≡ own_beat x reading b.anchor → (IsSameRequest b.m.request s.request → s.number ≢ number → IsTrue (is_heard k.heard_now s)) → IsTrue (is_heard k2.heard s)
  heard_now s same rest = by (h.number == s.number) refl
    where
      none : is_heard k.heard_now s ≡ false
      none = ap (λ hs. is_heard hs s) b.unheard

      by : (q : Bool) → (h.number == s.number) ≡ q → IsTrue (is_heard k2.heard s)
      by true at = any_true (λ (h : Heard). h.number == s.number) k2.heard (any_last (λ (g : Heard). IsTrue (g.number == s.number)) k.heard h at)
      by false at =
          let no : s.number ≢ number = λ same. let f : (h.number == s.number) ≡ true = eq-eqb h.number s.number (is.numbered ∙ sym same) in let g : false ≡ true = sym at ∙ f in cc in
          let f : false ≡ true = sym none ∙ rest (inl (b.said ∙ sym same)) no in
          absurd cc

  beats_heard : set.course.loses ≡ false → AreBeatsHeard k2
  beats_heard quiet =
      all_both (λ (s : Sent). s.request ≡ own_beat x reading b.anchor) (λ s. IsSameRequest b.m.request s.request → s.number ≢ number → IsTrue (is_heard k.heard_now s)) (λ s. IsTrue (is_heartbeat s.request) → IsTrue (is_heard k2.heard s))
      (λ s same rest beat. heard_now s same rest) k.sent_now b.sent rest
    where
      found_is : (found session clock count set k x p ms counted w number (replies.Status view) h waited is).0.request ≡ b.m.request
      found_is = sym (same_request session clock count set k x p ms counted w number (replies.Status view) h waited is) ∙ one_asked session clock count set k x p ms counted w number (replies.Status view) h waited is b.m b.one

      rest : AreAnsweredBut false k number b.m.request
      rest =
          subst (λ loses. AreAnsweredBut loses k number b.m.request) quiet
          (subst (AreAnsweredBut set.course.loses k number) found_is (far session clock count set k x p ms counted w number (replies.Status view) h waited is).0.rest)

  heard_one : k2.heard_now ≡ h ∷ []
  heard_one = ap (λ hs. hs ++ h ∷ []) b.unheard

  -- the record is not final: the call begins
  module _ (recorded : ℕ) (undecided : IsUndecidedAt (replies.Status view) recorded) where
    low : recorded ≤ k2.high
    low = let f : greatest_of (reply_stamps h.reply) ≡ greatest_of (reply_stamps (replies.Status view)) = ap (λ y. greatest_of (reply_stamps y)) is.told in within_stamps view recorded undecided k2.high (omega (arith, f))

    alive_now : ShowsAlive h
    alive_now = record { beat = ap is_heartbeat said; undecided = ap is_undecided_status is.told ∙ undecided.undecided }

    all_alive : All ShowsAlive k2.heard_now
    all_alive = subst (λ hs. All ShowsAlive hs) (sym heard_one) (All-cons ShowsAlive h [] alive_now (All-nil ShowsAlive))

    pub goes_on_alive : GoesOnAlive set.course k2 (raised_at recorded h.step x) (record { call = call; reading = reading })
    goes_on_alive = record {
      why = own_cause w.t.restart;
      fresh = record {
        t = t2;
        open_in = open2;
        stands =
            beat_heard k k2 [] None w.t x (meta_now x b.anchor) x.write_ts reading view recorded h st same_id b.anchored said is.told (no_final view recorded undecided) (stands_there view recorded undecided) (is.shown w.t mine)
            (All-nil (IsLate k.heard)) (gone session clock count set k x p ms counted w number (replies.Status view) h waited is) low;
        client = w.cause;
        cause = refl;
        low = All-weaker (λ ts. ts ≤ k.top + 1) (λ ts. ts ≤ k2.top + 1) (λ ts low. omega (arith, low)) (why_stamps (own_cause w.t.restart)) b.low;
        opened = w.opened ∙ ap (λ s. Some s) b.asked;
        split = split2 session clock count set k x p ms counted w number (replies.Status view) h waited is;
        sent = beats;
        heard = all_alive;
        beaten = λ quiet. record {
          none_due = none_due2;
          heard = beats_heard quiet;
          alive = λ cause found.
              let f = any_of ShowsAlive (FindsAborted t2 cause) k2.heard_now all_alive found in
              not_aborted cause f.0.reply f.1.undecided f.2.aborted.view f.2.aborted.told f.2.aborted.cause;
          first = subst (λ q. HasBeatenBy q k w.t) e (w.beaten quiet);
        };
      };
      asks = b.asks;
      suits = subst (λ (s : Statement). SuitsFlightIn set.course.pipelines s.call x.in_flight) b.asked w.plain;
    }

  -- the record is aborted: the call is told so
  module _ (epoch : ℕ) (why : Why) (locks : List (List ℕ)) (v : view ≡ views.Aborted epoch why locks) where
    over : EndsWith w.t b.anchor fates.Aborted k.heard h
    over = record {
      anchored = b.anchored;
      undecided = w.stands.views;
      about = ap (is_about w.t.id) said ∙ ap (λ id. same_txn id w.t.id) same_id ∙ same_txn-self w.t.id;
      named = ap subject_anchor said;
      view = view;
      told = ap view_in is.told;
      final = subst (λ v. IsFinalAs v fates.Aborted) (sym v) (final_aborted epoch why locks);
    }

    aborts_same : (other : Why) → FindsAborted t2 other h → answers.Aborted why ≡ answers.Aborted other
    aborts_same other f =
        let one : view ≡ f.aborted.view = same_Some view f.aborted.view (sym (ap view_in is.told) ∙ f.aborted.told) in
        ap answers.Aborted (cause_is other f.aborted.view (sym v ∙ one) f.aborted.cause)
      where
        cause_is : (other : Why) (shown : View) → views.Aborted epoch why locks ≡ shown → AbortsWith other shown → why ≡ other
        cause_is other (views.Aborted at cause held) same c = let e : why ≡ cause = cc in e ∙ c
        cause_is other views.Nothing same c = absurd c
        cause_is other (views.Pending at on) same c = absurd c
        cause_is other (views.Staging at on writes) same c = absurd c
        cause_is other (views.Committed at on held) same c = absurd c

    tells : set.course.loses ≡ false → KeepsHeartbeats k2 (events.Tell (answers.Aborted why))
    tells quiet s u opened whose =
        let same : t2 ≡ u = same_Some t2 u (sym (open_is k2 t2 open2) ∙ whose) in
        subst (λ u. TellsAfterBeats k2 u (answers.Aborted why)) same (record {
          none_due = none_due2;
          heard = beats_heard quiet;
          aborted = λ other found. one_of other (subst (λ hs. Any (FindsAborted t2 other) hs) heard_one found);
        })
      where
        one_of : (other : Why) → Any (FindsAborted t2 other) (h ∷ []) → answers.Aborted why ≡ answers.Aborted other
        one_of other (zero, g, inside, at, f) = aborts_same other (subst (FindsAborted t2 other) (sym at) f)
        one_of other (suc n, g, inside, at, f) = absurd (omega arith)

    plain : All (λ h. is_conflict h.reply ≡ false) k2.heard_now
    plain = subst (λ hs. All (λ h. is_conflict h.reply ≡ false) hs) (sym heard_one) (All-cons (λ h. is_conflict h.reply ≡ false) h [] (ap is_conflict is.told) (All-nil (λ h. is_conflict h.reply ≡ false)))

    unmet : (r : Request) → MetEighth k2 r → ⊥
    unmet r eight = none_met k2 plain r (at_least-fewer (IsConflictOf r) 1 MOST_CONFLICTS k2.heard_now (omega arith) eight)

    unmoved : WasMovedEighth k2 → ⊥
    unmoved eight =
        beats_unmoved k2
        (subst (λ hs. All (λ h. is_heartbeat h.request ≡ true) hs) (sym heard_one) (All-cons (λ h. is_heartbeat h.request ≡ true) h [] (ap is_heartbeat said) (All-nil (λ h. is_heartbeat h.request ≡ true))))
        (at_least-fewer (WasMoved k2) 1 MOST_REFUSALS k2.heard_now (omega arith) eight)

    within : is_past_range w.s ≡ false
    within = ap is_past_range b.asked ∙ blocks_within call reading b.asks

    pub found_aborted_over : MayTellOver set session k2 (record { answer = answers.Aborted why; left = left_at x.anchor fates.Aborted x })
    found_aborted_over =
        let answer = answers.Aborted why in
        record {
          may = record {
            may = may_tell set session k2 w.s answer w.opened w.open_in.is_open within (record {
              t = t2;
              opened = opened3 k x w.t b.anchor fates.Aborted h w.open_in w.stands.same over;
              heard = any_last (ShowsAborted w.t.id why) k.heard h (record { about = over.about; view = view; told = ap view_in is.told; cause = subst (AbortsWith why) (sym v) refl });
            });
            written = tt;
            aborts = λ quiet. tt;
            rolled_back = λ asked. no_rollback call b.asks (same_Some call calls.Rollback (sym (ap call_in (w.opened ∙ ap (λ s. Some s) b.asked)) ∙ asked));
            restarts = tt;
            eighth = any_eighth set.course.loses k2 answer (λ s opened. record { blocked = λ no r eight. absurd (unmet r eight); moved = λ asked eight. absurd (unmoved eight) });
            blocked = λ piped other at commits. tt;
            beats = tells;
          };
          left = closing-left k x w.t b.anchor fates.Aborted h w.open_in w.stands.same over;
          closed = refl;
          settles = closing-may k x w.t b.anchor fates.Aborted h w.open_in w.stands.same over answer (still_open k2 answer t2 (map (txn_heard k.sent (Some h)) w.open_in.others) w.open_in.is_open (ap (map (txn_heard k.sent (Some h))) w.open_in.first));
        }

-- Whatever reply shows such a record.
pub goes_on_undecided : (session clock count : ℕ) (set : Setting) (k : Known) (x : OpenTxn) (p : Purpose) (ms : List Message) (counted : IsCounted session clock count k) (w : InCall set k x p ms) (number : ℕ) (reply : Reply) (h : Heard) → wave_awaits number ms ≡ true → IsHeardTo k number reply h
    → (call : Call) (reading recorded : ℕ) → p ≡ purposes.Beat call reading → IsUndecidedAt reply recorded → GoesOnAlive set.course (known_heard h k) (raised_at recorded h.step x) (record { call = call; reading = reading })
goes_on_undecided session clock count set k x p ms counted w number (replies.Status view) h waited is call reading recorded e undecided =
    goes_on_alive session clock count set k x p ms counted w number view h waited is call reading e recorded undecided
goes_on_undecided session clock count set k x p ms counted w number reply h waited is call reading recorded e undecided = let f : false ≡ true = undecided.undecided in absurd cc
