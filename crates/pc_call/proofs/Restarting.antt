-- All refreshes of a commit were answered: the commit goes out, or its transaction restarts.
use Rattle.std.proofs.Common.{◌≡◌, ℕ, ◌≤◌, Bool, true, false, cond, ◌⊎◌, inl, inr, List, [], ◌∷◌, map, find, Option, None, Some, IfSome, is_some, refl, sym, ap, ◌∙◌, subst, arith, All, Any, Contains, IsTrue, zero, suc}
use Rattle.std.specs.List.Sorted.{IsStrictlySortedBy}
use Rattle.std.specs.Option.{option_and_then}
use Rattle.std.specs.List.{AllByRecursion as Each}
use Rattle.std.specs.Ordering.{is_lt, ordering_reverse}
use Rattle.std.specs.declared.cmp.Ordering.{Ordering}
use Rattle.std.specs.declared.cmp.Ordering.TheVariants.{Less, Equal, Greater}
use Rattle.std.proofs.lemmas.Cmp.{tied_itself}
use Rattle.std.proofs.lemmas.Option.{same_Some}
use Rattle.std.proofs.lemmas.List.Elements.{All-cons, All-contains, All-head, All-map, All-nil, All-tail, All-weaker, Contains-append_right}
use Rattle.pc_call.proofs.Beating.{beaten_so}
use Rattle.pc_call.proofs.Lists.{all_unmapped}
use Rattle.pc_call.specs.Beaten.{HasBeatenIn}
use Rattle.pc_call.specs.Setting.{Setting}
use Rattle.pc_base.specs.declared.span.Span.{Span}
use Rattle.pc_base.specs.declared.transaction.TxnId.{TxnId}
use Rattle.pc_base.specs.SpanOrder.{span_cmp}
use Rattle.pc_call.proofs.Beside.{IsSentOnceMore, all_over}
use Rattle.pc_call.proofs.Facts.{unmoved}
use Rattle.pc_call.proofs.Kept.{late_passed}
use Rattle.pc_call.specs.Beside.{ArePastOrInFlight, IsPastOrNoQuery, IsPastOrInFlight, is_query}
use Rattle.pc_call.specs.GivenUp.{GivesUpBy}
use Rattle.pc_call.specs.Paced.{IsPaced}
use Rattle.pc_call.specs.Stages.{DecidesNow}
use Rattle.pc_call.specs.declared.purpose.Purpose.{Purpose}
use Rattle.pc_call.specs.declared.purpose.Purpose.TheVariants as purposes
use Rattle.pc_call.specs.declared.refreshes.Refreshed.{Refreshed}
use Rattle.pc_call.specs.declared.refreshes.Refreshed.TheVariants as refreshes
use Rattle.pc_call.specs.Serving.{HasBeatenBy, InCall, IsAnswerTo, IsMetUpTo, KeepsStages, MetNoOtherWrite, MetNoWrite, Serves, ServesRefresh, WaitsMeanwhile, out_of, is_last_beat}
use Rattle.pc_lists.proofs.Anywhere.{any_head, any_later, any_of, any_weaker}
use Rattle.pc_proto.specs.declared.answer.Answer.TheVariants as answers
use Rattle.pc_proto.specs.declared.reply.Reply.{Reply}
use Rattle.pc_proto.specs.declared.reply.Reply.TheVariants as replies
use Rattle.pc_proto.specs.declared.request.Request.{Request}
use Rattle.pc_proto.specs.declared.request.Request.TheVariants as requests
use Rattle.pc_reads.proofs.Goods.{refreshed_stand}
use Rattle.pc_reads.proofs.Ordered.{span_total}
use Rattle.pc_reads.specs.ReadsStanding.{refresh_to}
use Rattle.pc_reads.specs.Replies.{first_unrefreshed, shows_unrefreshed, unrefreshed_by, unrefreshed_in}
use Rattle.pc_txn.specs.Counted.{IsCounted}
use Rattle.pc_txn.specs.declared.txn.OpenTxn.{OpenTxn}
use Rattle.pc_txn.specs.Standing.{TxnStands}
use Rattle.pc_world.specs.StageFate.{IsLate}
use Rattle.pc_wave.proofs.Changed.{found_all, found_none, found_passes}
use Rattle.pc_wave.proofs.Dues.{may_be_due}
use Rattle.pc_wave.specs.declared.message.Message.{Message}
use Rattle.pc_wave.specs.declared.step.Step.TheVariants as steps
use Rattle.pc_wave.specs.Due.{MayBeDue, WasAnsweredWith}
use Rattle.pc_wave.specs.Messages.{step_of}
use Rattle.pc_wave.specs.Standing.{IsReplyAt, goes_beside, sends_counted}
use Rattle.pc_world.specs.Answering.{IsRefreshReply, MayAnswer}
use Rattle.pc_follows.specs.Refreshes.{IsNoneBefore, MetWrite}
use Rattle.pc_world.specs.Known.{Known}
use Rattle.pc_world.specs.Known.Statements.{Statement}
use Rattle.pc_world.specs.Known.Reads.{IsGoodAt, WasRefreshed}
use Rattle.pc_world.specs.Known.Traffic.{Heard, Sent}

-- a refresh that met no write held
held_reply : (reply : Reply) → IsRefreshReply reply → unrefreshed_by reply ≡ None → reply ≡ replies.Refreshed
held_reply replies.Refreshed is none = refl
held_reply (replies.Unrefreshed key ts) is none = absurd cc
held_reply reply is none = absurd is

-- what shows a write is so answered
unrefreshed_is : (reply : Reply) (key : List ℕ) (ts : ℕ) → unrefreshed_by reply ≡ Some (key, ts) → reply ≡ replies.Unrefreshed key ts
unrefreshed_is (replies.Unrefreshed at on) key ts e = ap (λ (w : List ℕ × ℕ). replies.Unrefreshed w.0 w.1) (same_Some (at, on) (key, ts) e)
unrefreshed_is reply key ts e = absurd cc

unshown : (o : Option (List ℕ × ℕ)) → is_some o ≡ false → o ≡ None
unshown None e = refl
unshown (Some w) e = absurd cc

not_less : (o : Ordering) → o ≡ Less → is_lt (ordering_reverse o) ≡ true → ⊥
not_less Less e h = cc
not_less Equal e h = cc
not_less Greater e h = cc

-- the spans of two refreshes that are one
pub span_of : {one two : TxnId} {from to low high : ℕ} (s : Span) (other : Span) → requests.Refresh one from to s ≡ requests.Refresh two low high other → s ≡ other
span_of s other e = cc

pub any_cons : {X : Type 0} (P : X → Type 0) (x : X) (xs : List X) → Any P (x ∷ xs) → P x ⊎ Any P xs
any_cons P x xs (zero, y, low, is, p) = inl (subst P (sym is) p)
any_cons P x xs (suc n, y, low, is, p) = inr (n, y, omega arith, is, p)

module _ (id : TxnId) (from to : ℕ) where
  abbrev pub asks : Span → Request
  asks span = refresh_to id from to span

  -- The message is of the refresh of this span, and met a write.
  abbrev IsMetOf : Span → Message → Type 0
  IsMetOf other y = (y.request ≡ asks other) × (shows_unrefreshed y ≡ true)

  pub same_span_of : (one other : Span) → asks one ≡ asks other → one ≡ other
  same_span_of one other e = cc

  -- a span of a message behind is behind
  pub behind : (one other : Span) (spans : List Span) (ms : List Message) → map (λ m. m.request) ms ≡ map asks spans → Each (λ s. span_cmp one s ≡ Less) spans → Any (λ m. m.request ≡ asks other) ms → span_cmp one other ≡ Less
  behind one other spans [] same each some = absurd (omega (arith, some.2))
  behind one other [] (q ∷ qs) same each some = absurd cc
  behind one other (s ∷ ss) (q ∷ qs) same each some =
      let first : q.request ≡ asks s = cc in
      let later : map (λ (m : Message). m.request) qs ≡ map asks ss = cc in
      elim (any_cons (λ (m : Message). m.request ≡ asks other) q qs some) as (λ c. span_cmp one other ≡ Less)
      [ inl here ↦ subst (λ s. span_cmp one s ≡ Less) (same_span_of s other (sym first ∙ here)) each.0 | inr there ↦ behind one other ss qs later each.1 there ]

  -- of the messages in the order of their spans, none before the first that met a write met one
  none_earlier : (spans : List Span) (ms : List Message) (m : Message) (span other : Span) → map (λ m. m.request) ms ≡ map asks spans → IsStrictlySortedBy span_cmp spans → find shows_unrefreshed ms ≡ Some m → m.request ≡ asks span → Any (IsMetOf other) ms
      → is_lt (span_cmp other span) ≡ true → ⊥
  unfolding IsStrictlySortedBy
  none_earlier spans [] m span other same sorted found said some less = cc
  none_earlier [] (y ∷ ms) m span other same sorted found said some less = cc
  none_earlier (one ∷ spans) (y ∷ ms) m span other same sorted found said some less =
      let first : y.request ≡ asks one = cc in
      let later : map (λ (m : Message). m.request) ms ≡ map asks spans = cc in
      by first later (λ f there. none_earlier spans ms m span other later sorted.1 f said there less) (any_cons (IsMetOf other) y ms some) (shows_unrefreshed y) refl found
    where
      by : y.request ≡ asks one → map (λ (m : Message). m.request) ms ≡ map asks spans → (find shows_unrefreshed ms ≡ Some m → Any (IsMetOf other) ms → ⊥) → IsMetOf other y ⊎ Any (IsMetOf other) ms → (b : Bool) → shows_unrefreshed y ≡ b
          → cond b (Some y) (find shows_unrefreshed ms) ≡ Some m → ⊥
      by first later rest (inl here) true e f =
          let is : y ≡ m = cc in
          let both : other ≡ span = same_span_of other span (sym here.0 ∙ ap (λ (m : Message). m.request) is ∙ said) in
          let tied : is_lt (span_cmp other span) ≡ false = ap (λ s. is_lt (span_cmp s span)) both ∙ ap is_lt (tied_itself span_total span) in
          cc
      by first later rest (inr there) true e f =
          let is : y ≡ m = cc in
          let at : one ≡ span = same_span_of one span (sym first ∙ ap (λ (m : Message). m.request) is ∙ said) in
          let after : span_cmp one other ≡ Less = behind one other spans ms later sorted.0 (any_weaker (IsMetOf other) (λ (m : Message). m.request ≡ asks other) (λ m both. both.0) ms there) in
          not_less (span_cmp one other) after (ap is_lt (sym (span_total.antisymm other one)) ∙ ap (λ s. is_lt (span_cmp other s)) at ∙ less)
      by first later rest (inl here) false e f = let g : true ≡ false = sym here.1 ∙ e in cc
      by first later rest (inr there) false e f = rest f there

module _ (session clock count : ℕ) (set : Setting) (k : Known) (x : OpenTxn) (p : Purpose) (ms : List Message) (counted : IsCounted session clock count k) (w : InCall set k x p ms)
    (n : ℕ) (puts : List Message) (e : p ≡ purposes.Refresh n puts) (due : step_of ms ≡ steps.Answered) where
  abbrev r : ServesRefresh set.course.loses n puts k w.s w.t x ms
  r = subst (λ q. Serves set k w.s w.t x w.stages q ms) e w.serves

  beaten : HasBeatenIn set.course.loses k w.t
  beaten quiet = subst (λ q. HasBeatenBy q k w.t) e (w.beaten quiet)

  answered : All (WasAnsweredWith set.course k) ms
  answered = subst (MayBeDue set.course k ms) due (may_be_due set.course k ms w.wave)

  st : TxnStands k w.stages None w.t x
  st = subst (λ o. TxnStands k w.stages o w.t x) (ap (λ q. out_of q ms) e) w.stands

  late : All (IsLate k.heard) w.stages
  late = subst (λ q. KeepsStages q k w.stages) e w.kept

  paced : IsPaced [] k.heard_now
  paced = record { pushes = λ id. let a = w.paced.pushes id in omega arith; behind = w.paced.behind }

  heard_all : (h : Heard) → Contains k.heard_now h → Contains k.heard h
  heard_all h there = subst (λ hs. Contains hs h) (sym w.split.heard) (Contains-append_right w.split.heard_first k.heard_now h there)

  -- all that was sent in the call is past what it met, but for the puts of its writes in flight
  done : ArePastOrInFlight k w.t.id w.t.epoch x.in_flight
  done =
      All-weaker (λ m. IsTrue (goes_beside m.request) ⊎ IsPastOrNoQuery k m.request ⊎ WaitsMeanwhile p w.t.id w.t.epoch x.in_flight m.request) (IsPastOrInFlight k w.t.id w.t.epoch x.in_flight) by k.sent_now
      (all_over k set.course (WaitsMeanwhile p w.t.id w.t.epoch x.in_flight) ms w.wave w.done (All-weaker (WasAnsweredWith set.course k) IsSentOnceMore (λ m a. ap (sends_counted m.conflicts) a.progress) ms answered)
      (all_unmapped (λ r. is_query r ≡ false) (λ (m : Message). m.request) ms (subst (λ rs. All (λ r. is_query r ≡ false) rs) (sym r.asked) (All-map (λ r. is_query r ≡ false) (refresh_to x.id x.reads.ts x.write_ts) x.reads.spans (every_span x.reads.spans)))))
    where
      every_span : (spans : List Span) → All (λ span. is_query (refresh_to x.id x.reads.ts x.write_ts span) ≡ false) spans
      every_span [] = All-nil (λ (span : Span). is_query (refresh_to x.id x.reads.ts x.write_ts span) ≡ false)
      every_span (span ∷ spans) = All-cons (λ (span : Span). is_query (refresh_to x.id x.reads.ts x.write_ts span) ≡ false) span spans refl (every_span spans)

      by : (m : Sent) → IsTrue (goes_beside m.request) ⊎ IsPastOrNoQuery k m.request ⊎ WaitsMeanwhile p w.t.id w.t.epoch x.in_flight m.request → IsPastOrInFlight k w.t.id w.t.epoch x.in_flight m
      by m (inl beside) = inl beside
      by m (inr (inl was)) = inr (inl was)
      by m (inr (inr left)) = inr (inr (subst (λ q. WaitsMeanwhile q w.t.id w.t.epoch x.in_flight m.request) e left))

  -- where none met a write, each span held
  all_held : (spans : List Span) (xs : List Message) → map (λ m. m.request) xs ≡ map (refresh_to x.id x.reads.ts x.write_ts) spans → All (WasAnsweredWith set.course k) xs → All (λ m. shows_unrefreshed m ≡ false) xs
      → All (λ span. WasRefreshed w.t.id k.heard span x.reads.ts x.write_ts) spans
  all_held [] xs same a none = All-nil (λ span. WasRefreshed w.t.id k.heard span x.reads.ts x.write_ts)
  all_held (span ∷ spans) [] same a none = absurd cc
  all_held (span ∷ spans) (m ∷ xs) same a none =
      let here : m.request ≡ refresh_to x.id x.reads.ts x.write_ts span = cc in
      let there : map (λ (m : Message). m.request) xs ≡ map (refresh_to x.id x.reads.ts x.write_ts) spans = cc in
      let at = All-head (WasAnsweredWith set.course k) m xs a in
      let plain : unrefreshed_by at.reply ≡ None = ap unrefreshed_in (sym at.progress) ∙ unshown (unrefreshed_in m.progress) (All-head (λ m. shows_unrefreshed m ≡ false) m xs none) in
      let held : at.reply ≡ replies.Refreshed = held_reply at.reply (subst (λ q. MayAnswer q at.reply) here at.back.kind) plain in
      let h = at.back.heard in
      All-cons (λ span. WasRefreshed w.t.id k.heard span x.reads.ts x.write_ts) span spans
      (record {
        reply = h.1;
        listed = heard_all h.1 (h.0, h.2, h.3);
        asked = h.4.asked ∙ here ∙ ap (λ id. refresh_to id x.reads.ts x.write_ts span) (ap (λ x. x.id) st.same);
        told = h.4.told ∙ held;
      })
      (all_held spans xs there (All-tail (WasAnsweredWith set.course k) m xs a) (All-tail (λ m. shows_unrefreshed m ≡ false) m xs none))

  -- so the reads are good where the transaction writes, and it decides there
  pub refreshed_decides : find shows_unrefreshed ms ≡ None → DecidesNow set.course.loses n k x w.s puts
  refreshed_decides found =
      let none : All (λ m. shows_unrefreshed m ≡ false) ms = found_none shows_unrefreshed ms found in
      let writes : x.write_ts ≡ w.t.write_ts = ap (λ x. x.write_ts) st.same in
      let up : x.reads.ts ≤ x.write_ts = omega (arith, r.behind) in
      let stand = refreshed_stand w.t.id k.heard w.t.reads x.reads.spans x.reads.ts x.write_ts up (all_held x.reads.spans ms r.asked answered none) st.reads in
      record {
        t = w.t;
        on = record {
          on = record {
            open_in = w.open_in;
            stages = w.stages;
            stands = st;
            late = late;
            client = w.cause;
            opened = w.opened;
            split = w.split;
            paced = paced;
            commits = r.commits;
            refused = r.refused;
            refreshes = r.refreshes;
            held = All-weaker (MetNoOtherWrite ms) MetNoWrite (held_now none) k.heard_now r.held;
            beaten = beaten;
            none_eighth = r.none_eighth;
            below = w.below (ap is_last_beat e);
            settled = r.settled;
            done = done;
          };
          passed = late_passed k w.stages w.t x.staging st.staging late;
          counted = r.counted;
        };
        good = subst (λ ts. All (IsGoodAt w.t.id k.heard ts) w.t.reads) writes stand.good;
      }
    where
      held_now : All (λ m. shows_unrefreshed m ≡ false) ms → (h : Heard) → MetNoOtherWrite ms h → MetNoWrite h
      held_now none h (inl held) = held
      held_now none h (inr some) =
          let f = any_of (λ (m : Message). shows_unrefreshed m ≡ false) (IsAnswerTo h) ms none some in
          sym f.2.met ∙ unshown (unrefreshed_in f.0.progress) f.1

  module _ (m : Message) (found : find shows_unrefreshed ms ≡ Some m) (key : List ℕ) (ts : ℕ) (met : unrefreshed_in m.progress ≡ Some (key, ts)) where
    at : WasAnsweredWith set.course k m
    at = found_all shows_unrefreshed (WasAnsweredWith set.course k) ms m found answered

    reply_is : at.reply ≡ replies.Unrefreshed key ts
    reply_is = unrefreshed_is at.reply key ts (ap unrefreshed_in (sym at.progress) ∙ met)

    span_in : (spans : List Span) (xs : List Message) → map (λ m. m.request) xs ≡ map (refresh_to x.id x.reads.ts x.write_ts) spans → find shows_unrefreshed xs ≡ Some m → (span : Span) × (m.request ≡ refresh_to x.id x.reads.ts x.write_ts span)
    span_in spans [] same f = absurd cc
    span_in [] (y ∷ xs) same f = absurd cc
    span_in (span ∷ spans) (y ∷ xs) same f =
        let first : y.request ≡ refresh_to x.id x.reads.ts x.write_ts span = cc in
        let there : map (λ (m : Message). m.request) xs ≡ map (refresh_to x.id x.reads.ts x.write_ts) spans = cc in
        by first (span_in spans xs there) (shows_unrefreshed y) f
      where
        by : y.request ≡ refresh_to x.id x.reads.ts x.write_ts span → (find shows_unrefreshed xs ≡ Some m → (span : Span) × (m.request ≡ refresh_to x.id x.reads.ts x.write_ts span)) → (b : Bool) → cond b (Some y) (find shows_unrefreshed xs) ≡ Some m
            → (span : Span) × (m.request ≡ refresh_to x.id x.reads.ts x.write_ts span)
        by first later true f = let is : y ≡ m = cc in (span, ap (λ (m : Message). m.request) (sym is) ∙ first)
        by first later false f = later f

    -- The message's span.
    asks_for : (span : Span) × (m.request ≡ refresh_to x.id x.reads.ts x.write_ts span)
    asks_for = span_in x.reads.spans ms r.asked found

    abbrev span : Span
    span = asks_for.0

    met_now : Any (MetWrite span key ts) k.heard_now
    met_now =
        any_weaker (IsReplyAt at.number m.request at.reply) (MetWrite span key ts)
        (λ h is. record { id = x.id; from = x.reads.ts; to = x.write_ts; asked = is.asked ∙ asks_for.1; told = is.told ∙ reply_is }) k.heard_now at.back.heard

    -- what is of a refresh that met a write is of one of the messages'
    refreshes_of : (id : TxnId) (from to : ℕ) (other : Span) (spans : List Span) (xs : List Message) → map (λ m. m.request) xs ≡ map (refresh_to x.id x.reads.ts x.write_ts) spans
        → Any (λ y. (y.request ≡ requests.Refresh id from to other) × (shows_unrefreshed y ≡ true)) xs → Any (IsMetOf x.id x.reads.ts x.write_ts other) xs
    refreshes_of id from to other spans [] same some = absurd (omega (arith, some.2))
    refreshes_of id from to other [] (y ∷ xs) same some = absurd cc
    refreshes_of id from to other (s ∷ spans) (y ∷ xs) same some =
        let first : y.request ≡ refresh_to x.id x.reads.ts x.write_ts s = cc in
        let there : map (λ (m : Message). m.request) xs ≡ map (refresh_to x.id x.reads.ts x.write_ts) spans = cc in
        elim (any_cons (λ (y : Message). (y.request ≡ requests.Refresh id from to other) × (shows_unrefreshed y ≡ true)) y xs some) as (λ c. Any (IsMetOf x.id x.reads.ts x.write_ts other) (y ∷ xs)) [
          | inl here ↦ any_head (IsMetOf x.id x.reads.ts x.write_ts other) y xs (first ∙ ap (refresh_to x.id x.reads.ts x.write_ts) (span_of s other (sym first ∙ here.0)), here.1)
          | inr later ↦ any_later (IsMetOf x.id x.reads.ts x.write_ts other) y xs (refreshes_of id from to other spans xs there later)
        ]

    earlier_met : (h : Heard) (id : TxnId) (from to : ℕ) (other : Span) (at_key : List ℕ) (on : ℕ) → h.request ≡ requests.Refresh id from to other → h.reply ≡ replies.Unrefreshed at_key on → MetNoOtherWrite ms h → IsTrue (is_lt (span_cmp other span)) → ⊥
    earlier_met h id from to other at_key on asked told (inl none) less = let f : Some (at_key, on) ≡ None = sym (ap unrefreshed_by told) ∙ none in cc
    earlier_met h id from to other at_key on asked told (inr some) less =
        none_earlier x.id x.reads.ts x.write_ts x.reads.spans ms m span other r.asked st.reads.ordered found asks_for.1
        (refreshes_of id from to other x.reads.spans ms r.asked
        (any_weaker (IsAnswerTo h) (λ (y : Message). (y.request ≡ requests.Refresh id from to other) × (shows_unrefreshed y ≡ true)) (λ y a. (a.asked ∙ asked, ap is_some (a.met ∙ ap unrefreshed_by told))) ms some)) less

    -- no reply of the call is of a write that an earlier span's refresh met
    first_met : (h : Heard) → MetNoOtherWrite ms h → IsNoneBefore span h.request h.reply
    first_met h held = by h.request h.reply refl refl
      where
        by : (q : Request) (reply : Reply) → h.request ≡ q → h.reply ≡ reply → IsNoneBefore span q reply
        by (requests.Refresh id from to other) (replies.Unrefreshed at_key on) asked told = λ less. earlier_met h id from to other at_key on asked told held less
        by (requests.Refresh id from to other) reply asked told = tt
        by q reply asked told = tt

    low : ts ≤ k.top
    low =
        let h = at.back.heard in
        let below : IsMetUpTo k.top h.1 = All-contains (IsMetUpTo k.top) k.heard_now h.1 r.low (h.0, h.2, h.3) in
        subst (λ y. IfSome (unrefreshed_by y) (λ w. w.1 ≤ k.top)) (h.4.told ∙ reply_is) below

    -- the commit gives up for the first write that its refreshes met
    pub restart_gives_up : GivesUpBy set.course.loses k x (answers.Restart key ts)
    restart_gives_up = record {
      t = w.t;
      stages = w.stages;
      open_in = w.open_in;
      cause = w.cause;
      s = w.s;
      opened = w.opened;
      split = w.split;
      paced = paced;
      met = r.commits.met;
      beaten = beaten_so set.course.loses k w.t beaten;
      first = λ quiet left. (beaten quiet).first;
      gives_up = record {
        call = r.commits.call;
        anchor = r.commits.anchor;
        anchored = r.commits.anchored;
        stands = st;
        late = late;
        why = record {
          first = record { span = span; met = met_now; first = All-weaker (MetNoOtherWrite ms) (λ h. IsNoneBefore span h.request h.reply) first_met k.heard_now r.held };
          low = low;
          fewer = unmoved k n r.commits.moves (omega (arith, r.commits.few));
        };
      };
    }

-- the first refresh that met a write
pub first_found : (ms : List Message) (w : List ℕ × ℕ) → first_unrefreshed ms ≡ Some w → (m : Message) × (find shows_unrefreshed ms ≡ Some m) × (unrefreshed_in m.progress ≡ Some w)
first_found ms w e = by (find shows_unrefreshed ms) refl e
  where
    by : (o : Option Message) → find shows_unrefreshed ms ≡ o → option_and_then (λ (m : Message). unrefreshed_in m.progress) o ≡ Some w → (m : Message) × (find shows_unrefreshed ms ≡ Some m) × (unrefreshed_in m.progress ≡ Some w)
    by None is e = absurd cc
    by (Some m) is e = (m, is, e)

-- or there is none
pub first_none : (ms : List Message) → first_unrefreshed ms ≡ None → find shows_unrefreshed ms ≡ None
first_none ms e = by (find shows_unrefreshed ms) refl e
  where
    by : (o : Option Message) → find shows_unrefreshed ms ≡ o → option_and_then (λ (m : Message). unrefreshed_in m.progress) o ≡ None → find shows_unrefreshed ms ≡ None
    by None is e = is
    by (Some m) is e = let shown : is_some (unrefreshed_in m.progress) ≡ true = found_passes shows_unrefreshed ms m is in let f : is_some (unrefreshed_in m.progress) ≡ false = ap is_some e in absurd cc

-- a refresh has one count of refusals, and one list of puts
pub same_puts : (loses : Bool) (k : Known) (x : OpenTxn) (s : Statement) (p : Purpose) (n m : ℕ) (puts other : List Message) → p ≡ purposes.Refresh n puts → p ≡ purposes.Refresh m other → DecidesNow loses n k x s puts → DecidesNow loses m k x s other
same_puts loses k x s p n m puts other one two d =
    let e : purposes.Refresh n puts ≡ purposes.Refresh m other = sym one ∙ two in
    let count : n ≡ m = cc in
    let list : puts ≡ other = cc in
    subst (λ ps. DecidesNow loses m k x s ps) list (subst (λ i. DecidesNow loses i k x s puts) count d)
