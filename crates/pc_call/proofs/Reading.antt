-- All messages of a call that reads were answered: the call may be told so, and its transaction stands with what it read.
use Rattle.std.proofs.Common.{◌≡◌, ℕ, ◌<◌, true, false, cond, ◌==◌, inl, inr, List, [], ◌∷◌, ◌++◌, map, Option, None, Some, Result, Ok, Err, IfOk, zero, suc, refl, sym, ap, ◌∙◌, subst, arith, All, Any, IsTrue, Contains, Bool}
use Rattle.std.specs.List.{flat_map}
use Rattle.std.proofs.lemmas.Bool.{eq-eqb}
use Rattle.std.proofs.lemmas.List.Elements.{All-append, All-cons, All-head, All-map, All-nil, All-tail, All-weaker, Contains-append_left, Contains-append_right}
use Rattle.std.proofs.lemmas.Option.{same_Some}
use Rattle.pc_call.specs.Beaten.{HasBeatenIn}
use Rattle.pc_call.specs.Setting.{Setting}
use Rattle.pc_base.specs.declared.actor.ActorId.TheVariants as actors
use Rattle.pc_base.specs.declared.limits.TheConstants.{MOST_CONFLICTS}
use Rattle.pc_base.specs.declared.span.Span.{Span}
use Rattle.pc_base.specs.declared.span.Span.TheVariants.{One}
use Rattle.pc_call.proofs.Beating.{beaten_tells}
use Rattle.pc_call.proofs.Beginning.{any_true}
use Rattle.pc_call.proofs.Eighths.{any_eighth, no_eighth, none_eighth}
use Rattle.pc_call.proofs.Lists.{all_unmapped}
use Rattle.pc_call.proofs.Told.{may_tell, rows_keep, stays_open, value_keeps}
use Rattle.pc_call.proofs.Unsent.{plain_sent}
use Rattle.pc_call.specs.declared.later.LaterPut.{LaterPut}
use Rattle.pc_call.specs.declared.purpose.Purpose.{Purpose}
use Rattle.pc_call.specs.declared.purpose.Purpose.TheVariants as purposes
use Rattle.pc_call.specs.Reading.{answer_by, answer_read, rows_answered, rows_found, span_read, spans_read, value_answered, with_spans}
use Rattle.pc_call.specs.Serving.{HasBeatenBy, AreReadsOf, InCall, IsReadFor, KeepsStages, Serves, ServesRead, WaitsMeanwhile, out_of}
use Rattle.pc_call.specs.Stages.{KeepsOutbox}
use Rattle.pc_call.specs.Suiting.{SuitsFlight, SuitsFlightIn, SuitsFlightNext, SuitsFlightNextIn}
use Rattle.pc_call.specs.Telling.{MayTellOpen}
use Rattle.pc_flight.specs.declared.write.WriteInFlight.{WriteInFlight}
use Rattle.pc_lists.proofs.Anywhere.{any_behind, any_head, any_kept, any_of, any_weaker}
use Rattle.pc_proto.specs.declared.answer.Answer.{Answer}
use Rattle.pc_proto.specs.declared.answer.Answer.TheVariants as answers
use Rattle.pc_proto.specs.declared.call.Call.{Call}
use Rattle.pc_proto.specs.declared.call.Call.TheVariants as calls
use Rattle.pc_proto.specs.declared.reply.Origin.{Origin}
use Rattle.pc_proto.specs.declared.reply.Reply.{Reply}
use Rattle.pc_proto.specs.declared.reply.Reply.TheVariants as replies
use Rattle.pc_proto.specs.declared.request.Request.{Request}
use Rattle.pc_proto.specs.declared.request.Request.TheVariants as requests
use Rattle.pc_proto.specs.Replies.{is_conflict}
use Rattle.pc_proto.specs.Requests.{is_put}
use Rattle.pc_reads.proofs.Several.{more_all, more_has, more_keeps, more_sorted}
use Rattle.pc_reads.specs.ReadsStanding.{TxnReadsStand}
use Rattle.pc_txn.specs.Counted.{IsCounted}
use Rattle.pc_txn.specs.declared.txn.OpenTxn.{OpenTxn}
use Rattle.pc_txn.specs.Opened.{own_get, own_scan}
use Rattle.pc_txn.specs.Standing.{TxnStands}
use Rattle.pc_wave.proofs.Dues.{may_be_due}
use Rattle.pc_wave.specs.declared.message.Message.{Message}
use Rattle.pc_wave.specs.declared.message.Progress.TheVariants as progresses
use Rattle.pc_wave.specs.declared.step.Step.TheVariants as steps
use Rattle.pc_wave.specs.Due.{MayBeDue, WasAnsweredWith}
use Rattle.pc_wave.specs.Messages.{step_of}
use Rattle.pc_wave.specs.Standing.{IsAsFar, IsMessageAt, IsReplyAt, IsSentUnder, MessageStands, goes_beside}
use Rattle.pc_wave.specs.Course.{Course}
use Rattle.pc_world.specs.Answering.{MayAnswer}
use Rattle.pc_follows.specs.Eighth.{MetEighth}
use Rattle.pc_world.specs.Known.{Known}
use Rattle.pc_world.specs.Known.Reads.{AtOnce, IsGoodAt, Read, read_heard, reads_heard}
use Rattle.pc_world.specs.Known.Statements.{Statement}
use Rattle.pc_world.specs.Known.Traffic.{Heard, Sent, is_reply_to_one, replies_to}
use Rattle.pc_world.specs.MayTell.{MayTellRow, is_past_range}
use Rattle.pc_world.specs.RangeOf.{pieces}
use Rattle.pc_world.specs.Tell.Data.{AreRowsOf, AreRowsOfAll, IsValueOf, was_sent_now}

-- If the request reads, it reads at this timestamp.
abbrev ReadsAt : ℕ → Request → Type 0
ReadsAt ts (requests.Get id epoch seq at key) = at ≡ ts
ReadsAt ts (requests.Scan id epoch seq at span) = at ≡ ts
ReadsAt ts _ = Unit {0}

-- The read is in one of these spans, at this timestamp.
record IsReadIn (spans : List Span) (ts : ℕ) (r : Read) : Type 0 where
  there : Contains spans r.span
  at : r.ts ≡ ts

first_there : {X : Type 0} (x : X) (xs : List X) → Contains (x ∷ xs) x
first_there x xs = (0, omega arith, refl)

-- a reply to a read is in its span
read_in : (ts : ℕ) (q : Request) (reply : Reply) → ReadsAt ts q → All (IsReadIn (span_read q) ts) (read_heard q reply)
read_in ts (requests.Get id epoch seq at key) (replies.Value origin value) is =
    All-cons (IsReadIn (One key ∷ []) ts) (record { span = One key; ts = at }) [] (record { there = first_there (One key) []; at = is }) (All-nil (IsReadIn (One key ∷ []) ts))
read_in ts (requests.Scan id epoch seq at span) (replies.Rows rows) is =
    All-cons (IsReadIn (span ∷ []) ts) (record { span = span; ts = at }) [] (record { there = first_there span []; at = is }) (All-nil (IsReadIn (span ∷ []) ts))
read_in ts q reply is = All-nil (IsReadIn (span_read q) ts)

-- What was replied to the request tells a read of its span.
abbrev TellsRead : Request → Reply → Type 0
TellsRead q reply = All (λ span. Any (λ r. r.span ≡ span) (read_heard q reply)) (span_read q)

plain_tells : (q : Request) (reply : Reply) → MayAnswer q reply → is_conflict reply ≡ false → TellsRead q reply
plain_tells (requests.Get id epoch seq at key) (replies.Value origin value) may plain =
    All-cons (λ span. Any (λ (r : Read). r.span ≡ span) (record { span = One key; ts = at } ∷ [])) (One key) [] (any_head (λ (r : Read). r.span ≡ One key) (record { span = One key; ts = at }) [] refl)
    (All-nil (λ span. Any (λ (r : Read). r.span ≡ span) (record { span = One key; ts = at } ∷ [])))
plain_tells (requests.Get id epoch seq at key) (replies.Conflict holder ts place) may plain = absurd cc
plain_tells (requests.Get id epoch seq at key) reply may plain = absurd may
plain_tells (requests.Scan id epoch seq at span) (replies.Rows rows) may plain =
    All-cons (λ s. Any (λ (r : Read). r.span ≡ s) (record { span = span; ts = at } ∷ [])) span [] (any_head (λ (r : Read). r.span ≡ span) (record { span = span; ts = at }) [] refl)
    (All-nil (λ s. Any (λ (r : Read). r.span ≡ s) (record { span = span; ts = at } ∷ [])))
plain_tells (requests.Scan id epoch seq at span) (replies.Conflict holder ts place) may plain = absurd cc
plain_tells (requests.Scan id epoch seq at span) reply may plain = absurd may
plain_tells q reply may plain = All-nil (λ span. Any (λ (r : Read). r.span ≡ span) (read_heard q reply))

-- where each message was answered, none met its eighth
pub all_few : (c : Course) (k : Known) (ms : List Message) → All (MessageStands c k) ms → All (WasAnsweredWith c k) ms → All (λ m. m.conflicts < MOST_CONFLICTS) ms
all_few c k [] stand answered = All-nil (λ (m : Message). m.conflicts < MOST_CONFLICTS)
all_few c k (m ∷ ms) stand answered =
    let a = All-head (WasAnsweredWith c k) m ms answered in
    let far = subst (λ p. IsAsFar c k m.request m.conflicts p) a.progress (All-head (MessageStands c k) m ms stand).as_far in
    All-cons (λ (m : Message). m.conflicts < MOST_CONFLICTS) m ms far.1 (all_few c k ms (All-tail (MessageStands c k) m ms stand) (All-tail (WasAnsweredWith c k) m ms answered))

-- The message was sent in the call, where it went out for it.
abbrev SentHere : Course → Known → Message → Type 0
SentHere c k m = (number : ℕ) → IsSentUnder c k number m.request → Any (IsMessageAt number m.request) k.sent_now

module _ (c : Course) (k : Known) where
  -- what was heard to a message of the call was heard to one that was sent in it
  pub sent_in : (number : ℕ) (request : Request) (h : Heard) → Any (IsMessageAt number request) k.sent_now → h.number ≡ number → was_sent_now k h ≡ true
  sent_in number request h out numbered =
      any_true (λ m. m.number == h.number) k.sent_now
      (any_weaker (IsMessageAt number request) (λ m. IsTrue (m.number == h.number)) (λ m at. eq-eqb m.number h.number (at.numbered ∙ sym numbered)) k.sent_now out)

  -- a read that was told by a reply to the call's own message is among the call's reads
  told_among : (P : Read → Type 0) (sent : List Sent) (heard : List Heard) → Any (λ h. (is_reply_to_one sent h ≡ true) × Any P (read_heard h.request h.reply)) heard → Any P (reads_heard (replies_to sent heard))
  told_among P sent [] some = absurd (omega (arith, some.2))
  told_among P sent (h ∷ heard) (zero, x, low, is, (now, told)) =
      let now_h : is_reply_to_one sent h ≡ true = ap (is_reply_to_one sent) is ∙ now in
      let told_h : Any P (read_heard h.request h.reply) = subst (λ (x : Heard). Any P (read_heard x.request x.reply)) (sym is) told in
      subst (λ b. Any P (reads_heard (cond b (h ∷ replies_to sent heard) (replies_to sent heard)))) (sym now_h)
      (any_kept P (read_heard h.request h.reply) (reads_heard (replies_to sent heard)) told_h)
  told_among P sent (h ∷ heard) (suc n, x, low, is, both) =
      let later : Any P (reads_heard (replies_to sent heard)) = told_among P sent heard (n, x, omega arith, is, both) in
      elim (is_reply_to_one sent h) as (λ b. Any P (reads_heard (cond b (h ∷ replies_to sent heard) (replies_to sent heard))))
      [ true ↦ any_behind P (read_heard h.request h.reply) (reads_heard (replies_to sent heard)) later | false ↦ later ]

  -- what holds of each read that is heard holds of the call's own
  own_reads : (P : Read → Type 0) (sent : List Sent) (heard : List Heard) → All (λ h. All P (read_heard h.request h.reply)) heard → All P (reads_heard (replies_to sent heard))
  own_reads P sent [] a = All-nil P
  own_reads P sent (h ∷ heard) a =
      let later = own_reads P sent heard (All-tail (λ h. All P (read_heard h.request h.reply)) h heard a) in
      let here = All-head (λ h. All P (read_heard h.request h.reply)) h heard a in
      elim (is_reply_to_one sent h) as (λ b. All P (reads_heard (cond b (h ∷ replies_to sent heard) (replies_to sent heard))))
      [ true ↦ All-append P (read_heard h.request h.reply) (reads_heard (replies_to sent heard)) here later | false ↦ later ]

  -- each span of a message that was answered was told
  told_spans : (ms : List Message) → All (WasAnsweredWith c k) ms → All (SentHere c k) ms → All (λ span. Any (λ r. r.span ≡ span) (reads_heard (replies_to k.sent_now k.heard_now))) (spans_read ms)
  told_spans [] a here = All-nil (λ span. Any (λ r. r.span ≡ span) (reads_heard (replies_to k.sent_now k.heard_now)))
  told_spans (m ∷ ms) a here =
      let P : Span → Type 0 = λ span. Any (λ r. r.span ≡ span) (reads_heard (replies_to k.sent_now k.heard_now)) in
      let w = All-head (WasAnsweredWith c k) m ms a in
      let b = w.back in
      let tells : TellsRead m.request w.reply = plain_tells m.request w.reply b.kind b.plain in
      All-append P (span_read m.request) (spans_read ms)
      (All-weaker (λ span. Any (λ r. r.span ≡ span) (read_heard m.request w.reply)) P
      (λ span some. told_among (λ r. r.span ≡ span) k.sent_now k.heard_now
      (any_weaker (IsReplyAt w.number m.request w.reply) (λ h. (is_reply_to_one k.sent_now h ≡ true) × Any (λ r. r.span ≡ span) (read_heard h.request h.reply))
      (λ h at. (sent_in w.number m.request h (All-head (SentHere c k) m ms here w.number b.out) at.numbered, subst (λ y. Any (λ r. r.span ≡ span) (read_heard h.request y)) (sym at.told) (subst (λ q. Any (λ r. r.span ≡ span) (read_heard q w.reply)) (sym at.asked) some)))
      k.heard_now b.heard))
      (span_read m.request) tells)
      (told_spans ms (All-tail (WasAnsweredWith c k) m ms a) (All-tail (SentHere c k) m ms here))

every : {X : Type 0} (P : X → Type 0) → ((x : X) → P x) → (xs : List X) → All P xs
every P all [] = All-nil P
every P all (x ∷ xs) = All-cons P x xs (all x) (every P all xs)

-- what reads is no put, and goes with a wave
pub reads_plain : (splits : List (List ℕ)) (x : OpenTxn) (call : Call) (rs : List Request) → AreReadsOf splits x call rs → All (λ q. (is_put q ≡ false) × (goes_beside q ≡ false)) rs
reads_plain splits x (calls.Get key) rs e =
    let P : Request → Type 0 = λ q. (is_put q ≡ false) × (goes_beside q ≡ false) in
    subst (λ rs. All P rs) (sym e) (All-cons P (own_get x key) [] (refl, refl) (All-nil P))
reads_plain splits x (calls.Scan span) rs e =
    let P : Request → Type 0 = λ q. (is_put q ≡ false) × (goes_beside q ≡ false) in
    subst (λ rs. All P rs) (sym e) (All-map P (λ p. own_scan x p.1) (pieces splits span) (every (λ p. P (own_scan x p.1)) (λ p. (refl, refl)) (pieces splits span)))
reads_plain splits x call rs e = absurd e

-- a call that reads suits no write in flight without pipelining
reads_free : (splits : List (List ℕ)) (x : OpenTxn) (call : Call) (rs : List Request) (fs : List WriteInFlight) → AreReadsOf splits x call rs → SuitsFlight call fs → fs ≡ []
reads_free splits x call rs [] e suits = refl
reads_free splits x (calls.Get key) rs (f ∷ fs) e suits = absurd suits
reads_free splits x (calls.Scan span) rs (f ∷ fs) e suits = absurd suits
reads_free splits x call rs (f ∷ fs) e suits = absurd e

-- each message reads where the transaction does
reads_at : (splits : List (List ℕ)) (x : OpenTxn) (call : Call) (rs : List Request) → AreReadsOf splits x call rs → All (ReadsAt x.reads.ts) rs
reads_at splits x (calls.Get key) rs e = subst (λ rs. All (ReadsAt x.reads.ts) rs) (sym e) (All-cons (ReadsAt x.reads.ts) (own_get x key) [] refl (All-nil (ReadsAt x.reads.ts)))
reads_at splits x (calls.Scan span) rs e =
    subst (λ rs. All (ReadsAt x.reads.ts) rs) (sym e)
    (All-map (ReadsAt x.reads.ts) (λ p. own_scan x p.1) (pieces splits span) (every (λ p. ReadsAt x.reads.ts (own_scan x p.1)) (λ p. refl) (pieces splits span)))
reads_at splits x call rs e = absurd e

-- each read of one of the messages is in their spans
all_in : (ts : ℕ) (spans : List Span) (ms : List Message) → ((span : Span) → Contains (spans_read ms) span → Contains spans span) → All (ReadsAt ts) (map (λ m. m.request) ms)
    → All (λ q. (reply : Reply) → All (IsReadIn spans ts) (read_heard q reply)) (map (λ m. m.request) ms)
all_in ts spans [] on at = All-nil (λ q. (reply : Reply) → All (IsReadIn spans ts) (read_heard q reply))
all_in ts spans (m ∷ ms) on at =
    let Q : Request → Type 0 = λ q. (reply : Reply) → All (IsReadIn spans ts) (read_heard q reply) in
    All-cons Q m.request (map (λ (m : Message). m.request) ms)
    (λ reply. All-weaker (IsReadIn (span_read m.request) ts) (IsReadIn spans ts)
    (λ r i. record { there = on r.span (Contains-append_left (span_read m.request) (spans_read ms) r.span i.there); at = i.at }) (read_heard m.request reply)
    (read_in ts m.request reply (All-head (ReadsAt ts) m.request (map (λ (m : Message). m.request) ms) at)))
    (all_in ts spans ms (λ span there. on span (Contains-append_right (span_read m.request) (spans_read ms) span there)) (All-tail (ReadsAt ts) m.request (map (λ (m : Message). m.request) ms) at))

module _ (session clock count : ℕ) (set : Setting) (k : Known) (x : OpenTxn) (p : Purpose) (ms : List Message) (counted : IsCounted session clock count k) (w : InCall set k x p ms)
    (e : p ≡ purposes.Read) (due : step_of ms ≡ steps.Answered) (later : List LaterPut) (outbox : KeepsOutbox set.course.loses k x later ms) where
  abbrev r : ServesRead set.splits k w.s x ms
  r = subst (λ q. Serves set k w.s w.t x w.stages q ms) e w.serves

  answered : All (WasAnsweredWith set.course k) ms
  answered = subst (MayBeDue set.course k ms) due (may_be_due set.course k ms w.wave)

  st : TxnStands k [] None w.t x
  st = subst (λ ss. TxnStands k ss None w.t x) (subst (λ q. KeepsStages q k w.stages) e w.kept) (subst (λ o. TxnStands k w.stages o w.t x) (ap (λ q. out_of q ms) e) w.stands)

  -- each of its messages was sent in the call
  all_here : All (SentHere set.course k) ms
  all_here = All-weaker (λ (m : Message). (is_put m.request ≡ false) × (goes_beside m.request ≡ false)) (SentHere set.course k) (λ m plain number out. subst (λ ms. Any (IsMessageAt number m.request) ms) (plain_sent set.course.pipelines k m.request plain.0) out.now) ms (all_unmapped (λ q. (is_put q ≡ false) × (goes_beside q ≡ false)) (λ (m : Message). m.request) ms (reads_plain set.splits x w.s.call (map (λ m. m.request) ms) r.asked))

  -- without pipelining nothing is in flight
  free : SuitsFlightIn set.course.pipelines w.s.call x.in_flight → (answer : Answer) → ((fs : List WriteInFlight) → SuitsFlightNext answer w.s.call fs ≡ (fs ≡ [])) → (s : Statement) → k.statement ≡ Some s → SuitsFlightNextIn set.course.pipelines answer s.call x.in_flight
  free suits answer none s is = subst (λ s. SuitsFlightNextIn set.course.pipelines answer s.call x.in_flight) (same_Some w.s s (sym w.opened ∙ is)) (by set.course.pipelines suits)
    where
      by : (b : Bool) → SuitsFlightIn b w.s.call x.in_flight → SuitsFlightNextIn b answer w.s.call x.in_flight
      by true suits = tt
      by false suits = subst (λ T. T) (sym (none x.in_flight)) (reads_free set.splits x w.s.call (map (λ m. m.request) ms) x.in_flight r.asked suits)

  abbrev own : List Read
  own = reads_heard (replies_to k.sent_now k.heard_now)

  abbrev spans2 : List Span
  spans2 = with_spans x.reads.spans (spans_read ms)

  -- What replies to the request read is in these spans.
  abbrev InSpans : Request → Type 0
  InSpans q = (reply : Reply) → All (IsReadIn spans2 x.reads.ts) (read_heard q reply)

  all_spans : All InSpans (map (λ m. m.request) ms)
  all_spans = all_in x.reads.ts spans2 ms (λ span there. more_has x.reads.spans (spans_read ms) span there) (reads_at set.splits x w.s.call (map (λ m. m.request) ms) r.asked)

  one_in : (h : Heard) → IsReadFor (map (λ m. m.request) ms) h → All (IsReadIn spans2 x.reads.ts) (read_heard h.request h.reply)
  one_in h (inl none) = subst (λ rs. All (IsReadIn spans2 x.reads.ts) rs) (sym none) (All-nil (IsReadIn spans2 x.reads.ts))
  one_in h (inr some) = let f = any_of InSpans (λ q. q ≡ h.request) (map (λ (m : Message). m.request) ms) all_spans some in subst InSpans f.2 f.1 h.reply

  -- every read that was heard in the call is in its spans
  heard_in : All (λ h. All (IsReadIn spans2 x.reads.ts) (read_heard h.request h.reply)) k.heard_now
  heard_in = All-weaker (IsReadFor (map (λ m. m.request) ms)) (λ h. All (IsReadIn spans2 x.reads.ts) (read_heard h.request h.reply)) one_in k.heard_now r.heard

  own_in : All (IsReadIn spans2 x.reads.ts) own
  own_in = own_reads set.course k (IsReadIn spans2 x.reads.ts) k.sent_now k.heard_now heard_in

  good_now : (r : Read) → r.ts ≡ x.reads.ts → IsGoodAt w.t.id k.heard x.reads.ts r
  good_now r at = record { not_below = omega (arith, at); up_to = (r.ts, AtOnce, omega (arith, at)) }

  -- what was read stands with what the call read
  pub read_stands : TxnReadsStand w.t.id k.heard (w.t.reads ++ own) (record { spans = spans2; ts = x.reads.ts })
  read_stands =
      let P : Span → Type 0 = λ span. Any (λ r. r.span ≡ span) (w.t.reads ++ own) in
      record {
        kept =
            All-append (λ r. Contains spans2 r.span) w.t.reads own
            (All-weaker (λ r. Contains x.reads.spans r.span) (λ r. Contains spans2 r.span) (λ r there. more_keeps x.reads.spans (spans_read ms) r.span there) w.t.reads st.reads.kept)
            (All-weaker (IsReadIn spans2 x.reads.ts) (λ r. Contains spans2 r.span) (λ r i. i.there) own own_in);
        of_reads =
            more_all P x.reads.spans (spans_read ms)
            (All-weaker (λ span. Any (λ r. r.span ≡ span) w.t.reads) P (λ span some. any_kept (λ r. r.span ≡ span) w.t.reads own some) x.reads.spans st.reads.of_reads)
            (All-weaker (λ span. Any (λ r. r.span ≡ span) own) P (λ span some. any_behind (λ r. r.span ≡ span) w.t.reads own some) (spans_read ms) (told_spans set.course k ms answered all_here));
        good =
            All-append (IsGoodAt w.t.id k.heard x.reads.ts) w.t.reads own st.reads.good
            (All-weaker (IsReadIn spans2 x.reads.ts) (IsGoodAt w.t.id k.heard x.reads.ts) (λ r i. good_now r i.at) own own_in);
        ordered = more_sorted x.reads.spans (spans_read ms) st.reads.ordered;
      }

  abbrev x2 : OpenTxn
  x2 = record x { reads = record { spans = spans2; ts = x.reads.ts } }

  value_heard : (key : List ℕ) (m : Message) → m.request ≡ own_get x key → WasAnsweredWith set.course k m → SentHere set.course k m → Any (λ h. IsTrue (was_sent_now k h) × IsValueOf (value_answered m.progress) h.request h.reply) k.heard_now
  value_heard key m asked a here =
      any_weaker (IsReplyAt a.number m.request a.reply) (λ h. IsTrue (was_sent_now k h) × IsValueOf (value_answered m.progress) h.request h.reply)
      (λ h at. (
        sent_in set.course k a.number m.request h (here a.number a.back.out) at.numbered,
        subst (λ pr. IsValueOf (value_answered pr) h.request h.reply) (sym a.progress)
            (subst (λ y. IsValueOf (value_answered (progresses.Answered a.number a.reply)) h.request y) (sym at.told)
            (subst (λ q. IsValueOf (value_answered (progresses.Answered a.number a.reply)) q a.reply) (sym (at.asked ∙ asked))
            (is_value a.reply (subst (λ q. MayAnswer q a.reply) asked a.back.kind) a.back.plain))),
      ))
      k.heard_now a.back.heard
    where
      is_value : (reply : Reply) → MayAnswer (own_get x key) reply → is_conflict reply ≡ false → IsValueOf (value_answered (progresses.Answered a.number reply)) (own_get x key) reply
      is_value (replies.Value origin value) may plain = refl
      is_value (replies.Conflict holder ts place) may plain = absurd cc
      is_value reply may plain = absurd may

  rows_heard : (span : Span) (m : Message) → m.request ≡ own_scan x span → WasAnsweredWith set.course k m → SentHere set.course k m → Any (λ h. IsTrue (was_sent_now k h) × AreRowsOf span (rows_answered m.progress) h.request h.reply) k.heard_now
  rows_heard span m asked a here =
      any_weaker (IsReplyAt a.number m.request a.reply) (λ h. IsTrue (was_sent_now k h) × AreRowsOf span (rows_answered m.progress) h.request h.reply)
      (λ h at. (
        sent_in set.course k a.number m.request h (here a.number a.back.out) at.numbered,
        subst (λ pr. AreRowsOf span (rows_answered pr) h.request h.reply) (sym a.progress)
            (subst (λ y. AreRowsOf span (rows_answered (progresses.Answered a.number a.reply)) h.request y) (sym at.told)
            (subst (λ q. AreRowsOf span (rows_answered (progresses.Answered a.number a.reply)) q a.reply) (sym (at.asked ∙ asked))
            (are_rows a.reply (subst (λ q. MayAnswer q a.reply) asked a.back.kind) a.back.plain))),
      ))
      k.heard_now a.back.heard
    where
      are_rows : (reply : Reply) → MayAnswer (own_scan x span) reply → is_conflict reply ≡ false → AreRowsOf span (rows_answered (progresses.Answered a.number reply)) (own_scan x span) reply
      are_rows (replies.Rows rows) may plain = (refl, refl)
      are_rows (replies.Conflict holder ts place) may plain = absurd cc
      are_rows reply may plain = absurd may

  all_rows : (ps : List (ℕ × Span)) (xs : List Message) → map (λ m. m.request) xs ≡ map (λ p. own_scan x p.1) ps → All (WasAnsweredWith set.course k) xs → All (SentHere set.course k) xs → AreRowsOfAll k ps (flat_map rows_found xs)
  all_rows [] [] same a h = refl
  all_rows [] (m ∷ xs) same a h = absurd cc
  all_rows (q ∷ ps) [] same a h = absurd cc
  all_rows (q ∷ ps) (m ∷ xs) same a h =
      let here : m.request ≡ own_scan x q.1 = cc in
      let there : map (λ (m : Message). m.request) xs ≡ map (λ (p : ℕ × Span). own_scan x p.1) ps = cc in (
        rows_answered m.progress,
        flat_map rows_found xs,
        rows_heard q.1 m here (All-head (WasAnsweredWith set.course k) m xs a) (All-head (SentHere set.course k) m xs h),
        refl,
        all_rows ps xs there (All-tail (WasAnsweredWith set.course k) m xs a) (All-tail (SentHere set.course k) m xs h),
      )

  abbrev asks : Call → Statement
  asks call = record { call = call; reading = w.s.reading }

  none_met : (r : Request) → MetEighth k r → ⊥
  none_met r = none_eighth set.course k (WaitsMeanwhile p w.t.id w.t.epoch x.in_flight) ms w.fewer w.wave.stand (all_few set.course k ms w.wave.stand answered) r (λ left. absurd (subst (λ q. WaitsMeanwhile q w.t.id w.t.epoch x.in_flight r) e left))

  beaten : HasBeatenIn set.course.loses k w.t
  beaten quiet = subst (λ q. HasBeatenBy q k w.t) e (w.beaten quiet)

  tells_value : (value : Option (List ℕ)) → (w.s.call ≡ calls.Commit → ⊥) → is_past_range w.s ≡ false → MayTellRow set.splits (actors.Session session) k w.s (answers.Value value) → MayTellOpen set session k (answers.Value value) x2
  tells_value value other within row = record {
    may = record {
      may = may_tell set session k w.s (answers.Value value) w.opened w.open_in.is_open within row;
      written = tt;
      aborts = λ quiet. tt;
      rolled_back = tt;
      restarts = tt;
      eighth = any_eighth set.course.loses k (answers.Value value) (no_eighth k w.s (answers.Value value) w.opened other none_met);
      blocked = λ piped other at commits. tt;
      beats = beaten_tells set.course.loses k w.t (answers.Value value) w.open_in beaten;
    };
    left = refl;
    after = stays_open k w.t x w.open_in st w.cause (answers.Value value) (value_keeps value) spans2 read_stands;
    suits = free w.plain (answers.Value value) (λ fs. refl);
  }

  tells_rows : (rows : List (List ℕ × Origin × List ℕ)) → (w.s.call ≡ calls.Commit → ⊥) → is_past_range w.s ≡ false → MayTellRow set.splits (actors.Session session) k w.s (answers.Rows rows) → MayTellOpen set session k (answers.Rows rows) x2
  tells_rows rows other within row = record {
    may = record {
      may = may_tell set session k w.s (answers.Rows rows) w.opened w.open_in.is_open within row;
      written = tt;
      aborts = λ quiet. tt;
      rolled_back = tt;
      restarts = tt;
      eighth = any_eighth set.course.loses k (answers.Rows rows) (no_eighth k w.s (answers.Rows rows) w.opened other none_met);
      blocked = λ piped other at commits. tt;
      beats = beaten_tells set.course.loses k w.t (answers.Rows rows) w.open_in beaten;
    };
    left = refl;
    after = stays_open k w.t x w.open_in st w.cause (answers.Rows rows) (rows_keep rows) spans2 read_stands;
    suits = free w.plain (answers.Rows rows) (λ fs. refl);
  }

  read_key : (key : List ℕ) (xs : List Message) → ms ≡ xs → w.s.call ≡ calls.Get key → map (λ m. m.request) xs ≡ own_get x key ∷ [] → All (WasAnsweredWith set.course k) xs → All (SentHere set.course k) xs → MayTellOpen set session k (answer_read xs) x2
  read_key key [] is call same a h = absurd cc
  read_key key (m ∷ []) is call same a h =
      let here : m.request ≡ own_get x key = cc in
      let told : answer_read (m ∷ []) ≡ answers.Value (value_answered m.progress) = ap (λ q. answer_by q m (m ∷ [])) here in
      subst (λ answer. MayTellOpen set session k answer x2) (sym told)
      (tells_value (value_answered m.progress) (λ commit. let f : calls.Get key ≡ calls.Commit = sym call ∙ commit in cc) (ap (λ call. is_past_range (asks call)) call)
      (record { key = key; asked = call; heard = value_heard key m here (All-head (WasAnsweredWith set.course k) m [] a) (All-head (SentHere set.course k) m [] h) }))
  read_key key (m ∷ other ∷ xs) is call same a h = absurd cc

  rows_are : (ps : List (ℕ × Span)) (xs : List Message) → map (λ m. m.request) xs ≡ map (λ p. own_scan x p.1) ps → answer_read xs ≡ answers.Rows (flat_map rows_found xs)
  rows_are ps [] same = refl
  rows_are [] (m ∷ xs) same = absurd cc
  rows_are (q ∷ ps) (m ∷ xs) same = let here : m.request ≡ own_scan x q.1 = cc in ap (λ r. answer_by r m (m ∷ xs)) here

  read_all : (call : Call) → w.s.call ≡ call → AreReadsOf set.splits x call (map (λ m. m.request) ms) → MayTellOpen set session k (answer_read ms) x2
  read_all (calls.Get key) is asked = read_key key ms refl is asked answered all_here
  read_all (calls.Scan span) is asked =
      subst (λ answer. MayTellOpen set session k answer x2) (sym (rows_are (pieces set.splits span) ms asked))
      (tells_rows (flat_map rows_found ms) (λ commit. let f : calls.Scan span ≡ calls.Commit = sym is ∙ commit in cc) (ap (λ call. is_past_range (asks call)) is)
      (record { span = span; asked = is; heard = all_rows (pieces set.splits span) ms asked answered all_here }))
  read_all call is asked = absurd asked

  -- the call may be told what it read
  pub read_told : MayTellOpen set session k (answer_read ms) x2
  read_told = read_all w.s.call refl r.asked

-- so what a call gives that gives what was read
pub told_ok : {E : Type 0} (set : Setting) (session : ℕ) (k : Known) (x now : OpenTxn) (answer : Answer) (r : Result Answer E) → IfOk r (λ a. a ≡ answer) → now ≡ x → MayTellOpen set session k answer x
    → IfOk r (λ a. MayTellOpen set session k a now)
told_ok set session k x now answer (Ok a) is same told = subst (λ x. MayTellOpen set session k a x) (sym same) (subst (λ a. MayTellOpen set session k a x) (sym is) told)
told_ok set session k x now answer (Err e) is same told = is
