-- A call of the open transaction begins with messages that are all to be sent.
use Rattle.std.proofs.Common.{◌≡◌, ℕ, ◌+◌, ◌<◌, ◌≤◌, nat_le, Bool, true, false, cond, ◌||◌, ◌⊎◌, inl, inr, List, [], ◌∷◌, ◌++◌, length, map, Option, Some, None, refl, sym, ap, ◌∙◌, subst, arith, All, Any, IsTrue, count_by, lit<, zero, suc, unwrap_or, ◌&&◌, not}
use Rattle.std.specs.List.{list_any}
use Rattle.std.proofs.lemmas.Bool.{leb-false}
use Rattle.std.proofs.lemmas.List.{map-append}
use Rattle.std.proofs.lemmas.List.Elements.{All-cons, All-head, All-map, All-nil, All-tail, All-weaker}
use Rattle.pc_call.proofs.Below.{below_fresh}
use Rattle.pc_call.specs.Beside.{IsPastOrNoQuery, is_query}
use Rattle.pc_call.specs.Setting.{Setting}
use Rattle.pc_base.specs.declared.span.Span.{Span}
use Rattle.pc_base.specs.declared.span.Span.TheVariants.{One, Between}
use Rattle.pc_base.specs.Rising.{AreRising}
use Rattle.pc_base.specs.Span.{is_empty, same_key}
use Rattle.pc_base.specs.declared.limits.TheConstants.{MOST_CONFLICTS, MOST_IN_FLIGHT}
use Rattle.pc_base.specs.declared.transaction.TxnId.{TxnId}
use Rattle.pc_call.proofs.Behind.{none_many, not_behind}
use Rattle.pc_call.proofs.Beside.{asked_anew, past_unmet}
use Rattle.pc_call.proofs.Facts.{before_is, beat_moves}
use Rattle.pc_call.proofs.Kept.{none_kept}
use Rattle.pc_call.proofs.Lists.{all_behind, all_front}
use Rattle.pc_call.proofs.Unsent.{all_messages, unsent_plain}
use Rattle.pc_call.proofs.FullFresh.{full_flies}
use Rattle.pc_call.specs.declared.later.LaterPut.{LaterPut}
use Rattle.pc_call.specs.declared.purpose.Purpose.{Purpose}
use Rattle.pc_call.specs.declared.purpose.Purpose.TheVariants as purposes
use Rattle.pc_call.specs.Fresh.{IsFresh, ShowsAlive}
use Rattle.pc_call.specs.Paced.{IsPaced, was_pushed}
use Rattle.pc_call.specs.Pieces.{scan_messages, span_piece, spans_from, spans_in}
use Rattle.pc_call.specs.Serving.{AreReadsOf, HasBeatenBy, InCall, IsOpenIn, IsReadFor, IsSplit, Serves, WaitsMeanwhile, holders_met, out_of, write_call}
use Rattle.pc_call.specs.Stages.{HasOutbox}
use Rattle.pc_call.specs.Suiting.{SuitsFlightIn}
use Rattle.pc_call.specs.Waiting.{depends_on, waits_for_some, waits_on}
use Rattle.pc_flight.specs.declared.write.WriteInFlight.{WriteInFlight}
use Rattle.pc_follows.specs.Heartbeats.{is_heartbeat}
use Rattle.pc_follows.specs.PipelinedPuts.{heard_before, IsFull}
use Rattle.pc_lists.proofs.Anywhere.{any_of}
use Rattle.pc_lists.proofs.Counts.{count-cons, one_if}
use Rattle.pc_proto.specs.declared.call.Call.TheVariants as calls
use Rattle.pc_proto.specs.declared.reply.Reply.{Reply}
use Rattle.pc_proto.specs.declared.reply.Reply.TheVariants as replies
use Rattle.pc_proto.specs.declared.request.Request.{Request}
use Rattle.pc_proto.specs.declared.request.Request.TheVariants as requests
use Rattle.pc_proto.specs.declared.why.Why.{Why}
use Rattle.pc_proto.specs.declared.why.Why.TheVariants as whys
use Rattle.pc_proto.specs.Replies.{is_conflict, is_undecided_status}
use Rattle.pc_proto.specs.Requests.{is_push_of, is_put, is_put_of}
use Rattle.pc_refusals.specs.Moves.{IsNoMove}
use Rattle.pc_txn.proofs.Puts.{same_put}
use Rattle.pc_txn.specs.declared.txn.OpenTxn.{OpenTxn}
use Rattle.pc_txn.specs.Opened.{meta_now, next_put, own_abort, own_get, own_scan}
use Rattle.pc_txn.specs.Standing.{TxnStands}
use Rattle.pc_txn.specs.Writing.{PutsUpTo}
use Rattle.pc_wave.proofs.Changed.{any_none}
use Rattle.pc_wave.proofs.Lists.{at_least-before, at_least-fewer}
use Rattle.pc_wave.proofs.Tries.{or_parts, ready_tries}
use Rattle.pc_wave.specs.declared.message.Message.{Message}
use Rattle.pc_wave.specs.Course.{Course}
use Rattle.pc_wave.specs.Messages.{message_to_send}
use Rattle.pc_wave.specs.Standing.{AreAnsweredIn, AreOfTwo, IsFreeToGo, MayGoOut, MessageStands, Pairwise, WaveStands, goes_beside, messages_of, WentOutBefore}
use Rattle.pc_world.proofs.Pieces.{pieces-differ}
use Rattle.pc_world.specs.Counting.{AtLeast}
use Rattle.pc_world.specs.Known.{Known}
use Rattle.pc_world.specs.Known.Statements.{Statement}
use Rattle.pc_world.specs.Known.Traffic.{Heard, Sent}
use Rattle.pc_world.specs.Known.Reads.{read_heard}
use Rattle.pc_world.specs.Known.Transactions.{Txn}
use Rattle.pc_world.specs.Known.Writes.{last_seq_of}
use Rattle.pc_world.specs.RangeOf.{AreDistinct, earlier_end, later_start, piece, pieces, pieces_from}
use Rattle.pc_world.specs.SameRequest.{IsSamePut, IsSameRequest}
use Rattle.pc_world.specs.StageFate.{SentCommit, SentStage}
use Rattle.pc_world.specs.Tell.Data.{IsFirstPut, IsPutFor, sent_before}
use Rattle.pc_world.specs.Tell.Refusal.{IsConflictOf, is_heard}

-- The two requests are not of one.
pub record AreTwo (one other : Request) : Type 0 where
  pub differ : IsSameRequest one other → ⊥
  pub back : IsSameRequest other one → ⊥

-- nothing is held
pub none_held : (rs : List Request) → holders_met (map message_to_send rs) ≡ []
none_held [] = refl
none_held (r ∷ rs) = none_held rs

pub requests_are : (rs : List Request) → map (λ m. m.request) (map message_to_send rs) ≡ rs
requests_are [] = refl
requests_are (r ∷ rs) = ap (λ qs. r ∷ qs) (requests_are rs)

pub any_true : {X : Type 0} (test : X → Bool) (xs : List X) → Any (λ x. IsTrue (test x)) xs → list_any test xs ≡ true
any_true test [] some = absurd (omega (arith, some.2))
any_true test (x ∷ xs) (zero, y, inside, at, is) = ap (λ b. b || list_any test xs) (ap test at ∙ is)
any_true test (x ∷ xs) (suc n, y, inside, at, is) = or_true (test x) (list_any test xs) (any_true test xs (n, y, omega arith, at, is))
  where
    or_true : (a b : Bool) → b ≡ true → (a || b) ≡ true
    or_true true b h = refl
    or_true false b h = h

-- what is said of a heartbeat and its reply
no_push_beat : (id : TxnId) (r : Request) → is_heartbeat r ≡ true → is_push_of id r ≡ false
no_push_beat id (requests.Beat meta ts now) beat = refl
no_push_beat id r beat = absurd cc

beat_in_wave : (r : Request) → is_heartbeat r ≡ true → goes_beside r ≡ false
beat_in_wave (requests.Beat meta ts now) beat = refl
beat_in_wave r beat = absurd cc

beat_no_read : (r : Request) (reply : Reply) → is_heartbeat r ≡ true → read_heard r reply ≡ []
beat_no_read (requests.Beat meta ts now) reply beat = refl
beat_no_read r reply beat = absurd cc

beat_no_put : (t : Txn) (key : List ℕ) (value : Option (List ℕ)) (seq : ℕ) (r : Request) → is_heartbeat r ≡ true → IsPutFor t key value seq r → ⊥
beat_no_put t key value seq (requests.Beat meta ts now) beat put = put
beat_no_put t key value seq r beat put = absurd cc

module _ (test : Heard → Bool) (no : (h : Heard) → is_heartbeat h.request ≡ true → test h ≡ false) where
  none_counted : (hs : List Heard) → All ShowsAlive hs → count_by test hs ≡ 0
  none_counted [] a = refl
  none_counted (h ∷ hs) a =
      let here : test h ≡ false = no h (All-head ShowsAlive h hs a).beat in
      let later : count_by test hs ≡ 0 = none_counted hs (All-tail ShowsAlive h hs a) in
      let e : count_by test (h ∷ hs) ≡ one_if (test h) + count_by test hs = count-cons test h hs in
      let none : one_if (test h) ≡ 0 = ap one_if here in
      omega (arith, e, none, later)

-- The request was not sent in the call.
abbrev pub IsUnsentIn : List Sent → Request → Type 0
IsUnsentIn sent_now r = All (λ m. IsSameRequest r m.request → ⊥) sent_now

silent_unsent : (r : Request) (sent_now : List Sent) → is_heartbeat r ≡ false → All (λ m. is_heartbeat m.request ≡ true) sent_now → IsUnsentIn sent_now r
silent_unsent r sent_now silent beats = All-weaker (λ m. is_heartbeat m.request ≡ true) (λ m. IsSameRequest r m.request → ⊥) (λ m beat same. differ m.request beat same) sent_now beats
  where
    no_put : (r q : Request) → is_heartbeat q ≡ true → IsSamePut r q → ⊥
    no_put (requests.Put meta seq ts key value) (requests.Beat other at now) beat same = same
    no_put r (requests.Beat other at now) beat same = same
    no_put r q beat same = absurd cc

    differ : (q : Request) → is_heartbeat q ≡ true → IsSameRequest r q → ⊥
    differ q beat (inl e) = let f : false ≡ true = sym silent ∙ ap is_heartbeat e ∙ beat in cc
    differ q beat (inr put) = no_put r q beat put

-- what met no intent met none of a request
module _ (k : Known) (unmet : All (λ h. is_conflict h.reply ≡ false) k.heard_now) where
  no_conflict : (r : Request) → All (λ h. IsConflictOf r h → ⊥) k.heard_now
  no_conflict r = All-weaker (λ h. is_conflict h.reply ≡ false) (λ h. IsConflictOf r h → ⊥) (λ h none c. let e : false ≡ true = sym none ∙ c.conflict in absurd cc) k.heard_now unmet

  pub none_met : (r : Request) → AtLeast (IsConflictOf r) 1 k.heard_now → ⊥
  none_met r one = at_least-before (IsConflictOf r) 1 [] k.heard_now (no_conflict r) one

pub undecided_plain : (reply : Reply) → is_undecided_status reply ≡ true → is_conflict reply ≡ false
undecided_plain (replies.Conflict holder ts key) is = absurd cc
undecided_plain reply is = refl

-- Nothing of the request was sent in the call, or is among what needs a reason to go out again; where it is a put, nothing of it was heard.
pub record IsNewFor (c : Course) (k : Known) (r : Request) : Type 0 where
  pub unsent : IsUnsentIn k.sent_now r
  pub unheard : All (λ m. IsSameRequest r m.request → ⊥) (messages_of (not c.loses && c.pipelines) k r)
  pub untold : is_put r ≡ true → All (λ h. IsSameRequest r h.request → ⊥) k.heard_now

-- so it is of what is no put
pub none_told : (k : Known) (r : Request) → is_put r ≡ false → is_put r ≡ true → All (λ h. IsSameRequest r h.request → ⊥) k.heard_now
none_told k r none put = let f : false ≡ true = sym none ∙ put in absurd cc

pub free_to_go : (b : Bool) (c : Course) (k : Known) (r : Request) → MayGoOut c k r → IsFreeToGo b c k r
free_to_go false c k r out = out
free_to_go true c k r out = tt

none_answered : (b : Bool) (k : Known) (r : Request) → IsUnsentIn k.sent_now r → AreAnsweredIn b k r
none_answered false k r none = All-weaker (λ m. IsSameRequest r m.request → ⊥) (λ m. IsSameRequest r m.request → IsTrue (is_heard k.heard_now m)) (λ m no same. absurd (no same)) k.sent_now none
none_answered true k r none = tt

-- what is new may go out
pub new_goes : (c : Course) (k : Known) (r : Request) → IsNewFor c k r → MayGoOut c k r
new_goes c k r new = record {
  answered = none_answered c.loses k r new.unsent;
  again = λ quiet some. absurd (never some);
}
  where
    never : WentOutBefore c k r → ⊥
    never (inl sent) = let f = any_of (λ m. IsSameRequest r m.request → ⊥) (λ m. IsSameRequest r m.request) (messages_of (not c.loses && c.pipelines) k r) new.unheard sent in f.1 f.2
    never (inr told) = let f = any_of (λ h. IsSameRequest r h.request → ⊥) (λ h. IsSameRequest r h.request) k.heard_now (new.untold told.0) told.1 in f.1 f.2

-- a message that may go out and met no intent stands
pub to_send_stands : (c : Course) (k : Known) (r : Request) → goes_beside r ≡ false → MayGoOut c k r → (AtLeast (IsConflictOf r) 1 k.heard_now → ⊥) → MessageStands c k (message_to_send r)
to_send_stands c k r own out unmet = record {
  as_far = (free_to_go c.loses c k r out, lit< tt);
  counted = record { heard = tt; no_more = unmet };
  sent = tt;
  tries = ready_tries c.loses c k (message_to_send r) refl refl out;
  no_round = own;
}

all_two : (r : Request) (rs : List Request) → All (AreTwo r) rs → All (AreOfTwo (message_to_send r)) (map message_to_send rs)
all_two r [] a = All-nil (AreOfTwo (message_to_send r))
all_two r (q ∷ rs) a =
    let t = All-head (AreTwo r) q rs a in
    All-cons (AreOfTwo (message_to_send r)) (message_to_send q) (map message_to_send rs) (record { differ = t.differ; back = t.back }) (all_two r rs (All-tail (AreTwo r) q rs a))

each_two : (rs : List Request) → Pairwise AreTwo rs → Pairwise AreOfTwo (map message_to_send rs)
each_two [] two = tt
each_two (r ∷ rs) two = (all_two r rs two.0, each_two rs two.1)

all_stand : (c : Course) (k : Known) (rs : List Request) → All (λ r. goes_beside r ≡ false) rs → All (MayGoOut c k) rs → All (λ r. AtLeast (IsConflictOf r) 1 k.heard_now → ⊥) rs → All (MessageStands c k) (map message_to_send rs)
all_stand c k [] a o u = All-nil (MessageStands c k)
all_stand c k (r ∷ rs) a o u =
    let Unmet : Request → Type 0 = λ r. AtLeast (IsConflictOf r) 1 k.heard_now → ⊥ in
    All-cons (MessageStands c k) (message_to_send r) (map message_to_send rs)
    (to_send_stands c k r (All-head (λ r. goes_beside r ≡ false) r rs a) (All-head (MayGoOut c k) r rs o) (All-head Unmet r rs u))
    (all_stand c k rs (All-tail (λ r. goes_beside r ≡ false) r rs a) (All-tail (MayGoOut c k) r rs o) (All-tail Unmet r rs u))

-- a wave of requests that are to be sent stands
pub wave_goes : (c : Course) (k : Known) (rs : List Request) → All (λ r. goes_beside r ≡ false) rs → All (MayGoOut c k) rs → All (λ r. AtLeast (IsConflictOf r) 1 k.heard_now → ⊥) rs → Pairwise AreTwo rs → WaveStands c k (map message_to_send rs)
wave_goes c k rs own out unmet two = record { stand = all_stand c k rs own out unmet; differ = each_two rs two }

module _ (k : Known) (t : Txn) (x : OpenTxn) (s : Statement) (open_in : IsOpenIn k t) (stands : TxnStands k [] None t x) (client : x.cause ≡ whys.Client) (opened : k.statement ≡ Some s) (split : IsSplit k) (heard : All ShowsAlive k.heard_now) where
  pub unmet_now : All (λ h. is_conflict h.reply ≡ false) k.heard_now
  unmet_now = All-weaker ShowsAlive (λ h. is_conflict h.reply ≡ false) (λ h a. undecided_plain h.reply a.undecided) k.heard_now heard

  pub none_paced : IsPaced [] k.heard_now
  none_paced = record {
    pushes = λ id. let e : count_by (was_pushed id) k.heard_now ≡ 0 = none_counted (was_pushed id) (λ h beat. no_push_beat id h.request beat) k.heard_now heard in omega arith;
    behind = λ id request of n many.
        let Same : Heard → Type 0 = λ h. IsSameRequest request h.request in
        none_many Same n k.heard_now
        (All-weaker ShowsAlive (λ h. Same h → ⊥) (λ h alive. not_behind id request h.request of (beat_in_wave h.request alive.beat)) k.heard_now heard)
        (count_by (was_pushed id) k.heard_now) many;
  }

  -- the call stands with messages of which none was sent in it, where they serve their purpose
  pub begins_with : (set : Setting) → All (λ m. is_query m.request ≡ false) k.sent_now → (p : Purpose) (ms : List Message) → WaveStands set.course k ms → holders_met ms ≡ [] → All (IsUnsentIn k.sent_now) (map (λ m. m.request) ms) → out_of p ms ≡ None → (set.course.loses ≡ false → HasBeatenBy p k t) → SuitsFlightIn set.course.pipelines s.call x.in_flight
      → Serves set k s t x [] p ms → InCall set k x p ms
  begins_with set unasked p ms wave held none out beaten suits serves = record {
    t = t;
    open_in = open_in;
    stages = [];
    stands = subst (λ o. TxnStands k [] o t x) (sym out) stands;
    kept = none_kept p k;
    cause = client;
    s = s;
    opened = opened;
    split = split;
    wave = wave;
    paced = subst (λ hs. IsPaced hs k.heard_now) (sym held) none_paced;
    fewer = λ r waits other eight. none_met k unmet_now r (at_least-fewer (IsConflictOf r) 1 MOST_CONFLICTS k.heard_now (omega arith) eight);
    done =
        asked_anew k (WaitsMeanwhile p t.id t.epoch x.in_flight) (map (λ m. m.request) ms)
        (All-weaker (λ m. IsTrue (goes_beside m.request) ⊎ IsPastOrNoQuery k m.request) (λ m. IsTrue (goes_beside m.request) ⊎ IsPastOrNoQuery k m.request ⊎ WaitsMeanwhile p t.id t.epoch x.in_flight m.request) past_or k.sent_now (past_unmet k split unmet_now unasked)) none;
    below = λ goes_on. below_fresh k heard;
    beaten = beaten;
    plain = suits;
    serves = serves;
  }
    where
      past_or : (m : Sent) → IsTrue (goes_beside m.request) ⊎ IsPastOrNoQuery k m.request → IsTrue (goes_beside m.request) ⊎ IsPastOrNoQuery k m.request ⊎ WaitsMeanwhile p t.id t.epoch x.in_flight m.request
      past_or m (inl beside) = inl beside
      past_or m (inr past) = inr (inl past)

  -- so it does with messages that are all to be sent
  pub begins_so : (set : Setting) → All (λ m. is_query m.request ≡ false) k.sent_now → (p : Purpose) (rs : List Request) → All (λ r. goes_beside r ≡ false) rs → All (IsNewFor set.course k) rs → Pairwise AreTwo rs → out_of p (map message_to_send rs) ≡ None → (set.course.loses ≡ false → HasBeatenBy p k t) → SuitsFlightIn set.course.pipelines s.call x.in_flight
      → Serves set k s t x [] p (map message_to_send rs) → InCall set k x p (map message_to_send rs)
  begins_so set unasked p rs own new two out beaten suits serves =
      begins_with set unasked p (map message_to_send rs)
      (wave_goes set.course k rs own (All-weaker (IsNewFor set.course k) (MayGoOut set.course k) (λ r n. new_goes set.course k r n) rs new)
      (All-weaker (IsNewFor set.course k) (λ r. AtLeast (IsConflictOf r) 1 k.heard_now → ⊥) (λ r n. none_met k unmet_now r) rs new) two)
      (none_held rs) (subst (λ qs. All (IsUnsentIn k.sent_now) qs) (sym (requests_are rs)) (All-weaker (IsNewFor set.course k) (IsUnsentIn k.sent_now) (λ r n. n.unsent) rs new)) out beaten suits serves

-- heartbeats ask for no write
pub beats_unasked : (sent : List Sent) → All (λ m. is_heartbeat m.request ≡ true) sent → All (λ m. is_query m.request ≡ false) sent
beats_unasked sent beats = All-weaker (λ m. is_heartbeat m.request ≡ true) (λ m. is_query m.request ≡ false) (λ m beat. none m.request beat) sent beats
  where
    none : (r : Request) → is_heartbeat r ≡ true → is_query r ≡ false
    none (requests.Beat meta ts now) beat = refl
    none r beat = absurd cc

-- the next put of the transaction is new
module _ (k : Known) (stages : List SentStage) (commit : Option SentCommit) (t : Txn) (x : OpenTxn) (st : TxnStands k stages commit t x) (split : IsSplit k) (key : List ℕ) (value : Option (List ℕ)) where
  -- no put up to the last is of one request with it
  pub past_last : (q : Request) → PutsUpTo t (last_seq_of t.writes) q → IsSameRequest (next_put x key value) q → ⊥
  past_last q up same =
      let put : is_put_of x.id x.epoch (x.seq + 1) q ≡ true = same_put (meta_now x (unwrap_or x.anchor key)) (x.seq + 1) x.write_ts key value q same in
      let own : is_put_of t.id t.epoch (x.seq + 1) q ≡ true =
      sym (ap (λ i. is_put_of i x.epoch (x.seq + 1) q) (ap (λ x. x.id) st.same) ∙ ap (λ e. is_put_of t.id e (x.seq + 1) q) (ap (λ x. x.epoch) st.same)) ∙ put in
      let low : x.seq + 1 ≤ last_seq_of t.writes = (up t.epoch (x.seq + 1) own).1 refl in
      let seq : x.seq ≡ last_seq_of t.writes = ap (λ x. x.seq) st.same in
      omega (arith, low, seq)

  -- no reply to it was heard
  untold_next : All (λ h. IsSameRequest (next_put x key value) h.request → ⊥) k.heard_now
  untold_next =
      let P : Heard → Type 0 = λ h. PutsUpTo t (last_seq_of t.writes) h.request in
      All-weaker P (λ h. IsSameRequest (next_put x key value) h.request → ⊥) (λ h up same. past_last h.request up same) k.heard_now (all_behind P split.heard_first k.heard_now (subst (λ hs. All P hs) split.heard st.put_heard))

  pub next_new : (c : Course) → IsNewFor c k (next_put x key value)
  next_new c =
      let P : Sent → Type 0 = λ m. IsSameRequest (next_put x key value) m.request → ⊥ in
      let all : All P k.sent = All-weaker (λ m. PutsUpTo t (last_seq_of t.writes) m.request) P (λ m up same. past_last m.request up same) k.sent st.puts in
      let parts : All P (split.sent_first ++ k.sent_now) = subst (λ ms. All P ms) split.sent all in
      let now : All P k.sent_now = all_behind P split.sent_first k.sent_now parts in
      record {
        unsent = now;
        unheard =
            all_messages k split (not c.loses && c.pipelines) P now
            (All-weaker P (λ m. is_heard (heard_before k) m ≡ false → P m) (λ m p none. p) (sent_before k) (subst (λ ms. All P ms) (sym (before_is k split)) (all_front P split.sent_first k.sent_now parts)));
        untold = λ put. untold_next;
      }

  -- and met no intent
  pub next_unmet : AtLeast (IsConflictOf (next_put x key value)) 1 k.heard_now → ⊥
  next_unmet one =
      at_least-before (IsConflictOf (next_put x key value)) 1 [] k.heard_now
      (All-weaker (λ h. IsSameRequest (next_put x key value) h.request → ⊥) (λ h. IsConflictOf (next_put x key value) h → ⊥) (λ h no c. no c.same) k.heard_now untold_next) one

piece-spans : (r : ℕ) (from to : Option (List ℕ)) → span_piece from to ≡ map (λ p. p.1) (piece r from to)
piece-spans r from to = elim (is_empty from to) as (λ b. cond b [] (Between from to ∷ []) ≡ map (λ (p : ℕ × Span). p.1) (cond b [] ((r, Between from to) ∷ []))) [ true ↦ refl | false ↦ refl ]

spans-from : (r : ℕ) (low : Option (List ℕ)) (splits : List (List ℕ)) (from to : Option (List ℕ)) → spans_from low splits from to ≡ map (λ p. p.1) (pieces_from r low splits from to)
spans-from r low [] from to = piece-spans r (later_start low from) to
spans-from r low (split ∷ splits) from to =
    let first = piece r (later_start low from) (earlier_end (Some split) to) in
    ap (λ ss. ss ++ spans_from (Some split) splits from to) (piece-spans r (later_start low from) (earlier_end (Some split) to))
    ∙ ap (λ ss. map (λ p. p.1) first ++ ss) (spans-from (r + 1) (Some split) splits from to)
    ∙ sym (map-append (λ p. p.1) first (pieces_from (r + 1) (Some split) splits from to))

pub spans-pieces : (splits : List (List ℕ)) (span : Span) → spans_in splits span ≡ map (λ p. p.1) (pieces splits span)
spans-pieces splits (One key) = refl
spans-pieces splits (Between from to) = spans-from 0 None splits from to

module _ (x : OpenTxn) where
  scan_two : (one other : Span) → (one ≡ other → ⊥) → AreTwo (own_scan x one) (own_scan x other)
  scan_two one other differ = record { differ = λ same. not_same one other differ same; back = λ same. not_same other one (λ e. differ (sym e)) same }
    where
      not_same : (one other : Span) → (one ≡ other → ⊥) → IsSameRequest (own_scan x one) (own_scan x other) → ⊥
      not_same one other differ (inl e) = let f : one ≡ other = cc in differ f
      not_same one other differ (inr put) = put

  pub scans_two : (spans : List Span) → AreDistinct spans → Pairwise AreTwo (map (own_scan x) spans)
  scans_two [] d = tt
  scans_two (span ∷ spans) d = (
    All-map (AreTwo (own_scan x span)) (own_scan x) spans (All-weaker (λ other. span ≡ other → ⊥) (λ other. AreTwo (own_scan x span) (own_scan x other)) (λ other differ. scan_two span other differ) spans d.0),
    scans_two spans d.1,
  )

  scans_own : (spans : List Span) → All (λ r. goes_beside r ≡ false) (map (own_scan x) spans)
  scans_own [] = All-nil (λ r. goes_beside r ≡ false)
  scans_own (span ∷ spans) = All-cons (λ r. goes_beside r ≡ false) (own_scan x span) (map (own_scan x) spans) refl (scans_own spans)

  scans_plain : (spans : List Span) → All (λ r. (is_put r ≡ false) × (is_heartbeat r ≡ false)) (map (own_scan x) spans)
  scans_plain [] = All-nil (λ r. (is_put r ≡ false) × (is_heartbeat r ≡ false))
  scans_plain (span ∷ spans) = All-cons (λ r. (is_put r ≡ false) × (is_heartbeat r ≡ false)) (own_scan x span) (map (own_scan x) spans) (refl, refl) (scans_plain spans)

  mapped : (ps : List (ℕ × Span)) → map (own_scan x) (map (λ p. p.1) ps) ≡ map (λ p. own_scan x p.1) ps
  mapped [] = refl
  mapped (p ∷ ps) = ap (λ rs. own_scan x p.1 ∷ rs) (mapped ps)

  pub messages_are : (spans : List Span) → scan_messages x spans ≡ map message_to_send (map (own_scan x) spans)
  messages_are [] = refl
  messages_are (span ∷ spans) = ap (λ ms. message_to_send (own_scan x span) ∷ ms) (messages_are spans)

-- a write that waits for none has none of its key in flight, and not as many as there may be
pub none_of_key : (key : List ℕ) (value : Option (List ℕ)) (flight : List WriteInFlight) → waits_for_some (write_call key value) flight ≡ false → All (λ w. same_key w.key key ≡ false) flight
none_of_key key None flight none =
    All-weaker (λ w. waits_on (calls.Delete key) (nat_le MOST_IN_FLIGHT (length flight)) w.key ≡ false) (λ w. same_key w.key key ≡ false) (λ w no. (or_parts (nat_le MOST_IN_FLIGHT (length flight)) (same_key w.key key) no).1) flight
    (any_none (λ w. waits_on (calls.Delete key) (nat_le MOST_IN_FLIGHT (length flight)) w.key) flight none)
none_of_key key (Some value) flight none =
    All-weaker (λ w. waits_on (calls.Put key value) (nat_le MOST_IN_FLIGHT (length flight)) w.key ≡ false) (λ w. same_key w.key key ≡ false) (λ w no. (or_parts (nat_le MOST_IN_FLIGHT (length flight)) (same_key w.key key) no).1) flight
    (any_none (λ w. waits_on (calls.Put key value) (nat_le MOST_IN_FLIGHT (length flight)) w.key) flight none)

few_of : (flight : List WriteInFlight) (test : List WriteInFlight → WriteInFlight → Bool) → list_any (λ w. nat_le MOST_IN_FLIGHT (length flight) || test flight w) flight ≡ false → length flight < MOST_IN_FLIGHT
few_of [] test none = lit< tt
few_of (w ∷ ws) test none =
    let a = or_parts (nat_le MOST_IN_FLIGHT (length (w ∷ ws)) || test (w ∷ ws) w) _ none in
    leb-false MOST_IN_FLIGHT (length (w ∷ ws)) (or_parts (nat_le MOST_IN_FLIGHT (length (w ∷ ws))) (test (w ∷ ws) w) a.0).0

room_for : (key : List ℕ) (value : Option (List ℕ)) (flight : List WriteInFlight) → waits_for_some (write_call key value) flight ≡ false → length flight < MOST_IN_FLIGHT
room_for key None flight none = few_of flight (λ fs w. same_key w.key key) none
room_for key (Some value) flight none = few_of flight (λ fs w. same_key w.key key) none

module _ (set : Setting) (k : Known) (x : OpenTxn) (s : Statement) (why : Why) (f : IsFresh set.course.loses k x s why) where
  pub fresh_unsent : (r : Request) → is_heartbeat r ≡ false → IsUnsentIn k.sent_now r
  fresh_unsent r silent = silent_unsent r k.sent_now silent f.sent

  one_alone : (r : Request) → goes_beside r ≡ false → All (λ r. goes_beside r ≡ false) (r ∷ [])
  one_alone r own = All-cons (λ r. goes_beside r ≡ false) r [] own (All-nil (λ r. goes_beside r ≡ false))

  one_two : (r : Request) → Pairwise AreTwo (r ∷ [])
  one_two r = (All-nil (AreTwo r), tt)

  one_new : (r : Request) → IsNewFor set.course k r → All (IsNewFor set.course k) (r ∷ [])
  one_new r new = All-cons (IsNewFor set.course k) r [] new (All-nil (IsNewFor set.course k))

  no_read : (asked : List Request) → All (IsReadFor asked) k.heard_now
  no_read asked = All-weaker ShowsAlive (IsReadFor asked) (λ h a. inl (beat_no_read h.request h.reply a.beat)) k.heard_now f.heard

  pub no_new : All (λ m. IsFirstPut k s f.t m → ⊥) k.sent_now
  no_new = All-weaker (λ m. is_heartbeat m.request ≡ true) (λ m. IsFirstPut k s f.t m → ⊥) (λ m beat first. beat_no_put f.t first.key first.value first.seq m.request beat first.put) k.sent_now f.sent

  -- a heartbeat moves no stage or commit
  pub no_moves : All IsNoMove k.heard_now
  no_moves = All-weaker ShowsAlive IsNoMove (λ h a. beat_moves h.request h.reply a.beat) k.heard_now f.heard

  pub write_begins : (key : List ℕ) (value : Option (List ℕ)) → s.call ≡ write_call key value → SuitsFlightIn set.course.pipelines s.call x.in_flight → waits_for_some (write_call key value) x.in_flight ≡ false
      → InCall set k x purposes.Write (message_to_send (next_put x key value) ∷ [])
  write_begins key value is suits waits =
      begins_so k f.t x s f.open_in f.stands f.client f.opened f.split f.heard set (beats_unasked k.sent_now f.sent) purposes.Write (next_put x key value ∷ []) (one_alone (next_put x key value) refl) (one_new (next_put x key value) (next_new k [] None f.t x f.stands f.split key value set.course)) (one_two (next_put x key value)) refl f.beaten suits
      (record {
        key = key;
        value = value;
        call = is;
        m = message_to_send (next_put x key value);
        one = refl;
        unmoved = no_moves;
        lays = inl (record { free = none_of_key key value x.in_flight waits; room = room_for key value x.in_flight waits; full = none_full; said = refl; to_send = refl; new = no_new });
      })
    where
      none_full : IsFull k → x.in_flight ≡ []
      none_full full =
          let many : MOST_IN_FLIGHT ≤ length x.in_flight = full_flies set.course.loses k x s why f full in
          let few : length x.in_flight < MOST_IN_FLIGHT = room_for key value x.in_flight waits in
          absurd (omega (arith, many, few))

  module _ (later : List LaterPut) (o : HasOutbox set.course.loses k x later) where
    -- what is no put is new
    plain_new : (r : Request) → goes_beside r ≡ false → is_put r ≡ false → is_heartbeat r ≡ false → IsNewFor set.course k r
    plain_new r own none silent = record { unsent = fresh_unsent r silent; unheard = unsent_plain (not set.course.loses && set.course.pipelines) k r none (fresh_unsent r silent); untold = none_told k r none }

    all_new : (rs : List Request) → All (λ r. goes_beside r ≡ false) rs → All (λ r. (is_put r ≡ false) × (is_heartbeat r ≡ false)) rs → All (IsNewFor set.course k) rs
    all_new [] own plain = All-nil (IsNewFor set.course k)
    all_new (r ∷ rs) own plain =
        let P : Request → Type 0 = λ r. (is_put r ≡ false) × (is_heartbeat r ≡ false) in
        let h = All-head P r rs plain in
        All-cons (IsNewFor set.course k) r rs (plain_new r (All-head (λ r. goes_beside r ≡ false) r rs own) h.0 h.1) (all_new rs (All-tail (λ r. goes_beside r ≡ false) r rs own) (All-tail P r rs plain))

    -- the call stands with messages that are all to be sent, where they serve their purpose
    begins : (p : Purpose) (rs : List Request) → All (λ r. goes_beside r ≡ false) rs → All (λ r. (is_put r ≡ false) × (is_heartbeat r ≡ false)) rs → Pairwise AreTwo rs → out_of p (map message_to_send rs) ≡ None → (set.course.loses ≡ false → HasBeatenBy p k f.t) → SuitsFlightIn set.course.pipelines s.call x.in_flight
        → Serves set k s f.t x [] p (map message_to_send rs) → InCall set k x p (map message_to_send rs)
    begins p rs own plain two out beaten suits serves =
        begins_so k f.t x s f.open_in f.stands f.client f.opened f.split f.heard set (beats_unasked k.sent_now f.sent) p rs own
        (all_new rs own plain) two out beaten suits serves

    one_plain : (r : Request) → is_put r ≡ false → is_heartbeat r ≡ false → All (λ r. (is_put r ≡ false) × (is_heartbeat r ≡ false)) (r ∷ [])
    one_plain r none silent = All-cons (λ r. (is_put r ≡ false) × (is_heartbeat r ≡ false)) r [] (none, silent) (All-nil (λ r. (is_put r ≡ false) × (is_heartbeat r ≡ false)))

    pub get_begins : (key : List ℕ) → s.call ≡ calls.Get key → SuitsFlightIn set.course.pipelines s.call x.in_flight → waits_for_some (calls.Get key) x.in_flight ≡ false → InCall set k x purposes.Read (message_to_send (own_get x key) ∷ [])
    get_begins key is suits waits =
        begins purposes.Read (own_get x key ∷ []) (one_alone (own_get x key) refl) (one_plain (own_get x key) refl refl) (one_two (own_get x key)) refl f.beaten suits
        (record { asked = subst (λ c. AreReadsOf set.splits x c (own_get x key ∷ [])) (sym is) refl; clear = subst (λ c. All (λ w. depends_on c w.key ≡ false) x.in_flight) (sym is) (any_none (λ w. depends_on (calls.Get key) w.key) x.in_flight waits); heard = no_read (own_get x key ∷ []) })

    pub abort_begins : (anchor : List ℕ) → s.call ≡ calls.Rollback → SuitsFlightIn set.course.pipelines s.call x.in_flight → x.anchor ≡ Some anchor → InCall set k x (purposes.Abort why) (message_to_send (own_abort x why anchor) ∷ [])
    abort_begins anchor is suits anchored =
        begins (purposes.Abort why) (own_abort x why anchor ∷ []) (one_alone (own_abort x why anchor) refl) (one_plain (own_abort x why anchor) refl refl) (one_two (own_abort x why anchor)) refl f.beaten suits
        (record {
          call = is;
          anchor = anchor;
          anchored = sym (ap (λ x. x.anchor) f.stands.same) ∙ anchored;
          m = message_to_send (own_abort x why anchor);
          one = refl;
          said = refl;
          cause = f.cause;
          low = f.low;
        })

    pub scan_begins : (span : Span) → AreRising set.splits → s.call ≡ calls.Scan span → SuitsFlightIn set.course.pipelines s.call x.in_flight → waits_for_some (calls.Scan span) x.in_flight ≡ false → InCall set k x purposes.Read (scan_messages x (spans_in set.splits span))
    scan_begins span rising is suits waits =
        let spans = spans_in set.splits span in
        let rs = map (own_scan x) spans in
        let distinct : AreDistinct spans = subst AreDistinct (sym (spans-pieces set.splits span)) (pieces-differ set.splits span rising) in
        let asked : rs ≡ map (λ p. own_scan x p.1) (pieces set.splits span) = ap (map (own_scan x)) (spans-pieces set.splits span) ∙ mapped x (pieces set.splits span) in
        subst (λ ms. InCall set k x purposes.Read ms) (sym (messages_are x spans))
        (begins purposes.Read rs (scans_own x spans) (scans_plain x spans) (scans_two x spans distinct) refl f.beaten suits
        (record {
          asked = subst (λ c. AreReadsOf set.splits x c (map (λ m. m.request) (map message_to_send rs))) (sym is) (requests_are rs ∙ asked);
          clear = subst (λ c. All (λ w. depends_on c w.key ≡ false) x.in_flight) (sym is) (any_none (λ w. depends_on (calls.Scan span) w.key) x.in_flight waits);
          heard = no_read (map (λ m. m.request) (map message_to_send rs));
        }))
