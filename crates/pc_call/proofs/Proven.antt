-- All for which a call waited is proved, and it goes on by its own messages.
use Rattle.std.proofs.Common.{◌≡◌, ℕ, ◌<◌, Bool, true, false, ◌||◌, ◌⊎◌, inl, inr, List, [], ◌∷◌, length, map, Option, None, Some, Result, Ok, Err, IfOk, refl, sym, ap, ◌∙◌, subst, arith, All, Any, IsTrue, lit<, ◌&&◌, not}
use Rattle.std.proofs.lemmas.List.Elements.{All-cons, All-head, All-nil, All-weaker}
use Rattle.pc_call.specs.Beaten.{HasBeatenIn}
use Rattle.pc_call.specs.Beside.{IsPastOrNoQuery, is_query}
use Rattle.pc_call.specs.Setting.{Setting}
use Rattle.pc_base.specs.declared.limits.TheConstants.{MOST_IN_FLIGHT}
use Rattle.pc_base.specs.declared.span.Span.{Span}
use Rattle.pc_base.specs.Rising.{AreRising}
use Rattle.pc_base.specs.Span.{same_key}
use Rattle.pc_call.proofs.Beginning.{AreTwo, IsNewFor, IsUnsentIn, messages_are, new_goes, next_new, next_unmet, none_held, requests_are, scans_two, spans-pieces, wave_goes, none_told}
use Rattle.pc_call.proofs.Beside.{IsSentOnceMore, all_over, asked_anew}
use Rattle.pc_call.proofs.Eighths.{none_eighth}
use Rattle.pc_call.proofs.Kept.{none_kept}
use Rattle.pc_call.proofs.Reading.{all_few}
use Rattle.pc_call.proofs.Unsent.{unsent_plain}
use Rattle.pc_call.specs.declared.call.OpenCall.{OpenCall}
use Rattle.pc_call.specs.declared.later.LaterPut.{LaterPut}
use Rattle.pc_call.specs.declared.purpose.Purpose.{Purpose}
use Rattle.pc_call.specs.declared.purpose.Purpose.TheVariants as purposes
use Rattle.pc_call.specs.Ended.{HasBegun, own_messages, own_messages_by}
use Rattle.pc_call.specs.Paced.{IsPaced}
use Rattle.pc_call.specs.Pieces.{scan_messages, spans_in}
use Rattle.pc_call.specs.Serving.{AreReadsOf, HasBeatenBy, InCall, IsOpenFor, IsReadFor, KeepsStages, ReadsNothing, SendsAgain, Serves, ServesProve, WaitsMeanwhile, out_of, write_call, is_last_beat}
use Rattle.pc_call.specs.Stages.{KeepsOutbox}
use Rattle.pc_call.specs.Waiting.{BeginsBehindProofs, depends_on, waits_on}
use Rattle.pc_flight.specs.declared.write.WriteInFlight.{WriteInFlight}
use Rattle.pc_follows.specs.Eighth.{MetEighth}
use Rattle.pc_lists.proofs.Anywhere.{any_of}
use Rattle.pc_proto.specs.declared.call.Call.{Call}
use Rattle.pc_proto.specs.declared.call.Call.TheVariants as calls
use Rattle.pc_proto.specs.declared.reply.Reply.{Reply}
use Rattle.pc_proto.specs.declared.request.Request.{Request}
use Rattle.pc_proto.specs.declared.request.Request.TheVariants as requests
use Rattle.pc_proto.specs.Requests.{is_get, is_put, is_scan}
use Rattle.pc_txn.specs.Counted.{IsCounted}
use Rattle.pc_txn.specs.declared.txn.OpenTxn.{OpenTxn}
use Rattle.pc_txn.specs.Opened.{next_put, own_get, own_scan}
use Rattle.pc_txn.specs.Standing.{TxnStands}
use Rattle.pc_wave.proofs.Dues.{may_be_due}
use Rattle.pc_wave.proofs.Lists.{at_least-before}
use Rattle.pc_wave.proofs.Tries.{or_parts}
use Rattle.pc_wave.specs.declared.message.Message.{Message}
use Rattle.pc_wave.specs.declared.step.Step.TheVariants as steps
use Rattle.pc_wave.specs.Due.{MayBeDue, WasAnsweredWith}
use Rattle.pc_wave.specs.Messages.{has_answer, message_to_send, progress_has_answer, step_of}
use Rattle.pc_wave.specs.Standing.{MayGoOut, Pairwise, goes_beside, sends_counted}
use Rattle.pc_world.proofs.Pieces.{pieces-differ}
use Rattle.pc_world.specs.Counting.{AtLeast}
use Rattle.pc_world.specs.Known.{Known}
use Rattle.pc_world.specs.Known.Reads.{read_heard}
use Rattle.pc_world.specs.Known.Traffic.{Sent}
use Rattle.pc_world.specs.RangeOf.{AreDistinct, pieces}
use Rattle.pc_world.specs.SameRequest.{IsSameRequest}
use Rattle.pc_world.specs.Tell.Refusal.{IsConflictOf}

-- a request that reads is of one with none that reads nothing
reads_other : (r q : Request) → (is_get r ≡ true) ⊎ (is_scan r ≡ true) → ReadsNothing q → IsSameRequest r q → ⊥
reads_other r q (inl get) none (inl e) = let f : false ≡ true = sym none.no_get ∙ ap is_get (sym e) ∙ get in cc
reads_other r q (inr scan) none (inl e) = let f : false ≡ true = sym none.no_scan ∙ ap is_scan (sym e) ∙ scan in cc
reads_other (requests.Put meta seq ts key value) q (inl get) none (inr put) = absurd cc
reads_other (requests.Put meta seq ts key value) q (inr scan) none (inr put) = absurd cc
reads_other r q reads none (inr put) = put

-- what reads nothing is told no read
nothing_read : (r : Request) (reply : Reply) → ReadsNothing r → read_heard r reply ≡ []
nothing_read (requests.Get id epoch seq ts key) reply none = let e : true ≡ false = none.no_get in absurd cc
nothing_read (requests.Scan id epoch seq ts span) reply none = let e : true ≡ false = none.no_scan in absurd cc
nothing_read r reply none = refl

module _ (session clock count : ℕ) (set : Setting) (k : Known) (x : OpenTxn) (p : Purpose) (ms : List Message) (counted : IsCounted session clock count k) (w : InCall set k x p ms) (call : Call) (all : Bool) (e : p ≡ purposes.Prove call all)
    (due : step_of ms ≡ steps.Answered) (later : List LaterPut) (outbox : KeepsOutbox set.course.loses k x later ms) (rising : AreRising set.splits) where
  abbrev r : ServesProve call all k w.s w.t x ms
  r = subst (λ q. Serves set k w.s w.t x w.stages q ms) e w.serves

  st : TxnStands k [] None w.t x
  st = subst (λ ss. TxnStands k ss None w.t x) (subst (λ q. KeepsStages q k w.stages) e w.kept) (subst (λ o. TxnStands k w.stages o w.t x) (ap (λ q. out_of q ms) e) w.stands)

  answered : All (WasAnsweredWith set.course k) ms
  answered = subst (MayBeDue set.course k ms) due (may_be_due set.course k ms w.wave)

  -- each write for which the call waited was answered
  none_open : (f : WriteInFlight) → Any (IsOpenFor f) ms → ⊥
  none_open f some =
      let g = any_of (WasAnsweredWith set.course k) (IsOpenFor f) ms answered some in
      let is : has_answer g.0 ≡ true = ap progress_has_answer g.1.progress in
      let f : false ≡ true = sym g.2.1 ∙ is in
      cc

  -- so it waits for none that is in flight
  waits_none : All (λ f. waits_on call all f.key ≡ false) x.in_flight
  waits_none = All-weaker (λ f. waits_on call all f.key ≡ true → Any (IsOpenFor f) ms) (λ f. waits_on call all f.key ≡ false) (λ f some. by f some (waits_on call all f.key) refl) x.in_flight r.each
    where
      by : (f : WriteInFlight) → (waits_on call all f.key ≡ true → Any (IsOpenFor f) ms) → (b : Bool) → waits_on call all f.key ≡ b → b ≡ false
      by f some true is = absurd (none_open f (some is))
      by f some false is = refl

  clear : All (λ f. depends_on call f.key ≡ false) x.in_flight
  clear = All-weaker (λ f. waits_on call all f.key ≡ false) (λ f. depends_on call f.key ≡ false) (λ f no. (or_parts all (depends_on call f.key) no).1) x.in_flight waits_none

  no_wait : (q : Request) → WaitsMeanwhile p w.t.id w.t.epoch x.in_flight q → ⊥
  no_wait q left = subst (λ p. WaitsMeanwhile p w.t.id w.t.epoch x.in_flight q) e left

  unmet : (q : Request) → MetEighth k q → ⊥
  unmet q = none_eighth set.course k (WaitsMeanwhile p w.t.id w.t.epoch x.in_flight) ms w.fewer w.wave.stand (all_few set.course k ms w.wave.stand answered) q (no_wait q)

  past : (waits : Request → Type 0) → All (λ m. IsTrue (goes_beside m.request) ⊎ IsPastOrNoQuery k m.request ⊎ waits m.request) k.sent_now
  past waits =
      All-weaker (λ m. IsTrue (goes_beside m.request) ⊎ IsPastOrNoQuery k m.request ⊎ WaitsMeanwhile p w.t.id w.t.epoch x.in_flight m.request) (λ m. IsTrue (goes_beside m.request) ⊎ IsPastOrNoQuery k m.request ⊎ waits m.request) by k.sent_now
      (all_over k set.course (WaitsMeanwhile p w.t.id w.t.epoch x.in_flight) ms w.wave w.done (All-weaker (WasAnsweredWith set.course k) IsSentOnceMore (λ m a. ap (sends_counted m.conflicts) a.progress) ms answered)
      (All-weaker (SendsAgain call all k w.t x) (λ m. is_query m.request ≡ false) (λ m a. ap is_query a.said) ms r.again))
    where
      by : (m : Sent) → IsTrue (goes_beside m.request) ⊎ IsPastOrNoQuery k m.request ⊎ WaitsMeanwhile p w.t.id w.t.epoch x.in_flight m.request → IsTrue (goes_beside m.request) ⊎ IsPastOrNoQuery k m.request ⊎ waits m.request
      by m (inl beside) = inl beside
      by m (inr (inl was)) = inr (inl was)
      by m (inr (inr left)) = absurd (no_wait m.request left)

  beaten : HasBeatenIn set.course.loses k w.t
  beaten quiet = subst (λ q. HasBeatenBy q k w.t) e (w.beaten quiet)

  -- the call goes on with messages that are all to be sent, where they serve their purpose
  goes_on : (q : Purpose) (rs : List Request) → All (λ r. goes_beside r ≡ false) rs → All (IsNewFor set.course k) rs → All (λ r. AtLeast (IsConflictOf r) 1 k.heard_now → ⊥) rs → Pairwise AreTwo rs → out_of q (map message_to_send rs) ≡ None → (set.course.loses ≡ false → HasBeatenBy q k w.t)
      → Serves set k w.s w.t x [] q (map message_to_send rs) → InCall set k x q (map message_to_send rs)
  goes_on q rs own new none two out beat serves = record {
    t = w.t;
    open_in = w.open_in;
    stages = [];
    stands = subst (λ o. TxnStands k [] o w.t x) (sym out) st;
    kept = none_kept q k;
    cause = w.cause;
    s = w.s;
    opened = w.opened;
    split = w.split;
    wave = wave_goes set.course k rs own (All-weaker (IsNewFor set.course k) (MayGoOut set.course k) (λ r n. new_goes set.course k r n) rs new) none two;
    paced = subst (λ hs. IsPaced hs k.heard_now) (sym (none_held rs)) (record { pushes = λ id. let a = w.paced.pushes id in omega arith; behind = w.paced.behind });
    fewer = λ r left other eight. unmet r eight;
    done =
        asked_anew k (WaitsMeanwhile q w.t.id w.t.epoch x.in_flight) (map (λ m. m.request) (map message_to_send rs)) (past (WaitsMeanwhile q w.t.id w.t.epoch x.in_flight))
        (subst (λ qs. All (IsUnsentIn k.sent_now) qs) (sym (requests_are rs)) (All-weaker (IsNewFor set.course k) (IsUnsentIn k.sent_now) (λ r n. n.unsent) rs new));
    below = λ goes. w.below (ap is_last_beat e);
    beaten = beat;
    plain = w.plain;
    serves = serves;
  }

  -- a request that reads is new, and met no intent
  read_new : (q : Request) → goes_beside q ≡ false → is_put q ≡ false → (is_get q ≡ true) ⊎ (is_scan q ≡ true) → IsNewFor set.course k q
  read_new q own none reads =
      let now : IsUnsentIn k.sent_now q = All-weaker (λ m. ReadsNothing m.request) (λ m. IsSameRequest q m.request → ⊥) (λ m nothing same. reads_other q m.request reads nothing same) k.sent_now r.unasked in
      record { unsent = now; unheard = unsent_plain (not set.course.loses && set.course.pipelines) k q none now; untold = none_told k q none }

  read_unmet : (q : Request) → (is_get q ≡ true) ⊎ (is_scan q ≡ true) → AtLeast (IsConflictOf q) 1 k.heard_now → ⊥
  read_unmet q reads one =
      at_least-before (IsConflictOf q) 1 [] k.heard_now
      (All-weaker (λ h. ReadsNothing h.request) (λ h. IsConflictOf q h → ⊥) (λ h nothing c. reads_other q h.request reads nothing c.same) k.heard_now r.unread) one

  no_read : (asked : List Request) → All (IsReadFor asked) k.heard_now
  no_read asked = All-weaker (λ h. ReadsNothing h.request) (IsReadFor asked) (λ h nothing. inl (nothing_read h.request h.reply nothing)) k.heard_now r.unread

  get_next : (key : List ℕ) → call ≡ calls.Get key → InCall set k x purposes.Read (message_to_send (own_get x key) ∷ [])
  get_next key is =
      let q = own_get x key in
      goes_on purposes.Read (q ∷ []) (All-cons (λ r. goes_beside r ≡ false) q [] refl (All-nil (λ r. goes_beside r ≡ false))) (All-cons (IsNewFor set.course k) q [] (read_new q refl refl (inl refl)) (All-nil (IsNewFor set.course k)))
      (All-cons (λ r. AtLeast (IsConflictOf r) 1 k.heard_now → ⊥) q [] (read_unmet q (inl refl)) (All-nil (λ r. AtLeast (IsConflictOf r) 1 k.heard_now → ⊥))) (All-nil (AreTwo q), tt) refl beaten
      (record {
        asked = subst (λ c. AreReadsOf set.splits x c (q ∷ [])) (sym (r.asked ∙ is)) refl;
        clear = subst (λ c. All (λ f. depends_on c f.key ≡ false) x.in_flight) (sym r.asked) clear;
        heard = no_read (q ∷ []);
      })

  all_scans : (P : Request → Type 0) → ((span : Span) → P (own_scan x span)) → (spans : List Span) → All P (map (own_scan x) spans)
  all_scans P each [] = All-nil P
  all_scans P each (span ∷ spans) = All-cons P (own_scan x span) (map (own_scan x) spans) (each span) (all_scans P each spans)

  scan_next : (span : Span) → call ≡ calls.Scan span → InCall set k x purposes.Read (scan_messages x (spans_in set.splits span))
  scan_next span is =
      let spans = spans_in set.splits span in
      let rs = map (own_scan x) spans in
      let distinct : AreDistinct spans = subst AreDistinct (sym (spans-pieces set.splits span)) (pieces-differ set.splits span rising) in
      let asked : rs ≡ map (λ p. own_scan x p.1) (pieces set.splits span) = ap (map (own_scan x)) (spans-pieces set.splits span) ∙ mapped (pieces set.splits span) in
      subst (λ ms. InCall set k x purposes.Read ms) (sym (messages_are x spans))
      (goes_on purposes.Read rs (all_scans (λ r. goes_beside r ≡ false) (λ span. refl) spans) (all_scans (IsNewFor set.course k) (λ span. read_new (own_scan x span) refl refl (inr refl)) spans)
      (all_scans (λ r. AtLeast (IsConflictOf r) 1 k.heard_now → ⊥) (λ span. read_unmet (own_scan x span) (inr refl)) spans) (scans_two x spans distinct) refl beaten
      (record {
        asked = subst (λ c. AreReadsOf set.splits x c (map (λ m. m.request) (map message_to_send rs))) (sym (r.asked ∙ is)) (requests_are rs ∙ asked);
        clear = subst (λ c. All (λ f. depends_on c f.key ≡ false) x.in_flight) (sym r.asked) clear;
        heard = no_read (map (λ m. m.request) (map message_to_send rs));
      }))
    where
      mapped : (ps : List (ℕ × Span)) → map (own_scan x) (map (λ p. p.1) ps) ≡ map (λ p. own_scan x p.1) ps
      mapped [] = refl
      mapped (p ∷ ps) = ap (λ rs. own_scan x p.1 ∷ rs) (mapped ps)

  -- none of the key is in flight
  free : (key : List ℕ) (value : Option (List ℕ)) → call ≡ write_call key value → All (λ f. same_key f.key key ≡ false) x.in_flight
  free key None is = subst (λ c. All (λ f. depends_on c f.key ≡ false) x.in_flight) is clear
  free key (Some what) is = subst (λ c. All (λ f. depends_on c f.key ≡ false) x.in_flight) is clear

  -- and not as many as there may be
  room : (key : List ℕ) (value : Option (List ℕ)) → call ≡ write_call key value → length x.in_flight < MOST_IN_FLIGHT
  room key value is = by all refl
    where
      none_of : (fs : List WriteInFlight) → all ≡ true → All (λ f. waits_on call all f.key ≡ false) fs → length fs < MOST_IN_FLIGHT
      none_of [] full none = lit< tt
      none_of (f ∷ fs) full none =
          let e : false ≡ true = sym (All-head (λ f. waits_on call all f.key ≡ false) f fs none) ∙ ap (λ b. b || depends_on call f.key) full in
          absurd cc

      by : (b : Bool) → all ≡ b → length x.in_flight < MOST_IN_FLIGHT
      by true full = none_of x.in_flight full waits_none
      by false few = r.room key value is few

  write_next : (key : List ℕ) (value : Option (List ℕ)) → call ≡ write_call key value → InCall set k x purposes.Write (message_to_send (next_put x key value) ∷ [])
  write_next key value is =
      let q = next_put x key value in
      goes_on purposes.Write (q ∷ []) (All-cons (λ r. goes_beside r ≡ false) q [] refl (All-nil (λ r. goes_beside r ≡ false))) (All-cons (IsNewFor set.course k) q [] (next_new k [] None w.t x st w.split key value set.course) (All-nil (IsNewFor set.course k)))
      (All-cons (λ r. AtLeast (IsConflictOf r) 1 k.heard_now → ⊥) q [] (next_unmet k [] None w.t x st w.split key value) (All-nil (λ r. AtLeast (IsConflictOf r) 1 k.heard_now → ⊥))) (All-nil (AreTwo q), tt) refl beaten
      (record {
        key = key;
        value = value;
        call = r.asked ∙ is;
        m = message_to_send q;
        one = refl;
        unmoved = r.unmoved;
        lays = inl (record { free = free key value is; room = room key value is; full = λ full. none_left (r.fills full key value is) x.in_flight waits_none; said = refl; to_send = refl; new = r.new });
      })
    where
      none_left : all ≡ true → (fs : List WriteInFlight) → All (λ f. waits_on call all f.key ≡ false) fs → fs ≡ []
      none_left whole [] none = refl
      none_left whole (f ∷ fs) none =
          let e : false ≡ true = sym (All-head (λ f. waits_on call all f.key ≡ false) f fs none) ∙ ap (λ b. b || depends_on call f.key) whole in
          absurd cc

  by_call : (c : Call) → call ≡ c → BeginsBehindProofs c → HasBegun set k x (own_messages set.splits c x)
  by_call (calls.Get key) is begins = get_next key is
  by_call (calls.Scan span) is begins = scan_next span is
  by_call (calls.Put key value) is begins = write_next key (Some value) is
  by_call (calls.Delete key) is begins = write_next key None is
  by_call c is begins = absurd begins

  -- so it begins
  pub proven_begins : HasBegun set k x (own_messages_by p set.splits x)
  proven_begins = subst (λ q. HasBegun set k x (own_messages_by q set.splits x)) (sym e) (by_call call refl r.begins)

-- and so does what a call gives that gives these messages
pub begun_ok : {E : Type 0} (set : Setting) (k : Known) (x : OpenTxn) (next : Option OpenCall) (r : Result (Option OpenCall) E) → IfOk r (λ o. o ≡ next) → HasBegun set k x next → IfOk r (HasBegun set k x)
begun_ok set k x next (Ok o) is begun = subst (HasBegun set k x) (sym is) begun
begun_ok set k x next (Err e) is begun = is

-- what gives the messages of the call that is kept gives those of the purpose
pub kept_ok : {E : Type 0} (p : Purpose) (call : Call) (all : Bool) (splits : List (List ℕ)) (x : OpenTxn) (r : Result (Option OpenCall) E) → p ≡ purposes.Prove call all → IfOk r (λ o. o ≡ own_messages splits call x) → IfOk r (λ o. o ≡ own_messages_by p splits x)
kept_ok p call all splits x (Ok o) e is = is ∙ sym (ap (λ q. own_messages_by q splits x) e)
kept_ok p call all splits x (Err error) e is = is
