-- The write of an open call was written, and the call is told so.
use Rattle.std.proofs.Common.{◌≡◌, ℕ, ◌≤◌, max, Bool, true, false, cond, not, ◌||◌, ◌==◌, ◌⊎◌, inl, inr, List, [], ◌∷◌, filter, find, Option, None, Some, refl, sym, ap, ◌∙◌, subst, arith, All, Any, Contains, IsTrue, ◌<◌}
use Rattle.std.specs.List.{list_any}
use Rattle.std.proofs.lemmas.Bool.{and_from, eq-eqb}
use Rattle.std.proofs.lemmas.List.Elements.{All-cons, All-nil}
use Rattle.std.proofs.lemmas.Option.{same_Some}
use Rattle.pc_call.specs.Beaten.{HasBeatenIn}
use Rattle.pc_call.specs.Setting.{Setting}
use Rattle.pc_base.specs.declared.limits.TheConstants.{MOST_CONFLICTS}
use Rattle.pc_base.specs.Span.{same_key}
use Rattle.pc_call.proofs.Beating.{beaten_tells}
use Rattle.pc_call.proofs.Eighths.{any_eighth, no_eighth, none_eighth}
use Rattle.pc_call.proofs.Facts.{open_is}
use Rattle.pc_call.proofs.Hearing.{beaten_on, far, found, gone, open2, same_request}
use Rattle.pc_call.proofs.StillReplies.{above_put}
use Rattle.pc_call.proofs.Lists.{only_found}
use Rattle.pc_call.proofs.Silent.{IsBeatPurpose}
use Rattle.pc_call.proofs.Told.{may_tell, stays_as_is, written_keeps}
use Rattle.pc_call.specs.declared.purpose.Purpose.{Purpose}
use Rattle.pc_call.specs.declared.purpose.Purpose.TheVariants as purposes
use Rattle.pc_call.specs.Ended.{landed_first, landed_with}
use Rattle.pc_call.specs.Learned.{known_heard}
use Rattle.pc_call.specs.Missing.{IsAboveMisses}
use Rattle.pc_call.specs.Serving.{InCall, IsOpenIn, KeepsStages, LaysLast, LaysNext, Serves, ServesWrite, WaitsMeanwhile, out_of, write_call}
use Rattle.pc_call.specs.Suiting.{SuitsFlight, SuitsFlightIn, SuitsFlightNextIn}
use Rattle.pc_call.specs.Telling.{MayTellOpen}
use Rattle.pc_flight.specs.declared.write.WriteInFlight.{WriteInFlight}
use Rattle.pc_flight.specs.InFlight.{is_another}
use Rattle.pc_follows.specs.Eighth.{MetEighth}
use Rattle.pc_follows.specs.PipelinedPuts.{IsHeardOf, IsToOwnPut}
use Rattle.pc_lists.proofs.Anywhere.{any_last}
use Rattle.pc_lists.proofs.Lists.{contains_cons, contains_nil}
use Rattle.pc_lists.proofs.Same.{same_key-self}
use Rattle.pc_proto.specs.declared.answer.Answer.TheVariants as answers
use Rattle.pc_proto.specs.declared.call.Call.TheVariants as calls
use Rattle.pc_proto.specs.declared.meta.TxnMeta.{TxnMeta}
use Rattle.pc_proto.specs.declared.reply.Reply.{Reply}
use Rattle.pc_proto.specs.declared.reply.Reply.TheVariants as replies
use Rattle.pc_proto.specs.declared.request.Request.{Request}
use Rattle.pc_proto.specs.declared.why.Why.TheVariants as whys
use Rattle.pc_proto.specs.Replies.{is_conflict, is_written}
use Rattle.pc_proto.specs.Requests.{is_put_of}
use Rattle.pc_proto.specs.Stamps.{greatest_of, reply_stamps}
use Rattle.pc_txn.proofs.Laying.{put_landed}
use Rattle.pc_txn.specs.Counted.{IsCounted}
use Rattle.pc_txn.specs.declared.txn.OpenTxn.{OpenTxn}
use Rattle.pc_txn.specs.Opened.{landed_at, meta_now, own_put}
use Rattle.pc_txn.specs.Standing.{TxnStands}
use Rattle.pc_wave.proofs.Lists.{at_least-before}
use Rattle.pc_wave.specs.declared.message.Message.{Message}
use Rattle.pc_wave.specs.Messages.{awaits_at, progress_awaits, wave_awaits}
use Rattle.pc_wave.specs.Standing.{IsHeardTo, IsMessageAt}
use Rattle.pc_world.specs.Known.{Known, open_txn}
use Rattle.pc_world.specs.Known.Statements.{Statement}
use Rattle.pc_world.specs.Known.Traffic.{Heard, Sent}
use Rattle.pc_world.specs.Known.Transactions.{Txn, txn_heard}
use Rattle.pc_world.specs.MayTell.{is_past_range}
use Rattle.pc_world.specs.Send.Put.{AsksFor}
use Rattle.pc_world.specs.Tell.Data.{IsFirstPut, IsPutFor, MayTellWritten, sent_before}
use Rattle.pc_world.specs.Tell.Refusal.{IsConflictOf}
use Rattle.pc_call.proofs.Unsent.{unpiped_sent}

write_no_commit : (key : List ℕ) (value : Option (List ℕ)) → write_call key value ≡ calls.Commit → ⊥
write_no_commit key None e = cc
write_no_commit key (Some value) e = cc

write_within : (key : List ℕ) (value : Option (List ℕ)) (reading : ℕ) → is_past_range (record { call = write_call key value; reading = reading }) ≡ false
write_within key None reading = refl
write_within key (Some value) reading = refl

pub asks_for : (s : Statement) (key : List ℕ) (value : Option (List ℕ)) → s.call ≡ write_call key value → AsksFor (Some s.call) key value
asks_for s key None e = ap (λ c. Some c) e
asks_for s key (Some value) e = ap (λ c. Some c) e

first_same : (one other : Txn) (seq : ℕ) (before : List Sent) → one.id ≡ other.id → one.epoch ≡ other.epoch
    → list_any (λ m. is_put_of one.id one.epoch seq m.request) before ≡ list_any (λ m. is_put_of other.id other.epoch seq m.request) before
first_same one other seq before id epoch =
    ap (λ i. list_any (λ m. is_put_of i one.epoch seq m.request) before) id ∙ ap (λ e. list_any (λ m. is_put_of other.id e seq m.request) before) epoch

first_by : (one other : Txn) (seq : ℕ) (before : List Sent) → one.id ≡ other.id → one.epoch ≡ other.epoch → list_any (λ m. is_put_of other.id other.epoch seq m.request) before ≡ false
    → list_any (λ m. is_put_of one.id one.epoch seq m.request) before ≡ false
first_by one other seq before id epoch none = first_same one other seq before id epoch ∙ none

pub not_false : {b : Bool} → b ≡ false → IsTrue (not b)
not_false {b = b} e = subst (λ b. IsTrue (not b)) (sym e) refl

-- The call that wrote may be told so: its transaction stands, none of its requests met its eighth, and its own put was sent, and heard as pipelining
-- has it.
pub record HasWritten (loses pipelining : Bool) (k : Known) (x : OpenTxn) : Type 0 where
  pub t : Txn
  pub open_in : IsOpenIn k t
  pub stands : TxnStands k [] None t x
  pub cause : x.cause ≡ whys.Client
  pub s : Statement
  pub opened : k.statement ≡ Some s
  pub key : List ℕ
  pub value : Option (List ℕ)
  pub call : s.call ≡ write_call key value
  pub unmet : (r : Request) → MetEighth k r → ⊥
  pub beaten : HasBeatenIn loses k t
  pub told : MayTellWritten k s
  pub heard : IsHeardOf pipelining k s t
  pub suits : SuitsFlightNextIn pipelining answers.Written s.call x.in_flight

module _ (set : Setting) (session : ℕ) (k : Known) (x : OpenTxn) (l : HasWritten set.course.loses set.course.pipelines k x) where
  within : is_past_range l.s ≡ false
  within = ap (λ call. is_past_range (record { call = call; reading = l.s.reading })) l.call ∙ write_within l.key l.value l.s.reading

  other : l.s.call ≡ calls.Commit → ⊥
  other e = write_no_commit l.key l.value (sym l.call ∙ e)

  heard_own : (s : Statement) (t : Txn) → k.statement ≡ Some s → open_txn k ≡ Some t → IsHeardOf set.course.pipelines k s t
  heard_own s t is opened =
      let same : l.s ≡ s = same_Some l.s s (sym l.opened ∙ is) in
      let same_t : l.t ≡ t = same_Some l.t t (sym (open_is k l.t l.open_in) ∙ opened) in
      subst (λ t. IsHeardOf set.course.pipelines k s t) same_t (subst (λ s. IsHeardOf set.course.pipelines k s l.t) same l.heard)

  -- the call is told that it has written
  pub written_told : MayTellOpen set session k answers.Written x
  written_told = record {
    may = record {
      may = may_tell set session k l.s answers.Written l.opened l.open_in.is_open within l.told;
      written = heard_own;
      aborts = λ quiet. tt;
      rolled_back = tt;
      restarts = tt;
      eighth = any_eighth set.course.loses k answers.Written (no_eighth k l.s answers.Written l.opened other l.unmet);
      blocked = λ piped other at commits. tt;
      beats = beaten_tells set.course.loses k l.t answers.Written l.open_in l.beaten;
    };
    left = refl;
    after = stays_as_is k l.t x l.open_in l.stands l.cause answers.Written written_keeps refl;
    suits = λ s is. subst (λ s. SuitsFlightNextIn set.course.pipelines answers.Written s.call x.in_flight) (same_Some l.s s (sym l.opened ∙ is)) l.suits;
  }

-- the one write that was in flight has left
gone_from : (f : WriteInFlight) → filter (is_another f.key f.seq) (f ∷ []) ≡ []
gone_from f =
    ap (λ b. cond b (f ∷ []) []) (ap not (and_from (f.seq == f.seq) (same_key f.key f.key) (eq-eqb f.seq f.seq refl) (same_key-self f.key)))

one_gone : (f g : WriteInFlight) → g ≡ f → filter (is_another f.key f.seq) (g ∷ []) ≡ []
one_gone f g is = subst (λ g. filter (is_another f.key f.seq) (g ∷ []) ≡ []) (sym is) (gone_from f)

-- without pipelining the own write is the only one in flight
none_left : (key : List ℕ) (value : Option (List ℕ)) (ws : List WriteInFlight) (f : WriteInFlight) → SuitsFlight (write_call key value) ws → Contains ws f → filter (is_another f.key f.seq) ws ≡ []
none_left key value [] f suits there = absurd (contains_nil f there)
none_left key value (g ∷ []) f suits there = elim (contains_cons g [] f there) [ inl is ↦ one_gone f g is | inr later ↦ absurd (contains_nil f later) ]
none_left key None (g ∷ h ∷ ws) f suits there = absurd suits
none_left key (Some what) (g ∷ h ∷ ws) f suits there = absurd suits

module _ (session clock count : ℕ) (set : Setting) (k : Known) (x : OpenTxn) (p : Purpose) (ms : List Message) (counted : IsCounted session clock count k) (w : InCall set k x p ms)
    (number at : ℕ) (h : Heard) (waited : wave_awaits number ms ≡ true) (is : IsHeardTo k number (replies.Written at) h) (e : p ≡ purposes.Write) (alone : set.course.pipelines ≡ false) (above : IsAboveMisses k.heard h.request h.reply) where
  abbrev reply : Reply
  reply = replies.Written at

  abbrev k2 : Known
  k2 = known_heard h k

  abbrev t2 : Txn
  t2 = txn_heard k.sent (Some h) w.t

  abbrev r : ServesWrite k w.s w.t x ms
  r = subst (λ q. Serves set k w.s w.t x w.stages q ms) e w.serves

  abbrev it : (m : Message) × (find (awaits_at number) ms ≡ Some m)
  it = found session clock count set k x p ms counted w number reply h waited is

  st : TxnStands k [] None w.t x
  st = subst (λ ss. TxnStands k ss None w.t x) (subst (λ q. KeepsStages q k w.stages) e w.kept) (subst (λ o. TxnStands k w.stages o w.t x) (ap (λ q. out_of q ms) e) w.stands)

  is_m : r.m ≡ it.0
  is_m = (only_found (awaits_at number) r.m it.0 (subst (λ ms. find (awaits_at number) ms ≡ Some it.0) r.one it.1)).0

  at_number : awaits_at number r.m ≡ true
  at_number = one_waits (awaits_at number r.m) (sym (ap (wave_awaits number) r.one) ∙ waited)
    where
      one_waits : (b : Bool) → (b || false) ≡ true → b ≡ true
      one_waits true h = refl
      one_waits false h = absurd cc

  few : All (λ m. m.conflicts < MOST_CONFLICTS) ms
  few =
      let P : Message → Type 0 = λ m. m.conflicts < MOST_CONFLICTS in
      subst (λ ms. All P ms) (sym r.one) (All-cons P r.m [] (subst P (sym is_m) (far session clock count set k x p ms counted w number reply h waited is).1) (All-nil P))

  unmet2 : (q : Request) → MetEighth k2 q → ⊥
  unmet2 q eight =
      none_eighth set.course k (WaitsMeanwhile p w.t.id w.t.epoch x.in_flight) ms w.fewer w.wave.stand few q (λ left. absurd (subst (λ p. WaitsMeanwhile p w.t.id w.t.epoch x.in_flight q) e left))
      (at_least-before (IsConflictOf q) MOST_CONFLICTS k.heard_now (h ∷ [])
      (All-cons (λ h. IsConflictOf q h → ⊥) h [] (λ c. let e : false ≡ true = sym (ap is_conflict is.told) ∙ c.conflict in absurd cc) (All-nil (λ h. IsConflictOf q h → ⊥))) eight)

  landed : LaysNext k w.s w.t x r.key r.value r.m ⊎ LaysLast k w.t x r.key r.value r.m → HasWritten set.course.loses false k2 (landed_first ms at h.step x)
  landed (inl l) = let f : false ≡ true = ap (progress_awaits number) (sym l.to_send) ∙ at_number in absurd cc
  landed (inr l) =
      let f : WriteInFlight = l.w in
      let meta : TxnMeta = meta_now x l.anchor in
      let said : h.request ≡ own_put x l.anchor f = same_request session clock count set k x p ms counted w number reply h waited is ∙ sym (ap (λ (m : Message). m.request) is_m) ∙ l.said in
      let made : landed_first ms at h.step x ≡ landed_at f.key f.seq at h.step x = ap (λ ms. landed_first ms at h.step x) r.one ∙ ap (λ q. landed_with q at h.step x) l.said in
      let own_id : x.id ≡ w.t.id = ap (λ x. x.id) st.same in
      let own_epoch : x.epoch ≡ w.t.epoch = ap (λ x. x.epoch) st.same in
      let low : at ≤ k2.high = let g : greatest_of (reply_stamps h.reply) ≡ max 0 at = ap (λ y. greatest_of (reply_stamps y)) is.told in omega (arith, g) in
      let stands2 : TxnStands k2 [] None t2 (landed_first ms at h.step x) =
      subst (TxnStands k2 [] None t2) (sym made)
      (put_landed k [] None w.t x st f l.there k2 h meta x.write_ts at f.value own_id own_epoch said is.told (above_put k w.t x own_id own_epoch l.anchor f x.write_ts at h said is.told above) (gone session clock count set k x p ms counted w number reply h waited is) low) in
      let opened2 : IsOpenIn k2 t2 = open2 session clock count set k x p ms counted w number reply h waited is in
      let out : Any (IsMessageAt number it.0.request) k.sent_now = subst (λ ms. Any (IsMessageAt number it.0.request) ms) (unpiped_sent set.course.pipelines k it.0.request alone) (far session clock count set k x p ms counted w number reply h waited is).0.out.now in
      let first : IsFirstPut k2 w.s t2 out.1 = record {
        seq = f.seq;
        key = r.key;
        value = r.value;
        asked = asks_for w.s r.key r.value r.call;
        put = subst (λ q. IsPutFor t2 r.key r.value f.seq q) (sym (out.4.asked ∙ sym (same_request session clock count set k x p ms counted w number reply h waited is) ∙ said)) (own_id, own_epoch, refl, l.place, l.what);
        first = not_false (first_by t2 w.t f.seq (sent_before k) refl refl l.first);
      } in
      record {
        t = t2;
        open_in = opened2;
        stands = stands2;
        cause = ap (λ x. x.cause) made ∙ w.cause;
        s = w.s;
        opened = w.opened;
        key = r.key;
        value = r.value;
        call = r.call;
        unmet = unmet2;
        beaten = beaten_on session clock count set k x p ms counted w number reply h waited is (λ beat. subst IsBeatPurpose e beat);
        told = record { t = t2; opened = open_is k2 t2 opened2; sent = (out.0, out.1, out.2, out.3, first) };
        heard =
            any_last (λ h. IsToOwnPut k2 w.s t2 h × IsTrue (is_written h.reply)) k.heard_now h
            (record { m = out.1; sent = (out.0, out.2, out.3); own = first; to = is.numbered ∙ sym out.4.numbered }, ap is_written is.told);
        suits =
            ap (λ x. x.in_flight) made
            ∙ none_left r.key r.value x.in_flight f (subst (λ c. SuitsFlight c x.in_flight) r.call (subst (λ b. SuitsFlightIn b w.s.call x.in_flight) alone w.plain)) l.there;
      }

  -- its write was written, and the call is told so
  pub write_landed : MayTellOpen set session k2 answers.Written (landed_first ms at h.step x)
  write_landed = written_told set session k2 (landed_first ms at h.step x) (subst (λ b. HasWritten set.course.loses b k2 (landed_first ms at h.step x)) (sym alone) (landed r.lays))
