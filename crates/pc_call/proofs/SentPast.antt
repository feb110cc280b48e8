-- Where nothing of an open call is to be sent, and none of its messages met a conflict, each of its requests was sent once more than it met intents.
use Rattle.std.proofs.Common.{◌≡◌, ◌≢◌, ℕ, zero, suc, ◌+◌, ◌==◌, ◌&&◌, ◌||◌, Bool, true, false, not, ◌⊎◌, inl, inr, List, [], ◌∷◌, refl, sym, ap, ◌∙◌, subst, All, Contains, IsTrue}
use Rattle.std.proofs.lemmas.Bool.{and_parts, eqb-true}
use Rattle.std.proofs.lemmas.List.Elements.{All-cons, All-contains, All-head, All-nil, All-tail, All-weaker}
use Rattle.pc_base.specs.Transaction.{same_txn}
use Rattle.pc_call.proofs.Unsent.{same_put_only}
use Rattle.pc_call.specs.Beside.{IsOfProved, asks_for_write}
use Rattle.pc_call.specs.Setting.{Setting}
use Rattle.pc_call.proofs.Beside.{IsSentOnceMore, all_past, at_least_any, for_call}
use Rattle.pc_call.specs.declared.purpose.Purpose.{Purpose}
use Rattle.pc_call.specs.declared.purpose.Purpose.TheVariants as purposes
use Rattle.pc_call.specs.Serving.{InCall, WaitsMeanwhile, MeetsByPut, Serves}
use Rattle.pc_flight.specs.InFlight.{in_flight_as}
use Rattle.pc_follows.specs.AgainInOneWave.{AreAllSentPast, IsLeft, WasSentPastConflicts, sent_for_call}
use Rattle.pc_follows.specs.Heartbeats.{is_heartbeat}
use Rattle.pc_base.specs.declared.transaction.TxnId.{TxnId}
use Rattle.pc_follows.specs.CallMessages.{IsFor, IsForCall, IsPipelinedFor, IsPlainFor, IsQueryOfOwn}
use Rattle.pc_lists.proofs.Lists.{all_from_contains, contains_in_filter, contains_map}
use Rattle.pc_lists.proofs.Same.{same_txn-is}
use Rattle.pc_proto.specs.declared.call.Call.{Call}
use Rattle.pc_proto.specs.declared.call.Call.TheVariants as calls
use Rattle.pc_proto.specs.declared.request.Request.{Request}
use Rattle.pc_proto.specs.declared.request.Request.TheVariants as requests
use Rattle.pc_proto.specs.Requests.{IsPutOn, is_abort, is_commit, is_get, is_put_of, is_refresh, is_scan, is_stage, is_put}
use Rattle.pc_txn.specs.declared.txn.OpenTxn.{OpenTxn}
use Rattle.pc_wave.proofs.Lists.{at_least-before}
use Rattle.pc_wave.specs.declared.message.Message.{Message}
use Rattle.pc_wave.specs.declared.message.Progress.{Progress}
use Rattle.pc_wave.specs.declared.message.Progress.TheVariants as progresses
use Rattle.pc_wave.specs.Messages.{is_in_conflict, is_to_send, progress_in_conflict, progress_to_send}
use Rattle.pc_wave.specs.Standing.{goes_beside, sends_counted}
use Rattle.pc_world.specs.Counting.{AtLeast}
use Rattle.pc_world.specs.Known.Transactions.{Txn}
use Rattle.pc_world.specs.Known.Writes.{Write, is_proved, unproved}
use Rattle.pc_world.specs.Known.{Known}
use Rattle.pc_world.specs.Known.Traffic.{Sent}
use Rattle.pc_world.specs.SameRequest.{IsSameRequest}
use Rattle.pc_world.specs.Tell.Refusal.{IsConflictOf, is_heard}

get_for : (r : Request) → IsTrue (is_get r) → goes_beside r ≡ false
get_for (requests.Get id epoch seq ts key) is = refl
get_for r is = absurd cc

scan_for : (r : Request) → IsTrue (is_scan r) → goes_beside r ≡ false
scan_for (requests.Scan id epoch seq ts span) is = refl
scan_for r is = absurd cc

put_for : (key : List ℕ) (r : Request) → IsPutOn key r → goes_beside r ≡ false
put_for key (requests.Put meta seq ts own value) is = refl
put_for key r is = absurd is

commit_for : (r : Request) → IsTrue (is_commit r) → goes_beside r ≡ false
commit_for (requests.Commit meta ts locks) is = refl
commit_for r is = absurd cc

refresh_for : (r : Request) → IsTrue (is_refresh r) → goes_beside r ≡ false
refresh_for (requests.Refresh id from to span) is = refl
refresh_for r is = absurd cc

abort_for : (r : Request) → IsTrue (is_abort r) → goes_beside r ≡ false
abort_for (requests.Abort meta why locks) is = refl
abort_for r is = absurd cc

-- what is sent for a call does not go beside its waves
none_beside : (call : Call) (r : Request) → IsPlainFor call r → goes_beside r ≡ false
none_beside (calls.Get key) r is = get_for r is
none_beside (calls.Scan span) r is = scan_for r is
none_beside (calls.Put key value) r is = put_for key r is
none_beside (calls.Delete key) r is = put_for key r is
none_beside calls.Commit r (inl is) = commit_for r is
none_beside calls.Commit r (inr is) = refresh_for r is
none_beside calls.Rollback r is = abort_for r is
none_beside call r is = absurd is

beat_beside : (r : Request) → IsTrue (is_heartbeat r) → goes_beside r ≡ false
beat_beside (requests.Beat meta ts now) is = refl
beat_beside r is = absurd cc

once_more : (m : Message) (p : Progress) → progress_to_send p ≡ false → progress_in_conflict p ≡ false → sends_counted m.conflicts p ≡ m.conflicts + 1
once_more m progresses.ToSend out plain = absurd cc
once_more m (progresses.Sent number) out plain = refl
once_more m (progresses.Met number conflict) out plain = absurd cc
once_more m (progresses.Answered number reply) out plain = refl

all_once_more : (ms : List Message) → All (λ m. is_to_send m ≡ false) ms → All (λ m. is_in_conflict m ≡ false) ms → All IsSentOnceMore ms
all_once_more [] out plain = All-nil IsSentOnceMore
all_once_more (m ∷ ms) out plain =
    All-cons IsSentOnceMore m ms (once_more m m.progress (All-head (λ m. is_to_send m ≡ false) m ms out) (All-head (λ m. is_in_conflict m ≡ false) m ms plain))
    (all_once_more ms (All-tail (λ m. is_to_send m ≡ false) m ms out) (All-tail (λ m. is_in_conflict m ≡ false) m ms plain))

put_of_beside : (id : TxnId) (epoch seq : ℕ) (r : Request) → IsTrue (is_put_of id epoch seq r) → goes_beside r ≡ false
put_of_beside id epoch seq (requests.Put meta at ts key value) put = refl
put_of_beside id epoch seq r put = absurd cc

stage_beside : (r : Request) → IsTrue (is_stage r) → goes_beside r ≡ false
stage_beside (requests.Stage meta ts now writes locks) is = refl
stage_beside r is = absurd cc

-- what is sent beside that with pipelining does not either, but for a query of an own write
pipelined_beside : (k : Known) (call : Call) (r : Request) → IsPipelinedFor k call r → (goes_beside r ≡ false) ⊎ IsQueryOfOwn k r
pipelined_beside k (calls.Get key) r again = inl (put_of_beside again.t.id again.t.epoch again.w.seq r again.put)
pipelined_beside k (calls.Scan span) r again = inl (put_of_beside again.t.id again.t.epoch again.w.seq r again.put)
pipelined_beside k (calls.Put key value) r again = inl (put_of_beside again.t.id again.t.epoch again.w.seq r again.put)
pipelined_beside k (calls.Delete key) r again = inl (put_of_beside again.t.id again.t.epoch again.w.seq r again.put)
pipelined_beside k calls.Commit r (inl again) = inl (put_of_beside again.t.id again.t.epoch again.w.seq r again.put)
pipelined_beside k calls.Commit r (inr (inl stage)) = inl (stage_beside r stage)
pipelined_beside k calls.Commit r (inr (inr own)) = inr own
pipelined_beside k call r none = absurd none

for_beside : (b : Bool) (k : Known) (call : Call) (r : Request) → IsFor b k call r → (goes_beside r ≡ false) ⊎ IsQueryOfOwn k r
for_beside false k call r is = inl (none_beside call r is)
for_beside true k call r (inl is) = inl (none_beside call r is)
for_beside true k call r (inr is) = pipelined_beside k call r is

-- so where each of its requests that waits meanwhile was, and no query of an own write goes beside the call
pub sent_past_by : (set : Setting) (k : Known) (x : OpenTxn) (p : Purpose) (ms : List Message) (w : InCall set k x p ms)
    → ((m : Sent) → Contains k.sent_now m → goes_beside m.request ≡ false → IsLeft k m → WaitsMeanwhile p w.t.id w.t.epoch x.in_flight m.request → WasSentPastConflicts k m.request)
    → All (λ m. goes_beside m.request ≡ true → IsQueryOfOwn k m.request → ⊥) k.sent_now → All (λ m. is_to_send m ≡ false) ms → All (λ m. is_in_conflict m ≡ false) ms → AreAllSentPast set.course.pipelines k
sent_past_by set k x p ms w past_so others out plain =
    all_from_contains (λ m. IsForCall set.course.pipelines k m.request → IsLeft k m → WasSentPastConflicts k m.request) k.sent_now
    (λ m there. by m there (All-contains (λ m. goes_beside m.request ≡ true → IsQueryOfOwn k m.request → ⊥) k.sent_now m others there)
    (All-contains (λ m. IsTrue (goes_beside m.request) ⊎ WasSentPastConflicts k m.request ⊎ WaitsMeanwhile p w.t.id w.t.epoch x.in_flight m.request) k.sent_now m
    (all_past k set.course (WaitsMeanwhile p w.t.id w.t.epoch x.in_flight) ms w.wave w.done (all_once_more ms out plain)) there))
  where
    none_of_call : (m : Sent) → (goes_beside m.request ≡ true → IsQueryOfOwn k m.request → ⊥) → goes_beside m.request ≡ true → IsForCall set.course.pipelines k m.request → ⊥
    none_of_call m isnt beside kind =
        elim kind.kind [
          | inl is ↦ elim (for_beside set.course.pipelines k kind.s.call m.request is) [ inl own ↦ (let e : false ≡ true = sym own ∙ beside in cc) | inr query ↦ isnt beside query ]
          | inr shows ↦ let e : false ≡ true = sym (beat_beside m.request shows.1) ∙ beside in cc
        ]

    by : (m : Sent) → Contains k.sent_now m → (goes_beside m.request ≡ true → IsQueryOfOwn k m.request → ⊥) → IsTrue (goes_beside m.request) ⊎ WasSentPastConflicts k m.request ⊎ WaitsMeanwhile p w.t.id w.t.epoch x.in_flight m.request → IsForCall set.course.pipelines k m.request → IsLeft k m → WasSentPastConflicts k m.request
    by m there isnt (inl beside) kind left = absurd (none_of_call m isnt beside kind)
    by m there isnt (inr (inl past)) kind left = past
    by m there isnt (inr (inr waits)) kind left = which (goes_beside m.request) refl
      where
        which : (b : Bool) → goes_beside m.request ≡ b → WasSentPastConflicts k m.request
        which true beside = absurd (none_of_call m isnt beside kind)
        which false own = past_so m there own left waits

-- so where none waits meanwhile
pub sent_past : (set : Setting) (k : Known) (x : OpenTxn) (p : Purpose) (ms : List Message) (w : InCall set k x p ms) → ((r : Request) → WaitsMeanwhile p w.t.id w.t.epoch x.in_flight r → ⊥) → All (λ m. goes_beside m.request ≡ true → IsQueryOfOwn k m.request → ⊥) k.sent_now
    → All (λ m. is_to_send m ≡ false) ms → All (λ m. is_in_conflict m ≡ false) ms → AreAllSentPast set.course.pipelines k
sent_past set k x p ms w none others out plain = sent_past_by set k x p ms w (λ m there own left waits. absurd (none m.request waits)) others out plain

-- ---- a commit that stages, or commits

from_not : (b : Bool) → not b ≡ true → b ≡ false
from_not true h = sym h
from_not false h = refl

put_only : (id : TxnId) (epoch seq : ℕ) (r : Request) → IsTrue (is_put_of id epoch seq r) → is_put r ≡ true
put_only id epoch seq (requests.Put meta at ts key value) put = refl
put_only id epoch seq r put = absurd cc

asks_only : (id : TxnId) (epoch seq : ℕ) (r : Request) → asks_for_write id epoch seq r ≡ true → is_put r ≡ false
asks_only id epoch seq (requests.Query other at n ts key by) asks = refl
asks_only id epoch seq r asks = absurd cc

-- a put is of one transaction and one sequence
one_put : (id other : TxnId) (epoch at seq n : ℕ) (r : Request) → IsTrue (is_put_of id epoch seq r) → IsTrue (is_put_of other at n r) → (id ≡ other) × (seq ≡ n)
one_put id other epoch at seq n (requests.Put meta own ts key value) one two =
    let a = and_parts (same_txn meta.id id) (meta.epoch == epoch && own == seq) one in
    let b = and_parts (same_txn meta.id other) (meta.epoch == at && own == n) two in (
      sym (same_txn-is meta.id id a.0) ∙ same_txn-is meta.id other b.0,
      sym (eqb-true own seq (and_parts (meta.epoch == epoch) (own == seq) a.1).1) ∙ eqb-true own n (and_parts (meta.epoch == at) (own == n) b.1).1,
    )
one_put id other epoch at seq n r one two = absurd cc

module _ (set : Setting) (k : Known) (x : OpenTxn) (p : Purpose) (ms : List Message) (w : InCall set k x p ms) (mine : (u : Txn) → Contains k.txns u → u.id ≡ w.t.id → u ≡ w.t) (meets : All MeetsByPut k.heard_now) where
  -- what is not proved is in flight
  flies : (v : Write) → Contains w.t.writes v → is_proved v ≡ false → Contains x.in_flight (in_flight_as v)
  flies v there un =
      subst (λ fs. Contains fs (in_flight_as v)) (sym w.stands.flight.in_flight)
      (contains_map in_flight_as (unproved w.t.writes) v (contains_in_filter (λ v. not (is_proved v)) w.t.writes v there (ap not un)))

  -- a put that is left is of a write in flight
  not_proved : (m : Sent) → IsLeft k m → (seq : ℕ) → IsTrue (is_put_of w.t.id w.t.epoch seq m.request) → All (λ f. f.seq ≢ seq) x.in_flight → ⊥
  not_proved m (inl none) seq put gone = let e : false ≡ true = sym none ∙ put_only w.t.id w.t.epoch seq m.request put in cc
  not_proved m (inr u) seq put gone =
      let both = one_put u.t.id w.t.id u.t.epoch w.t.epoch u.w.seq seq m.request u.put put in
      let same : u.t ≡ w.t = mine u.t u.mine both.0 in
      let there : Contains w.t.writes u.w = subst (λ (t : Txn). Contains t.writes u.w) same u.written in
      All-contains (λ f. f.seq ≢ seq) x.in_flight (in_flight_as u.w) gone (flies u.w there (from_not (is_proved u.w) u.unproved)) both.1

  -- a query meets no intent, so it was sent more often
  asked_often : (m : Sent) → Contains k.sent_now m → goes_beside m.request ≡ false → is_put m.request ≡ false → (n : ℕ) → AtLeast (IsConflictOf m.request) n k.heard_now → AtLeast (λ o. IsSameRequest m.request o.request) (n + 1) (sent_for_call k)
  asked_often m there own none zero met =
      elim (All-contains (λ m. IsTrue (goes_beside m.request) ⊎ (is_heard w.split.heard_first m ≡ false)) k.sent_now m w.split.unheard there) as (λ e. AtLeast (λ o. IsSameRequest m.request o.request) 1 (sent_for_call k)) [
        | inl beside ↦ let e : false ≡ true = sym own ∙ beside in absurd cc
        | inr unheard ↦
            let c = for_call k w.split m there unheard in
            at_least_any (λ o. IsSameRequest m.request o.request) (sent_for_call k) (c.0, m, c.1, c.2, inl refl)
      ]
  asked_often m there own none (suc n) met =
      absurd (at_least-before (IsConflictOf m.request) (suc n) [] k.heard_now
      (All-weaker MeetsByPut (λ h. IsConflictOf m.request h → ⊥) (λ h by_put c. same_put_only m.request h.request none (by_put c.conflict) c.same) k.heard_now meets) met)

  proved_past : (m : Sent) → Contains k.sent_now m → goes_beside m.request ≡ false → IsLeft k m → IsOfProved w.t.id w.t.epoch x.in_flight m.request → WasSentPastConflicts k m.request
  proved_past m there own left proved = by (is_put_of w.t.id w.t.epoch proved.seq m.request) refl proved.of
    where
      by : (b : Bool) → is_put_of w.t.id w.t.epoch proved.seq m.request ≡ b → (b || asks_for_write w.t.id w.t.epoch proved.seq m.request) ≡ true → WasSentPastConflicts k m.request
      by true put of = absurd (not_proved m left proved.seq put proved.none)
      by false unput asks = λ n met. asked_often m there own (asks_only w.t.id w.t.epoch proved.seq m.request asks) n met

-- The call stages, or commits.
abbrev pub is_deciding : Purpose → Bool
is_deciding (purposes.Stage refusals) = true
is_deciding (purposes.Commit refusals) = true
is_deciding _ = false

-- such a call sent each of its requests past what it met, where a session knows one transaction of each name
pub decided_past : (set : Setting) (k : Known) (x : OpenTxn) (p : Purpose) (ms : List Message) (w : InCall set k x p ms) → is_deciding p ≡ true → ((u : Txn) → Contains k.txns u → u.id ≡ w.t.id → u ≡ w.t)
    → All (λ m. goes_beside m.request ≡ true → IsQueryOfOwn k m.request → ⊥) k.sent_now → All (λ m. is_to_send m ≡ false) ms → All (λ m. is_in_conflict m ≡ false) ms → AreAllSentPast set.course.pipelines k
decided_past set k x p ms w deciding mine others out plain = by p refl w.serves
  where
    so : (q : Purpose) → p ≡ q → All MeetsByPut k.heard_now → ((m : Sent) → WaitsMeanwhile q w.t.id w.t.epoch x.in_flight m.request → IsOfProved w.t.id w.t.epoch x.in_flight m.request) → AreAllSentPast set.course.pipelines k
    so q e meets proved =
        sent_past_by set k x p ms w (λ m there own left waits. proved_past set k x p ms w mine meets m there own left (proved m (subst (λ q. WaitsMeanwhile q w.t.id w.t.epoch x.in_flight m.request) e waits))) others out plain

    by : (q : Purpose) → p ≡ q → Serves set k w.s w.t x w.stages q ms → AreAllSentPast set.course.pipelines k
    by (purposes.Stage n) e r = so (purposes.Stage n) e r.commits.met (λ m proved. proved)
    by (purposes.Commit n) e r = so (purposes.Commit n) e r.commits.met (λ m proved. proved)
    by q e r = let f : false ≡ true = sym (ap is_deciding e) ∙ deciding in absurd cc
