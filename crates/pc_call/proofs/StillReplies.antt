-- What a reply leaves as it is: one to a request that reads or refreshes, and a conflict.
use Rattle.std.proofs.Common.{◌≡◌, ℕ, ◌≤◌, max, Bool, true, false, cond, ◌&&◌, ◌==◌, ◌<◌, List, [], ◌∷◌, length, map, filter, Option, Some, refl, sym, ap, ◌∙◌, subst, arith, All, count_by}
use Rattle.std.specs.Option.{option_to_list}
use Rattle.std.proofs.lemmas.List.Elements.{All-cons, All-map, All-nil}
use Rattle.pc_base.specs.declared.transaction.TxnId.{TxnId}
use Rattle.pc_base.specs.Transaction.{same_txn}
use Rattle.pc_call.proofs.Holders.{is_id, met_by}
use Rattle.pc_call.specs.declared.purpose.Purpose.TheVariants as purposes
use Rattle.pc_call.specs.Missing.{IsAboveMisses}
use Rattle.pc_call.specs.Serving.{AreReadsOf}
use Rattle.pc_call.specs.Suiting.{SuitsFlight, SuitsFlightIn}
use Rattle.pc_follows.specs.OwnStages.{refuses_stage}
use Rattle.pc_follows.specs.RoundsMade.{RoundCount, gone_on, rounds_by}
use Rattle.pc_lists.proofs.Counts.{count-cons, one_if}
use Rattle.pc_proto.specs.declared.call.Call.{Call}
use Rattle.pc_proto.specs.declared.call.Call.TheVariants as calls
use Rattle.pc_proto.specs.declared.meta.TxnMeta.{TxnMeta}
use Rattle.pc_proto.specs.declared.reply.Reply.{Reply}
use Rattle.pc_proto.specs.declared.why.Why.TheVariants as whys
use Rattle.pc_proto.specs.declared.reply.Reply.TheVariants as replies
use Rattle.pc_proto.specs.declared.request.Request.{Request}
use Rattle.pc_proto.specs.declared.request.Request.TheVariants as requests
use Rattle.pc_proto.specs.Replies.{is_conflict, is_conflict_with, is_written}
use Rattle.pc_proto.specs.Requests.{is_about, is_push_of, is_put}
use Rattle.pc_reads.specs.ReadsStanding.{refresh_to}
use Rattle.pc_txn.proofs.Same.{same_epoch-self}
use Rattle.pc_flight.specs.declared.write.WriteInFlight.{WriteInFlight}
use Rattle.pc_txn.specs.declared.txn.OpenTxn.{OpenTxn}
use Rattle.pc_txn.specs.Opened.{own_get, own_scan, put_at}
use Rattle.pc_txn.specs.Standing.{WasMissedAt, is_plain, is_query_of}
use Rattle.pc_wave.specs.declared.message.Progress.TheVariants as progresses
use Rattle.pc_wave.specs.Standing.{goes_beside}
use Rattle.pc_world.specs.Answering.{IsRefreshReply, MayAnswer}
use Rattle.pc_world.specs.Known.{Known}
use Rattle.pc_world.specs.Known.Traffic.{Heard, Sent}
use Rattle.pc_world.specs.Known.Transactions.{Txn, txn_heard}
use Rattle.pc_world.specs.Known.Writes.{Write, proved_at, writes_replied}
use Rattle.pc_world.specs.RangeOf.{pieces}
use Rattle.pc_world.specs.StageFate.{SentStage, is_write_refuted}
use Rattle.pc_world.specs.Tell.Data.{IsPutFor}
use Rattle.pc_world.specs.Tell.Refusal.{is_moved}

every : {X : Type 0} (P : X → Type 0) → ((x : X) → P x) → (xs : List X) → All P xs
every P all [] = All-nil P
every P all (x ∷ xs) = All-cons P x xs (all x) (every P all xs)

-- A request that reads or refreshes.
abbrev pub is_still : Request → Bool
is_still (requests.Get id epoch seq ts key) = true
is_still (requests.Scan id epoch seq ts span) = true
is_still (requests.Refresh id from to span) = true
is_still r = false

max-zero : (n : ℕ) → max n 0 ≡ n
max-zero n = omega arith

-- the reply to such a request changes nothing of a transaction
pub still_heard : (t : Txn) (sent : List Sent) (number step : ℕ) (reply : Reply) (r : Request) → is_still r ≡ true → txn_heard sent (Some (record { number = number; request = r; reply = reply; step = step })) t ≡ t
still_heard t sent number step reply (requests.Get id epoch seq ts key) e = ap (λ n. record t { write_ts = n }) (max-zero t.write_ts)
still_heard t sent number step reply (requests.Scan id epoch seq ts span) e = ap (λ n. record t { write_ts = n }) (max-zero t.write_ts)
still_heard t sent number step reply (requests.Refresh id from to span) e = ap (λ n. record t { write_ts = n }) (max-zero t.write_ts)
still_heard t sent number step reply r e = absurd cc

pub still_quiet : (r : Request) → is_still r ≡ true → is_plain r ≡ true
still_quiet (requests.Get id epoch seq ts key) e = refl
still_quiet (requests.Scan id epoch seq ts span) e = refl
still_quiet (requests.Refresh id from to span) e = refl
still_quiet r e = absurd cc

pub still_unasked : (id : TxnId) (r : Request) → is_still r ≡ true → is_query_of id r ≡ false
still_unasked id (requests.Get other epoch seq ts key) e = refl
still_unasked id (requests.Scan other epoch seq ts span) e = refl
still_unasked id (requests.Refresh other from to span) e = refl
still_unasked id r e = absurd cc

pub still_about : (id : TxnId) (r : Request) → is_still r ≡ true → is_about id r ≡ false
still_about id (requests.Get other epoch seq ts key) e = refl
still_about id (requests.Scan other epoch seq ts span) e = refl
still_about id (requests.Refresh other from to span) e = refl
still_about id r e = absurd cc

pub still_goes_on : (o : Option Txn) (h : Heard) (q : Request) (reply : Reply) (r : RoundCount) → is_still q ≡ true → rounds_by o h q reply r ≡ gone_on r
still_goes_on o h (requests.Get id epoch seq ts key) reply r e = refl
still_goes_on o h (requests.Scan id epoch seq ts span) reply r e = refl
still_goes_on o h (requests.Refresh id from to span) reply r e = refl
still_goes_on o h q reply r e = absurd cc

pub still_no_put : (r : Request) → is_still r ≡ true → is_put r ≡ false
still_no_put (requests.Get other epoch seq ts key) e = refl
still_no_put (requests.Scan other epoch seq ts span) e = refl
still_no_put (requests.Refresh other from to span) e = refl
still_no_put r e = absurd cc

cond_same : {A : Type 0} (b : Bool) (a : A) → cond b a a ≡ a
cond_same true a = refl
cond_same false a = refl

-- nor does a conflict of a put
pub conflict_heard : (t : Txn) (sent : List Sent) (number step : ℕ) (reply : Reply) (meta : TxnMeta) (seq ts : ℕ) (key : List ℕ) (value : Option (List ℕ)) → is_conflict reply ≡ true
    → txn_heard sent (Some (record { number = number; request = requests.Put meta seq ts key value; reply = reply; step = step })) t ≡ t
conflict_heard t sent number step (replies.Conflict holder at place) meta seq ts key value e =
    let F : ℕ → List Write → Txn = λ n w. record t { write_ts = max t.write_ts n; writes = w } in
    ap (λ n. F n (cond (same_txn meta.id t.id && meta.epoch == t.epoch) t.writes t.writes)) (cond_same (same_txn meta.id t.id) 0)
    ∙ ap (F 0) (cond_same (same_txn meta.id t.id && meta.epoch == t.epoch) t.writes)
    ∙ ap (λ n. record t { write_ts = n }) (max-zero t.write_ts)
conflict_heard t sent number step reply meta seq ts key value e = absurd cc

-- nor refutes one a stage
pub conflict_refutes : (s : SentStage) (reply : Reply) (meta : TxnMeta) (seq ts : ℕ) (key : List ℕ) (value : Option (List ℕ)) → is_conflict reply ≡ true → is_write_refuted s (requests.Put meta seq ts key value) reply ≡ false
conflict_refutes s (replies.Conflict holder at place) meta seq ts key value e = refl
conflict_refutes s reply meta seq ts key value e = absurd cc

pub conflict_unwritten : (reply : Reply) → is_conflict reply ≡ true → is_written reply ≡ false
conflict_unwritten (replies.Conflict holder ts key) e = refl
conflict_unwritten reply e = absurd cc

pub no_push : (id : TxnId) (r : Request) → goes_beside r ≡ false → is_push_of id r ≡ false
no_push id (requests.Push holder by level now goal) e = absurd cc
no_push id r e = refl

-- a reply shows no more holders than it is a conflict with
pub held_once : (id : TxnId) (reply : Reply) → count_by (is_id id) (option_to_list (met_by reply)) ≤ one_if (is_conflict_with id reply)
held_once id (replies.Conflict holder ts key) = let e = count-cons (is_id id) holder.id [] in omega arith
held_once id reply = omega arith

pub reads_still : (splits : List (List ℕ)) (x : OpenTxn) (call : Call) (rs : List Request) → AreReadsOf splits x call rs → All (λ r. is_still r ≡ true) rs
reads_still splits x (calls.Get key) rs e =
    subst (λ rs. All (λ r. is_still r ≡ true) rs) (sym e) (All-cons (λ r. is_still r ≡ true) (own_get x key) [] refl (All-nil (λ r. is_still r ≡ true)))
reads_still splits x (calls.Scan span) rs e =
    subst (λ rs. All (λ r. is_still r ≡ true) rs) (sym e)
    (All-map (λ r. is_still r ≡ true) (λ p. own_scan x p.1) (pieces splits span) (every (λ p. is_still (own_scan x p.1) ≡ true) (λ p. refl) (pieces splits span)))
reads_still splits x call rs e = absurd e

pub refreshes_still : (x : OpenTxn) (rs : List Request) → rs ≡ map (refresh_to x.id x.reads.ts x.write_ts) x.reads.spans → All (λ r. is_still r ≡ true) rs
refreshes_still x rs e =
    subst (λ rs. All (λ r. is_still r ≡ true) rs) (sym e)
    (All-map (λ r. is_still r ≡ true) (refresh_to x.id x.reads.ts x.write_ts) x.reads.spans (every (λ span. is_still (refresh_to x.id x.reads.ts x.write_ts span) ≡ true) (λ span. refl) x.reads.spans))

-- what refreshes is answered so
pub refresh_kind : (r : Request) (reply : Reply) (x : OpenTxn) (rs : List Request) → rs ≡ map (refresh_to x.id x.reads.ts x.write_ts) x.reads.spans → All (λ r. (reply : Reply) → MayAnswer r reply → IsRefreshReply reply) rs
refresh_kind r reply x rs e =
    let P : Request → Type 0 = λ r. (reply : Reply) → MayAnswer r reply → IsRefreshReply reply in
    subst (λ rs. All P rs) (sym e) (All-map P (refresh_to x.id x.reads.ts x.write_ts) x.reads.spans (every (λ span. P (refresh_to x.id x.reads.ts x.write_ts span)) (λ span reply may. may) x.reads.spans))

pub refresh_no_conflict : (reply : Reply) → IsRefreshReply reply → is_conflict reply ≡ false
refresh_no_conflict replies.Refreshed is = refl
refresh_no_conflict (replies.Unrefreshed key ts) is = refl
refresh_no_conflict reply is = absurd is

pub still_refuses : (r : Request) (reply : Reply) → is_still r ≡ true → refuses_stage r reply ≡ false
still_refuses (requests.Get id epoch seq ts key) reply e = refl
still_refuses (requests.Scan id epoch seq ts span) reply e = refl
still_refuses (requests.Refresh id from to span) reply e = refl
still_refuses r reply e = absurd cc

pub still_moves : (r : Request) (reply : Reply) → is_still r ≡ true → is_moved r reply ≡ false
still_moves (requests.Get id epoch seq ts key) reply e = refl
still_moves (requests.Scan id epoch seq ts span) reply e = refl
still_moves (requests.Refresh id from to span) reply e = refl
still_moves r reply e = absurd cc

pub put_back : (one other : Txn) → one.id ≡ other.id → one.epoch ≡ other.epoch → (key : List ℕ) (value : Option (List ℕ)) (seq : ℕ) (r : Request) → IsPutFor one key value seq r → IsPutFor other key value seq r
put_back one other id epoch key value seq (requests.Put meta at_seq ts at_key at_value) p = (p.0 ∙ id, p.1 ∙ epoch, p.2, p.3, p.4)
put_back one other id epoch key value seq r p = absurd p

-- where fewer writes are in flight the call suits them, too
one_fewer : (call : Call) (f : WriteInFlight) (b : Bool) → SuitsFlight call (f ∷ []) → SuitsFlight call (cond b (f ∷ []) [])
one_fewer call f true suits = suits
one_fewer call f false suits = tt

pub fewer_suit : (b : Bool) (call : Call) (test : WriteInFlight → Bool) (ws : List WriteInFlight) → SuitsFlightIn b call ws → SuitsFlightIn b call (filter test ws)
fewer_suit true call test ws suits = tt
fewer_suit false call test [] suits = tt
fewer_suit false call test (f ∷ []) suits = one_fewer call f (test f) suits
fewer_suit false (calls.Put key value) test (f ∷ g ∷ ws) suits = absurd suits
fewer_suit false (calls.Delete key) test (f ∷ g ∷ ws) suits = absurd suits
fewer_suit false calls.Rollback test (f ∷ g ∷ ws) suits = any_rolled_back (filter test (f ∷ g ∷ ws))
  where
    any_rolled_back : (fs : List WriteInFlight) → SuitsFlight calls.Rollback fs
    any_rolled_back [] = tt
    any_rolled_back (f ∷ fs) = tt
fewer_suit false call test (f ∷ g ∷ ws) suits = absurd suits

pub shorter : {X : Type 0} (test : X → Bool) (xs : List X) → length (filter test xs) ≤ length xs
shorter test [] = omega arith
shorter test (x ∷ xs) = by (test x) (shorter test xs)
  where
    by : (b : Bool) → length (filter test xs) ≤ length xs → length (cond b (x ∷ filter test xs) (filter test xs)) ≤ length (x ∷ xs)
    by true low = omega (arith, low)
    by false low = omega (arith, low)

-- where a put of the write was written, each timestamp at which a query missed it lies below
pub above_put : (k : Known) (t : Txn) (x : OpenTxn) → x.id ≡ t.id → x.epoch ≡ t.epoch → (anchor : List ℕ) (f : WriteInFlight) (sent_at at : ℕ) (h : Heard) → h.request ≡ put_at x anchor sent_at f → h.reply ≡ replies.Written at → IsAboveMisses k.heard h.request h.reply
    → (ts : ℕ) → WasMissedAt k.heard t.id t.epoch f.key f.seq ts → ts < at
above_put k t x id epoch anchor f sent_at at h said told above ts was =
    let a : IsAboveMisses k.heard (put_at x anchor sent_at f) (replies.Written at) =
    subst (λ q. IsAboveMisses k.heard q (replies.Written at)) said (subst (λ y. IsAboveMisses k.heard h.request y) told above) in
    a ts (subst (λ i. WasMissedAt k.heard i x.epoch f.key f.seq ts) (sym id) (subst (λ e. WasMissedAt k.heard t.id e f.key f.seq ts) (sym epoch) was))

-- it is proved there, and no more changes of the writes
pub landed_writes : (t : Txn) (x : OpenTxn) → x.id ≡ t.id → x.epoch ≡ t.epoch → (anchor : List ℕ) (f : WriteInFlight) (sent_at at : ℕ) (sent : List Sent) (h : Heard) → h.request ≡ put_at x anchor sent_at f → h.reply ≡ replies.Written at
    → (txn_heard sent (Some h) t).writes ≡ map (proved_at f.key f.seq at) t.writes
landed_writes t x id epoch anchor f sent_at at sent h said told =
    let own : (same_txn x.id t.id && (x.epoch == t.epoch)) ≡ true =
    ap (λ i. same_txn i t.id && (x.epoch == t.epoch)) id ∙ ap (λ e. same_txn t.id t.id && (e == t.epoch)) epoch ∙ same_epoch-self t.id t.epoch in
    ap (λ q. writes_replied t.id t.epoch q h.reply t.writes) said ∙ ap (λ y. writes_replied t.id t.epoch (put_at x anchor sent_at f) y t.writes) told
    ∙ ap (λ b. cond b (map (proved_at f.key f.seq at) t.writes) t.writes) own
