-- Writes that go out again: at which timestamps they went out, and in which order they are.
use Rattle.std.proofs.Common.{◌≡◌, ℕ, ◌<◌, Bool, true, false, cond, ◌&&◌, ◌==◌, not, List, [], ◌∷◌, ◌++◌, map, Option, Some, sym, subst, All, Any, Contains}
use Rattle.std.specs.List.{list_any}
use Rattle.std.proofs.lemmas.List.Elements.{All-cons, All-head, All-nil, All-tail, Contains-append_left}
use Rattle.pc_base.specs.declared.transaction.TxnId.{TxnId}
use Rattle.pc_base.specs.Span.{same_key}
use Rattle.pc_base.specs.Transaction.{same_txn}
use Rattle.pc_flight.specs.declared.write.WriteInFlight.{WriteInFlight}
use Rattle.pc_flight.specs.InFlight.{in_flight_as}
use Rattle.pc_lists.proofs.Anywhere.{any_kept}
use Rattle.pc_lists.proofs.Lists.{all_from_contains}
use Rattle.pc_proto.specs.declared.reply.Reply.{Reply}
use Rattle.pc_proto.specs.declared.reply.Reply.TheVariants as replies
use Rattle.pc_proto.specs.declared.request.Request.{Request}
use Rattle.pc_proto.specs.declared.request.Request.TheVariants as requests
use Rattle.pc_txn.proofs.Lists.{any_mapped}
use Rattle.pc_txn.specs.declared.txn.OpenTxn.{OpenTxn}
use Rattle.pc_txn.specs.Standing.{TxnStands}
use Rattle.pc_txn.specs.Writing.{AreEarlierFirst, IsEarlier, WasAskedAt}
use Rattle.pc_wave.specs.Standing.{Pairwise}
use Rattle.pc_world.specs.Known.{Known}
use Rattle.pc_world.specs.Known.Traffic.{Heard, Sent}
use Rattle.pc_world.specs.Known.Transactions.{Txn, txn_heard, txn_sent}
use Rattle.pc_world.specs.Known.Writes.{Write, asked_again, is_proved, proved_at, unproved, with_put, with_put_reply, with_query_reply, writes_replied, writes_sent}
use Rattle.pc_world.specs.StageFate.{SentCommit, SentStage}

module _ (seq ts : ℕ) where
  -- The write has the sequence, and went out at the timestamp.
  abbrev pub WentOut : Write → Type 0
  WentOut w = (w.seq ≡ seq) × Contains w.asked ts

  mapped : (f : Write → Write) → ((w : Write) → WentOut w → WentOut (f w)) → (ws : List Write) → Any WentOut ws → Any WentOut (map f ws)
  mapped f on ws some = any_mapped WentOut WentOut f ws (all_from_contains (λ w. WentOut w → WentOut (f w)) ws (λ w there. on w)) some

  proved_on : (key : List ℕ) (n at : ℕ) (w : Write) → WentOut w → WentOut (proved_at key n at w)
  proved_on key n at w went = by (w.seq == n && same_key w.key key)
    where
      by : (b : Bool) → WentOut (cond b (record w { proofs = w.proofs ++ at ∷ [] }) w)
      by true = went
      by false = went

  asked_on : (n at : ℕ) (w : Write) → WentOut w → WentOut (asked_again n at w)
  asked_on n at w went = by (w.seq == n)
    where
      by : (b : Bool) → WentOut (cond b (record w { asked = w.asked ++ at ∷ [] }) w)
      by true = (went.0, Contains-append_left w.asked (at ∷ []) ts went.1)
      by false = went

  either : (b : Bool) (ws one : List Write) → Any WentOut ws → Any WentOut one → Any WentOut (cond b one ws)
  either true ws one some other = other
  either false ws one some other = some

  put_reply : (key : List ℕ) (n : ℕ) (reply : Reply) (ws : List Write) → Any WentOut ws → Any WentOut (with_put_reply key n reply ws)
  put_reply key n (replies.Written at) ws some = mapped (proved_at key n at) (proved_on key n at) ws some
  put_reply key n reply ws some = some

  query_reply : (key : List ℕ) (n at : ℕ) (reply : Reply) (ws : List Write) → Any WentOut ws → Any WentOut (with_query_reply key n at reply ws)
  query_reply key n at replies.Found ws some = mapped (proved_at key n at) (proved_on key n at) ws some
  query_reply key n at reply ws some = some

  replied : (id : TxnId) (epoch : ℕ) (request : Request) (reply : Reply) (ws : List Write) → Any WentOut ws → Any WentOut (writes_replied id epoch request reply ws)
  replied id epoch (requests.Put meta n at key value) reply ws some =
      either (same_txn meta.id id && meta.epoch == epoch) ws (with_put_reply key n reply ws) some (put_reply key n reply ws some)
  replied id epoch (requests.Query other at_epoch n at key by) reply ws some =
      either (same_txn other id && at_epoch == epoch) ws (with_query_reply key n at reply ws) some (query_reply key n at reply ws some)
  replied id epoch request reply ws some = some

  -- whatever is heard, it went out at that timestamp
  pub asked_heard : (t : Txn) (sent : List Sent) (h : Heard) → WasAskedAt t seq ts → WasAskedAt (txn_heard sent (Some h) t) seq ts
  asked_heard t sent h was = replied t.id t.epoch h.request h.reply t.writes was

  put_on : (b : Bool) (n at : ℕ) (new : Write) (ws : List Write) → Any WentOut ws → Any WentOut (cond b (map (asked_again n at) ws) (ws ++ new ∷ []))
  put_on true n at new ws some = mapped (asked_again n at) (asked_on n at) ws some
  put_on false n at new ws some = any_kept WentOut ws (new ∷ []) some

  went_on : (id : TxnId) (epoch : ℕ) (request : Request) (ws : List Write) → Any WentOut ws → Any WentOut (writes_sent id epoch request ws)
  went_on id epoch (requests.Put meta n at key value) ws some =
      either (same_txn meta.id id && meta.epoch == epoch) ws (with_put n at key value ws) some
      (put_on (list_any (λ w. w.seq == n) ws) n at (record { key = key; seq = n; value = value; asked = at ∷ []; proofs = [] }) ws some)
  went_on id epoch request ws some = some

  -- and whatever is sent
  pub asked_sent : (t : Txn) (request : Request) → WasAskedAt t seq ts → WasAskedAt (txn_sent request t) seq ts
  asked_sent t request was = went_on t.id t.epoch request t.writes was

-- The one write is earlier than the other.
abbrev pub IsEarlierInFlight : WriteInFlight → WriteInFlight → Type 0
IsEarlierInFlight w later = w.seq < later.seq

later_unproved : (w : Write) (ws : List Write) → All (IsEarlier w) ws → All (IsEarlierInFlight (in_flight_as w)) (map in_flight_as (unproved ws))
later_unproved w [] a = All-nil (IsEarlierInFlight (in_flight_as w))
later_unproved w (v ∷ ws) a = by (not (is_proved v)) (later_unproved w ws (All-tail (IsEarlier w) v ws a))
  where
    by : (b : Bool) → All (IsEarlierInFlight (in_flight_as w)) (map in_flight_as (unproved ws)) → All (IsEarlierInFlight (in_flight_as w)) (map in_flight_as (cond b (v ∷ unproved ws) (unproved ws)))
    by true later = All-cons (IsEarlierInFlight (in_flight_as w)) (in_flight_as v) (map in_flight_as (unproved ws)) (All-head (IsEarlier w) v ws a) later
    by false later = later

unproved_order : (ws : List Write) → AreEarlierFirst ws → Pairwise IsEarlierInFlight (map in_flight_as (unproved ws))
unproved_order [] p = tt
unproved_order (w ∷ ws) p = by (not (is_proved w)) (unproved_order ws p.1)
  where
    by : (b : Bool) → Pairwise IsEarlierInFlight (map in_flight_as (unproved ws)) → Pairwise IsEarlierInFlight (map in_flight_as (cond b (w ∷ unproved ws) (unproved ws)))
    by true later = (later_unproved w ws p.0, later)
    by false later = later

-- the writes in flight are by sequence
pub flight_order : (k : Known) (stages : List SentStage) (commit : Option SentCommit) (t : Txn) (x : OpenTxn) → TxnStands k stages commit t x → Pairwise IsEarlierInFlight x.in_flight
flight_order k stages commit t x st = subst (Pairwise IsEarlierInFlight) (sym st.flight.in_flight) (unproved_order t.writes st.writes.by_sequence)
