-- A call waits for no more puts once a reply was heard.
use Rattle.std.proofs.Common.{◌≡◌, ℕ, Bool, true, false, ◌&&◌, ◌==◌, inl, inr, List, [], ◌∷◌, map, cond, Some, IsTrue, refl, sym, ap, subst, ◌∙◌}
use Rattle.std.proofs.lemmas.List.{append-nil, map-id}
use Rattle.pc_base.specs.Transaction.{same_txn}
use Rattle.pc_base.specs.declared.transaction.TxnId.{TxnId}
use Rattle.pc_call.proofs.Full.{LeavesPlaces, full_back, full_from}
use Rattle.pc_follows.specs.PipelinedPuts.{IsFull, IsPutWaitedFor, WaitsFor, heard_before}
use Rattle.pc_follows.specs.Proving.{IsAwaitedPut}
use Rattle.pc_proto.specs.declared.call.Call.{Call}
use Rattle.pc_proto.specs.declared.call.Call.TheVariants as calls
use Rattle.pc_proto.specs.declared.reply.Reply.{Reply}
use Rattle.pc_proto.specs.declared.reply.Reply.TheVariants as replies
use Rattle.pc_proto.specs.declared.request.Request.{Request}
use Rattle.pc_proto.specs.declared.request.Request.TheVariants as requests
use Rattle.pc_proto.specs.Requests.{is_put_of}
use Rattle.pc_session.proofs.Knowing.{with_heard}
use Rattle.pc_txn.proofs.Writes.{proved-key, proved-seq}
use Rattle.pc_wave.specs.Standing.{HasMore}
use Rattle.pc_world.specs.Known.{Known, first_if}
use Rattle.pc_world.specs.Known.Traffic.{Heard}
use Rattle.pc_world.specs.Known.Transactions.{Txn, txn_heard}
use Rattle.pc_world.specs.Known.Writes.{Write, proved_at, with_put_reply, with_query_reply, writes_replied}
use Rattle.pc_wave.proofs.ForCall.{same_before}

-- The writes are changed one by one, and each keeps its key and its sequence.
pub record KeepsPlaces (before after : List Write) : Type 0 where
  pub change : Write → Write
  pub leaves : LeavesPlaces change
  pub same : after ≡ map change before

pub same_places : (ws : List Write) → KeepsPlaces ws ws
same_places ws = record { change = λ w. w; leaves = record { key = λ w. refl; seq = λ w. refl }; same = sym (map-id ws) }

proved_places : (key : List ℕ) (seq ts : ℕ) (ws : List Write) → KeepsPlaces ws (map (proved_at key seq ts) ws)
proved_places key seq ts ws = record { change = proved_at key seq ts; leaves = record { key = proved-key key seq ts; seq = proved-seq key seq ts }; same = refl }

put_places : (key : List ℕ) (seq : ℕ) (reply : Reply) (ws : List Write) → KeepsPlaces ws (with_put_reply key seq reply ws)
put_places key seq (replies.Written ts) ws = proved_places key seq ts ws
put_places key seq reply ws = same_places ws

query_places : (key : List ℕ) (seq ts : ℕ) (reply : Reply) (ws : List Write) → KeepsPlaces ws (with_query_reply key seq ts reply ws)
query_places key seq ts replies.Found ws = proved_places key seq ts ws
query_places key seq ts reply ws = same_places ws

places_if : (b : Bool) (ws after : List Write) → KeepsPlaces ws after → KeepsPlaces ws (cond b after ws)
places_if true ws after kept = kept
places_if false ws after kept = same_places ws

replied_places : (id : TxnId) (epoch : ℕ) (request : Request) (reply : Reply) (ws : List Write) → KeepsPlaces ws (writes_replied id epoch request reply ws)
replied_places id epoch (requests.Put meta seq ts key value) reply ws = places_if (same_txn meta.id id && meta.epoch == epoch) ws (with_put_reply key seq reply ws) (put_places key seq reply ws)
replied_places id epoch (requests.Query other at_epoch seq ts key by) reply ws = places_if (same_txn other id && at_epoch == epoch) ws (with_query_reply key seq ts reply ws) (query_places key seq ts reply ws)
replied_places id epoch request reply ws = same_places ws

-- What is open of transactions that were changed was open of those before.
pub mapped_back : (f : Txn → Txn) (b : Bool) (txns : List Txn) (t : Txn) → first_if b (map f txns) ≡ Some t → (u : Txn) × (first_if b txns ≡ Some u) × (f u ≡ t)
mapped_back f true (u ∷ txns) t is = let same : f u ≡ t = cc in (u, refl, same)
mapped_back f true [] t is = absurd cc
mapped_back f false (u ∷ txns) t is = absurd cc
mapped_back f false [] t is = absurd cc

module _ (k now : Known) (full : IsFull now → IsFull k) where
  waits_back : (key : List ℕ) (call : Call) → WaitsFor now key call → WaitsFor k key call
  waits_back key (calls.Get own) waits = waits
  waits_back key (calls.Scan span) waits = waits
  waits_back key (calls.Put own value) (inl is) = inl is
  waits_back key (calls.Put own value) (inr many) = inr (full many)
  waits_back key (calls.Delete own) (inl is) = inl is
  waits_back key (calls.Delete own) (inr many) = inr (full many)
  waits_back key call waits = tt

  pub put_waits_back : (call : Call) (request : Request) → IsPutWaitedFor now call request → IsPutWaitedFor k call request
  put_waits_back call (requests.Put meta seq ts key value) waits = waits_back key call waits
  put_waits_back call request waits = tt

-- once a reply was heard
pub awaited_heard : (h : Heard) (request : Request) (k : Known) → IsAwaitedPut (with_heard h k) request → IsAwaitedPut k request
awaited_heard h request k a =
    let f : Txn → Txn = txn_heard k.sent (Some h) in
    let now : Known = with_heard h k in
    let back = mapped_back f k.is_open k.txns a.t a.opened in
    let u = back.0 in
    let places = replied_places u.id u.epoch h.request h.reply u.writes in
    let more : HasMore k now [] (h ∷ []) = record { sent = sym (append-nil k.sent); sent_now = sym (append-nil k.sent_now); heard = refl; heard_now = refl } in
    let heard : heard_before now ≡ heard_before k = same_before k now [] (h ∷ []) more in
    let full : IsFull now → IsFull k = full_from k now u (f u) back.1 (a.opened ∙ ap (λ (t : Txn). Some t) (sym back.2)) (full_back k now u (f u) places.change refl refl places.same places.leaves refl heard) in
    record {
      s = a.s;
      t = u;
      seq = a.seq;
      asked = a.asked;
      opened = back.1;
      put = subst (λ (t : Txn). IsTrue (is_put_of t.id t.epoch a.seq request)) (sym back.2) a.put;
      may_wait = a.may_wait;
      waits = put_waits_back k now full a.s.call request a.waits;
    }
