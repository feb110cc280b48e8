-- Where as many writes were in flight as there may be when the call was asked, it stays so in the call.
use Rattle.std.proofs.Common.{◌≡◌, ℕ, ◌+◌, ◌≤◌, Bool, true, cond, not, ◌&&◌, ◌==◌, List, [], ◌∷◌, map, Option, Contains, refl, sym, ap, ◌∙◌, arith, count_by, Some, subst}
use Rattle.std.proofs.lemmas.Option.{same_Some}
use Rattle.std.specs.List.{list_any}
use Rattle.pc_flight.specs.declared.write.WriteInFlight.{WriteInFlight}
use Rattle.pc_base.specs.declared.limits.TheConstants.{MOST_IN_FLIGHT}
use Rattle.pc_base.specs.Transaction.{same_txn}
use Rattle.pc_follows.specs.PipelinedPuts.{heard_before, proves, was_in_flight, IsFull}
use Rattle.pc_lists.proofs.Counts.{count-cons, one_if}
use Rattle.pc_proto.specs.Requests.{is_put_of}
use Rattle.pc_world.specs.Known.{Known, open_txn}
use Rattle.pc_world.specs.Known.Traffic.{Heard}
use Rattle.pc_txn.proofs.Laying.{known_one, seq_is}
use Rattle.pc_txn.proofs.Lists.{any_numbered}
use Rattle.pc_txn.proofs.Same.{same_epoch-self}
use Rattle.pc_txn.proofs.Writes.{put-again}
use Rattle.pc_txn.proofs.Proves.{all_proves_as}
use Rattle.pc_txn.specs.declared.txn.OpenTxn.{OpenTxn}
use Rattle.pc_txn.specs.Opened.{put_at}
use Rattle.pc_txn.specs.Standing.{TxnStands}
use Rattle.pc_world.specs.Known.Transactions.{Txn, txn_sent}
use Rattle.pc_world.specs.Known.Writes.{Write, asked_again, with_put}
use Rattle.pc_world.specs.StageFate.{SentCommit, SentStage}
use Rattle.pc_world.specs.Tell.Data.{sent_before}

-- The change leaves the key and the sequence of each write.
pub record LeavesPlaces (change : Write → Write) : Type 0 where
  pub key : (w : Write) → (change w).key ≡ w.key
  pub seq : (w : Write) → (change w).seq ≡ w.seq

module _ (k now : Known) (t later : Txn) (change : Write → Write) (id : later.id ≡ t.id) (epoch : later.epoch ≡ t.epoch) (writes : later.writes ≡ map change t.writes) (leaves : LeavesPlaces change)
    (sent : sent_before now ≡ sent_before k) (heard : heard_before now ≡ heard_before k) where
  was_same : (w : Write) → was_in_flight now later (change w) ≡ was_in_flight k t w
  was_same w =
      let flown : List Heard → Bool = λ hs. not (list_any (proves later (change w)) hs) in
      ap (λ ms. list_any (λ m. is_put_of later.id later.epoch (change w).seq m.request) ms && flown (heard_before now)) sent
      ∙ ap (λ n. list_any (λ m. is_put_of later.id later.epoch n m.request) (sent_before k) && flown (heard_before now)) (leaves.seq w)
      ∙ ap (λ i. list_any (λ m. is_put_of i later.epoch w.seq m.request) (sent_before k) && flown (heard_before now)) id
      ∙ ap (λ e. list_any (λ m. is_put_of t.id e w.seq m.request) (sent_before k) && flown (heard_before now)) epoch
      ∙ ap (λ hs. list_any (λ m. is_put_of t.id t.epoch w.seq m.request) (sent_before k) && flown hs) heard
      ∙ ap (λ b. list_any (λ m. is_put_of t.id t.epoch w.seq m.request) (sent_before k) && not b) (all_proves_as t later (change w) w id epoch (leaves.key w) (leaves.seq w) (heard_before k))

  counts_same : (ws : List Write) → count_by (was_in_flight now later) (map change ws) ≡ count_by (was_in_flight k t) ws
  counts_same [] = refl
  counts_same (w ∷ ws) =
      let a : count_by (was_in_flight now later) (change w ∷ map change ws) ≡ one_if (was_in_flight now later (change w)) + count_by (was_in_flight now later) (map change ws) = count-cons (was_in_flight now later) (change w) (map change ws) in
      let b : count_by (was_in_flight k t) (w ∷ ws) ≡ one_if (was_in_flight k t w) + count_by (was_in_flight k t) ws = count-cons (was_in_flight k t) w ws in
      let c : one_if (was_in_flight now later (change w)) ≡ one_if (was_in_flight k t w) = ap one_if (was_same w) in
      let d : count_by (was_in_flight now later) (map change ws) ≡ count_by (was_in_flight k t) ws = counts_same ws in
      omega (arith, a, b, c, d)

  -- as many were in flight then
  pub full_stays : MOST_IN_FLIGHT ≤ count_by (was_in_flight k t) t.writes → MOST_IN_FLIGHT ≤ count_by (was_in_flight now later) later.writes
  full_stays many = let e : count_by (was_in_flight now later) later.writes ≡ count_by (was_in_flight k t) t.writes = ap (count_by (was_in_flight now later)) writes ∙ counts_same t.writes in omega (arith, many, e)

  -- and no more
  pub full_back : MOST_IN_FLIGHT ≤ count_by (was_in_flight now later) later.writes → MOST_IN_FLIGHT ≤ count_by (was_in_flight k t) t.writes
  full_back many = let e : count_by (was_in_flight now later) later.writes ≡ count_by (was_in_flight k t) t.writes = ap (count_by (was_in_flight now later)) writes ∙ counts_same t.writes in omega (arith, many, e)

-- so it was where it is so of the open transaction later
pub full_from : (k now : Known) (t later : Txn) → open_txn k ≡ Some t → open_txn now ≡ Some later → (MOST_IN_FLIGHT ≤ count_by (was_in_flight now later) later.writes → MOST_IN_FLIGHT ≤ count_by (was_in_flight k t) t.writes) → IsFull now → IsFull k
full_from k now t later here there on full =
    let same : full.0 ≡ later = same_Some full.0 later (sym full.1 ∙ there) in
    (t, here, on (subst (λ (t : Txn). MOST_IN_FLIGHT ≤ count_by (was_in_flight now t) t.writes) same full.2))

-- a write that goes out again is asked for once more, and no more changes of the writes
pub resent_writes : (k : Known) (stages : List SentStage) (commit : Option SentCommit) (t : Txn) (x : OpenTxn) (st : TxnStands k stages commit t x) (f : WriteInFlight) → Contains x.in_flight f → (anchor : List ℕ) (ts : ℕ)
    → (txn_sent (put_at x anchor ts f) t).writes ≡ map (asked_again f.seq ts) t.writes
resent_writes k stages commit t x st f there anchor ts =
    let own : (same_txn x.id t.id && (x.epoch == t.epoch)) ≡ true = ap (λ (x : OpenTxn). same_txn x.id t.id && (x.epoch == t.epoch)) st.same ∙ same_epoch-self t.id t.epoch in
    let one = known_one k stages commit t x st f there in
    ap (λ b. cond b (with_put f.seq ts f.key f.value t.writes) t.writes) own
    ∙ put-again f.seq ts f.key f.value t.writes (any_numbered (λ (w : Write). w.seq) f.seq t.writes one.w one.written (seq_is k stages commit t x st f there))
