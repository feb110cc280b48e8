-- A write that a query found is proved, while the transaction goes on; so nothing that was heard proves a write that is in flight.
use Rattle.std.proofs.Common.{◌≡◌, ℕ, ◌≤◌, Bool, true, false, cond, ◌&&◌, ◌==◌, ◌||◌, not, List, [], ◌∷◌, ◌++◌, map, refl, sym, ap, ◌∙◌, subst, arith, All, Contains, IsTrue}
use Rattle.std.specs.List.{list_any}
use Rattle.std.proofs.lemmas.Bool.{and_from, and_parts, eq-eqb, eqb-true}
use Rattle.std.proofs.lemmas.List.Elements.{All-append, All-contains, All-cons, All-map, All-nil, All-weaker}
use Rattle.std.proofs.lemmas.List.Folds.{list_any_none}
use Rattle.pc_base.specs.Span.{same_key}
use Rattle.pc_base.specs.Transaction.{same_txn}
use Rattle.pc_follows.specs.PipelinedPuts.{proves}
use Rattle.pc_lists.proofs.Lists.{all_from_contains}
use Rattle.pc_lists.proofs.Same.{same_key-equal}
use Rattle.pc_proto.specs.declared.reply.Reply.{Reply}
use Rattle.pc_proto.specs.declared.reply.Reply.TheVariants as replies
use Rattle.pc_proto.specs.declared.request.Request.{Request}
use Rattle.pc_proto.specs.declared.request.Request.TheVariants as requests
use Rattle.pc_proto.specs.Replies.{is_written}
use Rattle.pc_txn.proofs.Writes.{asked-proofs, asked-seq, proved-seq}
use Rattle.pc_txn.specs.Writing.{IsFoundProved, IsNotWritten, IsProvedAt, finds}
use Rattle.pc_world.specs.Known.Traffic.{Heard}
use Rattle.pc_world.specs.Known.Transactions.{Txn}
use Rattle.pc_world.specs.Known.Writes.{Write, asked_again, is_proved, last_seq_of, proved_at, with_put_reply, with_query_reply, writes_replied}

-- what finds no write of the transaction asks for nothing
pub finds_none : (t : Txn) (h : Heard) → ((epoch seq : ℕ) → finds t.id epoch seq h.request h.reply ≡ false) → IsFoundProved t h
finds_none t h none epoch seq is = let not_it : finds t.id epoch seq h.request h.reply ≡ false = none epoch seq in let it : finds t.id epoch seq h.request h.reply ≡ true = is in absurd cc

pub finds_none_alone : (t : Txn) (h : Heard) → ((epoch seq : ℕ) → finds t.id epoch seq h.request h.reply ≡ false) → All (IsFoundProved t) (h ∷ [])
finds_none_alone t h none = All-cons (IsFoundProved t) h [] (finds_none t h none) (All-nil (IsFoundProved t))

module _ (heard more : List Heard) (t now : Txn) (id_is : now.id ≡ t.id) (epoch_is : now.epoch ≡ t.epoch) where
  -- beside what else is heard, where the writes that are proved stay so
  pub found_on : last_seq_of t.writes ≤ last_seq_of now.writes → ((seq : ℕ) → seq ≤ last_seq_of t.writes → All (IsProvedAt seq) t.writes → All (IsProvedAt seq) now.writes) → All (IsFoundProved t) heard → All (IsFoundProved now) more
      → All (IsFoundProved now) (heard ++ more)
  found_on last on before new = All-append (IsFoundProved now) heard more (All-weaker (IsFoundProved t) (IsFoundProved now) one heard before) new
    where
      one : (h : Heard) → IsFoundProved t h → IsFoundProved now h
      one h f epoch seq is =
          let g = f epoch seq (subst (λ i. IsTrue (finds i epoch seq h.request h.reply)) id_is is) in
          let low = g.0 in
          (omega (arith, low, epoch_is), λ same. let r = g.1 (same ∙ epoch_is) in let most = r.0 in (omega (arith, most, last), on seq r.0 r.1))

  -- where they are as they were
  pub found_same : now.writes ≡ t.writes → All (IsFoundProved t) heard → All (IsFoundProved now) more → All (IsFoundProved now) (heard ++ more)
  found_same same before new =
      let last : last_seq_of now.writes ≡ last_seq_of t.writes = ap last_seq_of same in
      found_on (omega (arith, last)) (λ seq low all. subst (λ ws. All (IsProvedAt seq) ws) (sym same) all) before new

-- a write that goes out again is as proved as before
pub asked_proved : (n ts seq : ℕ) (ws : List Write) → All (IsProvedAt seq) ws → All (IsProvedAt seq) (map (asked_again n ts) ws)
asked_proved n ts seq ws all =
    All-map (IsProvedAt seq) (asked_again n ts) ws
    (All-weaker (IsProvedAt seq) (λ w. IsProvedAt seq (asked_again n ts w)) (λ w p same. ap (list_any (λ p. true)) (asked-proofs n ts w) ∙ p (sym (asked-seq n ts w) ∙ same)) ws all)

more_proofs : (proofs : List ℕ) (at : ℕ) → list_any (λ p. true) (proofs ++ at ∷ []) ≡ true
more_proofs [] at = refl
more_proofs (p ∷ ps) at = refl

still_proved : (key : List ℕ) (n at : ℕ) (w : Write) → is_proved w ≡ true → is_proved (proved_at key n at w) ≡ true
still_proved key n at w is = by (w.seq == n && same_key w.key key)
  where
    by : (b : Bool) → is_proved (cond b (record w { proofs = w.proofs ++ at ∷ [] }) w) ≡ true
    by true = more_proofs w.proofs at
    by false = is

pub placed_proved : (key : List ℕ) (n at seq : ℕ) (ws : List Write) → All (IsProvedAt seq) ws → All (IsProvedAt seq) (map (proved_at key n at) ws)
placed_proved key n at seq ws all =
    All-map (IsProvedAt seq) (proved_at key n at) ws
    (All-weaker (IsProvedAt seq) (λ w. IsProvedAt seq (proved_at key n at w)) (λ w p same. still_proved key n at w (p (sym (proved-seq key n at w) ∙ same))) ws all)

-- the write that is proved is so, where it is the one of its sequence
pub hit_proved : (key : List ℕ) (n at : ℕ) (ws : List Write) → ((w : Write) → Contains ws w → w.seq ≡ n → w.key ≡ key) → All (IsProvedAt n) (map (proved_at key n at) ws)
hit_proved key n at ws place =
    All-map (IsProvedAt n) (proved_at key n at) ws
    (all_from_contains (λ w. IsProvedAt n (proved_at key n at w)) ws (λ w there same.
    let seq : w.seq ≡ n = sym (proved-seq key n at w) ∙ same in
    let hit : (w.seq == n && same_key w.key key) ≡ true = and_from (w.seq == n) (same_key w.key key) (eq-eqb w.seq n seq) (same_key-equal w.key key (place w there seq)) in
    ap (λ b. is_proved (cond b (record w { proofs = w.proofs ++ at ∷ [] }) w)) hit ∙ more_proofs w.proofs at))

-- ---- nothing that was heard proves a write that is not proved

-- The write, none of whose proofs was heard yet.
abbrev bare : Write → Write
bare w = record w { proofs = [] }

some-proved : (key : List ℕ) (n at : ℕ) (w : Write) → (w.seq ≡ n → ⊥) → list_any is_proved (map (proved_at key n at) (bare w ∷ [])) ≡ false
some-proved key n at w other = by (w.seq == n && same_key w.key key) refl
  where
    by : (b : Bool) → (w.seq == n && same_key w.key key) ≡ b → (is_proved (cond b (record (bare w) { proofs = [] ++ at ∷ [] }) (bare w)) || false) ≡ false
    by true hit = absurd (other (eqb-true w.seq n (and_parts (w.seq == n) (same_key w.key key) hit).0))
    by false miss = refl

module _ (t : Txn) (w : Write) where
  put_proves : (b : Bool) (key : List ℕ) (n : ℕ) (reply : Reply) → (b ≡ true → (at : ℕ) → reply ≡ replies.Written at → w.seq ≡ n → ⊥) → list_any is_proved (cond b (with_put_reply key n reply (bare w ∷ [])) (bare w ∷ [])) ≡ false
  put_proves false key n reply other = refl
  put_proves true key n (replies.Written at) other = some-proved key n at w (other refl at refl)
  put_proves true key n reply other = refl

  query_proves : (b : Bool) (key : List ℕ) (n ts : ℕ) (reply : Reply) → (b ≡ true → reply ≡ replies.Found → w.seq ≡ n → ⊥) → list_any is_proved (cond b (with_query_reply key n ts reply (bare w ∷ [])) (bare w ∷ [])) ≡ false
  query_proves false key n ts reply other = refl
  query_proves true key n ts replies.Found other = some-proved key n ts w (other refl refl)
  query_proves true key n ts reply other = refl

  module _ (there : Contains t.writes w) (unproved : IsTrue (not (is_proved w))) (reply : Reply) (number step : ℕ) where
    replied : (r : Request) → IsNotWritten t w.seq (record { number = number; request = r; reply = reply; step = step }) → IsFoundProved t (record { number = number; request = r; reply = reply; step = step })
        → list_any is_proved (writes_replied t.id t.epoch r reply (bare w ∷ [])) ≡ false
    replied (requests.Put meta n ts key value) unwritten found =
        put_proves (same_txn meta.id t.id && meta.epoch == t.epoch) key n reply (λ own at told same.
        let parts = and_parts (same_txn meta.id t.id) (meta.epoch == t.epoch) own in
        let puts : (same_txn meta.id t.id && (meta.epoch == t.epoch && n == w.seq)) ≡ true =
        and_from (same_txn meta.id t.id) (meta.epoch == t.epoch && n == w.seq) parts.0 (and_from (meta.epoch == t.epoch) (n == w.seq) parts.1 (eq-eqb n w.seq (sym same))) in
        let not_it = unwritten puts in
        let it = ap is_written told in
        absurd cc)
    replied (requests.Query other epoch n ts key by) unwritten found =
        query_proves (same_txn other t.id && epoch == t.epoch) key n ts reply (λ own told same.
        let parts = and_parts (same_txn other t.id) (epoch == t.epoch) own in
        let it : finds t.id epoch n (requests.Query other epoch n ts key by) reply ≡ true =
        ap (finds t.id epoch n (requests.Query other epoch n ts key by)) told
        ∙ and_from (same_txn other t.id) (epoch == epoch && n == n) parts.0 (and_from (epoch == epoch) (n == n) (eq-eqb epoch epoch refl) (eq-eqb n n refl)) in
        let g = (found epoch n it).1 (eqb-true epoch t.epoch parts.1) in
        let is : is_proved w ≡ true = All-contains (IsProvedAt n) t.writes w g.1 there same in
        let not_it : not (is_proved w) ≡ true = unproved in
        absurd cc)
    replied r unwritten found = refl

  pub proves_none : Contains t.writes w → IsTrue (not (is_proved w)) → (heard : List Heard) → All (IsNotWritten t w.seq) heard → All (IsFoundProved t) heard → list_any (proves t w) heard ≡ false
  proves_none there unproved heard unwritten found =
      list_any_none (proves t w) heard
      (all_from_contains (λ h. proves t w h ≡ false) heard (λ h inside. replied there unproved h.reply h.number h.step h.request (All-contains (IsNotWritten t w.seq) heard h unwritten inside) (All-contains (IsFoundProved t) heard h found inside)))
