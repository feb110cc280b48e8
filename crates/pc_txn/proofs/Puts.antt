-- The puts of a transaction's write: which of the messages that were sent are of it.
use Rattle.std.proofs.Common.{◌≡◌, ℕ, ◌<◌, ◌≤◌, Bool, true, false, ◌&&◌, ◌||◌, ◌==◌, inl, inr, List, [], ◌∷◌, Option, Some, None, refl, sym, ap, ◌∙◌, subst, arith, All, IsTrue, unwrap_or}
use Rattle.std.specs.List.{list_any}
use Rattle.std.specs.Option.{option_or}
use Rattle.std.proofs.lemmas.Bool.{and_from, and_parts, eq-eqb, eqb-true}
use Rattle.std.proofs.lemmas.List.Elements.{All-head, All-tail}
use Rattle.pc_base.specs.declared.transaction.TxnId.{TxnId}
use Rattle.pc_base.specs.Transaction.{same_txn}
use Rattle.pc_lists.proofs.Same.{same_txn-self}
use Rattle.pc_proto.specs.declared.meta.TxnMeta.{TxnMeta}
use Rattle.pc_proto.specs.declared.request.Request.{Request}
use Rattle.pc_proto.specs.declared.request.Request.TheVariants as requests
use Rattle.pc_proto.specs.Requests.{is_put_of}
use Rattle.pc_txn.specs.Writing.{PutsUpTo}
use Rattle.pc_world.specs.Known.Traffic.{Sent}
use Rattle.pc_world.specs.Known.Transactions.{Txn}
use Rattle.pc_world.specs.SameRequest.{IsSameRequest}

pub anchor-some : (anchor : Option (List ℕ)) (key : List ℕ) → option_or anchor (Some key) ≡ Some (unwrap_or anchor key)
anchor-some None key = refl
anchor-some (Some a) key = refl

pub puts-own : (meta : TxnMeta) (seq ts : ℕ) (key : List ℕ) (value : Option (List ℕ)) → is_put_of meta.id meta.epoch seq (requests.Put meta seq ts key value) ≡ true
puts-own meta seq ts key value =
    and_from (same_txn meta.id meta.id) (meta.epoch == meta.epoch && (seq == seq)) (same_txn-self meta.id)
    (and_from (meta.epoch == meta.epoch) (seq == seq) (eq-eqb meta.epoch meta.epoch refl) (eq-eqb seq seq refl))

-- a message of one request with a put is a put of its write
pub same_put : (meta : TxnMeta) (seq ts : ℕ) (key : List ℕ) (value : Option (List ℕ)) (other : Request) → IsSameRequest (requests.Put meta seq ts key value) other → is_put_of meta.id meta.epoch seq other ≡ true
same_put meta seq ts key value other (inl e) = subst (λ r. is_put_of meta.id meta.epoch seq r ≡ true) e (puts-own meta seq ts key value)
same_put meta seq ts key value (requests.Put one at when place what) (inr (a, b, c)) =
    subst (λ id. is_put_of id meta.epoch seq (requests.Put one at when place what) ≡ true) (sym a)
    (subst (λ n. is_put_of one.id n seq (requests.Put one at when place what) ≡ true) (sym b)
    (subst (λ n. is_put_of one.id one.epoch n (requests.Put one at when place what) ≡ true) (sym c) (puts-own one at when place what)))
same_put meta seq ts key value other (inr same) = absurd same

-- no put of a sequence that is higher than all that were sent
pub no_put : (t : Txn) (low seq : ℕ) (sent : List Sent) → low < seq → All (λ m. PutsUpTo t low m.request) sent → list_any (λ other. is_put_of t.id t.epoch seq other.request) sent ≡ false
no_put t low seq [] h a = refl
no_put t low seq (m ∷ sent) h a =
    ap (λ b. b || list_any (λ other. is_put_of t.id t.epoch seq other.request) sent) (by (is_put_of t.id t.epoch seq m.request) refl)
    ∙ no_put t low seq sent h (All-tail (λ m. PutsUpTo t low m.request) m sent a)
  where
    by : (b : Bool) → is_put_of t.id t.epoch seq m.request ≡ b → b ≡ false
    by true e = let l : seq ≤ low = (All-head (λ m. PutsUpTo t low m.request) m sent a t.epoch seq e).1 refl in absurd (omega arith)
    by false e = refl

-- which write a put is of
put-of : (id : TxnId) (epoch seq n m : ℕ) (request : Request) → IsTrue (is_put_of id epoch seq request) → IsTrue (is_put_of id n m request) → (epoch ≡ n) × (seq ≡ m)
put-of id epoch seq n m (requests.Put meta at ts key value) a b =
    let x = and_parts (meta.epoch == epoch) (at == seq) (and_parts (same_txn meta.id id) (meta.epoch == epoch && at == seq) a).1 in
    let y = and_parts (meta.epoch == n) (at == m) (and_parts (same_txn meta.id id) (meta.epoch == n && at == m) b).1 in
    (sym (eqb-true meta.epoch epoch x.0) ∙ eqb-true meta.epoch n y.0, sym (eqb-true at seq x.1) ∙ eqb-true at m y.1)
put-of id epoch seq n m request a b = absurd cc

-- a put of one write is of no other sequence
pub own_seq : (id : TxnId) (epoch seq n : ℕ) (request : Request) → IsTrue (is_put_of id epoch seq request) → IsTrue (is_put_of id epoch n request) → n ≡ seq
own_seq id epoch seq n request own other = sym (put-of id epoch seq epoch n request own other).1

pub puts-one : (t : Txn) (seq last : ℕ) (request : Request) → IsTrue (is_put_of t.id t.epoch seq request) → seq ≤ last → PutsUpTo t last request
puts-one t seq last request is low epoch n other =
    let e = put-of t.id t.epoch seq epoch n request is other in
    (omega (arith, e.0), λ same. omega (arith, e.1))

pub puts-up : (t : Txn) (low high : ℕ) (request : Request) → low ≤ high → PutsUpTo t low request → PutsUpTo t high request
puts-up t low high request h up epoch seq is = let l = up epoch seq is in (l.0, λ same. let at : seq ≤ low = l.1 same in omega arith)
