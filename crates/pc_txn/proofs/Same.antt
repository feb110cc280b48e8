-- A transaction and a key are the same as themselves.
use Rattle.std.proofs.Common.{◌≡◌, ℕ, Bool, true, false, cond, ◌&&◌, ◌==◌, refl, ap}
use Rattle.std.proofs.lemmas.Bool.{eq-eqb, and_from}
use Rattle.pc_base.specs.declared.transaction.TxnId.{TxnId}
use Rattle.pc_base.specs.Transaction.{same_txn}
use Rattle.pc_lists.proofs.Same.{same_txn-self}

pub same_epoch-self : (id : TxnId) (epoch : ℕ) → (same_txn id id && (epoch == epoch)) ≡ true
same_epoch-self id epoch = and_from (same_txn id id) (epoch == epoch) (same_txn-self id) (eq-eqb epoch epoch refl)

pub if_true : {A : Type 0} (b : Bool) (x y : A) → b ≡ true → cond b x y ≡ x
if_true b x y e = ap (λ b. cond b x y) e

pub if_false : {A : Type 0} (b : Bool) (x y : A) → b ≡ false → cond b x y ≡ y
if_false b x y e = ap (λ b. cond b x y) e
