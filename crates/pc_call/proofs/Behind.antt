-- What a round asks for behind its push goes out beside the waves of its call.
use Rattle.std.proofs.Common.{◌≡◌, ℕ, zero, suc, ◌≤◌, true, false, inl, inr, List, [], All, sym, ap, ◌∙◌, arith}
use Rattle.pc_base.specs.declared.transaction.TxnId.{TxnId}
use Rattle.pc_call.specs.Paced.{IsBehindPushOf}
use Rattle.pc_proto.specs.declared.request.Request.{Request}
use Rattle.pc_proto.specs.declared.request.Request.TheVariants as requests
use Rattle.pc_wave.proofs.Lists.{at_least-before}
use Rattle.pc_wave.specs.Standing.{goes_beside}
use Rattle.pc_world.specs.Counting.{AtLeast}
use Rattle.pc_world.specs.SameRequest.{IsSameRequest}

module _ {X : Type 0} (P : X → Type 0) where
  none_in : (n m : ℕ) → AtLeast P n [] → n ≤ m
  none_in zero m h = omega arith
  none_in (suc n) m h = absurd h

  -- where none is so, no more are than any number
  pub none_many : (n : ℕ) (xs : List X) → All (λ x. P x → ⊥) xs → (m : ℕ) → AtLeast P n xs → n ≤ m
  none_many n xs none m h = none_in n m (at_least-before P n [] xs none h)

-- so no message of a wave is one
pub not_behind : (id : TxnId) (request other : Request) → IsBehindPushOf id request → goes_beside other ≡ false → IsSameRequest request other → ⊥
not_behind id request other of wave (inl same) = let e : true ≡ false = sym of.beside ∙ (ap goes_beside same ∙ wave) in cc
not_behind id (requests.Put meta seq ts key value) other of wave (inr put) = let e : false ≡ true = of.beside in cc
not_behind id request other of wave (inr put) = put
