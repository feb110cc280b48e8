-- The read bound never falls, and at one timestamp it gains no owner.
use Rattle.std.proofs.Common.{◌≡◌, ℕ, max, Bool, true, false, if◌then◌else◌, ◌⊎◌, inl, inr, List, Option, None, Some, refl, ◌∙◌, arith}
use Rattle.std.proofs.lemmas.Grind.{common_steps}
use Rattle.std.specs.Option.{option_map}
use Rattle.pc_base.specs.Bound.{ReadBound, owner_after, raised, shared_owner}
use Rattle.pc_base.specs.declared.transaction.TxnId.{TxnId}
use Rattle.pc_base.specs.Transaction.{same_txn}
use Rattle.pc_implicit.proofs.Lift.{GoesOn}
use Rattle.pc_implicit.specs.Decided.{BoundStands}
use Rattle.pc_proto.specs.declared.record.Intent.{Intent}
use Rattle.pc_proto.specs.declared.request.Request.{Request}
use Rattle.pc_proto.specs.declared.request.Request.TheVariants as requests
use Rattle.pc_proto.specs.Intents.{first_other}
use Rattle.pc_world.specs.Evaluation.{bound_after}
use Rattle.pc_world.specs.Evaluation.Get.{bound_after_read, get_blocker}
use Rattle.pc_world.specs.Evaluation.Query.{write_stands}
use Rattle.pc_world.specs.Evaluation.Refresh.{refreshed_bound, refuter_in}
use Rattle.pc_world.specs.RangeState.{RangeState}

stands-itself : (b : ReadBound) → BoundStands b b
stands-itself b = record { ts = omega arith; owner = λ _. inl refl }

stands-on : (a b c : ReadBound) → BoundStands a b → BoundStands b c → BoundStands a c
stands-on a b c h k = record {
  ts = omega (arith, h.ts, k.ts);
  owner = λ same.
      let first : a.ts ≡ b.ts = omega (arith, h.ts, k.ts) in
      let second : b.ts ≡ c.ts = omega (arith, h.ts, k.ts) in
      elim (k.owner second) [
        | inl kept ↦ elim (h.owner first) [ inl also ↦ inl (kept ∙ also) | inr lost ↦ inr (kept ∙ lost) ]
        | inr lost ↦ inr lost
      ];
}

shared : (one other : Option TxnId) → (shared_owner one other ≡ one) ⊎ (shared_owner one other ≡ None)
shared None other = inl refl
shared (Some one) None = inr refl
shared (Some one) (Some other) = by (same_txn one other)
  where
    by : (b : Bool) → ((if b then Some one else None) ≡ Some one) ⊎ ((if b then Some one else None) ≡ None)
    by true = inl refl
    by false = inr refl

owner-then : (ts : ℕ) (reader : Option TxnId) (b : ReadBound) → b.ts ≡ max b.ts ts → (owner_after ts reader b ≡ b.owner) ⊎ (owner_after ts reader b ≡ None)
owner-then ts reader b h = let s = shared b.owner reader in grind (arith, common_steps, s)

pub raised-stands : (ts : ℕ) (reader : Option TxnId) (b : ReadBound) → BoundStands b (raised ts reader b)
raised-stands ts reader b = record { ts = omega arith; owner = owner-then ts reader b }

read-stands : (blocker : Option Intent) (id : TxnId) (ts : ℕ) (b : ReadBound) → BoundStands b (bound_after_read blocker id ts b)
read-stands None id ts b = raised-stands ts (Some id) b
read-stands (Some i) id ts b = stands-itself b

refreshed-stands : (w : Option (List ℕ × ℕ)) (id : TxnId) (to : ℕ) (b : ReadBound) → BoundStands b (refreshed_bound w id to b)
refreshed-stands None id to b = raised-stands to (Some id) b
refreshed-stands (Some w) id to b = stands-itself b

query-stands : (found : Bool) (ts : ℕ) (b : ReadBound) → BoundStands b (if found then b else raised ts None b)
query-stands true ts b = stands-itself b
query-stands false ts b = raised-stands ts None b

bound-row : (request : Request) (s : RangeState) → BoundStands s.bound (bound_after request s)
bound-row (requests.Get id epoch seq ts key) s = read-stands (get_blocker id ts key s) id ts s.bound
bound-row (requests.Scan id epoch seq ts span) s = read-stands (option_map (λ e. e.1) (first_other span ts id s.intents)) id ts s.bound
bound-row (requests.Refresh id from to span) s = refreshed-stands (refuter_in id from to span s) id to s.bound
bound-row (requests.Query id epoch seq ts key by) s = query-stands (write_stands id epoch seq ts key s) ts s.bound
bound-row request s = stands-itself s.bound

pub bound_goes_on : GoesOn (λ s t. BoundStands s.bound t.bound)
bound_goes_on = record {
  same = λ s. stands-itself s.bound;
  on = λ s t u. stands-on s.bound t.bound u.bound;
  step = bound-row;
}
