-- What an open transaction is told of its end.
use Rattle.std.proofs.Common.{◌≡◌, ◌↔◌, ◌⊎◌, ℕ, Bool, true, false, Some, Any, IsTrue, List, inl, inr, refl, sym, subst, ◌∙◌, not}
use Rattle.pc_base.specs.declared.transaction.TxnId.{TxnId}
use Rattle.pc_may_tell.specs.Ending.{HasCommitted, IsCauseHeard}
use Rattle.pc_proto.specs.declared.call.Call.TheVariants as calls
use Rattle.pc_proto.specs.declared.why.Why.{Why}
use Rattle.pc_world.specs.Known.{Known, open_txn}
use Rattle.pc_world.specs.Known.Statements.{Statement}
use Rattle.pc_world.specs.Known.Traffic.{Heard}
use Rattle.pc_world.specs.Known.Transactions.{Txn}
use Rattle.pc_world.specs.Tell.End.{IsImplicit, IsUnwritten, MayTellCommitted, MayTellRolledBack}
use Rattle.pc_world.specs.Views.{ShowsAborted, WasAborted, WasCommitted}

some-same : (one other : Txn) → Some one ≡ Some other → one ≡ other
some-same one other e = cc

pub none_aborted : (id : TxnId) (heard : List Heard) (b : Bool) → IsTrue b ↔ Any (λ h. (why : Why) × ShowsAborted id why h) heard
    → IsTrue (not b) ↔ ((other : Why) → WasAborted heard id other → ⊥)
none_aborted id heard true is = (
  λ h. absurd cc,
  λ none. let a = is.0 refl in absurd (none a.4.0 (a.0, a.1, a.2, a.3, a.4.1)),
)
none_aborted id heard false is = (
  λ h other was. let on : false ≡ true = is.1 (was.0, was.1, was.2, was.3, (other, was.4)) in cc on,
  λ none. refl,
)

pub committed_iff : (k : Known) (s : Statement) (x : Txn) → open_txn k ≡ Some x → (id : TxnId) (ts : ℕ)
    → (((s.call ≡ calls.Commit) × (id ≡ x.id)) × HasCommitted k.heard x ts) ↔ MayTellCommitted k s id ts
committed_iff k s x opened id ts = (
  λ h. record { t = x; opened = opened; asked = h.0.0; whose = h.0.1; why = there h.1 },
  λ (m : MayTellCommitted k s id ts).
      let is : m.t ≡ x = some-same m.t x (sym m.opened ∙ opened) in
      subst (λ t. ((s.call ≡ calls.Commit) × (id ≡ t.id)) × HasCommitted k.heard t ts) is ((m.asked, m.whose), back m.t m.why),
)
  where
    there : HasCommitted k.heard x ts → IsUnwritten k x ts ⊎ WasCommitted k.heard x.id ts ⊎ IsImplicit k x ts
    there (inl h) = inl (record { no_put = h.0.0; at_begin = h.0.1; good = h.1 })
    there (inr (inl h)) = inr (inl h)
    there (inr (inr h)) = inr (inr (record { staging = h.0; proved = h.1 }))

    back : (t : Txn) → IsUnwritten k t ts ⊎ WasCommitted k.heard t.id ts ⊎ IsImplicit k t ts → HasCommitted k.heard t ts
    back t (inl h) = inl ((h.no_put, h.at_begin), h.good)
    back t (inr (inl h)) = inr (inl h)
    back t (inr (inr h)) = inr (inr (h.staging, h.proved))

pub rolled_back_iff : (k : Known) (s : Statement) (x : Txn) → open_txn k ≡ Some x → (id : TxnId) (why : Why)
    → (((s.call ≡ calls.Rollback) × (id ≡ x.id)) × IsCauseHeard k.heard_now x why) ↔ MayTellRolledBack k s id why
rolled_back_iff k s x opened id why = (
  λ h. record { t = x; opened = opened; asked = h.0.0; whose = h.0.1; cause = h.1 },
  λ (m : MayTellRolledBack k s id why).
      let is : m.t ≡ x = some-same m.t x (sym m.opened ∙ opened) in
      subst (λ t. ((s.call ≡ calls.Rollback) × (id ≡ t.id)) × IsCauseHeard k.heard_now t why) is ((m.asked, m.whose), m.cause),
)
