use Rattle.std.proofs.Common.{◌≡◌, true, Some, inl, inr, subst, sym}
use Rattle.pc_proto.specs.declared.call.Call.TheVariants as calls
use Rattle.pc_may_send.proofs.commit.may_commit.Goals as goal
use Rattle.pc_world.specs.Known.{call_of, open_txn}
use Rattle.pc_world.specs.Known.Transactions.{Txn}

pub returns-then-is_in_commit : goal.returns-then-is_in_commit
returns-then-is_in_commit c k keeps = (
  λ h. inl (subst (λ id. ((u : Txn) × (open_txn k ≡ Some u) × (u.id ≡ id)) × (call_of k ≡ Some calls.Commit)) c.id.ensures ((c.is_in_commit.ensures k keeps).0 c.if-is_in_commit.true)),
  λ m. c.if-is_in_commit.true,
)

pub returns-else-is_in_commit : goal.returns-else-is_in_commit
returns-else-is_in_commit c k keeps = (
  λ ok. inr (c.was_told.ensures.0 ok),
  λ m. elim m [
    | inl h ↦
        let on : c.is_in_commit.result ≡ true =
        (c.is_in_commit.ensures k keeps).1 (subst (λ id. ((u : Txn) × (open_txn k ≡ Some u) × (u.id ≡ id)) × (call_of k ≡ Some calls.Commit)) (sym c.id.ensures) h) in
        let off = c.if-is_in_commit.false in
        absurd (cc (on, off))
    | inr h ↦ c.was_told.ensures.1 h
  ],
)
