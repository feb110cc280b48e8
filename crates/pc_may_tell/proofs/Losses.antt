-- Whose write a lost message put, and what is told then.
use Rattle.std.proofs.Common.{◌≡◌, ◌↔◌, ◌&&◌, ◌==◌, ℕ, Bool, true, false, Contains, Option, None, Some, IsTrue, refl, sym, ap, subst, ◌∙◌}
use Rattle.std.proofs.lemmas.Bool.{and_parts}
use Rattle.pc_base.specs.declared.transaction.TxnId.{TxnId}
use Rattle.pc_base.specs.Transaction.{same_txn}
use Rattle.pc_lists.proofs.Same.{same_txn-is}
use Rattle.pc_may_tell.proofs.Alike.{lost_once}
use Rattle.pc_files.specs.Filing.{put_by}
use Rattle.pc_may_tell.specs.Losing.{IsUnprovedIn}
use Rattle.pc_proto.specs.declared.call.Call.TheVariants as calls
use Rattle.pc_proto.specs.declared.request.Request.{Request}
use Rattle.pc_proto.specs.declared.request.Request.TheVariants as requests
use Rattle.pc_proto.specs.Requests.{is_put_of}
use Rattle.pc_world.specs.Known.{Known, open_txn}
use Rattle.pc_world.specs.Known.Statements.{Statement}
use Rattle.pc_world.specs.Known.Traffic.{Sent}
use Rattle.pc_world.specs.Known.Transactions.{Txn}
use Rattle.pc_world.specs.Tell.Refusal.{IsUnprovedPut, MayHaveCommitted, MayTellUnknown, WasLost}

some-same : {W : Type 0} (one other : W) → Some one ≡ Some other → one ≡ other
some-same one other e = cc

module _ {W : Type 0} (P Q : W → Type 0) (b : Bool) where
  abbrev pub nothing : Option W
  nothing = None

  pub through_some : (x : W) → ((w : W) → (Some x ≡ Some w) ↔ P w) → IsTrue b ↔ Q x → IsTrue b ↔ ((w : W) × P w × Q w)
  through_some x found is = (λ h. (x, (found x).0 refl, is.0 h), λ e. is.1 (subst Q (sym (some-same x e.0 ((found e.0).1 e.1))) e.2))

  pub through_none : ((w : W) → (nothing ≡ Some w) ↔ P w) → b ≡ false → IsTrue b ↔ ((w : W) × P w × Q w)
  through_none found off = (λ h. absurd (cc (off, h)), λ e. let none = (found e.0).1 e.1 in absurd (cc none))

put-is : (id : TxnId) (epoch seq : ℕ) (r : Request) → is_put_of id epoch seq r ≡ true → put_by r ≡ Some id
put-is id epoch seq (requests.Put meta at ts key value) is =
    ap Some (same_txn-is meta.id id (and_parts (same_txn meta.id id) (meta.epoch == epoch && at == seq) is).0)
put-is id epoch seq r is = absurd (cc is)

module _ (k : Known) (r : Request) where
  by-own : (t : Txn) → IsUnprovedIn t r → put_by r ≡ Some t.id
  by-own t a = put-is t.id t.epoch a.1.seq r a.4.1

  pub own_put : (id : TxnId) → put_by r ≡ Some id → ((t : Txn) × (Contains k.txns t × (t.id ≡ id)) × IsUnprovedIn t r) ↔ ((t : Txn) × Contains k.txns t × IsUnprovedIn t r)
  own_put id is = (
    λ h. (h.0, h.1.0, h.2),
    λ m. (m.0, (m.1, some-same m.0.id id (sym (by-own m.0 m.2) ∙ is)), m.2),
  )

  pub own_put_none : put_by r ≡ None → ((t : Txn) × Contains k.txns t × IsUnprovedIn t r) → ⊥
  own_put_none none m = let some = by-own m.0 m.2 in cc (none, some)

pub unproved_put : (k : Known) (m : Sent) → ((t : Txn) × Contains k.txns t × IsUnprovedIn t m.request) ↔ IsUnprovedPut k.txns m
unproved_put k m = (
  λ h. record { t = h.0; w = h.2.1; mine = h.1; written = (h.2.0, h.2.2, h.2.3); unproved = h.2.4.0; put = h.2.4.1 },
  λ (p : IsUnprovedPut k.txns m). (p.t, p.mine, (p.written.0, p.w, p.written.1, p.written.2, (p.unproved, p.put))),
)

pub unknown_iff : (k : Known) (s : Statement) (x : Txn) → open_txn k ≡ Some x → (id : TxnId)
    → (((s.call ≡ calls.Commit) × (id ≡ x.id)) × (WasLost k 1 × MayHaveCommitted k id)) ↔ MayTellUnknown k s id
unknown_iff k s x opened id = (
  λ h. record { t = x; faults = 1; opened = opened; asked = h.0.0; whose = h.0.1; lost = h.1.0; doubt = subst (MayHaveCommitted k) h.0.1 h.1.1 },
  λ (m : MayTellUnknown k s id).
      let is : m.t ≡ x = some-same m.t x (sym m.opened ∙ opened) in
      ((m.asked, m.whose ∙ ap (λ (t : Txn). t.id) is), (lost_once k m.faults m.lost, subst (MayHaveCommitted k) (sym m.whose) m.doubt)),
)
