-- The place of one transaction after a request: changed where the request speaks of it, else as it was.
use Rattle.std.proofs.Common.{◌≡◌, Bool, true, false, Option, None, Some, refl, sym, ap, subst, ◌∙◌}
use Rattle.pc_base.specs.declared.transaction.TxnId.{TxnId}
use Rattle.pc_base.specs.Keyed.{at}
use Rattle.pc_base.specs.Transaction.{same_txn}
use Rattle.pc_implicit.proofs.Keyed.{at_set_at, at_set_other, at_without, at_without_other}
use Rattle.pc_lists.proofs.Same.{same_txn-is}
use Rattle.pc_proto.specs.declared.request.Request.{Request}
use Rattle.pc_proto.specs.Place.{Place, Change, Stay, Become, Finish, after}
use Rattle.pc_proto.specs.RecordRows.{place_change, table_after, table_for}
use Rattle.pc_proto.specs.Requests.{subject}
use Rattle.pc_proto.specs.Table.{Table, applied_to, marks_after, place_of, record_or_mark}

pub place_after : (id : TxnId) (c : Change) (t : Table) → place_of id (applied_to id c t) ≡ after (place_of id t) c
place_after id Stay t = refl
place_after id (Become r) t = ap (λ o. record_or_mark o (at same_txn id t.marks)) (at_set_at id r t.records)
place_after id (Finish s) t =
    ap (λ o. record_or_mark o (at same_txn id (marks_after id (Finish s) t.marks))) (at_without id t.records)
    ∙ ap (λ o. record_or_mark None o) (at_set_at id s t.marks)

pub place_other : (id other : TxnId) (c : Change) (t : Table) → same_txn id other ≡ false → place_of other (applied_to id c t) ≡ place_of other t
place_other id other Stay t h = refl
place_other id other (Become r) t h = ap (λ o. record_or_mark o (at same_txn other t.marks)) (at_set_other id other r t.records h)
place_other id other (Finish s) t h =
    ap (λ o. record_or_mark o (at same_txn other (marks_after id (Finish s) t.marks))) (at_without_other id other t.records h)
    ∙ ap (λ o. record_or_mark (at same_txn other t.records) o) (at_set_other id other s t.marks h)

module _ (Q : Place → Place → Type 0) (same : (p : Place) → Q p p) (row : (request : Request) (p : Place) → Q p (after p (place_change request p))) where
  by-id : (one other : TxnId) (request : Request) (t : Table) (b : Bool) → same_txn one other ≡ b → Q (place_of other t) (place_of other (applied_to one (place_change request (place_of one t)) t))
  by-id one other request t true h =
      let is : one ≡ other = same_txn-is one other h in
      subst (λ id. Q (place_of id t) (place_of id (applied_to one (place_change request (place_of one t)) t))) is
      (subst (Q (place_of one t)) (sym (place_after one (place_change request (place_of one t)) t)) (row request (place_of one t)))
  by-id one other request t false h =
      subst (Q (place_of other t)) (sym (place_other one other (place_change request (place_of one t)) t h)) (same (place_of other t))

  by-subject : (one : Option TxnId) (other : TxnId) (request : Request) (t : Table) → Q (place_of other t) (place_of other (table_for one request t))
  by-subject None other request t = same (place_of other t)
  by-subject (Some one) other request t = by-id one other request t (same_txn one other) refl

  -- what holds over each row holds of each transaction's place over each request
  pub at_place : (id : TxnId) (request : Request) (t : Table) → Q (place_of id t) (place_of id (table_after request t))
  at_place id request t = by-subject (subject request) id request t

module _ (P : Place → Type 0) (request : Request) (other : TxnId) (t : Table) where
  -- The row keeps it, where the request speaks of the transaction.
  Keeps : Type 0
  Keeps = subject request ≡ Some other → P (place_of other t) → P (after (place_of other t) (place_change request (place_of other t)))

  kept-by-id : (one : TxnId) (b : Bool) → same_txn one other ≡ b → subject request ≡ Some one → Keeps → P (place_of other t) → P (place_of other (applied_to one (place_change request (place_of one t)) t))
  unfolding Keeps
  kept-by-id one true h about keeps holds =
      let is : one ≡ other = same_txn-is one other h in
      let own : P (after (place_of one t) (place_change request (place_of one t))) =
      subst (λ id. P (after (place_of id t) (place_change request (place_of id t)))) (sym is) (keeps (about ∙ ap Some is) holds) in
      subst (λ id. P (place_of id (applied_to one (place_change request (place_of one t)) t))) is
      (subst P (sym (place_after one (place_change request (place_of one t)) t)) own)
  kept-by-id one false h about keeps holds = subst P (sym (place_other one other (place_change request (place_of one t)) t h)) holds

  kept-by-subject : (one : Option TxnId) → subject request ≡ one → Keeps → P (place_of other t) → P (place_of other (table_for one request t))
  kept-by-subject None about keeps holds = holds
  kept-by-subject (Some one) about keeps holds = kept-by-id one (same_txn one other) refl about keeps holds

  -- what the row of this request keeps holds of each transaction's place after it
  pub place_kept : (subject request ≡ Some other → P (place_of other t) → P (after (place_of other t) (place_change request (place_of other t)))) → P (place_of other t) → P (place_of other (table_after request t))
  unfolding Keeps
  place_kept keeps holds = kept-by-subject (subject request) refl keeps holds
