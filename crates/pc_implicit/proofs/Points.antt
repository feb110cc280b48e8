-- Where a transaction's commit point lies.
use Rattle.std.proofs.Common.{◌≡◌, ℕ, ◌+◌, Bool, true, false, if◌then◌else◌, List, [], ◌∷◌, ◌++◌, length, is_some, Option, None, Some, refl, sym, ap, subst, ◌∙◌, length-append}
use Rattle.std.proofs.lemmas.List.{append_assoc, append-nil}
use Rattle.std.specs.Option.{option_or}
use Rattle.pc_base.specs.declared.entry.Entry.{Entry}
use Rattle.pc_base.specs.declared.transaction.TxnId.{TxnId}
use Rattle.pc_base.specs.Transaction.{same_txn}
use Rattle.pc_lists.proofs.Same.{same_txn-is}
use Rattle.pc_proto.specs.declared.answer.Answer.TheVariants as answers
use Rattle.pc_proto.specs.declared.event.Event.{Event}
use Rattle.pc_proto.specs.declared.event.Event.TheVariants as events
use Rattle.pc_world.specs.Committed.{IsCommitted, commit_point, commit_ts, committed_in, point_after}
use Rattle.pc_world.specs.Local.{Head}

pub or-first : {Y : Type 0} (a b : Option Y) → option_or a b ≡ None → a ≡ None
or-first None b h = refl
or-first (Some a) b h = absurd cc

pub told-what : (id : TxnId) (ts : ℕ) (event : Event) → committed_in id event ≡ Some ts → event ≡ events.Tell (answers.Committed id ts)
told-what id ts (events.Tell (answers.Committed other at)) h = by (same_txn other id) refl h
  where
    by : (b : Bool) → same_txn other id ≡ b → (if b then Some at else None) ≡ Some ts → events.Tell (answers.Committed other at) ≡ events.Tell (answers.Committed id ts)
    by true e h = let same : at ≡ ts = cc in ap (λ i. events.Tell (answers.Committed i at)) (same_txn-is other id e) ∙ ap (λ t. events.Tell (answers.Committed id t)) same
    by false e h = absurd cc
told-what id ts (events.Tell answer) h = absurd cc
told-what id ts event h = absurd cc

-- Where the commit point lies: after this entry, and not before it.
pub record IsPoint (head : Head) (history : List (Entry Event)) (id : TxnId) (point : ℕ) : Type 0 where
  pub front : List (Entry Event)
  pub e : Entry Event
  pub back : List (Entry Event)
  pub whole : front ++ e ∷ back ≡ history
  pub at : point ≡ length front + 1
  pub before : commit_ts head front id ≡ None
  pub ts : ℕ
  pub now : IsCommitted head (front ++ e ∷ []) id ts

module _ (head : Head) (id : TxnId) where
  pub point-now : (before later : List (Entry Event)) (ts : ℕ) → commit_ts head before id ≡ Some ts → point_after head id before later ≡ length before
  point-now before [] ts is = refl
  point-now before (e ∷ es) ts is = ap (λ o. if is_some o then length before else point_after head id (before ++ e ∷ []) es) is

  point-of : (before later : List (Entry Event)) (ts : ℕ) → commit_ts head before id ≡ None → commit_ts head (before ++ later) id ≡ Some ts → IsPoint head (before ++ later) id (point_after head id before later)
  point-of before [] ts none is = let both : None ≡ Some ts = sym none ∙ ap (λ h. commit_ts head h id) (sym (append-nil before)) ∙ is in absurd cc
  point-of before (e ∷ es) ts none is =
      let next : point_after head id before (e ∷ es) ≡ point_after head id (before ++ e ∷ []) es = ap (λ o. if is_some o then length before else point_after head id (before ++ e ∷ []) es) none in
      subst (IsPoint head (before ++ e ∷ es) id) (sym next)
      (by (λ later. point-of (before ++ e ∷ []) es ts later (ap (λ h. commit_ts head h id) (append_assoc before (e ∷ []) es) ∙ is)) (commit_ts head (before ++ e ∷ []) id) refl)
    where
      by : (commit_ts head (before ++ e ∷ []) id ≡ None → IsPoint head ((before ++ e ∷ []) ++ es) id (point_after head id (before ++ e ∷ []) es)) → (o : Option ℕ) → commit_ts head (before ++ e ∷ []) id ≡ o → IsPoint head (before ++ e ∷ es) id (point_after head id (before ++ e ∷ []) es)
      by rest (Some at) now = record {
        front = before;
        e = e;
        back = es;
        whole = refl;
        at = point-now (before ++ e ∷ []) es at now ∙ length-append before (e ∷ []);
        before = none;
        ts = at;
        now = now;
      }
      by rest None later = subst (λ h. IsPoint head h id (point_after head id (before ++ e ∷ []) es)) (append_assoc before (e ∷ []) es) (rest later)

  -- a committed transaction has a commit point
  pub point_of : (history : List (Entry Event)) (ts : ℕ) → IsCommitted head history id ts → IsPoint head history id (commit_point head history id)
  point_of history ts is = point-of [] history ts refl is
