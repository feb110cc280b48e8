-- What the range of a transaction's anchor has of it.
use Rattle.std.proofs.Common.{◌≡◌, ℕ, ◌≤◌, List, [], ◌∷◌, ◌++◌, Option, None, Some, refl, sym, ap, subst, ◌∙◌, arith}
use Rattle.std.proofs.lemmas.List.{append-nil, append_assoc}
use Rattle.pc_base.specs.declared.entry.Entry.{Entry}
use Rattle.pc_base.specs.declared.transaction.TxnId.{TxnId}
use Rattle.pc_implicit.proofs.Anchored.{anchor_stays}
use Rattle.pc_implicit.proofs.Commits.{decided_is_committed}
use Rattle.pc_implicit.proofs.Lift.{over}
use Rattle.pc_implicit.proofs.Views.{Stands, places_go_on, stands-itself, stands-on}
use Rattle.pc_implicit.specs.Decided.{decision, time_of}
use Rattle.pc_implicit.specs.Writes.{home_of, place_under}
use Rattle.pc_proto.specs.declared.event.Event.{Event}
use Rattle.pc_proto.specs.declared.record.Standing.TheVariants as standings
use Rattle.pc_proto.specs.declared.record.Status.{Status}
use Rattle.pc_proto.specs.RecordRows.Reached.{status_of}
use Rattle.pc_world.specs.After.{place_at}
use Rattle.pc_world.specs.Committed.{IsCommitted, anchor_in}
use Rattle.pc_world.specs.Local.{Head}
use Rattle.pc_world.specs.RangeOf.{range_of}

module _ (head : Head) (id : TxnId) where
  -- of a transaction that has this anchor
  pub home_is : (history : List (Entry Event)) (anchor : List ℕ) → anchor_in id history ≡ Some anchor → home_of head id history ≡ place_at head (range_of head.splits anchor) id history
  home_is history anchor is = ap (place_under head id history) is

  -- over one more entry a decision stands, and nothing falls
  pub home_on : (history : List (Entry Event)) (e : Entry Event) → Stands (home_of head id history) (home_of head id (history ++ e ∷ []))
  home_on history e = by (anchor_in id history) refl
    where
      by : (o : Option (List ℕ)) → anchor_in id history ≡ o → Stands (place_under head id history o) (home_of head id (history ++ e ∷ []))
      by None is = record { decided = λ s h. absurd cc; rises = record { epoch = omega arith; ts = omega arith } }
      by (Some anchor) is =
          subst (λ o. Stands (place_at head (range_of head.splits anchor) id history) (place_under head id (history ++ e ∷ []) o)) (sym (anchor_stays id history e anchor is))
          (over _ (places_go_on id) head (range_of head.splits anchor) history (e ∷ []))

  -- what is not decided after an entry was not before it
  pub undecided_before : (history : List (Entry Event)) (e : Entry Event) → decision (home_of head id (history ++ e ∷ [])) ≡ None → decision (home_of head id history) ≡ None
  undecided_before history e later = by (decision (home_of head id history)) refl
    where
      by : (o : Option Status) → decision (home_of head id history) ≡ o → decision (home_of head id history) ≡ None
      by None is = is
      by (Some s) is =
          let both : None ≡ Some s = sym later ∙ (home_on history e).decided s is in absurd cc

  -- no time of it falls
  pub time_on : (history : List (Entry Event)) (e : Entry Event) → time_of (home_of head id history) ≤ time_of (home_of head id (history ++ e ∷ []))
  time_on history e = (home_on history e).rises.ts

  -- what it has decided committed is committed
  pub home_commits : (history : List (Entry Event)) (epoch ts : ℕ) → decision (home_of head id history) ≡ Some (status_of standings.Committed epoch ts) → IsCommitted head history id ts
  home_commits history epoch ts decided = by (anchor_in id history) refl decided
    where
      by : (o : Option (List ℕ)) → anchor_in id history ≡ o → decision (place_under head id history o) ≡ Some (status_of standings.Committed epoch ts) → IsCommitted head history id ts
      by None is decided = absurd cc
      by (Some anchor) is decided = decided_is_committed head history id ts (record { anchor = anchor; anchored = is; epoch = epoch; decided = decided })

module _ (head : Head) where
  -- a transaction's record over a longer history
  pub home_along : (id : TxnId) (front back : List (Entry Event)) → Stands (home_of head id front) (home_of head id (front ++ back))
  home_along id front [] = subst (λ h. Stands (home_of head id front) (home_of head id h)) (sym (append-nil front)) (stands-itself (home_of head id front))
  home_along id front (e ∷ es) =
      subst (λ h. Stands (home_of head id front) (home_of head id h)) (append_assoc front (e ∷ []) es)
      (stands-on (home_of head id front) (home_of head id (front ++ e ∷ [])) (home_of head id ((front ++ e ∷ []) ++ es)) (home_on head id front e) (home_along id (front ++ e ∷ []) es))
