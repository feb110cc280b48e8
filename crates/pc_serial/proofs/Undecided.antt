-- Before its commit point a transaction is not committed, and its home has no decision.
use Rattle.std.proofs.Common.{◌≡◌, ℕ, ◌<◌, List, [], ◌∷◌, ◌++◌, append-nil, append_assoc, length, Option, None, Some, refl, sym, ap, subst, ◌∙◌, arith}
use Rattle.pc_base.specs.declared.entry.Entry.{Entry}
use Rattle.pc_base.specs.declared.transaction.TxnId.{TxnId}
use Rattle.pc_implicit.proofs.Because.{because}
use Rattle.pc_implicit.proofs.CommitsStay.{commits_stay}
use Rattle.pc_implicit.proofs.Homes.{home_commits, home_on}
use Rattle.pc_implicit.proofs.StaysOrRefuted.{staging_open}
use Rattle.pc_implicit.proofs.StageWords.{ByDecision, ByStaging, ByTelling}
use Rattle.pc_implicit.specs.Decided.{decision}
use Rattle.pc_implicit.specs.Writes.{home_of, place_under}
use Rattle.pc_proto.specs.declared.event.Event.{Event}
use Rattle.pc_proto.specs.declared.record.Standing.TheVariants as standings
use Rattle.pc_proto.specs.declared.record.Status.{Status}
use Rattle.pc_proto.specs.RecordRows.Reached.{status_of}
use Rattle.pc_serial.proofs.Ranks.{point-earlier}
use Rattle.pc_world.specs.Committed.{IsCommitted, commit_point, commit_ts}
use Rattle.pc_world.specs.Local.{Head}
use Rattle.pc_world.specs.Run.{IsRun}

module _ (head : Head) (id : TxnId) where
  homes-stay : (front back : List (Entry Event)) (s : Status) → decision (home_of head id front) ≡ Some s → decision (home_of head id (front ++ back)) ≡ Some s
  homes-stay front [] s decided = ap (λ h. decision (home_of head id h)) (append-nil front) ∙ decided
  homes-stay front (e ∷ es) s decided =
      ap (λ h. decision (home_of head id h)) (sym (append_assoc front (e ∷ []) es)) ∙ homes-stay (front ++ e ∷ []) es s ((home_on head id front e).decided s decided)

  module _ (history : List (Entry Event)) (run : IsRun head history) (front back : List (Entry Event)) (whole : history ≡ front ++ back) (ts : ℕ) (is : IsCommitted head history id ts) where
    -- before its commit point it is not committed
    pub not-yet : length front < commit_point head history id → commit_ts head front id ≡ None
    not-yet early = by (commit_ts head front id) refl
      where
        by : (o : Option ℕ) → commit_ts head front id ≡ o → commit_ts head front id ≡ None
        by None none = none
        by (Some at) now =
            let then : IsCommitted head history id at =
            subst (λ h. IsCommitted head h id at) (sym whole) (commits_stay head front back id at (subst (IsRun head) whole run) now).0 in
            let late = point-earlier head history run front back id at whole now then in
            absurd (omega (arith, early, late))

    decided-then : (s : Status) → decision (home_of head id front) ≡ Some s → commit_ts head front id ≡ None → ⊥
    decided-then s decided none =
        let stays : decision (home_of head id history) ≡ Some s = ap (λ h. decision (home_of head id h)) whole ∙ homes-stay front back s decided in
        elim (because head history run id ts is) [
          | ByDecision epoch committed ↦
              let same : ◌≡◌ {A = Option Status} (Some s) (Some (status_of standings.Committed epoch ts)) = sym stays ∙ committed in
              let both : ◌≡◌ {A = Option ℕ} None (Some ts) = sym none ∙ home_commits head id front epoch ts (decided ∙ same) in
              absurd cc
          | ByStaging x commits whose ts_is ↦
              let undecided : decision (home_of head id history) ≡ None = subst (λ i. decision (home_of head i history) ≡ None) whose (staging_open head history x commits.r commits.home commits.stages).undecided in
              let both : ◌≡◌ {A = Option Status} None (Some s) = sym undecided ∙ stays in
              absurd cc
          | ByTelling no_anchor told ↦
              let nothing : ◌≡◌ {A = Option Status} None (Some s) = sym (ap (λ o. decision (place_under head id history o)) no_anchor) ∙ stays in
              absurd cc
        ]

    -- where it is not committed yet, its home has no decision
    pub no-home : commit_ts head front id ≡ None → decision (home_of head id front) ≡ None
    no-home none = by (decision (home_of head id front)) refl
      where
        by : (o : Option Status) → decision (home_of head id front) ≡ o → decision (home_of head id front) ≡ None
        by None is = is
        by (Some s) is = absurd (decided-then s is none)
