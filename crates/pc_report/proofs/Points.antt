-- After how many entries a transaction is committed, one entry further.
use Rattle.std.proofs.Common.{◌≡◌, ℕ, true, cond, List, [], ◌∷◌, ◌++◌, length, Option, None, Some, refl, ap, subst, ◌∙◌}
use Rattle.std.proofs.lemmas.List.{append-nil, append_assoc}
use Rattle.std.specs.Option.{is_some}
use Rattle.pc_base.specs.declared.entry.Entry.{Entry}
use Rattle.pc_base.specs.declared.transaction.TxnId.{TxnId}
use Rattle.pc_proto.specs.declared.event.Event.{Event}
use Rattle.pc_report.specs.Replaying.{IsPoint, first_of}
use Rattle.pc_world.specs.Committed.{commit_point, commit_ts, point_after}
use Rattle.pc_world.specs.Local.{Head}

module _ (head : Head) (id : TxnId) where
  here : (history later : List (Entry Event)) → is_some (commit_ts head history id) ≡ true → point_after head id history later ≡ length history
  here history [] is = refl
  here history (e ∷ later) is = ap (λ b. cond b (length history) (point_after head id (history ++ e ∷ []) later)) is

  module _ (history : List (Entry Event)) (e : Entry Event) where
    further : (o : Option ℕ) → IsPoint head history id o → (later : List (Entry Event)) → o ≡ None → point_after head id [] ((history ++ e ∷ []) ++ later) ≡ point_after head id (history ++ e ∷ []) later
    further None old later is =
        ap (point_after head id []) (append_assoc history (e ∷ []) later)
        ∙ old.1 (e ∷ later)
        ∙ ap (λ o. cond (is_some o) (length history) (point_after head id (history ++ e ∷ []) later)) old.0
    further (Some point) old later is = absurd cc

    -- a transaction that is committed now, and was not before, is so from this entry on
    pub point_push : (o : Option ℕ) (now : Option ℕ) → IsPoint head history id o → commit_ts head (history ++ e ∷ []) id ≡ now
        → IsPoint head (history ++ e ∷ []) id (first_of o (cond (is_some now) (Some (length (history ++ e ∷ []))) None))
    point_push None None old is = (is, λ later. further None old later refl)
    point_push None (Some ts) old is = λ later. further None old later refl ∙ here (history ++ e ∷ []) later (ap is_some is)
    point_push (Some point) now old is = λ later. ap (point_after head id []) (append_assoc history (e ∷ []) later) ∙ old (e ∷ later)

    -- a transaction that is committed just as before keeps its point
    pub point_stays : (o : Option ℕ) → IsPoint head history id o → commit_ts head (history ++ e ∷ []) id ≡ commit_ts head history id → IsPoint head (history ++ e ∷ []) id o
    point_stays None old same = (same ∙ old.0, λ later. further None old later refl)
    point_stays (Some point) old same = λ later. ap (point_after head id []) (append_assoc history (e ∷ []) later) ∙ old (e ∷ later)

  -- the point of a committed transaction
  pub point_is : (history : List (Entry Event)) (point : ℕ) → IsPoint head history id (Some point) → commit_point head history id ≡ point
  point_is history point h = subst (λ all. point_after head id [] all ≡ point) (append-nil history) (h [])
