-- What a session takes at its turns.
use Rattle.std.proofs.Common.{◌≡◌, ℕ, inl, inr, Bool, true, false, List, [], ◌∷◌, ◌++◌, Option, None, Some, refl, sym, subst}
use Rattle.pc_history.specs.declared.pair.Pair.{Pair}
use Rattle.pc_proto.specs.declared.call.Call.{Call}
use Rattle.pc_proto.specs.declared.event.Event.{Event}
use Rattle.pc_proto.specs.declared.request.Request.{Request}
use Rattle.pc_turns.specs.Order.{AsksAfter, AsksIfNext, AsksPartly, AsksWhole, FinishesAfter, FinishesIfLeft, FinishesPartly, FinishesWhole, UnlessEnded}
use Rattle.pc_follows.specs.FinishingJobs.{jobs_of}

-- nothing, where the list has ended or nothing is next
unless_nothing : (b : Bool) (So : Type 0) → So → UnlessEnded b [] So
unless_nothing true So so = refl
unless_nothing false So so = so

pub unless_ended : (b : Bool) (part : List (Pair Event)) (So : Type 0) → b ≡ true → part ≡ [] → UnlessEnded b part So
unless_ended true part So is none = none
unless_ended false part So is none = absurd cc

module _ (next : ℕ → List (Pair Event) → Option Call) (ended : ℕ → List (Pair Event) → Bool) (number : ℕ) (mine : List (Pair Event)) where
  pub asks_none : next number mine ≡ None → AsksAfter next ended number mine []
  asks_none none = unless_nothing (ended number mine) (AsksIfNext next ended number (next number mine) mine []) (subst (λ o. AsksIfNext next ended number o mine []) (sym none) refl)

  pub finishes_none : jobs_of mine ≡ [] → FinishesAfter next ended number mine []
  finishes_none none = unless_nothing (ended number mine) (FinishesIfLeft next ended number (jobs_of mine) mine []) (subst (λ js. FinishesIfLeft next ended number js mine []) (sym none) refl)

  pub asks_ended : (part : List (Pair Event)) → ended number mine ≡ true → part ≡ [] → AsksAfter next ended number mine part
  asks_ended part is none = unless_ended (ended number mine) part (AsksIfNext next ended number (next number mine) mine part) is none

  pub finishes_ended : (part : List (Pair Event)) → ended number mine ≡ true → part ≡ [] → FinishesAfter next ended number mine part
  finishes_ended part is none = unless_ended (ended number mine) part (FinishesIfLeft next ended number (jobs_of mine) mine part) is none

  module _ (part : List (Pair Event)) (on : ended number mine ≡ false) where
    asks_on : (call : Call) → next number mine ≡ Some call → AsksIfNext next ended number (Some call) mine part → AsksAfter next ended number mine part
    asks_on call is so =
        subst (λ b. UnlessEnded b part (AsksIfNext next ended number (next number mine) mine part)) (sym on) (subst (λ o. AsksIfNext next ended number o mine part) (sym is) so)

    -- a call, whole or broken off
    pub asks_whole : (call : Call) → next number mine ≡ Some call → AsksWhole number call part → AsksAfter next ended number mine part
    asks_whole call is whole = asks_on call is (inl whole)

    pub asks_partly : (call : Call) → next number mine ≡ Some call → AsksPartly number call part → ended number (mine ++ part) ≡ true → AsksAfter next ended number mine part
    asks_partly call is partly over = asks_on call is (inr (partly, over))

    finishes_on : (job : List Request) (jobs : List (List Request)) → jobs_of mine ≡ job ∷ jobs → FinishesIfLeft next ended number (job ∷ jobs) mine part → FinishesAfter next ended number mine part
    finishes_on job jobs is so =
        subst (λ b. UnlessEnded b part (FinishesIfLeft next ended number (jobs_of mine) mine part)) (sym on) (subst (λ js. FinishesIfLeft next ended number js mine part) (sym is) so)

    -- a job, whole or broken off
    pub finishes_whole : (job : List Request) (jobs : List (List Request)) → jobs_of mine ≡ job ∷ jobs → FinishesWhole number mine part → FinishesAfter next ended number mine part
    finishes_whole job jobs is whole = finishes_on job jobs is (inl whole)

    pub finishes_partly : (job : List Request) (jobs : List (List Request)) → jobs_of mine ≡ job ∷ jobs → FinishesPartly number part → ended number (mine ++ part) ≡ true → FinishesAfter next ended number mine part
    finishes_partly job jobs is partly over = finishes_on job jobs is (inr (partly, over))
