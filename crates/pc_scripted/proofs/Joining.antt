-- A session that goes by itself in two parts; and beside other sessions.
use Rattle.std.proofs.Common.{◌≡◌, ℕ, inl, inr, Bool, true, false, ◌||◌, List, [], ◌∷◌, ◌++◌, length, nat_le, Option, None, Some, sym, ap, subst, ◌∙◌}
use Rattle.std.proofs.lemmas.List.{append-nil, append_assoc}
use Rattle.std.proofs.lemmas.List.Elements.{filter-append}
use Rattle.pc_base.specs.declared.actor.ActorId.TheVariants as actors
use Rattle.pc_history.specs.declared.pair.Pair.{Pair}
use Rattle.pc_history.specs.Own.{same_id}
use Rattle.pc_proto.specs.declared.call.Call.{Call}
use Rattle.pc_proto.specs.declared.event.Event.{Event}
use Rattle.pc_proto.specs.declared.request.Request.{Request}
use Rattle.pc_script.specs.Script.{items_over, script_position}
use Rattle.pc_scripted.specs.Taking.{are_items_over, is_script_over}
use Rattle.pc_turns.specs.Order.{AsksAfter, AsksIfNext, FinishesAfter, FinishesIfLeft, GoesByItself, TakesOne, UnlessEnded, entries_by}
use Rattle.pc_turns.specs.Order.GoesByItself.{Ended, Onwards, Passed}
use Rattle.pc_work.specs.declared.item.Item.{Item}
use Rattle.pc_follows.specs.FinishingJobs.{jobs_of}

-- until one test, and then on until another, which is passed only where the first one is
module _ (next : ℕ → List (Pair Event) → Option Call) (ended : ℕ → List (Pair Event) → Bool) (number : ℕ) (first last : List (Pair Event) → Bool) (sooner : (order : List (Pair Event)) → last order ≡ true → first order ≡ true) where
  pub goes_then : {before part : List (Pair Event)} → GoesByItself next ended number first before part → (more : List (Pair Event)) → GoesByItself next ended number last (before ++ part) more
      → GoesByItself next ended number last before (part ++ more)
  goes_then (Passed before none is) more later = subst (λ b. GoesByItself next ended number last b more) (append-nil before) later
  goes_then (Ended before is) more later = subst (λ b. GoesByItself next ended number last b more) (append-nil before) later
  goes_then (Onwards before part rest still taken goes) more later =
      subst (λ p. GoesByItself next ended number last before p) (sym (append_assoc part rest more))
      (Onwards before part (rest ++ more) (λ none is. still none (sooner before is)) taken
      (goes_then goes more (subst (λ b. GoesByItself next ended number last b more) (sym (append_assoc before part rest)) later)))

-- what is next is the same call, and the list ends where it did
same_asks : (next other : ℕ → List (Pair Event) → Option Call) (ended over : ℕ → List (Pair Event) → Bool) (number : ℕ) (mine part : List (Pair Event)) → next number mine ≡ other number mine → ((own : List (Pair Event)) → ended number own ≡ over number own)
    → AsksAfter next ended number mine part → AsksAfter other over number mine part
same_asks next other ended over number mine part same ends asks =
    subst (λ b. UnlessEnded b part (AsksIfNext other over number (other number mine) mine part)) (ends mine)
    (subst (λ o. UnlessEnded (ended number mine) part (AsksIfNext other over number o mine part)) same (by (ended number mine) (next number mine) asks))
  where
    any : (o : Option Call) → AsksIfNext next ended number o mine part → AsksIfNext other over number o mine part
    any None is = is
    any (Some call) (inl whole) = inl whole
    any (Some call) (inr partly) = inr (partly.0, sym (ends (mine ++ part)) ∙ partly.1)

    by : (b : Bool) (o : Option Call) → UnlessEnded b part (AsksIfNext next ended number o mine part) → UnlessEnded b part (AsksIfNext other over number o mine part)
    by true o is = is
    by false o is = any o is

same_finishes : (next other : ℕ → List (Pair Event) → Option Call) (ended over : ℕ → List (Pair Event) → Bool) (number : ℕ) (mine part : List (Pair Event)) → ((own : List (Pair Event)) → ended number own ≡ over number own)
    → FinishesAfter next ended number mine part → FinishesAfter other over number mine part
same_finishes next other ended over number mine part ends finishes =
    subst (λ b. UnlessEnded b part (FinishesIfLeft other over number (jobs_of mine) mine part)) (ends mine) (by (ended number mine) (jobs_of mine) finishes)
  where
    any : (jobs : List (List Request)) → FinishesIfLeft next ended number jobs mine part → FinishesIfLeft other over number jobs mine part
    any [] is = is
    any (job ∷ jobs) (inl whole) = inl whole
    any (job ∷ jobs) (inr partly) = inr (partly.0, sym (ends (mine ++ part)) ∙ partly.1)

    by : (b : Bool) (jobs : List (List Request)) → UnlessEnded b part (FinishesIfLeft next ended number jobs mine part) → UnlessEnded b part (FinishesIfLeft other over number jobs mine part)
    by true jobs is = is
    by false jobs is = any jobs is

-- the same entries of the session stand among others
module _ (next other : ℕ → List (Pair Event) → Option Call) (ended over : ℕ → List (Pair Event) → Bool) (number : ℕ) (same : (own : List (Pair Event)) → next number own ≡ other number own) (ends : (own : List (Pair Event)) → ended number own ≡ over number own) where
  pub asks_among : (mine order part : List (Pair Event)) → mine ≡ entries_by number order → AsksAfter next ended number mine part → AsksAfter other over number (entries_by number order) part
  asks_among mine order part is asks = subst (λ m. AsksAfter other over number m part) is (same_asks next other ended over number mine part (same mine) ends asks)

  pub finishes_among : (mine order part : List (Pair Event)) → mine ≡ entries_by number order → FinishesAfter next ended number mine part → FinishesAfter other over number (entries_by number order) part
  finishes_among mine order part is finishes = subst (λ m. FinishesAfter other over number m part) is (same_finishes next other ended over number mine part ends finishes)

  taken-among : (jobs : List (List Request)) (mine order part : List (Pair Event)) → entries_by number mine ≡ entries_by number order → TakesOne next ended number jobs (entries_by number mine) part
      → TakesOne other over number jobs (entries_by number order) part
  taken-among [] mine order part is taken = asks_among (entries_by number mine) order part is taken
  taken-among (job ∷ jobs) mine order part is taken = finishes_among (entries_by number mine) order part is taken

  pub goes_among : (test : List (Pair Event) → Bool) {mine part : List (Pair Event)} → GoesByItself next ended number (λ o. test (entries_by number o)) mine part
      → (order : List (Pair Event)) → entries_by number mine ≡ entries_by number order → GoesByItself other over number (λ o. test (entries_by number o)) order part
  goes_among test (Passed mine none passed) order is = Passed order (ap jobs_of (sym is) ∙ none) (ap test (sym is) ∙ passed)
  goes_among test (Ended mine past) order is = Ended order (ap (over number) (sym is) ∙ (sym (ends (entries_by number mine)) ∙ past))
  goes_among test (Onwards mine part rest still taken goes) order is =
      Onwards order part rest (λ none passed. still (ap jobs_of is ∙ none) (ap test is ∙ passed))
      (subst (λ m. TakesOne other over number (jobs_of m) (entries_by number order) part) is (taken-among (jobs_of (entries_by number mine)) mine order part is taken))
      (goes_among test goes (order ++ part) (grown mine order part is))
    where
      grown : (mine order part : List (Pair Event)) → entries_by number mine ≡ entries_by number order → entries_by number (mine ++ part) ≡ entries_by number (order ++ part)
      grown mine order part is =
          filter-append (λ (p : Pair Event). same_id (actors.Session number) p.entry.actor) mine part
          ∙ (ap (λ m. m ++ entries_by number part) is ∙ sym (filter-append (λ (p : Pair Event). same_id (actors.Session number) p.entry.actor) order part))

-- a script that is over is past all its items
pub over_is_past : (items reruns : ℕ) (script : List Item) (own : List (Pair Event)) → is_script_over reruns script own ≡ true → are_items_over items reruns script own ≡ true
over_is_past items reruns script own over = ap (λ b. b || nat_le items (items_over (length script) (script_position reruns script own))) over
