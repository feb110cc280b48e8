-- Each entry of an actor's own list may come next there, after those before it.
use Rattle.std.proofs.Common.{◌≡◌, ◌≢◌, Bool, true, false, cond, List, [], ◌∷◌, ◌++◌, filter, refl, sym, subst, ◌∙◌}
use Rattle.std.proofs.lemmas.Bool.{false≢true}
use Rattle.pc_base.specs.declared.actor.ActorId.{ActorId}
use Rattle.pc_base.specs.declared.entry.Entry.{Entry}
use Rattle.pc_desk.specs.Keeping.{EachAfter}
use Rattle.pc_desk.specs.OwnLog.{IsOwnLog, LogMeaning}
use Rattle.pc_history.proofs.Histories.{own-push_other, own-push_same}
use Rattle.pc_history.proofs.Ids.{same_id-equal, same_id-true}
use Rattle.pc_history.specs.declared.pair.Pair.{Pair}
use Rattle.pc_history.specs.History.{IsFineAfter}
use Rattle.pc_history.specs.Own.{named_in, own, pair, pairs_after, same_id}
use Rattle.pc_proto.specs.declared.event.Event.{Event}
use Rattle.pc_world.specs.Local.{Head, IsLocal}
use Rattle.pc_world.specs.Run.{protocol}

module _ (head : Head) (id : ActorId) where
  -- The entry may come next in its actor's own list.
  abbrev pub IsLocalPair : List (Pair Event) → Pair Event → Type 0
  IsLocalPair before p = IsLocal head id before p.entry.event p.named

  -- one more entry, of this actor or of another
  local-one : (b : Bool) (before : List (Entry Event)) (e : Entry Event) (rest : List (Pair Event)) → same_id id e.actor ≡ b → IsLocal head e.actor (own (protocol head) e.actor before) e.event (named_in (protocol head) before e.event)
      → EachAfter IsLocalPair (own (protocol head) id (before ++ e ∷ [])) rest
      → EachAfter IsLocalPair (own (protocol head) id before) (cond b (pair e (named_in (protocol head) before e.event) ∷ rest) rest)
  local-one true before e rest is local later =
      let same : id ≡ e.actor = same_id-true id e.actor is in (
        subst (λ i. IsLocal head i (own (protocol head) i before) e.event (named_in (protocol head) before e.event)) (sym same) local,
        subst (λ l. EachAfter IsLocalPair l rest) (own-push_same (protocol head) id before e (sym same)) later,
      )
  local-one false before e rest is local later =
      let other : e.actor ≢ id = λ same. absurd (false≢true (sym is ∙ same_id-equal id e.actor (sym same))) in
      subst (λ l. EachAfter IsLocalPair l rest) (own-push_other (protocol head) id before e other) later

  -- in a fine history each own entry may come next after those before it
  own-local : (before later : List (Entry Event)) → IsFineAfter (protocol head) before later
      → EachAfter IsLocalPair (own (protocol head) id before) (filter (λ p. same_id id p.entry.actor) (pairs_after (protocol head) before later))
  own-local before [] fine = tt
  own-local before (e ∷ es) fine =
      local-one (same_id id e.actor) before e (filter (λ p. same_id id p.entry.actor) (pairs_after (protocol head) (before ++ e ∷ []) es)) refl fine.0.local (own-local (before ++ e ∷ []) es fine.1)

  own_is_local : (history : List (Entry Event)) → IsFineAfter (protocol head) [] history → EachAfter IsLocalPair [] (own (protocol head) id history)
  own_is_local history fine = own-local [] history fine

-- each own entry of a log
pub log_is_local : {C : Type 0} (l : LogMeaning C) → IsOwnLog l → EachAfter (IsLocalPair l.head l.part.id) [] l.part.own
log_is_local l log = subst (λ own. EachAfter (IsLocalPair l.head l.part.id) [] own) log.stands.list (own_is_local l.head l.part.id log.stands.history log.stands.fine)
