-- What the callers of an actor use to show that its next event is local and caused.
use Rattle.std.proofs.Common.{◌≡◌, ℕ, ◌+◌, ◌≤◌, ◌<◌, true, false, cond, List, [], ◌∷◌, ◌++◌, refl, ap, sym, ◌∙◌, subst, arith, length, slice_get, All, Contains, Some, None, IfSome}
use Rattle.std.proofs.lemmas.Bool.{eq-eqb}
use Rattle.std.proofs.lemmas.List.Elements.{Contains-append_left, Contains-append_right, All-contains_itself}
use Rattle.pc_base.specs.declared.ActorId.{ActorId}
use Rattle.pc_base.specs.declared.Entry.{Entry}
use Rattle.pc_history.specs.declared.pair.Pair.{Pair}
use Rattle.pc_history.specs.declared.view.Known.{Known}
use Rattle.pc_history.specs.declared.view.Part.{Part}
use Rattle.pc_history.specs.Sense.{Sense}
use Rattle.pc_history.specs.Own.{entries_of, pair}
use Rattle.pc_history.specs.Parts.{known_entry, known_entry_at, noted, entry_of, acted, knowledge, told_entries, told, uses_of, uses_at, named_by, CanSpend}
use Rattle.pc_history.specs.Closed.{IsSound, AllHandedIn, ids_of}
use Rattle.pc_history.proofs.Histories.{named-one, named-none}
use Rattle.pc_history.proofs.Uses.{uses_of-append, uses_of-cons}
use Rattle.pc_lists.proofs.Lists.{contains_head, contains_map, get_push}

module _ {E : Type 0} where
  -- an actor knows its own entries
  pub knows-own : (part : Part E) (e : Entry E) → Contains (entries_of part.own) e → Contains (knowledge part) e
  knows-own part e c = Contains-append_left (entries_of part.own) (told_entries part.known) e c

  -- it knows what notes told it
  pub knows-known : (part : Part E) (k : Known E) → Contains part.known k → Contains (knowledge part) k.entry
  knows-known part k c = Contains-append_right (entries_of part.own) (told_entries part.known) k.entry (contains_map (λ (l : Known E). l.entry) part.known k c)

  -- it knows the entry of the note that it took
  pub knows-told : (part : Part E) (e : Entry E) (place uses : ℕ) → Contains (knowledge (told (known_entry e place uses ∷ []) part)) e
  knows-told part e place uses =
      knows-known (told (known_entry e place uses ∷ []) part) (known_entry e place uses) (Contains-append_right part.known (known_entry e place uses ∷ []) (known_entry e place uses) (contains_head (known_entry e place uses) []))

  -- it has the uses of the note that it took
  pub uses-told : (part : Part E) (e : Entry E) (place uses : ℕ) → uses ≤ uses_of e.step (told (known_entry e place uses ∷ []) part).known
  uses-told part e place uses =
      let k = known_entry e place uses in
      let all : uses_of e.step (part.known ++ k ∷ []) ≡ uses_of e.step part.known + uses_of e.step (k ∷ []) = uses_of-append e.step part.known (k ∷ []) in
      let one : uses_of e.step (k ∷ []) ≡ uses_at e.step k + uses_of {E = E} e.step [] = uses_of-cons e.step k [] in
      let here : uses_at e.step k ≡ uses = ap (λ b. cond b uses 0) (eq-eqb e.step e.step refl) in
      omega arith

module _ {E : Type 0} (S : Sense E) where
  -- of what an actor stored or knows, an event names the one entry that it names
  pub names-known : (part : Part E) (event : E) (e : Entry E) → IsSound S (knowledge part) → Contains (knowledge part) e → S.names event e ≡ true → named_by S part event ≡ Some e
  names-known part event e sound has names = named-one S (knowledge part) event e (sound.one event) has names

  -- the entry of the note that the actor took
  pub names-told : (part : Part E) (event : E) (e : Entry E) (place uses : ℕ) → IsSound S (knowledge (told (known_entry e place uses ∷ []) part)) → S.names event e ≡ true → named_by S (told (known_entry e place uses ∷ []) part) event ≡ Some e
  names-told part event e place uses sound names = names-known (told (known_entry e place uses ∷ []) part) event e sound (knows-told part e place uses) names

  -- an event that names no entry names none of those that an actor stored or knows
  pub names-nothing : (part : Part E) (event : E) → ((e : Entry E) → S.names event e ≡ false) → named_by S part event ≡ None
  names-nothing part event none' = named-none S (knowledge part) event none'

  -- an event that spends nothing needs no use
  pub can_spend-nothing : (part : Part E) (event : E) → S.spends event ≡ false → CanSpend S part event
  can_spend-nothing part event none' some' = absurd (let both : true ≡ false = sym some' ∙ none' in cc both)

  -- a use of the named entry is enough
  pub can_spend-one : (part : Part E) (event : E) (e : Entry E) → named_by S part event ≡ Some e → 0 < uses_of e.step part.known → CanSpend S part event
  can_spend-one part event e named some' spends = subst (λ o. IfSome o (λ a. 0 < uses_of a.step part.known)) (sym named) some'

  -- a note of the entry at a place tells that entry
  pub noted-at : (part : Part E) (place uses : ℕ) (p : Pair E) → slice_get part.own place ≡ Some p → noted place uses part ≡ known_entry p.entry place uses ∷ []
  noted-at part place uses p at = ap (λ o. known_entry_at place uses o) at

  -- a note of the entry that was made last
  pub noted-last : (part : Part E) (step uses : ℕ) (event : E) → noted (length part.own) uses (acted S step event part) ≡ known_entry (entry_of step part.id event) (length part.own) uses ∷ []
  noted-last part step uses event =
      let p = pair (entry_of step part.id event) (named_by S part event) in
      ap (λ o. known_entry_at (length part.own) uses o) (get_push part.own p)

-- where the actors were handed in in the order in which they were seated, all were
pub handed_in_order : {E : Type 0} (seated : List ActorId) (parts : List (Part E)) → ids_of parts ≡ seated → AllHandedIn seated parts
handed_in_order seated parts same = subst (λ ids. All (λ id. Contains ids id) seated) (sym same) (All-contains_itself seated)
