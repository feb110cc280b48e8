-- The clients' entries of a history, in the order in which they were made.
use Rattle.std.proofs.Common.{◌≡◌, ◌<◌, ◌⊎◌, inl, inr, true, List, [], ◌++◌, Contains, sym, ap, subst, ◌∙◌}
use Rattle.std.proofs.lemmas.List.{append-nil}
use Rattle.std.proofs.lemmas.List.Elements.{All-contains, All-nil, All-weaker, Contains-append_cases, Contains-append_left, Contains-append_right}
use Rattle.pc_base.specs.declared.actor.ActorId.{ActorId}
use Rattle.pc_base.specs.declared.entry.Entry.{Entry}
use Rattle.pc_history.proofs.Histories.{own-contains}
use Rattle.pc_history.proofs.Ids.{same_id-refl, same_id-true}
use Rattle.pc_history.specs.Closed.{ids_of}
use Rattle.pc_history.specs.declared.pair.Pair.{Pair}
use Rattle.pc_history.specs.declared.view.Part.{Part}
use Rattle.pc_history.specs.Own.{own, pairs_of, same_id}
use Rattle.pc_lists.proofs.Lists.{contains_filter, contains_in_filter, contains_in_map}
use Rattle.pc_proto.specs.declared.event.Event.{Event}
use Rattle.pc_world.specs.Local.{Head}
use Rattle.pc_world.specs.Run.{protocol}
use Rattle.pc_turns.proofs.Rising.{chosen_rise, is_all_of, stands_in_front}
use Rattle.pc_turns.specs.Clients.{BeginsEach, Continues, IsAfterAll, IsStoredBy, MakesUpEach, RisesFrom, client_pairs, is_client, share_of}
use Rattle.pc_turns.specs.Laws.{BeginningsComeFirst, ClientsKeepOrder}

-- an actor's part, where it has one
record HasPart (parts : List (Part Event)) (id : ActorId) : Type 0 where
  part : Part Event
  there : Contains parts part
  whose : part.id ≡ id

part_of : (parts : List (Part Event)) (id : ActorId) → Contains (ids_of parts) id → HasPart parts id
part_of parts id c = let r = contains_in_map (λ (p : Part Event). p.id) parts id c in record { part = r.0; there = r.1; whose = r.2 }

module _ (head : Head) (history : List (Entry Event)) (parts : List (Part Event)) (stored : IsStoredBy head history parts) where
  -- a client's entry stands in its part
  record IsIn (p : Pair Event) : Type 0 where
    held : HasPart parts p.entry.actor
    client : is_client held.part.id ≡ true
    has : Contains held.part.own p

  in_part : (p : Pair Event) → Contains (client_pairs head history) p → IsIn p
  in_part p c =
      let r = contains_filter (λ (q : Pair Event). is_client q.entry.actor) (pairs_of (protocol head) history) p c in
      let own_has : Contains (own (protocol head) p.entry.actor history) p = contains_in_filter (λ (q : Pair Event). same_id p.entry.actor q.entry.actor) (pairs_of (protocol head) history) p r.0 (same_id-refl p.entry.actor) in
      let there = own-contains (protocol head) p.entry.actor history p own_has in
      let held = part_of parts p.entry.actor (All-contains (λ (e : Entry Event). Contains (ids_of parts) e.actor) history p.entry stored.only there.0) in
      let list : own (protocol head) held.part.id history ≡ held.part.own = All-contains (λ (q : Part Event). own (protocol head) q.id history ≡ q.own) parts held.part stored.lists held.there in
      record {
        held = held;
        client = ap is_client held.whose ∙ r.1;
        has = subst (λ ps. Contains ps p) list (subst (λ id. Contains (own (protocol head) id history) p) (sym held.whose) own_has);
      }

  -- what stands in a client's part is a client's entry of the history
  of_part : (part : Part Event) (p : Pair Event) → Contains parts part → is_client part.id ≡ true → Contains part.own p → Contains (client_pairs head history) p
  of_part part p there client has =
      let list : own (protocol head) part.id history ≡ part.own = All-contains (λ (q : Part Event). own (protocol head) q.id history ≡ q.own) parts part stored.lists there in
      let r = contains_filter (λ (q : Pair Event). same_id part.id q.entry.actor) (pairs_of (protocol head) history) p (subst (λ ps. Contains ps p) (sym list) has) in
      contains_in_filter (λ (q : Pair Event). is_client q.entry.actor) (pairs_of (protocol head) history) p r.0 (ap is_client (sym (same_id-true part.id p.entry.actor r.1)) ∙ client)

  module _ (first : List (Pair Event)) (begins : BeginsEach parts first) where
    goes_on : (part : Part Event) → Contains parts part → is_client part.id ≡ true → Continues first part
    goes_on part there client = All-contains (λ (q : Part Event). is_client q.id ≡ true → Continues first q) parts part begins.each there client

    among_all : (x : Pair Event) → Contains first x → Contains (client_pairs head history) x
    among_all x c =
        let held = part_of parts x.entry.actor (All-contains (λ (p : Pair Event). Contains (ids_of parts) p.entry.actor) first x begins.is_order.theirs c) in
        let client : is_client held.part.id ≡ true = ap is_client held.whose ∙ All-contains (λ (p : Pair Event). is_client p.entry.actor ≡ true) first x begins.is_order.clients c in
        let on = goes_on held.part held.there client in
        let mine : Contains (share_of held.part.id first) x = contains_in_filter (λ (p : Pair Event). same_id held.part.id p.entry.actor) first x c (subst (λ id. same_id held.part.id id ≡ true) held.whose (same_id-refl held.part.id)) in
        of_part held.part x held.there client (subst (λ ps. Contains ps x) (sym on.whole) (Contains-append_left (share_of held.part.id first) on.later x mine))

    or_after : (y : Pair Event) → Contains (client_pairs head history) y → Contains first y ⊎ ((x : Pair Event) → Contains first x → x.entry.step < y.entry.step)
    or_after y c =
        let i = in_part y c in
        let on = goes_on i.held.part i.held.there i.client in
        elim (Contains-append_cases (share_of i.held.part.id first) on.later y (subst (λ ps. Contains ps y) on.whole i.has)) [
          | inl mine ↦ inl (contains_filter (λ (p : Pair Event). same_id i.held.part.id p.entry.actor) first y mine).0
          | inr later ↦ inr (λ x cx. All-contains (λ (q : Pair Event). q.entry.step < y.entry.step) first x (All-contains (IsAfterAll first) on.later y on.after later) cx)
        ]

    in_front : (rest : List (Pair Event)) × (client_pairs head history ≡ first ++ rest)
    in_front = stands_in_front 0 0 first (client_pairs head history) (chosen_rise (protocol head) (λ p. is_client p.entry.actor) history stored.run) begins.is_order.rises among_all or_after

  module _ (order : List (Pair Event)) (makes : MakesUpEach parts order) where
    no_later : (part : Part Event) → (is_client part.id ≡ true → part.own ≡ share_of part.id order) → is_client part.id ≡ true → Continues order part
    no_later part just client = record { later = []; whole = just client ∙ sym (append-nil (share_of part.id order)); after = All-nil (IsAfterAll order) }

    made_up : client_pairs head history ≡ order
    made_up =
        let begins : BeginsEach parts order = record { is_order = makes.is_order; each = All-weaker (λ (q : Part Event). is_client q.id ≡ true → q.own ≡ share_of q.id order) (λ (q : Part Event). is_client q.id ≡ true → Continues order q) no_later parts makes.each } in
        let front = in_front order begins in
        let rises : RisesFrom 0 (order ++ front.0) = subst (RisesFrom 0) front.1 (chosen_rise (protocol head) (λ p. is_client p.entry.actor) history stored.run) in
        let none : front.0 ≡ [] = is_all_of 0 order front.0 rises (λ y c. among y (subst (λ ps. Contains ps y) (sym front.1) (Contains-append_right order front.0 y c))) in
        front.1 ∙ ap (λ ps. order ++ ps) none ∙ append-nil order
      where
        among : (y : Pair Event) → Contains (client_pairs head history) y → Contains order y
        among y c =
            let i = in_part y c in
            let just : i.held.part.own ≡ share_of i.held.part.id order = All-contains (λ (q : Part Event). is_client q.id ≡ true → q.own ≡ share_of q.id order) parts i.held.part makes.each i.held.there i.client in
            (contains_filter (λ (p : Pair Event). same_id i.held.part.id p.entry.actor) order y (subst (λ ps. Contains ps y) just i.has)).0

pub beginnings_come_first : BeginningsComeFirst
beginnings_come_first head history parts first stored begins = in_front head history parts stored first begins

pub clients_keep_order : ClientsKeepOrder
clients_keep_order head history parts order stored makes = made_up head history parts stored order makes
