-- An actor makes an event.
use Rattle.std.proofs.Common.{◌≡◌, ◌≢◌, ℕ, ◌+◌, ◌-◌, ◌%◌, ◌^◌, ◌≤◌, ◌<◌, inl, inr, Bool, true, false, cond, ◌&&◌, List, [], ◌∷◌, ◌++◌, length, map, refl, ap, sym, ◌∙◌, subst, arith, length-append, mod-eq_of_lt, All, Contains, Some, None, Option, IfSome, slice_set, slice_index}
use Rattle.std.proofs.lemmas.List.{map-append}
use Rattle.std.proofs.lemmas.List.Elements.{Contains-push_cases}
use mathlib.Core.Option as found
use lib.ListN.{get_elem?}
use Rattle.atomic_table.specs.Table.{Allows, keeps}
use Rattle.atomic_table.proofs.Lists.{at_set, set_here}
use Rattle.pc_base.specs.declared.ActorId.{ActorId}
use Rattle.pc_base.specs.declared.Entry.{Entry}
use Rattle.pc_history.specs.declared.pair.Pair.{Pair}
use Rattle.pc_history.specs.declared.view.Role.TheVariants.{Acting}
use Rattle.pc_history.specs.declared.view.Known.{Known}
use Rattle.pc_history.specs.declared.view.Part.{Part}
use Rattle.pc_history.specs.declared.view.View.{View}
use Rattle.pc_history.specs.Sense.{Sense}
use Rattle.pc_history.specs.Own.{same_id, own, pair, named_in}
use Rattle.pc_history.specs.History.{MayFollow}
use Rattle.pc_history.specs.World.{IsWorld, HasAll}
use Rattle.pc_history.specs.Parts.{knowledge, named_by, CanSpend, acted, entry_of, spend, use_one, uses_of}
use Rattle.pc_history.specs.Closed.{Stands, spenders, names_step}
use Rattle.pc_history.specs.Table.{IsPart, AllStand, Rules, uses_in, view_uses, Fits, IsStepTable}
use Rattle.pc_history.specs.Steps.{after_acting, Acts, TellsAct}
use Rattle.pc_history.proofs.Ids.{same_id-true, same_id-equal}
use Rattle.pc_history.proofs.Histories.{own-push_same, own-push_other, fine-push, named-same, stands-push}
use Rattle.pc_history.proofs.Uses.{uses_of-use_one, spenders-push}
use Rattle.pc_history.proofs.Fitting.{fits-actor, actor-fits, fits-by, part-in, above-in, word-is, table-tells}
use Rattle.pc_lists.proofs.Lists.{contains_cons, contains_head, contains_nil, contains_tail, elem_within, sum_set}

module _ {E : Type 0} (S : Sense E) where
  -- where one use of the named entry is gone, and one more entry spends it, the two together are as before
  pub spent-once : (n : ℕ) (spends : Bool) (named : Option (Entry E)) (ks : List (Known E)) → (spends ≡ true → IfSome named (λ e. 0 < uses_of e.step ks))
      → uses_of n (cond spends (spend named ks) ks) + cond (spends && names_step S n named) 1 0 ≡ uses_of n ks
  spent-once n false named ks can = omega arith
  spent-once n true None ks can = omega arith
  spent-once n true (Some e) ks can = uses_of-use_one e.step n ks (can refl)

  stand-use_one : (history : List (Entry E)) (step : ℕ) (ks : List (Known E)) → AllStand S history ks → AllStand S history (use_one step ks)
  stand-use_one history step [] stand l c = absurd (contains_nil l c)
  stand-use_one history step (k ∷ ks) stand l c =
      let k' : Known E = record k { uses = k.uses - 1 } in
      let by : (b : Bool) → Contains (cond b (k' ∷ ks) (k ∷ use_one step ks)) l → Stands S history l = elim [
        | true ↦ λ d. elim (contains_cons k' ks l d) [
          | inl same ↦ subst (λ z. Stands S history z) same (stand k (contains_head k ks))
          | inr later ↦ stand l (contains_tail k ks l later)
        ]
        | false ↦ λ d. elim (contains_cons k (use_one step ks) l d) [
          | inl same ↦ stand l (subst (λ z. Contains (k ∷ ks) z) same (contains_head k ks))
          | inr later ↦ stand-use_one history step ks (λ m e. stand m (contains_tail k ks m e)) l later
        ]
      ] in by _ c

  pub stand-spend : (history : List (Entry E)) (spends : Bool) (named : Option (Entry E)) (ks : List (Known E)) → AllStand S history ks → AllStand S history (cond spends (spend named ks) ks)
  stand-spend history false named ks stand = stand
  stand-spend history true None ks stand = stand
  stand-spend history true (Some e) ks stand = stand-use_one history e.step ks stand

  pub stand-push : (history : List (Entry E)) (e : Entry E) (ks : List (Known E)) → AllStand S history ks → AllStand S (history ++ e ∷ []) ks
  stand-push history e ks stand k c = stands-push S history e k (stand k c)

  -- no actor gets more than 2^32 entries, where the one that made the event had fewer
  pub own-short : (history : List (Entry E)) (e : Entry E) (x : ActorId) → ((id : ActorId) → length (own S id history) ≤ 2 ^ 32) → length (own S e.actor history) < 2 ^ 32 → length (own S x (history ++ e ∷ [])) ≤ 2 ^ 32
  own-short history e x room short =
      let by : (b : Bool) → same_id x e.actor ≡ b → length (own S x (history ++ e ∷ [])) ≤ 2 ^ 32 = elim [
        | true ↦ λ is.
            let same : e.actor ≡ x = sym (same_id-true x e.actor is) in
            let grown : length (own S x (history ++ e ∷ [])) ≡ length (own S x history) + 1 = ap length (own-push_same S x history e same) ∙ length-append (own S x history) (pair e (named_in S history e.event) ∷ []) in
            let few : length (own S x history) < 2 ^ 32 = subst (λ a. length (own S a history) < 2 ^ 32) same short in
            omega arith
        | false ↦ λ is.
            let differ : e.actor ≢ x = λ same. (let yes' : same_id x e.actor ≡ true = same_id-equal x e.actor (sym same) in cc (yes', is)) in
            subst (λ ps. length ps ≤ 2 ^ 32) (sym (own-push_other S x history e differ)) (room x)
      ] in by (same_id x e.actor) refl

  -- the part of another actor goes on to be what the history has of it
  pub part-push_other : (history : List (Entry E)) (given : ℕ → ℕ) (e : Entry E) (part : Part E) → e.actor ≢ part.id → IsPart S history given part → IsPart S (history ++ e ∷ []) given part
  part-push_other history given e part differ is = record {
    list = is.list ∙ sym (own-push_other S part.id history e differ);
    gifts = is.gifts;
    stand = stand-push history e part.known is.stand;
  }

  -- the part of the actor that made the event
  pub part-push_same : (history : List (Entry E)) (given : ℕ → ℕ) (event : E) (part : Part E) → given (length history) ≡ 0 → named_by S part event ≡ named_in S history event → IsPart S history given part
      → IsPart S (history ++ entry_of (length history) part.id event ∷ []) given (acted S (length history) event part)
  part-push_same history given event part fresh named is =
      let e = entry_of (length history) part.id event in
      record {
        list = ap (λ ps. ps ++ pair e (named_by S part event) ∷ []) is.list
            ∙ (ap (λ o. own S part.id history ++ pair e o ∷ []) named ∙ sym (own-push_same S part.id history e refl));
        gifts = ap (λ gs. gs ++ 0 ∷ []) is.gifts
            ∙ (ap (λ n. map (λ (p : Pair E). given p.entry.step) part.own ++ n ∷ []) (sym fresh)
            ∙ sym (map-append (λ (p : Pair E). given p.entry.step) part.own (pair e (named_by S part event) ∷ [])));
        stand = stand-push history e _ (stand-spend history (S.spends event) (named_by S part event) part.known is.stand);
      }

module _ {W E : Type 0} (sense : W → Sense E) (w : W) where
  -- the table after the event
  pub acted_table : IsWorld (sense w) → (words : List ℕ) (views : List (View W E)) (seat : ℕ) (v : View W E) (event : E)
      → (table : IsStepTable (sense w) (Some w) words views) → get_elem? views seat ≡ found.some v → v.role ≡ Acting
      → length v.part.own < 2 ^ 32
      → (sense w).local v.part.id v.part.own event (named_by (sense w) v.part event) → (sense w).caused (knowledge v.part) event v.part.id → CanSpend (sense w) v.part event
      → IsStepTable (sense w) (Some w) ((length table.history + 1) ∷ []) (slice_set views seat (after_acting (sense w) (length table.history) event v))
  acted_table laws words views seat v event table at acts short local caused can =
      let S = sense w in
      let history = table.history in
      let books = table.books in
      let n = length history in
      let id = v.part.id in
      let e = entry_of n id event in
      let after = after_acting S n event v in
      let actor = fits-actor S (Some w) history books seat v acts (table.fits seat v at) in
      let has : HasAll (knowledge v.part) history = part-in S history books.given_of v.part actor.part_is in
      let named : named_by S v.part event ≡ named_in S history event = named-same S laws (knowledge v.part) history event id table.fine has caused in
      let may : MayFollow S history e = record {
        step = refl;
        local = subst (λ ps. S.local id ps event (named_in S history event)) actor.part_is.list (subst (λ o. S.local id v.part.own event o) named local);
        caused = laws.more (knowledge v.part) history event id has caused;
      } in
      let member : Contains books.seated id = elim (table.seats id) [ inl z ↦ absurd (let sits = actor.sits in omega arith) | inr c ↦ c ] in
      let long : length (history ++ e ∷ []) ≡ n + 1 = length-append history (e ∷ []) in
      let fresh : books.given_of n ≡ 0 = table.fresh n (omega arith) in
      record {
        history = history ++ e ∷ [];
        books = books;
        word = ap (λ m. m ∷ []) (sym long);
        fine = fine-push S history e table.fine may;
        room = (λ x. own-short S history e x table.room (subst (λ ps. length ps < 2 ^ 32) actor.part_is.list short));
        few = table.few;
        actors = (λ a c. elim (Contains-push_cases history e a c) [ inl old ↦ table.actors a old | inr same ↦ subst (λ (z : Entry E). Contains books.seated z.actor) same member ]);
        seats = table.seats;
        fresh = (λ m past. table.fresh m (omega arith));
        uses = (λ m.
            let total : uses_in m (slice_set views seat after) + view_uses m v ≡ uses_in m views + view_uses m after = sum_set (view_uses m) views seat v after at in
            let grown : spenders S m (history ++ e ∷ []) ≡ spenders S m history + cond (S.spends event && names_step S m (named_in S history event)) 1 0 = spenders-push S m history e in
            let once = spent-once S m (S.spends event) (named_by S v.part event) v.part.known can in
            let same : cond {A = ℕ} (S.spends event && names_step S m (named_by S v.part event)) 1 0 ≡ cond {A = ℕ} (S.spends event && names_step S m (named_in S history event)) 1 0 = ap (λ o. cond {A = ℕ} (S.spends event && names_step S m o) 1 0) named in
            let old = table.uses m in
            omega arith);
        fits = (λ k u at_k.
            elim (at_set views seat k after u at_k) [
              | inl here ↦ subst (λ z. Fits S (Some w) (history ++ e ∷ []) books k z) here.1 (actor-fits S (Some w) (history ++ e ∷ []) books k after acts record {
                world_is = actor.world_is;
                sits = subst (λ i. books.seat_of id ≡ i + 1) (sym here.0) actor.sits;
                part_is = part-push_same S history books.given_of event v.part fresh named actor.part_is;
              })
              | inr elsewhere ↦
                  fits-by S (Some w) history (history ++ e ∷ []) books books k u
                  (λ o. record {
                    first = o.first;
                    world_is = o.world_is;
                    seated_are = o.seated_are;
                    parts_are = (λ q c.
                        let h = o.parts_are q c in
                        record {
                          part_is = part-push_other S history books.given_of e q (λ same. let f : books.seat_of id ≡ books.seat_of q.id = ap books.seat_of same in let l = h.left in let sits = actor.sits in omega arith) h.part_is;
                          left = h.left;
                          member = h.member;
                        });
                    distinct = o.distinct;
                  })
                  (λ a. record {
                    world_is = a.world_is;
                    sits = a.sits;
                    part_is = part-push_other S history books.given_of e u.part (λ same. let f : books.seat_of id ≡ books.seat_of u.part.id = ap books.seat_of same in let l = a.sits in let sits = actor.sits in elsewhere.0 (omega arith)) a.part_is;
                  })
                  (λ m. record { world_is = m.world_is; stand = stand-push S history e u.part.known m.stand })
                  (table.fits k u elsewhere.1)
            ]);
      }

module _ {X W E : Type 0} (sense : W → Sense E) (w : W) where
  -- the word goes up by one, whatever it is
  pub act_allows : IsWorld (sense w) → (slots seat : ℕ) (v : View W E) (held : List (ℕ × X)) (asked : Option E) (event : E) → asked ≡ Some event → v.role ≡ Acting → v.world ≡ Some w
      → length v.part.own < 2 ^ 32
      → (sense w).local v.part.id v.part.own event (named_by (sense w) v.part event) → (sense w).caused (knowledge v.part) event v.part.id → CanSpend (sense w) v.part event
      → Allows (Rules sense w) slots seat (v, held) 0 (λ n. (n + 1) % 2 ^ 64) (Acts sense asked (v, held))
  act_allows laws slots seat v held asked event is acts world short local caused can s table homes at small =
      let S = sense w in
      let found' = slice_index s.words 0 in
      let n : found' ≡ length table.history = word-is S (Some w) s.words s.views table in
      let after = after_acting S found' event v in
      let grown : IsStepTable S (Some w) ((found' + 1) ∷ []) (slice_set s.views seat after) =
      subst (λ m. IsStepTable S (Some w) ((m + 1) ∷ []) (slice_set s.views seat (after_acting S m event v))) (sym n) (acted_table sense w laws s.words s.views seat v event table at acts short local caused can) in
      let there : get_elem? (slice_set s.views seat after) seat ≡ found.some after = set_here s.views seat after (elem_within s.views seat v at) in
      let now' = table-tells S (Some w) ((found' + 1) ∷ []) (slice_set s.views seat after) laws grown seat after there acts in
      let actor = fits-actor S (Some w) table.history table.books seat v acts (table.fits seat v at) in
      let below : found' < 2 ^ 48 = (let top : found' + 1 ≤ 2 ^ 48 = now'.small in omega arith) in
      let word : slice_set s.words 0 ((found' + 1) % 2 ^ 64) ≡ (found' + 1) ∷ [] =
      subst (λ ws. slice_set ws 0 ((found' + 1) % 2 ^ 64) ≡ (found' + 1) ∷ []) (sym table.word) (ap (λ m. m ∷ []) (mod-eq_of_lt (omega arith))) in
      let tells : TellsAct S v.part found' event = record {
        small = below;
        above = subst (λ m. All (λ e. e.step < m) (knowledge v.part)) (sym n) (above-in S table.history (knowledge v.part) table.fine (part-in S table.history table.books.given_of v.part actor.part_is));
        sound = now'.sound;
        stands = now'.stands;
      } in (
        after,
        keeps,
        tt,
        subst (λ ws. IsStepTable S (Some w) ws (slice_set s.views seat after)) (sym word) grown,
        (λ w' event' world' asked'.
            let same_w : w ≡ w' = (let both : Some w ≡ Some w' = sym world ∙ world' in cc both) in
            let same_e : event ≡ event' = (let both : Some event ≡ Some event' = sym is ∙ asked' in cc both) in
            let Q : W → E → Type 0 = λ z x. (◌≡◌ {A = View W E × List (ℕ × X)} (after, held) (after_acting (sense z) found' x v, held)) × TellsAct (sense z) v.part found' x in
            subst (λ x. Q w' x) same_e (subst (λ z. Q z event) same_w (refl, tells))),
      )
