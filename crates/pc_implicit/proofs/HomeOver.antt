-- What becomes of a transaction's record or mark over one more entry: it stays, or the entry evaluates a request to it.
use Rattle.std.proofs.Common.{◌≡◌, ℕ, ◌⊎◌, inl, inr, List, [], ◌∷◌, ◌++◌, Option, None, Some, refl, sym, ap, subst, ◌∙◌}
use Rattle.pc_base.specs.declared.actor.ActorId.{ActorId}
use Rattle.pc_base.specs.declared.actor.ActorId.TheVariants as actors
use Rattle.pc_base.specs.declared.entry.Entry.{Entry}
use Rattle.pc_base.specs.declared.transaction.TxnId.{TxnId}
use Rattle.pc_history.specs.History.{MayFollow}
use Rattle.pc_implicit.proofs.Anchored.{anchor_stays}
use Rattle.pc_implicit.proofs.Doing.{same_or_not}
use Rattle.pc_implicit.proofs.Evals.{NamedMessage, evaluated_state, of_entry, range_evaluates}
use Rattle.pc_implicit.proofs.Homes.{home_is}
use Rattle.pc_implicit.proofs.Metas.{no_place, subject_anchored}
use Rattle.pc_implicit.proofs.Places.{place_kept}
use Rattle.pc_implicit.specs.Writes.{home_of, place_under}
use Rattle.pc_proto.specs.declared.event.Event.{Event}
use Rattle.pc_proto.specs.declared.event.Event.TheVariants as events
use Rattle.pc_proto.specs.declared.record.Record.{Record}
use Rattle.pc_proto.specs.declared.reply.Reply.{Reply}
use Rattle.pc_proto.specs.Place.{Place, Nothing, Kept, after}
use Rattle.pc_proto.specs.RecordRows.{place_change}
use Rattle.pc_proto.specs.Requests.{subject}
use Rattle.pc_proto.specs.Table.{place_of}
use Rattle.pc_world.proofs.Knowing.{state_other}
use Rattle.pc_world.specs.After.{place_at, state_at}
use Rattle.pc_world.specs.Committed.{anchor_in}
use Rattle.pc_world.specs.Local.{Head}
use Rattle.pc_world.specs.RangeOf.{range_of}
use Rattle.pc_world.specs.RangeState.{RangeState}
use Rattle.pc_world.specs.Run.{IsRun, protocol}

-- The entry evaluates a request to the transaction's record, which finds one place and leaves another.
pub record ChangesPlace (head : Head) (history : List (Entry Event)) (e : Entry Event) (id : TxnId) (p q : Place) : Type 0 where
  pub actor : ActorId
  pub number : ℕ
  pub told : Reply
  pub is : e.event ≡ events.Eval actor number told
  pub ev : NamedMessage head history e.actor actor number told
  pub about : subject ev.request ≡ Some id
  pub changed : q ≡ after p (place_change ev.request p)

-- the record of which a transaction has one is on the range of its anchor
pub home_anchored : (head : Head) (id : TxnId) (history : List (Entry Event)) (r : Record) → home_of head id history ≡ Kept r → (anchor : List ℕ) × (anchor_in id history ≡ Some anchor)
home_anchored head id history r is = by (anchor_in id history) refl is
  where
    by : (o : Option (List ℕ)) → anchor_in id history ≡ o → place_under head id history o ≡ Kept r → (anchor : List ℕ) × (anchor_in id history ≡ Some anchor)
    by None none is = absurd cc
    by (Some anchor) some is = (anchor, some)

module _ (head : Head) (history : List (Entry Event)) (run : IsRun head history) (e : Entry Event) (may : MayFollow (protocol head) history e) (id : TxnId) where
  place-over : (range : ℕ) → let p = place_at head range id history in let q = place_at head range id (history ++ e ∷ []) in (q ≡ p) ⊎ ChangesPlace head history e id p q
  place-over range =
      elim (same_or_not e.actor (actors.Range range)) [
        | inl at ↦
            let what = range_evaluates head history e range may at in
            let ev = of_entry head history e what.0 what.1 what.2 run may what.3 in
            let there : ev.range ≡ range = let both = sym ev.there ∙ at in cc both in
            let p = place_at head ev.range id history in
            let s = state_at head ev.range history in
            let state = evaluated_state head history e what.0 what.1 ev.range what.2 ev what.3 in
            let P : Place → Type 0 = λ q. (q ≡ p) ⊎ ((subject ev.request ≡ Some id) × (q ≡ after p (place_change ev.request p))) in
            let now : P (place_at head ev.range id (history ++ e ∷ [])) =
            subst (λ (x : RangeState). P (place_of id x.table)) (sym state) (place_kept P ev.request id s.table (λ about before. inr (about, refl)) (inl refl)) in
            let over : (place_at head ev.range id (history ++ e ∷ []) ≡ p) ⊎ ChangesPlace head history e id p (place_at head ev.range id (history ++ e ∷ [])) =
            elim now [
              | inl same ↦ inl same
              | inr changes ↦ inr (record { actor = what.0; number = what.1; told = what.2; is = what.3; ev = ev; about = changes.0; changed = changes.1 })
            ] in
            subst (λ r. (place_at head r id (history ++ e ∷ []) ≡ place_at head r id history) ⊎ ChangesPlace head history e id (place_at head r id history) (place_at head r id (history ++ e ∷ []))) there over
        | inr differ ↦ inl (ap (λ (x : RangeState). place_of id x.table) (state_other head (actors.Range range) history e differ))
      ]

  -- what becomes of what the range of the transaction's anchor has of it
  pub home_over : (home_of head id (history ++ e ∷ []) ≡ home_of head id history) ⊎ ChangesPlace head history e id (home_of head id history) (home_of head id (history ++ e ∷ []))
  home_over = by (anchor_in id history) refl (anchor_in id (history ++ e ∷ [])) refl
    where
      begins : (range : ℕ) → anchor_in id history ≡ None → place_at head range id (history ++ e ∷ []) ≡ Nothing
      begins range none =
          elim (place-over range) [
            | inl same ↦ same ∙ no_place head history run range id none
            | inr c ↦
                let at = subject_anchored head history run c.ev.send c.ev.listed c.number c.ev.range c.ev.request id c.ev.sends c.about in
                let both : None ≡ Some at.anchor = sym none ∙ at.anchored in absurd cc
          ]

      by : (o : Option (List ℕ)) → anchor_in id history ≡ o → (n : Option (List ℕ)) → anchor_in id (history ++ e ∷ []) ≡ n
          → (home_of head id (history ++ e ∷ []) ≡ home_of head id history) ⊎ ChangesPlace head history e id (home_of head id history) (home_of head id (history ++ e ∷ []))
      by None none None still = inl (ap (place_under head id (history ++ e ∷ [])) still ∙ sym (ap (place_under head id history) none))
      by None none (Some anchor) some =
          inl (home_is head id (history ++ e ∷ []) anchor some ∙ begins (range_of head.splits anchor) none ∙ sym (ap (place_under head id history) none))
      by (Some anchor) some n now =
          let range = range_of head.splits anchor in
          let before = home_is head id history anchor some in
          let later = home_is head id (history ++ e ∷ []) anchor (anchor_stays id history e anchor some) in
          elim (place-over range) [
            | inl same ↦ inl (later ∙ same ∙ sym before)
            | inr c ↦
                inr (record {
                  actor = c.actor;
                  number = c.number;
                  told = c.told;
                  is = c.is;
                  ev = c.ev;
                  about = c.about;
                  changed = later ∙ c.changed ∙ ap (λ p. after p (place_change c.ev.request p)) (sym before);
                })
          ]
