-- The places of the commits that an actor was told of, as its list grows.
use Rattle.std.proofs.Common.{◌≡◌, ◌⊎◌, inl, inr, ℕ, Bool, true, false, cond, List, [], ◌∷◌, ◌++◌, length, Option, Some, None, refl, sym, ap, subst, ◌∙◌}
use Rattle.std.proofs.lemmas.List.Elements.{Contains-push_cases}
use Rattle.std.proofs.lemmas.Option.{same_Some}
use Rattle.pc_base.proofs.TxnOrder.{txn_equal}
use Rattle.pc_base.specs.declared.transaction.TxnId.{TxnId}
use Rattle.pc_base.specs.Transaction.{same_txn}
use Rattle.pc_desk.specs.Commits.{HasCommitPlaces, IsCommitPlace, KeepsPlace, TellsCommitAt, WasTold, commit_told_by}
use Rattle.pc_history.specs.declared.pair.Pair.{Pair}
use Rattle.pc_lists.proofs.Lists.{get_append, get_push}
use Rattle.pc_lists.proofs.Same.{same_txn-is, same_txn-self}
use Rattle.pc_proto.specs.declared.answer.Answer.TheVariants as answers
use Rattle.pc_proto.specs.declared.event.Event.{Event}
use Rattle.pc_proto.specs.declared.event.Event.TheVariants as events
use Rattle.pc_world.specs.Caused.{TellsCommitted}

-- the event tells just the commit that it names
tells_it : (event : Event) (id : TxnId) → commit_told_by event ≡ Some id → TellsCommitted id event
tells_it (events.Tell (answers.Committed other ts)) id some = same_Some other id some
tells_it event id some = absurd cc

it_tells : (event : Event) (id : TxnId) → TellsCommitted id event → commit_told_by event ≡ Some id
it_tells (events.Tell (answers.Committed other ts)) id tells = ap Some tells
it_tells event id tells = absurd tells

module _ (own : List (Pair Event)) (p : Pair Event) where
  was_cases : (id : TxnId) → WasTold id (own ++ p ∷ []) → WasTold id own ⊎ TellsCommitted id p.entry.event
  was_cases id (k, x, low, at, tells) = elim (Contains-push_cases own p x (k, low, at)) [
    | inl before ↦ inl (before.0, x, before.1, before.2, tells)
    | inr last ↦ inr (subst (λ (y : Pair Event). TellsCommitted id y.entry.event) (sym last) tells)
  ]

  -- a transaction that the last entry does not tell committed has the place that it had
  place_kept : (id : TxnId) (place : Option ℕ) → (TellsCommitted id p.entry.event → ⊥) → IsCommitPlace id own place → IsCommitPlace id (own ++ p ∷ []) place
  place_kept id None other none = λ was. elim (was_cases id was) [
    | inl before ↦ none before
    | inr now ↦ other now
  ]
  place_kept id (Some place) other at = record { pair = at.pair; there = get_append own (p ∷ []) place at.pair at.there; tells = at.tells }

  -- one that it tells committed has the last place
  place_last : (id : TxnId) → TellsCommitted id p.entry.event → TellsCommitAt id (own ++ p ∷ []) (length own)
  place_last id tells = record { pair = p; there = get_push own p; tells = tells }

  -- one more entry, of which the places were kept
  pub places_grown : (places later : TxnId → Option ℕ) → KeepsPlace (commit_told_by p.entry.event) (length own) places later → HasCommitPlaces places own → HasCommitPlaces later (own ++ p ∷ [])
  places_grown places later keeps has = record { each = λ id. by (commit_told_by p.entry.event) refl keeps id }
    where
      by_it : (told id : TxnId) (b : Bool) → commit_told_by p.entry.event ≡ Some told → same_txn told id ≡ b → IsCommitPlace id (own ++ p ∷ []) (cond b (Some (length own)) (places id))
      by_it told id true some same = place_last id (tells_it p.entry.event id (some ∙ ap Some (same_txn-is told id same)))
      by_it told id false some differ =
          place_kept id (places id) (λ tells.
          let both : Some told ≡ Some id = sym some ∙ it_tells p.entry.event id tells in
          let equal : same_txn told id ≡ true = subst (λ i. same_txn told i ≡ true) (same_Some told id both) (same_txn-self told) in
          let e : true ≡ false = sym equal ∙ differ in
          absurd cc) (has.each id)

      by : (told : Option TxnId) → commit_told_by p.entry.event ≡ told → KeepsPlace told (length own) places later → (id : TxnId) → IsCommitPlace id (own ++ p ∷ []) (later id)
      by None none keeps id =
          subst (λ o. IsCommitPlace id (own ++ p ∷ []) o) (sym (keeps id))
          (place_kept id (places id) (λ tells. let e : Some id ≡ None = sym (it_tells p.entry.event id tells) ∙ none in absurd cc) (has.each id))
      by (Some told) some keeps id =
          subst (λ o. IsCommitPlace id (own ++ p ∷ []) o) (sym (keeps id ∙ ap (λ b. cond b (Some (length own)) (places id)) (txn_equal told id)))
          (by_it told id (same_txn told id) some refl)
