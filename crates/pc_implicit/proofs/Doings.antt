-- How far a transaction is after one more entry, and that its session's open call is the one that was asked last.
use Rattle.std.proofs.Common.{◌≡◌, ◌≢◌, cond, List, [], ◌∷◌, ◌++◌, filter, fold, map, Option, None, Some, refl, sym, ap, ◌∙◌}
use Rattle.std.proofs.lemmas.Grind.{fold-append}
use Rattle.std.proofs.lemmas.List.{append-nil, map-append}
use Rattle.std.proofs.lemmas.List.Elements.{filter-append}
use Rattle.pc_base.specs.declared.actor.ActorId.TheVariants as actors
use Rattle.pc_base.specs.declared.entry.Entry.{Entry}
use Rattle.pc_base.specs.declared.transaction.TxnId.{TxnId}
use Rattle.pc_history.proofs.Ids.{same_id-differ, same_id-equal}
use Rattle.pc_history.specs.Own.{same_id}
use Rattle.pc_proto.specs.declared.call.Call.{Call}
use Rattle.pc_proto.specs.declared.event.Event.{Event}
use Rattle.pc_proto.specs.declared.event.Event.TheVariants as events
use Rattle.pc_world.specs.Known.Statements.{Statement, statement_after}
use Rattle.pc_world.specs.Operations.{Doing, call_after, doing_after, doing_nothing, session_events}

-- The call of the open statement is the one that was asked last.
abbrev pub IsCallOf : Option Call → Option Statement → Type 0
IsCallOf call None = Unit {0}
IsCallOf call (Some s) = call ≡ Some s.call

pub call-after : (event : Event) (call : Option Call) (s : Option Statement) → IsCallOf call s → IsCallOf (call_after event call) (statement_after event s)
call-after (events.Ask asked reading) call s h = refl
call-after (events.Tell answer) call s h = tt
call-after event call s h = h

pub call_is : (call : Option Call) (opened : Option Statement) (s : Statement) → IsCallOf call opened → opened ≡ Some s → call ≡ Some s.call
call_is call None s h is = absurd cc
call_is call (Some x) s h is = let same : x ≡ s = cc in h ∙ ap (λ (y : Statement). Some y.call) same

-- How far the transaction is after a history.
abbrev pub doing_at : TxnId → List (Entry Event) → Doing
doing_at id history = fold (doing_after id) doing_nothing (session_events id history)

module _ (id : TxnId) (history : List (Entry Event)) (e : Entry Event) where
  events-push : session_events id (history ++ e ∷ []) ≡ session_events id history ++ map (λ (x : Entry Event). x.event) (cond (same_id (actors.Session id.session) e.actor) (e ∷ []) [])
  events-push =
      ap (map (λ (x : Entry Event). x.event)) (filter-append (λ (x : Entry Event). same_id (actors.Session id.session) x.actor) history (e ∷ []))
      ∙ map-append (λ (x : Entry Event). x.event) (filter (λ x. same_id (actors.Session id.session) x.actor) history) (cond (same_id (actors.Session id.session) e.actor) (e ∷ []) [])

  pub doing-same : e.actor ≡ actors.Session id.session → doing_at id (history ++ e ∷ []) ≡ doing_after id (doing_at id history) e.event
  doing-same same =
      ap (fold (doing_after id) doing_nothing)
      (events-push ∙ ap (λ b. session_events id history ++ map (λ (x : Entry Event). x.event) (cond b (e ∷ []) [])) (same_id-equal (actors.Session id.session) e.actor (sym same)))
      ∙ fold-append (doing_after id) doing_nothing (session_events id history) (e.event ∷ [])

  pub doing-other : e.actor ≢ actors.Session id.session → doing_at id (history ++ e ∷ []) ≡ doing_at id history
  doing-other differ =
      ap (fold (doing_after id) doing_nothing)
      (events-push
      ∙ ap (λ b. session_events id history ++ map (λ (x : Entry Event). x.event) (cond b (e ∷ []) [])) (same_id-differ (actors.Session id.session) e.actor (λ h. differ (sym h)))
      ∙ append-nil (session_events id history))
