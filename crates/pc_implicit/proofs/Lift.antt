-- From one evaluation to every longer history.
use Rattle.std.proofs.Common.{◌≡◌, ℕ, List, [], ◌∷◌, ◌++◌, fold, filter, Option, None, Some, sym, ap, subst, ◌∙◌}
use Rattle.std.proofs.lemmas.Grind.{fold-append}
use Rattle.std.proofs.lemmas.List.Elements.{filter-append}
use Rattle.pc_base.specs.declared.actor.ActorId.{ActorId}
use Rattle.pc_base.specs.declared.actor.ActorId.TheVariants as actors
use Rattle.pc_base.specs.declared.entry.Entry.{Entry}
use Rattle.pc_history.proofs.Histories.{pairs_after-append}
use Rattle.pc_history.specs.declared.pair.Pair.{Pair}
use Rattle.pc_history.specs.Own.{own, pairs_after, pairs_of, same_id}
use Rattle.pc_proto.specs.declared.event.Event.{Event}
use Rattle.pc_proto.specs.declared.request.Request.{Request}
use Rattle.pc_world.specs.After.{state_at}
use Rattle.pc_world.specs.Evaluation.{state_after}
use Rattle.pc_world.specs.Local.{Head}
use Rattle.pc_world.specs.Named.{request_named}
use Rattle.pc_world.specs.RangeState.{RangeState, no_state}
use Rattle.pc_world.specs.Run.{protocol}
use Rattle.pc_world.specs.StateOf.{evaluated, state_of, state_with}

-- A relation of two states of a range that holds of each state and itself, goes on, and holds over each evaluation.
pub record GoesOn (R : RangeState → RangeState → Type 0) : Type 0 where
  pub same : (s : RangeState) → R s s
  pub on : (s t u : RangeState) → R s t → R t u → R s u
  pub step : (request : Request) (s : RangeState) → R s (state_after request s)

module _ (R : RangeState → RangeState → Type 0) (goes : GoesOn R) where
  with-request : (request : Option Request) (s : RangeState) → R s (state_with request s)
  with-request None s = goes.same s
  with-request (Some request) s = goes.step request s

  along : (s : RangeState) (entries : List (Pair Event)) → R s (fold evaluated s entries)
  along s [] = goes.same s
  along s (p ∷ ps) = goes.on s (evaluated s p) (fold evaluated (evaluated s p) ps) (with-request (request_named p.named) s) (along (evaluated s p) ps)

  own-append : (head : Head) (id : ActorId) (front back : List (Entry Event)) → own (protocol head) id (front ++ back) ≡ own (protocol head) id front ++ filter (λ p. same_id id p.entry.actor) (pairs_after (protocol head) front back)
  own-append head id front back =
      ap (λ ps. filter (λ p. same_id id p.entry.actor) ps) (pairs_after-append (protocol head) [] front back)
      ∙ filter-append (λ p. same_id id p.entry.actor) (pairs_of (protocol head) front) (pairs_after (protocol head) front back)

  -- it holds of a range after a history and after every longer one
  pub over : (head : Head) (range : ℕ) (front back : List (Entry Event)) → R (state_at head range front) (state_at head range (front ++ back))
  over head range front back =
      let id : ActorId = actors.Range range in
      let more = filter (λ p. same_id id p.entry.actor) (pairs_after (protocol head) front back) in
      let joined : state_of (own (protocol head) id (front ++ back)) ≡ fold evaluated (state_of (own (protocol head) id front)) more =
      ap state_of (own-append head id front back) ∙ fold-append evaluated no_state (own (protocol head) id front) more in
      subst (R (state_at head range front)) (sym joined) (along (state_at head range front) more)
