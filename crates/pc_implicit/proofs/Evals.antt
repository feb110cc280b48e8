-- An evaluation names the message that it evaluates.
use Rattle.std.proofs.Common.{◌≡◌, ℕ, true, List, [], ◌∷◌, ◌++◌, Option, Some, Contains, refl, sym, ap, subst, ◌∙◌}
use Rattle.std.proofs.lemmas.Bool.{and_from, eq-eqb}
use Rattle.pc_base.specs.declared.actor.ActorId.{ActorId}
use Rattle.pc_base.specs.declared.actor.ActorId.TheVariants as actors
use Rattle.pc_base.specs.declared.entry.Entry.{Entry}
use Rattle.pc_history.proofs.Histories.{named-one}
use Rattle.pc_history.proofs.Ids.{same_id-equal}
use Rattle.pc_history.specs.declared.pair.Pair.{Pair}
use Rattle.pc_history.specs.History.{MayFollow}
use Rattle.pc_history.specs.Own.{named_in, own, same_id}
use Rattle.pc_proto.specs.declared.event.Event.{Event}
use Rattle.pc_proto.specs.declared.event.Event.TheVariants as events
use Rattle.pc_proto.specs.declared.reply.Reply.{Reply}
use Rattle.pc_proto.specs.declared.request.Request.{Request}
use Rattle.pc_world.proofs.Knowing.{state_same}
use Rattle.pc_world.proofs.World.{names_one}
use Rattle.pc_world.specs.After.{state_at}
use Rattle.pc_world.specs.Caused.{IsCaused, SendsTo}
use Rattle.pc_world.specs.Evaluation.{state_after}
use Rattle.pc_world.specs.Local.{Head, MayComeNext}
use Rattle.pc_world.specs.Named.{is_send_of, request_in, request_named}
use Rattle.pc_world.specs.Run.{IsRun, protocol}
use Rattle.pc_world.specs.StateOf.{state_with}

-- The message that an evaluation at this place names.
pub record NamedMessage (head : Head) (history : List (Entry Event)) (at actor : ActorId) (number : ℕ) (reply : Reply) : Type 0 where
  pub range : ℕ
  pub there : at ≡ actors.Range range
  pub send : Entry Event
  pub request : Request
  pub listed : Contains history send
  pub whose : send.actor ≡ actor
  pub sends : send.event ≡ events.Send number range request
  pub named : named_in (protocol head) history (events.Eval actor number reply) ≡ Some send

sends-what : (at : ActorId) (number : ℕ) (event : Event) → SendsTo at number event → (range : ℕ) × (request : Request) × (at ≡ actors.Range range) × (event ≡ events.Send number range request)
sends-what (actors.Range range) number (events.Send sent to request) h = (range, request, refl, ap (λ s. events.Send s to request) h.0 ∙ ap (λ t. events.Send number t request) h.1)
sends-what at number event h = absurd h

pub evaluates : (head : Head) (history : List (Entry Event)) (at actor : ActorId) (number : ℕ) (reply : Reply) → IsRun head history → IsCaused history (events.Eval actor number reply) at → NamedMessage head history at actor number reply
evaluates head history at actor number reply run (k, a, inside, here, is) =
    let what = sends-what at number a.event is.send in
    let named : is_send_of number a.event ≡ true = ap (is_send_of number) what.3 ∙ eq-eqb number number refl in
    record {
      range = what.0;
      there = what.2;
      send = a;
      request = what.1;
      listed = (k, inside, here);
      whose = is.whose;
      sends = what.3;
      named =
          named-one (protocol head) history (events.Eval actor number reply) a (names_one head history (events.Eval actor number reply) run) (k, inside, here)
          (and_from (same_id actor a.actor) (is_send_of number a.event) (same_id-equal actor a.actor (sym is.whose)) named);
    }

pub of_entry : (head : Head) (history : List (Entry Event)) (e : Entry Event) (actor : ActorId) (number : ℕ) (reply : Reply) → IsRun head history → MayFollow (protocol head) history e → e.event ≡ events.Eval actor number reply → NamedMessage head history e.actor actor number reply
of_entry head history e actor number reply run may is = evaluates head history e.actor actor number reply run (subst (λ event. IsCaused history event e.actor) is may.caused)

evaluates-only : (head : Head) (range : ℕ) (entries : List (Pair Event)) (event : Event) (named : Option (Entry Event)) → MayComeNext head (actors.Range range) entries event named → (actor : ActorId) × (number : ℕ) × (reply : Reply) × (event ≡ events.Eval actor number reply)
evaluates-only head range entries (events.Eval actor number reply) named may = (actor, number, reply, refl)
evaluates-only head range entries event named may = absurd may

-- a range only evaluates
pub range_evaluates : (head : Head) (history : List (Entry Event)) (e : Entry Event) (range : ℕ) → MayFollow (protocol head) history e → e.actor ≡ actors.Range range → (actor : ActorId) × (number : ℕ) × (reply : Reply) × (e.event ≡ events.Eval actor number reply)
range_evaluates head history e range may at =
    let named = named_in (protocol head) history e.event in
    evaluates-only head range (own (protocol head) (actors.Range range) history) e.event named (subst (λ a. MayComeNext head a (own (protocol head) a history) e.event named) at may.local.next)

-- the state of a range after it evaluated the message that the evaluation names
pub evaluated_state : (head : Head) (history : List (Entry Event)) (e : Entry Event) (actor : ActorId) (number range : ℕ) (reply : Reply) (ev : NamedMessage head history e.actor actor number reply) → e.event ≡ events.Eval actor number reply
    → state_at head ev.range (history ++ e ∷ []) ≡ state_after ev.request (state_at head ev.range history)
evaluated_state head history e actor number range reply ev is =
    state_same head (actors.Range ev.range) history e ev.there
    ∙ ap (λ o. state_with (request_named o) (state_at head ev.range history)) (ap (named_in (protocol head) history) is ∙ ev.named)
    ∙ ap (λ event. state_with (request_in event) (state_at head ev.range history)) ev.sends
