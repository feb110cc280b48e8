-- Which request an event evaluates: that of the one send that it names.
use Rattle.std.proofs.Common.{◌≡◌, ℕ, Bool, true, false, ◌==◌, cond, List, [], ◌∷◌, Contains, Option, None, Some, refl, sym, ap, subst, ◌∙◌}
use Rattle.std.proofs.lemmas.Bool.{and_parts}
use Rattle.std.specs.List.{find}
use Rattle.pc_base.specs.declared.actor.ActorId.{ActorId}
use Rattle.pc_base.specs.declared.entry.Entry.{Entry}
use Rattle.pc_lists.proofs.Lists.{contains_head, contains_tail, find_none}
use Rattle.pc_proto.specs.declared.event.Event.{Event}
use Rattle.pc_proto.specs.declared.event.Event.TheVariants as events
use Rattle.pc_proto.specs.declared.request.Request.{Request}
use Rattle.pc_proto.specs.declared.reply.Reply.{Reply}
use Rattle.pc_report.specs.Replaying.{asked_in}
use Rattle.pc_sent.specs.Sending.{sends_message}
use Rattle.pc_world.specs.Named.{is_eval, is_tell, names, request_in, request_named}

no-request : (event : Event) → (is_eval event ≡ true) → request_in event ≡ None
no-request (events.Eval actor number reply) h = refl
no-request event h = absurd cc

no-request-told : (event : Event) → (is_tell event ≡ true) → request_in event ≡ None
no-request-told (events.Tell answer) h = refl
no-request-told event h = absurd cc

-- where whatever passes has no request, what is found has none
found-none : (p : Entry Event → Bool) → ((e : Entry Event) → p e ≡ true → request_in e.event ≡ None) → (xs : List (Entry Event)) → request_named (find p xs) ≡ None
found-none p none [] = refl
found-none p none (x ∷ xs) = by (p x) refl (found-none p none xs)
  where
    by : (b : Bool) → p x ≡ b → request_named (find p xs) ≡ None → request_named (cond b (Some x) (find p xs)) ≡ None
    by true e rest = none x e
    by false e rest = rest

-- only an evaluation has a request
pub asked_send : (before : List (Entry Event)) (number range : ℕ) (request : Request) → asked_in before (events.Send number range request) ≡ None
asked_send before number range request = ap request_named (find_none (λ e. false) before (λ e. refl))

pub asked_hear : (before : List (Entry Event)) (number step : ℕ) → asked_in before (events.Hear number step) ≡ None
asked_hear before number step =
    found-none (λ e. names (events.Hear number step) e) (λ e h. no-request e.event (and_parts (e.step == step) (is_eval e.event) h).1) before

-- what is found is one of them, and passes
find-inside : (p : Entry Event → Bool) (xs : List (Entry Event)) (y : Entry Event) → find p xs ≡ Some y → Contains xs y × (p y ≡ true)
find-inside p [] y h = absurd cc
find-inside p (x ∷ xs) y h = by (p x) refl h (find-inside p xs y)
  where
    by : (b : Bool) → p x ≡ b → cond b (Some x) (find p xs) ≡ Some y → (find p xs ≡ Some y → Contains xs y × (p y ≡ true)) → Contains (x ∷ xs) y × (p y ≡ true)
    by true e h later = let same : x ≡ y = cc in (subst (Contains (x ∷ xs)) same (contains_head x xs), subst (λ z. p z ≡ true) same e)
    by false e h later = let rest = later h in (contains_tail x xs y rest.0, rest.1)

-- the request that is evaluated was sent before
pub asked_there : (before : List (Entry Event)) (event : Event) (request : Request) → asked_in before event ≡ Some request → (e : Entry Event) × Contains before e × (request_in e.event ≡ Some request)
asked_there before event request = by (find (λ e. names event e) before) refl
  where
    by : (o : Option (Entry Event)) → find (λ e. names event e) before ≡ o → request_named o ≡ Some request → (e : Entry Event) × Contains before e × (request_in e.event ≡ Some request)
    by None e h = absurd cc
    by (Some x) e h = (x, (find-inside (λ e. names event e) before x e).0, h)

-- the entry that sends the message has the request that its evaluation answers
pub asked_sent : (before : List (Entry Event)) (event : Event) (actor : ActorId) (number : ℕ) (reply : Reply) → event ≡ events.Eval actor number reply
    → (o : Option (Entry Event)) → o ≡ find (sends_message actor number) before → request_named o ≡ asked_in before event
asked_sent before event actor number reply is o found = ap request_named found ∙ sym (ap (asked_in before) is)

-- what is no evaluation asks nothing
pub asked_other : (before : List (Entry Event)) (event : Event) → ((actor : ActorId) (number : ℕ) (reply : Reply) → event ≡ events.Eval actor number reply → ⊥) → asked_in before event ≡ None
asked_other before (events.Ask call reading) h = ap request_named (find_none (λ e. false) before (λ e. refl))
asked_other before (events.Send number range request) h = asked_send before number range request
asked_other before (events.Eval actor number reply) h = absurd (h actor number reply refl)
asked_other before (events.Hear number step) h = asked_hear before number step
asked_other before (events.Tell answer) h = ap request_named (find_none (λ e. false) before (λ e. refl))
asked_other before (events.Meet id step) h =
    found-none (λ e. names (events.Meet id step) e) (λ e h. no-request-told e.event (and_parts (e.step == step) (is_tell e.event) h).1) before
