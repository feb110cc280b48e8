-- What an actor heard is so.
use Rattle.std.proofs.Common.{◌≡◌, ℕ, true, ◌==◌, inl, inr, List, [], ◌∷◌, ◌++◌, Option, None, Some, IfSome, Contains, refl, sym, ap, subst, ◌∙◌}
use Rattle.std.proofs.lemmas.Bool.{and_from, eq-eqb}
use Rattle.std.proofs.lemmas.List.Elements.{Contains-append_left, Contains-push}
use Rattle.std.specs.List.{AllByRecursion as Each}
use Rattle.std.specs.Option.{option_to_list}
use Rattle.pc_base.specs.declared.actor.ActorId.{ActorId}
use Rattle.pc_base.specs.declared.entry.Entry.{Entry}
use Rattle.pc_history.proofs.Histories.{named-one}
use Rattle.pc_history.proofs.Ids.{same_id-equal}
use Rattle.pc_history.specs.Own.{named_in, same_id}
use Rattle.pc_implicit.proofs.Asked.{asked_is_named}
use Rattle.pc_implicit.proofs.Doing.{same_or_not}
use Rattle.pc_implicit.proofs.Shown.{WasAnswered, answered_more, shown}
use Rattle.pc_lists.proofs.Each.{each-append, each-weaker}
use Rattle.pc_proto.specs.declared.event.Event.{Event}
use Rattle.pc_proto.specs.declared.event.Event.TheVariants as events
use Rattle.pc_proto.specs.declared.reply.Reply.{Reply}
use Rattle.pc_proto.specs.declared.request.Request.{Request}
use Rattle.pc_world.proofs.Knowing.{known_other, known_same}
use Rattle.pc_world.proofs.Prefixes.{run_induction}
use Rattle.pc_world.proofs.World.{names_one}
use Rattle.pc_world.specs.After.{known_at}
use Rattle.pc_world.specs.Caused.{Evaluates as IsEvaluation, IsCaused}
use Rattle.pc_world.specs.Known.{Known}
use Rattle.pc_world.specs.Known.Traffic.{Heard, Sent, heard_as, heard_by, heard_now_after, reply_in, reply_named, request_sent, sent_by}
use Rattle.pc_world.specs.Local.{Head}
use Rattle.pc_world.specs.Named.{is_eval, is_send_of, request_in}
use Rattle.pc_world.specs.Run.{IsRun, protocol}

evaluation-is : (actor : ActorId) (number : ℕ) (event : Event) → IsEvaluation actor number event → (reply : Reply) × (event ≡ events.Eval actor number reply)
evaluation-is actor number (events.Eval sender sent reply) h = (reply, ap (λ s. events.Eval s sent reply) h.0 ∙ ap (λ n. events.Eval actor n reply) h.1)
evaluation-is actor number event h = absurd h

-- what is so of what is heard, where it is so of each request and reply
pub as-heard : (P : Heard → Type 0) (number step : ℕ) (request : Option Request) (reply : Option Reply)
    → ((asked : Request) (told : Reply) → request ≡ Some asked → reply ≡ Some told → P (record { number = number; request = asked; reply = told; step = step })) → IfSome (heard_as number step request reply) P
as-heard P number step (Some request) (Some reply) on = on request reply refl refl
as-heard P number step (Some request) None on = tt
as-heard P number step None reply on = tt

-- the same of the list
pub to-list : (P : Heard → Type 0) (h : Option Heard) → IfSome h P → Each P (option_to_list h)
to-list P None a = tt
to-list P (Some h) a = (a, tt)

module _ (head : Head) where
  -- What was heard of its message was answered to it.
  abbrev pub IsSo : List (Entry Event) → ActorId → Heard → Type 0
  IsSo history actor h = WasAnswered head history actor h.number h.request h.reply

  -- the evaluation that a hearing names
  pub hearing_names : (history : List (Entry Event)) → IsRun head history → (actor : ActorId) (number step : ℕ) → IsCaused history (events.Hear number step) actor
      → (x : Entry Event) × (reply : Reply) × Contains history x × (x.event ≡ events.Eval actor number reply) × (named_in (protocol head) history (events.Hear number step) ≡ Some x) × (x.step ≡ step)
  hearing_names history run actor number step (k, x, inside, at, is) =
      let what = evaluation-is actor number x.event is.eval in (
        x,
        what.0,
        (k, inside, at),
        what.1,
        named-one (protocol head) history (events.Hear number step) x (names_one head history (events.Hear number step) run) (k, inside, at)
            (and_from (x.step == step) (is_eval x.event) (eq-eqb x.step step is.at) (ap is_eval what.1)),
        is.at,
      )

  -- so is what it hears next
  pub heard-event : (history : List (Entry Event)) → IsRun head history → (actor : ActorId) (event : Event) → IsCaused history event actor
      → IfSome (heard_by event (named_in (protocol head) history event) (known_at head actor history).sent) (IsSo history actor)
  heard-event history run actor (events.Hear number step) cause =
      let names = hearing_names history run actor number step cause in
      let so = shown head history run names.0 names.2 actor number names.1 names.3 in
      let w = so.1 in
      let sends : is_send_of number w.send.event ≡ true = ap (is_send_of number) w.sends ∙ eq-eqb number number refl in
      let named : named_in (protocol head) history (events.Eval actor number names.1) ≡ Some w.send =
      named-one (protocol head) history (events.Eval actor number names.1) w.send (names_one head history (events.Eval actor number names.1) run) w.listed
      (and_from (same_id actor w.send.actor) (is_send_of number w.send.event) (same_id-equal actor w.send.actor (sym w.whose)) sends) in
      let asks : request_sent number (known_at head actor history).sent ≡ Some so.0 = asked_is_named head actor number history run names.1 w.send named ∙ ap request_in w.sends in
      let told : reply_named (named_in (protocol head) history (events.Hear number step)) ≡ Some names.1 = ap reply_named names.4 ∙ ap (λ event. reply_in event) names.3 in
      as-heard (IsSo history actor) number step (request_sent number (known_at head actor history).sent) (reply_named (named_in (protocol head) history (events.Hear number step)))
      (λ asked reply is_asked is_told.
      let same : so.0 ≡ asked = let both = sym asks ∙ is_asked in cc both in
      let also : names.1 ≡ reply = let both = sym told ∙ is_told in cc both in
      subst (λ r. WasAnswered head history actor number asked r) also (subst (λ q. WasAnswered head history actor number q names.1) same w))
  heard-event history run actor event cause = tt

  -- what an actor heard is so
  pub heard_is_so : (history : List (Entry Event)) → IsRun head history → (actor : ActorId) → Each (IsSo history actor) (known_at head actor history).heard
  heard_is_so = run_induction head (λ history. (actor : ActorId) → Each (IsSo history actor) (known_at head actor history).heard) (λ actor. tt) (λ history e run may all actor.
      let k = known_at head actor history in
      let kept : Each (IsSo (history ++ e ∷ []) actor) k.heard =
      each-weaker (IsSo history actor) (IsSo (history ++ e ∷ []) actor) (λ h. answered_more head history e actor h.number h.request h.reply) k.heard (all actor) in
      elim (same_or_not e.actor actor) [
        | inl same ↦
            let h = heard_by e.event (named_in (protocol head) history e.event) k.sent in
            let new : IfSome h (IsSo history actor) = heard-event history run actor e.event (subst (IsCaused history e.event) same may.caused) in
            subst (λ (l : Known). Each (IsSo (history ++ e ∷ []) actor) l.heard) (sym (known_same head actor history e same))
            (each-append (IsSo (history ++ e ∷ []) actor) k.heard (option_to_list h) kept
            (each-weaker (IsSo history actor) (IsSo (history ++ e ∷ []) actor) (λ g. answered_more head history e actor g.number g.request g.reply) (option_to_list h) (to-list (IsSo history actor) h new)))
        | inr differ ↦ subst (λ (l : Known). Each (IsSo (history ++ e ∷ []) actor) l.heard) (sym (known_other head actor history e differ)) kept
      ])

  now-each : (P : Heard → Type 0) (event : Event) (h : Option Heard) (heard : List Heard) → IfSome h P → Each P heard → Each P (heard_now_after event h heard)
  now-each P (events.Ask call reading) h heard a b = tt
  now-each P event h heard a b = each-append P heard (option_to_list h) b (to-list P h a)

  -- what is so of each reply when it is heard, and stays so, is so of those that an actor heard since its last call was asked
  pub each_now : (P : List (Entry Event) → ActorId → Heard → Type 0)
      → ((history : List (Entry Event)) (e : Entry Event) (actor : ActorId) (h : Heard) → P history actor h → P (history ++ e ∷ []) actor h)
      → ((history : List (Entry Event)) → IsRun head history → (actor : ActorId) (h : Heard) → IsSo history actor h → P history actor h)
      → (history : List (Entry Event)) → IsRun head history → (actor : ActorId) → Each (P history actor) (known_at head actor history).heard_now
  each_now P more so = run_induction head (λ history. (actor : ActorId) → Each (P history actor) (known_at head actor history).heard_now) (λ actor. tt) (λ history e run may all actor.
      let k = known_at head actor history in
      let kept : Each (P (history ++ e ∷ []) actor) k.heard_now =
      each-weaker (P history actor) (P (history ++ e ∷ []) actor) (λ h. more history e actor h) k.heard_now (all actor) in
      elim (same_or_not e.actor actor) [
        | inl same ↦
            let h = heard_by e.event (named_in (protocol head) history e.event) k.sent in
            let new : IfSome h (IsSo history actor) = heard-event history run actor e.event (subst (IsCaused history e.event) same may.caused) in
            subst (λ (l : Known). Each (P (history ++ e ∷ []) actor) l.heard_now) (sym (known_same head actor history e same))
            (now-each (P (history ++ e ∷ []) actor) e.event h k.heard_now (is-new history e run actor h new) kept)
        | inr differ ↦ subst (λ (l : Known). Each (P (history ++ e ∷ []) actor) l.heard_now) (sym (known_other head actor history e differ)) kept
      ])
    where
      is-new : (history : List (Entry Event)) (e : Entry Event) → IsRun head history → (actor : ActorId) (h : Option Heard) → IfSome h (IsSo history actor) → IfSome h (P (history ++ e ∷ []) actor)
      is-new history e run actor None h = tt
      is-new history e run actor (Some g) h = more history e actor g (so history run actor g h)

  -- what an actor heard since its last call was asked is so
  pub now_is_so : (history : List (Entry Event)) → IsRun head history → (actor : ActorId) → Each (IsSo history actor) (known_at head actor history).heard_now
  now_is_so = each_now IsSo (λ history e actor h. answered_more head history e actor h.number h.request h.reply) (λ history run actor h so. so)

  -- The actor sent this message.
  pub record WasSentBy (history : List (Entry Event)) (actor : ActorId) (m : Sent) : Type 0 where
    pub send : Entry Event
    pub listed : Contains history send
    pub whose : send.actor ≡ actor
    pub sends : send.event ≡ events.Send m.number m.range m.request

  pub sent-more : (history : List (Entry Event)) (e : Entry Event) (actor : ActorId) (m : Sent) → WasSentBy history actor m → WasSentBy (history ++ e ∷ []) actor m
  sent-more history e actor m w = record { send = w.send; listed = Contains-append_left history (e ∷ []) w.send w.listed; whose = w.whose; sends = w.sends }

  pub sent-now : (history : List (Entry Event)) (e : Entry Event) (actor : ActorId) → e.actor ≡ actor → (event : Event) → e.event ≡ event → Each (WasSentBy (history ++ e ∷ []) actor) (sent_by event)
  sent-now history e actor same (events.Send number range request) is = (record { send = e; listed = Contains-push history e; whose = same; sends = is }, tt)
  sent-now history e actor same event is = tt

  -- what an actor knows that it sent it sent
  pub sent_is_so : (history : List (Entry Event)) → IsRun head history → (actor : ActorId) → Each (WasSentBy history actor) (known_at head actor history).sent
  sent_is_so = run_induction head (λ history. (actor : ActorId) → Each (WasSentBy history actor) (known_at head actor history).sent) (λ actor. tt) (λ history e run may all actor.
      let k = known_at head actor history in
      let kept : Each (WasSentBy (history ++ e ∷ []) actor) k.sent =
      each-weaker (WasSentBy history actor) (WasSentBy (history ++ e ∷ []) actor) (sent-more history e actor) k.sent (all actor) in
      elim (same_or_not e.actor actor) [
        | inl same ↦
            subst (λ (l : Known). Each (WasSentBy (history ++ e ∷ []) actor) l.sent) (sym (known_same head actor history e same))
            (each-append (WasSentBy (history ++ e ∷ []) actor) k.sent (sent_by e.event) kept (sent-now history e actor same e.event refl))
        | inr differ ↦ subst (λ (l : Known). Each (WasSentBy (history ++ e ∷ []) actor) l.sent) (sym (known_other head actor history e differ)) kept
      ])
