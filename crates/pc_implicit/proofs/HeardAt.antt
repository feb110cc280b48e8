-- A reply that was heard was evaluated at its step, after the entries before that step.
use Rattle.std.proofs.Common.{◌≡◌, ℕ, List, [], ◌∷◌, ◌++◌, length, slice_get, Some, IfSome, inl, inr, Contains, sym, ap, subst, ◌∙◌}
use Rattle.std.proofs.lemmas.List.{append_assoc}
use Rattle.std.proofs.lemmas.List.Elements.{Contains-append_left, Contains-push}
use Rattle.std.specs.List.{AllByRecursion as Each}
use Rattle.std.specs.Option.{option_to_list}
use Rattle.pc_base.specs.declared.actor.ActorId.{ActorId}
use Rattle.pc_base.specs.declared.entry.Entry.{Entry}
use Rattle.pc_base.specs.declared.transaction.TxnId.{TxnId}
use Rattle.pc_history.specs.Own.{named_in}
use Rattle.pc_implicit.proofs.Doing.{same_or_not}
use Rattle.pc_implicit.proofs.Evals.{NamedMessage, of_entry}
use Rattle.pc_implicit.proofs.Fronts.{split_there}
use Rattle.pc_implicit.proofs.Hearing.{IsSo, as-heard, heard_is_so, hearing_names, to-list}
use Rattle.pc_implicit.proofs.Homes.{home_is}
use Rattle.pc_implicit.proofs.Metas.{subject_anchored}
use Rattle.pc_implicit.proofs.Runs.{answered}
use Rattle.pc_implicit.proofs.Written.{one_send}
use Rattle.pc_implicit.specs.Replied.{WasReplied}
use Rattle.pc_implicit.specs.Writes.{home_of}
use Rattle.pc_lists.proofs.Each.{each-append, each-contains, each-weaker}
use Rattle.pc_lists.proofs.Lists.{get_append, get_push}
use Rattle.pc_proto.specs.declared.event.Event.{Event}
use Rattle.pc_proto.specs.declared.event.Event.TheVariants as events
use Rattle.pc_proto.specs.declared.request.Request.{Request}
use Rattle.pc_proto.specs.declared.view.View.{View}
use Rattle.pc_proto.specs.Place.{view_of}
use Rattle.pc_proto.specs.Replies.{view_in}
use Rattle.pc_proto.specs.Requests.{subject}
use Rattle.pc_world.proofs.Knowing.{known_other, known_same, run_push}
use Rattle.pc_world.proofs.Prefixes.{run_front, run_induction, run_may, run_step}
use Rattle.pc_world.specs.After.{known_at, place_at}
use Rattle.pc_world.specs.Caused.{IsCaused}
use Rattle.pc_world.specs.Known.{Known}
use Rattle.pc_world.specs.Known.Traffic.{Heard, heard_by, reply_in, reply_named, request_sent}
use Rattle.pc_world.specs.Local.{Head}
use Rattle.pc_world.specs.Named.{request_in, request_named}
use Rattle.pc_world.specs.Run.{IsRun, protocol}

-- The evaluation of the message that was heard, at the step that was heard.
pub record IsStepped (history : List (Entry Event)) (actor : ActorId) (h : Heard) : Type 0 where
  pub eval : Entry Event
  pub listed : Contains history eval
  pub told : eval.event ≡ events.Eval actor h.number h.reply
  pub at : eval.step ≡ h.step

stepped-more : (history : List (Entry Event)) (e : Entry Event) (actor : ActorId) (h : Heard) → IsStepped history actor h → IsStepped (history ++ e ∷ []) actor h
stepped-more history e actor h s = record { eval = s.eval; listed = Contains-append_left history (e ∷ []) s.eval s.listed; told = s.told; at = s.at }

-- What was heard was evaluated after these entries, which are as many as its step says.
pub record HeardAt (head : Head) (history : List (Entry Event)) (actor : ActorId) (h : Heard) : Type 0 where
  pub before : List (Entry Event)
  pub e : Entry Event
  pub later : List (Entry Event)
  pub whole : history ≡ before ++ e ∷ later
  pub at : length before ≡ h.step
  pub told : e.event ≡ events.Eval actor h.number h.reply
  pub ev : NamedMessage head before e.actor actor h.number h.reply
  pub asks : ev.request ≡ h.request

-- one message asks one thing
one_asks : (number range to : ℕ) (request other : Request) (x y : Entry Event) → x ≡ y → x.event ≡ events.Send number range request → y.event ≡ events.Send number to other → request ≡ other
one_asks number range to request other x y same is also = let both : events.Send number range request ≡ events.Send number to other = sym is ∙ ap (λ (z : Entry Event). z.event) same ∙ also in cc both

module _ (head : Head) where
  step-event : (history : List (Entry Event)) → IsRun head history → (actor : ActorId) (event : Event) → IsCaused history event actor
      → IfSome (heard_by event (named_in (protocol head) history event) (known_at head actor history).sent) (IsStepped history actor)
  step-event history run actor (events.Hear number step) cause =
      let names = hearing_names head history run actor number step cause in
      let told : reply_named (named_in (protocol head) history (events.Hear number step)) ≡ Some names.1 = ap reply_named names.4 ∙ ap (λ event. reply_in event) names.3 in
      as-heard (IsStepped history actor) number step (request_sent number (known_at head actor history).sent) (reply_named (named_in (protocol head) history (events.Hear number step)))
      (λ asked reply is_asked is_told.
      let also : names.1 ≡ reply = let both = sym told ∙ is_told in cc both in
      record { eval = names.0; listed = names.2; told = names.3 ∙ ap (events.Eval actor number) also; at = names.5 })
  step-event history run actor event cause = tt

  -- a reply that was heard was evaluated at its step
  pub heard_steps : (history : List (Entry Event)) → IsRun head history → (actor : ActorId) → Each (IsStepped history actor) (known_at head actor history).heard
  heard_steps = run_induction head (λ history. (actor : ActorId) → Each (IsStepped history actor) (known_at head actor history).heard) (λ actor. tt) (λ history e run may all actor.
      let k = known_at head actor history in
      let kept : Each (IsStepped (history ++ e ∷ []) actor) k.heard = each-weaker (IsStepped history actor) (IsStepped (history ++ e ∷ []) actor) (stepped-more history e actor) k.heard (all actor) in
      elim (same_or_not e.actor actor) [
        | inl same ↦
            let h = heard_by e.event (named_in (protocol head) history e.event) k.sent in
            let new : IfSome h (IsStepped history actor) = step-event history run actor e.event (subst (IsCaused history e.event) same may.caused) in
            subst (λ (l : Known). Each (IsStepped (history ++ e ∷ []) actor) l.heard) (sym (known_same head actor history e same))
            (each-append (IsStepped (history ++ e ∷ []) actor) k.heard (option_to_list h) kept
            (each-weaker (IsStepped history actor) (IsStepped (history ++ e ∷ []) actor) (stepped-more history e actor) (option_to_list h) (to-list (IsStepped history actor) h new)))
        | inr differ ↦ subst (λ (l : Known). Each (IsStepped (history ++ e ∷ []) actor) l.heard) (sym (known_other head actor history e differ)) kept
      ])

  module _ (history : List (Entry Event)) (run : IsRun head history) (actor : ActorId) (h : Heard) where
    pub heard_at : Contains (known_at head actor history).heard h → HeardAt head history actor h
    heard_at there =
        let s = each-contains (IsStepped history actor) (known_at head actor history).heard h (heard_steps history run actor) there in
        let so = each-contains (IsSo head history actor) (known_at head actor history).heard h (heard_is_so head history run actor) there in
        let split = split_there history s.eval s.listed in
        let split_run : IsRun head (split.before ++ s.eval ∷ split.later) = subst (IsRun head) split.whole run in
        let run_before : IsRun head split.before = run_front head split.before (s.eval ∷ split.later) split_run in
        let may = run_may head split.before s.eval split.later split_run in
        let ev = of_entry head split.before s.eval actor h.number h.reply run_before may s.told in
        let inside : Contains history ev.send = subst (λ l. Contains l ev.send) (sym split.whole) (Contains-append_left split.before (s.eval ∷ split.later) ev.send ev.listed) in
        let one : ev.send ≡ so.send = one_send head history run ev.send so.send inside so.listed actor h.number ev.whose so.whose ev.range so.range ev.request h.request ev.sends so.sends in
        let here : slice_get history (length split.before) ≡ Some s.eval =
        ap (λ l. slice_get l (length split.before)) (split.whole ∙ sym (append_assoc split.before (s.eval ∷ []) split.later))
        ∙ get_append (split.before ++ s.eval ∷ []) split.later (length split.before) s.eval (get_push split.before s.eval) in
        record {
          before = split.before;
          e = s.eval;
          later = split.later;
          whole = split.whole;
          at = sym (run_step head history (length split.before) s.eval run here) ∙ s.at;
          told = s.told;
          ev = ev;
          asks = one_asks h.number ev.range so.range ev.request h.request ev.send so.send one ev.sends so.sends;
        }

    -- it was replied by then
    pub replied_then : (a : HeardAt head history actor h) → WasReplied (a.before ++ a.e ∷ []) h.request h.reply
    replied_then a = record {
      send = a.ev.send;
      listed = Contains-append_left a.before (a.e ∷ []) a.ev.send a.ev.listed;
      number = h.number;
      range = a.ev.range;
      sends = a.ev.sends ∙ ap (events.Send h.number a.ev.range) a.asks;
      eval = a.e;
      evaluated = Contains-push a.before a.e;
      told = a.told ∙ ap (λ w. events.Eval w h.number h.reply) (sym a.ev.whose);
    }

    -- a view of a transaction that it showed is that of the record then
    pub viewed_then : (a : HeardAt head history actor h) (id : TxnId) (view : View) → subject h.request ≡ Some id → view_in h.reply ≡ Some view → view ≡ view_of (home_of head id (a.before ++ a.e ∷ []))
    viewed_then a id view about shown =
        let split_run : IsRun head (a.before ++ a.e ∷ a.later) = subst (IsRun head) a.whole run in
        let run_before : IsRun head a.before = run_front head a.before (a.e ∷ a.later) split_run in
        let may = run_may head a.before a.e a.later split_run in
        let run_now : IsRun head (a.before ++ a.e ∷ []) = run_push head a.before a.e run_before may in
        let now = a.before ++ a.e ∷ [] in
        let subject_is : subject a.ev.request ≡ Some id = ap subject a.asks ∙ about in
        let anchored = subject_anchored head now run_now a.ev.send (Contains-append_left a.before (a.e ∷ []) a.ev.send a.ev.listed) h.number a.ev.range a.ev.request id a.ev.sends subject_is in
        let there : place_at head a.ev.range id now ≡ home_of head id now = ap (λ r. place_at head r id now) anchored.there ∙ sym (home_is head id now anchored.anchor anchored.anchored) in
        let is = answered head a.ev.range id view a.before a.e may (record {
          evaluated = a.ev.there;
          request = a.ev.request;
          asked = ap request_named (ap (named_in (protocol head) a.before) a.told ∙ a.ev.named) ∙ ap request_in a.ev.sends;
          about = subject_is;
          reply = h.reply;
          told = ap reply_in a.told;
          shown = shown;
        }) in
        is ∙ ap view_of there
