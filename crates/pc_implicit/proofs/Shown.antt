-- What an evaluation showed of a transaction stays true.
use Rattle.std.proofs.Common.{◌≡◌, ℕ, List, [], ◌∷◌, ◌++◌, Some, Contains, inl, inr, refl, sym, ap, subst, ◌∙◌}
use Rattle.std.proofs.lemmas.List.{append_assoc}
use Rattle.std.proofs.lemmas.List.Elements.{Contains-append_left, Contains-push, Contains-push_cases}
use Rattle.pc_base.specs.declared.actor.ActorId.{ActorId}
use Rattle.pc_base.specs.declared.entry.Entry.{Entry}
use Rattle.pc_base.specs.declared.transaction.TxnId.{TxnId}
use Rattle.pc_history.specs.History.{MayFollow}
use Rattle.pc_history.specs.Own.{named_in}
use Rattle.pc_implicit.proofs.Evals.{NamedMessage, of_entry}
use Rattle.pc_implicit.proofs.Lift.{over}
use Rattle.pc_implicit.proofs.Runs.{answered, reply_is}
use Rattle.pc_implicit.proofs.Views.{Stands, places_go_on, true-on, view-true}
use Rattle.pc_implicit.specs.Answers.{Answers}
use Rattle.pc_implicit.specs.Decided.{StaysTrue}
use Rattle.pc_lists.proofs.Lists.{contains_nil}
use Rattle.pc_proto.specs.declared.event.Event.{Event}
use Rattle.pc_proto.specs.declared.event.Event.TheVariants as events
use Rattle.pc_proto.specs.declared.reply.Reply.{Reply}
use Rattle.pc_proto.specs.declared.request.Request.{Request}
use Rattle.pc_proto.specs.declared.view.View.{View}
use Rattle.pc_proto.specs.Place.{view_of}
use Rattle.pc_proto.specs.Replies.{view_in}
use Rattle.pc_proto.specs.Requests.{subject}
use Rattle.pc_world.proofs.Knowing.{run_push}
use Rattle.pc_world.proofs.Prefixes.{run_induction}
use Rattle.pc_world.specs.After.{place_at, state_at}
use Rattle.pc_world.specs.Evaluation.{reply as reply_of}
use Rattle.pc_world.specs.Known.Traffic.{reply_in}
use Rattle.pc_world.specs.Local.{Head}
use Rattle.pc_world.specs.Named.{request_in, request_named}
use Rattle.pc_world.specs.Run.{IsRun, protocol}

-- The actor's message of this number said this, went to this range, and was answered so, as the range was after some beginning of
-- the history; what the answer shows is so.
pub record WasAnswered (head : Head) (history : List (Entry Event)) (actor : ActorId) (number : ℕ) (request : Request) (reply : Reply) : Type 0 where
  pub range : ℕ
  pub send : Entry Event
  pub listed : Contains history send
  pub whose : send.actor ≡ actor
  pub sends : send.event ≡ events.Send number range request
  pub shows : (id : TxnId) (view : View) → subject request ≡ Some id → view_in reply ≡ Some view → StaysTrue view (place_at head range id history)
  pub eval : Entry Event
  pub evaluated : Contains history eval
  pub told : eval.event ≡ events.Eval actor number reply
  pub front : List (Entry Event)
  pub back : List (Entry Event)
  pub whole : front ++ back ≡ history
  pub answers : reply ≡ reply_of request (state_at head range front)

module _ (head : Head) where
  -- it stays so
  pub answered_more : (history : List (Entry Event)) (e : Entry Event) (actor : ActorId) (number : ℕ) (request : Request) (reply : Reply) → WasAnswered head history actor number request reply → WasAnswered head (history ++ e ∷ []) actor number request reply
  answered_more history e actor number request reply w = record {
    range = w.range;
    send = w.send;
    listed = Contains-append_left history (e ∷ []) w.send w.listed;
    whose = w.whose;
    sends = w.sends;
    shows = λ id view about told.
        let before = w.shows id view about told in
        let stands : Stands (place_at head w.range id history) (place_at head w.range id (history ++ e ∷ [])) = over _ (places_go_on id) head w.range history (e ∷ []) in
        true-on view (place_at head w.range id history) (place_at head w.range id (history ++ e ∷ [])) before stands;
    eval = w.eval;
    evaluated = Contains-append_left history (e ∷ []) w.eval w.evaluated;
    told = w.told;
    front = w.front;
    back = w.back ++ e ∷ [];
    whole = sym (append_assoc w.front w.back (e ∷ [])) ∙ ap (λ h. h ++ e ∷ []) w.whole;
    answers = w.answers;
  }

  -- an evaluation's answer shows what is so after it
  pub answer_shows : (history : List (Entry Event)) (e : Entry Event) (actor : ActorId) (number : ℕ) (reply : Reply) → IsRun head (history ++ e ∷ []) → MayFollow (protocol head) history e
      → e.event ≡ events.Eval actor number reply → (ev : NamedMessage head history e.actor actor number reply) → WasAnswered head (history ++ e ∷ []) actor number ev.request reply
  answer_shows history e actor number reply run may is ev = record {
    range = ev.range;
    send = ev.send;
    listed = Contains-append_left history (e ∷ []) ev.send ev.listed;
    whose = ev.whose;
    sends = ev.sends;
    shows = λ id view about told.
        let p = place_at head ev.range id (history ++ e ∷ []) in
        let a : Answers head history ev.range id view e = record {
          evaluated = ev.there;
          request = ev.request;
          asked = ap request_named (ap (named_in (protocol head) history) is ∙ ev.named) ∙ ap request_in ev.sends;
          about = about;
          reply = reply;
          told = ap reply_in is;
          shown = told;
        } in
        let same : view ≡ view_of p = answered head ev.range id view history e may a in
        subst (λ v. StaysTrue v p) (sym same) (view-true p);
    eval = e;
    evaluated = Contains-push history e;
    told = is;
    front = history;
    back = e ∷ [];
    whole = refl;
    answers = reply_is head history e actor number reply may is ev;
  }

  AllShown : List (Entry Event) → Type 0
  AllShown history = (x : Entry Event) → Contains history x → (actor : ActorId) (number : ℕ) (reply : Reply) → x.event ≡ events.Eval actor number reply → (request : Request) × WasAnswered head history actor number request reply

  -- what an evaluation showed is so
  pub shown : (history : List (Entry Event)) → IsRun head history → (x : Entry Event) → Contains history x → (actor : ActorId) (number : ℕ) (reply : Reply) → x.event ≡ events.Eval actor number reply
      → (request : Request) × WasAnswered head history actor number request reply
  unfolding AllShown
  shown = run_induction head AllShown (λ x there. absurd (contains_nil x there)) (λ history e run may all x there actor number reply is.
      elim (Contains-push_cases history e x there) [
        | inl before ↦ let old = all x before actor number reply is in (old.0, answered_more history e actor number old.0 reply old.1)
        | inr now ↦
            let this : e.event ≡ events.Eval actor number reply = ap (λ (y : Entry Event). y.event) now ∙ is in
            let ev = of_entry head history e actor number reply run may this in
            (ev.request, answer_shows history e actor number reply (run_push head history e run may) may this ev)
      ])
