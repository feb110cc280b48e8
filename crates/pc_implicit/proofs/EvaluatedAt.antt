-- Where in a run a message was sent, and where it was evaluated.
use Rattle.std.proofs.Common.{◌≡◌, ℕ, true, ◌&&◌, List, ◌∷◌, ◌++◌, Contains, refl, sym, ap, subst, ◌∙◌}
use Rattle.std.proofs.lemmas.Bool.{and_from, eq-eqb}
use Rattle.std.proofs.lemmas.List.{append_assoc}
use Rattle.std.proofs.lemmas.List.Elements.{Contains-append_left}
use Rattle.pc_base.specs.declared.actor.ActorId.{ActorId}
use Rattle.pc_base.specs.declared.entry.Entry.{Entry}
use Rattle.pc_history.proofs.Ids.{same_id-equal}
use Rattle.pc_history.specs.Own.{named_in, same_id}
use Rattle.pc_implicit.proofs.Commits.{act_of}
use Rattle.pc_implicit.proofs.Doing.{Does}
use Rattle.pc_implicit.proofs.Evals.{evaluated_state, of_entry}
use Rattle.pc_implicit.proofs.Fronts.{split_there}
use Rattle.pc_implicit.proofs.Runs.{reply_is}
use Rattle.pc_implicit.proofs.SessionReads.{EvaluatesAt, WasEvaluated}
use Rattle.pc_implicit.proofs.Shown.{WasAnswered}
use Rattle.pc_proto.specs.declared.event.Event.{Event}
use Rattle.pc_proto.specs.declared.event.Event.TheVariants as events
use Rattle.pc_proto.specs.declared.reply.Reply.{Reply}
use Rattle.pc_proto.specs.declared.request.Request.{Request}
use Rattle.pc_world.proofs.Prefixes.{run_front, run_may}
use Rattle.pc_world.proofs.World.{names_one}
use Rattle.pc_world.specs.After.{known_at}
use Rattle.pc_world.specs.Local.{Head}
use Rattle.pc_world.specs.Named.{is_send_of}
use Rattle.pc_world.specs.RangeOf.{GoesTo}
use Rattle.pc_world.specs.Run.{IsRun, protocol}

-- The actor's message of this number was evaluated, and answered so.
pub record AnsweredAt (head : Head) (history : List (Entry Event)) (actor : ActorId) (number range : ℕ) (request : Request) (told : Reply) : Type 0 where
  pub before : List (Entry Event)
  pub e : Entry Event
  pub later : List (Entry Event)
  pub whole : history ≡ before ++ e ∷ later
  pub at : EvaluatesAt head before e range request told
  pub send : Entry Event
  pub listed : Contains before send
  pub whose : send.actor ≡ actor
  pub sends : send.event ≡ events.Send number range request

-- Where a message was sent, its actor might send it.
pub record SentAt (head : Head) (history : List (Entry Event)) (a : Entry Event) : Type 0 where
  pub before : List (Entry Event)
  pub later : List (Entry Event)
  pub whole : history ≡ before ++ a ∷ later
  pub does : Does head a.actor (known_at head a.actor before) a.event

module _ (head : Head) (history : List (Entry Event)) (run : IsRun head history) where
  -- each entry stands behind those that let it happen
  pub sent_at : (a : Entry Event) → Contains history a → SentAt head history a
  sent_at a there =
      let s = split_there history a there in
      record { before = s.before; later = s.later; whole = s.whole; does = act_of head s.before a (run_may head s.before a s.later (subst (IsRun head) s.whole run)) }

  names-it : (actor : ActorId) (number range : ℕ) (request : Request) (x : Entry Event) → x.actor ≡ actor → x.event ≡ events.Send number range request → (same_id actor x.actor && is_send_of number x.event) ≡ true
  names-it actor number range request x whose sends =
      and_from (same_id actor x.actor) (is_send_of number x.event) (same_id-equal actor x.actor (sym whose)) (ap (is_send_of number) sends ∙ eq-eqb number number refl)

  -- an actor sends one message of a number
  pub one_sent : (actor : ActorId) (number : ℕ) (told : Reply) (x y : Entry Event) (range other : ℕ) (request asked : Request) → Contains history x → Contains history y → x.actor ≡ actor → y.actor ≡ actor
      → x.event ≡ events.Send number range request → y.event ≡ events.Send number other asked → x ≡ y
  one_sent actor number told x y range other request asked a b own also sends says =
      names_one head history (events.Eval actor number told) run x y a b (names-it actor number range request x own sends) (names-it actor number other asked y also says)

  -- each message goes to its range
  pub goes_to : (a : Entry Event) → Contains history a → (number range : ℕ) (request : Request) → a.event ≡ events.Send number range request → GoesTo head.splits request range
  goes_to a there number range request is =
      let s = sent_at a there in
      let may : Does head a.actor (known_at head a.actor s.before) (events.Send number range request) = subst (Does head a.actor (known_at head a.actor s.before)) is s.does in
      may.there

  -- what was answered was evaluated, after it was sent
  pub answered_at : (actor : ActorId) (number : ℕ) (request : Request) (told : Reply) (w : WasAnswered head history actor number request told) → AnsweredAt head history actor number w.range request told
  answered_at actor number request told w =
      let s = split_there history w.eval w.evaluated in
      let split = subst (IsRun head) s.whole run in
      let before = run_front head s.before (w.eval ∷ s.later) split in
      let may = run_may head s.before w.eval s.later split in
      let ev = of_entry head s.before w.eval actor number told before may w.told in
      let inside : Contains history ev.send = subst (λ h. Contains h ev.send) (sym s.whole) (Contains-append_left s.before (w.eval ∷ s.later) ev.send ev.listed) in
      let one : ev.send ≡ w.send = one_sent actor number told ev.send w.send ev.range w.range ev.request request inside w.listed ev.whose w.whose ev.sends w.sends in
      let both : events.Send number ev.range ev.request ≡ events.Send number w.range request = sym ev.sends ∙ ap (λ (x : Entry Event). x.event) one ∙ w.sends in
      let range : ev.range ≡ w.range = cc both in
      let same : ev.request ≡ request = cc both in
      let at : EvaluatesAt head s.before w.eval ev.range ev.request told = record {
        actor = actor;
        number = number;
        there = ev.there;
        goes = goes_to ev.send inside number ev.range ev.request ev.sends;
        evaluates = w.told;
        send = ev.send;
        listed = ev.listed;
        whose = ev.whose;
        sends = ev.sends;
        named = ap (named_in (protocol head) s.before) w.told ∙ ev.named;
        answers = reply_is head s.before w.eval actor number told may w.told ev;
        after = evaluated_state head s.before w.eval actor number ev.range told ev w.told;
      } in
      record {
        before = s.before;
        e = w.eval;
        later = s.later;
        whole = s.whole;
        at = subst (λ r. EvaluatesAt head s.before w.eval r request told) range (subst (λ q. EvaluatesAt head s.before w.eval ev.range q told) same at);
        send = ev.send;
        listed = ev.listed;
        whose = ev.whose;
        sends = ev.sends ∙ both;
      }

-- what was evaluated was so in every longer history
pub evaluated_more : (head : Head) (history more : List (Entry Event)) (range : ℕ) (request : Request) (told : Reply) → WasEvaluated head history range request told → WasEvaluated head (history ++ more) range request told
evaluated_more head history more range request told w = record {
  before = w.before;
  e = w.e;
  later = w.later ++ more;
  whole = ap (λ h. h ++ more) w.whole ∙ append_assoc w.before (w.e ∷ w.later) more;
  at = w.at;
}
