-- Where a stage was sent for the first time: by its transaction, open in a commit, with all that a new stage asks.
use Rattle.std.proofs.Common.{◌≡◌, ℕ, inl, inr, List, [], ◌∷◌, ◌++◌, refl, sym, ap, subst, ◌∙◌}
use Rattle.std.proofs.lemmas.List.{append-nil, append_assoc}
use Rattle.std.proofs.lemmas.List.Elements.{Contains-push, Contains-push_cases}
use Rattle.pc_base.specs.declared.actor.ActorId.{ActorId}
use Rattle.pc_base.specs.declared.actor.ActorId.TheVariants as actors
use Rattle.pc_base.specs.declared.entry.Entry.{Entry}
use Rattle.pc_implicit.proofs.Did.{session_at}
use Rattle.pc_implicit.proofs.Hearing.{WasSentBy, sent_is_so}
use Rattle.pc_implicit.proofs.StagesKnown.{HasSent, dead_more, heard_goes_on, stage_sent}
use Rattle.pc_implicit.proofs.StagesSent.{stage_owner}
use Rattle.pc_implicit.specs.Stages.{WasStaged}
use Rattle.pc_lists.proofs.Each.{each-contains}
use Rattle.pc_lists.proofs.Lists.{contains_nil}
use Rattle.pc_proto.specs.declared.event.Event.{Event}
use Rattle.pc_proto.specs.declared.event.Event.TheVariants as events
use Rattle.pc_world.proofs.Knowing.{run_push}
use Rattle.pc_world.proofs.Prefixes.{run_induction}
use Rattle.pc_world.specs.After.{known_at}
use Rattle.pc_world.specs.Known.Traffic.{Heard}
use Rattle.pc_world.specs.Local.{Head}
use Rattle.pc_world.specs.Run.{IsRun}
use Rattle.pc_world.specs.Send.Stage.{MaySendNewStage}
use Rattle.pc_world.specs.StageFate.{IsDead, SentStage, stage_request}

-- The stage was sent for the first time by this entry.
pub record IsFirstStaged (head : Head) (history : List (Entry Event)) (s : SentStage) : Type 0 where
  pub before : List (Entry Event)
  pub a : Entry Event
  pub later : List (Entry Event)
  pub whole : history ≡ before ++ a ∷ later
  pub number : ℕ
  pub range : ℕ
  pub sends : a.event ≡ events.Send number range (stage_request s)
  pub whose : a.actor ≡ actors.Session s.meta.id.session
  pub new : MaySendNewStage (session_at head s.meta.id before) s

module _ (head : Head) where
  staged-of : (history : List (Entry Event)) → IsRun head history → (actor : ActorId) (s : SentStage) → HasSent (known_at head actor history).sent (stage_request s) → WasStaged history s
  staged-of history run actor s (n, m, inside, at, asks) =
      let w = each-contains (WasSentBy head history actor) (known_at head actor history).sent m (sent_is_so head history run actor) (n, inside, at) in
      record { send = w.send; listed = w.listed; number = m.number; range = m.range; sends = w.sends ∙ ap (events.Send m.number m.range) asks }

  first-more : (history : List (Entry Event)) (e : Entry Event) (s : SentStage) → IsFirstStaged head history s → IsFirstStaged head (history ++ e ∷ []) s
  first-more history e s f = record {
    before = f.before;
    a = f.a;
    later = f.later ++ e ∷ [];
    whole = ap (λ h. h ++ e ∷ []) f.whole ∙ append_assoc f.before (f.a ∷ f.later) (e ∷ []);
    number = f.number;
    range = f.range;
    sends = f.sends;
    whose = f.whose;
    new = f.new;
  }

  -- each stage that was sent was once sent for the first time
  pub first_staged : (history : List (Entry Event)) → IsRun head history → (s : SentStage) → WasStaged history s → IsFirstStaged head history s
  first_staged = run_induction head (λ history. (s : SentStage) → WasStaged history s → IsFirstStaged head history s)
      (λ s w. absurd (contains_nil w.send w.listed)) (λ history e run may all s w.
      elim (Contains-push_cases history e w.send w.listed) [
        | inl before ↦ first-more history e s (all s (record { send = w.send; listed = before; number = w.number; range = w.range; sends = w.sends }))
        | inr now ↦
            let actor : ActorId = actors.Session s.meta.id.session in
            let sends : e.event ≡ events.Send w.number w.range (stage_request s) = ap (λ (x : Entry Event). x.event) now ∙ w.sends in
            let own : e.actor ≡ actor =
            stage_owner head (history ++ e ∷ []) (run_push head history e run may) s (record { send = e; listed = Contains-push history e; number = w.number; range = w.range; sends = sends }) in
            elim (stage_sent head history e may actor s (record { whose = own; number = w.number; range = w.range; sends = sends })) [
              | inl old ↦ first-more history e s (all s (staged-of history run actor s old))
              | inr new ↦ record { before = history; a = e; later = []; whole = refl; number = w.number; range = w.range; sends = sends; whose = own; new = new }
            ]
      ])

  -- what an actor heard it has heard in every longer history
  pub heard_along : (actor : ActorId) (front back : List (Entry Event)) → (more : List Heard) × ((known_at head actor (front ++ back)).heard ≡ (known_at head actor front).heard ++ more)
  heard_along actor front [] = ([], ap (λ h. (known_at head actor h).heard) (append-nil front) ∙ sym (append-nil (known_at head actor front).heard))
  heard_along actor front (e ∷ es) =
      let one = heard_goes_on head front e actor in
      let rest = heard_along actor (front ++ e ∷ []) es in (
        one.0 ++ rest.0,
        ap (λ h. (known_at head actor h).heard) (sym (append_assoc front (e ∷ []) es)) ∙ rest.1 ∙ ap (λ l. l ++ rest.0) one.1 ∙ append_assoc (known_at head actor front).heard one.0 rest.0,
      )

  -- what is known to be dead is so in every longer history
  pub dead_along : (actor : ActorId) (front back : List (Entry Event)) (s : SentStage) → IsDead (known_at head actor front).heard s → IsDead (known_at head actor (front ++ back)).heard s
  dead_along actor front back s dead =
      let more = heard_along actor front back in subst (λ l. IsDead l s) (sym more.1) (dead_more (known_at head actor front).heard more.0 s dead)
