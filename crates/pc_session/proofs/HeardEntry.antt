-- A hearing of its own list brought the actor a reply: that its message was sent, and that it was evaluated, the run gives.
use Rattle.std.proofs.Common.{◌≡◌, ℕ, Bool, true, false, ◌==◌, ◌||◌, inl, inr, List, [], ◌∷◌, ◌++◌, Option, Some, Contains, refl, sym, ap, subst, ◌∙◌}
use Rattle.std.proofs.lemmas.Bool.{and_from, eq-eqb}
use Rattle.std.proofs.lemmas.List.{append_assoc}
use Rattle.std.proofs.lemmas.List.Elements.{Contains-append_left, Contains-push}
use Rattle.std.specs.List.{list_any}
use Rattle.std.specs.Option.{option_to_list}
use Rattle.pc_base.specs.declared.entry.Entry.{Entry}
use Rattle.pc_desk.specs.OwnLog.{IsOwnLog, LogMeaning}
use Rattle.pc_exchange.proofs.HeardKinds.{history_of, is_run, known_there}
use Rattle.pc_history.proofs.Histories.{named-one}
use Rattle.pc_history.proofs.Ids.{same_id-equal}
use Rattle.pc_history.specs.declared.pair.Pair.{Pair}
use Rattle.pc_history.specs.History.{MayFollow}
use Rattle.pc_history.specs.Own.{named_in, same_id}
use Rattle.pc_implicit.proofs.Asked.{asked_is_named}
use Rattle.pc_implicit.proofs.FirstStages.{heard_along}
use Rattle.pc_implicit.proofs.Hearing.{hearing_names}
use Rattle.pc_implicit.proofs.OwnSplit.{StandsBehind, own_split}
use Rattle.pc_implicit.proofs.Shown.{shown}
use Rattle.pc_lists.proofs.Lists.{contains_cons, contains_nil}
use Rattle.pc_proto.specs.declared.event.Event.{Event}
use Rattle.pc_proto.specs.declared.event.Event.TheVariants as events
use Rattle.pc_proto.specs.declared.reply.Reply.{Reply}
use Rattle.pc_proto.specs.declared.request.Request.{Request}
use Rattle.pc_world.proofs.Knowing.{known_same}
use Rattle.pc_world.proofs.Prefixes.{run_front, run_may}
use Rattle.pc_world.proofs.World.{names_one}
use Rattle.pc_world.specs.After.{known_at}
use Rattle.pc_world.specs.Caused.{IsCaused}
use Rattle.pc_world.specs.Known.{Known, known_of}
use Rattle.pc_world.specs.Known.Traffic.{Heard, heard_as, heard_by, reply_in, reply_named, request_sent}
use Rattle.pc_world.specs.Named.{is_send_of, request_in}
use Rattle.pc_world.specs.Run.{IsRun, protocol}

-- a list around one of its elements
around : {X : Type 0} (xs : List X) (x : X) → Contains xs x → (front : List X) × (back : List X) × (xs ≡ front ++ (x ∷ back))
around [] x there = absurd (contains_nil x there)
around (y ∷ ys) x there =
    elim (contains_cons y ys x there) [
      | inl same ↦ ([], ys, ap (λ z. z ∷ ys) same)
      | inr later ↦ let rest = around ys x later in (y ∷ rest.0, rest.1, ap (λ zs. y ∷ zs) rest.2)
    ]

any_has : {X : Type 0} (test : X → Bool) (xs : List X) (x : X) → Contains xs x → test x ≡ true → list_any test xs ≡ true
any_has test [] x there is = absurd (contains_nil x there)
any_has test (y ∷ ys) x there is =
    elim (contains_cons y ys x there) [
      | inl same ↦ ap (λ b. b || list_any test ys) (ap test same ∙ is)
      | inr later ↦ or_true (test y) (list_any test ys) (any_has test ys x later is)
    ]
  where
    or_true : (a b : Bool) → b ≡ true → (a || b) ≡ true
    or_true true b is = refl
    or_true false b is = is

module _ {C : Type 0} (l : LogMeaning C) (log : IsOwnLog l) (p : Pair Event) (there : Contains l.part.own p) (number step : ℕ) (hears : p.entry.event ≡ events.Hear number step) where
  abbrev history : List (Entry Event)
  history = history_of l log

  placed : (before : List (Pair Event)) × (later : List (Pair Event)) × (l.part.own ≡ before ++ (p ∷ later))
  placed = around l.part.own p there

  -- the history in front of it, in which the actor had what its list has in front of it
  stands : StandsBehind (protocol l.head) l.part.id history placed.0 p
  stands = own_split (protocol l.head) l.part.id history placed.0 p placed.1 (log.stands.list ∙ placed.2)

  run_around : IsRun l.head (stands.front ++ (p.entry ∷ stands.back))
  run_around = subst (IsRun l.head) stands.whole (is_run l log)

  run_before : IsRun l.head stands.front
  run_before = run_front l.head stands.front (p.entry ∷ stands.back) run_around

  abbrev before_known : Known
  before_known = known_at l.head l.part.id stands.front

  cause : IsCaused stands.front (events.Hear number step) l.part.id
  cause =
      let may : MayFollow (protocol l.head) stands.front p.entry = run_may l.head stands.front p.entry stands.back run_around in
      subst (IsCaused stands.front (events.Hear number step)) stands.actor (subst (λ (event : Event). IsCaused stands.front event p.entry.actor) hears may.caused)

  -- what it brought
  brought : (h : Heard) × (h.number ≡ number) × (heard_as number step (request_sent number before_known.sent) (reply_named (named_in (protocol l.head) stands.front (events.Hear number step))) ≡ Some h)
  brought =
      let names = hearing_names l.head stands.front run_before l.part.id number step cause in
      let so = shown l.head stands.front run_before names.0 names.2 l.part.id number names.1 names.3 in
      let w = so.1 in
      let sends : is_send_of number w.send.event ≡ true = ap (is_send_of number) w.sends ∙ eq-eqb number number refl in
      let named : named_in (protocol l.head) stands.front (events.Eval l.part.id number names.1) ≡ Some w.send =
      named-one (protocol l.head) stands.front (events.Eval l.part.id number names.1) w.send (names_one l.head stands.front (events.Eval l.part.id number names.1) run_before) w.listed
      (and_from (same_id l.part.id w.send.actor) (is_send_of number w.send.event) (same_id-equal l.part.id w.send.actor (sym w.whose)) sends) in
      let asks : request_sent number before_known.sent ≡ Some so.0 = asked_is_named l.head l.part.id number stands.front run_before names.1 w.send named ∙ ap request_in w.sends in
      let told : reply_named (named_in (protocol l.head) stands.front (events.Hear number step)) ≡ Some names.1 = ap reply_named names.4 ∙ ap (λ (event : Event). reply_in event) names.3 in (
        record { number = number; request = so.0; reply = names.1; step = step },
        refl,
        ap (λ (q : Option Request). heard_as number step q (reply_named (named_in (protocol l.head) stands.front (events.Hear number step)))) asks ∙ ap (λ (r : Option Reply). heard_as number step (Some so.0) r) told,
      )

  by_entry : heard_by p.entry.event (named_in (protocol l.head) stands.front p.entry.event) before_known.sent ≡ Some brought.0
  by_entry = ap (λ (event : Event). heard_by event (named_in (protocol l.head) stands.front event) before_known.sent) hears ∙ brought.2

  -- it was heard then
  then_heard : Contains (known_at l.head l.part.id (stands.front ++ p.entry ∷ [])).heard brought.0
  then_heard =
      let is : (known_at l.head l.part.id (stands.front ++ p.entry ∷ [])).heard ≡ before_known.heard ++ option_to_list (heard_by p.entry.event (named_in (protocol l.head) stands.front p.entry.event) before_known.sent) =
      ap (λ (k : Known). k.heard) (known_same l.head l.part.id stands.front p.entry stands.actor) in
      subst (λ (hs : List Heard). Contains hs brought.0) (sym (is ∙ ap (λ (h : Option Heard). before_known.heard ++ option_to_list h) by_entry)) (Contains-push before_known.heard brought.0)

  -- and ever since
  now_heard : Contains (known_of l.part.own).heard brought.0
  now_heard =
      let more = heard_along l.head l.part.id (stands.front ++ p.entry ∷ []) stands.back in
      let whole : history ≡ (stands.front ++ p.entry ∷ []) ++ stands.back = stands.whole ∙ sym (append_assoc stands.front (p.entry ∷ []) stands.back) in
      let grown : (known_of l.part.own).heard ≡ (known_at l.head l.part.id (stands.front ++ p.entry ∷ [])).heard ++ more.0 =
      ap (λ (k : Known). k.heard) (sym (known_there l log)) ∙ (ap (λ (es : List (Entry Event)). (known_at l.head l.part.id es).heard) whole ∙ more.1) in
      subst (λ (hs : List Heard). Contains hs brought.0) (sym grown) (Contains-append_left (known_at l.head l.part.id (stands.front ++ p.entry ∷ [])).heard more.0 brought.0 then_heard)

  -- a reply of its number was heard
  pub heard_entry : list_any (λ (h : Heard). h.number == number) (known_of l.part.own).heard ≡ true
  heard_entry = any_has (λ (h : Heard). h.number == number) (known_of l.part.own).heard brought.0 now_heard (eq-eqb brought.0.number number brought.1)
