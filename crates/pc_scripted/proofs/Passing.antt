-- What a session's own list says of its open call and of its script, behind what it sends and hears.
use Rattle.std.proofs.Common.{◌≡◌, ℕ, Bool, false, All, List, [], ◌∷◌, ◌++◌, Option, Some, refl, sym, ap, subst, ◌∙◌}
use Rattle.std.proofs.lemmas.List.{append-nil, append_assoc}
use Rattle.std.proofs.lemmas.List.Elements.{All-head, All-push, All-tail, All-weaker}
use Rattle.std.proofs.lemmas.List.Folds.{fold-map}
use Rattle.std.proofs.lemmas.List.Sums.{fold-append}
use Rattle.std.specs.List.{fold}
use Rattle.pc_desk.specs.Asks.{is_ask}
use Rattle.pc_desk.specs.Keeping.{EachAfter}
use Rattle.pc_history.specs.declared.pair.Pair.{Pair}
use Rattle.pc_proto.specs.declared.answer.Answer.{Answer}
use Rattle.pc_proto.specs.declared.call.Call.{Call}
use Rattle.pc_proto.specs.declared.event.Event.{Event}
use Rattle.pc_proto.specs.declared.event.Event.TheVariants as events
use Rattle.pc_script.specs.Script.{AsksNext, Position, after_told, moved, next_call, script_position}
use Rattle.pc_scripted.specs.Scripted.{AskInOrder}
use Rattle.pc_turns.specs.Order.{IsInBetween, events_of}
use Rattle.pc_work.specs.declared.item.Item.{Item}
use Rattle.pc_world.specs.Known.{Known, known_of, learn, nothing_known}
use Rattle.pc_world.specs.Known.Statements.{Statement, is_open_after, is_open_told, statement_after}

-- lists that are joined
pub each_join : (P : List (Pair Event) → Pair Event → Type 0) (before xs ys : List (Pair Event)) → EachAfter P before xs → EachAfter P (before ++ xs) ys → EachAfter P before (xs ++ ys)
each_join P before [] ys a b = subst (λ l. EachAfter P l ys) (append-nil before) b
each_join P before (x ∷ xs) ys a b = (a.0, each_join P (before ++ x ∷ []) xs ys a.1 (subst (λ l. EachAfter P l ys) (sym (append_assoc before (x ∷ []) xs)) b))

pub each_last : (P : List (Pair Event) → Pair Event → Type 0) (before xs : List (Pair Event)) (y : Pair Event) → EachAfter P before (xs ++ y ∷ []) → P (before ++ xs) y
each_last P before [] y each = subst (λ l. P l y) (sym (append-nil before)) each.0
each_last P before (x ∷ xs) y each = subst (λ l. P l y) (append_assoc before (x ∷ []) xs) (each_last P (before ++ x ∷ []) xs y each.1)

-- events that ask nothing
between_no_ask : (event : Event) → IsInBetween event → is_ask event ≡ false
between_no_ask (events.Ask call reading) is = absurd is
between_no_ask (events.Tell answer) is = absurd is
between_no_ask event is = refl

asks_nothing : (at : Position) (event : Event) → is_ask event ≡ false → AsksNext at event
asks_nothing at (events.Ask call reading) is = absurd cc
asks_nothing at event is = tt

-- The event asks no call.
abbrev IsNoAsk : Event → Type 0
IsNoAsk event = is_ask event ≡ false

module _ (reruns : ℕ) (script : List Item) where
  abbrev InOrder : List (Pair Event) → Pair Event → Type 0
  InOrder before p = AsksNext (script_position reruns script before) p.entry.event

  none_asks : (before part : List (Pair Event)) → All IsNoAsk (events_of part) → EachAfter InOrder before part
  none_asks before [] none = tt
  none_asks before (p ∷ ps) none = (
    asks_nothing (script_position reruns script before) p.entry.event (All-head IsNoAsk p.entry.event (events_of ps) none),
    none_asks (before ++ p ∷ []) ps (All-tail IsNoAsk p.entry.event (events_of ps) none),
  )

  one_asks : (own part : List (Pair Event)) (call : Call) (reading : ℕ) (more : List Event) → events_of part ≡ events.Ask call reading ∷ more → All IsNoAsk more → next_call (script_position reruns script own) ≡ Some call
      → EachAfter InOrder own part
  one_asks own [] call reading more whole none next = absurd cc
  one_asks own (p ∷ ps) call reading more whole none next =
      let first : events.Ask call reading ≡ p.entry.event = cc in
      let rest : more ≡ events_of ps = cc in
      (subst (AsksNext (script_position reruns script own)) first next, none_asks (own ++ p ∷ []) ps (subst (All IsNoAsk) rest none))

  -- a part that asks nothing
  pub order_between : (own part : List (Pair Event)) → AskInOrder reruns script own → All IsInBetween (events_of part) → AskInOrder reruns script (own ++ part)
  order_between own part order within =
      each_join InOrder [] own part order (none_asks own part (All-weaker IsInBetween IsNoAsk (λ e is. between_no_ask e is) (events_of part) within))

  -- a part that asks the next call, and then sends and hears
  pub order_asked : (own part : List (Pair Event)) (call : Call) (reading : ℕ) (between : List Event) → AskInOrder reruns script own → events_of part ≡ events.Ask call reading ∷ between → All IsInBetween between
      → next_call (script_position reruns script own) ≡ Some call → AskInOrder reruns script (own ++ part)
  order_asked own part call reading between order whole within next =
      each_join InOrder [] own part order
      (one_asks own part call reading between whole (All-weaker IsInBetween IsNoAsk (λ e is. between_no_ask e is) between within) next)

  -- and is told
  pub order_told : (own part : List (Pair Event)) (call : Call) (reading : ℕ) (between : List Event) (answer : Answer) → AskInOrder reruns script own
      → events_of part ≡ events.Ask call reading ∷ (between ++ events.Tell answer ∷ []) → All IsInBetween between → next_call (script_position reruns script own) ≡ Some call → AskInOrder reruns script (own ++ part)
  order_told own part call reading between answer order whole within next =
      each_join InOrder [] own part order
      (one_asks own part call reading (between ++ events.Tell answer ∷ []) whole
      (All-push IsNoAsk between (events.Tell answer) (All-weaker IsInBetween IsNoAsk (λ e is. between_no_ask e is) between within) refl) next)

-- what one event in a call leaves
between_moved : (event : Event) (at : Position) → IsInBetween event → moved event at ≡ at
between_moved (events.Ask call reading) at is = absurd is
between_moved (events.Tell answer) at is = absurd is
between_moved event at is = refl

between_statement : (event : Event) (s : Option Statement) → IsInBetween event → statement_after event s ≡ s
between_statement (events.Ask call reading) s is = absurd is
between_statement (events.Tell answer) s is = absurd is
between_statement event s is = refl

between_open : (event : Event) (b : Bool) → IsInBetween event → is_open_after event b ≡ b
between_open (events.Ask call reading) b is = absurd is
between_open (events.Tell answer) b is = absurd is
between_open event b is = refl

-- and all of them
all_moved : (between : List Event) (at : Position) → All IsInBetween between → fold (λ at e. moved e at) at between ≡ at
all_moved [] at within = refl
all_moved (e ∷ es) at within =
    ap (λ a. fold (λ at e. moved e at) a es) (between_moved e at (All-head IsInBetween e es within)) ∙ all_moved es at (All-tail IsInBetween e es within)

all_statement : (between : List Event) (s : Option Statement) → All IsInBetween between → fold (λ s e. statement_after e s) s between ≡ s
all_statement [] s within = refl
all_statement (e ∷ es) s within =
    ap (λ a. fold (λ s e. statement_after e s) a es) (between_statement e s (All-head IsInBetween e es within)) ∙ all_statement es s (All-tail IsInBetween e es within)

all_open : (between : List Event) (b : Bool) → All IsInBetween between → fold (λ b e. is_open_after e b) b between ≡ b
all_open [] b within = refl
all_open (e ∷ es) b within = ap (λ a. fold (λ b e. is_open_after e b) a es) (between_open e b (All-head IsInBetween e es within)) ∙ all_open es b (All-tail IsInBetween e es within)

-- what a list's events say
pub position_by : (reruns : ℕ) (script : List Item) (own part : List (Pair Event)) → script_position reruns script (own ++ part) ≡ fold (λ at e. moved e at) (script_position reruns script own) (events_of part)
position_by reruns script own part =
    fold-append (λ (at : Position) (p : Pair Event). moved p.entry.event at) _ own part ∙ sym (fold-map (λ (at : Position) (e : Event). moved e at) (λ (p : Pair Event). p.entry.event) (script_position reruns script own) part)

statement-fold : (k : Known) (part : List (Pair Event)) → (fold (λ k p. learn p k) k part).statement ≡ fold (λ s e. statement_after e s) k.statement (events_of part)
statement-fold k [] = refl
statement-fold k (p ∷ ps) = statement-fold (learn p k) ps

open-fold : (k : Known) (part : List (Pair Event)) → (fold (λ k p. learn p k) k part).is_open ≡ fold (λ b e. is_open_after e b) k.is_open (events_of part)
open-fold k [] = refl
open-fold k (p ∷ ps) = open-fold (learn p k) ps

module _ (own part : List (Pair Event)) where
  known-by : known_of (own ++ part) ≡ fold (λ k p. learn p k) (known_of own) part
  known-by = fold-append (λ (k : Known) (p : Pair Event). learn p k) nothing_known own part

  statement_by : (known_of (own ++ part)).statement ≡ fold (λ s e. statement_after e s) (known_of own).statement (events_of part)
  statement_by = ap (λ (k : Known). k.statement) known-by ∙ statement-fold (known_of own) part

  open_by : (known_of (own ++ part)).is_open ≡ fold (λ b e. is_open_after e b) (known_of own).is_open (events_of part)
  open_by = ap (λ (k : Known). k.is_open) known-by ∙ open-fold (known_of own) part

  -- behind what asks nothing and tells nothing
  pub position_between : (reruns : ℕ) (script : List Item) → All IsInBetween (events_of part) → script_position reruns script (own ++ part) ≡ script_position reruns script own
  position_between reruns script within = position_by reruns script own part ∙ all_moved (events_of part) (script_position reruns script own) within

  -- behind a call that is open
  module _ (call : Call) (reading : ℕ) (between : List Event) (whole : events_of part ≡ events.Ask call reading ∷ between) (within : All IsInBetween between) where
    pub statement_asked : (known_of (own ++ part)).statement ≡ Some (record { call = call; reading = reading })
    statement_asked =
        statement_by ∙ (ap (λ es. fold (λ s e. statement_after e s) (known_of own).statement es) whole ∙ all_statement between (Some (record { call = call; reading = reading })) within)

    pub open_asked : (known_of (own ++ part)).is_open ≡ (known_of own).is_open
    open_asked = open_by ∙ (ap (λ es. fold (λ b e. is_open_after e b) (known_of own).is_open es) whole ∙ all_open between (known_of own).is_open within)

  -- behind a call that was told
  module _ (call : Call) (reading : ℕ) (between : List Event) (answer : Answer) (whole : events_of part ≡ events.Ask call reading ∷ (between ++ events.Tell answer ∷ [])) (within : All IsInBetween between) where
    pub position_told : (reruns : ℕ) (script : List Item) → script_position reruns script (own ++ part) ≡ after_told answer (script_position reruns script own)
    position_told reruns script =
        let at = script_position reruns script own in
        position_by reruns script own part
        ∙ (ap (λ es. fold (λ at e. moved e at) at es) whole
        ∙ (fold-append (λ (at : Position) (e : Event). moved e at) at between (events.Tell answer ∷ [])
        ∙ ap (after_told answer) (all_moved between at within)))

    pub open_told : (known_of (own ++ part)).is_open ≡ is_open_told answer (known_of own).is_open
    open_told =
        open_by
        ∙ (ap (λ es. fold (λ b e. is_open_after e b) (known_of own).is_open es) whole
        ∙ (fold-append (λ (b : Bool) (e : Event). is_open_after e b) (known_of own).is_open between (events.Tell answer ∷ [])
        ∙ ap (is_open_told answer) (all_open between (known_of own).is_open within)))

-- A part that ends with this event.
pub record EndsWith (part : List (Pair Event)) (front : List Event) (last : Event) : Type 0 where
  pub first : List (Pair Event)
  pub end : Pair Event
  pub whole : part ≡ first ++ end ∷ []
  pub events : events_of first ≡ front
  pub says : end.entry.event ≡ last

pub ends_with : (part : List (Pair Event)) (front : List Event) (last : Event) → events_of part ≡ front ++ last ∷ [] → EndsWith part front last
ends_with [] [] last whole = absurd cc
ends_with [] (e ∷ es) last whole = absurd cc
ends_with (p ∷ []) [] last whole = let same : p.entry.event ≡ last = cc in record { first = []; end = p; whole = refl; events = refl; says = same }
ends_with (p ∷ q ∷ ps) [] last whole = absurd cc
ends_with (p ∷ ps) (e ∷ es) last whole =
    let first : p.entry.event ≡ e = cc in
    let rest : events_of ps ≡ es ++ last ∷ [] = cc in
    let r = ends_with ps es last rest in
    record { first = p ∷ r.first; end = r.end; whole = ap (λ l. p ∷ l) r.whole; events = λ i. first i ∷ r.events i; says = r.says }
