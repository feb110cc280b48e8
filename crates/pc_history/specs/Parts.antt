-- What one actor stored and knows, and how it changes.
use Rattle.std.specs.Prelude.{◌≡◌, ℕ, ◌+◌, ◌-◌, ◌<◌, true, cond, eqb, nat_lt, List, [], ◌∷◌, ◌++◌, map, Option, Some, None, slice_get, slice_index, slice_set, sum_by, IfSome}
use Rattle.pc_base.specs.declared.ActorId.{ActorId}
use Rattle.pc_base.specs.declared.Entry.{Entry}
use Rattle.pc_history.specs.declared.pair.Pair.{Pair}
use Rattle.pc_history.specs.declared.view.Known.{Known}
use Rattle.pc_history.specs.declared.view.Part.{Part}
use Rattle.pc_history.specs.Sense.{Sense}
use Rattle.pc_history.specs.Own.{pair, entries_of, named_in}

module _ {E : Type 0} where
  -- An entry as it is known, with its place and its uses.
  abbrev pub known_entry : Entry E → ℕ → ℕ → Known E
  known_entry entry place uses = record { entry = entry; place = place; uses = uses }

  -- An actor that has just been seated.
  abbrev pub newcomer : ActorId → Part E
  newcomer id = record { id = id; own = []; given = []; known = [] }

  -- The entries that were told.
  abbrev pub told_entries : List (Known E) → List (Entry E)
  told_entries ks = map (λ k. k.entry) ks

  -- The entries that the actor stored or knows.
  abbrev pub knowledge : Part E → List (Entry E)
  knowledge part = entries_of part.own ++ told_entries part.known

  -- The uses that this one has of the entry of this step.
  abbrev pub uses_at : ℕ → Known E → ℕ
  uses_at step k = cond (eqb k.entry.step step) k.uses 0

  -- How often the entry of this step may still be spent.
  abbrev pub uses_of : ℕ → List (Known E) → ℕ
  uses_of step ks = sum_by (uses_at step) ks

  -- One use of the entry of this step is gone.
  abbrev pub use_one : ℕ → List (Known E) → List (Known E)
  use_one step [] = []
  use_one step (k ∷ ks) = cond (nat_lt 0 (uses_at step k)) (record k { uses = k.uses - 1 } ∷ ks) (k ∷ use_one step ks)

  -- One use of the named entry is gone.
  abbrev pub spend : Option (Entry E) → List (Known E) → List (Known E)
  spend None ks = ks
  spend (Some e) ks = use_one e.step ks

  -- The entry of the actor's event at this step.
  abbrev pub entry_of : ℕ → ActorId → E → Entry E
  entry_of step id event = record { step = step; actor = id; event = event }

  -- What the actor has after notes told it these entries.
  abbrev pub told : List (Known E) → Part E → Part E
  told ks part = record part { known = part.known ++ ks }

  -- What the actor has after it gave so many more uses for its own entry at this place.
  abbrev pub gave : ℕ → ℕ → Part E → Part E
  gave place uses part = record part { given = slice_set part.given place (slice_index part.given place + uses) }

  -- What a note tells of the entry at this place, if there is one.
  abbrev pub known_entry_at : ℕ → ℕ → Option (Pair E) → List (Known E)
  known_entry_at place uses None = []
  known_entry_at place uses (Some p) = known_entry p.entry place uses ∷ []

  -- What a note of the actor's own entry at this place tells.
  abbrev pub noted : ℕ → ℕ → Part E → List (Known E)
  noted place uses part = known_entry_at place uses (slice_get part.own place)

  -- How many uses a note has.
  abbrev pub uses_left : List (Known E) → ℕ
  uses_left [] = 0
  uses_left (k ∷ ks) = k.uses

  -- A note after so many of its uses were split off.
  abbrev pub without_uses : ℕ → List (Known E) → List (Known E)
  without_uses uses [] = []
  without_uses uses (k ∷ ks) = record k { uses = k.uses - uses } ∷ ks

  -- The copy of a note that got so many of its uses.
  abbrev pub with_uses : ℕ → List (Known E) → List (Known E)
  with_uses uses [] = []
  with_uses uses (k ∷ ks) = record k { uses = uses } ∷ []

module _ {E : Type 0} (S : Sense E) where
  -- The entry that the event names, of those that the actor stored or knows.
  abbrev pub named_by : Part E → E → Option (Entry E)
  named_by part event = named_in S (knowledge part) event

  -- The event is local in the actor's own list.
  abbrev pub IsLocalFor : Part E → E → Type 0
  IsLocalFor part event = S.local part.id part.own event (named_by part event)

  -- What the actor stored or knows causes the event.
  abbrev pub IsCausedFor : Part E → E → Type 0
  IsCausedFor part event = S.caused (knowledge part) event part.id

  -- The actor has a use of the entry that the event names, if the event spends one.
  abbrev pub CanSpend : Part E → E → Type 0
  CanSpend part event = S.spends event ≡ true → IfSome (named_by part event) (λ e. 0 < uses_of e.step part.known)

  -- What the actor stored and knows after it made the event at this step.
  abbrev pub acted : ℕ → E → Part E → Part E
  acted step event part = record part {
    own = part.own ++ pair (entry_of step part.id event) (named_by part event) ∷ [];
    given = part.given ++ 0 ∷ [];
    known = cond (S.spends event) (spend (named_by part event) part.known) part.known;
  }
