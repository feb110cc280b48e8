-- An actor's own entries in a history, each with the entry that it names. Own profile.
use Rattle.std.specs.Prelude.{Bool, false, eqb, List, [], ◌∷◌, ◌++◌, map, Option, filter, find}
use Rattle.pc_base.specs.declared.ActorId.{ActorId}
use Rattle.pc_base.specs.declared.ActorId.TheVariants.{Range, Session, Recoverer}
use Rattle.pc_base.specs.declared.Entry.{Entry}
use Rattle.pc_history.specs.declared.pair.Pair.{Pair}
use Rattle.pc_history.specs.Sense.{Sense}

-- Whether two ids are one.
abbrev pub same_id : ActorId → ActorId → Bool
same_id (Range m) (Range n) = eqb m n
same_id (Session m) (Session n) = eqb m n
same_id (Recoverer m) (Recoverer n) = eqb m n
same_id _ _ = false

-- An entry with the one that it names.
abbrev pub pair : {E : Type 0} → Entry E → Option (Entry E) → Pair E
pair entry named = record { entry = entry; named = named }

-- The entries of these pairs.
abbrev pub entries_of : {E : Type 0} → List (Pair E) → List (Entry E)
entries_of pairs = map (λ p. p.entry) pairs

module _ {E : Type 0} (S : Sense E) where
  -- The first of these entries that the event names.
  abbrev pub named_in : List (Entry E) → E → Option (Entry E)
  named_in entries event = find (λ e. S.names event e) entries

  -- Each of the later entries, with the one that it names among all that come before it.
  abbrev pub pairs_after : List (Entry E) → List (Entry E) → List (Pair E)
  pairs_after before [] = []
  pairs_after before (e ∷ es) = pair e (named_in before e.event) ∷ pairs_after (before ++ e ∷ []) es

  -- The entries of a history, each with the earlier entry that it names.
  abbrev pub pairs_of : List (Entry E) → List (Pair E)
  pairs_of history = pairs_after [] history

  -- The actor's own entries in a history, in order, each with the earlier entry that it names.
  abbrev pub own : ActorId → List (Entry E) → List (Pair E)
  own id history = filter (λ p. same_id id p.entry.actor) (pairs_of history)
