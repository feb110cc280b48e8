-- What a JSON value states as a workload, part by part, before the parts are judged together: what is absent is at its default.
use Rattle.std.specs.Prelude.{ℕ, ◌&&◌, true, List, [], ◌∷◌, length, nat_le, Option, Some, None, codes, if◌then◌else◌}
use Rattle.serde_json.specs.Data.{Data}
use Rattle.serde_json.specs.Find.{get, as_bool}
use Rattle.pc_base.specs.declared.limits.TheConstants.{DEFAULT_ENTRIES, DEFAULT_RERUNS, DEFAULT_TRIES, LEAST_ENTRIES, MOST_ENTRIES, MOST_RECOVERERS, MOST_RERUNS, MOST_SESSIONS}
use Rattle.pc_work.specs.Reading.{◌>>=◌}
use Rattle.pc_work.specs.Members.{has_only, whole_between, whole_of, whole_up_to, member_if, member_or}
use Rattle.pc_work.specs.Lists.{list_by}
use Rattle.pc_work.specs.Recoverer.{recoverer_of}
use Rattle.pc_work.specs.Session.{session_of}
use Rattle.pc_work.specs.Splits.{splits_of}
use Rattle.pc_work.specs.Turn.{turn_of}
use Rattle.pc_work.specs.declared.limits.TheConstants.{MOST_TRIES}
use Rattle.pc_work.specs.declared.stated.Stated.{Stated}

-- The names of a workload's members.
abbrev pub workload_names : List (List ℕ)
workload_names = codes "version" ∷ codes "pipelining" ∷ codes "splits" ∷ codes "limit" ∷ codes "tries" ∷ codes "reruns" ∷ codes "opening" ∷ codes "turns" ∷ codes "recoverers" ∷ codes "sessions" ∷ []

-- The list, where it has at least and at most so many items.
abbrev pub counted : {X : Type 0} → ℕ → ℕ → List X → Option (List X)
counted fewest most items = if nat_le fewest (length items) && nat_le (length items) most then Some items else None

-- The value is a list of at least and at most so many items, and this is each of them as it is read.
abbrev pub counted_by : {X : Type 0} → ℕ → ℕ → (Data → Option X) → Data → Option (List X)
counted_by fewest most read value = list_by read value >>= counted fewest most

-- What the members of a value state; its version is judged elsewhere.
unfoldable pub stated_of : Data → Option Stated
stated_of value = if has_only workload_names value then (do
  pipelining ← member_or true as_bool (codes "pipelining") value
  splits ← member_or [] splits_of (codes "splits") value
  limit ← member_or DEFAULT_ENTRIES (whole_between LEAST_ENTRIES MOST_ENTRIES) (codes "limit") value
  tries ← member_or DEFAULT_TRIES (whole_between 1 MOST_TRIES) (codes "tries") value
  reruns ← member_or DEFAULT_RERUNS (whole_up_to MOST_RERUNS) (codes "reruns") value
  opening ← member_or 0 whole_of (codes "opening") value
  turns ← member_if (list_by turn_of) (codes "turns") value
  recoverers ← member_or [] (counted_by 0 MOST_RECOVERERS recoverer_of) (codes "recoverers") value
  found ← get (codes "sessions") value
  sessions ← counted_by 1 MOST_SESSIONS session_of found
  Some (record {
    pipelining = pipelining;
    splits = splits;
    limit = limit;
    tries = tries;
    reruns = reruns;
    opening = opening;
    sessions = sessions;
    recoverers = recoverers;
    turns = turns;
  })) else None
