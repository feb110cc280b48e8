-- What sessions and recoverers did in a history, apart from the ranges that served them.
use Rattle.std.specs.Prelude.{◌≡◌, ℕ, ◌+◌, ◌≤◌, ◌<◌, Bool, true, false, List, [], ◌∷◌, ◌++◌, All, Contains, filter, ⊤}
use Rattle.pc_base.specs.declared.actor.ActorId.{ActorId}
use Rattle.pc_base.specs.declared.actor.ActorId.TheVariants as actors
use Rattle.pc_base.specs.declared.entry.Entry.{Entry}
use Rattle.pc_history.specs.Closed.{ids_of}
use Rattle.pc_history.specs.declared.pair.Pair.{Pair}
use Rattle.pc_history.specs.declared.view.Part.{Part}
use Rattle.pc_history.specs.Own.{own, pairs_of, same_id}
use Rattle.pc_proto.specs.declared.event.Event.{Event}
use Rattle.pc_world.specs.Local.{Head}
use Rattle.pc_world.specs.Run.{IsRun, protocol}

-- Sessions and recoverers are clients of the ranges.
abbrev pub is_client : ActorId → Bool
is_client (actors.Range range) = false
is_client (actors.Session number) = true
is_client (actors.Recoverer number) = true

-- The clients' entries in a history, in its order, each with the earlier entry that it names.
abbrev pub client_pairs : Head → List (Entry Event) → List (Pair Event)
client_pairs head history = filter (λ p. is_client p.entry.actor) (pairs_of (protocol head) history)

-- Of these entries, those of one actor.
abbrev pub share_of : ActorId → List (Pair Event) → List (Pair Event)
share_of id pairs = filter (λ p. same_id id p.entry.actor) pairs

-- The steps of these entries rise, from this number on.
abbrev pub RisesFrom : ℕ → List (Pair Event) → Type 0
RisesFrom n [] = ⊤
RisesFrom n (p ∷ ps) = (n ≤ p.entry.step) × RisesFrom (p.entry.step + 1) ps

-- The entry has a greater step than each of these.
abbrev pub IsAfterAll : List (Pair Event) → Pair Event → Type 0
IsAfterAll earlier p = All (λ q. q.entry.step < p.entry.step) earlier

-- The history is a run, and these parts are what its actors stored of it; it has entries of no others.
pub record IsStoredBy (head : Head) (history : List (Entry Event)) (parts : List (Part Event)) : Type 0 where
  pub run : IsRun head history
  pub lists : All (λ part. own (protocol head) part.id history ≡ part.own) parts
  pub only : All (λ e. Contains (ids_of parts) e.actor) history

-- An actor's part begins with its share of these entries, and what comes later in it has greater steps than all of them.
pub record Continues (first : List (Pair Event)) (part : Part Event) : Type 0 where
  pub later : List (Pair Event)
  pub whole : part.own ≡ share_of part.id first ++ later
  pub after : All (IsAfterAll first) later

-- The entries are such clients', and their steps rise.
pub record IsClientOrder (parts : List (Part Event)) (order : List (Pair Event)) : Type 0 where
  pub rises : RisesFrom 0 order
  pub clients : All (λ p. is_client p.entry.actor ≡ true) order
  pub theirs : All (λ p. Contains (ids_of parts) p.entry.actor) order

-- Each client begins with its share of these entries, and goes on after all of them.
pub record BeginsEach (parts : List (Part Event)) (first : List (Pair Event)) : Type 0 where
  pub is_order : IsClientOrder parts first
  pub each : All (λ part. is_client part.id ≡ true → Continues first part) parts

-- Each client stored just its share of these entries.
pub record MakesUpEach (parts : List (Part Event)) (order : List (Pair Event)) : Type 0 where
  pub is_order : IsClientOrder parts order
  pub each : All (λ part. is_client part.id ≡ true → part.own ≡ share_of part.id order) parts
