-- How intents and versions stand in a range: one intent at a key, above the key's versions, and these rising.
use Rattle.std.specs.Prelude.{◌≡◌, ◌≢◌, ℕ, ◌<◌, List, All}
use Rattle.std.specs.List.{AllPairs}
use Rattle.pc_base.specs.declared.entry.Entry.{Entry}
use Rattle.pc_proto.specs.declared.event.Event.{Event}
use Rattle.pc_world.specs.After.{state_at}
use Rattle.pc_world.specs.Local.{Head}
use Rattle.pc_world.specs.RangeState.{RangeState}

-- No two intents stand at one key, each lies above every version of its key, and of two versions of one key the one that stands
-- later lies above.
pub record IsRising (s : RangeState) : Type 0 where
  pub single : AllPairs (λ e f. e.0 ≢ f.0) s.intents
  pub above : All (λ e. All (λ v. v.key ≡ e.0 → v.ts < e.1.ts) s.versions) s.intents
  pub rising : AllPairs (λ v w. v.key ≡ w.key → v.ts < w.ts) s.versions

-- Versions rise: so it is in every range after every history.
abbrev pub VersionsRise : Type 0
VersionsRise =
    (head : Head) (range : ℕ) (history : List (Entry Event)) → IsRising (state_at head range history)
