-- Where a session or a recoverer of a workload stops, if it states that. Own profile.
use Rattle.std.specs.Prelude.{ℕ, ◌≤◌, IfSome, Option}
use Rattle.serde_json.specs.Data.{Data}
use Rattle.pc_base.specs.declared.limits.TheConstants.{MOST_ENTRIES}
use Rattle.pc_work.specs.Members.{whole_between}

-- After how many entries of its own an actor stops, as a value states it: one at least, and no more than an actor may have at all.
abbrev pub stop_of : Data → Option ℕ
stop_of = whole_between 1 MOST_ENTRIES

-- Where it is stated at which entry of its own an actor stops, there may be such an entry.
abbrev pub IsStop : Option ℕ → Type 0
IsStop stop = IfSome stop (λ n. (1 ≤ n) × (n ≤ MOST_ENTRIES))
