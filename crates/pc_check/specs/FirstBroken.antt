-- The first entry that may not follow those before it, and the rule that it breaks. Own profile.
use Rattle.std.specs.Prelude.{◌≡◌, ◌≢◌, ℕ, List, Option, None, Some, length, slice_get, take}
use Rattle.pc_base.specs.declared.entry.Entry.{Entry}
use Rattle.pc_history.specs.History.{MayFollow}
use Rattle.pc_proto.specs.declared.event.Event.{Event}
use Rattle.pc_world.specs.Local.{Head, IsActorOf}
use Rattle.pc_world.specs.Run.{IsRun, protocol}
use Rattle.pc_check.specs.declared.rule.Rule.{Rule}
use Rattle.pc_check.specs.declared.rule.Rule.TheVariants as rules_broken
use Rattle.pc_check.specs.Rules.{rule_of}

-- The head of these splits, with so many sessions and recoverers.
abbrev pub head_with : List (List ℕ) → ℕ → ℕ → Head
head_with splits sessions recoverers = record { splits = splits; sessions = sessions; recoverers = recoverers }

-- The rule that is named of a wrong entry at this place: its step where that is another, else its actor where the head has
-- none such, else that of its event's kind.
abbrev pub IsNamedFor : Head → ℕ → Entry Event → Rule → Type 0
IsNamedFor head place e rules_broken.Step = e.step ≢ place
IsNamedFor head place e rules_broken.Actor = (e.step ≡ place) × (IsActorOf head e.actor → ⊥)
IsNamedFor head place e rule = (e.step ≡ place) × IsActorOf head e.actor × (rule ≡ rule_of e.event)

-- The entry may not follow these, and this is the rule that it breaks.
pub record Breaks (head : Head) (before : List (Entry Event)) (e : Entry Event) (rule : Rule) : Type 0 where
  pub wrong : MayFollow (protocol head) before e → ⊥
  pub named : IsNamedFor head (length before) e rule

-- The entries before this place are a run, and the one there breaks this rule.
pub record IsFirstBroken (head : Head) (entries : List (Entry Event)) (place : ℕ) (rule : Rule) : Type 0 where
  pub run : IsRun head (take place entries)
  pub entry : Entry Event
  pub there : slice_get entries place ≡ Some entry
  pub broken : Breaks head (take place entries) entry rule

-- The entry may follow these where no rule is named, and else breaks the rule.
abbrev pub Judges : Head → List (Entry Event) → Entry Event → Option Rule → Type 0
Judges head before e None = MayFollow (protocol head) before e
Judges head before e (Some rule) = Breaks head before e rule

-- What was found of a whole history: nothing where it is a run, else its first wrong entry.
abbrev pub FindsFirst : Head → List (Entry Event) → Option (ℕ × Rule) → Type 0
FindsFirst head entries None = IsRun head entries
FindsFirst head entries (Some found) = IsFirstBroken head entries found.0 found.1
