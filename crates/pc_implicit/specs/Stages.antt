-- Stages that were sent: while a stage's record is not past it, and when its writes are present. RFC 20180324, "Parallel Commits".
use Rattle.std.specs.Prelude.{◌≡◌, ℕ, ◌≤◌, true, None, List, ◌++◌, Contains}
use Rattle.pc_base.specs.declared.entry.Entry.{Entry}
use Rattle.pc_implicit.specs.Decided.{decision, epoch_of, time_of}
use Rattle.pc_implicit.specs.Writes.{home_of}
use Rattle.pc_proto.specs.declared.event.Event.{Event}
use Rattle.pc_proto.specs.declared.event.Event.TheVariants as events
use Rattle.pc_world.specs.Committed.{is_present}
use Rattle.pc_world.specs.Local.{Head}
use Rattle.pc_world.specs.StageFate.{SentStage, stage_request}

-- The stage was sent.
pub record WasStaged (history : List (Entry Event)) (s : SentStage) : Type 0 where
  pub send : Entry Event
  pub listed : Contains history send
  pub number : ℕ
  pub range : ℕ
  pub sends : send.event ≡ events.Send number range (stage_request s)

-- The transaction's record is not past the stage: it is not decided, and neither its epoch nor its timestamp is past the stage's.
pub record IsOpenTo (head : Head) (history : List (Entry Event)) (s : SentStage) : Type 0 where
  pub undecided : decision (home_of head s.meta.id history) ≡ None
  pub epoch_low : epoch_of (home_of head s.meta.id history) ≤ s.meta.epoch
  pub ts_low : time_of (home_of head s.meta.id history) ≤ s.ts

-- The write is present as the stage lists it: in its epoch, at or below its timestamp.
abbrev pub IsThere : Head → List (Entry Event) → SentStage → List ℕ × ℕ → Type 0
IsThere head history s w = is_present head history s.meta.id s.meta.epoch s.ts w ≡ true

-- The write was so present at some time since the stage was sent.
pub record WasThere (head : Head) (history : List (Entry Event)) (s : SentStage) (w : List ℕ × ℕ) : Type 0 where
  pub front : List (Entry Event)
  pub back : List (Entry Event)
  pub whole : history ≡ front ++ back
  pub staged : WasStaged front s
  pub there : IsThere head front s w
