-- One session alone: no other session and no recoverer is there, the wire is quiet, and the session keeps what it owes beside the protocol.
use Rattle.std.specs.Prelude.{◌≡◌, List, ◌∷◌, ◌++◌}
use Rattle.pc_base.specs.declared.entry.Entry.{Entry}
use Rattle.pc_history.specs.Own.{own}
use Rattle.pc_proto.specs.declared.event.Event.{Event}
use Rattle.pc_proto.specs.declared.request.Request.{Request}
use Rattle.pc_serial.specs.QuietWire.{IsOnQuietWire, the_session}
use Rattle.pc_serial.specs.Tidy.{IsTidy}
use Rattle.pc_world.specs.After.{known_at}
use Rattle.pc_follows.specs.FinishingJobs.{jobs_of}
use Rattle.pc_world.specs.Local.{Head}
use Rattle.pc_world.specs.Run.{protocol}

-- The jobs that wait at the session after a history. The first message of the job that a commit by stage leaves is the explicit commit.
abbrev pub jobs_at : Head → List (Entry Event) → List (List Request)
jobs_at head history = jobs_of (own (protocol head) the_session history)

-- The session keeps what it owes throughout.
abbrev pub KeepsTidy : Head → List (Entry Event) → Type 0
KeepsTidy head history =
    (before : List (Entry Event)) (e : Entry Event) (later : List (Entry Event))
    → history ≡ before ++ e ∷ later → e.actor ≡ the_session → IsTidy (known_at head the_session before) (jobs_at head before) e.event

-- One session is alone, on a quiet wire.
pub record IsAlone (head : Head) (history : List (Entry Event)) : Type 0 where
  pub one : head.sessions ≡ 1
  pub unaided : head.recoverers ≡ 0
  pub wire : IsOnQuietWire head history
  pub tidy : KeepsTidy head history
