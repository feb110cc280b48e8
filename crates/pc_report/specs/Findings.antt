-- What is found of a history, from which its report is made.
use Rattle.std.specs.Prelude.{◌≡◌, ℕ, List}
use Rattle.pc_base.specs.declared.entry.Entry.{Entry}
use Rattle.pc_proto.specs.declared.event.Event.{Event}
use Rattle.pc_report.specs.Replaying.{IsReplayOf}
use Rattle.pc_report.specs.Writing.{AreWritesOf}
use Rattle.pc_report.specs.declared.gathered.Findings.{Findings}
use Rattle.pc_world.specs.CommitOrder.{all_begun}

-- The findings are those of this history: what it comes to, what its transactions wrote, and which were begun.
pub record AreFindingsOf (splits : List (List ℕ)) (entries : List (Entry Event)) (findings : Findings) : Type 0 where
  pub replay : IsReplayOf splits entries findings.replay
  pub writes : AreWritesOf entries findings.writes
  pub begun : findings.begun.items ≡ all_begun entries
