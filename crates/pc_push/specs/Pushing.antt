-- A conflict round, and what it does of itself.
use Rattle.std.specs.Prelude.{◌≡◌, ℕ, ◌+◌, Option, None, Some, List}
use Rattle.pc_base.specs.declared.transaction.Priority.{Priority}
use Rattle.pc_base.specs.declared.transaction.Who.{Who}
use Rattle.pc_proto.specs.declared.fate.Fate.{Fate}
use Rattle.pc_proto.specs.declared.fate.Goal.{Goal}
use Rattle.pc_proto.specs.declared.fate.Goal.TheVariants as goals
use Rattle.pc_proto.specs.declared.meta.TxnMeta.{TxnMeta}
use Rattle.pc_proto.specs.declared.reply.Reply.{Reply}
use Rattle.pc_proto.specs.declared.reply.Reply.TheVariants as replies
use Rattle.pc_proto.specs.declared.request.Request.{Request}
use Rattle.pc_proto.specs.declared.request.Request.TheVariants as requests
use Rattle.pc_proto.specs.Views.{fate_after, final_fate}
use Rattle.pc_push.specs.declared.progress.Progress.{Progress}
use Rattle.pc_push.specs.declared.progress.Progress.TheVariants as progress
use Rattle.pc_proto.specs.declared.machine.MachineNext.{MachineNext}
use Rattle.pc_proto.specs.declared.machine.MachineNext.TheVariants as nexts

-- A round: whose intent stands in the way, and at which key; who pushes, at which level and reading, and what for; and how far
-- it has come.
pub record Pushing : Type 0 where
  pub holder : TxnMeta
  pub key : List ℕ
  pub by : Who
  pub level : Priority
  pub reading : ℕ
  pub goal : Goal
  pub progress : Progress

-- A reader moves the holder past its read, a writer aborts it.
abbrev pub goal_of : Option ℕ → Goal
goal_of None = goals.Abort
goal_of (Some ts) = goals.Move (ts + 1)

-- The round of this conflict begins with a push.
abbrev pub IsStart : Reply → Who → Priority → ℕ → Option ℕ → Pushing → Type 0
IsStart (replies.Conflict holder ts key) by level reading reader m =
    m ≡ record { holder = holder; key = key; by = by; level = level; reading = reading; goal = goal_of reader; progress = progress.Push }
IsStart _ by level reading reader m = ⊥

-- The push of the holder.
abbrev pub push_of : Pushing → Request
push_of m = requests.Push m.holder m.by m.level m.reading m.goal

-- The request that settles the holder's intent.
abbrev pub holder_resolve : Pushing → Fate → Request
holder_resolve m fate = requests.Resolve m.holder.id m.key fate

abbrev pub round_due : Progress → Pushing → MachineNext
round_due progress.Push m = nexts.Send (push_of m)
round_due progress.Refused m = nexts.Refused m.holder.id
round_due (progress.Unsure view) m = nexts.Settled view
round_due (progress.Resolve fate) m = nexts.Send (holder_resolve m fate)
round_due progress.Over m = nexts.Finished

-- What is due.
abbrev pub round_next : Pushing → MachineNext
round_next m = round_due m.progress m

-- The intent is settled with this fate, if there is one.
abbrev pub resolve_or : Option Fate → Progress → Progress
resolve_or None otherwise = otherwise
resolve_or (Some fate) otherwise = progress.Resolve fate

abbrev pub progress_after_push : Goal → Reply → Progress
progress_after_push goal (replies.Status view) = resolve_or (fate_after goal view) progress.Push
progress_after_push goal (replies.Refused view) = progress.Refused
progress_after_push goal (replies.Unsure view) = progress.Unsure view
progress_after_push goal _ = progress.Push

abbrev pub progress_after_recovery : Reply → Progress
progress_after_recovery (replies.Status view) = resolve_or (final_fate view) progress.Over
progress_after_recovery _ = progress.Over

abbrev pub with_progress : Progress → Pushing → Pushing
with_progress progress m = record m { progress = progress }

-- After the reply to the push.
abbrev pub after_push : Reply → Pushing → Pushing
after_push reply m = with_progress (progress_after_push m.goal reply) m

-- After the reply to the recovery of a record that the push met staging.
abbrev pub after_recovery : Reply → Pushing → Pushing
after_recovery reply m = with_progress (progress_after_recovery reply) m

abbrev pub round_heard : Progress → Reply → Pushing → Pushing
round_heard progress.Push reply m = after_push reply m
round_heard (progress.Unsure view) reply m = after_recovery reply m
round_heard (progress.Resolve fate) reply m = with_progress progress.Over m
round_heard progress.Refused reply m = m
round_heard progress.Over reply m = m

-- After a reply: to what was due, or to a recovery.
abbrev pub round_after : Reply → Pushing → Pushing
round_after reply m = round_heard m.progress reply m
