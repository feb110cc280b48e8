-- A token of a commit: what one session hands on, so that another may learn of the commit. Own profile.
use Rattle.std.specs.Prelude.{◌≡◌, ℕ, Option, None, Some, List, [], ◌∷◌}
use Rattle.std.specs.Option.{option_map}
use Rattle.pc_base.specs.declared.entry.Entry.{Entry}
use Rattle.pc_base.specs.declared.transaction.TxnId.{TxnId}
use Rattle.pc_history.specs.declared.view.Known.{Known as KnownEntry}
use Rattle.pc_proto.specs.declared.answer.Answer.TheVariants as answers
use Rattle.pc_proto.specs.declared.event.Event.{Event}
use Rattle.pc_proto.specs.declared.event.Event.TheVariants as events

-- The transaction that committed; the step at which its session was told so, and the timestamp of the commit; and what the token's note
-- knows.
pub record TokenMeaning : Type 0 where
  pub id : TxnId
  pub step : ℕ
  pub ts : ℕ
  pub known : List (KnownEntry Event)

-- The note knows an entry, at that step, which tells that this transaction committed at this timestamp.
pub record IsOfCommit (t : TokenMeaning) : Type 0 where
  pub entry : KnownEntry Event
  pub knows : t.known ≡ entry ∷ []
  pub at : entry.entry.step ≡ t.step
  pub says : entry.entry.event ≡ events.Tell (answers.Committed t.id t.ts)

-- The timestamp of the commit that the event tells, if it tells one.
abbrev pub told_commit_ts : Event → Option ℕ
told_commit_ts (events.Tell (answers.Committed id ts)) = Some ts
told_commit_ts _ = None

-- The step of the entry, with the timestamp of the commit that it tells, if it tells one.
abbrev pub commit_read : Option (Entry Event) → Option (ℕ × ℕ)
commit_read None = None
commit_read (Some e) = option_map (λ ts. (e.step, ts)) (told_commit_ts e.event)
