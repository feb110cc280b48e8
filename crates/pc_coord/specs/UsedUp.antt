-- What comes of the open call once nothing is heard of one of its messages: it ends once the tries of one of them are used up, and not before. Own profile.
use Rattle.std.specs.Prelude.{◌≡◌, ℕ, true, false, if◌then◌else◌, List}
use Rattle.pc_call.specs.declared.purpose.Purpose.{Purpose}
use Rattle.pc_call.specs.declared.purpose.Purpose.TheVariants as purposes
use Rattle.pc_call.specs.Losses.{is_lost_after}
use Rattle.pc_coord.specs.Coming.{GoesOnBy}
use Rattle.pc_coord.specs.declared.due.Due.{Due}
use Rattle.pc_coord.specs.declared.due.Due.TheVariants as dues
use Rattle.pc_coord.specs.Knows.{is_under_way}
use Rattle.pc_proto.specs.declared.answer.Answer.{Answer}
use Rattle.pc_proto.specs.declared.answer.Answer.TheVariants as answers
use Rattle.pc_staging.specs.Kept.{is_over}
use Rattle.pc_txn.specs.declared.txn.OpenTxn.{OpenTxn}
use Rattle.pc_wave.specs.declared.message.Message.{Message}
use Rattle.pc_wave.specs.Messages.{step_of}

-- What the call is told after so many tries: a rollback is over all the same; else it is unavailable where nothing of its transaction can be committed, and unknown
-- where something may be.
abbrev pub answer_lost : ℕ → OpenTxn → Purpose → Answer
answer_lost tries x (purposes.Abort why) = answers.RolledBack x.id why
answer_lost tries x p = if is_over x.staging then answers.Unavailable tries else answers.Unknown x.id

-- Where the tries of one of these messages are used up, and no reply is waited for, the call is to be told so; else, where more is due of them, it goes on by them.
pub record ComesLost (tries : ℕ) (x : OpenTxn) (p : Purpose) (messages : List Message) (due : Due) : Type 0 where
  pub ends : is_lost_after tries messages ≡ true → due ≡ dues.Tell (answer_lost tries x p)
  pub on : is_lost_after tries messages ≡ false → is_under_way (step_of messages) → GoesOnBy messages due
