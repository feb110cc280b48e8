-- What is due of a wave, by what its session knows.
use Rattle.std.specs.Prelude.{◌≡◌, ℕ, Bool, true, false, ◌⊎◌, List, All, IsTrue}
use Rattle.std.specs.List.{list_any}
use Rattle.pc_proto.specs.declared.reply.Reply.{Reply}
use Rattle.pc_proto.specs.declared.reply.Reply.TheVariants as replies
use Rattle.pc_proto.specs.declared.request.Request.{Request}
use Rattle.pc_wave.specs.declared.message.Message.{Message}
use Rattle.pc_wave.specs.declared.message.Progress.TheVariants as progresses
use Rattle.pc_wave.specs.declared.step.Step.{Step}
use Rattle.pc_wave.specs.declared.step.Step.TheVariants as steps
use Rattle.pc_wave.specs.Course.{Course}
use Rattle.pc_wave.specs.Messages.{is_out}
use Rattle.pc_wave.specs.Standing.{HasComeBack, HasMore, MayGoOut, MetConflict, goes_beside}
use Rattle.pc_follows.specs.Eighth.{MetEighth}
use Rattle.pc_follows.specs.Resends.{WasFollowed}
use Rattle.pc_wave.specs.Tries.{MayTryAgain}
use Rattle.pc_world.specs.Known.{Known}
use Rattle.pc_world.specs.Known.Traffic.{Heard, Sent}
use Rattle.pc_world.specs.Tell.Refusal.{MetEight}

-- A request of the wave met this conflict under this number, and the conflict was not its eighth.
pub record IsRoundDue (c : Course) (k : Known) (number : ℕ) (conflict : Reply) : Type 0 where
  pub request : Request
  pub met : MetConflict c k number request conflict
  pub below : MetEighth k request → ⊥

-- The message came back, by no conflict.
pub record WasAnsweredWith (c : Course) (k : Known) (m : Message) : Type 0 where
  pub number : ℕ
  pub reply : Reply
  pub progress : m.progress ≡ progresses.Answered number reply
  pub back : HasComeBack c k number m.request reply

-- The request may go out; where messages are lost, also because its last ones were.
abbrev pub MayBeSent : Bool → Course → Known → Request → Type 0
MayBeSent false c k request = MayGoOut c k request
MayBeSent true c k request = MayGoOut c k request ⊎ MayTryAgain k request

-- What is due may come: a request goes out where none of it is waited for, for a reason, and not after its eighth conflict; the messages
-- are delivered where a reply is waited for; a conflict that was heard has its round; a holder blocks the call after eight conflicts of
-- one request, the last with it; and all is answered where each message was.
abbrev pub MayBeDue : Course → Known → List Message → Step → Type 0
MayBeDue c k messages (steps.Send request) = MayBeSent c.loses c k request × (MetEighth k request → ⊥)
MayBeDue c k messages steps.Deliver = IsTrue (list_any is_out messages)
MayBeDue c k messages (steps.Round number conflict) = IsRoundDue c k number conflict
MayBeDue c k messages (steps.Blocked holder) = MetEight holder k.heard_now
MayBeDue c k messages steps.Answered = All (WasAnsweredWith c k) messages

-- The holder of the intent was pushed, and what the push's reply asks for was done.
abbrev pub FollowsConflict : Reply → List Heard → Type 0
FollowsConflict (replies.Conflict holder ts key) later = WasFollowed holder.id key later
FollowsConflict _ later = ⊥

-- Since then the session has made the round of this conflict.
pub record MadeRound (before now : Known) (conflict : Reply) : Type 0 where
  pub sent_more : List Sent
  pub heard_more : List Heard
  pub more : HasMore before now sent_more heard_more
  pub sent : All (λ m. IsTrue (goes_beside m.request)) sent_more
  pub heard : All (λ h. IsTrue (goes_beside h.request)) heard_more
  pub followed : FollowsConflict conflict heard_more
