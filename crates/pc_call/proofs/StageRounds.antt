-- What the reply to a stage makes of the rounds of its call: a stage that is refused passes over the conflicts that wait.
use Rattle.std.proofs.Common.{◌≡◌, Bool, false, cond, Some, ap, ◌∙◌}
use Rattle.pc_call.proofs.WhyStays.{made_then, with_none}
use Rattle.pc_call.specs.Learned.{known_heard}
use Rattle.pc_call.specs.Serving.{IsOpenIn}
use Rattle.pc_follows.specs.OwnStages.{refuses_stage}
use Rattle.pc_follows.specs.RoundsMade.{RoundCount, all_passed, gone_on, rounds_by, rounds_made}
use Rattle.pc_proto.specs.declared.request.Request.{Request}
use Rattle.pc_proto.specs.Replies.{is_conflict}
use Rattle.pc_world.specs.Known.{Known}
use Rattle.pc_world.specs.Known.Traffic.{Heard}
use Rattle.pc_world.specs.Known.Transactions.{Txn}
use Rattle.pc_world.specs.StageFate.{SentStage, stage_request}

module _ (k : Known) (t : Txn) (h : Heard) (open_in : IsOpenIn k t) (s : SentStage) (asked : h.request ≡ stage_request s) (plain : is_conflict h.reply ≡ false) where
  pub rounds_then : (b : Bool) → refuses_stage (stage_request s) h.reply ≡ b → rounds_made (known_heard h k) ≡ cond b (all_passed (rounds_made k)) (gone_on (rounds_made k))
  rounds_then b refuses =
      let r : RoundCount = rounds_made k in
      let by : Request → RoundCount → RoundCount = λ q r. rounds_by (Some t) h q h.reply r in
      made_then k t h open_in
      ∙ ap (by h.request) (with_none k t h open_in plain r)
      ∙ ap (λ q. by q r) asked
      ∙ ap (λ b. cond b (all_passed r) (gone_on r)) refuses
