use Rattle.std.proofs.Common.{◌⊎◌, inl, ◌≡◌, true, List, [], ◌∷◌, ◌++◌, refl, sym, ap, ◌∙◌, subst}
use Rattle.std.proofs.lemmas.List.Elements.{All-append, All-cons, All-nil}
use Rattle.pc_call.proofs.Outboxes.{puts_go, stage_keeps}
use Rattle.pc_call.proofs.StageBegins.{stage_begins}
use Rattle.pc_call.proofs.Takes.{takes_puts}
use Rattle.pc_call.specs.declared.purpose.Purpose.TheVariants as purposes
use Rattle.pc_call.specs.Outbox.{AreToSendOrOnWay, TakesSome}
use Rattle.pc_call.specs.Serving.{InCall}
use Rattle.pc_call.specs.Stages.{DecidesNow, KeepsOutbox, put_messages}
use Rattle.pc_proto.specs.Requests.{is_put}
use Rattle.pc_txn.specs.Staged.{stage_now}
use Rattle.pc_wave.specs.declared.message.Message.{Message}
use Rattle.pc_wave.specs.Messages.{is_out, is_to_send, message_to_send}
use Rattle.pc_call.proofs.call.OpenCall.stage.Goals as goal

pub returns-clause-unsent : goal.returns-clause-unsent
returns-clause-unsent c =
    let P : Message → Type 0 = λ m. (is_to_send m ≡ true) ⊎ (is_out m ≡ true) in
    let x = c.args.txn.now in
    let m : Message = message_to_send c.in_ok-stage.field-0 in
    let ms : List Message = put_messages x c.args.later.now c.args.anchor.now c.messages.result.now x.in_flight in
    subst (λ ms. AreToSendOrOnWay ms) (sym (c.in_ok-add.ensures.made ∙ ap (λ ms. ms ++ m ∷ []) c.in_ok-wave.ensures.made))
    (All-append P ms (m ∷ []) (puts_go x c.args.later.now c.args.anchor.now c.messages.result.now x.in_flight) (All-cons P m [] (inl refl) (All-nil P)))

pub returns-clause-takes : goal.returns-clause-takes
returns-clause-takes c =
    let x = c.args.txn.now in
    let later = c.args.later.now in
    let m : Message = message_to_send c.in_ok-stage.field-0 in
    let ms : List Message = put_messages x later c.args.anchor.now c.messages.result.now x.in_flight in (
      subst (λ ms. TakesSome later c.put_wave.new.later ms) (sym (c.in_ok-add.ensures.made ∙ ap (λ ms. ms ++ m ∷ []) c.in_ok-wave.ensures.made))
          (subst (λ l. TakesSome later l (ms ++ m ∷ [])) (sym c.in_ok-wave.ensures.left) (takes_puts x later c.args.anchor.now c.messages.result.now m refl)),
      refl,
    )

pub returns-clause-outbox : goal.returns-clause-outbox
returns-clause-outbox c = λ loses k o.
    let x = c.args.txn.now in
    let m : Message = message_to_send c.in_ok-stage.field-0 in
    let ms : List Message = put_messages x c.args.later.now c.args.anchor.now c.messages.result.now x.in_flight in
    subst (λ ms. KeepsOutbox loses k x c.put_wave.new.later ms) (sym (c.in_ok-add.ensures.made ∙ ap (λ ms. ms ++ m ∷ []) c.in_ok-wave.ensures.made))
    (subst (λ l. KeepsOutbox loses k x l (ms ++ m ∷ [])) (sym c.in_ok-wave.ensures.left) (stage_keeps x c.args.later.now c.args.anchor.now c.messages.result.now k o m (ap is_put c.in_ok-stage.ensures)))

pub returns-clause-stands : goal.returns-clause-stands
returns-clause-stands c = λ set k s d some o may read anchored suits.
    let x = c.args.txn.now in
    let n = c.args.refusals in
    let anchor = c.args.anchor.now in
    let puts = c.messages.result.now in
    let m : Message = message_to_send c.in_ok-stage.field-0 in
    let ms : List Message = put_messages x c.args.later.now anchor puts x.in_flight in
    let said : c.in_ok-stage.field-0 ≡ stage_now x anchor s.reading = c.in_ok-stage.ensures ∙ ap (stage_now x anchor) (sym read) in
    let decides : DecidesNow set.course.loses n k x s puts = subst (DecidesNow set.course.loses n k x s) (sym c.messages.ensures) d in
    subst (λ ms. InCall set k x (purposes.Stage n) ms) (sym (c.in_ok-add.ensures.made ∙ ap (λ ms. ms ++ m ∷ []) c.in_ok-wave.ensures.made))
    (subst (λ r. InCall set k x (purposes.Stage n) (ms ++ message_to_send r ∷ [])) (sym said) (stage_begins set n k x s puts decides some c.args.later.now o may anchor anchored suits))
