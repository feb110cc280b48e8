use Rattle.std.proofs.Common.{◌≡◌, ℕ, refl, ap, subst}
use Rattle.std.proofs.lemmas.Result.{IfOk-weaker}
use Rattle.pc_desk.proofs.Desking.{has_done}
use Rattle.pc_desk.proofs.Ending.{ended_if}
use Rattle.pc_desk.proofs.Stopping.{last_done}
use Rattle.pc_proto.specs.declared.event.Event.{Event}
use Rattle.pc_proto.specs.declared.event.Event.TheVariants as events
use Rattle.pc_world.specs.Known.Traffic.{heard_by, sent_by}
use Rattle.pc_world.specs.Run.{spends}
use Rattle.pc_follows.specs.WaveEvaluation.{IsSending}
use Rattle.pc_follows.specs.WaveOrder.{IsHearing}
use Rattle.pc_desk.proofs.desk.Desk.ask.Goals as goal

pub returns-clause-ok : goal.returns-clause-ok
returns-clause-ok g c =
    IfOk-weaker c.ask.result _ _ (λ reading entered. has_done _ c.args.self.now c.ask.new.self (events.Ask c.args.call reading) c.self.view_is refl (λ named sent. refl) refl (λ sends. sends) (λ hears. hears) c.requires.track entered) c.ask.ensures.ok

pub returns-clause-ended : goal.returns-clause-ended
returns-clause-ended g c =
    let asks : Event → Type 0 = λ event. (reading : ℕ) × (event ≡ events.Ask c.args.call reading) in
    ended_if asks _ c.args.self.now c.ask.new.self c.ask.result c.self.view_is c.requires.track
    (λ s. last_done asks c.args.self.now c.ask.new.self c.requires.track s (ap sent_by s.is.1) (λ named sent. ap (λ e. heard_by e named sent) s.is.1) (ap spends s.is.1) (λ sends. subst IsSending s.is.1 sends) (λ hears. subst IsHearing s.is.1 hears)) c.ask.ensures.err
