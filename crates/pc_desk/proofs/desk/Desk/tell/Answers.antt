use Rattle.std.proofs.Common.{◌≡◌, refl, ap, subst}
use Rattle.std.proofs.lemmas.Result.{on_ok_weaker}
use Rattle.pc_desk.proofs.Desking.{has_done}
use Rattle.pc_desk.proofs.Ending.{ended_if}
use Rattle.pc_desk.proofs.Stopping.{last_done}
use Rattle.pc_proto.specs.declared.event.Event.{Event}
use Rattle.pc_proto.specs.declared.event.Event.TheVariants as events
use Rattle.pc_world.specs.Known.Traffic.{heard_by, sent_by}
use Rattle.pc_world.specs.Run.{spends}
use Rattle.pc_follows.specs.WaveEvaluation.{IsSending}
use Rattle.pc_follows.specs.WaveOrder.{IsHearing}
use Rattle.pc_desk.proofs.desk.Desk.tell.Goals as goal

pub returns-clause-ok : goal.returns-clause-ok
returns-clause-ok g c =
    on_ok_weaker c.enter.result (λ entered. has_done _ c.args.self.now c.enter.new.self (events.Tell c.args.answer) c.self.view_is refl (λ named sent. refl) refl (λ sends. sends) (λ hears. hears) c.requires.track entered) c.enter.ensures.ok

pub returns-clause-ended : goal.returns-clause-ended
returns-clause-ended g c =
    let is : Event → Type 0 = λ made. made ≡ events.Tell c.args.answer in
    ended_if is _ c.args.self.now c.enter.new.self c.enter.result c.self.view_is c.requires.track
    (λ s. last_done is c.args.self.now c.enter.new.self c.requires.track s (ap sent_by s.is) (λ named sent. ap (λ e. heard_by e named sent) s.is) (ap spends s.is) (λ sends. subst IsSending s.is sends) (λ hears. subst IsHearing s.is hears)) c.enter.ensures.err

pub enter-requires-clause-waves : goal.enter-requires-clause-waves
enter-requires-clause-waves g c = record { whole = tt; order = λ one. tt }
