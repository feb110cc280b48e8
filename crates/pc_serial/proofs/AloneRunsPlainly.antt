-- One session alone runs plainly.
use Rattle.std.proofs.Common.{List, inl, inr, sym, subst, ◌∙◌}
use Rattle.pc_base.specs.declared.entry.Entry.{Entry}
use Rattle.pc_history.specs.History.{MayFollow}
use Rattle.pc_implicit.proofs.Commits.{act_of}
use Rattle.pc_implicit.proofs.Doing.{Does}
use Rattle.pc_implicit.proofs.Evals.{range_evaluates}
use Rattle.pc_implicit.proofs.Fronts.{split_there}
use Rattle.pc_proto.specs.declared.answer.Answer.TheVariants as answers
use Rattle.pc_proto.specs.declared.event.Event.{Event}
use Rattle.pc_proto.specs.declared.event.Event.TheVariants as events
use Rattle.pc_serial.proofs.AloneEnds.{told_or_open}
use Rattle.pc_serial.proofs.AlonePlain.{tells_plainly}
use Rattle.pc_serial.proofs.AloneRun.{who}
use Rattle.pc_serial.proofs.OneSession.{one_session_runs_in_turn}
use Rattle.pc_serial.proofs.Quiet.{nothing_lost}
use Rattle.pc_serial.specs.Alone.{IsAlone}
use Rattle.pc_serial.specs.Plain.{RunsPlainly}
use Rattle.pc_serial.specs.QuietWire.{the_session}
use Rattle.pc_world.proofs.Prefixes.{run_may}
use Rattle.pc_world.specs.After.{known_at}
use Rattle.pc_world.specs.Local.{Head}
use Rattle.pc_world.specs.Run.{IsRun, protocol}

-- one session alone runs plainly
pub one_session_runs_plainly : (head : Head) (history : List (Entry Event)) → IsRun head history → IsAlone head history → RunsPlainly head history
one_session_runs_plainly head history run alone = record {
  answered = λ before e later answer split tells.
      let may : MayFollow (protocol head) before e = run_may head before e later (subst (IsRun head) split run) in
      elim (who head history run alone e.actor may.local.there) [
        | inl me ↦
            let act : Does head the_session (known_at head the_session before) (events.Tell answer) =
            subst (λ a. Does head a (known_at head a before) (events.Tell answer)) me (subst (Does head e.actor (known_at head e.actor before)) tells (act_of head before e may)) in
            tells_plainly head history run alone before e later split me answer tells act
        | inr at ↦ let what = range_evaluates head before e at.0 may at.1 in absurd (let both = sym tells ∙ what.3 in cc both)
      ];
  committed = λ id ts is. told_or_open head history run alone id ts is;
  in_turn = one_session_runs_in_turn head history run alone.one (λ e id there tells.
      let s = split_there history e there in
      let may : MayFollow (protocol head) s.before e = run_may head s.before e s.later (subst (IsRun head) s.whole run) in
      elim (who head history run alone e.actor may.local.there) [
        | inl me ↦ nothing_lost head history run alone.wire.none_lost s.before e s.later s.whole me (answers.Unknown id) tells tt
        | inr at ↦ let what = range_evaluates head s.before e at.0 may at.1 in let both = sym tells ∙ what.3 in cc both
      ]);
}
