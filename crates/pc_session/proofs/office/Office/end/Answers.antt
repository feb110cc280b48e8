use Rattle.std.proofs.Common.{◌≡◌}
use Rattle.std.proofs.lemmas.Result.{err_from_is_err_and}
use Rattle.pc_proto.specs.declared.event.Event.TheVariants as events
use Rattle.pc_session.proofs.Dropping.{at_most_ends, at_most_halts, at_most_told, none_ends, next_dropped}
use Rattle.pc_session.proofs.office.Office.end.Goals as goal

pub tell-requires-clause-due : goal.tell-requires-clause-due
tell-requires-clause-due g c = next_dropped c.args.self.now c.drop_strays.new.self c.args.answer c.in_ok-drop_strays.ensures.dropped c.requires.due

pub returns-clause-ok : goal.returns-clause-ok
returns-clause-ok g c = at_most_told c.args.self.now c.drop_strays.new.self c.in_ok-drop_strays.ensures.dropped c.tell.new.self c.args.reading c.args.answer c.tell.result c.tell.ensures.told c.tell.ensures.ok

pub returns-clause-err : goal.returns-clause-err
returns-clause-err g c = at_most_halts c.args.self.now c.drop_strays.new.self c.in_ok-drop_strays.ensures.dropped c.tell.new.self.desk c.tell.result c.tell.ensures.err

pub returns-clause-ended : goal.returns-clause-ended
returns-clause-ended g c = at_most_ends c.args.self.now c.drop_strays.new.self c.in_ok-drop_strays.ensures.dropped (λ made. made ≡ events.Tell c.args.answer) c.tell.new.self.desk c.tell.result c.tell.ensures.ended

pub returns-in_err-drop_strays-clause-ended : goal.returns-in_err-drop_strays-clause-ended
returns-in_err-drop_strays-clause-ended g c =
    let p = err_from_is_err_and c.from_residual.result c.from_residual.ensures.1 in
    rw (p.1, p.2) (none_ends c.args.self.now.desk c.drop_strays.new.self.desk (λ made. made ≡ events.Tell c.args.answer) c.in_err-drop_strays.field-0.0 c.in_err-drop_strays.ensures.ended)
