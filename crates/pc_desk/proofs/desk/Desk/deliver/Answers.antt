use Rattle.std.proofs.Common.{ap, subst, sym}
use Rattle.pc_desk.proofs.Desking.{delivers_none, newest_first}
use Rattle.std.proofs.lemmas.Result.{err_from_is_err_and}
use Rattle.pc_desk.proofs.Ending.{ended_later}
use Rattle.pc_desk.specs.Desk.{HasDelivered}
use Rattle.pc_desk.specs.Ending.{PostsInCall}
use Rattle.pc_desk.specs.Waiting.{IsNewest}
use Rattle.pc_desk.proofs.desk.Desk.deliver.Goals as goal

pub loop-self-init : goal.loop-self-init
loop-self-init g c =
    let s = c.args.self.now in
    let same = c.in_ok-last.ensures.same in (
      subst (HasDelivered s) (sym same) (delivers_none s c.requires.track),
      c.note_last.ensures.clock,
      subst (λ d. IsNewest d.log.part.own d.replies c.in_ok-last.last.known) (sym same) (newest_first s.log.part.own s.replies c.in_ok-last.last.known c.requires.none_waits c.in_ok-last.ensures.behind),
      subst PostsInCall (sym same) c.requires.in_call,
    )

pub returns-in_err-last-2-clause-ended : goal.returns-in_err-last-2-clause-ended
returns-in_err-last-2-clause-ended g c =
    let made = c.loop-self.invariant.0 in
    let p = err_from_is_err_and c.from_residual-in_err-last-2.result c.from_residual-in_err-last-2.ensures.1 in
    rw (p.1, p.2)
    (ended_later c.args.self.now c.loop-self.self c.deliver_first.new.self c.in_err-last-2.field-0.0 (ap (λ l. l.stopped) made.own) made.more made.own made.limit c.in_err-last-2.ensures.ended)
