use Rattle.std.proofs.Common.{◌≡◌, Some, refl, sym, ap, ◌∙◌, subst}
use Rattle.pc_call.proofs.QueryMissed.{missed_gives_up, same_holder}
use Rattle.pc_call.specs.GivenUp.{GivesUpBy}
use Rattle.pc_call.specs.Learned.{known_heard}
use Rattle.pc_call.specs.Queries.{missed_if}
use Rattle.pc_proto.specs.declared.answer.Answer.TheVariants as answers
use Rattle.pc_proto.specs.declared.reply.Reply.TheVariants as replies
use Rattle.pc_txn.specs.Opened.{missed_at}
use Rattle.pc_call.proofs.call.OpenCall.missed.Goals as goal

pub returns-in-Some-clause-missed : goal.returns-in-Some-clause-missed
returns-in-Some-clause-missed c = c.in_ok-miss-in-Some.ensures ∙ sym (ap (λ o. missed_if o c.args.step c.args.txn.now) (sym c.blocker_of.ensures ∙ c.in-Some.is))

pub returns-in-Some-clause-blocked : goal.returns-in-Some-clause-blocked
returns-in-Some-clause-blocked c = λ session clock begun number n set k holder puts h counted w asks waited is at.
    let x = c.args.txn.now in
    let same : holder ≡ c.in-Some.holder = same_holder c.args.self.purpose n holder c.in-Some.holder puts asks (sym c.blocker_of.ensures ∙ c.in-Some.is) in
    subst (λ y. GivesUpBy set.course.loses (known_heard h k) y (answers.Blocked c.in-Some.holder)) (sym (c.in_ok-miss-in-Some.ensures ∙ ap (λ step. missed_at x.write_ts step x) (sym at)))
    (subst (λ by. GivesUpBy set.course.loses (known_heard h k) (missed_at x.write_ts h.step x) (answers.Blocked by)) same
    (missed_gives_up session clock begun set k x c.args.self.purpose c.args.self.wave counted w number replies.Missing h waited is n holder puts asks refl))

pub returns-in-Some-clause-some : goal.returns-in-Some-clause-some
returns-in-Some-clause-some c = λ n holder puts asks. refl
