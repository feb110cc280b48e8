use Rattle.std.proofs.Common.{◌≡◌, ◌<◌, ap, sym, ◌∙◌, subst}
use Rattle.pc_base.specs.declared.limits.TheConstants.{MOST_REFUSALS}
use Rattle.pc_call.proofs.Hearing.{more}
use Rattle.pc_call.proofs.Refused.{few_before, moves_before, refusal, same_commit, shows}
use Rattle.pc_call.proofs.Undecided.{status_of}
use Rattle.pc_call.specs.Committing.{IsRefusalOf}
use Rattle.pc_call.specs.Learned.{known_heard}
use Rattle.pc_call.specs.Stages.{IsUndecidedAt}
use Rattle.pc_proto.specs.declared.reply.Reply.TheVariants as replies
use Rattle.pc_refusals.specs.Moves.{CountsMoves}
use Rattle.pc_txn.specs.Opened.{refused_at}
use Rattle.pc_wave.specs.Standing.{IsHeardTo}
use Rattle.pc_call.proofs.call.OpenCall.refused.Goals as goal

pub returns-in-Commit-clause-refused : goal.returns-in-Commit-clause-refused
returns-in-Commit-clause-refused c = λ session clock begun number n set k later reply h counted w outbox commits waited heard undecided at.
    let x = c.args.txn.now in
    let p = c.args.self.purpose in
    let ms = c.args.self.wave in
    let recorded = c.args.recorded in
    let v = status_of reply undecided.undecided in
    let is : IsHeardTo k number (replies.Status v.0) h = subst (λ r. IsHeardTo k number r h) v.1 heard in
    let still : IsUndecidedAt (replies.Status v.0) recorded = subst (λ r. IsUndecidedAt r recorded) v.1 undecided in
    let same : n ≡ c.copied.result = same_commit p n _ commits c.in-Commit.is ∙ sym c.copied.ensures in
    let moves : CountsMoves k c.copied.result = subst (CountsMoves k) same (moves_before session clock begun set k x p ms counted w number recorded v.0 h waited is still n commits later outbox) in
    let few : c.copied.result < MOST_REFUSALS = subst (λ n. n < MOST_REFUSALS) same (few_before session clock begun set k x p ms counted w number recorded v.0 h waited is still n commits later outbox) in
    let shown = shows session clock begun set k x p ms counted w number recorded v.0 h waited is still n commits later outbox in
    let one = more session clock begun set k x p ms counted w number (replies.Status v.0) h waited is in
    subst (λ x. IsRefusalOf set session (known_heard h k) recorded x c.with_refusal.result) (sym (c.refused.ensures ∙ ap (λ step. refused_at recorded step x) (sym at)))
    (refusal session clock begun set k x p ms counted w number recorded v.0 h waited is still n commits later outbox c.with_refusal.result (c.with_refusal.ensures k (known_heard h k) h moves few shown one))
