use Rattle.std.proofs.Common.{◌≡◌, true, refl, sym, ap, ◌∙◌, subst}
use Rattle.pc_call.proofs.LastBeats.{beat_gave_up, same_answer}
use Rattle.pc_call.specs.GivenUp.{GivesUpBy}
use Rattle.pc_call.specs.Learned.{known_heard}
use Rattle.pc_staging.specs.Kept.{is_over}
use Rattle.pc_txn.specs.declared.txn.OpenTxn.{OpenTxn}
use Rattle.pc_txn.specs.Silence.{raised_at}
use Rattle.pc_call.proofs.call.OpenCall.gives_up.Goals as goal

pub returns-in-LastBeat-clause-given : goal.returns-in-LastBeat-clause-given
returns-in-LastBeat-clause-given c = λ session clock begun number reading set k answer reply h counted w beats waited is undecided after at.
    let x = c.args.txn.now in
    let P : OpenTxn → Type 0 = λ y. (c.in-LastBeat.then ≡ answer) × GivesUpBy set.course.loses (known_heard h k) y c.in-LastBeat.then × (is_over y.staging ≡ true) in
    let same : answer ≡ c.in-LastBeat.then = same_answer c.args.self.purpose answer c.in-LastBeat.then reading _ beats c.in-LastBeat.is in
    let given = beat_gave_up session clock begun set k x c.args.self.purpose c.args.self.wave counted w number reply h waited is answer reading c.args.recorded beats undecided after in
    subst P (sym (c.raise.ensures ∙ ap (λ step. raised_at c.args.recorded step x) (sym at)))
    (sym same, subst (λ a. GivesUpBy set.course.loses (known_heard h k) (raised_at c.args.recorded h.step x) a) same given.0, given.1)

pub returns-in-LastBeat-clause-some : goal.returns-in-LastBeat-clause-some
returns-in-LastBeat-clause-some c = λ then reading last. refl
