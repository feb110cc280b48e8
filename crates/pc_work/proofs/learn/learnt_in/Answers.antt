use Rattle.std.proofs.Common.{None, Some, refl, ◌∙◌, arith}
use Rattle.std.proofs.lemmas.Str.Pattern.{split_once_first}
use Rattle.pc_work.proofs.Learns.{learnt_by, no_point}
use Rattle.pc_work.specs.Learn.{positive_in}
use Rattle.pc_work.proofs.learn.learnt_in.Goals as goal

pub returns-in_err-session : goal.returns-in_err-session
returns-in_err-session c =
    let cut = rw c.in_err-session.was at (split_once_first 46 c.args.text.now c.split_once.result c.split_once.ensures.cases (omega arith)) in
    c.from_residual.ensures ∙ no_point c.args.text.now cut

pub returns-in_err-session-2 : goal.returns-in_err-session-2
returns-in_err-session-2 c =
    let cut = rw c.in_ok-session.was at (split_once_first 46 c.args.text.now c.split_once.result c.split_once.ensures.cases (omega arith)) in
    let session = c.in_ok-session.session.now in
    let number = c.in_ok-session.number.now in
    c.from_residual-in_err-session-2.ensures
    ∙ learnt_by c.args.text.now session number None (positive_in number) cut.1 cut.2 c.in_err-session-2.ensures refl

pub returns-in_err-number : goal.returns-in_err-number
returns-in_err-number c =
    let cut = rw c.in_ok-session.was at (split_once_first 46 c.args.text.now c.split_once.result c.split_once.ensures.cases (omega arith)) in
    let session = c.in_ok-session.session.now in
    let number = c.in_ok-session.number.now in
    c.from_residual-in_err-number.ensures
    ∙ learnt_by c.args.text.now session number (Some c.in_ok-session-2.session) None cut.1 cut.2 c.in_ok-session-2.ensures c.in_err-number.ensures

pub returns : goal.returns
returns c =
    let cut = rw c.in_ok-session.was at (split_once_first 46 c.args.text.now c.split_once.result c.split_once.ensures.cases (omega arith)) in
    let session = c.in_ok-session.session.now in
    let number = c.in_ok-session.number.now in
    learnt_by c.args.text.now session number (Some c.in_ok-session-2.session) (Some c.in_ok-number.number) cut.1 cut.2 c.in_ok-session-2.ensures c.in_ok-number.ensures
