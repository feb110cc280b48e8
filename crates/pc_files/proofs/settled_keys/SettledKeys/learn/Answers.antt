use Rattle.std.proofs.Common.{◌||◌, ap, ◌∙◌}
use Rattle.std.proofs.lemmas.Result.{on_ok_weaker}
use Rattle.pc_files.proofs.Noting.{settled_after}
use Rattle.pc_files.proofs.settled_keys.SettledKeys.learn.Goals as goal
use Rattle.pc_files.specs.SettledKeys.{settles_key}

pub returns-in-Some : goal.returns-in-Some
returns-in-Some c all are =
    rw c.in-Some.is
    (on_ok_weaker c.hear.result
    (λ more id key. more id key ∙ ap (λ b. b || settles_key id key c.in-Some.hearing.now) (are id key) ∙ settled_after id key all c.in-Some.hearing.now)
    c.hear.ensures)
