use Rattle.std.proofs.Common.{◌≡◌, ℕ, Option, ap, ◌∙◌}
use Rattle.std.proofs.lemmas.Result.{on_ok_weaker}
use Rattle.pc_files.proofs.refreshed.RefreshedSpans.learn.Goals as goal
use Rattle.pc_files.proofs.Ways.{way_after}
use Rattle.pc_files.specs.RefreshedSpans.{way_by}

pub returns-in-Some : goal.returns-in-Some
returns-in-Some c all are =
    let h = c.in-Some.hearing.now in
    rw c.in-Some.is
    (on_ok_weaker c.hear.result
    (λ further id span. further id span ∙ ap (λ (way : Option (ℕ × ℕ)). way_by id span way h.request h.reply) (are id span) ∙ way_after id span all h)
    c.hear.ensures)
