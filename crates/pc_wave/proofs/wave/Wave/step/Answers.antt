use Rattle.std.proofs.Common.{◌≡◌, List, find, Some, None, sym, ap, ◌∙◌}
use Rattle.std.specs.List.{list_all}
use Rattle.std.specs.Option.{option_copied}
use Rattle.pc_wave.proofs.Dues.{step_may}
use Rattle.pc_wave.specs.declared.message.Message.{Message}
use Rattle.pc_wave.specs.Messages.{first_in_conflict, has_answer, is_to_send, step_by, step_in, step_without}
use Rattle.pc_wave.proofs.wave.Wave.step.Goals as goal

pub returns-in-Some-clause-may : goal.returns-in-Some-clause-may
returns-in-Some-clause-may c co k w =
    let ms : List Message = c.args.self.now in
    let m : Message = c.in-Some.message.now in
    let first : first_in_conflict ms ≡ Some m = sym c.first_in_conflict.ensures ∙ ap option_copied c.in-Some.is in
    step_may co k ms w (step_in m.conflicts m.progress) (ap (λ o. step_by o (find is_to_send ms) (list_all has_answer ms)) first) c.step.result c.step.ensures

pub returns-in-None-clause-may : goal.returns-in-None-clause-may
returns-in-None-clause-may c co k w =
    let ms : List Message = c.args.self.now in
    let first : first_in_conflict ms ≡ None = sym c.first_in_conflict.ensures ∙ ap option_copied c.in-None.is in
    step_may co k ms w (step_without (find is_to_send ms) (list_all has_answer ms)) (ap (λ o. step_by o (find is_to_send ms) (list_all has_answer ms)) first) c.step_without.result c.step_without.ensures
