use Rattle.std.proofs.Common.{◌≡◌, is_some, true, Some, Err, sym, ap, subst, ◌∙◌}
use Rattle.std.proofs.lemmas.Bool.{false≢true}
use Rattle.serde_json.specs.View.{view}
use Rattle.pc_work.specs.Reading.{Gives}
use Rattle.pc_work.specs.Refusal.{is_right, least}
use Rattle.pc_work.specs.RefusedWork.{parts_refusal}
use Rattle.pc_work.specs.Stated.{stated_of}
use Rattle.pc_work.specs.Together.{together_refusal}
use Rattle.pc_work.proofs.Complete.{parts_read}
use Rattle.pc_work.proofs.Refused.{both_refused, is_accepted}
use Rattle.pc_work.proofs.workload.together.Goals as goal

pub unreachable-requires : goal.unreachable-requires
unreachable-requires c =
    let right : is_right (parts_refusal (view c.args.json.now)) ≡ true = sym (ap is_right c.requires.parts) ∙ c.requires.right in
    let none = subst (λ r. Gives r (stated_of (view c.args.json.now))) (c.in-Err-OtherForm.is ∙ ap Err c.in-Err-OtherForm.field-0-is) c.stated_of.ensures in
    false≢true (sym (ap is_some none) ∙ parts_read (view c.args.json.now) right)

pub returns-in-Some : goal.returns-in-Some
returns-in-Some c =
    let right : is_right (parts_refusal (view c.args.json.now)) ≡ true = sym (ap is_right c.requires.parts) ∙ c.requires.right in
    both_refused (view c.args.json.now) c.in-Ok.stated right c.in-Ok.ensures
    ∙ ap (λ p. least p (together_refusal c.in-Ok.stated)) (sym c.requires.parts)
    ∙ ap (least c.args.parts) (sym c.together_refusal.ensures)
    ∙ sym c.least.ensures ∙ c.in-Some.is

pub returns-in-None : goal.returns-in-None
returns-in-None c =
    let right : is_right (parts_refusal (view c.args.json.now)) ≡ true = sym (ap is_right c.requires.parts) ∙ c.requires.right in
    let none = both_refused (view c.args.json.now) c.in-Ok.stated right c.in-Ok.ensures
    ∙ ap (λ p. least p (together_refusal c.in-Ok.stated)) (sym c.requires.parts)
    ∙ ap (least c.args.parts) (sym c.together_refusal.ensures)
    ∙ sym c.least.ensures ∙ c.in-None.is in
    is_accepted (view c.args.json.now) c.in-Ok.stated none c.in-Ok.ensures ∙ ap Some (sym c.work_of.ensures)
