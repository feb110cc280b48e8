use Rattle.std.proofs.Common.{◌≡◌, true, sym, ap, ◌∙◌, Some}
use Rattle.pc_work.specs.Number.{is_number}
use Rattle.pc_work.proofs.Digits.{number_parsed}
use Rattle.pc_work.proofs.turn.number_in.Goals as goal

pub returns : goal.returns
returns c =
    let spelled : is_number c.args.text.now ≡ true = ap is_number (sym c.as_bytes.ensures.value) ∙ sym c.is_number.ensures ∙ c.if-not-is_number.false in
    ap Some c.unwrap_or.ensures ∙ number_parsed c.args.text.now c.parse.result spelled c.parse.ensures.value.0
