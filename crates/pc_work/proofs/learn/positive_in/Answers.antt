use Rattle.std.proofs.Common.{◌≡◌, true, false, sym, ap, ◌∙◌}
use Rattle.pc_work.specs.Number.{is_number}
use Rattle.pc_work.proofs.Learns.{no_number, positive_parsed, read_none, read_positive, read_zero}
use Rattle.pc_work.proofs.learn.positive_in.Goals as goal

pub returns-then-not-is_number : goal.returns-then-not-is_number
returns-then-not-is_number c =
    let other : is_number c.args.text.now ≡ false = ap is_number (sym c.as_bytes.ensures.value) ∙ sym c.is_number.ensures ∙ c.if-not-is_number.true in
    no_number c.args.text.now other

pub returns-in-Ok : goal.returns-in-Ok
returns-in-Ok c =
    let spelled : is_number c.args.text.now ≡ true = ap is_number (sym c.as_bytes.ensures.value) ∙ sym c.is_number.ensures ∙ c.if-not-is_number.false in
    read_positive c.parse.result c.in-Ok.number c.in-Ok.is c.if-number-ge1.true ∙ positive_parsed c.args.text.now c.parse.result spelled c.parse.ensures.value.0

pub returns-in_default : goal.returns-in_default
returns-in_default c =
    let spelled : is_number c.args.text.now ≡ true = ap is_number (sym c.as_bytes.ensures.value) ∙ sym c.is_number.ensures ∙ c.if-not-is_number.false in
    read_zero c.parse.result c.in-Ok.number c.in-Ok.is c.if-number-ge1.false ∙ positive_parsed c.args.text.now c.parse.result spelled c.parse.ensures.value.0

pub returns-in_default-2 : goal.returns-in_default-2
returns-in_default-2 c =
    let spelled : is_number c.args.text.now ≡ true = ap is_number (sym c.as_bytes.ensures.value) ∙ sym c.is_number.ensures ∙ c.if-not-is_number.false in
    read_none c.parse.result c.in_default.field-0 c.in_default.is ∙ positive_parsed c.args.text.now c.parse.result spelled c.parse.ensures.value.0
