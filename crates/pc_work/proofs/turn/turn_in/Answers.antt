use Rattle.std.proofs.Common.{◌∙◌, arith}
use Rattle.std.proofs.lemmas.Str.Pattern.{strip_prefix_char}
use Rattle.pc_work.proofs.Turns.{other_letter}
use Rattle.pc_work.proofs.turn.turn_in.Goals as goal

pub returns-in_err-digits : goal.returns-in_err-digits
returns-in_err-digits c =
    let text = c.args.text.now in
    let s = rw c.in_default.is at (strip_prefix_char 115 text c.strip_prefix.result c.strip_prefix.ensures.cases (omega arith)) in
    let b = rw c.in_default-strip_prefix.is at (strip_prefix_char 98 text c.strip_prefix-in_default.result c.strip_prefix-in_default.ensures.cases (omega arith)) in
    let v = rw c.in_err-digits.was at (strip_prefix_char 118 text c.strip_prefix-in_default-strip_prefix.result c.strip_prefix-in_default-strip_prefix.ensures.cases (omega arith)) in
    c.from_residual-in_err-digits.ensures ∙ other_letter text s b v
