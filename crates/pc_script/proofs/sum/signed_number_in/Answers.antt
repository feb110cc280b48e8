use Rattle.std.proofs.Common.{◌≡◌, pos, subst}
use Rattle.pc_script.proofs.Spelling.{unread_is_none, value_is_text}
use Rattle.pc_script.specs.Sum.{signed_number_in}
use Rattle.pc_script.proofs.sum.signed_number_in.Goals as goal

pub unreachable-requires : goal.unreachable-requires
unreachable-requires c = c.in_default.ensures.cases.0 (value_is_text c.args.bytes.now c.requires)

pub returns-in-Err : goal.returns-in-Err
returns-in-Err c = subst (λ bytes. pos 0 ≡ signed_number_in bytes) c.in-Ok.ensures.cases.0 (unread_is_none _ c.in-Ok.text.now c.in-Err.field-0 c.in-Err.ensures.value.0)
