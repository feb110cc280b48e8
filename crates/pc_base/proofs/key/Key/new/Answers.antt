use Rattle.std.proofs.Common.{sym, ◌∙◌}
use Rattle.pc_base.proofs.KeyText.{key_is_text}
use Rattle.pc_base.proofs.key.Key.new.Goals as goal

pub unreachable-requires : goal.unreachable-requires
unreachable-requires c = c.in_default.ensures.cases.0 (key_is_text c.args.bytes.now (sym c.are_key_bytes.ensures ∙ c.if-not-are_key_bytes.false))
