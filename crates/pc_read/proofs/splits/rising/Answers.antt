use Rattle.std.proofs.Common.{arith, sym, ◌∙◌}
use Rattle.pc_read.proofs.Items.{shorter_cut}
use Rattle.pc_read.proofs.SplitKeys.{rising_goes, rising_stops}
use Rattle.pc_read.proofs.splits.rising.Goals as goal

pub returns-then-not-is_next : goal.returns-then-not-is_next
returns-then-not-is_next c =
    sym (rising_stops c.keys.found _ c.args.bytes.now c.keys.rest.now c.in-Some.text.now c.in-Some.behind.now c.keys.invariant.rest (sym c.in-Some.ensures) (sym c.is_next-in-Some.ensures ∙ c.if-not-is_next.true))

pub keys-preserved : goal.keys-preserved
keys-preserved c = record {
  rest = rising_goes c.keys.found _ c.args.bytes.now c.keys.rest.now c.in-Some.text.now c.in-Some.behind.now c.keys.invariant.rest (sym c.in-Some.ensures) (sym c.is_next-in-Some.ensures ∙ c.if-not-is_next.false);
  room = omega (arith, shorter_cut 32 c.keys.rest.now c.in-Some.text.now c.in-Some.behind.now (sym c.in-Some.ensures));
}
