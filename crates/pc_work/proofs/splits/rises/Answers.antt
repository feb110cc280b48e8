use Rattle.std.proofs.Common.{rules}
use Rattle.std.proofs.lemmas.List.Sorted.{answers_always}
use Rattle.pc_base.specs.Span.{key_below}
use Rattle.pc_work.proofs.Rises.{rises_is}
use Rattle.pc_work.proofs.splits.rises.Goals as goal

pub returns : goal.returns
returns c = rises_is c.args.keys.now c.is_sorted_by.result (c.is_sorted_by.ensures.cases key_below (answers_always _ _ _ (λ f a r g called. search rules)))
