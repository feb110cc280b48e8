use Rattle.std.proofs.Common.{List, ◌∷◌, ◌++◌, [], sym, subst}
use Rattle.pc_known.specs.Parts.{part_span}
use Rattle.pc_own.proofs.SpansRead.{span_added}
use Rattle.pc_own.proofs.reads.add_read.Goals as goal
use Rattle.pc_own.specs.ReadSpans.{AreReadSpans}
use Rattle.pc_world.specs.Known.Reads.{Read}

pub returns-clause-spans : goal.returns-clause-spans
returns-clause-spans c are =
    let so_far : List Read = c.reserve.new.self.items in
    let r : Read = record { span = part_span c.read.inside.span; ts = c.read.inside.ts } in
    let before = subst (λ (rs : List Read). AreReadSpans rs c.args.spans.now) (sym c.in_ok-reserve.ensures.items) are in
    subst (λ (rs : List Read). AreReadSpans rs c.insert.new.self) (sym c.in_ok-push.ensures.items)
    (subst (λ (x : Read). AreReadSpans (so_far ++ x ∷ []) c.insert.new.self) c.read.view_is (span_added so_far r c.args.spans.now c.insert.new.self before c.in_ok-insert.ensures.updates.0))
