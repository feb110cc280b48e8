use Rattle.std.proofs.Common.{◌≡◌, ℕ, false, List, sym, ap, ◌∙◌}
use Rattle.std.proofs.lemmas.Result.{IfOk-weaker}
use Rattle.std.specs.List.{list_any}
use Rattle.pc_base.specs.Span.{contains}
use Rattle.pc_proto.specs.declared.record.Intent.{Intent}
use Rattle.pc_world.specs.RangeState.{RangeState}
use Rattle.pc_eval.proofs.Seen.{rows_of_seen}
use Rattle.pc_eval.proofs.state.RangeState.rows_in.Goals as goal

pub returns-else-any_in : goal.returns-else-any_in
returns-else-any_in c =
    let none : list_any (λ (e : List ℕ × Intent). contains c.args.span.now e.0) c.args.self.now.intents ≡ false =
    sym (ap (λ (s : RangeState). list_any (λ (e : List ℕ × Intent). contains c.args.span.now e.0) s.intents) c.self.view_is) ∙ (sym c.any_in.ensures ∙ c.if-any_in.false) in
    IfOk-weaker c.rows_of_versions.result _ _ (λ made is. is ∙ rows_of_seen c.args.id c.args.epoch c.args.seq c.args.ts c.args.span.now c.args.self.now none) c.rows_of_versions.ensures
