use Rattle.std.proofs.Common.{◌≡◌, ◌↔◌, ℕ, IsTrue, List, ap, sym, subst, ◌∙◌}
use Rattle.pc_base.specs.declared.span.Span.{Span}
use Rattle.pc_known.proofs.Exact.{both}
use Rattle.pc_may_tell.proofs.Scans.{rows_told}
use Rattle.pc_may_tell.proofs.rows.may_tell_rows.Goals as goal
use Rattle.pc_may_tell.specs.Scanned.{AreRowsNow}
use Rattle.pc_proto.specs.declared.call.Call.TheVariants as calls
use Rattle.pc_world.specs.Known.Statements.{Statement}
use Rattle.pc_world.specs.RangeOf.{pieces}

pub returns-in_ok-cut-in-Scan : goal.returns-in_ok-cut-in-Scan
returns-in_ok-cut-in-Scan c k keeps =
    let x = c.sends.result.now in
    let r = c.are_rows_now.result in
    let cut : c.as_slice.result.now ≡ pieces c.args.splits.now c.in-Scan.span = c.as_slice.ensures.value ∙ c.in_ok-cut-in-Scan.ensures in
    let asked : c.args.call.now.call ≡ calls.Scan c.in-Scan.span = ap (λ (s : Statement). s.call) (sym c.call.view_is) ∙ c.in-Scan.is in
    let rows : IsTrue r ↔ AreRowsNow x c.heard_now.result.now c.as_slice.result.now c.args.rows.now =
    subst (λ rs. IsTrue r ↔ AreRowsNow x c.heard_now.result.now c.as_slice.result.now rs) c.as_slice-in-Scan.ensures c.are_rows_now.ensures in
    let whole : IsTrue r ↔ AreRowsNow x c.heard_now.result.now (pieces c.args.splits.now c.in-Scan.span) c.args.rows.now =
    subst (λ (ps : List (ℕ × Span)). IsTrue r ↔ AreRowsNow x c.heard_now.result.now ps c.args.rows.now) cut rows in
    let known : IsTrue r ↔ AreRowsNow x k.heard_now (pieces c.args.splits.now c.in-Scan.span) c.args.rows.now =
    subst (λ hs. IsTrue r ↔ AreRowsNow x hs (pieces c.args.splits.now c.in-Scan.span) c.args.rows.now) (c.heard_now.ensures k keeps) whole in
    both known (rows_told k x (c.sends.ensures k keeps) c.args.splits.now c.args.call.now c.in-Scan.span c.args.rows.now asked)
