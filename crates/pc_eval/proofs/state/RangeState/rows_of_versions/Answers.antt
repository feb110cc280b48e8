use Rattle.std.proofs.Common.{◌≡◌, ℕ, ◌<◌, ◌++◌, List, length, slice_index_or, sym, ap, ◌∙◌, rules, Bor}
use Rattle.std.specs.Option.{option_to_list}
use Rattle.pc_base.specs.declared.version.Version.{Version}
use Rattle.pc_proto.specs.declared.reply.Origin.{Origin}
use Rattle.pc_eval.proofs.KeysAndRows.{mapped_more}
use Rattle.pc_eval.specs.RowOf.{row_of}
use Rattle.pc_eval.proofs.state.RangeState.rows_of_versions.Goals as goal

pub loop-version-preserved : goal.loop-version-preserved
loop-version-preserved c =
    let items : List (Bor Version) = c.deref-version-items.result.now in
    let i : ℕ = c.loop-version.version-index in
    let v : Bor Version = c.version-item.result in
    let inside : i < length items = search rules in
    let is : v ≡ slice_index_or items i v = search rules in
    let grown : c.add_version.new.rows ≡ c.loop-version.rows ++ option_to_list (row_of v.now) = search rules in
    grown ∙ (ap (λ (rows : List (List ℕ × Origin × List ℕ)). rows ++ option_to_list (row_of v.now)) c.loop-version.invariant
    ∙ sym (mapped_more row_of (λ (v : Bor Version). v.now) items i v inside is))
