use Rattle.std.proofs.Common.{◌≡◌, [], filter, fold, map, sym, ap, ◌∙◌, rules}
use Rattle.std.specs.BTreeSet.{insert_key}
use Rattle.std.specs.Cmp.Lexicographic.{slice_cmp}
use Rattle.std.specs.Ordering.{nat_cmp}
use Rattle.pc_base.specs.Span.{contains}
use Rattle.pc_world.specs.Evaluation.Scan.{keys_in}
use Rattle.pc_world.specs.RangeState.{RangeState}
use Rattle.pc_eval.proofs.KeysAndRows.{keys_of_both}
use Rattle.pc_eval.proofs.state.RangeState.keys_in.Goals as goal

pub returns : goal.returns
returns c =
    let s : RangeState = record { versions = c.self.inside.versions; intents = c.self.inside.intents; bound = c.self.inside.bound; table = c.self.inside.table } in
    let is : s ≡ c.args.self.now = c.self.view_is in
    let made : c.add_keys-2.new.keys.keys ≡ fold (insert_key (slice_cmp nat_cmp)) (fold (insert_key (slice_cmp nat_cmp)) [] (filter (contains c.args.span.now) (map (λ v. v.key) s.versions))) (filter (contains c.args.span.now) (map (λ e. e.0) s.intents)) = search rules in
    made ∙ sym (keys_of_both c.args.span.now s) ∙ ap (keys_in c.args.span.now) is
