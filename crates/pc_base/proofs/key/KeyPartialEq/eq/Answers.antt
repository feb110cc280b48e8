use Rattle.std.proofs.Common.{bytes_eq, ap, sym, ◌∙◌}
use Rattle.std.proofs.lemmas.Map.Text.{is_eq-slice_cmp}
use Rattle.std.specs.Prelude.{string_bytes}
use Rattle.pc_base.proofs.key.KeyPartialEq.eq.Goals as goal

pub returns : goal.returns
returns c =
    c.eq.ensures
    ∙ (ap (λ one. bytes_eq one (string_bytes c.other.inside.text)) c.self.view_is
    ∙ (ap (λ other. bytes_eq c.args.self.now other) c.other.view_is ∙ sym (is_eq-slice_cmp c.args.self.now c.args.other.now)))
