use Rattle.std.proofs.Common.{◌≡◌, drop, ap, sym, ◌∙◌}
use Rattle.std.proofs.lemmas.List.{drop-drop}
use Rattle.pc_io.specs.Memory.{SourceState}
use Rattle.pc_io.proofs.Copied.{copied_front}
use Rattle.pc_io.proofs.memory.MemSourceSource.read.Goals as goal

pub returns-clause-bytes : goal.returns-clause-bytes
returns-clause-bytes c =
    let position = c.self.inside.position in
    let bytes = c.self.inside.bytes.items in
    let is : c.args.self.now.left ≡ drop position bytes = sym (ap (λ (s : SourceState). s.left) c.self.view_is) in
    let rest : c.split_at.result.1.now ≡ drop position bytes = c.split_at.ensures.back ∙ ap (drop position) c.deref.ensures.value in
    rw (is, ← drop-drop c.copy_front-count.result position bytes, ← rest)
    (copied_front _ _ _ _ c.copy_front-count.ensures.most c.copy_front-count.ensures.copied)
