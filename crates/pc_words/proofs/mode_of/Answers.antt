use Rattle.std.proofs.Common.{◌≡◌, ap, inl, inr, map, string_bytes, sym, ◌∙◌, true}
use Rattle.clap.specs.Words.{app_of, is_simple_and_free, kind_of}
use Rattle.pc_words.proofs.Found.{is_free_command, matched_is, refused_is}
use Rattle.pc_words.proofs.mode_of.Goals as goal

pub returns-in-Ok : goal.returns-in-Ok
returns-in-Ok c =
    let free : is_simple_and_free (app_of c.in_ok-command.command) ≡ true = ap is_simple_and_free c.in_ok-command.ensures ∙ is_free_command in
    c.matched_mode.ensures
    ∙ matched_is (app_of c.in_ok-command.command) (map string_bytes c.args.words.now) c.in-Ok.matches c.in_ok-command.ensures c.in-Ok.ensures.matches (c.in-Ok.ensures.kinds free)

pub returns : goal.returns
returns c =
    let free : is_simple_and_free (app_of c.in_ok-command.command) ≡ true = ap is_simple_and_free c.in_ok-command.ensures ∙ is_free_command in
    elim (c.in-Err.ensures.kinds free) [
      | inl refused ↦ absurd (c.in_default.not-OutOfMemory (c.kind.ensures ∙ refused))
      | inr among ↦ sym (refused_is (app_of c.in_ok-command.command) (map string_bytes c.args.words.now) (kind_of c.in-Err.error) c.in_ok-command.ensures among)
    ]
