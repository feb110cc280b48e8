use Rattle.std.proofs.Common.{◌≡◌, Bor, Option, None, Some, is_some, refl, sym, ◌∙◌}
use Rattle.std.specs.Option.{option_copied}
use Rattle.pc_wave.proofs.Losing.{found_any, used_up}
use Rattle.pc_wave.specs.declared.message.Message.{Message}
use Rattle.pc_wave.proofs.wave.Wave.used_up.Goals as goal

copied : (o : Option (Bor Message)) → is_some o ≡ is_some (option_copied o)
copied None = refl
copied (Some m) = refl

pub returns-clause-exactly : goal.returns-clause-exactly
returns-clause-exactly c =
    c.is_some.ensures ∙ copied c.without_try.result ∙ found_any (option_copied c.without_try.result) c.args.tries c.args.self.now c.without_try.ensures

pub returns-clause-lost : goal.returns-clause-lost
returns-clause-lost c co k w loses is = used_up co k c.args.self.now c.args.tries w loses (sym (returns-clause-exactly c) ∙ is)
