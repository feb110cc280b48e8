use Rattle.std.proofs.Common.{nat_le, None, filter, fold, ap, ◌∙◌}
use Rattle.pc_base.specs.declared.version.Version.{Version}
use Rattle.pc_base.specs.Span.{same_key}
use Rattle.pc_base.specs.Versions.{later}
use Rattle.pc_mvcc.proofs.Joined.{filtered_twice}
use Rattle.pc_mvcc.proofs.versions.Versions.visible.Goals as goal

pub returns : goal.returns
returns c =
    c.latest_by.ensures
    ∙ (ap (λ vs. fold later None (filter (λ (v : Version). nat_le v.ts c.args.ts) vs)) c.chain.ensures.all
    ∙ ap (fold later None) (filtered_twice (λ (v : Version). same_key v.key c.args.key.now) (λ (v : Version). nat_le v.ts c.args.ts) c.args.self.now))
