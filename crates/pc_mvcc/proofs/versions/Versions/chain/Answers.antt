use Rattle.std.proofs.Common.{filter, sym, ap, subst, ◌∙◌}
use Rattle.pc_base.specs.declared.version.Version.{Version}
use Rattle.pc_base.specs.Span.{same_key}
use Rattle.pc_mvcc.proofs.Joined.{all_in_chain, chain_found, chain_of}
use Rattle.pc_mvcc.specs.Chains.{IsChain}
use Rattle.pc_mvcc.proofs.versions.Versions.chain.Goals as goal

pub returns-in-Some-clause-own : goal.returns-in-Some-clause-own
returns-in-Some-clause-own c =
    subst (IsChain c.args.key.now) (sym c.as_slice.ensures.value) (chain_found c.args.key.now c.self.inside.chains.entries c.in-Some.chain.now c.self.invariant (sym c.in-Some.ensures.value))

pub returns-in-Some-clause-all : goal.returns-in-Some-clause-all
returns-in-Some-clause-all c =
    c.as_slice.ensures.value ∙ (ap chain_of c.in-Some.ensures.value
    ∙ (sym (all_in_chain c.args.key.now c.self.inside.chains.entries c.self.invariant)
    ∙ ap (filter (λ (v : Version). same_key v.key c.args.key.now)) c.self.view_is))

pub returns-in-None-clause-all : goal.returns-in-None-clause-all
returns-in-None-clause-all c =
    ap chain_of c.in-None.ensures.value
    ∙ (sym (all_in_chain c.args.key.now c.self.inside.chains.entries c.self.invariant)
    ∙ ap (filter (λ (v : Version). same_key v.key c.args.key.now)) c.self.view_is)
