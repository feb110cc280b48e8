use Rattle.std.proofs.Common.{◌++◌, All, map, ap, subst, ◌∙◌}
use Rattle.std.proofs.lemmas.List.{map-append}
use Rattle.pc_desk.proofs.Desking.{posted_again}
use Rattle.pc_desk.proofs.Leaving.{left_ready}
use Rattle.pc_desk.specs.Desk.{IsReadyToGo, WaitingMessage}
use Rattle.pc_desk.proofs.desk.Desk.finish.Goals as goal

pub returns-clause-rest : goal.returns-clause-rest
returns-clause-rest g c =
    let i = c.self.inside in
    ap (map (λ (w : WaitingMessage). w.posted)) c.of.ensures ∙ (posted_again _ (i.outbox.waiting ++ i.later.waiting) ∙ (map-append _ i.outbox.waiting i.later.waiting ∙ ap (λ d. d.posted ++ d.later) c.self.view_is))

pub returns-clause-ready : goal.returns-clause-ready
returns-clause-ready g c =
    let i = c.self.inside in
    subst (λ d. All (IsReadyToGo d.log.part.id d.log.head.splits) c.of.result) c.self.view_is (left_ready i.ranges.now.splits i.log c.of.result _ i.outbox.waiting i.later.waiting c.of.ensures c.self.invariant.0 c.self.invariant.1)
