use Rattle.std.proofs.Common.{All, Contains, IfSome, sym, subst}
use Rattle.pc_history.specs.declared.view.Known.{Known as KnownEntry}
use Rattle.pc_history.specs.Meanings.{ActorMeaning}
use Rattle.pc_proto.specs.declared.event.Event.{Event}
use Rattle.pc_range.proofs.Serving.{all-told}
use Rattle.pc_world.specs.Local.{Head}
use Rattle.pc_range.proofs.cell.know.Goals as goal

pub returns-in-Some-clause-knows : goal.returns-in-Some-clause-knows
returns-in-Some-clause-knows g c =
    subst (λ o. IfSome o (λ n. All (λ (k : KnownEntry Event). Contains c.take.new.self.part.known k) n.known)) (sym c.in-Some.is)
    (subst (λ (a : ActorMeaning Head Event). All (λ (k : KnownEntry Event). Contains a.part.known k) c.in-Some.note.known) (sym c.take.ensures.told) (all-told c.args.actor.now.part.known c.in-Some.note.known))
