-- A stage by which its transaction is committed is not known dead.
use Rattle.std.proofs.Common.{◌≡◌, List, [], ◌++◌, sym, subst}
use Rattle.std.proofs.lemmas.List.{append-nil}
use Rattle.pc_base.specs.declared.actor.ActorId.TheVariants as actors
use Rattle.pc_base.specs.declared.entry.Entry.{Entry}
use Rattle.pc_implicit.proofs.NeverDead.{never_dead}
use Rattle.pc_implicit.proofs.StageWords.{CommitsBy}
use Rattle.pc_proto.specs.declared.event.Event.{Event}
use Rattle.pc_world.specs.After.{known_at}
use Rattle.pc_world.specs.Local.{Head}
use Rattle.pc_world.specs.Run.{IsRun}
use Rattle.pc_world.specs.StageFate.{IsDead, SentStage}

pub not_dead : (head : Head) (history : List (Entry Event)) → IsRun head history → (s : SentStage) → CommitsBy head history s → IsDead (known_at head (actors.Session s.meta.id.session) history).heard s → ⊥
not_dead head history run s by dead =
    let same : history ++ [] ≡ history = append-nil history in
    never_dead head history [] (subst (IsRun head) (sym same) run) s by (subst (λ h. IsDead (known_at head (actors.Session s.meta.id.session) h).heard s) (sym same) dead)
