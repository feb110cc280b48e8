use Rattle.std.proofs.Common.{◌≡◌, ◌-◌, [], length, IfNone, IfSome, sym, subst}
use Rattle.pc_history.specs.Parts.{noted}
use Rattle.pc_scripted.specs.Scripted.{own_list}
use Rattle.pc_threads.proofs.Behind.{behind_mark, behind_nothing}
use Rattle.pc_threads.specs.Lanes.{StandsBehind}
use Rattle.pc_threads.proofs.on_threads.put_behind.Goals as goal
use Rattle.pc_threads.proofs.on_threads.put_behind.Goals.{in-Some, in_default}

pub returns-clause-behind : goal.returns-clause-behind
returns-clause-behind g c =
    let first = c.args.first.now in
    elim c.match-branch-2.branch [
      | in-Some w ↦
          subst (λ s. StandsBehind (own_list first) c.args.other s) (sym w.other-is)
          (behind_mark first c.args.other w.in-Some.mark.known (subst (λ m. IfSome m (λ n. n.known ≡ noted (length (own_list first) - 1) 0 first.session.desk.log.part)) w.in-Some.is c.in_ok-mark.ensures.note) w.follow.new.self w.follow.ensures.took
          (w.follow.ensures.scripted c.requires))
      | in_default w ↦
          subst (λ s. StandsBehind (own_list first) c.args.other s) (sym w.other-is)
          (behind_nothing first c.args.other c.requires (subst (λ m. IfNone m (own_list first ≡ [])) w.in_default.is c.in_ok-mark.ensures.none))
    ]
