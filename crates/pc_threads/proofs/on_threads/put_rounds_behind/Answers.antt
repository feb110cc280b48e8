use Rattle.std.proofs.Common.{◌≡◌, ◌-◌, [], length, IfNone, IfSome, sym, subst}
use Rattle.pc_history.specs.Parts.{noted}
use Rattle.pc_scripted.specs.Scripted.{own_list}
use Rattle.pc_threads.proofs.RoundsBehind.{waits_for_mark, waits_for_nothing}
use Rattle.pc_threads.specs.RoundLanes.{WaitsBehind}
use Rattle.pc_threads.proofs.on_threads.put_rounds_behind.Goals as goal
use Rattle.pc_threads.proofs.on_threads.put_rounds_behind.Goals.{in-Some, in_default}

pub returns-clause-behind : goal.returns-clause-behind
returns-clause-behind g c =
    let first = c.args.first.now in
    elim c.match-branch-2.branch [
      | in-Some w ↦
          subst (λ s. WaitsBehind (own_list first) c.args.recoverer s) (sym w.recoverer-is)
          (waits_for_mark first c.args.recoverer w.in-Some.mark.known (subst (λ m. IfSome m (λ n. n.known ≡ noted (length (own_list first) - 1) 0 first.session.desk.log.part)) w.in-Some.is c.in_ok-mark.ensures.note) w.follow.new.self w.follow.ensures.took
          (w.follow.ensures.counted c.requires))
      | in_default w ↦
          subst (λ s. WaitsBehind (own_list first) c.args.recoverer s) (sym w.recoverer-is)
          (waits_for_nothing first c.args.recoverer c.requires (subst (λ m. IfNone m (own_list first ≡ [])) w.in_default.is c.in_ok-mark.ensures.none))
    ]
