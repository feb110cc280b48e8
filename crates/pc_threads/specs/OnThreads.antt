-- What the sessions and recoverers of a workload have made once they have gone on threads. Own profile.
use Rattle.std.specs.Prelude.{◌≡◌, ℕ, ◌+◌, ◌≤◌, Bool, Some, List, [], length, slice_get, All}
use Rattle.pc_base.specs.declared.actor.ActorId.TheVariants as actors
use Rattle.pc_history.specs.declared.pair.Pair.{Pair}
use Rattle.pc_proto.specs.declared.event.Event.{Event}
use Rattle.pc_rounds.specs.Counted.{CountedMeaning}
use Rattle.pc_runs.specs.Order.{ended_in_work, is_work_opened, next_in_work}
use Rattle.pc_runs.specs.Together.{ClientsMeaning, ClientsSayHeldUp}
use Rattle.pc_scripted.specs.Scripted.{ScriptedMeaning, own_list}
use Rattle.pc_turns.specs.Clients.{Continues, RisesFrom}
use Rattle.pc_turns.specs.Order.{GoesByItself, is_at_end}
use Rattle.pc_work.specs.declared.workload.Workload.{Workload}
use Rattle.pc_world.specs.Known.Traffic.{Sent}
use Rattle.pc_base.specs.declared.actor.ActorId.{ActorId}

-- The first session made the opening by itself; each session and each recoverer begins with its share of that, and goes on after all of it; and
-- each session by itself went to the end of its script, whichever messages are held up beside those that the clients know to be refused.
pub record HaveGoneOnThreads {C : Type 0} (work : Workload) (clients : ClientsMeaning C) : Type 0 where
  pub some : 1 ≤ length clients.sessions
  pub opening : List (Pair Event)
  pub rises : RisesFrom 0 opening
  pub only : All (λ p. p.entry.actor ≡ actors.Session 1) opening
  pub opens : (held : ActorId → Sent → Bool) → ClientsSayHeldUp held clients → GoesByItself (next_in_work work) (ended_in_work work held) 1 (is_work_opened work) [] opening
  pub begin : (index : ℕ) (s : ScriptedMeaning C) → slice_get clients.sessions index ≡ Some s → Continues opening s.session.desk.log.part
  pub recover : (index : ℕ) (r : CountedMeaning C) → slice_get clients.recoverers index ≡ Some r → Continues opening r.recoverer.desk.log.part
  pub alone :
      (held : ActorId → Sent → Bool) → ClientsSayHeldUp held clients → (index : ℕ) (s : ScriptedMeaning C) → slice_get clients.sessions index ≡ Some s
      → GoesByItself (next_in_work work) (ended_in_work work held) (index + 1) (is_at_end (next_in_work work) (index + 1)) [] (own_list s)
