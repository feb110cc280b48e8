-- How what is kept of a session or recoverer stands to what it knows.
use Rattle.std.specs.Prelude.{◌≡◌}
use Rattle.pc_allow.specs.declared.allow.Allow.{Allow}
use Rattle.pc_base.specs.declared.actor.ActorId.{ActorId}
use Rattle.pc_knowledge.specs.Keeping.{KeepsKnowledge}
use Rattle.pc_world.specs.Known.{Known}
use Rattle.pc_world.specs.Local.{Head}

-- It is of this actor, over ranges with these splits, and keeps what the actor knows.
pub record KeepsAllow (head : Head) (actor : ActorId) (k : Known) (x : Allow) : Type 0 where
  pub whose : x.actor ≡ actor
  pub cut : head.splits ≡ x.splits.now
  pub known : KeepsKnowledge k x.known
