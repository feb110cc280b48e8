-- How the replies that are kept stand to what the actor knows.
use Rattle.std.specs.Prelude.{◌≡◌, ◌≤◌, drop, length}
use Rattle.pc_known.specs.declared.heards.Heards.{Heards}
use Rattle.pc_world.specs.Known.{Known}

-- The replies are those that the actor heard, and it is known which were heard since its last call was asked.
pub record KeepsHeards (k : Known) (x : Heards) : Type 0 where
  pub replies : x.replies.items ≡ k.heard
  pub before : x.before ≤ length k.heard
  pub now : drop x.before k.heard ≡ k.heard_now
