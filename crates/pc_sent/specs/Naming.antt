-- The names under which messages are kept. Own profile.
use Rattle.std.specs.Prelude.{ℕ}
use Rattle.pc_base.specs.declared.actor.ActorId.{ActorId}
use Rattle.pc_base.specs.declared.actor.ActorId.TheVariants as actors
use Rattle.pc_sent.specs.declared.sent.MessageName.{MessageName}

-- The name of an actor's message of this number.
abbrev pub message_name : ActorId → ℕ → MessageName
message_name (actors.Range range) number = record { kind = 0; actor = range; number = number }
message_name (actors.Session session) number = record { kind = 1; actor = session; number = number }
message_name (actors.Recoverer recoverer) number = record { kind = 2; actor = recoverer; number = number }
