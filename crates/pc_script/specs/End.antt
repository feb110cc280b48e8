-- End: a session's list ends at the end of its script.
use Rattle.std.specs.Prelude.{◌≡◌, None, List}
use Rattle.pc_history.specs.declared.pair.Pair.{Pair}
use Rattle.pc_proto.specs.declared.event.Event.{Event}
use Rattle.pc_world.specs.Known.{known_of}
use Rattle.pc_script.specs.Script.{Position, next_call}

-- No call is next, and none is open.
pub record IsScriptEnd (at : Position) (own : List (Pair Event)) : Type 0 where
  pub no_next : next_call at ≡ None
  pub none_open : (known_of own).statement ≡ None
