-- What may become of the messages of a wave.
use Rattle.std.specs.Prelude.{Bool, false}

-- Whether messages may be lost, so that they are sent again; and whether writes are pipelined, so that puts which were in flight when the call was
-- asked may join a wave.
pub record Course : Type 0 where
  pub loses : Bool
  pub pipelines : Bool

-- Nothing is lost, and no writes are pipelined.
abbrev pub plain_course : Course
plain_course = record { loses = false; pipelines = false }
