-- Early proof: a commit hears the reply to a put only beside a stage of its own that lists the write, and that was not refused; so writes in
-- flight are proved beside the staging, not before it. RFC 20180324.
use Rattle.std.specs.Prelude.{◌≡◌, Option, None, Some, ⊤}
use Rattle.pc_follows.specs.OwnStages.{IsPutStaged}
use Rattle.pc_proto.specs.declared.call.Call.TheVariants as calls
use Rattle.pc_world.specs.Known.{Known, call_of}
use Rattle.pc_world.specs.Known.Traffic.{Heard}

-- In a commit a reply that is heard is to no put, or to one of a write that is staged in the call.
abbrev pub ProvesNothingEarly : Known → Option Heard → Type 0
ProvesNothingEarly k None = ⊤
ProvesNothingEarly k (Some h) = call_of k ≡ Some calls.Commit → IsPutStaged k h.request
