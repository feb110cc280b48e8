-- Which messages say whether a write that a query asks about was staged.
use Rattle.std.specs.Prelude.{List, []}
use Rattle.pc_files.specs.Filing.{deciding_of}
use Rattle.pc_proto.specs.declared.request.Request.{Request}
use Rattle.pc_proto.specs.declared.request.Request.TheVariants as requests
use Rattle.pc_world.specs.Known.Traffic.{Sent}

-- The stages and commits of the transaction that a query asks about, if the request is one.
abbrev pub deciding_asked : Request → List Sent → List Sent
deciding_asked (requests.Query id epoch seq ts key by) sent = deciding_of id sent
deciding_asked _ sent = []
