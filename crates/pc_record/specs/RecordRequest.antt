-- Which requests speak of transaction records alone.
use Rattle.std.specs.Prelude.{Bool, true, false}
use Rattle.pc_proto.specs.declared.request.Request.{Request}
use Rattle.pc_proto.specs.declared.request.Request.TheVariants as requests

-- A request that a range answers by its records, whatever its keys hold.
abbrev pub is_record_request : Request → Bool
is_record_request (requests.Beat meta ts now) = true
is_record_request (requests.Stage meta ts now writes locks) = true
is_record_request (requests.Commit meta ts locks) = true
is_record_request (requests.Abort meta why locks) = true
is_record_request (requests.Push holder by level now goal) = true
is_record_request (requests.Recover id epoch ts anchor finding) = true
is_record_request (requests.Remove id anchor) = true
is_record_request requests.Records = true
is_record_request _ = false
