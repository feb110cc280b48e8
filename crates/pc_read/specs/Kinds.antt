-- Kinds of requests as they stand in the input.
use Rattle.std.specs.Prelude.{Bool, true, false}
use Rattle.pc_read.specs.declared.request.RequestRef.{RequestRef}
use Rattle.pc_read.specs.declared.request.RequestRef.TheVariants as request_refs

-- The request reads, or reads again.
abbrev pub is_read_ref : RequestRef → Bool
is_read_ref (request_refs.Get id epoch seq ts key) = true
is_read_ref (request_refs.Scan id epoch seq ts span) = true
is_read_ref (request_refs.Refresh id from to span) = true
is_read_ref _ = false

-- The request pushes, queries or recovers the holder of an intent.
abbrev pub is_holder_ref : RequestRef → Bool
is_holder_ref (request_refs.Push holder by level now goal) = true
is_holder_ref (request_refs.Query id epoch seq ts key by) = true
is_holder_ref (request_refs.Recover id epoch ts anchor finding) = true
is_holder_ref _ = false

-- The request speaks of the record of the session's own transaction, or removes one.
abbrev pub is_record_ref : RequestRef → Bool
is_record_ref (request_refs.Beat meta ts now) = true
is_record_ref (request_refs.Stage meta ts now writes locks) = true
is_record_ref (request_refs.Commit meta ts locks) = true
is_record_ref (request_refs.Abort meta why locks) = true
is_record_ref (request_refs.Remove id anchor) = true
is_record_ref _ = false
