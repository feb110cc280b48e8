-- When two messages are of one request: they are equal, or they are puts of one transaction, epoch and sequence.
use Rattle.std.specs.Prelude.{◌≡◌, ◌⊎◌}
use Rattle.pc_proto.specs.declared.request.Request.{Request}
use Rattle.pc_proto.specs.declared.request.Request.TheVariants as requests
use Rattle.pc_world.specs.Known.Traffic.{Sent}

-- The two are puts of one write.
abbrev pub IsSamePut : Request → Request → Type 0
IsSamePut (requests.Put meta seq ts key value) (requests.Put other other_seq other_ts other_key other_value) =
    (meta.id ≡ other.id) × (meta.epoch ≡ other.epoch) × (seq ≡ other_seq)
IsSamePut _ _ = ⊥

-- The two are equal, or puts of one write.
abbrev pub IsSameRequest : Request → Request → Type 0
IsSameRequest one other = (one ≡ other) ⊎ IsSamePut one other

-- Two messages are of one request: also their ranges are equal.
pub record IsSameMessage (one other : Sent) : Type 0 where
  pub range : one.range ≡ other.range
  pub request : IsSameRequest one.request other.request
