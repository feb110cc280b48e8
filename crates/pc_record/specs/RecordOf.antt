-- Records as a request takes them out of a place and puts them there.
use Rattle.std.specs.Prelude.{Option, None, Some}
use Rattle.pc_proto.specs.declared.record.Record.{Record}
use Rattle.pc_proto.specs.Place.{Place, Nothing, Kept, Marked, Change, Stay, Become}

-- The change that writes a record, where there is one to write.
abbrev pub becoming : Option Record → Change
becoming None = Stay
becoming (Some r) = Become r

-- The record that stands at a place.
abbrev pub record_of : Place → Option Record
record_of (Kept r) = Some r
record_of Nothing = None
record_of (Marked s) = None
