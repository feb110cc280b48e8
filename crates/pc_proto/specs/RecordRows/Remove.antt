-- Remove: a final record becomes a mark, which keeps its status for good. Own profile (a tombstone of the record).
use Rattle.std.specs.Prelude.{if◌then◌else◌}
use Rattle.pc_proto.specs.Place.{Place, Nothing, Kept, Marked, Change, Stay, Finish, is_final}

-- What a removal does to the transaction's place.
abbrev pub remove : Place → Change
remove (Kept r) = if is_final r.status.standing then Finish r.status else Stay
remove Nothing = Stay
remove (Marked s) = Stay
