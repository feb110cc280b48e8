-- In which order the conflicts of a call have their rounds, where writes are pipelined: those of writes by sequence, those of a scan's pieces in
-- key order. Own profile.
use Rattle.std.specs.Prelude.{ℕ, nat_lt, Bool, false, ◌||◌, cond, List, [], ◌∷◌}
use Rattle.std.specs.Ordering.{is_lt}
use Rattle.pc_base.specs.SpanOrder.{span_cmp}
use Rattle.pc_proto.specs.declared.request.Request.{Request}
use Rattle.pc_proto.specs.declared.request.Request.TheVariants as requests
use Rattle.pc_world.specs.Known.Traffic.{Heard}

-- The two put writes, the first of a lower sequence.
abbrev pub is_lower_put : Request → Request → Bool
is_lower_put (requests.Put meta seq ts key value) (requests.Put other later at place what) = nat_lt seq later
is_lower_put _ _ = false

-- The two scan pieces, the first of lower keys.
abbrev pub is_earlier_piece : Request → Request → Bool
is_earlier_piece (requests.Scan id epoch seq ts span) (requests.Scan other at_epoch at_seq at later) = is_lt (span_cmp span later)
is_earlier_piece _ _ = false

-- A conflict of the one request has its round before one of the other.
abbrev pub goes_first : Request → Request → Bool
goes_first one other = is_lower_put one other || is_earlier_piece one other

-- The conflicts that wait, with one more at its place among them.
abbrev pub with_waiting : Heard → List Heard → List Heard
with_waiting h [] = h ∷ []
with_waiting h (w ∷ ws) = cond (goes_first h.request w.request) (h ∷ w ∷ ws) (w ∷ with_waiting h ws)
