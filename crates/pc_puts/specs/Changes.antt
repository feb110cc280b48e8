-- What puts come to: the last of each key, and a map after them.
use Rattle.std.specs.Prelude.{ℕ, Option, List, map}
use Rattle.std.specs.Cmp.Lexicographic.{slice_cmp}
use Rattle.std.specs.Ordering.{nat_cmp}
use Rattle.pc_base.specs.Keyed.{in_order}
use Rattle.pc_puts.specs.declared.puts.Put.{Put}
use Rattle.pc_world.specs.MapRun.{Map, with_value}

-- What a put says of its key.
abbrev pub said_by : Put → List ℕ × Option (List ℕ)
said_by put = (put.key, put.value)

-- The last write of each key, in key order.
abbrev pub last_puts : List Put → List (List ℕ × Option (List ℕ))
last_puts puts = in_order (slice_cmp nat_cmp) (map said_by puts)

-- The map after a put.
abbrev pub map_with_put : Map → Put → Map
map_with_put m put = with_value put.key put.value m
