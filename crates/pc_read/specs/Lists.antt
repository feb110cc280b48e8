-- The list that a slice spells. Own profile.
use Rattle.std.specs.Prelude.{ℕ, List, Option}
use Rattle.std.specs.Borrow.{Bor}
use Rattle.pc_proto.specs.declared.meta.TxnMeta.{TxnMeta}
use Rattle.pc_proto.specs.declared.reply.Origin.{Origin}
use Rattle.pc_spelling.specs.Cutting.{list_at}
use Rattle.pc_spelling.specs.Reading.{keys_at, meta_at, row_at, told_row_at, writes_at}

abbrev pub own_keys : Bor (List ℕ) → Option (List (List ℕ))
own_keys slice = keys_at slice.now

abbrev pub own_writes : Bor (List ℕ) → Option (List (List ℕ × ℕ))
own_writes slice = writes_at slice.now

abbrev pub own_metas : Bor (List ℕ) → Option (List TxnMeta)
own_metas slice = list_at meta_at slice.now

abbrev pub own_rows : Bor (List ℕ) → Option (List (List ℕ × Origin × List ℕ))
own_rows slice = list_at row_at slice.now

-- The rows that a client is told.
abbrev pub own_told_rows : Bor (List ℕ) → Option (List (List ℕ × Origin × List ℕ))
own_told_rows slice = list_at told_row_at slice.now
