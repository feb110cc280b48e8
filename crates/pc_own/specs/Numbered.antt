-- Transactions by number.
use Rattle.std.specs.Prelude.{◌≡◌, ◌+◌, List, [], ◌∷◌, length, ⊤}
use Rattle.pc_world.specs.Known.Transactions.{Txn}

-- The transactions, the last one begun standing first, are numbered by their begins from 1.
abbrev pub AreBegunInOrder : List Txn → Type 0
AreBegunInOrder [] = ⊤
AreBegunInOrder (t ∷ txns) = (t.id.number ≡ length txns + 1) × AreBegunInOrder txns
