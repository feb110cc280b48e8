-- When a write of a transaction may be sent again.
use Rattle.std.specs.Prelude.{◌≡◌, ℕ, ◌⊎◌, Option, List, Any, Contains, IsTrue, not}
use Rattle.pc_world.specs.Known.Transactions.{Txn}
use Rattle.pc_world.specs.Known.Writes.{Write, is_proved}

-- The put sends this write of the transaction once more, and it is not proved.
pub record IsSentAgain (t : Txn) (seq ts : ℕ) (key : List ℕ) (value : Option (List ℕ)) (w : Write) : Type 0 where
  pub unproved : IsTrue (not (is_proved w))
  pub same_sequence : seq ≡ w.seq
  pub same_place : key ≡ w.key
  pub same_value : value ≡ w.value
  pub again_at : (ts ≡ t.write_ts) ⊎ Contains w.asked ts

-- The put sends a write of the transaction's epoch once more.
abbrev pub IsAnySentAgain : Txn → ℕ → ℕ → List ℕ → Option (List ℕ) → Type 0
IsAnySentAgain t seq ts key value = Any (IsSentAgain t seq ts key value) t.writes
