-- A learn: the commit of a transaction that it asks for, as a text: the number of its session, a point, and its number there.
use Rattle.std.specs.Prelude.{ℕ, ◌-◌, ◌^◌, ◌&&◌, ◌==◌, nat_le, List, Option, Some, None, if◌then◌else◌}
use Rattle.std.specs.List.{after_first, before_first}
use Rattle.std.specs.Str.Parse.{digits_value}
use Rattle.serde_json.specs.Data.{Data}
use Rattle.serde_json.specs.Find.{as_str}
use Rattle.pc_base.specs.declared.transaction.TxnId.{TxnId}
use Rattle.pc_work.specs.Number.{is_number}
use Rattle.pc_work.specs.Reading.{◌>>=◌}
use Rattle.pc_work.specs.declared.item.Item.{Item}
use Rattle.pc_work.specs.declared.item.Item.TheVariants.{Learn}

-- The number that a text spells, where it is from 1 and of 32 bits.
unfoldable pub positive_in : List ℕ → Option ℕ
positive_in text =
    if is_number text && nat_le 1 (digits_value 10 text) && nat_le (digits_value 10 text) (2 ^ 32 - 1) then Some (digits_value 10 text) else None

-- The transaction that a text names; 46 is the point.
unfoldable pub learnt_in : List ℕ → Option TxnId
learnt_in text = do
  session ← positive_in (before_first (λ byte. byte == 46) text)
  number ← positive_in (after_first (λ byte. byte == 46) text)
  Some (record { session = session; number = number })

-- The learn that a value states.
unfoldable pub learn_item : Data → Option Item
learn_item value = do
  text ← as_str value
  id ← learnt_in text
  Some (Learn id)
