-- A statement of a transaction: a get, a scan, a put, a delete or an add.
use Rattle.std.specs.Prelude.{[], ◌∷◌, Option, Some, None, codes, if◌then◌else◌}
use Rattle.serde_json.specs.Data.{Data}
use Rattle.serde_json.specs.Find.{get}
use Rattle.pc_work.specs.Amount.{amount_of}
use Rattle.pc_work.specs.Reading.{◌>>=◌}
use Rattle.pc_work.specs.Members.{has_only}
use Rattle.pc_work.specs.Lists.{pair_of}
use Rattle.pc_work.specs.Texts.{key_of, value_of}
use Rattle.pc_work.specs.Span.{span_of}
use Rattle.pc_work.specs.declared.statement.Statement.{Statement}
use Rattle.pc_work.specs.declared.statement.Statement.TheVariants.{Get, Scan, Put, Delete, Add}

-- A get: its key.
abbrev pub get_statement : Data → Option Statement
get_statement value = key_of value >>= λ key. Some (Get key)

-- A scan: its span.
abbrev pub scan_statement : Data → Option Statement
scan_statement value = span_of value >>= λ span. Some (Scan span)

-- A put: a list of its key and its value.
unfoldable pub put_statement : Data → Option Statement
put_statement value = do
  both ← pair_of value
  key ← key_of both.0
  written ← value_of both.1
  Some (Put key written)

-- A delete: its key.
abbrev pub delete_statement : Data → Option Statement
delete_statement value = key_of value >>= λ key. Some (Delete key)

-- An add: a list of its key and the amount.
unfoldable pub add_statement : Data → Option Statement
add_statement value = do
  both ← pair_of value
  key ← key_of both.0
  amount ← amount_of both.1
  Some (Add key amount)

-- The statement that a value states: an object with exactly one member, which is named by what the statement does.
unfoldable pub statement_of : Data → Option Statement
statement_of value =
    if has_only (codes "get" ∷ []) value then (get (codes "get") value >>= get_statement)
    else (if has_only (codes "scan" ∷ []) value then (get (codes "scan") value >>= scan_statement)
    else (if has_only (codes "put" ∷ []) value then (get (codes "put") value >>= put_statement)
    else (if has_only (codes "delete" ∷ []) value then (get (codes "delete") value >>= delete_statement)
    else (if has_only (codes "add" ∷ []) value then (get (codes "add") value >>= add_statement)
    else None))))
