-- How a transaction ends: the text `commit` or `rollback`.
use Rattle.std.specs.Prelude.{ℕ, Bool, true, false, List, Option, Some, None, codes, if◌then◌else◌}
use Rattle.std.specs.Str.{bytes_eq}
use Rattle.serde_json.specs.Data.{Data}
use Rattle.serde_json.specs.Find.{as_str}
use Rattle.pc_work.specs.Reading.{◌>>=◌}

-- Whether the text says that the transaction commits.
unfoldable pub commits_in : List ℕ → Option Bool
commits_in text =
    if bytes_eq text (codes "commit") then Some true
    else (if bytes_eq text (codes "rollback") then Some false else None)

-- Whether the value says that the transaction commits.
abbrev pub commits_of : Data → Option Bool
commits_of value = as_str value >>= commits_in
