-- An object with exactly one member, and what a statement states by the name of its only member.
use Rattle.std.specs.Prelude.{◌≡◌, ℕ, true, List, [], ◌∷◌, Option, Some, None, codes, if◌then◌else◌}
use Rattle.std.specs.Str.{bytes_eq}
use Rattle.serde_json.specs.Data.{Data, object, no_members, member}
use Rattle.serde_json.specs.Find.{get}
use Rattle.pc_work.specs.Members.{has_only}
use Rattle.pc_work.specs.RefusedStatement.{add_refusal, put_refusal}
use Rattle.pc_work.specs.RefusedTexts.{key_refusal, span_refusal}
use Rattle.pc_work.specs.Statement.{add_statement, delete_statement, get_statement, put_statement, scan_statement}
use Rattle.pc_work.specs.declared.refusal.TheConstants.{OTHER_FORM}
use Rattle.pc_work.specs.declared.statement.Statement.{Statement}

-- The object whose only member has this name and this value.
abbrev pub sole : List ℕ → Data → Data
sole name value = object (member name value no_members)

-- No member is the only one: where each member has some name, none has it.
abbrev pub HasNoSole : Data → Type 0
HasNoSole value = (name : List ℕ) → has_only (name ∷ []) value ≡ true → get name value ≡ None

-- The statement that the only member states, by its name and its value.
unfoldable pub statement_named : List ℕ → Data → Option Statement
statement_named name value =
    if bytes_eq name (codes "get") then get_statement value
    else (if bytes_eq name (codes "scan") then scan_statement value
    else (if bytes_eq name (codes "put") then put_statement value
    else (if bytes_eq name (codes "delete") then delete_statement value
    else (if bytes_eq name (codes "add") then add_statement value
    else None))))

-- Which rule it breaks, by its name and its value.
unfoldable pub refusal_named : List ℕ → Data → Option ℕ
refusal_named name value =
    if bytes_eq name (codes "get") then key_refusal value
    else (if bytes_eq name (codes "scan") then span_refusal value
    else (if bytes_eq name (codes "put") then put_refusal value
    else (if bytes_eq name (codes "delete") then key_refusal value
    else (if bytes_eq name (codes "add") then add_refusal value
    else Some OTHER_FORM))))
