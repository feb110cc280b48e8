-- Which rule a statement breaks.
use Rattle.std.specs.Prelude.{ℕ, ◌||◌, Bool, [], ◌∷◌, Option, Some, None, codes, is_some, option_and_then, if◌then◌else◌}
use Rattle.serde_json.specs.Data.{Data}
use Rattle.serde_json.specs.Find.{as_i64, as_number}
use Rattle.pc_work.specs.Amount.{amount_of}
use Rattle.pc_work.specs.Lists.{pair_of}
use Rattle.pc_work.specs.Members.{has_only, whole_of}
use Rattle.pc_work.specs.Refusal.{in_member, judged, least}
use Rattle.pc_work.specs.RefusedTexts.{key_refusal, span_refusal, value_refusal}
use Rattle.pc_work.specs.declared.refusal.TheConstants.{OTHER_FORM, WRONG_NUMBER}

-- A whole number of 64 bits, with or without a sign.
abbrev pub is_integer : Data → Bool
is_integer value = is_some (whole_of value) || is_some (option_and_then as_i64 (as_number value))

-- An amount: a whole number within its limits.
abbrev pub amount_refusal : Data → Option ℕ
amount_refusal value = if is_some (amount_of value) then None else (if is_integer value then Some WRONG_NUMBER else Some OTHER_FORM)

-- What a put states: a key and a value.
abbrev pub put_refusal : Data → Option ℕ
put_refusal value = judged (λ both. least (key_refusal both.0) (value_refusal both.1)) (pair_of value)

-- What an add states: a key and an amount.
abbrev pub add_refusal : Data → Option ℕ
add_refusal value = judged (λ both. least (key_refusal both.0) (amount_refusal both.1)) (pair_of value)

-- A statement: an object with exactly one member, which is named by what the statement does.
unfoldable pub statement_refusal : Data → Option ℕ
statement_refusal value =
    if has_only (codes "get" ∷ []) value then in_member key_refusal (codes "get") value
    else (if has_only (codes "scan" ∷ []) value then in_member span_refusal (codes "scan") value
    else (if has_only (codes "put" ∷ []) value then in_member put_refusal (codes "put") value
    else (if has_only (codes "delete" ∷ []) value then in_member key_refusal (codes "delete") value
    else (if has_only (codes "add" ∷ []) value then in_member add_refusal (codes "add") value
    else Some OTHER_FORM))))
