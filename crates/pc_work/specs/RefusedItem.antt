-- Which rule an item of a script breaks.
use Rattle.std.specs.Prelude.{ℕ, [], ◌∷◌, Option, Some, codes, is_some, if◌then◌else◌}
use Rattle.serde_json.specs.Data.{Data}
use Rattle.pc_work.specs.Ending.{commits_of}
use Rattle.pc_work.specs.Item.{item_names}
use Rattle.pc_work.specs.Members.{has_only}
use Rattle.pc_work.specs.Priority.{priority_of}
use Rattle.pc_work.specs.Refusal.{in_list, in_member, in_stated, least, unless}
use Rattle.pc_work.specs.RefusedStatement.{statement_refusal}
use Rattle.pc_work.specs.RefusedTexts.{learn_refusal}
use Rattle.pc_work.specs.declared.refusal.TheConstants.{OTHER_FORM}

-- A priority: one of three texts.
abbrev pub priority_refusal : Data → Option ℕ
priority_refusal value = unless (is_some (priority_of value)) OTHER_FORM

-- The end of a transaction: one of two texts.
abbrev pub ending_refusal : Data → Option ℕ
ending_refusal value = unless (is_some (commits_of value)) OTHER_FORM

-- A transaction: its statements, and its priority and end where they are stated.
unfoldable pub txn_refusal : Data → Option ℕ
txn_refusal value = if has_only item_names value
    then least (in_member (in_list statement_refusal) (codes "do") value) (least (in_stated priority_refusal (codes "priority") value) (in_stated ending_refusal (codes "end") value))
    else Some OTHER_FORM

-- An item: a learn, where its one member is so named, else a transaction.
unfoldable pub item_refusal : Data → Option ℕ
item_refusal value = if has_only (codes "learn" ∷ []) value then in_member learn_refusal (codes "learn") value else txn_refusal value
