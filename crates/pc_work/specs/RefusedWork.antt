-- Which rule a workload breaks in its parts, each of which is judged by itself.
use Rattle.std.specs.Prelude.{ℕ, Bool, false, ◌==◌, Option, Some, None, codes, is_some, if◌then◌else◌}
use Rattle.serde_json.specs.Data.{Data}
use Rattle.serde_json.specs.Find.{as_bool, as_str}
use Rattle.pc_base.specs.declared.limits.TheConstants.{LEAST_ENTRIES, MOST_ENTRIES, MOST_RECOVERERS, MOST_RERUNS, MOST_SESSIONS}
use Rattle.pc_work.specs.Members.{has_only, whole_in, whole_of}
use Rattle.pc_work.specs.Refusal.{in_counted, in_list, in_member, in_stated, least, number_refusal, unless}
use Rattle.pc_work.specs.RefusedActor.{recoverer_refusal, session_refusal}
use Rattle.pc_work.specs.Splits.{splits_of}
use Rattle.pc_work.specs.Stated.{workload_names}
use Rattle.pc_work.specs.Turn.{turn_of}
use Rattle.pc_work.specs.declared.limits.TheConstants.{MOST_TRIES}
use Rattle.pc_work.specs.declared.refusal.TheConstants.{NO_WORKLOAD, OTHER_FORM, WRONG_SPLITS}

-- The number is 1.
abbrev pub is_one : Option ℕ → Bool
is_one None = false
is_one (Some number) = number == 1

-- The value is an object whose version is the number 1.
abbrev pub version_refusal : Data → Option ℕ
version_refusal value = unless (is_one (whole_in (codes "version") value)) NO_WORKLOAD

-- A truth value.
abbrev pub flag_refusal : Data → Option ℕ
flag_refusal value = unless (is_some (as_bool value)) OTHER_FORM

-- A text.
abbrev pub text_refusal : Data → Option ℕ
text_refusal value = unless (is_some (as_str value)) OTHER_FORM

-- A whole number, whose limits are judged elsewhere.
abbrev pub whole_refusal : Data → Option ℕ
whole_refusal value = unless (is_some (whole_of value)) OTHER_FORM

-- Whose turn it is, there or not.
abbrev pub turn_refusal : Data → Option ℕ
turn_refusal value = unless (is_some (turn_of value)) OTHER_FORM

-- The splits: a list of texts, which are keys that rise and no more than the limit.
abbrev pub splits_refusal : Data → Option ℕ
splits_refusal value = least (in_list text_refusal value) (unless (is_some (splits_of value)) WRONG_SPLITS)

-- The members of a workload but for its version, each judged by itself.
unfoldable pub members_refusal : Data → Option ℕ
members_refusal value = if has_only workload_names value
    then least (in_stated flag_refusal (codes "pipelining") value) (least (in_stated splits_refusal (codes "splits") value)
    (least (in_stated (number_refusal LEAST_ENTRIES MOST_ENTRIES) (codes "limit") value) (least (in_stated (number_refusal 1 MOST_TRIES) (codes "tries") value)
    (least (in_stated (number_refusal 0 MOST_RERUNS) (codes "reruns") value) (least (in_stated whole_refusal (codes "opening") value)
    (least (in_stated (in_list turn_refusal) (codes "turns") value) (least (in_stated (in_counted 0 MOST_RECOVERERS recoverer_refusal) (codes "recoverers") value)
    (in_member (in_counted 1 MOST_SESSIONS session_refusal) (codes "sessions") value))))))))
    else Some OTHER_FORM

-- All that is judged part by part.
abbrev pub parts_refusal : Data → Option ℕ
parts_refusal value = least (version_refusal value) (members_refusal value)
