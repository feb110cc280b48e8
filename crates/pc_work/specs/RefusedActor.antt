-- Which rule a session or a recoverer breaks, in its own members.
use Rattle.std.specs.Prelude.{ℕ, Option, Some, codes, is_some, if◌then◌else◌}
use Rattle.serde_json.specs.Data.{Data}
use Rattle.pc_base.specs.declared.limits.TheConstants.{MOST_ENTRIES, MOST_ROUNDS}
use Rattle.pc_work.specs.Clock.{clock_of}
use Rattle.pc_work.specs.Members.{has_only}
use Rattle.pc_work.specs.Recoverer.{recoverer_names}
use Rattle.pc_work.specs.Refusal.{in_list, in_member, in_stated, least, number_refusal, unless}
use Rattle.pc_work.specs.RefusedItem.{item_refusal, priority_refusal}
use Rattle.pc_work.specs.RefusedWire.{wire_refusal}
use Rattle.pc_work.specs.Session.{session_names}
use Rattle.pc_work.specs.declared.refusal.TheConstants.{OTHER_FORM}

-- A clock: its start and its step.
abbrev pub clock_refusal : Data → Option ℕ
clock_refusal value = unless (is_some (clock_of value)) OTHER_FORM

-- A session: its script, and its clock, stop and wire where they are stated.
unfoldable pub session_refusal : Data → Option ℕ
session_refusal value = if has_only session_names value
    then least (in_stated clock_refusal (codes "clock") value) (least (in_stated (number_refusal 1 MOST_ENTRIES) (codes "stop") value)
    (least (in_stated wire_refusal (codes "wire") value) (in_member (in_list item_refusal) (codes "script") value)))
    else Some OTHER_FORM

-- A recoverer: its clock, level, rounds, stop and wire, where they are stated.
unfoldable pub recoverer_refusal : Data → Option ℕ
recoverer_refusal value = if has_only recoverer_names value
    then least (in_stated clock_refusal (codes "clock") value) (least (in_stated priority_refusal (codes "level") value)
    (least (in_stated (number_refusal 0 MOST_ROUNDS) (codes "rounds") value) (least (in_stated wire_refusal (codes "wire") value)
    (in_stated (number_refusal 1 MOST_ENTRIES) (codes "stop") value))))
    else Some OTHER_FORM
