-- What the parts of a workload are together: how many turns and statements there are, and whether each that is named is there.
use Rattle.std.specs.Prelude.{ℕ, Bool, true, ◌&&◌, List, [], ◌∷◌, length, sum_by, nat_le, Option, Some, None, is_some}
use Rattle.std.specs.List.{list_all}
use Rattle.pc_base.specs.declared.limits.TheConstants.{MOST_STATEMENTS, MOST_TURNS}
use Rattle.pc_work.specs.Count.{session_count}
use Rattle.pc_work.specs.Refusal.{least, unless}
use Rattle.pc_work.specs.Turn.{is_turn_there}
use Rattle.pc_work.specs.declared.item.Item.{Item}
use Rattle.pc_work.specs.declared.item.Item.TheVariants.{Learn, Txn}
use Rattle.pc_work.specs.declared.refusal.TheConstants.{MANY_STATEMENTS, NOBODY_THERE, WRONG_NUMBER}
use Rattle.pc_work.specs.declared.session.SessionWork.{SessionWork}
use Rattle.pc_work.specs.declared.stated.Stated.{Stated}
use Rattle.pc_work.specs.declared.turn.Turn.{Turn}

-- How many items the first session has.
abbrev pub first_items : List SessionWork → ℕ
first_items [] = 0
first_items (first ∷ others) = length first.script

-- No more turns than the limit, if they are stated.
abbrev pub are_few_turns : Option (List Turn) → Bool
are_few_turns None = true
are_few_turns (Some turns) = nat_le (length turns) MOST_TURNS

-- No more items run ahead than the first session has, and no more turns are stated than the limit.
abbrev pub are_numbers_right : Stated → Bool
are_numbers_right stated = nat_le stated.opening (first_items stated.sessions) && are_few_turns stated.turns

-- No more statements than the limit.
abbrev pub are_few_statements : Stated → Bool
are_few_statements stated = nat_le (sum_by session_count stated.sessions) MOST_STATEMENTS

-- Where turns are stated, each is that of one that is there, among so many sessions and recoverers.
abbrev pub are_turns_there : ℕ → ℕ → Option (List Turn) → Bool
are_turns_there sessions recoverers None = true
are_turns_there sessions recoverers (Some turns) = list_all (is_turn_there sessions recoverers) turns

-- A learn stands in stated turns alone, and names one of so many sessions.
abbrev pub is_item_there : ℕ → Option (List Turn) → Item → Bool
is_item_there sessions turns (Learn id) = is_some turns && (nat_le 1 id.session && nat_le id.session sessions)
is_item_there sessions turns (Txn priority statements commits) = true

-- Among so many sessions, each learn of this one may stand there.
abbrev pub is_script_there : ℕ → Option (List Turn) → SessionWork → Bool
is_script_there sessions turns session = list_all (is_item_there sessions turns) session.script

-- Each that a turn or a learn names is there, and a learn stands in stated turns alone.
abbrev pub are_all_there : Stated → Bool
are_all_there stated =
    are_turns_there (length stated.sessions) (length stated.recoverers) stated.turns
    && list_all (is_script_there (length stated.sessions) stated.turns) stated.sessions

-- Which rule the parts break together.
abbrev pub together_refusal : Stated → Option ℕ
together_refusal stated =
    least (unless (are_numbers_right stated) WRONG_NUMBER) (least (unless (are_few_statements stated) MANY_STATEMENTS) (unless (are_all_there stated) NOBODY_THERE))
