-- How many items the first session has, against the count of all statements.
use Rattle.std.proofs.Common.{◌≡◌, ◌+◌, ◌^◌, ◌≤◌, ◌<◌, nat_le, None, List, [], ◌∷◌, length, sum_by, arith}
use Rattle.std.proofs.lemmas.Bool.{and_parts, leb-true}
use Rattle.std.proofs.lemmas.List.Sums.{sum_by-cons}
use Rattle.pc_base.specs.declared.limits.TheConstants.{MOST_STATEMENTS}
use Rattle.pc_work.specs.Count.{item_count, session_count}
use Rattle.pc_work.specs.Together.{are_few_turns, first_items, together_refusal}
use Rattle.pc_work.specs.declared.item.Item.{Item}
use Rattle.pc_work.specs.declared.item.Item.TheVariants.{Learn, Txn}
use Rattle.pc_work.specs.declared.session.SessionWork.{SessionWork}
use Rattle.pc_work.specs.declared.stated.Stated.{Stated}
use Rattle.pc_work.proofs.Refused.{together_holds}

item_counts : (item : Item) → 1 ≤ item_count item
item_counts (Learn id) = omega arith
item_counts (Txn priority statements commits) = omega arith

items_count : (script : List Item) → length script ≤ sum_by item_count script
items_count [] = omega arith
items_count (item ∷ items) = omega (arith, item_counts item, items_count items, sum_by-cons item_count item items)

first_counts : (sessions : List SessionWork) → first_items sessions ≤ sum_by session_count sessions
first_counts [] = omega arith
first_counts (first ∷ others) =
    let all : sum_by session_count (first ∷ others) ≡ sum_by item_count first.script + sum_by session_count others = sum_by-cons session_count first others in
    let items : length first.script ≤ sum_by item_count first.script = items_count first.script in
    let goal : length first.script ≤ sum_by session_count (first ∷ others) = omega arith in
    goal

-- An opening that is within its limit fits 32 bits.
pub opening_fits : (stated : Stated) → together_refusal stated ≡ None → stated.opening < 2 ^ 32
opening_fits stated none =
    let facts = together_holds stated none in
    let numbers = and_parts (nat_le stated.opening (first_items stated.sessions)) (are_few_turns stated.turns) facts.0 in
    let few = leb-true (sum_by session_count stated.sessions) MOST_STATEMENTS facts.1.0 in
    let within = leb-true stated.opening (first_items stated.sessions) numbers.0 in
    omega (arith, few, within, first_counts stated.sessions)
