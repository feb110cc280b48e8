-- A put is taken out of those that wait.
use Rattle.std.proofs.Common.{◌≡◌, ◌≢◌, ℕ, suc, ◌<◌, ◌≤◌, Bool, true, false, List, [], ◌∷◌, ◌++◌, length, find, take, drop, None, Some, position, slice_index_or, refl, sym, arith}
use Rattle.std.specs.List.{after_first, before_first, position_or_len, remove}
use Rattle.std.proofs.lemmas.Grind.{common_steps}
use Rattle.pc_call.specs.declared.later.LaterPut.{LaterPut}
use Rattle.pc_call.specs.Outbox.{has_put, waiting_put, without_put}
use Rattle.pc_proto.specs.declared.request.Request.{Request}
use Rattle.pc_proto.specs.declared.request.Request.TheVariants as requests

module _ {X : Type 0} (test : X → Bool) where
  first-left : (xs : List X) → position_or_len test xs < length xs → take (position_or_len test xs) xs ++ drop (suc (position_or_len test xs)) xs ≡ before_first test xs ++ after_first test xs
  first-left [] h = grind arith
  first-left (x ∷ xs) h = grind (arith, common_steps, first-left xs)

  none-left : (xs : List X) → length xs ≤ position_or_len test xs → before_first test xs ++ after_first test xs ≡ xs
  none-left [] h = refl
  none-left (x ∷ xs) h = grind (arith, common_steps, none-left xs)

  first-found : (xs : List X) (d : X) → position_or_len test xs < length xs → find test xs ≡ Some (slice_index_or xs (position_or_len test xs) d)
  first-found [] d h = grind arith
  first-found (x ∷ xs) d h = grind (arith, common_steps, first-found xs d)

  none-found : (xs : List X) → length xs ≤ position_or_len test xs → find test xs ≡ None
  none-found [] h = refl
  none-found (x ∷ xs) h = grind (arith, common_steps, none-found xs)

  -- what is left of the list, without its first element that passes
  pub left_at : (xs : List X) (place : ℕ) → position test xs ≡ Some place → remove xs place ≡ before_first test xs ++ after_first test xs
  left_at xs place found = grind (arith, common_steps, first-left xs)

  -- all of it, where none does
  pub left_all : (xs : List X) → position test xs ≡ None → xs ≡ before_first test xs ++ after_first test xs
  left_all xs none = sym (grind (arith, common_steps, none-left xs))

  pub found_there : (xs : List X) (place : ℕ) (d : X) → position test xs ≡ Some place → find test xs ≡ Some (slice_index_or xs place d)
  found_there xs place d found = grind (arith, common_steps, first-found xs d)

  pub found_nowhere : (xs : List X) → position test xs ≡ None → find test xs ≡ None
  found_nowhere xs none = grind (arith, common_steps, none-found xs)

module _ {X : Type 0} (test other : X → Bool) (apart : (x : X) → test x ≡ true → other x ≡ false) where
  -- where the first that passes one test leaves the list, the first that passes another stays
  pub found_apart : (xs : List X) → find test (before_first other xs ++ after_first other xs) ≡ find test xs
  found_apart [] = refl
  found_apart (x ∷ xs) = grind (arith, common_steps, apart x, found_apart xs)

puts_one : (one other : ℕ) → one ≢ other → (request : Request) → has_put one request ≡ true → has_put other request ≡ false
puts_one one other differ (requests.Put meta seq ts key value) puts = grind (arith, differ)
puts_one one other differ request puts = absurd cc

-- The put of another write waits as before.
pub waits_as_before : (seq other : ℕ) (later : List LaterPut) → seq ≢ other → waiting_put seq (without_put other later) ≡ waiting_put seq later
waits_as_before seq other later differ =
    found_apart (λ put. has_put seq put.request) (λ put. has_put other put.request) (λ put. puts_one seq other differ put.request) later
