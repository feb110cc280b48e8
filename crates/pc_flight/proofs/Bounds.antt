-- The writes in flight stay by sequence, and no more than may be.
use Rattle.std.proofs.Common.{ℕ, ◌+◌, ◌<◌, ◌≤◌, Bool, true, false, cond, List, [], ◌∷◌, length, filter, arith}
use Rattle.std.proofs.lemmas.List.Kept.{AllPairs-filter}
use Rattle.pc_flight.specs.declared.write.WriteInFlight.{WriteInFlight}
use Rattle.pc_flight.specs.InFlight.{IsFlight}

shorter_by : (b : Bool) (w : WriteInFlight) (ws : List WriteInFlight) (n : ℕ) → length ws ≤ n → length (cond b (w ∷ ws) ws) ≤ n + 1
shorter_by true w ws n low = omega (arith, low)
shorter_by false w ws n low = omega (arith, low)

filtered_shorter : (test : WriteInFlight → Bool) (ws : List WriteInFlight) → length (filter test ws) ≤ length ws
filtered_shorter test [] = omega arith
filtered_shorter test (w ∷ ws) = let low = shorter_by (test w) w (filter test ws) (length ws) (filtered_shorter test ws) in omega (arith, low)

-- after some are proved
pub filtered : (test : WriteInFlight → Bool) (ws : List WriteInFlight) → IsFlight ws → IsFlight (filter test ws)
filtered test ws is = record {
  by_sequence = AllPairs-filter (λ w later. w.seq < later.seq) test ws is.by_sequence;
  within = let low = filtered_shorter test ws in let most = is.within in omega (arith, low, most);
}
