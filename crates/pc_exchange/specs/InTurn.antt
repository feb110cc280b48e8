-- The rounds of a call's conflicts come one after another: which conflict has the next one. Own profile.
use Rattle.std.specs.Prelude.{◌≡◌, ℕ, Bool, true, false, None, Some, List, ◌∷◌, length, filter, slice_get, is_some}
use Rattle.pc_proto.specs.Requests.{goal_in}
use Rattle.pc_follows.specs.Eighth.{MetEighth}
use Rattle.pc_follows.specs.NextBlock.{IsAtItsEighth}
use Rattle.pc_follows.specs.Rounds.{AreRoundsOver, conflicts_now, rounds_begun}
use Rattle.pc_follows.specs.RoundsMade.{rounds_made}
use Rattle.pc_world.specs.Known.{Known}
use Rattle.pc_world.specs.Known.Traffic.{Heard}

-- How many pushes were answered since the last call was asked.
abbrev pub pushes_answered : Known → ℕ
pushes_answered k = length (filter (λ h. is_some (goal_in h.request)) k.heard_now)

-- The next round is of this conflict: it is the first of the call's that has had none, the rounds before it are over and each push of them was
-- answered, and it is not the eighth of its request.
pub record IsNextRound (k : Known) (conflict : Heard) : Type 0 where
  pub placed : slice_get (conflicts_now k) (rounds_begun k) ≡ Some conflict
  pub over : AreRoundsOver k
  pub answered : pushes_answered k ≡ rounds_begun k
  pub below : MetEighth k conflict.request → ⊥

-- Where writes are pipelined, the next round is of this conflict: it is the first that waits, its round did not begin, and it is not the eighth
-- of its request.
pub record IsFirstConflict (k : Known) (conflict : Heard) : Type 0 where
  pub later : List Heard
  pub waits : (rounds_made k).waiting ≡ conflict ∷ later
  pub unbegun : (rounds_made k).push ≡ None
  pub unrecovered : (rounds_made k).recovered ≡ None
  pub below : IsAtItsEighth k conflict.request → ⊥

-- Which round is the next one, by whether writes are pipelined.
abbrev pub IsNextRoundIn : Bool → Known → Heard → Type 0
IsNextRoundIn false k conflict = IsNextRound k conflict
IsNextRoundIn true k conflict = IsFirstConflict k conflict
