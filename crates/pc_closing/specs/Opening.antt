-- How a history begins: its ranges, its sessions and its recoverers have their seats, and nothing has happened.
use Rattle.std.specs.Prelude.{◌≡◌, ℕ, zero, suc, ◌+◌, true, Some, List, [], ◌∷◌, ◌++◌, length, slice_get}
use Rattle.pc_base.specs.declared.actor.ActorId.{ActorId}
use Rattle.pc_history.specs.Meanings.{ActorMeaning, OpenerMeaning}
use Rattle.pc_history.specs.Parts.{newcomer}
use Rattle.pc_proto.specs.declared.event.Event.{Event}
use Rattle.pc_range.specs.Seats.{range_ids}
use Rattle.pc_turns.specs.Shares.{client_at}
use Rattle.pc_world.specs.Local.{Head}

-- The ids of so many clients of a head, in order: its sessions, and behind them its recoverers.
abbrev pub client_ids : Head → ℕ → List ActorId
client_ids head zero = []
client_ids head (suc count) = client_ids head count ++ client_at head count ∷ []

-- The ids of the ranges and then the first clients of a head, of which there are so many.
abbrev pub seats_up_to : Head → ℕ → List ActorId
seats_up_to head count = range_ids (length head.splits + 1) ++ client_ids head count

-- The opener of the head's history, who has seated its ranges, its sessions and its recoverers.
abbrev pub opener_of : Head → OpenerMeaning Head Event
opener_of head = record { world = head; seated = seats_up_to head (head.sessions + head.recoverers); parts = []; whole = true }

-- The client of this index has a seat, and has done nothing.
pub record IsSeatedFor (head : Head) (index : ℕ) (a : ActorMeaning Head Event) : Type 0 where
  pub world : a.world ≡ head
  pub part : a.part ≡ newcomer (client_at head index)

-- These are the clients of the head from the one index up to the other, in order, and each has a seat and has done nothing.
pub record AreSeatedFor (head : Head) (from to : ℕ) (seated : List (ActorMeaning Head Event)) : Type 0 where
  pub many : from + length seated ≡ to
  pub each : (index : ℕ) (a : ActorMeaning Head Event) → slice_get seated index ≡ Some a → IsSeatedFor head (from + index) a
