-- When a message is in order, whatever its request asks.
use Rattle.std.specs.Prelude.{◌≡◌, ℕ, ◌+◌, ◌≤◌, List, All}
use Rattle.pc_proto.specs.declared.request.Request.{Request}
use Rattle.pc_proto.specs.Stamps.{request_stamps}
use Rattle.pc_world.specs.Known.{Known, next_number}
use Rattle.pc_world.specs.RangeOf.{GoesTo}

-- The message has the next number, and names no timestamp past the one after the greatest that the actor knows.
pub record IsNextWithin (k : Known) (number : ℕ) (request : Request) : Type 0 where
  pub next : number ≡ next_number k
  pub stamps : All (λ ts. ts ≤ k.top + 1) (request_stamps request)

-- The message has the next number, goes to its range, and names no timestamp past the one after the greatest that the actor knows.
pub record IsInOrder (splits : List (List ℕ)) (k : Known) (number range : ℕ) (request : Request) : Type 0 where
  pub next : number ≡ next_number k
  pub there : GoesTo splits request range
  pub stamps : All (λ ts. ts ≤ k.top + 1) (request_stamps request)
