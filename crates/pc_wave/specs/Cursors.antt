-- From where on the messages of a wave may still have something before them.
use Rattle.std.specs.Prelude.{◌≡◌, ℕ, zero, suc, ◌-◌, ◌≤◌, Bool, false, if◌then◌else◌, nat_lt, not, List, [], ◌∷◌, length}
use Rattle.pc_wave.specs.declared.message.Message.{Message}
use Rattle.pc_wave.specs.Messages.{has_answer, is_to_send}

module _ {X : Type 0} (test : X → Bool) where
  -- There are so many elements at the front of the list, and none of them passes the test.
  abbrev pub HasNoneBefore : ℕ → List X → Type 0
  HasNoneBefore zero xs = Unit {0}
  HasNoneBefore (suc n) [] = ⊥
  HasNoneBefore (suc n) (x ∷ xs) = (test x ≡ false) × HasNoneBefore n xs

-- The message was not answered yet, or met a conflict.
abbrev pub lacks_answer : Message → Bool
lacks_answer m = not (has_answer m)

-- Both places lie within the wave; no message before the one is to be sent, and each before the other has its answer.
pub record AreCursors (messages : List Message) (out answered : ℕ) : Type 0 where
  pub out_within : out ≤ length messages
  pub answered_within : answered ≤ length messages
  pub gone : HasNoneBefore is_to_send out messages
  pub heard : HasNoneBefore lacks_answer answered messages

-- Where a cursor stands, once the message at this place left.
abbrev pub cursor_without : ℕ → ℕ → ℕ
cursor_without place cursor = if nat_lt place cursor then cursor - 1 else cursor
