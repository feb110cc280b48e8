-- The conflicts whose rounds are still to be made are those that the messages of a wave met. Own profile.
use Rattle.std.specs.Prelude.{◌≡◌, ◌⊎◌, false, None, List, [], ◌∷◌, All, ⊤}
use Rattle.pc_follows.specs.NextBlock.{IsAtItsEighth}
use Rattle.pc_follows.specs.RoundsMade.{rounds_made}
use Rattle.pc_wave.specs.declared.message.Message.{Message}
use Rattle.pc_wave.specs.declared.message.Progress.TheVariants as progresses
use Rattle.pc_wave.specs.Messages.{is_in_conflict}
use Rattle.pc_world.specs.Known.{Known}
use Rattle.pc_world.specs.Known.Traffic.{Heard}

-- The message met this conflict, whose round is still to be made.
pub record HasMetConflict (m : Message) (h : Heard) : Type 0 where
  pub progress : m.progress ≡ progresses.Met h.number h.reply
  pub asked : m.request ≡ h.request

-- These conflicts are those that these messages met, in their order.
abbrev pub AreMetBy : List Message → List Heard → Type 0
AreMetBy [] [] = ⊤
AreMetBy [] (h ∷ hs) = ⊥
AreMetBy (m ∷ ms) [] = (is_in_conflict m ≡ false) × AreMetBy ms []
AreMetBy (m ∷ ms) (h ∷ hs) = (HasMetConflict m h × AreMetBy ms hs) ⊎ ((is_in_conflict m ≡ false) × AreMetBy ms (h ∷ hs))

-- No conflict of the call waits for its round, and no round is begun.
pub record IsWithoutConflict (k : Known) : Type 0 where
  pub waiting : (rounds_made k).waiting ≡ []
  pub push : (rounds_made k).push ≡ None

-- None of the conflicts that a refused stage passed over was the eighth of its write.
abbrev pub ArePassedBelow : Known → Type 0
ArePassedBelow k = All (λ h. IsAtItsEighth k h.request → ⊥) (rounds_made k).passed
