-- Messages are evaluated in the order in which their replies are heard, which is that of their numbers: so where one evaluation goes after
-- another, and not where those of a wave go beside each other. Own profile.
use Rattle.std.specs.Prelude.{◌<◌, Option, None, Some, All, ⊤}
use Rattle.pc_world.specs.Known.{Known}
use Rattle.pc_world.specs.Known.Traffic.{Heard}

-- The reply that is heard was evaluated after all that were heard before it.
abbrev pub HearsInOrder : Known → Option Heard → Type 0
HearsInOrder k None = ⊤
HearsInOrder k (Some h) = All (λ earlier. earlier.step < h.step) k.heard
