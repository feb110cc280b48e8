-- What the second and the third line of a journal are read as. Own profile.
use Rattle.std.specs.Prelude.{ℕ, ◌+◌, ◌==◌, ◌&&◌, if◌then◌else◌, List, [], ◌∷◌, length, Option, None, Some, option_and_then, codes}
use Rattle.std.specs.List.{slice_split}
use Rattle.pc_base.specs.Rising.{keys_rise}
use Rattle.pc_spelling.specs.Cutting.{◌&◌, each_at, word_of, or_word, no_word, behind}
use Rattle.pc_spelling.specs.Reading.{number32_at, key_at}

-- The keys behind the number of ranges, which is one more than there are keys.
unfoldable pub splits_at : List (List ℕ) → Option (List (List ℕ))
splits_at [] = None
splits_at (count ∷ keys) =
    option_and_then (λ n. option_and_then (λ splits. if n == length splits + 1 && keys_rise splits then Some splits else None) (each_at key_at keys)) (number32_at count)

-- The second line: `ranges 3 g m`.
unfoldable pub ranges_at : List ℕ → Option (List (List ℕ))
ranges_at bs =
    or_word (codes "ranges") (behind (λ splits. splits) (λ rest. splits_at (slice_split (λ b. b == 32) rest)))
    no_word (word_of 32 bs)

-- The third line: `actors 2 1`.
unfoldable pub actors_at : List ℕ → Option (ℕ × ℕ)
actors_at bs = or_word (codes "actors") (behind (λ counts. counts) (number32_at & number32_at)) no_word (word_of 32 bs)
