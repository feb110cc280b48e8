-- A span in a workload: a list of its two ends, of which the empty text is an open one.
use Rattle.std.specs.Prelude.{ℕ, List, [], ◌∷◌, Option, Some, None, if◌then◌else◌}
use Rattle.serde_json.specs.Data.{Data}
use Rattle.serde_json.specs.Find.{as_str}
use Rattle.pc_base.specs.Span.{is_empty}
use Rattle.pc_base.specs.declared.span.Span.{Span}
use Rattle.pc_base.specs.declared.span.Span.TheVariants.{Between}
use Rattle.pc_work.specs.Reading.{◌>>=◌}
use Rattle.pc_work.specs.Lists.{pair_of}
use Rattle.pc_work.specs.Texts.{key_in}

-- The end of a span that a text spells: an open one where the text is empty, and else a key.
abbrev pub end_in : List ℕ → Option (Option (List ℕ))
end_in [] = Some None
end_in (byte ∷ bytes) = key_in (byte ∷ bytes) >>= λ key. Some (Some key)

-- The end of a span that a value states.
unfoldable pub end_of : Data → Option (Option (List ℕ))
end_of value = as_str value >>= end_in

-- The span that a value states: a list of its start and its end, between which a key may lie.
unfoldable pub span_of : Data → Option Span
span_of value = do
  both ← pair_of value
  from ← end_of both.0
  to ← end_of both.1
  if is_empty from to then None else Some (Between from to)
