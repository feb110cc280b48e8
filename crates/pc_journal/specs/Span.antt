-- How spans are spelled. Own profile.
use Rattle.std.specs.Prelude.{ℕ, List, ◌∷◌, ◌++◌}
use Rattle.pc_base.specs.declared.span.Span.{Span}
use Rattle.pc_base.specs.declared.span.Span.TheVariants.{One, Between}
use Rattle.pc_journal.specs.Optional.{or_dash, key_text}

-- One key as it is, or the two ends with a comma between them, an open end as a dash: `a`, `a,m`, `m,-`.
abbrev pub span_text : Span → List ℕ
span_text (One key) = key_text key
span_text (Between from to) = or_dash key_text from ++ (44 ∷ or_dash key_text to)
