-- The parts into which the ranges cut a span.
use Rattle.std.specs.Option.{option_copied}
use Rattle.pc_known.specs.declared.cutting.Part.{Part}
use Rattle.pc_known.specs.declared.cutting.Part.TheVariants as parts
use Rattle.pc_base.specs.declared.span.Span.{Span}
use Rattle.pc_base.specs.declared.span.Span.TheVariants.{One, Between}

-- The span that the part is.
abbrev pub part_span : Part → Span
part_span (parts.One key) = One key.now
part_span (parts.Between from to) = Between (option_copied from) (option_copied to)
