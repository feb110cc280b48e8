-- The spans that were read, kept beside the reads. Own profile.
use Rattle.std.specs.Prelude.{◌≡◌, ◌↔◌, Any, IsTrue, List}
use Rattle.std.specs.BTreeSet.{BTreeSet, contains}
use Rattle.pc_base.specs.declared.span.Span.{Span}
use Rattle.pc_base.specs.SpanOrder.{span_cmp}
use Rattle.pc_world.specs.Known.Reads.{Read}

-- The spans in the set are those of the reads.
abbrev pub AreReadSpans : List Read → BTreeSet Span → Type 0
AreReadSpans reads spans = (span : Span) → IsTrue (contains span_cmp spans span) ↔ Any (λ r. r.span ≡ span) reads
