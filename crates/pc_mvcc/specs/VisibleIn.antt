-- What a read sees of the keys of a span. SIGMOD 2020 paper, section 3.3.
use Rattle.std.specs.Prelude.{ℕ, List, [], filter, fold, map}
use Rattle.std.specs.BTreeSet.{insert_key}
use Rattle.std.specs.Cmp.Lexicographic.{slice_cmp}
use Rattle.std.specs.List.{filter_map}
use Rattle.std.specs.Ordering.{nat_cmp}
use Rattle.pc_base.specs.declared.span.Span.{Span}
use Rattle.pc_base.specs.declared.version.Version.{Version}
use Rattle.pc_base.specs.Span.{contains}
use Rattle.pc_base.specs.Versions.{visible}

-- The keys of the span that have a version, in order, each once.
abbrev pub written_keys : Span → List Version → List (List ℕ)
written_keys span versions = fold (insert_key (slice_cmp nat_cmp)) [] (filter (contains span) (map (λ v. v.key) versions))

-- Of each of them the version that a read at this timestamp sees, in the order of the keys.
abbrev pub visible_in : Span → ℕ → List Version → List Version
visible_in span ts versions = filter_map (λ key. visible key ts versions) (written_keys span versions)
