-- The puts of one transaction, each sequence once.
use Rattle.std.specs.Prelude.{◌≡◌, ℕ, ◌==◌, if◌then◌else◌, List, [], ◌∷◌, ◌++◌}
use Rattle.std.specs.BTreeSet.{BTreeSet, contains}
use Rattle.std.specs.List.{list_any}
use Rattle.std.specs.Ordering.{nat_cmp}
use Rattle.pc_puts.specs.declared.puts.Put.{Put}

-- The sequences are those of the puts.
abbrev pub AreSeqsOf : List Put → BTreeSet ℕ → Type 0
AreSeqsOf puts seqs = (seq : ℕ) → contains nat_cmp seqs seq ≡ list_any (λ p. p.seq == seq) puts

-- The puts with one more, where its sequence is new.
abbrev pub with_new_put : Put → List Put → List Put
with_new_put put puts = if list_any (λ p. p.seq == put.seq) puts then puts else puts ++ put ∷ []
