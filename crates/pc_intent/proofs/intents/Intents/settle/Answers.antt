use Rattle.std.proofs.Common.{◌≡◌, ℕ, List, None, Some, true, false, refl, sym, ap, ◌∙◌, rules}
use Rattle.std.proofs.lemmas.Map.Views.{All-map-remove_entry}
use Rattle.std.specs.BTreeMap.{is_at}
use Rattle.std.specs.Cmp.Lexicographic.{slice_cmp}
use Rattle.std.specs.Map.{lookup, remove_entry}
use Rattle.std.specs.Ordering.{nat_cmp}
use Rattle.pc_base.proofs.KeyTables.{key_removed}
use Rattle.pc_base.specs.Keyed.{without}
use Rattle.pc_base.specs.Span.{same_key}
use Rattle.pc_base.specs.Transaction.{same_txn}
use Rattle.pc_proto.specs.declared.record.Intent.{Intent}
use Rattle.pc_proto.specs.Intents.{own_at}
use Rattle.pc_intent.proofs.OwnIntent.{own_is_not, own_is_nothing, own_is_there}
use Rattle.pc_intent.proofs.Rising.{found_rises, in_table}
use Rattle.pc_intent.specs.Rising.{WritesRise}
use Rattle.pc_intent.proofs.intents.Intents.settle.Goals as goal

pub returns-in-Vacant-clause-taken : goal.returns-in-Vacant-clause-taken
returns-in-Vacant-clause-taken c =
    let es : List (List ℕ × Intent) = c.self.inside.entries.entries in
    let key : List ℕ = c.args.key.now in
    let absent : lookup (is_at (slice_cmp nat_cmp key)) es ≡ None = search rules in
    let own : own_at c.args.id key c.args.self.now ≡ None = ap (own_at c.args.id key) (sym c.self.view_is) ∙ own_is_nothing key es c.args.id absent in
    rw own (search rules)

pub returns-in-Vacant-clause-kept : goal.returns-in-Vacant-clause-kept
returns-in-Vacant-clause-kept c =
    let es : List (List ℕ × Intent) = c.self.inside.entries.entries in
    let key : List ℕ = c.args.key.now in
    let absent : lookup (is_at (slice_cmp nat_cmp key)) es ≡ None = search rules in
    let own : own_at c.args.id key c.args.self.now ≡ None = ap (own_at c.args.id key) (sym c.self.view_is) ∙ own_is_nothing key es c.args.id absent in
    rw own refl

pub returns-then-ne-clause-kept : goal.returns-then-ne-clause-kept
returns-then-ne-clause-kept c =
    let es : List (List ℕ × Intent) = c.self.inside.entries.entries in
    let key : List ℕ = c.args.key.now in
    let i : Intent = c.get.result.now in
    let found : lookup (is_at (slice_cmp nat_cmp key)) es ≡ Some i = search rules in
    let other : same_txn i.meta.id c.args.id ≡ false = search rules in
    let own : own_at c.args.id key c.args.self.now ≡ None = ap (own_at c.args.id key) (sym c.self.view_is) ∙ own_is_not key es c.args.id i found other in
    rw own refl

pub returns-then-ne-clause-taken : goal.returns-then-ne-clause-taken
returns-then-ne-clause-taken c =
    let es : List (List ℕ × Intent) = c.self.inside.entries.entries in
    let key : List ℕ = c.args.key.now in
    let i : Intent = c.get.result.now in
    let found : lookup (is_at (slice_cmp nat_cmp key)) es ≡ Some i = search rules in
    let other : same_txn i.meta.id c.args.id ≡ false = search rules in
    let own : own_at c.args.id key c.args.self.now ≡ None = ap (own_at c.args.id key) (sym c.self.view_is) ∙ own_is_not key es c.args.id i found other in
    rw own (search rules)

pub returns-clause-taken : goal.returns-clause-taken
returns-clause-taken c =
    let es : List (List ℕ × Intent) = c.self.inside.entries.entries in
    let key : List ℕ = c.args.key.now in
    let i : Intent = c.get.result.now in
    let found : lookup (is_at (slice_cmp nat_cmp key)) es ≡ Some i = search rules in
    let mine : same_txn i.meta.id c.args.id ≡ true = search rules in
    let own : own_at c.args.id key c.args.self.now ≡ Some i = ap (own_at c.args.id key) (sym c.self.view_is) ∙ own_is_there key es c.args.id i found mine in
    let left : remove_entry (is_at (slice_cmp nat_cmp key)) es ≡ without same_key key c.args.self.now = key_removed key es c.self.invariant.keys ∙ ap (without same_key key) c.self.view_is in
    rw own (search rules)

pub returns-clause-kept : goal.returns-clause-kept
returns-clause-kept c =
    let es : List (List ℕ × Intent) = c.self.inside.entries.entries in
    let key : List ℕ = c.args.key.now in
    let i : Intent = c.get.result.now in
    let found : lookup (is_at (slice_cmp nat_cmp key)) es ≡ Some i = search rules in
    let mine : same_txn i.meta.id c.args.id ≡ true = search rules in
    let own : own_at c.args.id key c.args.self.now ≡ Some i = ap (own_at c.args.id key) (sym c.self.view_is) ∙ own_is_there key es c.args.id i found mine in
    rw own (search rules)

pub keep-requires : goal.keep-requires
keep-requires c =
    let es : List (List ℕ × Intent) = c.self.inside.entries.entries in
    let key : List ℕ = c.args.key.now in
    let i : Intent = c.get-2.result.now in
    let found : lookup (is_at (slice_cmp nat_cmp key)) es ≡ Some i = search rules in
    found_rises (is_at (slice_cmp nat_cmp key)) es i c.self.invariant.writes found

pub invariant_of-self-2 : goal.invariant_of-self-2
invariant_of-self-2 c =
    let es : List (List ℕ × Intent) = c.self.inside.entries.entries in
    let test = is_at (slice_cmp nat_cmp c.args.key.now) in
    record {
      keys = search rules;
      writes = in_table (remove_entry test es) _ (search rules) (All-map-remove_entry test (λ (e : List ℕ × Intent). e.1) WritesRise es c.self.invariant.writes);
    }
