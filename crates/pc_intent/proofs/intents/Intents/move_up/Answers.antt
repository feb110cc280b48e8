use Rattle.std.proofs.Common.{◌≡◌, ℕ, max, List, Some, None, true, false, sym, ap, subst, ◌∙◌, rules}
use Rattle.std.proofs.lemmas.Map.Steps.{set_value_same}
use Rattle.std.specs.BTreeMap.{BTreeMap, insert_entry, is_at}
use Rattle.std.specs.Cmp.Lexicographic.{slice_cmp}
use Rattle.std.specs.Ordering.{nat_cmp}
use Rattle.pc_base.proofs.KeyTables.{key_written}
use Rattle.pc_base.specs.declared.key.Key.{Key}
use Rattle.pc_base.specs.Transaction.{same_txn}
use Rattle.pc_proto.specs.declared.record.Intent.{Intent}
use Rattle.pc_proto.specs.Intents.{own_at}
use Rattle.pc_intent.proofs.OwnIntent.{own_is_not, own_is_nothing, own_is_there}
use Rattle.pc_intent.proofs.Rising.{found_rises, table_after_set}
use Rattle.pc_intent.specs.Rising.{IsIntentTable}
use Rattle.pc_intent.proofs.intents.Intents.move_up.Goals as goal

pub returns-in_default : goal.returns-in_default
returns-in_default c =
    let is = c.self.view_is in
    let own : own_at c.args.id c.args.key.now c.args.self.now ≡ None =
    ap (own_at c.args.id c.args.key.now) (sym is) ∙ own_is_nothing c.args.key.now c.self.inside.entries.entries c.args.id (sym c.in_default.ensures.value) in
    rw own (ap (λ (m : BTreeMap Key Intent). m.entries) c.get_mut.follows.holds-at-none ∙ is)

pub returns-then-ne : goal.returns-then-ne
returns-then-ne c =
    let es : List (List ℕ × Intent) = c.self.inside.entries.entries in
    let key : List ℕ = c.args.key.now in
    let i : Intent = c.in-Some.intent.now in
    let is : es ≡ c.args.self.now = c.self.view_is in
    let other : same_txn i.meta.id c.args.id ≡ false = search rules in
    let own : own_at c.args.id key c.args.self.now ≡ None = ap (own_at c.args.id key) (sym is) ∙ own_is_not key es c.args.id i (sym c.in-Some.ensures.value) other in
    rw own ((c.get_mut.follows.holds i).0 ∙ (set_value_same (is_at (slice_cmp nat_cmp key)) es i (sym c.in-Some.ensures.value) ∙ is))

pub returns : goal.returns
returns c =
    let es : List (List ℕ × Intent) = c.self.inside.entries.entries in
    let key : List ℕ = c.args.key.now in
    let i : Intent = c.in-Some.intent.now in
    let is : es ≡ c.args.self.now = c.self.view_is in
    let mine : same_txn i.meta.id c.args.id ≡ true = search rules in
    let own : own_at c.args.id key c.args.self.now ≡ Some i = ap (own_at c.args.id key) (sym is) ∙ own_is_there key es c.args.id i (sym c.in-Some.ensures.value) mine in
    let most : c.max-intent.result ≡ max i.ts c.args.ts = search rules in
    rw own
    ((c.get_mut.follows.holds (record { meta = i.meta; ts = c.max-intent.result; history = i.history })).0
    ∙ (key_written key es i (record { meta = i.meta; ts = c.max-intent.result; history = i.history }) c.self.invariant.keys (sym c.in-Some.ensures.value)
    ∙ (ap (λ (n : ℕ). insert_entry (slice_cmp nat_cmp) es key (record { meta = i.meta; ts = n; history = i.history })) most
    ∙ ap (λ (es : List (List ℕ × Intent)). insert_entry (slice_cmp nat_cmp) es key (record { meta = i.meta; ts = max i.ts c.args.ts; history = i.history })) is)))

pub invariant_of-self-then-ne : goal.invariant_of-self-then-ne
invariant_of-self-then-ne c =
    let es : List (List ℕ × Intent) = c.self.inside.entries.entries in
    let test = is_at (slice_cmp nat_cmp c.args.key.now) in
    let i : Intent = c.in-Some.intent.now in
    let rise = found_rises test es i c.self.invariant.writes (sym c.in-Some.ensures.value) in
    subst IsIntentTable (sym (c.get_mut.follows.holds i).0) (table_after_set test es i c.self.invariant rise)

pub invariant_of-self-2 : goal.invariant_of-self-2
invariant_of-self-2 c =
    let es : List (List ℕ × Intent) = c.self.inside.entries.entries in
    let test = is_at (slice_cmp nat_cmp c.args.key.now) in
    let i : Intent = c.in-Some.intent.now in
    let moved : Intent = record { meta = i.meta; ts = c.max-intent.result; history = i.history } in
    let rise = found_rises test es i c.self.invariant.writes (sym c.in-Some.ensures.value) in
    subst IsIntentTable (sym (c.get_mut.follows.holds moved).0) (table_after_set test es moved c.self.invariant rise)
