-- What the searches of versions and intents tell: of all that they passed over.
use Rattle.std.proofs.Common.{◌≡◌, ℕ, ◌+◌, ◌<◌, ◌≤◌, Bool, true, false, ◌&&◌, not, nat_le, nat_lt, cond, if◌then◌else◌, List, [], ◌∷◌, filter, fold, Option, None, Some, refl, All, arith}
use Rattle.std.proofs.lemmas.List.Elements.{All-from_recursion}
use Rattle.std.specs.List.{AllByRecursion as Each}
use Rattle.std.specs.Option.{option_map_or}
use Rattle.std.specs.Prelude.{IsTrue}
use Rattle.pc_base.specs.declared.span.Span.{Span}
use Rattle.pc_base.specs.declared.transaction.TxnId.{TxnId}
use Rattle.pc_base.specs.declared.version.Version.{Version}
use Rattle.pc_base.specs.Span.{contains, key_below, same_key}
use Rattle.pc_base.specs.Transaction.{same_txn}
use Rattle.pc_base.specs.Versions.{above_newest, first_between, later, sooner}
use Rattle.pc_lists.proofs.Each.{each-weaker}
use Rattle.pc_lists.proofs.Same.{same_key-equal, same_txn-is}
use Rattle.pc_proto.specs.declared.record.Intent.{Intent}
use Rattle.pc_proto.specs.Intents.{first_other, lesser_key}

-- what is so of each element that a test keeps is so of each that passes it
pub each-passing : {X : Type 0} (P : X → Type 0) (test : X → Bool) (xs : List X) → Each P (filter test xs) → Each (λ x. test x ≡ true → P x) xs
each-passing P test [] a = tt
each-passing P test (x ∷ xs) a = by (test x) refl a (each-passing P test xs)
  where
    by : (b : Bool) → test x ≡ b → Each P (cond b (x ∷ filter test xs) (filter test xs)) → (Each P (filter test xs) → Each (λ x. test x ≡ true → P x) xs) → Each (λ x. test x ≡ true → P x) (x ∷ xs)
    by true is kept rest = (λ passes. kept.0, rest kept.1)
    by false is kept rest = (λ passes. absurd cc, rest kept)

module _ {X : Type 0} (choose : Option X → X → Option X) (some : (best : Option X) (x : X) → choose best x ≡ None → ⊥) where
  chosen-none : (best : Option X) (xs : List X) → fold choose best xs ≡ None → (best ≡ None) × Each (λ x. ⊥) xs
  chosen-none best [] h = (h, tt)
  chosen-none best (x ∷ xs) h = absurd (some best x (chosen-none (choose best x) xs h).0)

  -- a search that found nothing passed over nothing that passes its test
  pub none-passes : (test : X → Bool) (xs : List X) → fold choose None (filter test xs) ≡ None → Each (λ x. test x ≡ true → ⊥) xs
  none-passes test xs h = each-passing (λ x. ⊥) test xs (chosen-none None (filter test xs) h).1

-- The least timestamp above the version.
abbrev pub above_version : Option Version → ℕ
above_version best = option_map_or (λ v. v.ts + 1) best 0

later-above : (best : Option Version) (v : Version) → (above_version best ≤ above_version (later best v)) × (v.ts < above_version (later best v))
later-above None v = (omega arith, omega arith)
later-above (Some best) v = by (nat_lt best.ts v.ts) refl
  where
    by : (b : Bool) → nat_lt best.ts v.ts ≡ b → (best.ts + 1 ≤ above_version (if b then Some v else Some best)) × (v.ts < above_version (if b then Some v else Some best))
    by true is = (grind arith, grind arith)
    by false is = (grind arith, grind arith)

fold-above : (best : Option Version) (vs : List Version) → (above_version best ≤ above_version (fold later best vs)) × Each (λ v. v.ts < above_version (fold later best vs)) vs
fold-above best [] = (omega arith, tt)
fold-above best (v ∷ vs) =
    let first = later-above best v in
    let rest = fold-above (later best v) vs in
    (omega (arith, first.0, rest.0), (omega (arith, first.1, rest.0), rest.1))

-- what is above the newest version of a key is above each
pub above_newest-each : (key : List ℕ) (vs : List Version) → All (λ v. v.key ≡ key → v.ts < above_newest key vs) vs
above_newest-each key vs =
    All-from_recursion (λ v. v.key ≡ key → v.ts < above_newest key vs) vs
    (each-weaker (λ v. same_key v.key key ≡ true → v.ts < above_newest key vs) (λ v. v.key ≡ key → v.ts < above_newest key vs) (λ v h same. h (same_key-equal v.key key same)) vs
    (each-passing (λ v. v.ts < above_newest key vs) (λ v. same_key v.key key) vs (fold-above None (filter (λ v. same_key v.key key) vs)).1))

lesser-some : (best : Option (List ℕ × Intent)) (e : List ℕ × Intent) → lesser_key best e ≡ None → ⊥
lesser-some None e h = cc
lesser-some (Some best) e h = by (key_below e.0 best.0) h
  where
    by : (b : Bool) → (if b then Some e else Some best) ≡ None → ⊥
    by true h = cc
    by false h = cc

sooner-some : (best : Option Version) (v : Version) → sooner best v ≡ None → ⊥
sooner-some None v h = cc
sooner-some (Some best) v h = by (key_below v.key best.key) (same_key v.key best.key && nat_lt v.ts best.ts) h
  where
    by : (a b : Bool) → (if a then Some v else if b then Some v else Some best) ≡ None → ⊥
    by true b h = cc
    by false true h = cc
    by false false h = cc

-- where a search found no other's intent, each is the transaction's own or above
pub none-other : (span : Span) (ts : ℕ) (id : TxnId) (es : List (List ℕ × Intent)) → first_other span ts id es ≡ None → Each (λ e. IsTrue (contains span e.0) → e.1.ts ≤ ts → e.1.meta.id ≡ id) es
none-other span ts id es h =
    each-weaker (λ e. (contains span e.0 && (nat_le e.1.ts ts && not (same_txn e.1.meta.id id))) ≡ true → ⊥) (λ e. IsTrue (contains span e.0) → e.1.ts ≤ ts → e.1.meta.id ≡ id)
    (λ e none inside low. by e none inside low (same_txn e.1.meta.id id) refl) es
    (none-passes lesser_key lesser-some (λ e. contains span e.0 && (nat_le e.1.ts ts && not (same_txn e.1.meta.id id))) es h)
  where
    by : (e : List ℕ × Intent) → ((contains span e.0 && (nat_le e.1.ts ts && not (same_txn e.1.meta.id id))) ≡ true → ⊥) → contains span e.0 ≡ true → e.1.ts ≤ ts → (b : Bool) → same_txn e.1.meta.id id ≡ b → e.1.meta.id ≡ id
    by e none inside low true is = same_txn-is e.1.meta.id id is
    by e none inside low false is = absurd (none (grind arith))

-- where a search found no version between two timestamps, each above the first is above the second
pub none-between : (span : Span) (from to : ℕ) (vs : List Version) → first_between span from to vs ≡ None → Each (λ v. IsTrue (contains span v.key) → from < v.ts → to < v.ts) vs
none-between span from to vs h =
    each-weaker (λ v. (contains span v.key && (nat_lt from v.ts && nat_le v.ts to)) ≡ true → ⊥) (λ v. IsTrue (contains span v.key) → from < v.ts → to < v.ts)
    (λ v none inside low. let high : v.ts ≤ to → ⊥ = λ below. none (grind arith) in omega (arith, high)) vs
    (none-passes sooner sooner-some (λ v. contains span v.key && (nat_lt from v.ts && nat_le v.ts to)) vs h)
