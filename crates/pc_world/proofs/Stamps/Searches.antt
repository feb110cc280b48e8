-- What a search finds in a range whose timestamps are at most this one.
use Rattle.std.proofs.Common.{ℕ, ◌+◌, ◌≤◌, Bool, true, false, ◌&&◌, not, if◌then◌else◌, List, filter, Option, None, Some, IfSome, arith}
use Rattle.std.specs.List.{AllByRecursion as Each}
use Rattle.pc_base.specs.declared.span.Span.{Span}
use Rattle.pc_base.specs.declared.transaction.TxnId.{TxnId}
use Rattle.pc_base.specs.declared.version.Version.{Version}
use Rattle.pc_base.specs.Span.{contains, key_below, same_key}
use Rattle.pc_base.specs.Transaction.{same_txn}
use Rattle.pc_base.specs.Versions.{above_newest, first_between, later, newest, sooner, visible}
use Rattle.pc_lists.proofs.Each.{each-at, each-choose, each-filter}
use Rattle.pc_proto.specs.declared.record.Intent.{Intent}
use Rattle.pc_proto.specs.Intents.{first_other, intent_at, kept_if, lesser_key, other_at, own_at}
use Rattle.std.specs.Option.{option_map_or}
use Rattle.std.specs.Prelude.{nat_le, nat_lt}

kept-when : {A : Type 0} (P : A → Type 0) (b : Bool) (x : A) → P x → IfSome (if b then Some x else None) P
kept-when P true x h = h
kept-when P false x h = tt

pub some-kept : {A : Type 0} (P : A → Type 0) (test : A → Bool) (o : Option A) → IfSome o P → IfSome (kept_if test o) P
some-kept P test None h = tt
some-kept P test (Some x) h = kept-when P (test x) x h

one-of : {A : Type 0} (P : A → Type 0) (b : Bool) (x y : A) → P x → P y → IfSome (if b then Some x else Some y) P
one-of P true x y h k = h
one-of P false x y h k = k

one-of-two : {A : Type 0} (P : A → Type 0) (b c : Bool) (x y : A) → P x → P y → IfSome (if b then Some x else if c then Some x else Some y) P
one-of-two P true c x y h k = h
one-of-two P false c x y h k = one-of P c x y h k

module _ (n : ℕ) where
  pub own-within : (id : TxnId) (key : List ℕ) (intents : List (List ℕ × Intent)) → Each (λ e. e.1.ts ≤ n) intents → IfSome (own_at id key intents) (λ i. i.ts ≤ n)
  own-within id key intents a = some-kept (λ i. i.ts ≤ n) (λ i. same_txn i.meta.id id) (intent_at key intents) (each-at (λ i. i.ts ≤ n) same_key key intents a)

  pub other-within : (id : TxnId) (key : List ℕ) (intents : List (List ℕ × Intent)) → Each (λ e. e.1.ts ≤ n) intents → IfSome (other_at id key intents) (λ i. i.ts ≤ n)
  other-within id key intents a = some-kept (λ i. i.ts ≤ n) (λ i. not (same_txn i.meta.id id)) (intent_at key intents) (each-at (λ i. i.ts ≤ n) same_key key intents a)

  lesser-within : (best : Option (List ℕ × Intent)) (e : List ℕ × Intent) → IfSome best (λ e. e.1.ts ≤ n) → e.1.ts ≤ n → IfSome (lesser_key best e) (λ e. e.1.ts ≤ n)
  lesser-within None e h k = k
  lesser-within (Some best) e h k = one-of (λ (e : List ℕ × Intent). e.1.ts ≤ n) (key_below e.0 best.0) e best k h

  pub first-other-within : (span : Span) (ts : ℕ) (id : TxnId) (intents : List (List ℕ × Intent)) → Each (λ e. e.1.ts ≤ n) intents → IfSome (first_other span ts id intents) (λ e. e.1.ts ≤ n)
  first-other-within span ts id intents a =
      let test : List ℕ × Intent → Bool = λ e. contains span e.0 && (nat_le e.1.ts ts && not (same_txn e.1.meta.id id)) in
      each-choose (λ e. e.1.ts ≤ n) lesser_key lesser-within None (filter test intents) tt (each-filter (λ e. e.1.ts ≤ n) test intents a)

  later-within : (best : Option Version) (v : Version) → IfSome best (λ v. v.ts ≤ n) → v.ts ≤ n → IfSome (later best v) (λ v. v.ts ≤ n)
  later-within None v h k = k
  later-within (Some best) v h k = one-of (λ (v : Version). v.ts ≤ n) (nat_lt best.ts v.ts) v best k h

  sooner-within : (best : Option Version) (v : Version) → IfSome best (λ v. v.ts ≤ n) → v.ts ≤ n → IfSome (sooner best v) (λ v. v.ts ≤ n)
  sooner-within None v h k = k
  sooner-within (Some best) v h k =
      one-of-two (λ (v : Version). v.ts ≤ n) (key_below v.key best.key) (same_key v.key best.key && nat_lt v.ts best.ts) v best k h

  pub newest-within : (key : List ℕ) (versions : List Version) → Each (λ v. v.ts ≤ n) versions → IfSome (newest key versions) (λ v. v.ts ≤ n)
  newest-within key versions a =
      let test : Version → Bool = λ v. same_key v.key key in
      each-choose (λ v. v.ts ≤ n) later later-within None (filter test versions) tt (each-filter (λ v. v.ts ≤ n) test versions a)

  pub visible-within : (key : List ℕ) (ts : ℕ) (versions : List Version) → Each (λ v. v.ts ≤ n) versions → IfSome (visible key ts versions) (λ v. v.ts ≤ n)
  visible-within key ts versions a =
      let test : Version → Bool = λ v. same_key v.key key && nat_le v.ts ts in
      each-choose (λ v. v.ts ≤ n) later later-within None (filter test versions) tt (each-filter (λ v. v.ts ≤ n) test versions a)

  pub first-between-within : (span : Span) (from to : ℕ) (versions : List Version) → Each (λ v. v.ts ≤ n) versions → IfSome (first_between span from to versions) (λ v. v.ts ≤ n)
  first-between-within span from to versions a =
      let test : Version → Bool = λ v. contains span v.key && (nat_lt from v.ts && nat_le v.ts to) in
      each-choose (λ v. v.ts ≤ n) sooner sooner-within None (filter test versions) tt (each-filter (λ v. v.ts ≤ n) test versions a)

  above : (o : Option Version) → IfSome o (λ v. v.ts ≤ n) → option_map_or (λ v. v.ts + 1) o 0 ≤ n + 1
  above None h = omega arith
  above (Some v) h = omega arith

  pub above-newest-within : (key : List ℕ) (versions : List Version) → Each (λ v. v.ts ≤ n) versions → above_newest key versions ≤ n + 1
  above-newest-within key versions a = above (newest key versions) (newest-within key versions a)
