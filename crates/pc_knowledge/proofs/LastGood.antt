-- How far the reads of the last transaction are known to be good, after one more event.
use Rattle.std.proofs.Common.{◌≡◌, ℕ, ◌≤◌, Bool, true, false, List, [], ◌∷◌, ◌++◌, Option, Some, map, slice_index_or, refl, sym, subst, ◌∙◌, arith}
use Rattle.std.proofs.lemmas.List.Elements.{All-weaker}
use Rattle.std.specs.Option.{option_to_list}
use Rattle.pc_base.specs.declared.transaction.TxnId.{TxnId}
use Rattle.pc_files.proofs.Ways.{good_more}
use Rattle.pc_knowledge.specs.LastGood.{AreFirstGood, AreGoodUpTo, AreLastGood}
use Rattle.pc_proto.specs.declared.answer.Answer.{Answer}
use Rattle.pc_proto.specs.declared.event.Event.{Event}
use Rattle.pc_proto.specs.declared.event.Event.TheVariants as events
use Rattle.pc_world.specs.Known.{Known, first_if, known_after, open_txn}
use Rattle.pc_world.specs.Known.Reads.{AtOnce, IsGoodTo, Read}
use Rattle.pc_world.specs.Known.Traffic.{Heard}
use Rattle.pc_world.specs.Known.Transactions.{Txn, txn_heard, txn_sent}

some-same : {A : Type 0} (one other : A) → Some one ≡ Some other → one ≡ other
some-same one other e = cc

more-heard : (id : TxnId) (heard more : List Heard) (ts : ℕ) (reads : List Read) → AreGoodUpTo id heard ts reads → AreGoodUpTo id (heard ++ more) ts reads
more-heard id heard more ts reads =
    All-weaker (λ r. (good : ℕ) × IsGoodTo id heard r.span r.ts good × (ts ≤ good)) (λ r. (good : ℕ) × IsGoodTo id (heard ++ more) r.span r.ts good × (ts ≤ good))
    (λ r g. (g.0, good_more id heard more r.span r.ts g.0 g.1, g.2)) reads

first-kept : (txns : List Txn) (heard more : List Heard) (good : ℕ) → AreFirstGood txns heard good → AreFirstGood txns (heard ++ more) good
first-kept txns heard more good are t first = more-heard t.id heard more good t.reads (are t first)

first-mapped : (f : Txn → Txn) → ((t : Txn) → (t.id ≡ (f t).id) × (t.reads ≡ (f t).reads)) → (txns : List Txn) (heard more : List Heard) (good : ℕ)
    → AreFirstGood txns heard good → AreFirstGood (map f txns) (heard ++ more) good
first-mapped f same [] heard more good are u first = absurd cc
first-mapped f same (t ∷ txns) heard more good are u first =
    let now : AreGoodUpTo t.id (heard ++ more) good t.reads = more-heard t.id heard more good t.reads (are t refl) in
    subst (λ (x : Txn). AreGoodUpTo x.id (heard ++ more) good x.reads) (some-same (f t) u first)
    (subst (λ (id : TxnId). AreGoodUpTo id (heard ++ more) good (f t).reads) (same t).0 (subst (λ (rs : List Read). AreGoodUpTo t.id (heard ++ more) good rs) (same t).1 now))

-- where nothing is told
pub last_good_after : (event : Event) → ((answer : Answer) → event ≡ events.Tell answer → ⊥) → (h : Option Heard) (top high : ℕ) (k : Known) (good : ℕ)
    → AreLastGood k good → AreLastGood (known_after event h top high k) good
last_good_after (events.Ask call reading) other h top high k good are = first-kept k.txns k.heard (option_to_list h) good are
last_good_after (events.Send number range request) other h top high k good are = first-mapped (txn_sent request) (λ t. (refl, refl)) k.txns k.heard (option_to_list h) good are
last_good_after (events.Eval actor number reply) other h top high k good are = first-kept k.txns k.heard (option_to_list h) good are
last_good_after (events.Hear number step) other h top high k good are = first-mapped (txn_heard k.sent h) (λ t. (refl, refl)) k.txns k.heard (option_to_list h) good are
last_good_after (events.Tell answer) other h top high k good are = absurd (other answer refl)
last_good_after (events.Meet id step) other h top high k good are = first-kept k.txns k.heard (option_to_list h) good are

-- nothing is known
pub none_known : (txns : List Txn) (heard : List Heard) → AreFirstGood txns heard 0
none_known txns heard t first n r there = ((slice_index_or t.reads n r).ts, AtOnce, omega arith)

-- where all its reads are found to be so
pub last_good_now : (k : Known) (t : Txn) (from : ℕ) → first_if true k.txns ≡ Some t → AreGoodUpTo t.id k.heard from t.reads → AreLastGood k from
last_good_now k t from last up u first = subst (λ (x : Txn). AreGoodUpTo x.id k.heard from x.reads) (some-same t u (sym last ∙ first)) up

first-open : (is_open : Bool) (txns : List Txn) (t : Txn) → first_if is_open txns ≡ Some t → first_if true txns ≡ Some t
first-open is_open [] t e = absurd cc
first-open true (u ∷ txns) t e = e
first-open false (u ∷ txns) t e = absurd cc

-- the open transaction is the last one
pub open_good : (k : Known) (t : Txn) (good ts : ℕ) → AreLastGood k good → open_txn k ≡ Some t → ts ≤ good → AreGoodUpTo t.id k.heard ts t.reads
open_good k t good ts are opened low =
    All-weaker (λ r. (at : ℕ) × IsGoodTo t.id k.heard r.span r.ts at × (good ≤ at)) (λ r. (at : ℕ) × IsGoodTo t.id k.heard r.span r.ts at × (ts ≤ at))
    (λ r g. let far = g.2 in (g.0, g.1, omega (arith, far, low))) t.reads (are t (first-open k.is_open k.txns t opened))
