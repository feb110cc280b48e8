-- The transactions stay numbered by their begins.
use Rattle.std.proofs.Common.{◌≡◌, ℕ, suc, arith, ◌+◌, Bool, true, false, cond, List, [], ◌∷◌, Option, None, Some, length, map, refl, sym, ap, ◌∙◌}
use Rattle.pc_base.specs.declared.transaction.TxnId.{TxnId}
use Rattle.pc_known.specs.Calls.{BeginsNext, TellsNext}
use Rattle.pc_own.specs.Numbered.{AreBegunInOrder}
use Rattle.pc_proto.specs.declared.answer.Answer.{Answer}
use Rattle.pc_proto.specs.declared.answer.Answer.TheVariants as answers
use Rattle.pc_proto.specs.declared.event.Event.{Event}
use Rattle.pc_proto.specs.declared.event.Event.TheVariants as events
use Rattle.pc_world.specs.Known.{Known, told_first, txn_begun, txns_after, txns_told}
use Rattle.pc_world.specs.Known.Statements.{Statement, begun_after, begun_told}
use Rattle.pc_world.specs.Known.Traffic.{Heard, replies_to}
use Rattle.pc_world.specs.Known.Transactions.{Txn, txn_heard, txn_sent}

-- The transactions stand in the order of their begins, and so many were begun.
abbrev pub AreSoMany : ℕ → List Txn → Type 0
AreSoMany begun txns = AreBegunInOrder txns × (begun ≡ length txns)

long : (f : Txn → Txn) (txns : List Txn) → length (map f txns) ≡ length txns
long f [] = refl
long f (t ∷ txns) = ap suc (long f txns)

in-order : (f : Txn → Txn) → ((t : Txn) → (f t).id ≡ t.id) → (txns : List Txn) → AreBegunInOrder txns → AreBegunInOrder (map f txns)
in-order f same [] numbered = numbered
in-order f same (t ∷ txns) numbered =
    (ap (λ id. id.number) (same t) ∙ numbered.0 ∙ ap (λ n. n + 1) (sym (long f txns)), in-order f same txns numbered.1)

mapped : (f : Txn → Txn) → ((t : Txn) → (f t).id ≡ t.id) → (begun : ℕ) (txns : List Txn) → AreSoMany begun txns → AreSoMany begun (map f txns)
mapped f same begun txns h = (in-order f same txns h.0, h.1 ∙ sym (long f txns))

first-told : (answer : Answer) (replied : List Heard) (begun : ℕ) (txns : List Txn) → AreSoMany begun txns → AreSoMany begun (told_first answer replied txns)
first-told answer replied begun [] h = h
first-told answer replied begun (t ∷ txns) h = h

if-told : (is_open : Bool) (answer : Answer) (replied : List Heard) (begun : ℕ) (txns : List Txn) → AreSoMany begun txns → AreSoMany begun (cond is_open (told_first answer replied txns) txns)
if-told true answer replied begun txns h = first-told answer replied begun txns h
if-told false answer replied begun txns h = h

told : (answer : Answer) (k : Known) → TellsNext k.begun answer → AreSoMany k.begun k.txns → AreSoMany (begun_told answer k.begun) (txns_told answer k)
told (answers.Begun id ts) k next h = begins k.statement
  where
    begins : (s : Option Statement) → AreSoMany (k.begun + 1) (txn_begun s id ts ∷ k.txns)
    begins None = ((omega (arith, next, h.1), h.0), omega (arith, h.1))
    begins (Some s) = ((omega (arith, next, h.1), h.0), omega (arith, h.1))
told (answers.Value v) k next h = if-told k.is_open (answers.Value v) (replies_to k.sent_now k.heard_now) k.begun k.txns h
told (answers.Rows rows) k next h = if-told k.is_open (answers.Rows rows) (replies_to k.sent_now k.heard_now) k.begun k.txns h
told answers.Written k next h = if-told k.is_open answers.Written (replies_to k.sent_now k.heard_now) k.begun k.txns h
told (answers.Committed id ts) k next h = if-told k.is_open (answers.Committed id ts) (replies_to k.sent_now k.heard_now) k.begun k.txns h
told (answers.RolledBack id why) k next h = if-told k.is_open (answers.RolledBack id why) (replies_to k.sent_now k.heard_now) k.begun k.txns h
told answers.Learnt k next h = if-told k.is_open answers.Learnt (replies_to k.sent_now k.heard_now) k.begun k.txns h
told answers.NotYet k next h = if-told k.is_open answers.NotYet (replies_to k.sent_now k.heard_now) k.begun k.txns h
told answers.Done k next h = if-told k.is_open answers.Done (replies_to k.sent_now k.heard_now) k.begun k.txns h
told (answers.Blocked holder) k next h = if-told k.is_open (answers.Blocked holder) (replies_to k.sent_now k.heard_now) k.begun k.txns h
told (answers.Unavailable faults) k next h = if-told k.is_open (answers.Unavailable faults) (replies_to k.sent_now k.heard_now) k.begun k.txns h
told (answers.Aborted why) k next h = if-told k.is_open (answers.Aborted why) (replies_to k.sent_now k.heard_now) k.begun k.txns h
told (answers.Restart key ts) k next h = if-told k.is_open (answers.Restart key ts) (replies_to k.sent_now k.heard_now) k.begun k.txns h
told (answers.Unknown id) k next h = if-told k.is_open (answers.Unknown id) (replies_to k.sent_now k.heard_now) k.begun k.txns h
told (answers.Moved ts) k next h = if-told k.is_open (answers.Moved ts) (replies_to k.sent_now k.heard_now) k.begun k.txns h
told (answers.Clock reading) k next h = if-told k.is_open (answers.Clock reading) (replies_to k.sent_now k.heard_now) k.begun k.txns h
told answers.NoTxn k next h = if-told k.is_open answers.NoTxn (replies_to k.sent_now k.heard_now) k.begun k.txns h

-- after one more entry
pub so_many_after : (event : Event) (h : Option Heard) (k : Known) → BeginsNext k.begun event → AreBegunInOrder k.txns → k.begun ≡ length k.txns
    → AreBegunInOrder (txns_after event h k) × (begun_after event k.begun ≡ length (txns_after event h k))
so_many_after (events.Ask call reading) h k next numbered counted = (numbered, counted)
so_many_after (events.Send number range request) h k next numbered counted = mapped (txn_sent request) (λ t. refl) k.begun k.txns (numbered, counted)
so_many_after (events.Eval actor number reply) h k next numbered counted = (numbered, counted)
so_many_after (events.Hear number step) h k next numbered counted = mapped (txn_heard k.sent h) (λ t. refl) k.begun k.txns (numbered, counted)
so_many_after (events.Tell answer) h k next numbered counted = told answer k next (numbered, counted)
so_many_after (events.Meet id step) h k next numbered counted = (numbered, counted)

-- an answer that begins nothing is told to the open transaction
pub told_other : (answer : Answer) (k : Known) → ((id : TxnId) (ts : ℕ) → answer ≡ answers.Begun id ts → ⊥)
    → txns_told answer k ≡ cond k.is_open (told_first answer (replies_to k.sent_now k.heard_now) k.txns) k.txns
told_other (answers.Begun id ts) k other = absurd (other id ts refl)
told_other (answers.Value v) k other = refl
told_other (answers.Rows rows) k other = refl
told_other answers.Written k other = refl
told_other (answers.Committed id ts) k other = refl
told_other (answers.RolledBack id why) k other = refl
told_other answers.Learnt k other = refl
told_other answers.NotYet k other = refl
told_other answers.Done k other = refl
told_other (answers.Blocked holder) k other = refl
told_other (answers.Unavailable faults) k other = refl
told_other (answers.Aborted why) k other = refl
told_other (answers.Restart key ts) k other = refl
told_other (answers.Unknown id) k other = refl
told_other (answers.Moved ts) k other = refl
told_other (answers.Clock reading) k other = refl
told_other answers.NoTxn k other = refl
