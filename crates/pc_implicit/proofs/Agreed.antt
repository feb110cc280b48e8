-- What a history has of a transaction is what its session knows of it.
use Rattle.std.proofs.Common.{◌≡◌, ◌≢◌, ℕ, ◌+◌, ◌<◌, ◌≤◌, Bool, true, false, cond, if◌then◌else◌, List, [], ◌∷◌, ◌++◌, map, filter_map, slice_get, Option, None, Some, Contains, inl, inr, refl, sym, ap, subst, ◌∙◌, arith}
use Rattle.std.specs.Prelude.{⊤}
use Rattle.std.specs.List.{AllByRecursion as Each}
use Rattle.std.specs.Option.{option_or}
use Rattle.pc_base.specs.declared.actor.ActorId.{ActorId}
use Rattle.pc_base.specs.declared.actor.ActorId.TheVariants as actors
use Rattle.pc_base.specs.declared.entry.Entry.{Entry}
use Rattle.pc_base.specs.declared.transaction.TxnId.{TxnId}
use Rattle.pc_base.specs.Transaction.{same_txn}
use Rattle.pc_history.specs.History.{MayFollow}
use Rattle.pc_history.specs.Own.{named_in, own, pair}
use Rattle.pc_implicit.proofs.Doing.{Does, does, same_or_not, told_by_row}
use Rattle.pc_implicit.proofs.Firsts.{first_push, or_none}
use Rattle.pc_lists.proofs.Each.{each-map, each-weaker}
use Rattle.pc_lists.proofs.Lists.{contains_cons, contains_head, contains_nil}
use Rattle.pc_lists.proofs.Same.{same_txn-is, same_txn-self}
use Rattle.pc_proto.specs.declared.answer.Answer.{Answer}
use Rattle.pc_proto.specs.declared.answer.Answer.TheVariants as answers
use Rattle.pc_proto.specs.declared.event.Event.{Event}
use Rattle.pc_proto.specs.declared.event.Event.TheVariants as events
use Rattle.pc_proto.specs.declared.meta.TxnMeta.{TxnMeta}
use Rattle.pc_proto.specs.declared.request.Request.{Request}
use Rattle.pc_proto.specs.declared.request.Request.TheVariants as requests
use Rattle.pc_world.proofs.Knowing.{known_other, known_same}
use Rattle.pc_world.proofs.Prefixes.{run_induction}
use Rattle.pc_world.specs.After.{known_at}
use Rattle.pc_world.specs.Committed.{anchor_in, committed_by, committed_in, key_put, key_sent, told_at}
use Rattle.pc_world.specs.Known.{Known, first_if, learn, open_txn, told_first, txn_begun, txns_after}
use Rattle.pc_world.specs.Known.Statements.{Statement, begun_after, is_open_after}
use Rattle.pc_world.specs.Known.Traffic.{Heard, Sent, heard_by, replies_to}
use Rattle.pc_world.specs.Known.Transactions.{Txn, anchor_sent, txn_heard, txn_sent, txn_told}
use Rattle.pc_world.specs.Local.{Head}
use Rattle.pc_world.specs.MayTell.{MayTellRow}
use Rattle.pc_world.specs.Tell.End.{MayTellCommitted}
use Rattle.pc_world.specs.Run.{IsRun, protocol}
use Rattle.pc_world.specs.Send.Put.{MaySendPut}

-- The timestamp at which an answer says that the transaction began.
abbrev pub begun_told_by : TxnId → Answer → Option ℕ
begun_told_by id (answers.Begun other ts) = if same_txn other id then Some ts else None
begun_told_by id _ = None

-- The timestamp at which an event tells that the transaction began.
abbrev pub begun_told_in : TxnId → Event → Option ℕ
begun_told_in id (events.Tell answer) = begun_told_by id answer
begun_told_in id _ = None

-- The timestamp at which the transaction was first told begun, if it was.
abbrev pub begun_at : TxnId → List (Entry Event) → Option ℕ
begun_at id history = slice_get (filter_map (λ e. begun_told_in id e.event) history) 0

-- The history has of the transaction what its session knows of it.
pub record Agrees (history : List (Entry Event)) (t : Txn) : Type 0 where
  pub anchor : anchor_in t.id history ≡ t.anchor
  pub told : told_at t.id history ≡ t.committed
  pub begin : begun_at t.id history ≡ Some t.begin

-- The history has nothing of the transaction.
pub record IsNew (history : List (Entry Event)) (id : TxnId) : Type 0 where
  pub anchor : anchor_in id history ≡ None
  pub told : told_at id history ≡ None
  pub begin : begun_at id history ≡ None

-- The transactions are the actor's, and each has a lesser number than the one before it.
abbrev pub AreNumbered : ActorId → ℕ → List Txn → Type 0
AreNumbered actor n [] = ⊤
AreNumbered actor n (t ∷ ts) = (actor ≡ actors.Session t.id.session) × (t.id.number < n) × AreNumbered actor t.id.number ts

-- The open transaction was not told committed.
abbrev pub IsUnended : Bool → List Txn → Type 0
IsUnended true (t ∷ ts) = t.committed ≡ None
IsUnended _ _ = ⊤

-- The history has of an actor's transactions what the actor knows of them.
pub record Knows (history : List (Entry Event)) (actor : ActorId) (k : Known) : Type 0 where
  pub numbered : AreNumbered actor (k.begun + 1) k.txns
  pub agrees : Each (Agrees history) k.txns
  pub unended : IsUnended k.is_open k.txns
  pub fresh : (id : TxnId) → actor ≡ actors.Session id.session → k.begun < id.number → IsNew history id

-- an actor's transactions are its own
pub owned : (actor : ActorId) (n : ℕ) (txns : List Txn) (t : Txn) → AreNumbered actor n txns → Contains txns t → (actor ≡ actors.Session t.id.session) × (t.id.number < n)
owned actor n [] t numbered there = absurd (contains_nil t there)
owned actor n (x ∷ xs) t numbered there =
    elim (contains_cons x xs t there) [
      | inl same ↦ subst (λ (y : Txn). (actor ≡ actors.Session y.id.session) × (y.id.number < n)) same (numbered.0, numbered.1)
      | inr later ↦ let is = owned actor x.id.number xs t numbered.2 later in (is.0, omega (arith, is.1, numbered.1))
    ]

-- of an actor's transactions no two have one name
pub one_txn : (actor : ActorId) (n : ℕ) (txns : List Txn) (t u : Txn) → AreNumbered actor n txns → Contains txns t → Contains txns u → t.id ≡ u.id → t ≡ u
one_txn actor n [] t u numbered a b same = absurd (contains_nil t a)
one_txn actor n (x ∷ xs) t u numbered a b same =
    elim (contains_cons x xs t a) [
      | inl first ↦ elim (contains_cons x xs u b) [
        | inl also ↦ sym first ∙ also
        | inr later ↦
            let below = (owned actor x.id.number xs u numbered.2 later).1 in
            let number : x.id.number ≡ u.id.number = ap (λ (y : Txn). y.id.number) first ∙ ap (λ (i : TxnId). i.number) same in
            absurd (omega (arith, below, number))
      ]
      | inr rest ↦ elim (contains_cons x xs u b) [
        | inl also ↦
            let below = (owned actor x.id.number xs t numbered.2 rest).1 in
            let number : x.id.number ≡ t.id.number = ap (λ (y : Txn). y.id.number) also ∙ ap (λ (i : TxnId). i.number) (sym same) in
            absurd (omega (arith, below, number))
        | inr later ↦ one_txn actor x.id.number xs t u numbered.2 rest later same
      ]
    ]

pub open_is : (is_open : Bool) (txns : List Txn) (t : Txn) → first_if is_open txns ≡ Some t → (is_open ≡ true) × (others : List Txn) × (txns ≡ t ∷ others)
open_is true [] t h = absurd cc
open_is true (x ∷ xs) t h = let same : x ≡ t = cc in (refl, xs, ap (λ y. y ∷ xs) same)
open_is false [] t h = absurd cc
open_is false (x ∷ xs) t h = absurd cc

pub open_there : (k : Known) (t : Txn) → open_txn k ≡ Some t → Contains k.txns t
open_there k t h = let is = open_is k.is_open k.txns t h in subst (λ ts. Contains ts t) (sym is.2) (contains_head t is.1)

-- The transaction is the actor's, of a number below this one.
abbrev pub IsOwn : ActorId → ℕ → TxnId → Type 0
IsOwn actor n id = (actor ≡ actors.Session id.session) × (id.number < n)

-- What an event says of a transaction it says of one of the actor's.
abbrev pub SaysOwn : ActorId → ℕ → Event → Type 0
SaysOwn actor n (events.Send number range (requests.Put meta seq ts key value)) = IsOwn actor n meta.id
SaysOwn actor n (events.Tell (answers.Committed id ts)) = IsOwn actor n id
SaysOwn actor n (events.Tell (answers.Begun id ts)) = IsOwn actor n id
SaysOwn actor n event = ⊤

says-put : (k : Known) (actor : ActorId) (meta : TxnMeta) (seq ts : ℕ) (key : List ℕ) (value : Option (List ℕ)) → AreNumbered actor (k.begun + 1) k.txns → MaySendPut k meta seq ts key value → IsOwn actor (k.begun + 1) meta.id
says-put k actor meta seq ts key value numbered may =
    elim may [
      | inl f ↦ subst (λ (m : TxnMeta). IsOwn actor (k.begun + 1) m.id) (sym f.whose) (owned actor (k.begun + 1) k.txns f.t numbered (open_there k f.t f.opened))
      | inr a ↦ subst (λ (m : TxnMeta). IsOwn actor (k.begun + 1) m.id) (sym a.whose.same) (owned actor (k.begun + 1) k.txns a.t numbered a.mine)
    ]

says-begun : (head : Head) (actor : ActorId) (k : Known) (s : Statement) (id : TxnId) (ts : ℕ) → MayTellRow head.splits actor k s (answers.Begun id ts) → (actor ≡ actors.Session id.session) × (id.number ≡ k.begun + 1)
says-begun head (actors.Session session) k s id ts row = (ap actors.Session (sym row.next.0), row.next.1)
says-begun head (actors.Range range) k s id ts row = absurd row.next
says-begun head (actors.Recoverer number) k s id ts row = absurd row.next

-- a begin that is told is of the actor's next transaction
pub begun_next : (head : Head) (actor : ActorId) (k : Known) (id : TxnId) (ts : ℕ) → Does head actor k (events.Tell (answers.Begun id ts)) → (actor ≡ actors.Session id.session) × (id.number ≡ k.begun + 1)
begun_next head actor k id ts may =
    says-begun head actor k may.s id ts (told_by_row head actor k (answers.Begun id ts) may (λ e. absurd cc) (λ e. absurd cc))

-- a commit that is told is of the open transaction
pub committed_row : (head : Head) (actor : ActorId) (k : Known) (id : TxnId) (ts : ℕ) (may : Does head actor k (events.Tell (answers.Committed id ts))) → MayTellCommitted k may.s id ts
committed_row head actor k id ts may = told_by_row head actor k (answers.Committed id ts) may (λ e. absurd cc) (λ e. absurd cc)

pub says_own : (head : Head) (actor : ActorId) (k : Known) (event : Event) → AreNumbered actor (k.begun + 1) k.txns → Does head actor k event → SaysOwn actor (begun_after event k.begun + 1) event
says_own head actor k (events.Send number range (requests.Put meta seq ts key value)) numbered may = says-put k actor meta seq ts key value numbered may.row
says_own head actor k (events.Tell (answers.Committed id ts)) numbered may =
    let row = committed_row head actor k id ts may in
    subst (λ (i : TxnId). IsOwn actor (k.begun + 1) i) (sym row.whose) (owned actor (k.begun + 1) k.txns row.t numbered (open_there k row.t row.opened))
says_own head actor k (events.Tell (answers.Begun id ts)) numbered may = let next = begun_next head actor k id ts may in (next.0, omega (arith, next.1))
says_own head actor k event numbered may = tt

-- The event says nothing of the transaction.
pub record IsSilent (id : TxnId) (event : Event) : Type 0 where
  pub put : key_sent id event ≡ None
  pub told : committed_in id event ≡ None
  pub begin : begun_told_in id event ≡ None

-- what is given for one transaction is not given for another
pub none_unless : {Y : Type 0} (one other : TxnId) (y : Y) (b : Bool) → same_txn one other ≡ b → (one ≡ other → ⊥) → (if b then Some y else None) ≡ None
none_unless one other y true e differ = absurd (differ (same_txn-is one other e))
none_unless one other y false e differ = refl

pub silent : (actor : ActorId) (n : ℕ) (id : TxnId) (event : Event) → SaysOwn actor n event → (IsOwn actor n id → ⊥) → IsSilent id event
silent actor n id (events.Send number range (requests.Put meta seq ts key value)) says differ =
    record { put = none_unless meta.id id key (same_txn meta.id id) refl (λ same. differ (subst (λ i. IsOwn actor n i) same says)); told = refl; begin = refl }
silent actor n id (events.Tell (answers.Committed other ts)) says differ =
    record { put = refl; told = none_unless other id ts (same_txn other id) refl (λ same. differ (subst (λ i. IsOwn actor n i) same says)); begin = refl }
silent actor n id (events.Tell (answers.Begun other ts)) says differ =
    record { put = refl; told = refl; begin = none_unless other id ts (same_txn other id) refl (λ same. differ (subst (λ i. IsOwn actor n i) same says)) }
silent actor n id event says differ = record { put = refl; told = refl; begin = refl }

-- What is known of a transaction before and after an event.
pub record Takes (event : Event) (t u : Txn) : Type 0 where
  pub same : u.id ≡ t.id
  pub anchor : option_or t.anchor (key_sent t.id event) ≡ u.anchor
  pub told : option_or t.committed (committed_in t.id event) ≡ u.committed
  pub begin : u.begin ≡ t.begin

takes-agree : (history : List (Entry Event)) (e : Entry Event) (t u : Txn) → Agrees history t → Takes e.event t u → Agrees (history ++ e ∷ []) u
takes-agree history e t u a s = record {
  anchor = ap (λ i. anchor_in i (history ++ e ∷ [])) s.same ∙ first_push (λ x. key_sent t.id x.event) history e ∙ ap (λ o. option_or o (key_sent t.id e.event)) a.anchor ∙ s.anchor;
  told = ap (λ i. told_at i (history ++ e ∷ [])) s.same ∙ first_push (λ x. committed_in t.id x.event) history e ∙ ap (λ o. option_or o (committed_in t.id e.event)) a.told ∙ s.told;
  begin = ap (λ i. begun_at i (history ++ e ∷ [])) s.same ∙ first_push (λ x. begun_told_in t.id x.event) history e ∙ ap (λ o. option_or o (begun_told_in t.id e.event)) a.begin ∙ ap Some (sym s.begin);
}

or-silent : {Y : Type 0} (o p : Option Y) → p ≡ None → option_or o p ≡ o
or-silent o p none = ap (option_or o) none ∙ or_none o

pub takes-silent : (event : Event) (t : Txn) → IsSilent t.id event → Takes event t t
takes-silent event t s = record { same = refl; anchor = or-silent t.anchor (key_sent t.id event) s.put; told = or-silent t.committed (committed_in t.id event) s.told; begin = refl }

new-silent : (history : List (Entry Event)) (e : Entry Event) (id : TxnId) → IsNew history id → IsSilent id e.event → IsNew (history ++ e ∷ []) id
new-silent history e id n s = record {
  anchor = first_push (λ x. key_sent id x.event) history e ∙ ap (λ o. option_or o (key_sent id e.event)) n.anchor ∙ s.put;
  told = first_push (λ x. committed_in id x.event) history e ∙ ap (λ o. option_or o (committed_in id e.event)) n.told ∙ s.told;
  begin = first_push (λ x. begun_told_in id x.event) history e ∙ ap (λ o. option_or o (begun_told_in id e.event)) n.begin ∙ s.begin;
}

anchor-sent : (id : TxnId) (request : Request) (anchor : Option (List ℕ)) → option_or anchor (key_put id request) ≡ anchor_sent id request anchor
anchor-sent id (requests.Put meta seq ts key value) anchor = by (same_txn meta.id id)
  where
    by : (b : Bool) → option_or anchor (if b then Some key else None) ≡ (if b then option_or anchor (Some key) else anchor)
    by true = refl
    by false = or_none anchor
anchor-sent id request anchor = or_none anchor

-- What is so of each transaction before an event, and after it.
module _ (A B : Txn → Type 0) (event : Event) (on : (t u : Txn) → A t → Takes event t u → B u) where
  each-silent : (txns : List Txn) → ((t : Txn) → IsSilent t.id event) → Each A txns → Each B txns
  each-silent txns quiet each = each-weaker A B (λ t a. on t t a (takes-silent event t (quiet t))) txns each

  each-numbered : (actor : ActorId) (n : ℕ) (txns : List Txn) → ((t : Txn) → actor ≡ actors.Session t.id.session → t.id.number < n → IsSilent t.id event) → AreNumbered actor n txns → Each A txns → Each B txns
  each-numbered actor n [] quiet numbered each = tt
  each-numbered actor n (t ∷ ts) quiet numbered each =
      (on t t each.0 (takes-silent event t (quiet t numbered.0 numbered.1)), each-numbered actor t.id.number ts (λ u own below. quiet u own (omega (arith, below, numbered.1))) numbered.2 each.1)

either-each : (B : Txn → Type 0) (b : Bool) (xs ys : List Txn) → Each B xs → Each B ys → Each B (cond b xs ys)
either-each B true xs ys a c = a
either-each B false xs ys a c = c

-- The answer ends the open transaction, where it tells a commit.
abbrev pub EndsOpen : Known → Answer → Type 0
EndsOpen k (answers.Committed id ts) = (t : Txn) × (open_txn k ≡ Some t) × (id ≡ t.id)
EndsOpen k answer = ⊤

-- What is new after the event is so.
abbrev pub BeginsAs : (Txn → Type 0) → Known → Answer → Type 0
BeginsAs B k (answers.Begun id ts) = (id.number ≡ k.begun + 1) × B (txn_begun k.statement id ts)
BeginsAs B k answer = ⊤

module _ (A B : Txn → Type 0) where
  sent-agree : (number range : ℕ) (request : Request) (txns : List Txn) → ((t u : Txn) → A t → Takes (events.Send number range request) t u → B u) → Each A txns → Each B (map (txn_sent request) txns)
  sent-agree number range request txns on each =
      each-map B (txn_sent request) txns
      (each-weaker A (λ t. B (txn_sent request t))
      (λ t a. on t (txn_sent request t) a (record { same = refl; anchor = anchor-sent t.id request t.anchor; told = or_none t.committed; begin = refl })) txns each)

  heard-agree : (number step : ℕ) (sent : List Sent) (h : Option Heard) (txns : List Txn) → ((t u : Txn) → A t → Takes (events.Hear number step) t u → B u) → Each A txns → Each B (map (txn_heard sent h) txns)
  heard-agree number step sent h txns on each =
      each-map B (txn_heard sent h) txns
      (each-weaker A (λ t. B (txn_heard sent h t))
      (λ t a. on t (txn_heard sent h t) a (record { same = refl; anchor = or_none t.anchor; told = or_none t.committed; begin = refl })) txns each)

  committed-agree : (actor : ActorId) (n : ℕ) (id : TxnId) (ts : ℕ) (replied : List Heard) (is_open : Bool) (txns : List Txn) (t : Txn)
      → ((t u : Txn) → A t → Takes (events.Tell (answers.Committed id ts)) t u → B u)
      → first_if is_open txns ≡ Some t → id ≡ t.id → AreNumbered actor n txns → IsUnended is_open txns → Each A txns
      → Each B (cond is_open (told_first (answers.Committed id ts) replied txns) txns)
  committed-agree actor n id ts replied true [] t on opened same numbered unended each = absurd cc
  committed-agree actor n id ts replied true (x ∷ xs) t on opened same numbered unended each =
      let first : x ≡ t = cc in
      let is : id ≡ x.id = same ∙ ap (λ (y : Txn). y.id) (sym first) in
      let itself : same_txn id x.id ≡ true = ap (λ i. same_txn i x.id) is ∙ same_txn-self x.id in
      let number : id.number ≡ x.id.number = ap (λ (i : TxnId). i.number) is in
      let other : (u : Txn) → u.id.number < x.id.number → IsSilent u.id (events.Tell (answers.Committed id ts)) =
      λ u below. record { put = refl; told = none_unless id u.id ts (same_txn id u.id) refl (λ e. let m : id.number ≡ u.id.number = ap (λ (i : TxnId). i.number) e in omega arith); begin = refl } in (
        on x (txn_told (answers.Committed id ts) replied x) each.0 (record {
          same = refl;
          anchor = or_none x.anchor;
          told = ap (λ o. option_or o (committed_by x.id (answers.Committed id ts))) unended ∙ ap (λ b. if b then Some ts else None) itself;
          begin = refl;
        }),
        each-numbered A B (events.Tell (answers.Committed id ts)) on actor x.id.number xs (λ u own below. other u below) numbered.2 each.1,
      )
  committed-agree actor n id ts replied false [] t on opened same numbered unended each = tt
  committed-agree actor n id ts replied false (x ∷ xs) t on opened same numbered unended each = absurd cc

  other-agree : (answer : Answer) (replied : List Heard) (is_open : Bool) (txns : List Txn) → ((t u : Txn) → A t → Takes (events.Tell answer) t u → B u)
      → ((t : Txn) → Takes (events.Tell answer) t (txn_told answer replied t)) → ((t : Txn) → IsSilent t.id (events.Tell answer)) → Each A txns
      → Each B (cond is_open (told_first answer replied txns) txns)
  other-agree answer replied is_open [] on takes quiet each = either-each B is_open [] [] tt tt
  other-agree answer replied is_open (x ∷ xs) on takes quiet each =
      either-each B is_open (txn_told answer replied x ∷ xs) (x ∷ xs) (on x (txn_told answer replied x) each.0 (takes x), each-silent A B (events.Tell answer) on xs quiet each.1)
      (each-silent A B (events.Tell answer) on (x ∷ xs) quiet each)

  told-agree : (actor : ActorId) (k : Known) (answer : Answer) → ((t u : Txn) → A t → Takes (events.Tell answer) t u → B u)
      → BeginsAs B k answer → EndsOpen k answer → AreNumbered actor (k.begun + 1) k.txns → IsUnended k.is_open k.txns → Each A k.txns
      → Each B (txns_after (events.Tell answer) None k)
  told-agree actor k (answers.Begun id ts) on new ended numbered unended each = (
    new.1,
    each-numbered A B (events.Tell (answers.Begun id ts)) on actor (k.begun + 1) k.txns
        (λ u own below. record {
          put = refl;
          told = refl;
          begin = none_unless id u.id ts (same_txn id u.id) refl (λ e. let m : id.number ≡ u.id.number = ap (λ (i : TxnId). i.number) e in omega (arith, new.0));
        }) numbered each,
  )
  told-agree actor k (answers.Committed id ts) on new ended numbered unended each =
      committed-agree actor (k.begun + 1) id ts (replies_to k.sent_now k.heard_now) k.is_open k.txns ended.0 on ended.1 ended.2 numbered unended each
  told-agree actor k answer on new ended numbered unended each =
      other-agree answer (replies_to k.sent_now k.heard_now) k.is_open k.txns on
      (λ t. record { same = refl; anchor = or_none t.anchor; told = or_none t.committed; begin = refl }) (λ t. record { put = refl; told = refl; begin = refl }) each

-- What an answer has to meet, of an event that tells it.
abbrev pub OnTold : (Answer → Type 0) → Event → Type 0
OnTold P (events.Tell answer) = P answer
OnTold P event = ⊤

-- what is so of each transaction after its actor's event
after-agree : (A B : Txn → Type 0) (actor : ActorId) (k : Known) (event : Event) (h : Option Heard) → ((t u : Txn) → A t → Takes event t u → B u)
    → OnTold (BeginsAs B k) event → OnTold (EndsOpen k) event → AreNumbered actor (k.begun + 1) k.txns → IsUnended k.is_open k.txns → Each A k.txns
    → Each B (txns_after event h k)
after-agree A B actor k (events.Send number range request) h on new ended numbered unended each = sent-agree A B number range request k.txns on each
after-agree A B actor k (events.Hear number step) h on new ended numbered unended each = heard-agree A B number step k.sent h k.txns on each
after-agree A B actor k (events.Tell answer) h on new ended numbered unended each = told-agree A B actor k answer on new ended numbered unended each
after-agree A B actor k event h on new ended numbered unended each = each-silent A B event on k.txns (λ t. record { put = refl; told = refl; begin = refl }) each

module _ (actor : ActorId) where
  numbered-map : (f : Txn → Txn) → ((t : Txn) → t.id ≡ (f t).id) → (n : ℕ) (txns : List Txn) → AreNumbered actor n txns → AreNumbered actor n (map f txns)
  numbered-map f same n [] numbered = tt
  numbered-map f same n (t ∷ ts) numbered =
      subst (λ (i : TxnId). (actor ≡ actors.Session i.session) × (i.number < n) × AreNumbered actor i.number (map f ts)) (same t)
      (numbered.0, numbered.1, numbered-map f same t.id.number ts numbered.2)

  numbered-first : (answer : Answer) (replied : List Heard) (n : ℕ) (is_open : Bool) (txns : List Txn) → AreNumbered actor n txns → AreNumbered actor n (cond is_open (told_first answer replied txns) txns)
  numbered-first answer replied n true [] numbered = tt
  numbered-first answer replied n true (t ∷ ts) numbered = (numbered.0, numbered.1, numbered.2)
  numbered-first answer replied n false txns numbered = numbered

  numbered-begun : (s : Option Statement) (id : TxnId) (ts n : ℕ) (txns : List Txn) → actor ≡ actors.Session id.session → id.number ≡ n → AreNumbered actor n txns → AreNumbered actor (n + 1) (txn_begun s id ts ∷ txns)
  numbered-begun None id ts n txns own same numbered = (own, omega arith, subst (λ m. AreNumbered actor m txns) (sym same) numbered)
  numbered-begun (Some s) id ts n txns own same numbered = (own, omega arith, subst (λ m. AreNumbered actor m txns) (sym same) numbered)

  -- The begin is of the actor's next transaction.
  BeginsNext : Known → Answer → Type 0
  BeginsNext k (answers.Begun id ts) = (actor ≡ actors.Session id.session) × (id.number ≡ k.begun + 1)
  BeginsNext k answer = ⊤

  begins-next : (head : Head) (k : Known) (event : Event) → Does head actor k event → OnTold (BeginsNext k) event
  unfolding BeginsNext
  begins-next head k (events.Tell (answers.Begun id ts)) may = begun_next head actor k id ts may
  begins-next head k (events.Tell answer) may = tt
  begins-next head k event may = tt

  numbered-after : (k : Known) (event : Event) (h : Option Heard) → OnTold (BeginsNext k) event → AreNumbered actor (k.begun + 1) k.txns → AreNumbered actor (begun_after event k.begun + 1) (txns_after event h k)
  unfolding BeginsNext
  numbered-after k (events.Send number range request) h next numbered = numbered-map (txn_sent request) (λ t. refl) (k.begun + 1) k.txns numbered
  numbered-after k (events.Hear number step) h next numbered = numbered-map (txn_heard k.sent h) (λ t. refl) (k.begun + 1) k.txns numbered
  numbered-after k (events.Tell (answers.Begun id ts)) h next numbered = numbered-begun k.statement id ts (k.begun + 1) k.txns next.0 next.1 numbered
  numbered-after k (events.Tell answer) h next numbered = numbered-first answer (replies_to k.sent_now k.heard_now) (k.begun + 1) k.is_open k.txns numbered
  numbered-after k event h next numbered = numbered

unended-map : (f : Txn → Txn) → ((t : Txn) → (f t).committed ≡ t.committed) → (is_open : Bool) (txns : List Txn) → IsUnended is_open txns → IsUnended is_open (map f txns)
unended-map f same true [] unended = tt
unended-map f same true (t ∷ ts) unended = same t ∙ unended
unended-map f same false txns unended = tt

unended-first : (answer : Answer) (replied : List Heard) → ((t : Txn) → (txn_told answer replied t).committed ≡ t.committed) → (is_open : Bool) (txns : List Txn) → IsUnended is_open txns → IsUnended is_open (cond is_open (told_first answer replied txns) txns)
unended-first answer replied same true [] unended = tt
unended-first answer replied same true (t ∷ ts) unended = same t ∙ unended
unended-first answer replied same false txns unended = tt

unended-begun : (s : Option Statement) (id : TxnId) (ts : ℕ) (txns : List Txn) → IsUnended true (txn_begun s id ts ∷ txns)
unended-begun None id ts txns = refl
unended-begun (Some s) id ts txns = refl

unended-after : (k : Known) (event : Event) (h : Option Heard) → IsUnended k.is_open k.txns → IsUnended (is_open_after event k.is_open) (txns_after event h k)
unended-after k (events.Send number range request) h unended = unended-map (txn_sent request) (λ t. refl) k.is_open k.txns unended
unended-after k (events.Hear number step) h unended = unended-map (txn_heard k.sent h) (λ t. refl) k.is_open k.txns unended
unended-after k (events.Tell (answers.Begun id ts)) h unended = unended-begun k.statement id ts k.txns
unended-after k (events.Tell (answers.Committed id ts)) h unended = tt
unended-after k (events.Tell (answers.RolledBack id why)) h unended = tt
unended-after k (events.Tell (answers.Aborted why)) h unended = tt
unended-after k (events.Tell (answers.Unknown id)) h unended = tt
unended-after k (events.Tell answer) h unended = unended-first answer (replies_to k.sent_now k.heard_now) (λ t. refl) k.is_open k.txns unended
unended-after k event h unended = unended

pub begun-grows : (event : Event) (n : ℕ) → n ≤ begun_after event n
begun-grows (events.Tell (answers.Begun id ts)) n = omega arith
begun-grows (events.Tell answer) n = omega arith
begun-grows event n = omega arith

ends-open : (head : Head) (actor : ActorId) (k : Known) (event : Event) → Does head actor k event → OnTold (EndsOpen k) event
ends-open head actor k (events.Tell (answers.Committed id ts)) may = let row = committed_row head actor k id ts may in (row.t, row.opened, row.whose)
ends-open head actor k (events.Tell answer) may = tt
ends-open head actor k event may = tt

begins-as : (head : Head) (actor : ActorId) (B : Txn → Type 0) (k : Known) (event : Event) → Does head actor k event
    → ((id : TxnId) (ts : ℕ) → event ≡ events.Tell (answers.Begun id ts) → actor ≡ actors.Session id.session → id.number ≡ k.begun + 1 → B (txn_begun k.statement id ts))
    → OnTold (BeginsAs B k) event
begins-as head actor B k (events.Tell (answers.Begun id ts)) may new = let next = begun_next head actor k id ts may in (next.1, new id ts refl next.0 next.1)
begins-as head actor B k (events.Tell answer) may new = tt
begins-as head actor B k event may new = tt

module _ (history : List (Entry Event)) (e : Entry Event) where
  begun-agrees : (s : Option Statement) (id : TxnId) (ts : ℕ) → e.event ≡ events.Tell (answers.Begun id ts) → IsNew history id → Agrees (history ++ e ∷ []) (txn_begun s id ts)
  begun-agrees s id ts is new = by s
    where
      anchor : anchor_in id (history ++ e ∷ []) ≡ None
      anchor = first_push (λ x. key_sent id x.event) history e ∙ ap (λ o. option_or o (key_sent id e.event)) new.anchor ∙ ap (key_sent id) is

      told : told_at id (history ++ e ∷ []) ≡ None
      told = first_push (λ x. committed_in id x.event) history e ∙ ap (λ o. option_or o (committed_in id e.event)) new.told ∙ ap (committed_in id) is

      begin : begun_at id (history ++ e ∷ []) ≡ Some ts
      begin =
          first_push (λ x. begun_told_in id x.event) history e ∙ ap (λ o. option_or o (begun_told_in id e.event)) new.begin ∙ ap (begun_told_in id) is
          ∙ ap (λ b. if b then Some ts else None) (same_txn-self id)

      by : (s : Option Statement) → Agrees (history ++ e ∷ []) (txn_begun s id ts)
      by None = record { anchor = anchor; told = told; begin = begin }
      by (Some s) = record { anchor = anchor; told = told; begin = begin }

  knows-own : (head : Head) (named : Option (Entry Event)) (k : Known) → Does head e.actor k e.event → Knows history e.actor k → Knows (history ++ e ∷ []) e.actor (learn (pair e named) k)
  knows-own head named k may knows =
      let says = says_own head e.actor k e.event knows.numbered may in
      let h = heard_by e.event named k.sent in
      let B = Agrees (history ++ e ∷ []) in
      record {
        numbered = numbered-after e.actor k e.event h (begins-next e.actor head k e.event may) knows.numbered;
        agrees =
            after-agree (Agrees history) B e.actor k e.event h (takes-agree history e)
            (begins-as head e.actor B k e.event may (λ id ts is own number. begun-agrees k.statement id ts is (knows.fresh id own (omega (arith, number)))))
            (ends-open head e.actor k e.event may) knows.numbered knows.unended knows.agrees;
        unended = unended-after k e.event h knows.unended;
        fresh = λ id own below.
            let grown : k.begun ≤ begun_after e.event k.begun = begun-grows e.event k.begun in
            new-silent history e id (knows.fresh id own (omega (arith, below)))
            (silent e.actor (begun_after e.event k.begun + 1) id e.event says (λ other. let low : id.number < begun_after e.event k.begun + 1 = other.1 in omega (arith, below)));
      }

  -- an entry of another actor says nothing of this one's transactions
  knows-still : (actor : ActorId) (k : Known) → e.actor ≢ actor → ((id : TxnId) → actor ≡ actors.Session id.session → IsSilent id e.event) → Knows history actor k → Knows (history ++ e ∷ []) actor k
  knows-still actor k differ quiet knows = record {
    numbered = knows.numbered;
    agrees = each-numbered (Agrees history) (Agrees (history ++ e ∷ [])) e.event (takes-agree history e) actor (k.begun + 1) k.txns (λ t own below. quiet t.id own) knows.numbered knows.agrees;
    unended = knows.unended;
    fresh = λ id own below. new-silent history e id (knows.fresh id own below) (quiet id own);
  }

module _ (head : Head) where
  -- in a run the history has of an actor's transactions what the actor knows of them
  pub agreed : (history : List (Entry Event)) → IsRun head history → (actor : ActorId) → Knows history actor (known_at head actor history)
  agreed = run_induction head (λ history. (actor : ActorId) → Knows history actor (known_at head actor history))
      (λ actor. record { numbered = tt; agrees = tt; unended = tt; fresh = λ id own below. record { anchor = refl; told = refl; begin = refl } })
      (λ history e run may all actor. elim (same_or_not e.actor actor) [
        | inl same ↦ subst (λ a. Knows (history ++ e ∷ []) a (known_at head a (history ++ e ∷ []))) same (own-entry history e may (all e.actor))
        | inr differ ↦
            subst (Knows (history ++ e ∷ []) actor) (sym (known_other head actor history e differ))
            (knows-still history e actor (known_at head actor history) differ
            (λ id own. silent e.actor _ id e.event (says history e may (all e.actor)) (λ other. differ (other.0 ∙ sym own))) (all actor))
      ])
    where
      act : (history : List (Entry Event)) (e : Entry Event) → MayFollow (protocol head) history e → Does head e.actor (known_at head e.actor history) e.event
      act history e may = does head e.actor (own (protocol head) e.actor history) e.event (named_in (protocol head) history e.event) may.local.next

      says : (history : List (Entry Event)) (e : Entry Event) → MayFollow (protocol head) history e → Knows history e.actor (known_at head e.actor history) → SaysOwn e.actor (begun_after e.event (known_at head e.actor history).begun + 1) e.event
      says history e may knows = says_own head e.actor (known_at head e.actor history) e.event knows.numbered (act history e may)

      own-entry : (history : List (Entry Event)) (e : Entry Event) → MayFollow (protocol head) history e → Knows history e.actor (known_at head e.actor history) → Knows (history ++ e ∷ []) e.actor (known_at head e.actor (history ++ e ∷ []))
      own-entry history e may knows =
          let named = named_in (protocol head) history e.event in
          subst (Knows (history ++ e ∷ []) e.actor) (sym (known_same head e.actor history e refl)) (knows-own history e head named (known_at head e.actor history) (act history e may) knows)
