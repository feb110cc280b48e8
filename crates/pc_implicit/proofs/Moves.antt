-- What one event of its session does to a transaction, as its session knows it and as what it did.
use Rattle.std.proofs.Common.{◌≡◌, ℕ, ◌+◌, Bool, true, false, cond, ◌&&◌, ◌==◌, if◌then◌else◌, not, ◌⊎◌, inl, inr, List, [], ◌∷◌, ◌++◌, filter, map, Option, None, Some, Contains, refl, sym, ap, subst, ◌∙◌}
use Rattle.std.proofs.lemmas.Bool.{and_from, eq-eqb}
use Rattle.std.proofs.lemmas.List.{map-append}
use Rattle.std.proofs.lemmas.List.Elements.{Contains-append_left, Contains-push}
use Rattle.std.specs.List.{list_any}
use Rattle.std.specs.Bool.{MatchBool}
use Rattle.pc_base.specs.declared.actor.ActorId.{ActorId}
use Rattle.pc_base.specs.declared.transaction.TxnId.{TxnId}
use Rattle.pc_base.specs.Transaction.{same_txn}
use Rattle.pc_implicit.proofs.Agreed.{AreNumbered, one_txn, open_is, open_there}
use Rattle.pc_implicit.proofs.Doing.{Does, told_by_row}
use Rattle.pc_implicit.proofs.Doings.{IsCallOf, call_is}
use Rattle.pc_implicit.proofs.SessionCommits.{written}
use Rattle.pc_implicit.proofs.SessionReads.{plain}
use Rattle.pc_implicit.proofs.Writings.{RiseFrom, any_contained, any_filtered, any_written, is_a_write, last_written, none_above, written_asked, written_heard, written_map}
use Rattle.pc_lists.proofs.Lists.{contains_cons, contains_filter, contains_head, contains_in_map, contains_map, contains_nil, contains_tail}
use Rattle.pc_lists.proofs.Same.{same_txn-is, same_txn-self}
use Rattle.pc_proto.specs.declared.answer.Answer.{Answer}
use Rattle.pc_proto.specs.declared.answer.Answer.TheVariants as answers
use Rattle.pc_proto.specs.declared.call.Call.{Call}
use Rattle.pc_proto.specs.declared.call.Call.TheVariants as calls
use Rattle.pc_proto.specs.declared.event.Event.{Event}
use Rattle.pc_proto.specs.declared.event.Event.TheVariants as events
use Rattle.pc_proto.specs.declared.meta.TxnMeta.{TxnMeta}
use Rattle.pc_proto.specs.declared.reply.Origin.{Origin}
use Rattle.pc_proto.specs.declared.request.Request.{Request}
use Rattle.pc_proto.specs.declared.request.Request.TheVariants as requests
use Rattle.pc_world.specs.Known.{Known, call_of, call_in, first_if, open_txn, told_first, txn_begun, txns_after}
use Rattle.pc_world.specs.Known.Reads.{reads_heard}
use Rattle.pc_world.specs.Known.Statements.{Statement}
use Rattle.pc_world.specs.Known.Traffic.{Heard, replies_to}
use Rattle.pc_world.specs.Known.Transactions.{Txn, txn_heard, txn_sent, txn_told}
use Rattle.pc_world.specs.Known.Writes.{Write as WriteMade, asked_again, last_seq_of, with_put, writes_sent}
use Rattle.pc_world.specs.Local.{Head}
use Rattle.pc_world.specs.MayTell.{MayTell, MayTellRow, is_past_range, needs_txn}
use Rattle.pc_world.specs.Operations.{Doing, Operation, Read, ReadAll, Write, done_after, done_sent, done_told, is_last_after, is_write}
use Rattle.pc_world.specs.Send.Put.{AsksFor, MaySendAgain, MaySendFirst, MaySendPut}
use Rattle.pc_world.specs.Tell.Data.{MayTellRows, MayTellValue}
use Rattle.pc_world.specs.Tell.End.{MayTellRestart}

-- ---- which transaction is the last one

-- The transaction stands first in the list.
abbrev pub is_first : TxnId → List Txn → Bool
is_first id [] = false
is_first id (t ∷ ts) = same_txn t.id id

first-map : (id : TxnId) (f : Txn → Txn) → ((t : Txn) → (f t).id ≡ t.id) → (txns : List Txn) → is_first id (map f txns) ≡ is_first id txns
first-map id f same [] = refl
first-map id f same (t ∷ ts) = ap (λ i. same_txn i id) (same t)

first-told : (id : TxnId) (answer : Answer) (replied : List Heard) (b : Bool) (txns : List Txn) → is_first id (cond b (told_first answer replied txns) txns) ≡ is_first id txns
first-told id answer replied true [] = refl
first-told id answer replied true (t ∷ ts) = refl
first-told id answer replied false txns = refl

first-begun : (id other : TxnId) (s : Option Statement) (ts : ℕ) (txns : List Txn) → is_first id (txn_begun s other ts ∷ txns) ≡ same_txn other id
first-begun id other None ts txns = refl
first-begun id other (Some s) ts txns = refl

-- a transaction that was its session's last one stays so as long as it stands first
pub first_after : (id : TxnId) (event : Event) (h : Option Heard) (k : Known) → is_last_after id event (is_first id k.txns) ≡ is_first id (txns_after event h k)
first_after id (events.Send number range request) h k = sym (first-map id (txn_sent request) (λ t. refl) k.txns)
first_after id (events.Hear number step) h k = sym (first-map id (txn_heard k.sent h) (λ t. refl) k.txns)
first_after id (events.Tell (answers.Begun other ts)) h k = sym (first-begun id other k.statement ts k.txns)
first_after id (events.Tell answer) h k = sym (first-told id answer (replies_to k.sent_now k.heard_now) k.is_open k.txns)
first_after id event h k = refl

-- ---- transactions of one actor

-- the transaction that stands first is the open one, if any is open
pub first_is_open : (actor : ActorId) (k : Known) (t : Txn) → AreNumbered actor (k.begun + 1) k.txns → Contains k.txns t → is_first t.id k.txns ≡ true → k.is_open ≡ true → open_txn k ≡ Some t
first_is_open actor k t numbered there first opened =
    ap (λ b. first_if b k.txns) opened ∙ by k.txns first there (λ u also same. one_txn actor (k.begun + 1) k.txns u t numbered also there same)
  where
    by : (txns : List Txn) → is_first t.id txns ≡ true → Contains txns t → ((u : Txn) → Contains txns u → u.id ≡ t.id → u ≡ t) → first_if true txns ≡ Some t
    by [] first there one = absurd cc
    by (x ∷ xs) first there one = ap Some (one x (contains_head x xs) (same_txn-is x.id t.id first))

pub open_is_first : (k : Known) (t : Txn) → open_txn k ≡ Some t → (is_first t.id k.txns ≡ true) × (k.is_open ≡ true)
open_is_first k t opened =
    let is = open_is k.is_open k.txns t opened in
    (ap (is_first t.id) is.2 ∙ same_txn-self t.id, is.0)

-- ---- what an event does

-- The writes that were done are those that are known, and their sequences rise.
pub record IsListed (t : Txn) (done : List Operation) : Type 0 where
  pub same : filter is_a_write done ≡ map written t.writes
  pub rise : RiseFrom 0 (map written t.writes)

-- The answer tells this read, to this call.
abbrev pub TellsRead : Answer → Option Call → Operation → Type 0
TellsRead (answers.Value value) call (Read key found) = (call ≡ Some (calls.Get key)) × (found ≡ value)
TellsRead (answers.Rows rows) call (ReadAll span found) = (call ≡ Some (calls.Scan span)) × (found ≡ map plain rows)
TellsRead answer call o = ⊥

-- The transaction before and after an event, and what it did until before and after it: it stays as it was, or it is open and puts
-- one more write, reads once more, or begins anew.
pub data Moves (k : Known) (event : Event) (t u : Txn) (done after : List Operation) : Type 0 where
  Stays : u.epoch ≡ t.epoch → u.reads ≡ t.reads → map written u.writes ≡ map written t.writes → after ≡ done → Moves k event t u done after
  Puts : (key : List ℕ) (seq : ℕ) (value : Option (List ℕ)) → open_txn k ≡ Some t → AsksFor (call_of k) key value → u.epoch ≡ t.epoch → u.reads ≡ t.reads
      → map written u.writes ≡ map written t.writes ++ Write key seq value ∷ [] → after ≡ done ++ Write key seq value ∷ [] → seq ≡ last_seq_of t.writes + 1 → Moves k event t u done after
  Reads : (answer : Answer) (o : Operation) → open_txn k ≡ Some t → event ≡ events.Tell answer → TellsRead answer (call_of k) o → u.epoch ≡ t.epoch
      → u.reads ≡ t.reads ++ reads_heard (replies_to k.sent_now k.heard_now) → map written u.writes ≡ map written t.writes → after ≡ done ++ o ∷ [] → Moves k event t u done after
  Restarts : (key : List ℕ) (ts : ℕ) → open_txn k ≡ Some t → event ≡ events.Tell (answers.Restart key ts) → u.epoch ≡ t.epoch + 1 → u.reads ≡ [] → u.writes ≡ [] → after ≡ [] → Moves k event t u done after

-- The transaction after an event, and what it did.
pub record Moved (k : Known) (event : Event) (h : Option Heard) (t : Txn) (done after : List Operation) : Type 0 where
  pub u : Txn
  pub there : Contains (txns_after event h k) u
  pub named : u.id ≡ t.id
  pub moves : Moves k event t u done after

-- An actor that knows its transactions, and one of them.
module _ (head : Head) (actor : ActorId) (k : Known) (numbered : AreNumbered actor (k.begun + 1) k.txns) (t : Txn) (mine : Contains k.txns t) where
  same-one : (u : Txn) → Contains k.txns u → u.id ≡ t.id → u ≡ t
  same-one u there same = one_txn actor (k.begun + 1) k.txns u t numbered there mine same

  module _ (event : Event) (meta : TxnMeta) (seq ts : ℕ) (key : List ℕ) (value : Option (List ℕ)) (done : List Operation) (listed : IsListed t done) where
    any-done : (b : Bool) → list_any (is_write seq) (map written t.writes) ≡ b → list_any (is_write seq) done ≡ b
    any-done b is = sym (any_filtered seq done) ∙ ap (list_any (is_write seq)) listed.same ∙ is

    -- a put for the first time
    first-put : MaySendFirst k meta seq ts key value → same_txn meta.id t.id ≡ true
        → Moves k event t (txn_sent (requests.Put meta seq ts key value) t) done (done_sent t.id (requests.Put meta seq ts key value) done)
    first-put f same =
        let is : f.t ≡ t = same-one f.t (open_there k f.t f.opened) (ap (λ (m : TxnMeta). m.id) (sym f.whose) ∙ same_txn-is meta.id t.id same) in
        let epoch : meta.epoch ≡ t.epoch = ap (λ (m : TxnMeta). m.epoch) f.whose ∙ ap (λ (x : Txn). x.epoch) is in
        let next : seq ≡ last_seq_of t.writes + 1 = f.next ∙ ap (λ (x : Txn). last_seq_of x.writes + 1) is in
        let none : list_any (is_write seq) (map written t.writes) ≡ false = none_above seq (map written t.writes) (next ∙ ap (λ n. n + 1) (last_written t.writes)) in
        let new : WriteMade = record { key = key; seq = seq; value = value; asked = ts ∷ []; proofs = [] } in
        let own : (same_txn meta.id t.id && meta.epoch == t.epoch) ≡ true = and_from (same_txn meta.id t.id) (meta.epoch == t.epoch) same (eq-eqb meta.epoch t.epoch epoch) in
        let writes : writes_sent t.id t.epoch (requests.Put meta seq ts key value) t.writes ≡ t.writes ++ new ∷ [] =
        ap (λ b. if b then with_put seq ts key value t.writes else t.writes) own
        ∙ ap (λ b. if b then map (asked_again seq ts) t.writes else t.writes ++ new ∷ []) (any_written seq t.writes ∙ none) in
        let adds : (same_txn meta.id t.id && not (list_any (is_write seq) done)) ≡ true = and_from (same_txn meta.id t.id) (not (list_any (is_write seq) done)) same (ap not (any-done false none)) in
        Puts key seq value (f.opened ∙ ap Some is) f.asked refl refl (ap (map written) writes ∙ map-append written t.writes (new ∷ []))
        (ap (λ b. if b then done ++ Write key seq value ∷ [] else done) adds) next

    -- the same put again
    again-put : MaySendAgain k meta seq ts key value → same_txn meta.id t.id ≡ true
        → Moves k event t (txn_sent (requests.Put meta seq ts key value) t) done (done_sent t.id (requests.Put meta seq ts key value) done)
    again-put a same =
        let is : a.t ≡ t = same-one a.t a.mine (ap (λ (m : TxnMeta). m.id) (sym a.whose.same) ∙ same_txn-is meta.id t.id same) in
        let epoch : meta.epoch ≡ t.epoch = ap (λ (m : TxnMeta). m.epoch) a.whose.same ∙ ap (λ (x : Txn). x.epoch) is in
        let own : (same_txn meta.id t.id && meta.epoch == t.epoch) ≡ true = and_from (same_txn meta.id t.id) (meta.epoch == t.epoch) same (eq-eqb meta.epoch t.epoch epoch) in
        let there : Contains t.writes a.w = subst (λ (x : Txn). Contains x.writes a.w) is a.written in
        let some : list_any (λ w. w.seq == seq) t.writes ≡ true = ap (λ n. list_any (λ w. w.seq == n) t.writes) a.same_sequence ∙ any_contained t.writes a.w there in
        let new : WriteMade = record { key = key; seq = seq; value = value; asked = ts ∷ []; proofs = [] } in
        let writes : writes_sent t.id t.epoch (requests.Put meta seq ts key value) t.writes ≡ map (asked_again seq ts) t.writes =
        ap (λ b. if b then with_put seq ts key value t.writes else t.writes) own
        ∙ ap (λ b. if b then map (asked_again seq ts) t.writes else t.writes ++ new ∷ []) some in
        let adds : (same_txn meta.id t.id && not (list_any (is_write seq) done)) ≡ false =
        ap (λ b. b && not (list_any (is_write seq) done)) same ∙ ap not (any-done true (sym (any_written seq t.writes) ∙ some)) in
        Stays refl refl (ap (map written) writes ∙ written_map (asked_again seq ts) (written_asked seq ts) t.writes)
        (ap (λ b. if b then done ++ Write key seq value ∷ [] else done) adds)

    put-moves : MaySendPut k meta seq ts key value → Moves k event t (txn_sent (requests.Put meta seq ts key value) t) done (done_sent t.id (requests.Put meta seq ts key value) done)
    put-moves may = by (same_txn meta.id t.id) refl
      where
        by : (b : Bool) → same_txn meta.id t.id ≡ b → Moves k event t (txn_sent (requests.Put meta seq ts key value) t) done (done_sent t.id (requests.Put meta seq ts key value) done)
        by true same = elim may [
          | inl f ↦ first-put f same
          | inr a ↦ again-put a same
        ]
        by false other =
            Stays refl refl
            (ap (map written) (ap (λ b. if (b && meta.epoch == t.epoch) then with_put seq ts key value t.writes else t.writes) other))
            (ap (λ b. if (b && not (list_any (is_write seq) done)) then done ++ Write key seq value ∷ [] else done) other)

  -- a put is among what was done then, and of the transaction's present epoch
  module _ (meta : TxnMeta) (seq ts : ℕ) (key : List ℕ) (value : Option (List ℕ)) (done : List Operation) (listed : IsListed t done) where
    first-among : MaySendFirst k meta seq ts key value → same_txn meta.id t.id ≡ true → (meta.epoch ≡ t.epoch) × Contains (done_sent t.id (requests.Put meta seq ts key value) done) (Write key seq value)
    first-among f same =
        let is : f.t ≡ t = same-one f.t (open_there k f.t f.opened) (ap (λ (m : TxnMeta). m.id) (sym f.whose) ∙ same_txn-is meta.id t.id same) in
        let next : seq ≡ last_seq_of t.writes + 1 = f.next ∙ ap (λ (x : Txn). last_seq_of x.writes + 1) is in
        let none : list_any (is_write seq) (map written t.writes) ≡ false = none_above seq (map written t.writes) (next ∙ ap (λ n. n + 1) (last_written t.writes)) in
        let any : list_any (is_write seq) done ≡ false = sym (any_filtered seq done) ∙ ap (list_any (is_write seq)) listed.same ∙ none in
        let adds : (same_txn meta.id t.id && not (list_any (is_write seq) done)) ≡ true = and_from (same_txn meta.id t.id) (not (list_any (is_write seq) done)) same (ap not any) in (
          ap (λ (m : TxnMeta). m.epoch) f.whose ∙ ap (λ (x : Txn). x.epoch) is,
          subst (λ b. Contains (if b then done ++ Write key seq value ∷ [] else done) (Write key seq value)) (sym adds) (Contains-push done (Write key seq value)),
        )

    again-among : MaySendAgain k meta seq ts key value → same_txn meta.id t.id ≡ true → (meta.epoch ≡ t.epoch) × Contains (done_sent t.id (requests.Put meta seq ts key value) done) (Write key seq value)
    again-among a same =
        let is : a.t ≡ t = same-one a.t a.mine (ap (λ (m : TxnMeta). m.id) (sym a.whose.same) ∙ same_txn-is meta.id t.id same) in
        let there : Contains t.writes a.w = subst (λ (x : Txn). Contains x.writes a.w) is a.written in
        let listed_there : Contains (filter is_a_write done) (written a.w) = subst (λ os. Contains os (written a.w)) (sym listed.same) (contains_map written t.writes a.w there) in
        let this : written a.w ≡ Write key seq value = λ i. Write (sym a.same_place i) (sym a.same_sequence i) (sym a.same_value i) in
        let inside : Contains done (Write key seq value) = subst (Contains done) this (contains_filter is_a_write done (written a.w) listed_there).0 in (
          ap (λ (m : TxnMeta). m.epoch) a.whose.same ∙ ap (λ (x : Txn). x.epoch) is,
          kept (same_txn meta.id t.id && not (list_any (is_write seq) done)) inside,
        )
      where
        kept : (b : Bool) → Contains done (Write key seq value) → Contains (if b then done ++ Write key seq value ∷ [] else done) (Write key seq value)
        kept true there = Contains-append_left done (Write key seq value ∷ []) (Write key seq value) there
        kept false there = there

    pub put_among : MaySendPut k meta seq ts key value → same_txn meta.id t.id ≡ true → (meta.epoch ≡ t.epoch) × Contains (done_sent t.id (requests.Put meta seq ts key value) done) (Write key seq value)
    put_among may same = elim may [
      | inl f ↦ first-among f same
      | inr a ↦ again-among a same
    ]

  sent-moves : (event : Event) (request : Request) (number range : ℕ) (done : List Operation) → IsListed t done → Does head actor k (events.Send number range request)
      → Moves k event t (txn_sent request t) done (done_sent t.id request done)
  sent-moves event (requests.Put meta seq ts key value) number range done listed may = put-moves event meta seq ts key value done listed may.row
  sent-moves event request number range done listed may = Stays refl refl refl refl

  -- ---- what is told

  told-if : (b : Bool) (answer : Answer) (call : Option Call) (done : List Operation) → done_told answer call done ≡ done → (if b then done_told answer call done else done) ≡ done
  told-if true answer call done same = same
  told-if false answer call done same = refl

  -- a call that needs an open transaction, and is told anything else than that there is none, finds one
  needs-open : (answer : Answer) (may : MayTell head.splits actor k answer) → (answer ≡ answers.NoTxn → ⊥) → needs_txn may.s.call ≡ true → k.is_open ≡ true
  needs-open answer may some needs = by k.is_open refl
    where
      by : (b : Bool) → k.is_open ≡ b → k.is_open ≡ true
      by true is = is
      by false is =
          let both : (needs_txn may.s.call && not k.is_open) ≡ true = and_from (needs_txn may.s.call) (not k.is_open) needs (ap not is) in
          absurd (some (subst (λ c. MatchBool c (answer ≡ answers.NoTxn) (MatchBool (is_past_range may.s) (answer ≡ answers.Clock may.s.reading) (MayTellRow head.splits actor k may.s answer))) both may.told))

  value-row : (value : Option (List ℕ)) (may : MayTell head.splits actor k (answers.Value value)) → MayTellValue k may.s value
  value-row value may = told_by_row head actor k (answers.Value value) may (λ e. absurd cc) (λ e. absurd cc)

  rows-row : (rows : List (List ℕ × Origin × List ℕ)) (may : MayTell head.splits actor k (answers.Rows rows)) → MayTellRows head.splits k may.s rows
  rows-row rows may = told_by_row head actor k (answers.Rows rows) may (λ e. absurd cc) (λ e. absurd cc)

  restart-row : (key : List ℕ) (ts : ℕ) (may : MayTell head.splits actor k (answers.Restart key ts)) → MayTellRestart k may.s key ts
  restart-row key ts may = told_by_row head actor k (answers.Restart key ts) may (λ e. absurd cc) (λ e. absurd cc)

  -- where no transaction is open nothing is read, and nothing begins anew
  told-closed : (answer : Answer) → MayTell head.splits actor k answer → k.is_open ≡ false → (call : Option Call) (done : List Operation) → done_told answer call done ≡ done
  told-closed (answers.Value value) may closed call done =
      let row = value-row value may in
      absurd (let both : true ≡ false = sym (needs-open (answers.Value value) may (λ e. absurd cc) (ap needs_txn row.asked)) ∙ closed in cc both)
  told-closed (answers.Rows rows) may closed call done =
      let row = rows-row rows may in
      absurd (let both : true ≡ false = sym (needs-open (answers.Rows rows) may (λ e. absurd cc) (ap needs_txn row.asked)) ∙ closed in cc both)
  told-closed (answers.Restart key ts) may closed call done =
      let row = restart-row key ts may in
      absurd (let both : true ≡ false = sym (open_is k.is_open k.txns row.t row.opened).0 ∙ closed in cc both)
  told-closed answer may closed call done = refl

  call-now : (s : Statement) → k.statement ≡ Some s → call_of k ≡ Some s.call
  call-now s opened = ap call_in opened

  -- what the open transaction is told
  told-open : (answer : Answer) → MayTell head.splits actor k answer → open_txn k ≡ Some t → (call : Option Call) → IsCallOf call k.statement → (done : List Operation)
      → Moves k (events.Tell answer) t (txn_told answer (replies_to k.sent_now k.heard_now) t) done (done_told answer call done)
  told-open (answers.Value value) may opened call of_call done =
      let row = value-row value may in
      let asked : call ≡ Some (calls.Get row.key) = call_is call k.statement may.s of_call may.opened ∙ ap Some row.asked in
      Reads (answers.Value value) (Read row.key value) opened refl (call-now may.s may.opened ∙ ap Some row.asked, refl) refl refl refl (ap (λ c. done_told (answers.Value value) c done) asked)
  told-open (answers.Rows rows) may opened call of_call done =
      let row = rows-row rows may in
      let asked : call ≡ Some (calls.Scan row.span) = call_is call k.statement may.s of_call may.opened ∙ ap Some row.asked in
      Reads (answers.Rows rows) (ReadAll row.span (map plain rows)) opened refl (call-now may.s may.opened ∙ ap Some row.asked, refl) refl refl refl (ap (λ c. done_told (answers.Rows rows) c done) asked)
  told-open (answers.Restart key ts) may opened call of_call done = Restarts key ts opened refl refl refl refl refl
  told-open answer may opened call of_call done = Stays refl refl refl refl

  in-rest : (answer : Answer) (replied : List Heard) (txns : List Txn) → Contains txns t → is_first t.id txns ≡ false → Contains (told_first answer replied txns) t
  in-rest answer replied [] there other = absurd (contains_nil t there)
  in-rest answer replied (x ∷ xs) there other =
      elim (contains_cons x xs t there) [
        | inl same ↦ absurd (let both : true ≡ false = sym (same_txn-self t.id) ∙ ap (λ (y : Txn). same_txn y.id t.id) (sym same) ∙ other in cc both)
        | inr later ↦ contains_tail (txn_told answer replied x) xs t later
      ]

  in-first : (answer : Answer) (replied : List Heard) (txns others : List Txn) → txns ≡ t ∷ others → Contains (told_first answer replied txns) (txn_told answer replied t)
  in-first answer replied txns others is = subst (λ ts. Contains (told_first answer replied ts) (txn_told answer replied t)) (sym is) (contains_head (txn_told answer replied t) others)

  module _ (d : Doing) (first : d.is_last ≡ is_first t.id k.txns) (of_call : IsCallOf d.call k.statement) where
    -- an answer that begins no transaction
    tell-moves : (answer : Answer) → MayTell head.splits actor k answer
        → (u : Txn) × Contains (cond k.is_open (told_first answer (replies_to k.sent_now k.heard_now) k.txns) k.txns) u × (u.id ≡ t.id) × Moves k (events.Tell answer) t u d.done (if d.is_last then done_told answer d.call d.done else d.done)
    tell-moves answer may = by k.is_open refl (is_first t.id k.txns) refl
      where
        by : (b : Bool) → k.is_open ≡ b → (c : Bool) → is_first t.id k.txns ≡ c
            → (u : Txn) × Contains (cond k.is_open (told_first answer (replies_to k.sent_now k.heard_now) k.txns) k.txns) u × (u.id ≡ t.id) × Moves k (events.Tell answer) t u d.done (if d.is_last then done_told answer d.call d.done else d.done)
        by false closed c is = (
          t,
          subst (λ b. Contains (cond b (told_first answer (replies_to k.sent_now k.heard_now) k.txns) k.txns) t) (sym closed) mine,
          refl,
          Stays refl refl refl (told-if d.is_last answer d.call d.done (told-closed answer may closed d.call d.done)),
        )
        by true opened false other = (
          t,
          subst (λ b. Contains (cond b (told_first answer (replies_to k.sent_now k.heard_now) k.txns) k.txns) t) (sym opened) (in-rest answer (replies_to k.sent_now k.heard_now) k.txns mine other),
          refl,
          Stays refl refl refl (ap (λ b. if b then done_told answer d.call d.done else d.done) (first ∙ other)),
        )
        by true opened true is =
            let now : open_txn k ≡ Some t = first_is_open actor k t numbered mine is opened in
            let head_is = open_is k.is_open k.txns t now in (
              txn_told answer (replies_to k.sent_now k.heard_now) t,
              subst (λ b. Contains (cond b (told_first answer (replies_to k.sent_now k.heard_now) k.txns) k.txns) (txn_told answer (replies_to k.sent_now k.heard_now) t)) (sym opened)
                  (in-first answer (replies_to k.sent_now k.heard_now) k.txns head_is.1 head_is.2),
              refl,
              subst (λ b. Moves k (events.Tell answer) t (txn_told answer (replies_to k.sent_now k.heard_now) t) d.done (if b then done_told answer d.call d.done else d.done)) (sym (first ∙ is))
                  (told-open answer may now d.call of_call d.done),
            )

    -- what an event does to the transaction
    pub moved : (event : Event) (h : Option Heard) → IsListed t d.done → Does head actor k event → Moved k event h t d.done (done_after t.id event d)
    moved (events.Send number range request) h listed may = record {
      u = txn_sent request t;
      there = contains_map (txn_sent request) k.txns t mine;
      named = refl;
      moves = sent-moves (events.Send number range request) request number range d.done listed may;
    }
    moved (events.Hear number step) h listed may = record {
      u = txn_heard k.sent h t;
      there = contains_map (txn_heard k.sent h) k.txns t mine;
      named = refl;
      moves = Stays refl refl (written_heard t.writes t.id t.epoch h) refl;
    }
    moved (events.Tell (answers.Begun id ts)) h listed may = record {
      u = t;
      there = contains_tail (txn_begun k.statement id ts) k.txns t mine;
      named = refl;
      moves = Stays refl refl refl (told-if d.is_last (answers.Begun id ts) d.call d.done refl);
    }
    moved (events.Tell answer) h listed may = let m = tell-moves answer may in record { u = m.0; there = m.1; named = m.2; moves = m.3 }
    moved event h listed may = record { u = t; there = mine; named = refl; moves = Stays refl refl refl refl }

-- ---- where the transactions after an event come from

-- The transaction was begun by the event.
pub record IsNewlyBegun (event : Event) (k : Known) (u : Txn) : Type 0 where
  pub id : TxnId
  pub ts : ℕ
  pub told : event ≡ events.Tell (answers.Begun id ts)
  pub is : u ≡ txn_begun k.statement id ts

-- It was known before, by its name.
pub record WasKnown (k : Known) (u : Txn) : Type 0 where
  pub t : Txn
  pub mine : Contains k.txns t
  pub named : t.id ≡ u.id

from-map : (k : Known) (f : Txn → Txn) (u : Txn) → ((t : Txn) → (f t).id ≡ t.id) → Contains (map f k.txns) u → WasKnown k u
from-map k f u same there =
    let what = contains_in_map f k.txns u there in
    record { t = what.0; mine = what.1; named = sym (same what.0) ∙ ap (λ (x : Txn). x.id) what.2 }

from-first : (k : Known) (answer : Answer) (replied : List Heard) (u : Txn) → Contains (cond k.is_open (told_first answer replied k.txns) k.txns) u → WasKnown k u
from-first k answer replied u there = by k.is_open k.txns there (λ t x. x)
  where
    by : (b : Bool) (txns : List Txn) → Contains (cond b (told_first answer replied txns) txns) u → ((t : Txn) → Contains txns t → Contains k.txns t) → WasKnown k u
    by false txns there on = record { t = u; mine = on u there; named = refl }
    by true [] there on = absurd (contains_nil u there)
    by true (x ∷ xs) there on =
        elim (contains_cons (txn_told answer replied x) xs u there) [
          | inl same ↦ record { t = x; mine = on x (contains_head x xs); named = ap (λ (y : Txn). y.id) same }
          | inr later ↦ record { t = u; mine = on u (contains_tail x xs u later); named = refl }
        ]

-- each transaction after an event was begun by it, or known before
pub comes_from : (k : Known) (event : Event) (h : Option Heard) (u : Txn) → Contains (txns_after event h k) u → IsNewlyBegun event k u ⊎ WasKnown k u
comes_from k (events.Send number range request) h u there = inr (from-map k (txn_sent request) u (λ t. refl) there)
comes_from k (events.Hear number step) h u there = inr (from-map k (txn_heard k.sent h) u (λ t. refl) there)
comes_from k (events.Tell (answers.Begun id ts)) h u there =
    elim (contains_cons (txn_begun k.statement id ts) k.txns u there) [
      | inl same ↦ inl (record { id = id; ts = ts; told = refl; is = sym same })
      | inr later ↦ inr (record { t = u; mine = later; named = refl })
    ]
comes_from k (events.Tell answer) h u there = inr (from-first k answer (replies_to k.sent_now k.heard_now) u there)
comes_from k event h u there = inr (record { t = u; mine = there; named = refl })
