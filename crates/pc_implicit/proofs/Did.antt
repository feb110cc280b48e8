-- What a transaction did agrees in every run with what its session knows of it, and grows until a restart.
use Rattle.std.proofs.Common.{◌≡◌, ℕ, ◌+◌, ◌<◌, ◌≤◌, Bool, true, false, if◌then◌else◌, not, ◌&&◌, ◌⊎◌, inl, inr, List, [], ◌∷◌, ◌++◌, filter, map, Option, None, Some, Contains, refl, sym, ap, subst, ◌∙◌, arith}
use Rattle.std.proofs.lemmas.List.{append_assoc, append-nil}
use Rattle.std.proofs.lemmas.List.Elements.{filter-append}
use Rattle.std.specs.List.{list_any}
use Rattle.pc_base.specs.declared.actor.ActorId.{ActorId}
use Rattle.pc_base.specs.declared.actor.ActorId.TheVariants as actors
use Rattle.pc_base.specs.declared.entry.Entry.{Entry}
use Rattle.pc_base.specs.declared.transaction.TxnId.{TxnId}
use Rattle.pc_base.specs.Transaction.{same_txn}
use Rattle.pc_history.specs.History.{MayFollow}
use Rattle.pc_history.specs.Own.{named_in}
use Rattle.pc_implicit.proofs.Agreed.{AreNumbered, IsOwn, SaysOwn, agreed, begun-grows, begun_next, one_txn, says_own}
use Rattle.pc_implicit.proofs.Commits.{act_of}
use Rattle.pc_implicit.proofs.Doing.{Does, same_or_not}
use Rattle.pc_implicit.proofs.Doings.{IsCallOf, call-after, doing-other, doing-same, doing_at}
use Rattle.pc_implicit.proofs.Fronts.{IsFront, front_more, front_on, front_same}
use Rattle.pc_implicit.proofs.Moves.{IsListed, IsNewlyBegun, Moved, Moves, Puts, Reads, Restarts, Stays, TellsRead, comes_from, first_after, is_first, moved}
use Rattle.pc_implicit.proofs.SessionCommits.{written}
use Rattle.pc_implicit.proofs.SessionReads.{last_seq_done}
use Rattle.pc_implicit.proofs.Writings.{RiseFrom, is_a_write, last_filtered, last_written, rise_push}
use Rattle.pc_lists.proofs.Lists.{contains_nil}
use Rattle.pc_lists.proofs.Same.{same_txn-is}
use Rattle.pc_proto.specs.declared.answer.Answer.{Answer}
use Rattle.pc_proto.specs.declared.answer.Answer.TheVariants as answers
use Rattle.pc_proto.specs.declared.call.Call.{Call}
use Rattle.pc_proto.specs.declared.event.Event.{Event}
use Rattle.pc_proto.specs.declared.event.Event.TheVariants as events
use Rattle.pc_proto.specs.declared.request.Request.TheVariants as requests
use Rattle.pc_world.proofs.Knowing.{known_other, known_same, run_push}
use Rattle.pc_world.proofs.Prefixes.{run_front, run_induction, run_may}
use Rattle.pc_world.specs.After.{known_at}
use Rattle.pc_world.specs.Known.{Known, txn_begun, txns_after}
use Rattle.pc_world.specs.Known.Statements.{Statement, begun_after}
use Rattle.pc_world.specs.Known.Traffic.{Heard, heard_by}
use Rattle.pc_world.specs.Known.Transactions.{Txn}
use Rattle.pc_world.specs.Known.Writes.{last_seq_of}
use Rattle.pc_world.specs.Local.{Head}
use Rattle.pc_world.specs.Operations.{Doing, Operation, Read, ReadAll, Write, call_after, done_after, done_told, is_last_after, is_write, operations_of}
use Rattle.pc_world.specs.Run.{IsRun, protocol}

-- What is known by a transaction's session.
abbrev pub session_at : Head → TxnId → List (Entry Event) → Known
session_at head id history = known_at head (actors.Session id.session) history

-- ---- one step

read-filtered : (answer : Answer) (call : Option Call) (o : Operation) → TellsRead answer call o → filter is_a_write (o ∷ []) ≡ []
read-filtered answer call (Read key value) tells = refl
read-filtered answer call (ReadAll span rows) tells = refl
read-filtered (answers.Value value) call (Write key seq found) tells = absurd tells
read-filtered (answers.Rows rows) call (Write key seq found) tells = absurd tells
read-filtered answer call (Write key seq found) tells = absurd tells

-- what was listed stays so
listed-after : (k : Known) (event : Event) (t u : Txn) (done after : List Operation) → IsListed t done → Moves k event t u done after → IsListed u after
listed-after k event t u done after listed (Stays epoch reads writes done_is) = record {
  same = ap (filter is_a_write) done_is ∙ listed.same ∙ sym writes;
  rise = subst (RiseFrom 0) (sym writes) listed.rise;
}
listed-after k event t u done after listed (Puts key seq value opened asked epoch reads writes done_is next) = record {
  same =
      ap (filter is_a_write) done_is ∙ filter-append is_a_write done (Write key seq value ∷ [])
      ∙ ap (λ os. os ++ Write key seq value ∷ []) listed.same ∙ sym writes;
  rise =
      subst (RiseFrom 0) (sym writes)
      (rise_push 0 (map written t.writes) (Write key seq value) listed.rise
      (let last : last_seq_of t.writes ≡ last_seq_done (map written t.writes) = last_written t.writes in omega (arith, next, last)));
}
listed-after k event t u done after listed (Reads answer o opened told tells epoch reads writes done_is) = record {
  same =
      ap (filter is_a_write) done_is ∙ filter-append is_a_write done (o ∷ [])
      ∙ ap (λ os. filter is_a_write done ++ os) (read-filtered answer _ o tells) ∙ append-nil (filter is_a_write done) ∙ listed.same ∙ sym writes;
  rise = subst (RiseFrom 0) (sym writes) listed.rise;
}
listed-after k event t u done after listed (Restarts key ts opened told epoch reads writes done_is) = record {
  same = ap (filter is_a_write) done_is ∙ ap (map written) (sym writes);
  rise = subst (λ ws. RiseFrom 0 (map written ws)) (sym writes) tt;
}

-- A transaction of which nothing was begun has done nothing.
module _ (actor : ActorId) (id : TxnId) where
  fresh-if : {Y : Type 0} (b : Bool) (one : TxnId) (n : ℕ) (x y : Y) (c : Bool) → same_txn one id ≡ b → IsOwn actor n one → n ≤ id.number → (if (b && c) then x else y) ≡ y
  fresh-if true one n x y c same own fresh =
      let is : one.number ≡ id.number = ap (λ (i : TxnId). i.number) (same_txn-is one id same) in
      let low : one.number < n = own.1 in
      absurd (let no : ⊥ = omega (arith, low, is, fresh) in no)
  fresh-if false one n x y c same own fresh = refl

  not-first : (n : ℕ) (txns : List Txn) → AreNumbered actor n txns → n ≤ id.number → is_first id txns ≡ false
  not-first n [] numbered fresh = refl
  not-first n (t ∷ ts) numbered fresh = by (same_txn t.id id) refl
    where
      by : (b : Bool) → same_txn t.id id ≡ b → same_txn t.id id ≡ false
      by true same =
          let is : t.id.number ≡ id.number = ap (λ (i : TxnId). i.number) (same_txn-is t.id id same) in
          let low : t.id.number < n = numbered.1 in
          absurd (let no : ⊥ = omega (arith, low, is, fresh) in no)
      by false other = other

  fresh-after : (k : Known) (event : Event) (d : Doing) → AreNumbered actor (k.begun + 1) k.txns → SaysOwn actor (begun_after event k.begun + 1) event
      → d.is_last ≡ is_first id k.txns → begun_after event k.begun < id.number → k.begun < id.number → d.done ≡ [] → done_after id event d ≡ []
  fresh-after k (events.Send number range (requests.Put meta seq ts key value)) d numbered says first after fresh none =
      ap (λ b. if (b && not (list_any (is_write seq) d.done)) then d.done ++ Write key seq value ∷ [] else d.done) refl
      ∙ fresh-if (same_txn meta.id id) meta.id (k.begun + 1) (d.done ++ Write key seq value ∷ []) d.done (not (list_any (is_write seq) d.done)) refl says (let low : k.begun < id.number = fresh in omega (arith, low))
      ∙ none
  fresh-after k (events.Send number range request) d numbered says first after fresh none = none
  fresh-after k (events.Tell answer) d numbered says first after fresh none =
      ap (λ b. if b then done_told answer d.call d.done else d.done) (first ∙ not-first (k.begun + 1) k.txns numbered (let low : k.begun < id.number = fresh in omega (arith, low)))
      ∙ none
  fresh-after k event d numbered says first after fresh none = none

begun-writes : (s : Option Statement) (id : TxnId) (ts : ℕ) → IsListed (txn_begun s id ts) []
begun-writes None id ts = record { same = refl; rise = tt }
begun-writes (Some s) id ts = record { same = refl; rise = tt }

begun-named : (s : Option Statement) (id : TxnId) (ts : ℕ) → (txn_begun s id ts).id ≡ id
begun-named None id ts = refl
begun-named (Some s) id ts = refl

-- ---- in a run

-- What a transaction did agrees with what its session knows.
pub record DoesAgree (k : Known) (id : TxnId) (d : Doing) : Type 0 where
  pub first : d.is_last ≡ is_first id k.txns
  pub call : IsCallOf d.call k.statement
  pub fresh : k.begun < id.number → d.done ≡ []
  pub listed : (t : Txn) → Contains k.txns t → t.id ≡ id → IsListed t d.done

module _ (head : Head) where
  pub numbered-at : (history : List (Entry Event)) → IsRun head history → (id : TxnId) → AreNumbered (actors.Session id.session) ((session_at head id history).begun + 1) (session_at head id history).txns
  numbered-at history run id = (agreed head history run (actors.Session id.session)).numbered

  -- in a run two of a session's transactions of one name are one
  pub one_known : (history : List (Entry Event)) → IsRun head history → (id : TxnId) (t u : Txn) → Contains (session_at head id history).txns t → Contains (session_at head id history).txns u → t.id ≡ u.id → t ≡ u
  one_known history run id t u a b same =
      one_txn (actors.Session id.session) ((session_at head id history).begun + 1) (session_at head id history).txns t u (numbered-at history run id) a b same

  -- one more entry of the transaction's session
  module _ (history : List (Entry Event)) (e : Entry Event) (run : IsRun head history) (may : MayFollow (protocol head) history e) (id : TxnId) (same : e.actor ≡ actors.Session id.session) where
    acts : Does head (actors.Session id.session) (session_at head id history) e.event
    acts = subst (λ a. Does head a (known_at head a history) e.event) same (act_of head history e may)

    heard : Option Heard
    heard = heard_by e.event (named_in (protocol head) history e.event) (session_at head id history).sent

    txns-are : (session_at head id (history ++ e ∷ [])).txns ≡ txns_after e.event heard (session_at head id history)
    unfolding heard
    txns-are = ap (λ (k : Known). k.txns) (known_same head (actors.Session id.session) history e same)

    own-moved : DoesAgree (session_at head id history) id (doing_at id history) → (t : Txn) → Contains (session_at head id history).txns t → t.id ≡ id
        → Moved (session_at head id history) e.event heard t (operations_of history id) (done_after id e.event (doing_at id history))
    own-moved agrees t mine named =
        let k = session_at head id history in
        let d = doing_at id history in
        subst (λ i. Moved k e.event heard t d.done (done_after i e.event d)) named
        (moved head (actors.Session id.session) k (numbered-at history run id) t mine d (agrees.first ∙ ap (λ i. is_first i k.txns) (sym named)) agrees.call e.event heard (agrees.listed t mine named) acts)

    new-listed : DoesAgree (session_at head id history) id (doing_at id history) → (u : Txn) → Contains (session_at head id (history ++ e ∷ [])).txns u → u.id ≡ id → IsListed u (done_after id e.event (doing_at id history))
    new-listed agrees u there named =
        let k = session_at head id history in
        let d = doing_at id history in
        let among : Contains (txns_after e.event heard k) u = subst (λ ts. Contains ts u) txns-are there in
        elim (comes_from k e.event heard u among) [
          | inl new ↦
              let is : u.id ≡ new.id = ap (λ (x : Txn). x.id) new.is ∙ begun-named k.statement new.id new.ts in
              let next = begun_next head (actors.Session id.session) k new.id new.ts (subst (Does head (actors.Session id.session) k) new.told acts) in
              let low : k.begun < id.number = (let eq : new.id.number ≡ id.number = ap (λ (i : TxnId). i.number) (sym is ∙ named) in let at : new.id.number ≡ k.begun + 1 = next.1 in omega (arith, eq, at)) in
              let done : done_after id e.event d ≡ [] = ap (λ event. done_after id event d) new.told ∙ told-either d.is_last new.id new.ts d (agrees.fresh low) in
              subst (λ os. IsListed u os) (sym done) (subst (λ x. IsListed x []) (sym new.is) (begun-writes k.statement new.id new.ts))
          | inr old ↦
              let m = own-moved agrees old.t old.mine (old.named ∙ named) in
              let one : m.u ≡ u = one_known (history ++ e ∷ []) (run_push head history e run may) id m.u u (subst (λ ts. Contains ts m.u) (sym txns-are) m.there) there (m.named ∙ old.named) in
              subst (λ x. IsListed x (done_after id e.event d)) one (listed-after k e.event old.t m.u d.done (done_after id e.event d) (agrees.listed old.t old.mine (old.named ∙ named)) m.moves)
        ]
      where
        told-either : (b : Bool) (other : TxnId) (ts : ℕ) (d : Doing) → d.done ≡ [] → (if b then done_told (answers.Begun other ts) d.call d.done else d.done) ≡ []
        told-either true other ts d none = none
        told-either false other ts d none = none

    new-agrees : DoesAgree (session_at head id history) id (doing_at id history) → DoesAgree (session_at head id (history ++ e ∷ [])) id (doing_at id (history ++ e ∷ []))
    unfolding heard
    new-agrees agrees =
        let k = session_at head id history in
        let d = doing_at id history in
        let is = doing-same id history e same in
        let known = known_same head (actors.Session id.session) history e same in
        record {
          first =
              ap (λ (x : Doing). x.is_last) is ∙ ap (is_last_after id e.event) agrees.first ∙ first_after id e.event heard k
              ∙ ap (is_first id) (sym txns-are);
          call = subst (λ (x : Doing). IsCallOf x.call (session_at head id (history ++ e ∷ [])).statement) (sym is)
              (subst (λ (l : Known). IsCallOf (call_after e.event d.call) l.statement) (sym known) (call-after e.event d.call k.statement agrees.call));
          fresh = λ low.
              let after : begun_after e.event k.begun < id.number = subst (λ (l : Known). l.begun < id.number) known low in
              let grown : k.begun ≤ begun_after e.event k.begun = begun-grows e.event k.begun in
              let before : k.begun < id.number = omega (arith, after, grown) in
              ap (λ (x : Doing). x.done) is
              ∙ fresh-after (actors.Session id.session) id k e.event d (numbered-at history run id) (says_own head (actors.Session id.session) k e.event (numbered-at history run id) acts) agrees.first after before (agrees.fresh before);
          listed = λ u there named. subst (λ (x : Doing). IsListed u x.done) (sym is) (new-listed agrees u there named);
        }

  -- what a transaction did agrees with what its session knows
  pub does_agree : (history : List (Entry Event)) → IsRun head history → (id : TxnId) → DoesAgree (session_at head id history) id (doing_at id history)
  does_agree = run_induction head (λ history. (id : TxnId) → DoesAgree (session_at head id history) id (doing_at id history))
      (λ id. record { first = refl; call = tt; fresh = λ low. refl; listed = λ t there named. record { same = absurd (none t there); rise = absurd (none t there) } })
      (λ history e run may all id. elim (same_or_not e.actor (actors.Session id.session)) [
        | inl same ↦ new-agrees history e run may id same (all id)
        | inr differ ↦
            subst (λ d. DoesAgree (session_at head id (history ++ e ∷ [])) id d) (sym (doing-other id history e differ))
            (subst (λ k. DoesAgree k id (doing_at id history)) (sym (known_other head (actors.Session id.session) history e differ)) (all id))
      ])
    where
      none : (t : Txn) → Contains [] t → ⊥
      none t there = contains_nil t there

  -- The transaction after one more entry.
  pub record MovedOn (history : List (Entry Event)) (e : Entry Event) (id : TxnId) (t : Txn) : Type 0 where
    pub u : Txn
    pub there : Contains (session_at head id (history ++ e ∷ [])).txns u
    pub named : u.id ≡ id
    pub moves : Moves (session_at head id history) e.event t u (operations_of history id) (operations_of (history ++ e ∷ []) id)
    pub whose : (e.actor ≡ actors.Session id.session) ⊎ ((u ≡ t) × (operations_of (history ++ e ∷ []) id ≡ operations_of history id))

  -- what one more entry does to a transaction
  pub moved_on : (history : List (Entry Event)) (e : Entry Event) → IsRun head history → MayFollow (protocol head) history e → (id : TxnId) (t : Txn) → Contains (session_at head id history).txns t → t.id ≡ id → MovedOn history e id t
  unfolding heard
  moved_on history e run may id t mine named =
      elim (same_or_not e.actor (actors.Session id.session)) [
        | inl same ↦
            let k = session_at head id history in
            let m = own-moved history e run may id same (does_agree history run id) t mine named in
            record {
              u = m.u;
              there = subst (λ ts. Contains ts m.u) (sym (txns-are history e run may id same)) m.there;
              named = m.named ∙ named;
              moves = subst (λ (x : Doing). Moves k e.event t m.u (operations_of history id) x.done) (sym (doing-same id history e same)) m.moves;
              whose = inl same;
            }
        | inr differ ↦
            let done : operations_of (history ++ e ∷ []) id ≡ operations_of history id = ap (λ (x : Doing). x.done) (doing-other id history e differ) in
            record {
              u = t;
              there = subst (λ (l : Known). Contains l.txns t) (sym (known_other head (actors.Session id.session) history e differ)) mine;
              named = named;
              moves = Stays refl refl refl done;
              whose = inr (refl, done);
            }
      ]

  -- The transaction before the last entry.
  pub record CameFrom (history : List (Entry Event)) (e : Entry Event) (id : TxnId) (u : Txn) : Type 0 where
    pub t : Txn
    pub mine : Contains (session_at head id history).txns t
    pub named : t.id ≡ id
    pub moves : Moves (session_at head id history) e.event t u (operations_of history id) (operations_of (history ++ e ∷ []) id)
    pub whose : (e.actor ≡ actors.Session id.session) ⊎ ((u ≡ t) × (operations_of (history ++ e ∷ []) id ≡ operations_of history id))

  -- a transaction was begun by the last entry, or known before it
  pub came_from : (history : List (Entry Event)) (e : Entry Event) → IsRun head history → MayFollow (protocol head) history e → (id : TxnId) (u : Txn) → Contains (session_at head id (history ++ e ∷ [])).txns u → u.id ≡ id
      → ((e.actor ≡ actors.Session id.session) × IsNewlyBegun e.event (session_at head id history) u) ⊎ CameFrom history e id u
  unfolding heard
  came_from history e run may id u there named =
      elim (same_or_not e.actor (actors.Session id.session)) [
        | inl same ↦
            let k = session_at head id history in
            elim (comes_from k e.event (heard history e run may id same) u (subst (λ ts. Contains ts u) (txns-are history e run may id same) there)) [
              | inl new ↦ inl (same, new)
              | inr old ↦
                  let m = moved_on history e run may id old.t old.mine (old.named ∙ named) in
                  let one : m.u ≡ u = one_known (history ++ e ∷ []) (run_push head history e run may) id m.u u m.there there (m.named ∙ sym named) in
                  inr (record {
                    t = old.t;
                    mine = old.mine;
                    named = old.named ∙ named;
                    moves = subst (λ x. Moves k e.event old.t x (operations_of history id) (operations_of (history ++ e ∷ []) id)) one m.moves;
                    whose = inl same;
                  })
            ]
        | inr differ ↦
            let known = known_other head (actors.Session id.session) history e differ in
            inr (record {
              t = u;
              mine = subst (λ (l : Known). Contains l.txns u) known there;
              named = named;
              moves = Stays refl refl refl (ap (λ (x : Doing). x.done) (doing-other id history e differ));
              whose = inr (refl, ap (λ (x : Doing). x.done) (doing-other id history e differ));
            })
      ]

  -- a transaction that was just begun was not known before
  pub newly_fresh : (history : List (Entry Event)) (e : Entry Event) → MayFollow (protocol head) history e → (id : TxnId) (u : Txn) → u.id ≡ id → e.actor ≡ actors.Session id.session → IsNewlyBegun e.event (session_at head id history) u → (session_at head id history).begun < id.number
  newly_fresh history e may id u named same new =
      let k = session_at head id history in
      let is : u.id ≡ new.id = ap (λ (x : Txn). x.id) new.is ∙ begun-named k.statement new.id new.ts in
      let acts : Does head (actors.Session id.session) k e.event = subst (λ a. Does head a (known_at head a history) e.event) same (act_of head history e may) in
      let next = begun_next head (actors.Session id.session) k new.id new.ts (subst (Does head (actors.Session id.session) k) new.told acts) in
      let eq : new.id.number ≡ id.number = ap (λ (i : TxnId). i.number) (sym is ∙ named) in
      let at : new.id.number ≡ k.begun + 1 = next.1 in
      omega (arith, eq, at)

  -- and has done nothing
  pub newly_done : (history : List (Entry Event)) (e : Entry Event) → IsRun head history → MayFollow (protocol head) history e → (id : TxnId) (u : Txn) → u.id ≡ id → e.actor ≡ actors.Session id.session → IsNewlyBegun e.event (session_at head id history) u
      → operations_of (history ++ e ∷ []) id ≡ []
  newly_done history e run may id u named same new =
      let d = doing_at id history in
      ap (λ (x : Doing). x.done) (doing-same id history e same) ∙ ap (λ event. done_after id event d) new.told
      ∙ by d.is_last ((does_agree history run id).fresh (newly_fresh history e may id u named same new))
    where
      by : (b : Bool) → (doing_at id history).done ≡ [] → (if b then done_told (answers.Begun new.id new.ts) (doing_at id history).call (doing_at id history).done else (doing_at id history).done) ≡ []
      by true none = none
      by false none = none

  -- The transaction went on: its epoch did not fall, and in one epoch its writes, its reads and what it did became more.
  pub record Grows (t u : Txn) (done after : List Operation) : Type 0 where
    pub rises : t.epoch ≤ u.epoch
    pub writes : t.epoch ≡ u.epoch → IsFront (map written t.writes) (map written u.writes)
    pub reads : t.epoch ≡ u.epoch → IsFront t.reads u.reads
    pub operations : t.epoch ≡ u.epoch → IsFront done after

  front-of : {X : Type 0} (xs ys : List X) → ys ≡ xs → IsFront xs ys
  front-of xs ys same = subst (IsFront xs) (sym same) (front_same xs)

  front-with : {X : Type 0} (xs more ys : List X) → ys ≡ xs ++ more → IsFront xs ys
  front-with xs more ys same = subst (IsFront xs) (sym same) (front_more xs more)

  grows-step : (k : Known) (event : Event) (t u : Txn) (done after : List Operation) → Moves k event t u done after → Grows t u done after
  grows-step k event t u done after (Stays epoch reads writes is) = record {
    rises = omega (arith, epoch);
    writes = λ same. front-of (map written t.writes) (map written u.writes) writes;
    reads = λ same. front-of t.reads u.reads reads;
    operations = λ same. front-of done after is;
  }
  grows-step k event t u done after (Puts key seq value opened asked epoch reads writes is next) = record {
    rises = omega (arith, epoch);
    writes = λ same. front-with (map written t.writes) (Write key seq value ∷ []) (map written u.writes) writes;
    reads = λ same. front-of t.reads u.reads reads;
    operations = λ same. front-with done (Write key seq value ∷ []) after is;
  }
  grows-step k event t u done after (Reads answer o opened told tells epoch reads writes is) = record {
    rises = omega (arith, epoch);
    writes = λ same. front-of (map written t.writes) (map written u.writes) writes;
    reads = λ same. front-with t.reads _ u.reads reads;
    operations = λ same. front-with done (o ∷ []) after is;
  }
  grows-step k event t u done after (Restarts key ts opened told epoch reads writes is) = record {
    rises = omega (arith, epoch);
    writes = λ same. absurd (let no : ⊥ = omega (arith, epoch, same) in no);
    reads = λ same. absurd (let no : ⊥ = omega (arith, epoch, same) in no);
    operations = λ same. absurd (let no : ⊥ = omega (arith, epoch, same) in no);
  }

  grows-on : (t u v : Txn) (a b c : List Operation) → Grows t u a b → Grows u v b c → Grows t v a c
  grows-on t u v a b c one two =
      let low : t.epoch ≤ u.epoch = one.rises in
      let high : u.epoch ≤ v.epoch = two.rises in
      let first : t.epoch ≡ v.epoch → t.epoch ≡ u.epoch = λ same. omega (arith, same, low, high) in
      let second : t.epoch ≡ v.epoch → u.epoch ≡ v.epoch = λ same. omega (arith, same, low, high) in
      record {
        rises = omega (arith, low, high);
        writes = λ same. front_on (map written t.writes) (map written u.writes) (map written v.writes) (one.writes (first same)) (two.writes (second same));
        reads = λ same. front_on t.reads u.reads v.reads (one.reads (first same)) (two.reads (second same));
        operations = λ same. front_on a b c (one.operations (first same)) (two.operations (second same));
      }

  grows-same : (t : Txn) (done after : List Operation) → after ≡ done → Grows t t done after
  grows-same t done after is = record {
    rises = omega arith;
    writes = λ same. front_same (map written t.writes);
    reads = λ same. front_same t.reads;
    operations = λ same. front-of done after is;
  }

  -- The transaction after more entries.
  pub record GrownTo (front history : List (Entry Event)) (id : TxnId) (t : Txn) : Type 0 where
    pub u : Txn
    pub there : Contains (session_at head id history).txns u
    pub named : u.id ≡ id
    pub grows : Grows t u (operations_of front id) (operations_of history id)

  -- a transaction goes on
  pub grown_to : (front middle : List (Entry Event)) → IsRun head (front ++ middle) → (id : TxnId) (t : Txn) → Contains (session_at head id front).txns t → t.id ≡ id → GrownTo front (front ++ middle) id t
  grown_to front [] run id t mine named =
      subst (λ h. GrownTo front h id t) (sym (append-nil front)) (record { u = t; there = mine; named = named; grows = grows-same t (operations_of front id) (operations_of front id) refl })
  grown_to front (e ∷ es) run id t mine named =
      let m = moved_on front e (run_front head front (e ∷ es) run) (run_may head front e es run) id t mine named in
      let joined = append_assoc front (e ∷ []) es in
      let g = grown_to (front ++ e ∷ []) es (subst (IsRun head) (sym joined) run) id m.u m.there m.named in
      subst (λ h. GrownTo front h id t) joined
      (record {
        u = g.u;
        there = g.there;
        named = g.named;
        grows =
            grows-on t m.u g.u (operations_of front id) (operations_of (front ++ e ∷ []) id) (operations_of ((front ++ e ∷ []) ++ es) id)
            (grows-step (session_at head id front) e.event t m.u (operations_of front id) (operations_of (front ++ e ∷ []) id) m.moves) g.grows;
      })

-- The writes that a transaction did are those that its session knows, in order; their sequences rise strictly.
pub record WritesAreDone (t : Txn) (done : List Operation) : Type 0 where
  pub same : filter is_a_write done ≡ map written t.writes
  pub rise : RiseFrom 0 (map written t.writes)
  pub last : last_seq_of t.writes ≡ last_seq_done done

-- the writes done are the writes known
pub writes_are_done : (head : Head) (history : List (Entry Event)) → IsRun head history → (id : TxnId) (t : Txn) → Contains (known_at head (actors.Session id.session) history).txns t → t.id ≡ id → WritesAreDone t (operations_of history id)
writes_are_done head history run id t mine named =
    let l = (does_agree head history run id).listed t mine named in
    record {
      same = l.same;
      rise = l.rise;
      last = last_written t.writes ∙ ap last_seq_done (sym l.same) ∙ last_filtered (operations_of history id);
    }
