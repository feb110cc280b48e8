-- In a commit whose commit is never refused, and once a transaction is no longer open, nothing more is done in it.
use Rattle.std.proofs.Common.{◌≡◌, ◌≢◌, ℕ, ◌+◌, ◌<◌, Bool, true, false, ◌&&◌, not, ◌⊎◌, inl, inr, List, [], ◌∷◌, ◌++◌, map, Option, None, Some, Contains, refl, sym, ap, subst, ◌∙◌, arith}
use Rattle.std.proofs.lemmas.List.{append_assoc, append-nil}
use Rattle.std.specs.Bool.{MatchBool}
use Rattle.pc_base.specs.declared.actor.ActorId.{ActorId}
use Rattle.pc_base.specs.declared.actor.ActorId.TheVariants as actors
use Rattle.pc_base.specs.declared.entry.Entry.{Entry}
use Rattle.pc_base.specs.declared.transaction.TxnId.{TxnId}
use Rattle.pc_base.specs.Transaction.{same_txn}
use Rattle.pc_history.specs.History.{MayFollow}
use Rattle.pc_history.specs.Own.{own}
use Rattle.pc_implicit.proofs.Agreed.{begun_next, owned}
use Rattle.pc_implicit.proofs.Did.{MovedOn, moved_on, numbered-at, session_at}
use Rattle.pc_implicit.proofs.Doing.{Does, same_or_not}
use Rattle.pc_implicit.proofs.Doings.{doing-other}
use Rattle.pc_implicit.proofs.Moves.{Moves, Puts, Reads, Restarts, Stays, TellsRead, first_is_open, is_first, open_is_first}
use Rattle.pc_implicit.proofs.OpenReads.{AsksForNone, IsWithin, within-last, within-open, within-statement}
use Rattle.pc_implicit.proofs.OwnNext.{does_next, first_next, may_do_next, open_next}
use Rattle.pc_implicit.proofs.SessionCommits.{IsStill, written}
use Rattle.pc_lists.proofs.Same.{same_txn-is}
use Rattle.pc_proto.specs.declared.answer.Answer.{Answer}
use Rattle.pc_proto.specs.declared.answer.Answer.TheVariants as answers
use Rattle.pc_proto.specs.declared.call.Call.{Call}
use Rattle.pc_proto.specs.declared.call.Call.TheVariants as calls
use Rattle.pc_proto.specs.declared.event.Event.{Event}
use Rattle.pc_proto.specs.declared.event.Event.TheVariants as events
use Rattle.pc_world.proofs.Knowing.{known_other, known_same}
use Rattle.pc_world.proofs.Prefixes.{run_front, run_may}
use Rattle.pc_world.specs.Known.{Known, call_in, call_of, open_txn}
use Rattle.pc_world.specs.Known.Statements.{Statement, is_open_after, is_open_told}
use Rattle.pc_world.specs.Known.Transactions.{Txn}
use Rattle.pc_world.specs.Local.{Head, MayDo}
use Rattle.pc_world.specs.MayTell.{IsLearnTold, MayTell, MayTellRow, is_past_range, needs_txn}
use Rattle.pc_world.specs.Operations.{Doing, Operation, Read, ReadAll, Write, is_last_after, operations_of}
use Rattle.pc_world.specs.Run.{IsRun, protocol}
use Rattle.pc_world.specs.StageFate.{IsUncommitted}
use Rattle.pc_world.specs.Tell.Refusal.{IsUncommittedIn}

pub commit-asks : (call : Option Call) → call ≡ Some calls.Commit → AsksForNone call
commit-asks call is own None asks = let both : ◌≡◌ {A = Option Call} (Some calls.Commit) (Some (calls.Delete own)) = sym is ∙ asks in cc both
commit-asks call is own (Some value) asks = let both : ◌≡◌ {A = Option Call} (Some calls.Commit) (Some (calls.Put own value)) = sym is ∙ asks in cc both

-- An open transaction in a commit, and what follows where it is known not to have committed.
module _ (head : Head) (actor : ActorId) (k : Known) (t : Txn) (opened : open_txn k ≡ Some t) (is_open : k.is_open ≡ true) (call : call_of k ≡ Some calls.Commit) (X : Type 0) (gives : IsUncommitted t.id k.sent k.heard → X) where
  call-is : (s : Statement) → k.statement ≡ Some s → s.call ≡ calls.Commit
  call-is s at = let both : ◌≡◌ {A = Option Call} (Some s.call) (Some calls.Commit) = sym (ap call_in at) ∙ call in cc both

  gives-of : (u : Txn) → open_txn k ≡ Some u → IsUncommitted u.id k.sent k.heard → X
  gives-of u also uncommitted =
      let both : Some u ≡ Some t = sym also ∙ opened in
      let same : u ≡ t = cc both in
      gives (subst (λ (x : Txn). IsUncommitted x.id k.sent k.heard) same uncommitted)

  gives-in : (c : Call) → c ≡ calls.Commit → IsUncommittedIn k c → X
  gives-in c is uncommitted = let (u, at, none) = subst (IsUncommittedIn k) is uncommitted in gives-of u at none

  no-row : (s : Statement) (answer : Answer) → s.call ≡ calls.Commit → MatchBool (needs_txn s.call && not k.is_open) (answer ≡ answers.NoTxn) (MatchBool (is_past_range s) (answer ≡ answers.Clock s.reading) (MayTellRow head.splits actor k s answer)) → MayTellRow head.splits actor k s answer
  no-row s answer is told =
      let first : (needs_txn s.call && not k.is_open) ≡ false = ap (λ c. needs_txn c && not k.is_open) is ∙ ap not is_open in
      let second : is_past_range s ≡ false = ap (λ c. is_past_range (record { call = c; reading = s.reading })) is in
      subst (λ b. MatchBool b (answer ≡ answers.Clock s.reading) (MayTellRow head.splits actor k s answer)) second
      (subst (λ b. MatchBool b (answer ≡ answers.NoTxn) (MatchBool (is_past_range s) (answer ≡ answers.Clock s.reading) (MayTellRow head.splits actor k s answer))) first told)

  -- an answer that leaves it open is told only then
  pub told_open : (answer : Answer) → MayTell head.splits actor k answer → is_open_told answer true ≡ true → X
  told_open answer may stays = by answer (no-row may.s answer (call-is may.s may.opened) may.told) (call-is may.s may.opened) stays
    where
      by : (answer : Answer) → MayTellRow head.splits actor k may.s answer → may.s.call ≡ calls.Commit → is_open_told answer true ≡ true → X
      by (answers.Begun id ts) row is stays = let both : calls.Begin row.priority ≡ calls.Commit = sym row.asked ∙ is in absurd (cc both)
      by (answers.Value value) row is stays = let both : calls.Get row.key ≡ calls.Commit = sym row.asked ∙ is in absurd (cc both)
      by (answers.Rows rows) row is stays = let both : calls.Scan row.span ≡ calls.Commit = sym row.asked ∙ is in absurd (cc both)
      by answers.Written row is stays = let (n, m, inside, at, f) = row.sent in absurd (commit-asks (Some may.s.call) (ap Some is) f.key f.value f.asked)
      by (answers.Committed id ts) row is stays = absurd (cc stays)
      by (answers.RolledBack id why) row is stays = absurd (cc stays)
      by answers.Learnt row is stays = absurd (subst (IsLearnTold true k) is row)
      by answers.NotYet row is stays = absurd (subst (IsLearnTold false k) is row)
      by answers.Done row is stays = let both : calls.Round ≡ calls.Commit = sym row ∙ is in absurd (cc both)
      by (answers.Blocked holder) row is stays = gives-in may.s.call is row.uncommitted
      by (answers.Unavailable faults) row is stays = gives-in may.s.call is row.uncommitted
      by (answers.Aborted why) row is stays = absurd (cc stays)
      by (answers.Restart key ts) row is stays = gives-of row.t row.opened row.uncommitted
      by (answers.Unknown id) row is stays = absurd (cc stays)
      by (answers.Moved ts) row is stays = gives-of row.t row.opened row.uncommitted
      by (answers.Clock reading) row is stays = absurd row
      by answers.NoTxn row is stays = absurd row

-- ---- along a run

module _ (head : Head) (id : TxnId) where
  -- The transaction is open, in a commit.
  pub record InCommit (history : List (Entry Event)) : Type 0 where
    pub first : is_first id (session_at head id history).txns ≡ true
    pub is_open : (session_at head id history).is_open ≡ true
    pub call : call_of (session_at head id history) ≡ Some calls.Commit

  -- The transaction is not open.
  abbrev pub IsClosed : List (Entry Event) → Type 0
  IsClosed history = is_first id (session_at head id history).txns ≡ true → (session_at head id history).is_open ≡ true → ⊥

  pub same-told : (event : Event) (b : Bool) → ((other : TxnId) (ts : ℕ) → event ≡ events.Tell (answers.Begun other ts) → ⊥) → is_last_after id event b ≡ b
  same-told (events.Tell (answers.Begun other ts)) b none = absurd (none other ts refl)
  same-told (events.Tell answer) b none = refl
  same-told event b none = refl

  pub open-before : (event : Event) (b : Bool) → ((other : TxnId) (ts : ℕ) → event ≡ events.Tell (answers.Begun other ts) → ⊥) → is_open_after event b ≡ true → b ≡ true
  open-before (events.Tell (answers.Begun other ts)) b none is = absurd (none other ts refl)
  open-before (events.Tell (answers.Committed other ts)) b none is = absurd cc
  open-before (events.Tell (answers.RolledBack other why)) b none is = absurd cc
  open-before (events.Tell (answers.Aborted why)) b none is = absurd cc
  open-before (events.Tell (answers.Unknown other)) b none is = absurd cc
  open-before (events.Tell answer) b none is = is
  open-before event b none is = is

  pub is-begin : (event : Event) → ((other : TxnId) × (ts : ℕ) × (event ≡ events.Tell (answers.Begun other ts))) ⊎ ((other : TxnId) (ts : ℕ) → event ≡ events.Tell (answers.Begun other ts) → ⊥)
  is-begin (events.Tell (answers.Begun other ts)) = inl (other, ts, refl)
  is-begin (events.Tell answer) = inr (λ other ts is. cc is)
  is-begin event = inr (λ other ts is. cc is)

  pub is-tell : (event : Event) → ((answer : Answer) × (event ≡ events.Tell answer)) ⊎ (((call : Call) × (reading : ℕ) × (event ≡ events.Ask call reading)) ⊎ IsWithin event)
  is-tell (events.Tell answer) = inl (answer, refl)
  is-tell (events.Ask call reading) = inr (inl (call, reading, refl))
  is-tell event = inr (inr tt)

  -- One more entry of the transaction's session.
  module _ (history : List (Entry Event)) (e : Entry Event) (run : IsRun head history) (may : MayFollow (protocol head) history e) (same : e.actor ≡ actors.Session id.session) (t : Txn) (mine : Contains (session_at head id history).txns t) (named : t.id ≡ id) where
    first-is : (b : Bool) → is_last_after id e.event (is_first id (session_at head id history).txns) ≡ b → is_first id (session_at head id (history ++ e ∷ [])).txns ≡ b
    first-is b is = first_next head history e id same ∙ is

    -- a transaction that is not open stays so
    stays-closed : IsClosed history → IsClosed (history ++ e ∷ [])
    stays-closed closed first is_open =
        let k = session_at head id history in
        elim (is-begin e.event) [
          | inl begun ↦
              let next = begun_next head (actors.Session id.session) k begun.0 begun.1 (subst (Does head (actors.Session id.session) k) begun.2 (does_next head history e id same may)) in
              let it : same_txn begun.0 id ≡ true =
              ap (λ event. is_last_after id event (is_first id k.txns)) (sym begun.2) ∙ sym (first-is (is_last_after id e.event (is_first id k.txns)) refl) ∙ first in
              let eq : begun.0.number ≡ id.number = ap (λ (i : TxnId). i.number) (same_txn-is begun.0 id it) in
              let low : t.id.number < k.begun + 1 = (owned (actors.Session id.session) (k.begun + 1) k.txns t (numbered-at head history run id) mine).1 in
              let own_number : t.id.number ≡ id.number = ap (λ (i : TxnId). i.number) named in
              let at : begun.0.number ≡ k.begun + 1 = next.1 in
              let no : ⊥ = omega (arith, eq, low, own_number, at) in no
          | inr none ↦
              closed (sym (first-is (is_first id k.txns) (same-told e.event (is_first id k.txns) none)) ∙ first) (open-before e.event k.is_open none (sym (open_next head history e id same) ∙ is_open))
        ]

    module _ (c : InCommit history) (never : (answer : Answer) → e.event ≡ events.Tell answer → is_open_told answer true ≡ true → IsUncommitted t.id (session_at head id history).sent (session_at head id history).heard → ⊥) where
      open-now : open_txn (session_at head id history) ≡ Some t
      open-now =
          first_is_open (actors.Session id.session) (session_at head id history) t (numbered-at head history run id) mine (ap (λ i. is_first i (session_at head id history).txns) named ∙ c.first) c.is_open

      not-told : (answer : Answer) → e.event ≡ events.Tell answer → is_open_told answer true ≡ true → ⊥
      not-told answer is stays =
          told_open head (actors.Session id.session) (session_at head id history) t open-now c.is_open c.call ⊥ (never answer is stays) answer
          (subst (Does head (actors.Session id.session) (session_at head id history)) is (does_next head history e id same may)) stays

      not-asked : (call : Call) (reading : ℕ) → e.event ≡ events.Ask call reading → ⊥
      not-asked call reading is =
          let may_ask = subst (MayDo head (actors.Session id.session) (session_at head id history)) is (may_do_next head history e id same may) in
          let both : ◌≡◌ {A = Option Call} None (Some calls.Commit) = sym (ap call_in may_ask.none_open) ∙ c.call in
          cc both

      -- it stays open in its commit, or is closed
      commit-mode : (P : Type 0) → P → (InCommit (history ++ e ∷ []) × P) ⊎ IsClosed (history ++ e ∷ [])
      commit-mode P p =
          elim (is-tell e.event) [
            | inl tells ↦ by tells.0 tells.1 (is_open_told tells.0 true) refl
            | inr other ↦ elim other [
              | inl asks ↦ absurd (not-asked asks.0 asks.1 asks.2)
              | inr within ↦
                  let k = session_at head id history in
                  let known = known_same head (actors.Session id.session) history e same in
                  inl (
                    record {
                      first = first-is true (within-last id e.event (is_first id k.txns) within ∙ c.first);
                      is_open = (open_next head history e id same) ∙ within-open e.event k.is_open within ∙ c.is_open;
                      call = ap call_of known ∙ ap call_in (within-statement e.event k.statement within) ∙ c.call;
                    },
                    p,
                  )
            ]
          ]
        where
          by : (answer : Answer) → e.event ≡ events.Tell answer → (b : Bool) → is_open_told answer true ≡ b → (InCommit (history ++ e ∷ []) × P) ⊎ IsClosed (history ++ e ∷ [])
          by answer is true stays = absurd (not-told answer is stays)
          by answer is false ends =
              inr (λ first is_open. let both : true ≡ false = sym is_open ∙ (open_next head history e id same) ∙ ap (λ event. is_open_after event (session_at head id history).is_open) is ∙ ap (is_open_told answer) c.is_open ∙ ends in cc both)

      reads-not : (answer : Answer) (o : Operation) → TellsRead answer (call_of (session_at head id history)) o → ⊥
      reads-not (answers.Value value) (Read key found) tells = let both : ◌≡◌ {A = Option Call} (Some calls.Commit) (Some (calls.Get key)) = sym c.call ∙ tells.0 in cc both
      reads-not (answers.Rows rows) (ReadAll span found) tells = let both : ◌≡◌ {A = Option Call} (Some calls.Commit) (Some (calls.Scan span)) = sym c.call ∙ tells.0 in cc both
      reads-not (answers.Value value) (ReadAll span found) tells = tells
      reads-not (answers.Value value) (Write key seq found) tells = tells
      reads-not (answers.Rows rows) (Read key found) tells = tells
      reads-not (answers.Rows rows) (Write key seq found) tells = tells
      reads-not answer o tells = tells

      -- nothing is done
      commit-still : (u : Txn) (done after : List Operation) → Moves (session_at head id history) e.event t u done after → (u.epoch ≡ t.epoch) × (u.reads ≡ t.reads) × (map written u.writes ≡ map written t.writes) × (after ≡ done)
      commit-still u done after (Stays epoch reads writes is) = (epoch, reads, writes, is)
      commit-still u done after (Puts key seq value opened asked epoch reads writes is next) = absurd (commit-asks (call_of (session_at head id history)) c.call key value asked)
      commit-still u done after (Reads answer o opened told tells epoch reads writes is) = absurd (reads-not answer o tells)
      commit-still u done after (Restarts key ts opened told epoch reads writes is) = absurd (not-told (answers.Restart key ts) told refl)

    not-open : IsClosed history → open_txn (session_at head id history) ≡ Some t → ⊥
    not-open closed opened =
        let is = open_is_first (session_at head id history) t opened in
        closed (ap (λ i. is_first i (session_at head id history).txns) (sym named) ∙ is.0) is.1

    closed-still : IsClosed history → (u : Txn) (done after : List Operation) → Moves (session_at head id history) e.event t u done after → (u.epoch ≡ t.epoch) × (u.reads ≡ t.reads) × (map written u.writes ≡ map written t.writes) × (after ≡ done)
    closed-still closed u done after (Stays epoch reads writes is) = (epoch, reads, writes, is)
    closed-still closed u done after (Puts key seq value opened asked epoch reads writes is next) = absurd (not-open closed opened)
    closed-still closed u done after (Reads answer o opened told tells epoch reads writes is) = absurd (not-open closed opened)
    closed-still closed u done after (Restarts key ts opened told epoch reads writes is) = absurd (not-open closed opened)

module _ (head : Head) (before : List (Entry Event)) (t : Txn) where
  -- Nothing more was done since, and nothing can be.
  pub record IsSettled (P : Type 0) (history : List (Entry Event)) : Type 0 where
    pub still : IsStill head before history t
    pub mode : (InCommit head t.id history × P) ⊎ IsClosed head t.id history

  -- No answer that leaves the transaction open is told where its commits are known to be refused.
  NeverTold : Type 0 → List (Entry Event) → Entry Event → Type 0
  NeverTold P history e =
      P → (answer : Answer) → e.event ≡ events.Tell answer → is_open_told answer true ≡ true → IsUncommitted t.id (session_at head t.id history).sent (session_at head t.id history).heard → ⊥

  module _ (P : Type 0) (history : List (Entry Event)) (e : Entry Event) (run : IsRun head history) (may : MayFollow (protocol head) history e) (s : IsSettled P history) where
    -- another actor's entry changes nothing
    settled-other : e.actor ≢ actors.Session t.id.session → IsSettled P (history ++ e ∷ [])
    settled-other differ =
        let known = known_other head (actors.Session t.id.session) history e differ in
        let done : operations_of (history ++ e ∷ []) t.id ≡ operations_of history t.id = ap (λ (x : Doing). x.done) (doing-other t.id history e differ) in
        record {
          still = record {
            now = s.still.now;
            mine = subst (λ (l : Known). Contains l.txns s.still.now) (sym known) s.still.mine;
            named = s.still.named;
            epoch = s.still.epoch;
            reads = s.still.reads;
            writes = s.still.writes;
            operations = done ∙ s.still.operations;
          };
          mode = elim s.mode [
            | inl c ↦ inl (
              record {
                first = ap (λ (l : Known). is_first t.id l.txns) known ∙ c.0.first;
                is_open = ap (λ (l : Known). l.is_open) known ∙ c.0.is_open;
                call = ap call_of known ∙ c.0.call;
              },
              c.1,
            )
            | inr closed ↦ inr (λ first is_open. closed (sym (ap (λ (l : Known). is_first t.id l.txns) known) ∙ first) (sym (ap (λ (l : Known). l.is_open) known) ∙ is_open))
          ];
        }

    still-with : (m : MovedOn head history e t.id s.still.now)
        → (m.u.epoch ≡ s.still.now.epoch) × (m.u.reads ≡ s.still.now.reads) × (map written m.u.writes ≡ map written s.still.now.writes) × (operations_of (history ++ e ∷ []) t.id ≡ operations_of history t.id)
        → IsStill head before (history ++ e ∷ []) t
    still-with m same = record {
      now = m.u;
      mine = m.there;
      named = m.named;
      epoch = same.0 ∙ s.still.epoch;
      reads = same.1 ∙ s.still.reads;
      writes = same.2 ∙ s.still.writes;
      operations = same.3 ∙ s.still.operations;
    }

    settled-own : NeverTold P history e → e.actor ≡ actors.Session t.id.session → IsSettled P (history ++ e ∷ [])
    unfolding NeverTold
    settled-own never same =
        let now = s.still.now in
        let mine = s.still.mine in
        let named = s.still.named in
        let m = moved_on head history e run may t.id now mine named in
        elim s.mode [
          | inl c ↦
              let refused : (answer : Answer) → e.event ≡ events.Tell answer → is_open_told answer true ≡ true → IsUncommitted now.id (session_at head t.id history).sent (session_at head t.id history).heard → ⊥ =
              λ answer is stays none. never c.1 answer is stays (subst (λ i. IsUncommitted i (session_at head t.id history).sent (session_at head t.id history).heard) named none) in
              record {
                still = still-with m (commit-still head t.id history e run may same now mine named c.0 refused m.u (operations_of history t.id) (operations_of (history ++ e ∷ []) t.id) m.moves);
                mode = commit-mode head t.id history e run may same now mine named c.0 refused P c.1;
              }
          | inr closed ↦ record {
            still = still-with m (closed-still head t.id history e run may same now mine named closed m.u (operations_of history t.id) (operations_of (history ++ e ∷ []) t.id) m.moves);
            mode = inr (stays-closed head t.id history e run may same now mine named closed);
          }
        ]

    -- one more entry changes nothing
    settled_push : NeverTold P history e → IsSettled P (history ++ e ∷ [])
    settled_push never = elim (same_or_not e.actor (actors.Session t.id.session)) [
      | inl same ↦ settled-own never same
      | inr differ ↦ settled-other differ
    ]

  -- and so do more
  pub settled_along : (P : Type 0) (history more : List (Entry Event)) → IsRun head (history ++ more)
      → ((middle : List (Entry Event)) (e : Entry Event) (rest : List (Entry Event)) → more ≡ middle ++ e ∷ rest → P → (answer : Answer) → e.event ≡ events.Tell answer → is_open_told answer true ≡ true
      → IsUncommitted t.id (session_at head t.id (history ++ middle)).sent (session_at head t.id (history ++ middle)).heard → ⊥)
      → IsSettled P history → IsSettled P (history ++ more)
  unfolding NeverTold
  settled_along P history [] run never s = subst (IsSettled P) (sym (append-nil history)) s
  settled_along P history (e ∷ es) run never s =
      let joined = append_assoc history (e ∷ []) es in
      let first : P → (answer : Answer) → e.event ≡ events.Tell answer → is_open_told answer true ≡ true → IsUncommitted t.id (session_at head t.id history).sent (session_at head t.id history).heard → ⊥ =
      λ p answer is stays none. never [] e es refl p answer is stays (subst (λ h. IsUncommitted t.id (session_at head t.id h).sent (session_at head t.id h).heard) (sym (append-nil history)) none) in
      let next = settled_push P history e (run_front head history (e ∷ es) run) (run_may head history e es run) s first in
      subst (IsSettled P) joined
      (settled_along P (history ++ e ∷ []) es (subst (IsRun head) (sym joined) run)
      (λ middle x rest whole p answer is stays none.
      never (e ∷ middle) x rest (ap (λ l. e ∷ l) whole) p answer is stays
      (subst (λ h. IsUncommitted t.id (session_at head t.id h).sent (session_at head t.id h).heard) (append_assoc history (e ∷ []) middle) none)) next)
