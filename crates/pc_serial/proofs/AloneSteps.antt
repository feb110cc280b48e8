-- What stands where one session is alone stands over one more entry of that session.
use Rattle.std.proofs.Common.{◌≡◌, ℕ, ◌+◌, ◌≤◌, Bool, true, false, ◌&&◌, if◌then◌else◌, List, [], ◌∷◌, ◌++◌, length, map, ◌⊎◌, inl, inr, Option, None, Some, Any, Contains, IsTrue, refl, sym, ap, subst, ◌∙◌, arith, append-nil, length-append}
use Rattle.std.proofs.lemmas.List.Elements.{Contains-append_left, Contains-push, Contains-push_cases}
use Rattle.std.specs.List.{AllByRecursion as Each}
use Rattle.std.specs.Prelude.{is_some}
use Rattle.pc_base.specs.declared.entry.Entry.{Entry}
use Rattle.pc_base.specs.declared.transaction.TxnId.{TxnId}
use Rattle.pc_implicit.proofs.Agreed.{begun_next, open_there}
use Rattle.pc_implicit.proofs.Doing.{told_by_row}
use Rattle.pc_proto.specs.declared.answer.Answer.{Answer}
use Rattle.pc_proto.specs.declared.answer.Answer.TheVariants as answers
use Rattle.pc_proto.specs.declared.call.Call.{Call}
use Rattle.pc_proto.specs.declared.event.Event.{Event}
use Rattle.pc_proto.specs.declared.event.Event.TheVariants as events
use Rattle.pc_proto.specs.declared.fate.Fate.{Fate}
use Rattle.pc_proto.specs.declared.meta.TxnMeta.{TxnMeta}
use Rattle.pc_proto.specs.declared.request.Request.{Request}
use Rattle.pc_proto.specs.declared.request.Request.TheVariants as requests
use Rattle.pc_proto.specs.declared.why.Why.{Why}
use Rattle.pc_proto.specs.Requests.{is_abort_of}
use Rattle.pc_serial.proofs.AloneJobs.{HasLock, HasMessage, IsFinishing, IsLocked, LeavesSettling, finishing_left, finishing_with, finishing_without, leaves_committed, leaves_if, locked_heard, locked_put, locked_sent, locked_told, message_left, message_new, message_none}
use Rattle.pc_serial.proofs.AloneStanding.{IsKept, IsOfLast, IsWaiting, StandsAs, WillSettle, begun-id, first-mapped, first-told, last_of}
use Rattle.pc_serial.specs.Laws.{IsTalk}
use Rattle.pc_serial.specs.QuietWire.{IsEvaluated, stays_open, the_session}
use Rattle.pc_serial.specs.Tidy.{IsTidy}
use Rattle.pc_world.specs.Caused.{Evaluates}
use Rattle.pc_follows.specs.FinishingJobs.{jobs_after, left_by, without_first}
use Rattle.pc_world.specs.Known.{Known, known_after, open_txn, txn_begun}
use Rattle.pc_world.specs.Known.Statements.{Statement, is_open_after, is_open_told}
use Rattle.pc_world.specs.Known.Traffic.{Heard, Sent, replies_to}
use Rattle.pc_world.specs.Known.Transactions.{Txn, txn_heard, txn_sent}
use Rattle.pc_world.specs.Local.{Head, MayDo, is_outside}
use Rattle.pc_world.specs.MaySend.{MaySend}
use Rattle.pc_world.specs.MayTell.{MayTell}
use Rattle.pc_world.specs.Views.{WasAborted, fate_heard}

-- What the event leaves standing: what stands of what the session knows then, and each intent as it was kept.
pub record Goes (head : Head) (history after : List (Entry Event)) (k later : Known) (jobs next : List (List Request)) : Type 0 where
  pub stands : StandsAs after later next
  pub kept : (range : ℕ) (key : List ℕ) → IsKept head history k jobs range key → (last_of later ≡ last_of k) × IsKept head after later next range key

-- the session evaluates nothing
pub evaluates_nothing : (head : Head) (k : Known) (event : Event) (number : ℕ) → MayDo head the_session k event → Evaluates the_session number event → ⊥
evaluates_nothing head k (events.Eval sender sent told) number may is = may
evaluates_nothing head k event number may is = is

module _ (head : Head) (history after : List (Entry Event)) (k : Known) (jobs : List (List Request)) (st : StandsAs history k jobs)
    (more : (number : ℕ) → IsEvaluated number history → IsEvaluated number after) (still : (number : ℕ) → IsEvaluated number after → IsEvaluated number history)
    (unsent : (number : ℕ) → length k.sent + 1 ≡ number → IsEvaluated number history → ⊥)
    (puts : (number range : ℕ) (meta : TxnMeta) (seq ts : ℕ) (key : List ℕ) (value : Option (List ℕ)) → MaySend head.splits the_session k number range (requests.Put meta seq ts key value)
    → IsTidy k jobs (events.Send number range (requests.Put meta seq ts key value)) → (meta.id ≡ last_of k) × (k.is_open ≡ true))
    (aborts : (t : Txn) → Any (λ h. IsTrue (is_abort_of t.id h.request)) k.heard_now → (fate : Fate) × (fate_heard t.id k.heard ≡ Some fate))
    (aborted : (t : Txn) (why : Why) → WasAborted k.heard t.id why → (fate : Fate) × (fate_heard t.id k.heard ≡ Some fate)) where
  -- what waits goes on to wait
  waits-on : (later : Known) (request : Request) → ((m : Sent) → Contains k.sent m → Contains later.sent m) → IsWaiting history k request → IsWaiting after later request
  waits-on later request on w = record { m = w.m; listed = on w.m w.listed; asks = w.asks; waits = λ done. w.waits (still w.m.number done) }

  push-nil : (m : Sent) → Contains (k.sent ++ []) m → Contains k.sent m
  push-nil m there = subst (λ l. Contains l m) (append-nil k.sent) there

  to-nil : (m : Sent) → Contains k.sent m → Contains (k.sent ++ []) m
  to-nil m there = subst (λ l. Contains l m) (sym (append-nil k.sent)) there

  numbered-nil : (m : Sent) → Contains (k.sent ++ []) m → m.number ≤ length (k.sent ++ [])
  numbered-nil m there = subst (λ l. m.number ≤ length l) (sym (append-nil k.sent)) (st.numbered m (push-nil m there))

  settles-on : (later : Known) (id : TxnId) (key : List ℕ) → ((m : Sent) → Contains k.sent m → Contains later.sent m) → WillSettle history k jobs id key → WillSettle after later jobs id key
  settles-on later id key on (fate, ends, which) = (fate, ends, elim which [ inl has ↦ inl has | inr waits ↦ inr (waits-on later (requests.Resolve id key fate) on waits) ])

  -- ---- a call is asked

  module _ (event : Event) (done : stays_open k event ≡ false → (m : Sent) → Contains k.sent m → IsEvaluated m.number history) where
    -- it is in the midst of a transaction, or all was evaluated
    within-or-done : ((k.is_open ≡ true) × (is_open_after event k.is_open ≡ true)) ⊎ ((m : Sent) → Contains k.sent m → IsEvaluated m.number history)
    within-or-done = by k.is_open (is_open_after event k.is_open) refl refl
      where
        by : (b c : Bool) → k.is_open ≡ b → is_open_after event k.is_open ≡ c → ((k.is_open ≡ true) × (is_open_after event k.is_open ≡ true)) ⊎ ((m : Sent) → Contains k.sent m → IsEvaluated m.number history)
        by true true is on = inl (is, on)
        by true false is on = inr (done (ap (λ b. b && is_open_after event k.is_open) is ∙ on))
        by false c is on = inr (done (ap (λ b. b && is_open_after event k.is_open) is))

  asks-step : (call : Call) (reading : ℕ) (g : Option Heard) (top high : ℕ) → MayDo head the_session k (events.Ask call reading) → IsTidy k jobs (events.Ask call reading)
      → (stays_open k (events.Ask call reading) ≡ false → (m : Sent) → Contains k.sent m → IsEvaluated m.number history)
      → Goes head history after k (known_after (events.Ask call reading) g top high k) jobs jobs
  asks-step call reading g top high may tidy done = record {
    stands = record {
      finishing = st.finishing;
      outside = λ s is out. let same : call ≡ s.call = cc in may.outside (ap is_outside same ∙ out);
      first = st.first;
      numbered = numbered-nil;
      waiting = λ m there none. st.waiting m (push-nil m there) (λ was. none (more m.number was));
    };
    kept = λ range key is. (
      refl,
      record {
        there = is.there;
        locked = is.locked;
        rest = elim (within-or-done (events.Ask call reading) done) [
          | inl within ↦ inl within.0
          | inr all ↦ elim is.rest [
            | inl opens ↦ inl opens
            | inr closed ↦ absurd (elim closed.1.2 [
              | inl has ↦ message_none (requests.Resolve (last_of k) key closed.1.0) (subst (λ js. HasMessage js (requests.Resolve (last_of k) key closed.1.0)) tidy.asks has)
              | inr waits ↦ waits.waits (all waits.m waits.listed)
            ])
          ]
        ];
      },
    );
  }

  -- ---- an answer is told

  -- what waits in the midst of a transaction goes on to wait
  tells-waits : (answer : Answer) (g : Option Heard) (top high : ℕ) → MayTell head.splits the_session k answer → k.is_open ≡ true → is_open_told answer k.is_open ≡ true
      → (request : Request) → IsOfLast k request → IsOfLast (known_after (events.Tell answer) g top high k) request
  tells-waits (answers.Begun id ts) g top high may opens stays request is =
      let row = told_by_row head the_session k (answers.Begun id ts) may (λ h. cc h) (λ h. cc h) in
      let closed : k.is_open ≡ false = st.outside may.s may.opened (ap is_outside row.asked) in
      absurd (let both = sym opens ∙ closed in cc both)
  tells-waits (answers.Committed id ts) g top high may opens stays request is = absurd cc
  tells-waits (answers.RolledBack id why) g top high may opens stays request is = absurd cc
  tells-waits (answers.Aborted why) g top high may opens stays request is = absurd cc
  tells-waits (answers.Unknown id) g top high may opens stays request is = absurd cc
  tells-waits answer g top high may opens stays request is = by request is
    where
      by : (request : Request) → IsOfLast k request → IsOfLast (known_after (events.Tell answer) g top high k) request
      by (requests.Get id epoch seq ts key) is = is
      by (requests.Scan id epoch seq ts span) is = is
      by (requests.Put meta seq ts key value) is = (is.0, stays, locked_told (last_of k) key answer (replies_to k.sent_now k.heard_now) k.is_open k.txns is.2)
      by request is = tt

  tells-stands : (answer : Answer) (g : Option Heard) (top high : ℕ) → MayTell head.splits the_session k answer
      → (stays_open k (events.Tell answer) ≡ false → (m : Sent) → Contains k.sent m → IsEvaluated m.number history)
      → StandsAs after (known_after (events.Tell answer) g top high k) (jobs_after (events.Tell answer) k jobs)
  tells-stands answer g top high may done = record {
    finishing = finishing_with (left_by answer k) jobs (finishing_left answer k) st.finishing;
    outside = λ s is. absurd cc;
    first = by answer may;
    numbered = numbered-nil;
    waiting = λ m there none. elim (within-or-done (events.Tell answer) done) [
      | inl within ↦ tells-waits answer g top high may within.0 within.1 m.request (st.waiting m (push-nil m there) (λ was. none (more m.number was)))
      | inr all ↦ absurd (none (more m.number (all m (push-nil m there))))
    ];
  }
    where
      by : (answer : Answer) → MayTell head.splits the_session k answer → (t : Txn) → open_txn (known_after (events.Tell answer) g top high k) ≡ Some t → t.id ≡ last_of (known_after (events.Tell answer) g top high k)
      by (answers.Begun id ts) may t is =
          let next = begun_next head the_session k id ts may in
          let session : id.session ≡ 1 = let both = next.0 in cc both in
          let number : id.number ≡ k.begun + 1 = next.1 in
          let e : txn_begun k.statement id ts ≡ t = cc in
          let named : id ≡ record { session = 1; number = k.begun + 1 } = λ i. record { session = session i; number = number i } in
          sym (ap (λ (y : Txn). y.id) e) ∙ begun-id k.statement id ts ∙ named
      by (answers.Committed id ts) may t is = first-told (last_of k) (answers.Committed id ts) (replies_to k.sent_now k.heard_now) k.is_open false k.txns (λ e. absurd cc) st.first t is
      by (answers.RolledBack id why) may t is = first-told (last_of k) (answers.RolledBack id why) (replies_to k.sent_now k.heard_now) k.is_open false k.txns (λ e. absurd cc) st.first t is
      by (answers.Aborted why) may t is = first-told (last_of k) (answers.Aborted why) (replies_to k.sent_now k.heard_now) k.is_open false k.txns (λ e. absurd cc) st.first t is
      by (answers.Unknown id) may t is = first-told (last_of k) (answers.Unknown id) (replies_to k.sent_now k.heard_now) k.is_open false k.txns (λ e. absurd cc) st.first t is
      by answer may t is = first-told (last_of k) answer (replies_to k.sent_now k.heard_now) k.is_open k.is_open k.txns (λ e. e) st.first t is

  -- the transaction that an answer ends leaves a message for each intent
  ends-kept : (answer : Answer) (g : Option Heard) (top high range : ℕ) (key : List ℕ) → (t : Txn) → open_txn k ≡ Some t → IsKept head history k jobs range key
      → ((lock : HasLock t key) → LeavesSettling (left_by answer k) t.id key)
      → WillSettle after (known_after (events.Tell answer) g top high k) (jobs_after (events.Tell answer) k jobs) (last_of k) key
  ends-kept answer g top high range key t opened is leaves =
      let named = st.first t opened in
      let left = leaves (is.locked t (open_there k t opened) named) in (
        left.0,
        left.1,
        inl (subst (λ i. HasMessage (jobs_after (events.Tell answer) k jobs) (requests.Resolve i key left.0)) named
            (message_new (left_by answer k) jobs (requests.Resolve t.id key left.0) left.2)),
      )

  tells-kept : (answer : Answer) (g : Option Heard) (top high : ℕ) → MayTell head.splits the_session k answer → IsTidy k jobs (events.Tell answer) → ((id : TxnId) → answer ≡ answers.Unknown id → ⊥)
      → (range : ℕ) (key : List ℕ) → IsKept head history k jobs range key
      → (last_of (known_after (events.Tell answer) g top high k) ≡ last_of k) × IsKept head after (known_after (events.Tell answer) g top high k) (jobs_after (events.Tell answer) k jobs) range key
  tells-kept answer g top high may tidy known range key is = elim is.rest [
    | inr closed ↦ absurd (let both : ◌≡◌ {A = Option Statement} None (Some may.s) = sym closed.0 ∙ may.opened in cc both)
    | inl opens ↦ by answer may tidy known opens
  ]
    where
      by : (answer : Answer) → MayTell head.splits the_session k answer → IsTidy k jobs (events.Tell answer) → ((id : TxnId) → answer ≡ answers.Unknown id → ⊥) → k.is_open ≡ true
          → (last_of (known_after (events.Tell answer) g top high k) ≡ last_of k) × IsKept head after (known_after (events.Tell answer) g top high k) (jobs_after (events.Tell answer) k jobs) range key
      by (answers.Begun id ts) may tidy known opens =
          let row = told_by_row head the_session k (answers.Begun id ts) may (λ h. cc h) (λ h. cc h) in
          let closed : k.is_open ≡ false = st.outside may.s may.opened (ap is_outside row.asked) in
          absurd (let both = sym opens ∙ closed in cc both)
      by (answers.Committed id ts) may tidy known opens =
          let row = told_by_row head the_session k (answers.Committed id ts) may (λ h. cc h) (λ h. cc h) in (
            refl,
            record {
              there = is.there;
              locked = locked_told (last_of k) key (answers.Committed id ts) (replies_to k.sent_now k.heard_now) k.is_open k.txns is.locked;
              rest = inr (refl, ends-kept (answers.Committed id ts) g top high range key row.t row.opened is (λ lock. leaves_committed k row.t row.opened lock.anchor key lock.anchored lock.held ts));
            },
          )
      by (answers.RolledBack id why) may tidy known opens =
          let row = told_by_row head the_session k (answers.RolledBack id why) may (λ h. cc h) (λ h. cc h) in (
            refl,
            record {
              there = is.there;
              locked = locked_told (last_of k) key (answers.RolledBack id why) (replies_to k.sent_now k.heard_now) k.is_open k.txns is.locked;
              rest = inr (
                refl,
                ends-kept (answers.RolledBack id why) g top high range key row.t row.opened is (λ lock.
                    let f = aborts row.t (tidy.aborts row.t lock.anchor row.opened lock.anchored) in
                    leaves_if k row.t row.opened lock.anchor key lock.anchored lock.held f.0 f.1),
              );
            },
          )
      by (answers.Aborted why) may tidy known opens =
          let row = told_by_row head the_session k (answers.Aborted why) may (λ h. cc h) (λ h. cc h) in (
            refl,
            record {
              there = is.there;
              locked = locked_told (last_of k) key (answers.Aborted why) (replies_to k.sent_now k.heard_now) k.is_open k.txns is.locked;
              rest = inr (
                refl,
                ends-kept (answers.Aborted why) g top high range key row.t row.opened is (λ lock.
                    let f = aborted row.t why row.heard in
                    leaves_if k row.t row.opened lock.anchor key lock.anchored lock.held f.0 f.1),
              );
            },
          )
      by (answers.Unknown id) may tidy known opens = absurd (known id refl)
      by answer may tidy known opens = (
        refl,
        record {
          there = is.there;
          locked = locked_told (last_of k) key answer (replies_to k.sent_now k.heard_now) k.is_open k.txns is.locked;
          rest = inl opens;
        },
      )

  -- ---- a message is sent

  module _ (number range : ℕ) (request : Request) (may : MaySend head.splits the_session k number range request) (tidy : IsTidy k jobs (events.Send number range request)) (g : Option Heard) (top high : ℕ) where
    abbrev sends-later : Known
    sends-later = known_after (events.Send number range request) g top high k

    abbrev sends-next : List (List Request)
    sends-next = jobs_after (events.Send number range request) k jobs

    abbrev message : Sent
    message = record { number = number; range = range; request = request }

    on-sent : (m : Sent) → Contains k.sent m → Contains sends-later.sent m
    on-sent m there = Contains-append_left k.sent (message ∷ []) m there

    old-last : (asked : Request) → IsOfLast k asked → IsOfLast sends-later asked
    old-last (requests.Get id epoch seq ts key) is = is
    old-last (requests.Scan id epoch seq ts span) is = is
    old-last (requests.Put meta seq ts key value) is = (is.0, is.1, locked_sent (last_of k) key request k.txns is.2)
    old-last asked is = tt

    sends-finishing : Each (Each IsFinishing) sends-next
    sends-finishing = by (is_some k.statement)
      where
        by : (b : Bool) → Each (Each IsFinishing) (if b then jobs else without_first jobs)
        by true = st.finishing
        by false = finishing_without jobs st.finishing

  -- what goes out is of the transaction that was begun last
  new-last : (number range : ℕ) (request : Request) (g : Option Heard) (top high : ℕ) → MaySend head.splits the_session k number range request → IsTidy k jobs (events.Send number range request)
      → IsOfLast (known_after (events.Send number range request) g top high k) request
  new-last number range (requests.Get id epoch seq ts key) g top high may tidy = may.row.read.whose ∙ st.first may.row.t may.row.opened
  new-last number range (requests.Scan id epoch seq ts span) g top high may tidy = may.row.read.whose ∙ st.first may.row.t may.row.opened
  new-last number range (requests.Put meta seq ts key value) g top high may tidy =
      let is = puts number range meta seq ts key value may tidy in
      (is.0, is.1, subst (λ i. IsLocked i key (map (txn_sent (requests.Put meta seq ts key value)) k.txns)) is.0 (locked_put meta seq ts key value k.txns))
  new-last number range request g top high may tidy = tt

  sends-step : (number range : ℕ) (request : Request) (g : Option Heard) (top high : ℕ) → MaySend head.splits the_session k number range request → IsTidy k jobs (events.Send number range request)
      → Goes head history after k (known_after (events.Send number range request) g top high k) jobs (jobs_after (events.Send number range request) k jobs)
  sends-step number range request g top high may tidy =
      let later = known_after (events.Send number range request) g top high k in
      let m0 : Sent = record { number = number; range = range; request = request } in
      let on : (m : Sent) → Contains k.sent m → Contains later.sent m = on-sent number range request may tidy g top high in
      record {
        stands = record {
          finishing = sends-finishing number range request may tidy g top high;
          outside = st.outside;
          first = first-mapped (last_of k) (txn_sent request) (λ t. refl) k.is_open k.txns st.first;
          numbered = λ m there.
              let grown : length (k.sent ++ m0 ∷ []) ≡ length k.sent + 1 = length-append k.sent (m0 ∷ []) in
              elim (Contains-push_cases k.sent m0 m there) [
                | inl old ↦ let low = st.numbered m old in omega (arith, grown, low)
                | inr new ↦ let is : number ≡ m.number = ap (λ (x : Sent). x.number) new in let at = may.next in omega (arith, grown, is, at)
              ];
          waiting = λ m there none. elim (Contains-push_cases k.sent m0 m there) [
            | inl old ↦ old-last number range request may tidy g top high m.request (st.waiting m old (λ done. none (more m.number done)))
            | inr new ↦ subst (λ (x : Sent). IsOfLast later x.request) new (new-last number range request g top high may tidy)
          ];
        };
        kept = λ at key is. (
          refl,
          record {
            there = is.there;
            locked = locked_sent (last_of k) key request k.txns is.locked;
            rest = elim is.rest [
              | inl opens ↦ inl opens
              | inr closed ↦ inr (closed.0, settled number range request g top high may tidy key closed.0 closed.1)
            ];
          },
        );
      }
    where
      settled : (number range : ℕ) (request : Request) (g : Option Heard) (top high : ℕ) → MaySend head.splits the_session k number range request → IsTidy k jobs (events.Send number range request)
          → (key : List ℕ) → k.statement ≡ None → WillSettle history k jobs (last_of k) key
          → WillSettle after (known_after (events.Send number range request) g top high k) (jobs_after (events.Send number range request) k jobs) (last_of k) key
      settled number range request g top high may tidy key none (fate, ends, which) =
          let later = known_after (events.Send number range request) g top high k in
          let m0 : Sent = record { number = number; range = range; request = request } in
          let on : (m : Sent) → Contains k.sent m → Contains later.sent m = on-sent number range request may tidy g top high in
          let next : jobs_after (events.Send number range request) k jobs ≡ without_first jobs = ap (λ (o : Option Statement). if is_some o then jobs else without_first jobs) none in (
            fate,
            ends,
            elim which [
              | inr waits ↦ inr (waits-on later (requests.Resolve (last_of k) key fate) on waits)
              | inl has ↦ elim (message_left jobs (requests.Resolve (last_of k) key fate) has) [
                | inl still_there ↦ inl (subst (λ js. HasMessage js (requests.Resolve (last_of k) key fate)) (sym next) still_there)
                | inr first ↦
                    let same : request ≡ requests.Resolve (last_of k) key fate = let both = sym (tidy.finishes none) ∙ first in cc both in
                    inr (record {
                      m = m0;
                      listed = Contains-push k.sent m0;
                      asks = same;
                      waits = λ done. unsent number (sym may.next) (still number done);
                    })
              ]
            ],
          )

  -- ---- a reply is heard, a commit is met

  old-heard : (number step : ℕ) (g : Option Heard) (top high : ℕ) (asked : Request) → IsOfLast k asked → IsOfLast (known_after (events.Hear number step) g top high k) asked
  old-heard number step g top high (requests.Get id epoch seq ts key) is = is
  old-heard number step g top high (requests.Scan id epoch seq ts span) is = is
  old-heard number step g top high (requests.Put meta seq ts key value) is = (is.0, is.1, locked_heard (last_of k) key k.sent g k.txns is.2)
  old-heard number step g top high asked is = tt

  hears-step : (number step : ℕ) (g : Option Heard) (top high : ℕ) → Goes head history after k (known_after (events.Hear number step) g top high k) jobs jobs
  hears-step number step g top high = record {
    stands = record {
      finishing = st.finishing;
      outside = st.outside;
      first = first-mapped (last_of k) (txn_heard k.sent g) (λ t. refl) k.is_open k.txns st.first;
      numbered = numbered-nil;
      waiting = λ m there none. old-heard number step g top high m.request (st.waiting m (push-nil m there) (λ done. none (more m.number done)));
    };
    kept = λ at key is. (
      refl,
      record {
        there = is.there;
        locked = locked_heard (last_of k) key k.sent g k.txns is.locked;
        rest = elim is.rest [
          | inl opens ↦ inl opens
          | inr closed ↦ inr (closed.0, settles-on (known_after (events.Hear number step) g top high k) (last_of k) key to-nil closed.1)
        ];
      },
    );
  }

  meets-step : (id : TxnId) (step : ℕ) (g : Option Heard) (top high : ℕ) → Goes head history after k (known_after (events.Meet id step) g top high k) jobs jobs
  meets-step id step g top high = record {
    stands = record {
      finishing = st.finishing;
      outside = st.outside;
      first = st.first;
      numbered = numbered-nil;
      waiting = λ m there none. st.waiting m (push-nil m there) (λ done. none (more m.number done));
    };
    kept = λ at key is. (
      refl,
      record {
        there = is.there;
        locked = is.locked;
        rest = elim is.rest [
          | inl opens ↦ inl opens
          | inr closed ↦ inr (closed.0, settles-on (known_after (events.Meet id step) g top high k) (last_of k) key to-nil closed.1)
        ];
      },
    );
  }

  -- over each entry of the session
  pub session_step : (event : Event) (g : Option Heard) (top high : ℕ) → MayDo head the_session k event → IsTidy k jobs event
      → (IsTalk event → stays_open k event ≡ false → (m : Sent) → Contains k.sent m → IsEvaluated m.number history) → ((id : TxnId) → event ≡ events.Tell (answers.Unknown id) → ⊥)
      → Goes head history after k (known_after event g top high k) jobs (jobs_after event k jobs)
  session_step (events.Ask call reading) g top high may tidy done known = asks-step call reading g top high may tidy (done tt)
  session_step (events.Send number range request) g top high may tidy done known = sends-step number range request g top high may tidy
  session_step (events.Eval sender sent told) g top high may tidy done known = absurd may
  session_step (events.Hear number step) g top high may tidy done known = hears-step number step g top high
  session_step (events.Tell answer) g top high may tidy done known = record {
    stands = tells-stands answer g top high may (done tt);
    kept = tells-kept answer g top high may tidy (λ id is. known id (ap events.Tell is));
  }
  session_step (events.Meet id step) g top high may tidy done known = meets-step id step g top high
