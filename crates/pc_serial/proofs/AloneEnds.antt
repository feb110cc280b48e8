-- One session alone: a committed transaction was told so, or its commit is still open.
use Rattle.std.proofs.Common.{◌≡◌, ◌≢◌, ℕ, Bool, true, false, ◌&&◌, not, List, [], ◌∷◌, ◌++◌, map, ◌⊎◌, Option, None, Some, Any, inl, inr, refl, sym, ap, subst, ◌∙◌, append-nil, append_assoc}
use Rattle.std.specs.Bool.{MatchBool}
use Rattle.pc_base.specs.declared.actor.ActorId.TheVariants as actors
use Rattle.pc_base.specs.declared.entry.Entry.{Entry}
use Rattle.pc_base.specs.declared.transaction.TxnId.{TxnId}
use Rattle.pc_history.specs.History.{MayFollow}
use Rattle.pc_history.specs.Own.{named_in}
use Rattle.pc_implicit.proofs.Agreed.{open_is}
use Rattle.pc_implicit.proofs.CommitsStay.{goes_along}
use Rattle.pc_implicit.proofs.Deciders.{decided_by}
use Rattle.pc_implicit.proofs.Doing.{told_by_row}
use Rattle.pc_implicit.proofs.OneDecision.{told_committed}
use Rattle.pc_lists.proofs.Anywhere.{any_kept, any_last}
use Rattle.pc_proto.specs.declared.answer.Answer.{Answer}
use Rattle.pc_proto.specs.declared.answer.Answer.TheVariants as answers
use Rattle.pc_proto.specs.declared.call.Call.{Call}
use Rattle.pc_proto.specs.declared.call.Call.TheVariants as calls
use Rattle.pc_proto.specs.declared.event.Event.{Event}
use Rattle.pc_proto.specs.declared.event.Event.TheVariants as events
use Rattle.pc_serial.proofs.AlonePlain.{tells_plainly}
use Rattle.pc_serial.proofs.AloneRun.{acts, stands_at, who}
use Rattle.pc_serial.specs.Alone.{IsAlone}
use Rattle.pc_serial.specs.Plain.{IsOpenInCommit, IsPlainAnswer, IsPlainTo}
use Rattle.pc_serial.specs.QuietWire.{the_session}
use Rattle.pc_world.proofs.Knowing.{known_other, known_same}
use Rattle.pc_world.proofs.Prefixes.{run_may}
use Rattle.pc_world.specs.After.{known_at}
use Rattle.pc_world.specs.Committed.{IsCommitted}
use Rattle.pc_world.specs.Decisions.{TellsCommit}
use Rattle.pc_world.specs.Known.{Known, call_in, call_of, first_if, known_after, open_txn}
use Rattle.pc_world.specs.Known.Clock.{high_after, top_after}
use Rattle.pc_world.specs.Known.Statements.{Statement}
use Rattle.pc_world.specs.Known.Traffic.{Heard, heard_by}
use Rattle.pc_world.specs.Known.Transactions.{Txn, txn_heard, txn_sent}
use Rattle.pc_world.specs.Local.{Head, MayDo}
use Rattle.pc_world.specs.MayTell.{MayTell, is_past_range, needs_txn}
use Rattle.pc_world.specs.Run.{IsRun, protocol}

-- Somebody was told that the transaction committed.
abbrev WasTold : List (Entry Event) → TxnId → Type 0
WasTold history id = (ts : ℕ) × Any (λ e. TellsCommit id ts e.event) history

first-mapped : (f : Txn → Txn) (b : Bool) (txns : List Txn) (t : Txn) → first_if b txns ≡ Some t → first_if b (map f txns) ≡ Some (f t)
first-mapped f b [] t is = absurd cc
first-mapped f true (x ∷ xs) t is = let same : x ≡ t = cc in ap (λ y. Some (f y)) same
first-mapped f false (x ∷ xs) t is = absurd cc

-- the plain answer to a commit of an open transaction is that it committed
commit-answered : (k : Known) (s : Statement) (answer : Answer) → s.call ≡ calls.Commit → k.is_open ≡ true → IsPlainAnswer k s answer → (id : TxnId) × (ts : ℕ) × (answer ≡ answers.Committed id ts)
commit-answered k s answer commits is_open plain = by answer (plain-to plain)
  where
    open-in : (c : Call) (b : Bool) (P Q R : Type 0) → c ≡ calls.Commit → b ≡ true → MatchBool (needs_txn c && not b) P (MatchBool (is_past_range (record { call = c; reading = s.reading })) Q R) → R
    open-in calls.Commit true P Q R same opens m = m
    open-in calls.Commit false P Q R same opens m = absurd (cc opens)
    open-in c b P Q R same opens m = absurd (cc same)

    plain-to : IsPlainAnswer k s answer → IsPlainTo calls.Commit answer
    plain-to plain = subst (λ c. IsPlainTo c answer) commits (open-in s.call k.is_open _ _ (IsPlainTo s.call answer) commits is_open plain)

    by : (answer : Answer) → IsPlainTo calls.Commit answer → (id : TxnId) × (ts : ℕ) × (answer ≡ answers.Committed id ts)
    by (answers.Committed id ts) is = (id, ts, refl)
    by answer is = absurd is

module _ (head : Head) (whole : List (Entry Event)) (run : IsRun head whole) (alone : IsAlone head whole) (id : TxnId) where
  GoesTo : List (Entry Event) → Type 0
  GoesTo history = WasTold history id ⊎ IsOpenInCommit head history id

  told-more : (history : List (Entry Event)) (e : Entry Event) → WasTold history id → WasTold (history ++ e ∷ []) id
  told-more history e (ts, any) = (ts, any_kept (λ (x : Entry Event). TellsCommit id ts x.event) history (e ∷ []) any)

  -- an open commit goes on, or is told
  module _ (history : List (Entry Event)) (before : IsRun head history) (e : Entry Event) (later : List (Entry Event)) (split : whole ≡ history ++ e ∷ later) (me : e.actor ≡ the_session) (c : IsOpenInCommit head history id) where
    abbrev k : Known
    k = known_at head the_session history

    -- what it becomes, by the event
    goes : (event : Event) (g : Option Heard) (top high : ℕ) → e.event ≡ event → MayDo head the_session k event
        → WasTold (history ++ e ∷ []) id ⊎ ((t : Txn) × (open_txn (known_after event g top high k) ≡ Some t) × (t.id ≡ id) × (call_of (known_after event g top high k) ≡ Some calls.Commit))
    goes (events.Ask call reading) g top high is may = absurd (let both : ◌≡◌ {A = Option Call} None (Some calls.Commit) = sym (ap call_in may.none_open) ∙ c.asked in cc both)
    goes (events.Send number range request) g top high is may = inr (txn_sent request c.t, first-mapped (txn_sent request) k.is_open k.txns c.t c.opened, c.whose, c.asked)
    goes (events.Eval sender sent told) g top high is may = absurd may
    goes (events.Hear number step) g top high is may = inr (txn_heard k.sent g c.t, first-mapped (txn_heard k.sent g) k.is_open k.txns c.t c.opened, c.whose, c.asked)
    goes (events.Meet other step) g top high is may = inr (c.t, c.opened, c.whose, c.asked)
    goes (events.Tell answer) g top high is may =
        let p = tells_plainly head whole run alone history e later split me answer is may in
        let commits : p.s.call ≡ calls.Commit = let both : ◌≡◌ {A = Option Call} (Some p.s.call) (Some calls.Commit) = sym (ap call_in p.opened) ∙ c.asked in cc both in
        let opens : k.is_open ≡ true = (open_is k.is_open k.txns c.t c.opened).0 in
        let told = commit-answered k p.s answer commits opens p.plain in
        let row = told_by_row head the_session k (answers.Committed told.0 told.1) (subst (MayTell head.splits the_session k) told.2 may) (λ h. cc h) (λ h. cc h) in
        let one : row.t ≡ c.t = let both = sym row.opened ∙ c.opened in cc both in
        let named : told.0 ≡ id = row.whose ∙ ap (λ (y : Txn). y.id) one ∙ c.whose in
        inl (told.1, any_last (λ (x : Entry Event). TellsCommit id told.1 x.event) history e (subst (TellsCommit id told.1) (sym (is ∙ ap events.Tell told.2)) (named, refl)))

  goes-on : (history : List (Entry Event)) (e : Entry Event) → IsRun head history → MayFollow (protocol head) history e → (later : List (Entry Event)) → whole ≡ history ++ e ∷ later → GoesTo history → GoesTo (history ++ e ∷ [])
  unfolding GoesTo
  goes-on history e before may later split (inl told) = inl (told-more history e told)
  goes-on history e before may later split (inr c) = elim (who head whole run alone e.actor may.local.there) [
    | inl me ↦
        let k = known_at head the_session history in
        let named = named_in (protocol head) history e.event in
        let st = stands_at head whole run alone history before (e ∷ later) split in
        let g = goes history before e later split me c e.event (heard_by e.event named k.sent) (top_after e.event named k.top) (high_after e.event named k.high) refl (acts head whole run alone history before e later split may st me) in
        elim g [
          | inl told ↦ inl told
          | inr on ↦
              let same = known_same head the_session history e me in
              inr (record {
                t = on.0;
                opened = ap open_txn same ∙ on.1;
                whose = on.2;
                asked = ap call_of same ∙ on.3;
              })
        ]
    | inr at ↦
        let differ : e.actor ≢ the_session = λ same. let both = sym at.1 ∙ same in cc both in
        let same = known_other head the_session history e differ in
        inr (record { t = c.t; opened = ap open_txn same ∙ c.opened; whose = c.whose; asked = ap call_of same ∙ c.asked })
  ]

  GoesFrom : List (Entry Event) → Type 0
  GoesFrom history = (later : List (Entry Event)) → whole ≡ history ++ later → GoesTo history

  -- a committed transaction was told so, or its commit is open
  pub told_or_open : (ts : ℕ) → IsCommitted head whole id ts → Any (λ e. TellsCommit id ts e.event) whole ⊎ IsOpenInCommit head whole id
  unfolding GoesFrom GoesTo
  told_or_open ts committed =
      let d = decided_by head whole run id ts committed in
      let may = run_may head d.before d.e d.later (subst (IsRun head) d.whole run) in
      let own : actors.Session id.session ≡ the_session = elim (who head whole run alone d.e.actor may.local.there) [
        | inl me ↦ sym d.whose ∙ me
        | inr at ↦ absurd (let both = sym d.whose ∙ at.1 in cc both)
      ] in
      let start : IsOpenInCommit head d.before id = record {
        t = d.t;
        opened = subst (λ a. open_txn (known_at head a d.before) ≡ Some d.t) own d.opened;
        whose = d.named;
        asked = subst (λ a. call_of (known_at head a d.before) ≡ Some calls.Commit) own d.in_commit;
      } in
      let end = goes_along head GoesFrom (λ history e before may all later split.
      let on : whole ≡ history ++ e ∷ later = split ∙ append_assoc history (e ∷ []) later in
      goes-on history e before may later on (all (e ∷ later) on)) d.before (d.e ∷ d.later) (subst (IsRun head) d.whole run) (λ later split. inr start) in
      let last = end [] (d.whole ∙ sym (append-nil (d.before ++ d.e ∷ d.later))) in
      subst (λ h. Any (λ e. TellsCommit id ts e.event) h ⊎ IsOpenInCommit head h id) (sym d.whole) (by (d.before ++ d.e ∷ d.later) (subst (IsRun head) d.whole run) (subst (λ h. IsCommitted head h id ts) d.whole committed) last)
    where
      tells : (at : ℕ) (event : Event) → TellsCommit id at event → event ≡ events.Tell (answers.Committed id at)
      tells at (events.Tell (answers.Committed other on)) (same, time) = ap (λ i. events.Tell (answers.Committed i on)) same ∙ ap (λ t. events.Tell (answers.Committed id t)) time
      tells at event is = absurd is

      by : (h : List (Entry Event)) → IsRun head h → IsCommitted head h id ts → WasTold h id ⊎ IsOpenInCommit head h id → Any (λ e. TellsCommit id ts e.event) h ⊎ IsOpenInCommit head h id
      by h run_h committed_h (inr c) = inr c
      by h run_h committed_h (inl (at, (n, x, inside, here, is))) =
          let other = told_committed head h run_h x (n, inside, here) id at (tells at x.event is) in
          let same : at ≡ ts = let both = sym other ∙ committed_h in cc both in
          inl (subst (λ t. Any (λ e. TellsCommit id t e.event) h) same (n, x, inside, here, is))
