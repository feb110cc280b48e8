-- A transaction is committed at or above its begin timestamp.
use Rattle.std.proofs.Common.{◌≡◌, ℕ, ◌<◌, ◌≤◌, inl, inr, List, [], ◌∷◌, ◌++◌, filter_map, slice_get, Bool, true, false, if◌then◌else◌, Option, None, Some, Contains, refl, sym, ap, subst, ◌∙◌, arith}
use Rattle.std.proofs.lemmas.List.{append-nil, append_assoc}
use Rattle.std.proofs.lemmas.List.Elements.{Contains-append_right, Contains-push_cases}
use Rattle.std.specs.List.{cons_option}
use Rattle.std.specs.Option.{option_or}
use Rattle.pc_base.specs.declared.actor.ActorId.{ActorId}
use Rattle.pc_base.specs.declared.actor.ActorId.TheVariants as actors
use Rattle.pc_base.specs.declared.entry.Entry.{Entry}
use Rattle.pc_base.specs.declared.transaction.TxnId.{TxnId}
use Rattle.pc_base.specs.Transaction.{same_txn}
use Rattle.pc_history.specs.History.{MayFollow}
use Rattle.pc_implicit.proofs.Agreed.{Agrees, agreed, begun_at, begun_next, begun_told_in, open_there}
use Rattle.pc_implicit.proofs.Clocks.{begun_above, high_grows, learnt_below}
use Rattle.pc_implicit.proofs.Commits.{act_of}
use Rattle.pc_implicit.proofs.Deciders.{decided_by}
use Rattle.pc_implicit.proofs.Doing.{Does}
use Rattle.pc_implicit.proofs.Firsts.{first_push}
use Rattle.pc_implicit.proofs.OwnSplit.{own_split}
use Rattle.pc_lists.proofs.Each.{each-contains}
use Rattle.pc_lists.proofs.Lists.{contains_head, contains_nil, contains_tail}
use Rattle.pc_lists.proofs.Same.{same_txn-is, same_txn-self}
use Rattle.pc_proto.specs.declared.answer.Answer.TheVariants as answers
use Rattle.pc_proto.specs.declared.event.Event.{Event}
use Rattle.pc_proto.specs.declared.event.Event.TheVariants as events
use Rattle.pc_world.proofs.Prefixes.{run_front, run_induction}
use Rattle.pc_world.specs.After.{known_at}
use Rattle.pc_world.specs.CommitOrder.{all_begun, begun_in}
use Rattle.pc_world.specs.Committed.{IsCommitted}
use Rattle.pc_world.specs.Known.{known_of}
use Rattle.pc_world.specs.Legal.{BeganAfter, TellsBegun}
use Rattle.pc_world.specs.Local.{Head}
use Rattle.pc_world.specs.Run.{IsRun, protocol}

-- The transaction was told begun, at or below this timestamp.
pub record IsAbove (history : List (Entry Event)) (id : TxnId) (ts : ℕ) : Type 0 where
  pub begin : ℕ
  pub begun : begun_at id history ≡ Some begin
  pub low : begin ≤ ts

above-more : (history : List (Entry Event)) (e : Entry Event) (id : TxnId) (ts : ℕ) → IsAbove history id ts → IsAbove (history ++ e ∷ []) id ts
above-more history e id ts a = record {
  begin = a.begin;
  begun = first_push (λ x. begun_told_in id x.event) history e ∙ ap (λ o. option_or o (begun_told_in id e.event)) a.begun;
  low = a.low;
}

above-along : (front back : List (Entry Event)) (id : TxnId) (ts : ℕ) → IsAbove front id ts → IsAbove (front ++ back) id ts
above-along front [] id ts a = subst (λ h. IsAbove h id ts) (sym (append-nil front)) a
above-along front (e ∷ es) id ts a = subst (λ h. IsAbove h id ts) (append_assoc front (e ∷ []) es) (above-along (front ++ e ∷ []) es id ts (above-more front e id ts a))

module _ (head : Head) where
  begun-new : (history : List (Entry Event)) (e : Entry Event) (id : TxnId) (ts : ℕ) → IsRun head history → MayFollow (protocol head) history e → e.event ≡ events.Tell (answers.Begun id ts) → begun_at id (history ++ e ∷ []) ≡ Some ts
  begun-new history e id ts run may is =
      let k = known_at head e.actor history in
      let next = begun_next head e.actor k id ts (subst (Does head e.actor k) is (act_of head history e may)) in
      let fresh = (agreed head history run e.actor).fresh id next.0 (omega (arith, next.1)) in
      first_push (λ x. begun_told_in id x.event) history e ∙ ap (λ o. option_or o (begun_told_in id e.event)) fresh.begin ∙ ap (begun_told_in id) is
      ∙ ap (λ b. if b then Some ts else None) (same_txn-self id)

  -- a transaction is told begun once
  pub begun_once : (history : List (Entry Event)) → IsRun head history → (e : Entry Event) → Contains history e → (id : TxnId) (ts : ℕ) → e.event ≡ events.Tell (answers.Begun id ts) → begun_at id history ≡ Some ts
  begun_once =
      run_induction head (λ history. (e : Entry Event) → Contains history e → (id : TxnId) (ts : ℕ) → e.event ≡ events.Tell (answers.Begun id ts) → begun_at id history ≡ Some ts)
      (λ e there. absurd (contains_nil e there)) (λ history e run may all x there id ts is.
      elim (Contains-push_cases history e x there) [
        | inl before ↦ first_push (λ y. begun_told_in id y.event) history e ∙ ap (λ o. option_or o (begun_told_in id e.event)) (all x before id ts is)
        | inr now ↦ begun-new history e id ts run may (ap (λ (y : Entry Event). y.event) now ∙ is)
      ])

tells-what : (id : TxnId) (event : Event) → TellsBegun id event → (ts : ℕ) × (event ≡ events.Tell (answers.Begun id ts))
tells-what id (events.Tell (answers.Begun other ts)) h = (ts, ap (λ i. events.Tell (answers.Begun i ts)) h)
tells-what id event h = absurd h

module _ (head : Head) (history : List (Entry Event)) (run : IsRun head history) where
  -- a committed transaction was told begun, at or below its commit timestamp
  pub committed_above_begin : (id : TxnId) (ts : ℕ) → IsCommitted head history id ts → IsAbove history id ts
  committed_above_begin id ts is =
      let d = decided_by head history run id ts is in
      let actor : ActorId = actors.Session id.session in
      let split : IsRun head (d.before ++ d.e ∷ d.later) = subst (IsRun head) d.whole run in
      let run_before : IsRun head d.before = run_front head d.before (d.e ∷ d.later) split in
      let k = known_at head actor d.before in
      let agrees : Agrees d.before d.t = each-contains (Agrees d.before) k.txns d.t (agreed head d.before run_before actor).agrees (open_there k d.t d.opened) in
      let above : IsAbove d.before id ts = record { begin = d.t.begin; begun = ap (λ i. begun_at i d.before) (sym d.named) ∙ agrees.begin; low = d.good.begun } in
      subst (λ h. IsAbove h id ts) (sym d.whole) (above-along d.before (d.e ∷ d.later) id ts above)

  -- a transaction is committed at or above the timestamp at which its begin was told
  pub committed_from_begin : (id : TxnId) (ts begin : ℕ) (e : Entry Event) → Contains history e → e.event ≡ events.Tell (answers.Begun id begin) → IsCommitted head history id ts → begin ≤ ts
  committed_from_begin id ts begin e there told is =
      let above = committed_above_begin id ts is in
      let both : Some above.begin ≡ Some begin = sym above.begun ∙ begun_once head history run e there id begin told in
      let same : above.begin ≡ begin = cc both in
      omega (arith, above.low)

  -- a transaction that began after its session knew of another's commit is committed above it
  pub committed_above : (id other : TxnId) (ts later : ℕ) → BeganAfter head history id other → IsCommitted head history id ts → IsCommitted head history other later → ts < later
  committed_above id other ts later b is also =
      let learnt : ts ≤ (known_of (b.before ++ b.learning ∷ [])).high =
      learnt_below head history run other.session b.before b.learning (b.between ++ b.begin ∷ b.later)
      (b.whole ∙ append_assoc b.before (b.learning ∷ b.between) (b.begin ∷ b.later)) id ts b.learns is in
      let upto = b.before ++ b.learning ∷ b.between in
      let grown : (known_of (b.before ++ b.learning ∷ [])).high ≤ (known_of upto).high =
      subst (λ es. (known_of (b.before ++ b.learning ∷ [])).high ≤ (known_of es).high) (append_assoc b.before (b.learning ∷ []) b.between) (high_grows (b.before ++ b.learning ∷ []) b.between) in
      let told = tells-what other b.begin.entry.event b.begins in
      let began : (known_of upto).high < told.0 = begun_above head history run other.session upto b.begin b.later b.whole other told.0 told.1 in
      let s = own_split (protocol head) (actors.Session other.session) history upto b.begin b.later b.whole in
      let there : Contains history b.begin.entry =
      subst (λ h. Contains h b.begin.entry) (sym s.whole) (Contains-append_right s.front (b.begin.entry ∷ s.back) b.begin.entry (contains_head b.begin.entry s.back)) in
      let from : told.0 ≤ later = committed_from_begin other later told.0 b.begin.entry there told.1 also in
      omega arith

begun-what : (id : TxnId) (ts : ℕ) (event : Event) → begun_told_in id event ≡ Some ts → begun_in event ≡ Some id
begun-what id ts (events.Tell (answers.Begun other at)) h = by (same_txn other id) refl h
  where
    by : (b : Bool) → same_txn other id ≡ b → (if b then Some at else None) ≡ Some ts → begun_in (events.Tell (answers.Begun other at)) ≡ Some id
    by true same h = ap Some (same_txn-is other id same)
    by false same h = absurd cc
begun-what id ts (events.Tell answer) h = absurd cc
begun-what id ts event h = absurd cc

begun-there : (id : TxnId) (ts : ℕ) (history : List (Entry Event)) → begun_at id history ≡ Some ts → Contains (all_begun history) id
begun-there id ts [] h = absurd cc
begun-there id ts (e ∷ es) h = by (begun_told_in id e.event) refl h (begun-there id ts es)
  where
    by : (o : Option ℕ) → begun_told_in id e.event ≡ o → slice_get (cons_option o (filter_map (λ x. begun_told_in id x.event) es)) 0 ≡ Some ts
        → (begun_at id es ≡ Some ts → Contains (all_begun es) id) → Contains (all_begun (e ∷ es)) id
    by (Some at) is h rest =
        subst (λ o. Contains (cons_option o (all_begun es)) id) (sym (begun-what id at e.event is)) (contains_head id (all_begun es))
    by None is h rest = kept (begun_in e.event) (all_begun es) (rest h)
      where
        kept : (o : Option TxnId) (ids : List TxnId) → Contains ids id → Contains (cons_option o ids) id
        kept None ids there = there
        kept (Some x) ids there = contains_tail x ids id there

-- a committed transaction is one of those that were begun
pub committed_was_begun : (head : Head) (history : List (Entry Event)) → IsRun head history → (id : TxnId) (ts : ℕ) → IsCommitted head history id ts → Contains (all_begun history) id
committed_was_begun head history run id ts is =
    let above = committed_above_begin head history run id ts is in begun-there id above.begin history above.begun
