-- An open transaction that is not in a commit is known to have come to nothing: each of its stages is dead, and each commit refused.
use Rattle.std.proofs.Common.{◌≡◌, ℕ, ◌+◌, Bool, true, false, ◌⊎◌, inl, inr, List, [], ◌∷◌, ◌++◌, Option, None, Some, refl, sym, ap, subst, ◌∙◌, arith}
use Rattle.pc_base.specs.declared.actor.ActorId.{ActorId}
use Rattle.pc_base.specs.declared.actor.ActorId.TheVariants as actors
use Rattle.pc_base.specs.declared.entry.Entry.{Entry}
use Rattle.pc_base.specs.declared.transaction.TxnId.{TxnId}
use Rattle.pc_base.specs.Transaction.{same_txn}
use Rattle.pc_history.specs.History.{MayFollow}
use Rattle.pc_history.specs.Own.{named_in}
use Rattle.pc_implicit.proofs.Agreed.{agreed, begun_next, owned}
use Rattle.pc_implicit.proofs.CommitCalls.{is-begin, is-tell, open-before, same-told, told_open}
use Rattle.pc_implicit.proofs.Commits.{open_agrees}
use Rattle.pc_implicit.proofs.Did.{numbered-at, session_at}
use Rattle.pc_implicit.proofs.Doing.{Does, same_or_not}
use Rattle.pc_implicit.proofs.Forward.{Has, commit_known}
use Rattle.pc_implicit.proofs.HeardViews.{heard_decides}
use Rattle.pc_implicit.proofs.Hearing.{sent_is_so}
use Rattle.pc_implicit.proofs.KnownOver.{IsKnownOver, over_of}
use Rattle.pc_implicit.proofs.Moves.{first_after, is_first, open_is_first}
use Rattle.pc_implicit.proofs.OpenReads.{within-statement}
use Rattle.pc_implicit.proofs.OwnNext.{does_next, may_do_next}
use Rattle.pc_implicit.proofs.Settled.{settled}
use Rattle.pc_implicit.proofs.SettledOn.{settled_not_over}
use Rattle.pc_implicit.proofs.StagesKnown.{HasSent, SendsNow, commit_sent, dead_more, heard_goes_on, refused_more, sent_cases, stage_sent}
use Rattle.pc_implicit.proofs.StagesSent.{staged_txn}
use Rattle.pc_implicit.specs.Stages.{WasStaged}
use Rattle.pc_implicit.specs.Writes.{txns_of}
use Rattle.pc_lists.proofs.Each.{each-contains}
use Rattle.pc_lists.proofs.Same.{same_txn-is}
use Rattle.pc_proto.specs.declared.answer.Answer.{Answer}
use Rattle.pc_proto.specs.declared.answer.Answer.TheVariants as answers
use Rattle.pc_proto.specs.declared.call.Call.{Call}
use Rattle.pc_proto.specs.declared.call.Call.TheVariants as calls
use Rattle.pc_proto.specs.declared.event.Event.{Event}
use Rattle.pc_proto.specs.declared.event.Event.TheVariants as events
use Rattle.pc_proto.specs.declared.meta.TxnMeta.{TxnMeta}
use Rattle.pc_proto.specs.declared.request.Request.{Request}
use Rattle.pc_world.proofs.Knowing.{known_other, known_same}
use Rattle.pc_world.proofs.Prefixes.{run_induction}
use Rattle.pc_world.specs.Committed.{told_at}
use Rattle.pc_world.specs.Known.{Known, call_in, call_of, first_if, open_txn}
use Rattle.pc_world.specs.Known.Statements.{is_open_after, is_open_told}
use Rattle.pc_world.specs.Known.Traffic.{heard_by}
use Rattle.pc_world.specs.Known.Transactions.{Txn}
use Rattle.pc_world.specs.Local.{Head, MayDo}
use Rattle.pc_world.specs.Operations.{is_last_after}
use Rattle.pc_world.specs.Run.{IsRun, protocol}
use Rattle.pc_world.specs.StageFate.{IsDead, IsUncommitted, SentCommit, SentStage, WasCommitRefused, commit_request, stage_request}

-- The transaction is the one that is open.
pub record IsOpenHere (k : Known) (id : TxnId) : Type 0 where
  pub t : Txn
  pub opened : open_txn k ≡ Some t
  pub named : t.id ≡ id

first-open : (id : TxnId) (b : Bool) (txns : List Txn) → is_first id txns ≡ true → b ≡ true → (t : Txn) × (first_if b txns ≡ Some t) × (t.id ≡ id)
first-open id true [] first is = absurd cc
first-open id true (t ∷ ts) first is = (t, refl, same_txn-is t.id id first)
first-open id false txns first is = absurd cc

pub is-commit : (o : Option Call) → (o ≡ Some calls.Commit) ⊎ (o ≡ Some calls.Commit → ⊥)
is-commit (Some calls.Commit) = inl refl
is-commit o = inr (λ h. cc h)

-- an open transaction was not told committed
pub open_untold : (head : Head) (history : List (Entry Event)) → IsRun head history → (id : TxnId) → IsOpenHere (session_at head id history) id → told_at id history ≡ None
open_untold head history run id o =
    let agrees = open_agrees history (actors.Session id.session) (session_at head id history) o.t (agreed head history run (actors.Session id.session)) o.opened in
    ap (λ i. told_at i history) (sym o.named) ∙ agrees.0.told ∙ agrees.1

module _ (head : Head) where
  -- One more entry of the transaction's session.
  module _ (history : List (Entry Event)) (e : Entry Event) (run : IsRun head history) (may : MayFollow (protocol head) history e) (id : TxnId) (same : e.actor ≡ actors.Session id.session) where
    -- what was known stays so, where no new stage or commit of it is sent
    over-stays : IsKnownOver (session_at head id history) id
        → ((s : SentStage) → s.meta.id ≡ id → SendsNow head history e (actors.Session id.session) (stage_request s) → HasSent (session_at head id history).sent (stage_request s))
        → ((c : SentCommit) → c.meta.id ≡ id → SendsNow head history e (actors.Session id.session) (commit_request c) → ⊥)
        → IsKnownOver (session_at head id (history ++ e ∷ [])) id
    over-stays over old_stage no_commit =
        let actor : ActorId = actors.Session id.session in
        let k = session_at head id history in
        let more = heard_goes_on head history e actor in
        record {
          dead = λ s sent whose.
              let on : HasSent k.sent (stage_request s) → IsDead (session_at head id (history ++ e ∷ [])).heard s = λ old. subst (λ l. IsDead l s) (sym more.1) (dead_more k.heard more.0 s (over.dead s old whose)) in
              elim (sent_cases head history e actor (stage_request s) sent) [ inl old ↦ on old | inr now ↦ on (old_stage s whose now) ];
          refused = λ c sent whose.
              elim (sent_cases head history e actor (commit_request c) sent) [
                | inl old ↦ subst (λ l. WasCommitRefused l c) (sym more.1) (refused_more k.heard more.0 c (over.refused c old whose))
                | inr now ↦ absurd (no_commit c whose now)
              ];
        }

    -- so it does while the transaction is in no commit, and was not told committed
    pub over_on : IsKnownOver (session_at head id history) id → told_at id history ≡ None → (IsOpenHere (session_at head id history) id → call_of (session_at head id history) ≡ Some calls.Commit → ⊥)
        → IsKnownOver (session_at head id (history ++ e ∷ [])) id
    over_on over untold elsewhere = over-stays over old-stage no-commit
      where
        old-stage : (s : SentStage) → s.meta.id ≡ id → SendsNow head history e (actors.Session id.session) (stage_request s) → HasSent (session_at head id history).sent (stage_request s)
        old-stage s whose now =
            elim (stage_sent head history e may (actors.Session id.session) s now) [
              | inl old ↦ old
              | inr new ↦ absurd (elsewhere (record { t = new.t; opened = new.opened; named = sym (ap (λ (m : TxnMeta). m.id) new.whose.same) ∙ whose }) new.asked)
            ]

        no-commit : (c : SentCommit) → c.meta.id ≡ id → SendsNow head history e (actors.Session id.session) (commit_request c) → ⊥
        no-commit c whose now =
            let actor : ActorId = actors.Session id.session in
            let row = commit_sent head history e may actor c now in
            let named : row.t.id ≡ id = sym (ap (λ (m : TxnMeta). m.id) row.whose.same) ∙ whose in
            elim row.decided [
              | inl decides ↦ elim decides.may [
                | inl here ↦ elsewhere (record { t = row.t; opened = here.0; named = named }) here.1
                | inr told ↦
                    let agrees = each-contains _ (session_at head id history).txns row.t (agreed head history run actor).agrees row.mine in
                    let both : ◌≡◌ {A = Option ℕ} None (Some c.ts) = sym untold ∙ ap (λ i. told_at i history) (sym named) ∙ agrees.told ∙ told in
                    cc both
              ]
              | inr heard ↦
                  let d = heard_decides head history run actor row.t.id c.ts heard in
                  let at = settled head history run row.t.id d.0 c.ts d.1 in
                  settled_not_over head history run row.t.id d.0 c.ts d.1 at (subst (λ i. IsKnownOver (session_at head i history) i) (sym named) over)
            ]

    -- where it opens with the entry, nothing of it was sent
    over-new : (new : TxnId) (ts : ℕ) → e.event ≡ events.Tell (answers.Begun new ts) → new ≡ id → IsKnownOver (session_at head id (history ++ e ∷ [])) id
    over-new new ts is eq =
        over-stays (record { dead = λ s sent whose. absurd (none-staged s sent whose); refused = λ c sent whose. absurd (none-committed c sent whose) })
        (λ s whose now. let both : events.Tell (answers.Begun new ts) ≡ events.Send now.number now.range (stage_request s) = sym is ∙ now.sends in absurd (cc both))
        (λ c whose now. let both : events.Tell (answers.Begun new ts) ≡ events.Send now.number now.range (commit_request c) = sym is ∙ now.sends in cc both)
      where
        -- it is not known yet
        unknown : Has id (txns_of head id history) → ⊥
        unknown h =
            let k = session_at head id history in
            let next = begun_next head (actors.Session id.session) k new ts (subst (Does head (actors.Session id.session) k) is (does_next head history e id same may)) in
            let low = (owned (actors.Session id.session) (k.begun + 1) k.txns h.0 (numbered-at head history run id) h.1).1 in
            let number : new.number ≡ k.begun + 1 = next.1 in
            let its : h.0.id.number ≡ new.number = ap (λ (i : TxnId). i.number) (h.2 ∙ sym eq) in
            omega (arith, low, number, its)

        none-staged : (s : SentStage) → HasSent (session_at head id history).sent (stage_request s) → s.meta.id ≡ id → ⊥
        none-staged s (n, m, inside, at, asks) whose =
            let w = each-contains _ (session_at head id history).sent m (sent_is_so head history run (actors.Session id.session)) (n, inside, at) in
            let sent : WasStaged history s = record { send = w.send; listed = w.listed; number = m.number; range = m.range; sends = w.sends ∙ ap (events.Send m.number m.range) asks } in
            unknown (subst (λ i. Has i (txns_of head i history)) whose (staged_txn head history run s sent))

        none-committed : (c : SentCommit) → HasSent (session_at head id history).sent (commit_request c) → c.meta.id ≡ id → ⊥
        none-committed c (n, m, inside, at, asks) whose =
            let w = each-contains _ (session_at head id history).sent m (sent_is_so head history run (actors.Session id.session)) (n, inside, at) in
            unknown (subst (λ i. Has i (txns_of head i history)) whose
            (commit_known head history run w.send w.listed m.number m.range c.meta c.ts c.locks (w.sends ∙ ap (events.Send m.number m.range) asks)))

    -- it was open before, or it opens with the entry
    pub opens : IsOpenHere (session_at head id (history ++ e ∷ [])) id
        → ((new : TxnId) × (ts : ℕ) × (e.event ≡ events.Tell (answers.Begun new ts)) × (new ≡ id)) ⊎ IsOpenHere (session_at head id history) id
    opens o =
        let k = session_at head id history in
        let k2 = session_at head id (history ++ e ∷ []) in
        let here = open_is_first k2 o.t o.opened in
        let first : is_first id k2.txns ≡ true = ap (λ i. is_first i k2.txns) (sym o.named) ∙ here.0 in
        let first_then : is_first id k2.txns ≡ is_last_after id e.event (is_first id k.txns) =
        ap (λ (x : Known). is_first id x.txns) (known_same head (actors.Session id.session) history e same)
        ∙ sym (first_after id e.event (heard_by e.event (named_in (protocol head) history e.event) k.sent) k) in
        let open_then : k2.is_open ≡ is_open_after e.event k.is_open = ap (λ (x : Known). x.is_open) (known_same head (actors.Session id.session) history e same) in
        elim (is-begin head id e.event) [
          | inl new ↦
              let it : same_txn new.0 id ≡ true = ap (λ event. is_last_after id event (is_first id k.txns)) (sym new.2) ∙ sym first_then ∙ first in
              inl (new.0, new.1, new.2, same_txn-is new.0 id it)
          | inr none ↦
              let was_first : is_first id k.txns ≡ true = sym (same-told head id e.event (is_first id k.txns) none) ∙ sym first_then ∙ first in
              let was_open : k.is_open ≡ true = open-before head id e.event k.is_open none (sym open_then ∙ here.1) in
              let t = first-open id k.is_open k.txns was_first was_open in
              inr (record { t = t.0; opened = t.1; named = t.2 })
        ]

    -- where the entry sends nothing, what was known stays so
    pub over-unsent : IsKnownOver (session_at head id history) id → ((number range : ℕ) (request : Request) → e.event ≡ events.Send number range request → ⊥) → IsKnownOver (session_at head id (history ++ e ∷ [])) id
    over-unsent over none = over-stays over (λ s whose now. absurd (none now.number now.range (stage_request s) now.sends)) (λ c whose now. none now.number now.range (commit_request c) now.sends)

    -- an answer that leaves it open, told in a commit, shows that it came to nothing
    pub over-told : IsOpenHere (session_at head id history) id → (answer : Answer) → e.event ≡ events.Tell answer → is_open_told answer true ≡ true → call_of (session_at head id history) ≡ Some calls.Commit
        → IsKnownOver (session_at head id history) id
    over-told o answer is stays call =
        let k = session_at head id history in
        told_open head (actors.Session id.session) k o.t o.opened (open_is_first k o.t o.opened).1 call (IsKnownOver k id)
        (λ u. over_of k id (subst (λ i. IsUncommitted i k.sent k.heard) o.named u)) answer (subst (Does head (actors.Session id.session) k) is (does_next head history e id same may)) stays

    over-next : ((o : IsOpenHere (session_at head id history) id) → (call_of (session_at head id history) ≡ Some calls.Commit → ⊥) → IsKnownOver (session_at head id history) id)
        → IsOpenHere (session_at head id (history ++ e ∷ [])) id → (call_of (session_at head id (history ++ e ∷ [])) ≡ Some calls.Commit → ⊥) → IsKnownOver (session_at head id (history ++ e ∷ [])) id
    over-next before o elsewhere =
        let k = session_at head id history in
        let k2 = session_at head id (history ++ e ∷ []) in
        elim (opens o) [
          | inl new ↦ over-new new.0 new.1 new.2 new.3
          | inr was ↦ elim (is-tell head id e.event) [
            | inl tells ↦
                let open_then : k2.is_open ≡ is_open_after e.event k.is_open = ap (λ (x : Known). x.is_open) (known_same head (actors.Session id.session) history e same) in
                let stays : is_open_told tells.0 true ≡ true =
                sym (ap (λ event. is_open_after event k.is_open) tells.1 ∙ ap (is_open_told tells.0) (open_is_first k was.t was.opened).1) ∙ sym open_then ∙ (open_is_first k2 o.t o.opened).1 in
                let over : IsKnownOver k id = elim (is-commit (call_of k)) [ inl call ↦ over-told was tells.0 tells.1 stays call | inr other ↦ before was other ] in
                over-unsent over (λ number range request sends. let both : events.Tell tells.0 ≡ events.Send number range request = sym tells.1 ∙ sends in cc both)
            | inr other ↦ elim other [
              | inl asks ↦
                  let may_ask = subst (MayDo head (actors.Session id.session) k) asks.2 (may_do_next head history e id same may) in
                  let over : IsKnownOver k id = before was (λ call. let both : ◌≡◌ {A = Option Call} None (Some calls.Commit) = sym (ap call_in may_ask.none_open) ∙ call in cc both) in
                  over-unsent over (λ number range request sends. let both : events.Ask asks.0 asks.1 ≡ events.Send number range request = sym asks.2 ∙ sends in cc both)
              | inr within ↦
                  let call_same : call_of k2 ≡ call_of k = ap call_of (known_same head (actors.Session id.session) history e same) ∙ ap call_in (within-statement e.event k.statement within) in
                  over_on (before was (λ call. elsewhere (call_same ∙ call))) (open_untold head history run id was) (λ here call. elsewhere (call_same ∙ call))
            ]
          ]
        ]

  AreOver : List (Entry Event) → Type 0
  AreOver history = (id : TxnId) → IsOpenHere (session_at head id history) id → (call_of (session_at head id history) ≡ Some calls.Commit → ⊥) → IsKnownOver (session_at head id history) id

  -- an open transaction that is in no commit has come to nothing
  pub open_over : (history : List (Entry Event)) → IsRun head history → (id : TxnId) → IsOpenHere (session_at head id history) id → (call_of (session_at head id history) ≡ Some calls.Commit → ⊥) → IsKnownOver (session_at head id history) id
  unfolding AreOver
  open_over = run_induction head AreOver (λ id o. let opened = o.opened in absurd cc) (λ history e run may all id o elsewhere.
      elim (same_or_not e.actor (actors.Session id.session)) [
        | inl same ↦ over-next history e run may id same (all id) o elsewhere
        | inr differ ↦
            let still : session_at head id (history ++ e ∷ []) ≡ session_at head id history = known_other head (actors.Session id.session) history e differ in
            subst (λ k. IsKnownOver k id) (sym still) (all id (subst (λ k. IsOpenHere k id) still o) (λ call. elsewhere (ap call_of still ∙ call)))
      ])
