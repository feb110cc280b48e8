-- Once an abort was sent, its transaction is open only in that rollback, and each of its stages is known to be dead.
use Rattle.std.proofs.Common.{◌≡◌, ℕ, ◌+◌, ◌≤◌, true, false, ◌&&◌, not, inl, inr, List, [], ◌∷◌, ◌++◌, Option, None, Some, refl, sym, ap, subst, ◌∙◌, arith}
use Rattle.std.specs.Bool.{MatchBool}
use Rattle.pc_base.specs.declared.actor.ActorId.{ActorId}
use Rattle.pc_base.specs.declared.actor.ActorId.TheVariants as actors
use Rattle.pc_base.specs.declared.entry.Entry.{Entry}
use Rattle.pc_base.specs.declared.transaction.TxnId.{TxnId}
use Rattle.pc_base.specs.Transaction.{same_txn}
use Rattle.pc_history.specs.History.{MayFollow}
use Rattle.pc_implicit.proofs.Agreed.{begun-grows, begun_next, open_there, owned}
use Rattle.pc_implicit.proofs.CommitCalls.{is-begin, is-tell, open-before, same-told}
use Rattle.pc_implicit.proofs.Did.{numbered-at, session_at}
use Rattle.pc_implicit.proofs.Doing.{Does, same_or_not}
use Rattle.pc_implicit.proofs.Moves.{is_first, open_is_first}
use Rattle.pc_implicit.proofs.OpenReads.{within-statement}
use Rattle.pc_implicit.proofs.OwnNext.{does_next, first_next, may_do_next, open_next}
use Rattle.pc_implicit.proofs.StagesKnown.{HasSent, dead_more, heard_goes_on, none_sent, sent_cases, stage_of, stage_sent}
use Rattle.pc_lists.proofs.Same.{same_txn-is}
use Rattle.pc_proto.specs.declared.answer.Answer.{Answer}
use Rattle.pc_proto.specs.declared.answer.Answer.TheVariants as answers
use Rattle.pc_proto.specs.declared.call.Call.{Call}
use Rattle.pc_proto.specs.declared.call.Call.TheVariants as calls
use Rattle.pc_proto.specs.declared.event.Event.{Event}
use Rattle.pc_proto.specs.declared.event.Event.TheVariants as events
use Rattle.pc_proto.specs.declared.meta.TxnMeta.{TxnMeta}
use Rattle.pc_proto.specs.declared.request.Request.TheVariants as requests
use Rattle.pc_proto.specs.declared.why.Why.{Why}
use Rattle.pc_world.proofs.Knowing.{known_other, known_same}
use Rattle.pc_world.proofs.Prefixes.{run_induction}
use Rattle.pc_world.specs.Known.{Known, call_in, call_of}
use Rattle.pc_world.specs.Known.Statements.{Statement, begun_after, is_open_after, is_open_told}
use Rattle.pc_world.specs.Local.{Head, MayDo}
use Rattle.pc_world.specs.MayTell.{IsLearnTold, MayTell, MayTellRow, is_past_range, needs_txn}
use Rattle.pc_world.specs.Operations.{is_last_after}
use Rattle.pc_world.specs.Run.{IsRun, protocol}
use Rattle.pc_world.specs.Send.Abort.{MaySendAbort}
use Rattle.pc_world.specs.Send.Put.{AsksFor}
use Rattle.pc_world.specs.StageFate.{IsDead, SentStage, stage_request}
use Rattle.pc_world.specs.Tell.Refusal.{MayBlock}

-- ---- a rollback is told nothing that leaves its transaction open

asks-no-write : (call : Call) (key : List ℕ) (value : Option (List ℕ)) → call ≡ calls.Rollback → AsksFor (Some call) key value → ⊥
asks-no-write call key None is asks = let both : ◌≡◌ {A = Option Call} (Some calls.Rollback) (Some (calls.Delete key)) = sym (ap Some is) ∙ asks in cc both
asks-no-write call key (Some value) is asks = let both : ◌≡◌ {A = Option Call} (Some calls.Rollback) (Some (calls.Put key value)) = sym (ap Some is) ∙ asks in cc both

module _ (head : Head) (actor : ActorId) (k : Known) (is_open : k.is_open ≡ true) (call : call_of k ≡ Some calls.Rollback) where
  rollback-is : (s : Statement) → k.statement ≡ Some s → s.call ≡ calls.Rollback
  rollback-is s at = let both : ◌≡◌ {A = Option Call} (Some s.call) (Some calls.Rollback) = sym (ap call_in at) ∙ call in cc both

  rollback-row : (s : Statement) (answer : Answer) → s.call ≡ calls.Rollback
      → MatchBool (needs_txn s.call && not k.is_open) (answer ≡ answers.NoTxn) (MatchBool (is_past_range s) (answer ≡ answers.Clock s.reading) (MayTellRow head.splits actor k s answer)) → MayTellRow head.splits actor k s answer
  rollback-row s answer is told =
      let first : (needs_txn s.call && not k.is_open) ≡ false = ap (λ c. needs_txn c && not k.is_open) is ∙ ap not is_open in
      let second : is_past_range s ≡ false = ap (λ c. is_past_range (record { call = c; reading = s.reading })) is in
      subst (λ b. MatchBool b (answer ≡ answers.Clock s.reading) (MayTellRow head.splits actor k s answer)) second
      (subst (λ b. MatchBool b (answer ≡ answers.NoTxn) (MatchBool (is_past_range s) (answer ≡ answers.Clock s.reading) (MayTellRow head.splits actor k s answer))) first told)

  rollback-ends : (answer : Answer) → MayTell head.splits actor k answer → is_open_told answer true ≡ true → ⊥
  rollback-ends answer may stays = by answer (rollback-row may.s answer (rollback-is may.s may.opened) may.told) (rollback-is may.s may.opened) stays
    where
      by : (answer : Answer) → MayTellRow head.splits actor k may.s answer → may.s.call ≡ calls.Rollback → is_open_told answer true ≡ true → ⊥
      by (answers.Begun id ts) row is stays = let both : calls.Begin row.priority ≡ calls.Rollback = sym row.asked ∙ is in cc both
      by (answers.Value value) row is stays = let both : calls.Get row.key ≡ calls.Rollback = sym row.asked ∙ is in cc both
      by (answers.Rows rows) row is stays = let both : calls.Scan row.span ≡ calls.Rollback = sym row.asked ∙ is in cc both
      by answers.Written row is stays = let (n, m, inside, at, f) = row.sent in asks-no-write may.s.call f.key f.value is f.asked
      by (answers.Committed id ts) row is stays = cc stays
      by (answers.RolledBack id why) row is stays = cc stays
      by answers.Learnt row is stays = subst (IsLearnTold true k) is row
      by answers.NotYet row is stays = subst (IsLearnTold false k) is row
      by answers.Done row is stays = let both : calls.Round ≡ calls.Rollback = sym row ∙ is in cc both
      by (answers.Blocked holder) row is stays = subst MayBlock is row.asked
      by (answers.Unavailable faults) row is stays = row.no_rollback is
      by (answers.Aborted why) row is stays = cc stays
      by (answers.Restart key ts) row is stays = let both : calls.Commit ≡ calls.Rollback = sym row.asked ∙ is in cc both
      by (answers.Unknown id) row is stays = cc stays
      by (answers.Moved ts) row is stays = let both : calls.Commit ≡ calls.Rollback = sym row.asked ∙ is in cc both
      by (answers.Clock reading) row is stays = row
      by answers.NoTxn row is stays = row

-- ---- along a run

-- The transaction is given up: it was begun, and where it is open it is in a rollback; and each of its stages is dead.
pub record IsGivenUp (k : Known) (id : TxnId) : Type 0 where
  pub begun : id.number ≤ k.begun
  pub ends : is_first id k.txns ≡ true → k.is_open ≡ true → call_of k ≡ Some calls.Rollback
  pub dead : (s : SentStage) → HasSent k.sent (stage_request s) → s.meta.id ≡ id → IsDead k.heard s

module _ (head : Head) where
  -- One more entry of the transaction's session.
  module _ (history : List (Entry Event)) (e : Entry Event) (run : IsRun head history) (may : MayFollow (protocol head) history e) (id : TxnId) (same : e.actor ≡ actors.Session id.session) where
    -- it stays open only in its rollback
    ends-then : id.number ≤ (session_at head id history).begun
        → (is_first id (session_at head id history).txns ≡ true → (session_at head id history).is_open ≡ true → call_of (session_at head id history) ≡ Some calls.Rollback)
        → is_first id (session_at head id (history ++ e ∷ [])).txns ≡ true → (session_at head id (history ++ e ∷ [])).is_open ≡ true → call_of (session_at head id (history ++ e ∷ [])) ≡ Some calls.Rollback
    ends-then begun ends first is_open =
        let k = session_at head id history in
        elim (is-begin head id e.event) [
          | inl new ↦
              let next = begun_next head (actors.Session id.session) k new.0 new.1 (subst (Does head (actors.Session id.session) k) new.2 (does_next head history e id same may)) in
              let it : same_txn new.0 id ≡ true = ap (λ event. is_last_after id event (is_first id k.txns)) (sym new.2) ∙ sym (first_next head history e id same) ∙ first in
              let eq : new.0.number ≡ id.number = ap (λ (i : TxnId). i.number) (same_txn-is new.0 id it) in
              let at : new.0.number ≡ k.begun + 1 = next.1 in
              absurd (let none : ⊥ = omega (arith, eq, at, begun) in none)
          | inr none ↦
              let was_first : is_first id k.txns ≡ true = sym (same-told head id e.event (is_first id k.txns) none) ∙ sym (first_next head history e id same) ∙ first in
              let was_open : k.is_open ≡ true = open-before head id e.event k.is_open none (sym (open_next head history e id same) ∙ is_open) in
              let call = ends was_first was_open in
              elim (is-tell head id e.event) [
                | inl tells ↦
                    absurd (rollback-ends head (actors.Session id.session) k was_open call tells.0 (subst (Does head (actors.Session id.session) k) tells.1 (does_next head history e id same may))
                    (sym (ap (λ event. is_open_after event k.is_open) tells.1 ∙ ap (is_open_told tells.0) was_open) ∙ sym (open_next head history e id same) ∙ is_open))
                | inr other ↦ elim other [
                  | inl asks ↦
                      let may_ask = subst (MayDo head (actors.Session id.session) k) asks.2 (may_do_next head history e id same may) in
                      absurd (let both : ◌≡◌ {A = Option Call} None (Some calls.Rollback) = sym (ap call_in may_ask.none_open) ∙ call in cc both)
                  | inr within ↦
                      ap call_of (known_same head (actors.Session id.session) history e same) ∙ ap call_in (within-statement e.event k.statement within) ∙ call
                ]
              ]
        ]

    -- its stages stay dead, and it sends none
    dead-then : IsGivenUp (session_at head id history) id → (s : SentStage) → HasSent (session_at head id (history ++ e ∷ [])).sent (stage_request s) → s.meta.id ≡ id → IsDead (session_at head id (history ++ e ∷ [])).heard s
    dead-then up s sent whose =
        let actor : ActorId = actors.Session id.session in
        let k = session_at head id history in
        let more = heard_goes_on head history e actor in
        let on : HasSent k.sent (stage_request s) → IsDead (session_at head id (history ++ e ∷ [])).heard s = λ old. subst (λ l. IsDead l s) (sym more.1) (dead_more k.heard more.0 s (up.dead s old whose)) in
        elim (sent_cases head history e actor (stage_request s) sent) [
          | inl old ↦ on old
          | inr now ↦ elim (stage_sent head history e may actor s now) [
            | inl old ↦ on old
            | inr new ↦
                let is : new.t.id ≡ id = sym (ap (λ (m : TxnMeta). m.id) new.whose.same) ∙ whose in
                let first = open_is_first k new.t new.opened in
                let call = up.ends (ap (λ i. is_first i k.txns) (sym is) ∙ first.0) first.1 in
                absurd (let both : ◌≡◌ {A = Option Call} (Some calls.Rollback) (Some calls.Commit) = sym call ∙ new.asked in cc both)
          ]
        ]

    given-up-on : IsGivenUp (session_at head id history) id → IsGivenUp (session_at head id (history ++ e ∷ [])) id
    given-up-on up =
        let k = session_at head id history in
        let known = known_same head (actors.Session id.session) history e same in
        let grown : k.begun ≤ begun_after e.event k.begun = begun-grows e.event k.begun in
        let low : id.number ≤ k.begun = up.begun in
        record { begun = subst (λ (l : Known). id.number ≤ l.begun) (sym known) (omega (arith, grown, low)); ends = ends-then up.begun up.ends; dead = dead-then up }

    -- where an abort is sent, it is given up
    given-up-now : (meta : TxnMeta) (why : Why) (locks : List (List ℕ)) → meta.id ≡ id → (number range : ℕ) → e.event ≡ events.Send number range (requests.Abort meta why locks) → IsGivenUp (session_at head id (history ++ e ∷ [])) id
    given-up-now meta why locks whose number range sends =
        let k = session_at head id history in
        let act : Does head (actors.Session id.session) k (events.Send number range (requests.Abort meta why locks)) = subst (Does head (actors.Session id.session) k) sends (does_next head history e id same may) in
        let row : MaySendAbort k meta why locks = act.row in
        let is : row.t.id ≡ id = sym (ap (λ (m : TxnMeta). m.id) row.whose.same) ∙ whose in
        let low = (owned (actors.Session id.session) (k.begun + 1) k.txns row.t (numbered-at head history run id) (open_there k row.t row.opened)).1 in
        let eq : row.t.id.number ≡ id.number = ap (λ (i : TxnId). i.number) is in
        given-up-on (record {
          begun = omega (arith, low, eq);
          ends = λ first is_open. row.asked;
          dead = λ s sent own_stage. stage_of row.t.id (IsDead k.heard) k.sent row.uncommitted.stages s (own_stage ∙ sym is) sent;
        })

  HaveGivenUp : List (Entry Event) → Type 0
  HaveGivenUp history = (meta : TxnMeta) (why : Why) (locks : List (List ℕ)) → HasSent (session_at head meta.id history).sent (requests.Abort meta why locks) → IsGivenUp (session_at head meta.id history) meta.id

  -- A transaction of which an abort was sent is given up.
  pub given_up : (history : List (Entry Event)) → IsRun head history → (meta : TxnMeta) (why : Why) (locks : List (List ℕ)) → HasSent (session_at head meta.id history).sent (requests.Abort meta why locks)
      → IsGivenUp (session_at head meta.id history) meta.id
  unfolding HaveGivenUp
  given_up = run_induction head HaveGivenUp (λ meta why locks sent. absurd (none_sent (requests.Abort meta why locks) sent)) (λ history e run may all meta why locks sent.
      let actor : ActorId = actors.Session meta.id.session in
      elim (sent_cases head history e actor (requests.Abort meta why locks) sent) [
        | inl old ↦ elim (same_or_not e.actor actor) [
          | inl same ↦ given-up-on history e run may meta.id same (all meta why locks old)
          | inr differ ↦ subst (λ k. IsGivenUp k meta.id) (sym (known_other head actor history e differ)) (all meta why locks old)
        ]
        | inr now ↦ given-up-now history e run may meta.id now.whose meta why locks refl now.number now.range now.sends
      ])
