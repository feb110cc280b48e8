-- A stage, a commit and an abort were sent by their transaction's session, which knows of it.
use Rattle.std.proofs.Common.{◌≡◌, ℕ, ◌+◌, inl, inr, List, [], ◌∷◌, ◌++◌, Contains, refl, sym, ap, subst, ◌∙◌}
use Rattle.std.proofs.lemmas.List.Elements.{Contains-push, Contains-push_cases}
use Rattle.pc_base.specs.declared.actor.ActorId.{ActorId}
use Rattle.pc_base.specs.declared.actor.ActorId.TheVariants as actors
use Rattle.pc_base.specs.declared.entry.Entry.{Entry}
use Rattle.pc_base.specs.declared.transaction.TxnId.{TxnId}
use Rattle.pc_implicit.proofs.Agreed.{agreed, open_there, owned}
use Rattle.pc_implicit.proofs.Anchored.{commit_anchored}
use Rattle.pc_implicit.proofs.Commits.{act_of}
use Rattle.pc_implicit.proofs.Did.{session_at}
use Rattle.pc_implicit.proofs.Doing.{Does}
use Rattle.pc_implicit.proofs.EvaluatedAt.{sent_at}
use Rattle.pc_implicit.proofs.Forward.{Has, has_more}
use Rattle.pc_implicit.proofs.Refusals.{sent_known}
use Rattle.pc_implicit.proofs.StagesKnown.{HasSent}
use Rattle.pc_implicit.specs.Stages.{WasStaged}
use Rattle.pc_implicit.specs.Writes.{txns_of}
use Rattle.pc_lists.proofs.Lists.{contains_nil}
use Rattle.pc_proto.specs.declared.event.Event.{Event}
use Rattle.pc_proto.specs.declared.event.Event.TheVariants as events
use Rattle.pc_proto.specs.declared.meta.TxnMeta.{TxnMeta}
use Rattle.pc_proto.specs.declared.request.Request.{Request}
use Rattle.pc_proto.specs.declared.request.Request.TheVariants as requests
use Rattle.pc_proto.specs.declared.why.Why.{Why}
use Rattle.pc_world.proofs.Knowing.{run_push}
use Rattle.pc_world.proofs.Prefixes.{run_front, run_induction}
use Rattle.pc_world.specs.After.{known_at}
use Rattle.pc_world.specs.Known.Transactions.{Txn}
use Rattle.pc_world.specs.Local.{Head}
use Rattle.pc_world.specs.Run.{IsRun}
use Rattle.pc_world.specs.Send.Abort.{MaySendAbort}
use Rattle.pc_world.specs.Send.Stage.{MaySendStage}
use Rattle.pc_world.specs.StageFate.{SentCommit, SentStage, commit_request, stage_request}

module _ (head : Head) (history : List (Entry Event)) (run : IsRun head history) where
  owner-of : (before : List (Entry Event)) → IsRun head before → (actor : ActorId) (t : Txn) (id : TxnId) → Contains (known_at head actor before).txns t → id ≡ t.id → actor ≡ actors.Session id.session
  owner-of before run_before actor t id mine whose =
      let k = known_at head actor before in
      subst (λ (i : TxnId). actor ≡ actors.Session i.session) (sym whose) (owned actor (k.begun + 1) k.txns t (agreed head before run_before actor).numbered mine).0

  known-to : (a : Entry Event) → Contains history a → (number range : ℕ) (request : Request) (id : TxnId) → a.event ≡ events.Send number range request → a.actor ≡ actors.Session id.session → HasSent (session_at head id history).sent request
  known-to a there number range request id sends own =
      let (n, inside, at) = subst (λ w. Contains (known_at head w history).sent (record { number = number; range = range; request = request })) own (sent_known head history run a there number range request sends) in
      (n, record { number = number; range = range; request = request }, inside, at, refl)

  -- who sent a stage
  pub stage_owner : (s : SentStage) (w : WasStaged history s) → w.send.actor ≡ actors.Session s.meta.id.session
  stage_owner s w =
      let at = sent_at head history run w.send w.listed in
      let run_before : IsRun head at.before = run_front head at.before (w.send ∷ at.later) (subst (IsRun head) at.whole run) in
      let k = known_at head w.send.actor at.before in
      let act : Does head w.send.actor k (events.Send w.number w.range (stage_request s)) = subst (Does head w.send.actor k) w.sends at.does in
      let row : MaySendStage k s = act.row in
      elim row [
        | inl new ↦ owner-of at.before run_before w.send.actor new.t s.meta.id (open_there k new.t new.opened) (ap (λ (m : TxnMeta). m.id) new.whose.same)
        | inr again ↦ owner-of at.before run_before w.send.actor again.t s.meta.id again.mine again.whose
      ]

  -- its session knows that it was sent
  pub has_sent_stage : (s : SentStage) → WasStaged history s → HasSent (session_at head s.meta.id history).sent (stage_request s)
  has_sent_stage s w = known-to w.send w.listed w.number w.range (stage_request s) s.meta.id w.sends (stage_owner s w)

  -- so it is of a commit
  pub has_sent_commit : (a : Entry Event) → Contains history a → (number range : ℕ) (c : SentCommit) → a.event ≡ events.Send number range (commit_request c) → HasSent (session_at head c.meta.id history).sent (commit_request c)
  has_sent_commit a there number range c sends =
      known-to a there number range (commit_request c) c.meta.id sends (commit_anchored head history run a there number range c.meta c.ts c.locks sends).whose

  -- and of an abort
  pub has_sent_abort : (a : Entry Event) → Contains history a → (number range : ℕ) (meta : TxnMeta) (why : Why) (locks : List (List ℕ)) → a.event ≡ events.Send number range (requests.Abort meta why locks)
      → HasSent (session_at head meta.id history).sent (requests.Abort meta why locks)
  has_sent_abort a there number range meta why locks sends =
      let at = sent_at head history run a there in
      let run_before : IsRun head at.before = run_front head at.before (a ∷ at.later) (subst (IsRun head) at.whole run) in
      let k = known_at head a.actor at.before in
      let act : Does head a.actor k (events.Send number range (requests.Abort meta why locks)) = subst (Does head a.actor k) sends at.does in
      let row : MaySendAbort k meta why locks = act.row in
      known-to a there number range (requests.Abort meta why locks) meta.id sends
      (owner-of at.before run_before a.actor row.t meta.id (open_there k row.t row.opened) (ap (λ (m : TxnMeta). m.id) row.whose.same))

-- a session knows each transaction of which it sent a stage
pub staged_txn : (head : Head) (history : List (Entry Event)) → IsRun head history → (s : SentStage) → WasStaged history s → Has s.meta.id (txns_of head s.meta.id history)
staged_txn head history run s w = along history run w.send w.listed w.number w.range s w.sends
  where
    along : (history : List (Entry Event)) → IsRun head history → (a : Entry Event) → Contains history a → (number range : ℕ) (s : SentStage) → a.event ≡ events.Send number range (stage_request s) → Has s.meta.id (txns_of head s.meta.id history)
    along = run_induction head
        (λ history. (a : Entry Event) → Contains history a → (number range : ℕ) (s : SentStage) → a.event ≡ events.Send number range (stage_request s) → Has s.meta.id (txns_of head s.meta.id history))
        (λ a there. absurd (contains_nil a there)) (λ history e run may all a there number range s is.
        has_more head history e (actors.Session s.meta.id.session) s.meta.id
        (elim (Contains-push_cases history e a there) [
          | inl before ↦ all a before number range s is
          | inr now ↦
              let sends : e.event ≡ events.Send number range (stage_request s) = ap (λ (x : Entry Event). x.event) now ∙ is in
              let own = stage_owner head (history ++ e ∷ []) (run_push head history e run may) s (record { send = e; listed = Contains-push history e; number = number; range = range; sends = sends }) in
              let k = known_at head e.actor history in
              let act : Does head e.actor k (events.Send number range (stage_request s)) = subst (Does head e.actor k) sends (act_of head history e may) in
              let row : MaySendStage k s = act.row in
              subst (λ x. Has s.meta.id (known_at head x history).txns) own
              (elim row [
                | inl new ↦ (new.t, open_there k new.t new.opened, ap (λ (m : TxnMeta). m.id) (sym new.whose.same))
                | inr again ↦ (again.t, again.mine, sym again.whose)
              ])
        ]))
