-- What else may have been sent of a transaction while a stage of it is open and none of its writes was refuted: commits at its timestamp
-- or that the record is past, stages below it, and no abort.
use Rattle.std.proofs.Common.{◌≡◌, ℕ, ◌<◌, ◌⊎◌, inl, inr, List, None, Some, Contains, sym, ap, subst, ◌∙◌}
use Rattle.pc_base.specs.declared.actor.ActorId.{ActorId}
use Rattle.pc_base.specs.declared.actor.ActorId.TheVariants as actors
use Rattle.pc_base.specs.declared.entry.Entry.{Entry}
use Rattle.pc_implicit.proofs.AbortsSent.{given_up}
use Rattle.pc_implicit.proofs.CommitsSent.{IsBeyond, refused_beyond}
use Rattle.pc_implicit.proofs.Did.{session_at}
use Rattle.pc_implicit.proofs.HeardViews.{heard_decides}
use Rattle.pc_implicit.proofs.StagePairs.{stages_apart, stages_paired}
use Rattle.pc_implicit.proofs.StagesKnown.{HasSent, passed_is_late}
use Rattle.pc_implicit.proofs.StagesRefuted.{dead_refuted, late_beyond, late_refuted}
use Rattle.pc_implicit.proofs.StagesSent.{has_sent_abort, has_sent_commit, has_sent_stage}
use Rattle.pc_implicit.proofs.StageWords.{SomeRefuted}
use Rattle.pc_implicit.specs.Decided.{decision}
use Rattle.pc_implicit.specs.Stages.{IsOpenTo, WasStaged}
use Rattle.pc_implicit.specs.Writes.{home_of}
use Rattle.pc_proto.specs.declared.event.Event.{Event}
use Rattle.pc_proto.specs.declared.event.Event.TheVariants as events
use Rattle.pc_proto.specs.declared.meta.TxnMeta.{TxnMeta}
use Rattle.pc_proto.specs.declared.request.Request.TheVariants as requests
use Rattle.pc_proto.specs.declared.why.Why.{Why}
use Rattle.pc_world.specs.Local.{Head}
use Rattle.pc_world.specs.Run.{IsRun}
use Rattle.pc_world.specs.StageFate.{IsDead, SentCommit, SentStage, commit_request, stage_request}

module _ (head : Head) (history : List (Entry Event)) (run : IsRun head history) (s : SentStage) (sent : WasStaged history s) (opened : IsOpenTo head history s) where
  -- where an abort was sent, the stage has a refuted write
  pub abort_refutes : (a : Entry Event) → Contains history a → (number range : ℕ) (meta : TxnMeta) (why : Why) (locks : List (List ℕ)) → a.event ≡ events.Send number range (requests.Abort meta why locks) → meta.id ≡ s.meta.id → SomeRefuted history s
  abort_refutes a there number range meta why locks sends whose =
      let up = given_up head history run meta why locks (has_sent_abort head history run a there number range meta why locks sends) in
      let known : HasSent (session_at head meta.id history).sent (stage_request s) = subst (λ i. HasSent (session_at head i history).sent (stage_request s)) (sym whose) (has_sent_stage head history run s sent) in
      let dead : IsDead (session_at head s.meta.id history).heard s = subst (λ i. IsDead (session_at head i history).heard s) whose (up.dead s known (sym whose)) in
      dead_refuted head history run s sent opened dead

  module _ (whole : SomeRefuted history s → ⊥) where
    -- a commit that was sent is at its timestamp, or the record is past it
    pub commit_beside : (a : Entry Event) → Contains history a → (number range : ℕ) (c : SentCommit) → a.event ≡ events.Send number range (commit_request c) → c.meta.id ≡ s.meta.id
        → (c.ts ≡ s.ts) ⊎ IsBeyond c.meta.epoch c.ts (home_of head s.meta.id history)
    commit_beside a there number range c sends whose =
        let actor : ActorId = actors.Session s.meta.id.session in
        let known : HasSent (session_at head s.meta.id history).sent (commit_request c) = subst (λ i. HasSent (session_at head i history).sent (commit_request c)) whose (has_sent_commit head history run a there number range c sends) in
        let home_is : home_of head c.meta.id history ≡ home_of head s.meta.id history = ap (λ i. home_of head i history) whose in
        elim (stages_apart head history run actor s c (has_sent_stage head history run s sent) known (sym whose)) [
          | inl same ↦ inl (sym same)
          | inr other ↦ elim other [
            | inl late ↦ absurd (whole (late_refuted head history run s sent opened late))
            | inr rest ↦ elim rest [
              | inl refused ↦ inr (subst (IsBeyond c.meta.epoch c.ts) home_is (refused_beyond head history run actor c (ap decision home_is ∙ opened.undecided) refused))
              | inr committed ↦
                  let d = heard_decides head history run actor c.meta.id c.ts committed in
                  let both : None ≡ Some _ = sym (ap decision home_is ∙ opened.undecided) ∙ d.1 in absurd cc
            ]
          ]
        ]

    -- another stage that was sent lies below it, or the record is past that one
    pub stage_beside : (x : SentStage) → WasStaged history x → x.meta.id ≡ s.meta.id → (x ≡ s) ⊎ ((x.ts < s.ts) ⊎ IsBeyond x.meta.epoch x.ts (home_of head s.meta.id history))
    stage_beside x also whose =
        let actor : ActorId = actors.Session s.meta.id.session in
        let known : HasSent (session_at head s.meta.id history).sent (stage_request x) = subst (λ i. HasSent (session_at head i history).sent (stage_request x)) whose (has_sent_stage head history run x also) in
        let home_is : home_of head x.meta.id history ≡ home_of head s.meta.id history = ap (λ i. home_of head i history) whose in
        elim (stages_paired head history run actor s x (has_sent_stage head history run s sent) known (sym whose)) [
          | inl same ↦ inl (sym same)
          | inr passed ↦ elim passed [
            | inl first ↦ absurd (whole (late_refuted head history run s sent opened (passed_is_late (session_at head s.meta.id history).heard x.ts s first)))
            | inr second ↦ elim second [
              | inl late ↦ inr (inl late.1)
              | inr past ↦ inr (inr (subst (IsBeyond x.meta.epoch x.ts) home_is (late_beyond head history run actor x (ap decision home_is ∙ opened.undecided) past)))
            ]
          ]
        ]
