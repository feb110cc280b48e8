-- Of two stages of a transaction the earlier one does not stand in the other's way, and neither does a stage in that of a commit at another
-- timestamp: so its session saw to it when it sent the later one.
use Rattle.std.proofs.Common.{◌≡◌, ◌≢◌, ◌==◌, Bool, true, false, ◌⊎◌, inl, inr, List, [], ◌∷◌, ◌++◌, refl, sym, ap, subst, ◌∙◌}
use Rattle.std.proofs.lemmas.Bool.{eq-eqb, eqb-true}
use Rattle.pc_base.specs.declared.actor.ActorId.{ActorId}
use Rattle.pc_base.specs.declared.entry.Entry.{Entry}
use Rattle.pc_implicit.proofs.StagesKnown.{HasSent, commit_of, commit_sent, heard_goes_on, late_more, none_sent, one_stage, passed_more, refused_more, sent_cases, stage_of, stage_sent}
use Rattle.pc_lists.proofs.Anywhere.{any_kept}
use Rattle.pc_proto.specs.declared.event.Event.{Event}
use Rattle.pc_proto.specs.declared.event.Event.TheVariants as events
use Rattle.pc_proto.specs.declared.meta.TxnMeta.{TxnMeta}
use Rattle.pc_world.proofs.Prefixes.{run_induction}
use Rattle.pc_world.specs.After.{known_at}
use Rattle.pc_world.specs.Known.Traffic.{Heard}
use Rattle.pc_world.specs.Local.{Head}
use Rattle.pc_world.specs.Run.{IsRun}
use Rattle.pc_world.specs.Send.Commit.{MaySendCommit}
use Rattle.pc_world.specs.Send.Stage.{IsPassed, MaySendNewStage}
use Rattle.pc_world.specs.StageFate.{IsLate, SentCommit, SentStage, WasCommitRefused, commit_request, stage_request}
use Rattle.pc_world.specs.Views.{WasCommitted}

-- The two are one, or one of them is passed by the other.
abbrev pub ArePaired : List Heard → SentStage → SentStage → Type 0
ArePaired heard s x = (s ≡ x) ⊎ (IsPassed heard x.ts s ⊎ IsPassed heard s.ts x)

-- The stage and the commit have one timestamp, or the stage is late, or the commit refused, or the transaction was heard to be committed
-- as the commit says.
abbrev pub AreApart : List Heard → SentStage → SentCommit → Type 0
AreApart heard s c = (s.ts ≡ c.ts) ⊎ (IsLate heard s ⊎ (WasCommitRefused heard c ⊎ WasCommitted heard c.meta.id c.ts))

paired_more : (heard more : List Heard) (s x : SentStage) → ArePaired heard s x → ArePaired (heard ++ more) s x
paired_more heard more s x h = elim h [ inl same ↦ inl same | inr other ↦ elim other [ inl passed ↦ inr (inl (passed_more heard more x.ts s passed)) | inr passed ↦ inr (inr (passed_more heard more s.ts x passed)) ] ]

apart_more : (heard more : List Heard) (s : SentStage) (c : SentCommit) → AreApart heard s c → AreApart (heard ++ more) s c
apart_more heard more s c h =
    elim h [
      | inl same ↦ inl same
      | inr other ↦ elim other [
        | inl late ↦ inr (inl (late_more heard more s late))
        | inr rest ↦ elim rest [
          | inl refused ↦ inr (inr (inl (refused_more heard more c refused)))
          | inr committed ↦ inr (inr (inr (any_kept _ heard more committed)))
        ]
      ]
    ]

module _ (head : Head) where
  HavePairs : List (Entry Event) → Type 0
  HavePairs history = (actor : ActorId) (s x : SentStage) → HasSent (known_at head actor history).sent (stage_request s) → HasSent (known_at head actor history).sent (stage_request x) → s.meta.id ≡ x.meta.id → ArePaired (known_at head actor history).heard s x

  HaveApart : List (Entry Event) → Type 0
  HaveApart history = (actor : ActorId) (s : SentStage) (c : SentCommit) → HasSent (known_at head actor history).sent (stage_request s) → HasSent (known_at head actor history).sent (commit_request c) → s.meta.id ≡ c.meta.id → AreApart (known_at head actor history).heard s c

  new-passes : (actor : ActorId) (history : List (Entry Event)) (s x : SentStage) → HasSent (known_at head actor history).sent (stage_request s) → s.meta.id ≡ x.meta.id → MaySendNewStage (known_at head actor history) x
      → IsPassed (known_at head actor history).heard x.ts s
  new-passes actor history s x sent same new =
      let k = known_at head actor history in
      stage_of new.t.id (IsPassed k.heard x.ts) k.sent new.stages s (same ∙ ap (λ (m : TxnMeta). m.id) new.whose.same) sent

  -- Of two stages of a transaction that its session sent one is passed, where they are not the same.
  pub stages_paired : (history : List (Entry Event)) → IsRun head history → (actor : ActorId) (s x : SentStage) → HasSent (known_at head actor history).sent (stage_request s) → HasSent (known_at head actor history).sent (stage_request x)
      → s.meta.id ≡ x.meta.id → ArePaired (known_at head actor history).heard s x
  unfolding HavePairs
  stages_paired = run_induction head HavePairs (λ actor s x sent also same. absurd (none_sent (stage_request s) sent)) (λ history e run may all actor s x sent also same.
      let k = known_at head actor history in
      let more = heard_goes_on head history e actor in
      let on : ArePaired k.heard s x → ArePaired (known_at head actor (history ++ e ∷ [])).heard s x = λ h. subst (λ l. ArePaired l s x) (sym more.1) (paired_more k.heard more.0 s x h) in
      elim (sent_cases head history e actor (stage_request s) sent) [
        | inl old ↦ elim (sent_cases head history e actor (stage_request x) also) [
          | inl before ↦ on (all actor s x old before same)
          | inr now ↦ elim (stage_sent head history e may actor x now) [
            | inl before ↦ on (all actor s x old before same)
            | inr new ↦ on (inr (inl (new-passes actor history s x old same new)))
          ]
        ]
        | inr now ↦ elim (sent_cases head history e actor (stage_request x) also) [
          | inl before ↦ elim (stage_sent head history e may actor s now) [
            | inl old ↦ on (all actor s x old before same)
            | inr new ↦ on (inr (inr (new-passes actor history x s before (sym same) new)))
          ]
          | inr too ↦ inl (one_stage now.number now.range too.number too.range s x e.event now.sends too.sends)
        ]
      ])

  commit-apart : (actor : ActorId) (history : List (Entry Event)) (s : SentStage) (c : SentCommit) → HasSent (known_at head actor history).sent (stage_request s) → s.meta.id ≡ c.meta.id → MaySendCommit (known_at head actor history) c
      → AreApart (known_at head actor history).heard s c
  commit-apart actor history s c sent same may =
      let k = known_at head actor history in
      let whose : c.meta.id ≡ may.t.id = ap (λ (m : TxnMeta). m.id) may.whose.same in
      elim may.decided [
        | inl own ↦ by (s.ts == c.ts) refl (stage_of may.t.id (λ (x : SentStage). x.ts ≢ c.ts → IsLate k.heard x) k.sent own.stages s (same ∙ whose) sent)
        | inr heard ↦ inr (inr (inr (subst (λ i. WasCommitted k.heard i c.ts) (sym whose) heard)))
      ]
    where
      by : (b : Bool) → (s.ts == c.ts) ≡ b → ((s.ts ≡ c.ts → ⊥) → IsLate (known_at head actor history).heard s) → AreApart (known_at head actor history).heard s c
      by true is late = inl (eqb-true s.ts c.ts is)
      by false differ late = inr (inl (late (λ same_ts. absurd (let both : true ≡ false = sym (eq-eqb s.ts c.ts same_ts) ∙ differ in cc both))))

  -- A stage and a commit of a transaction have one timestamp, or its session knows that one of them does not count.
  pub stages_apart : (history : List (Entry Event)) → IsRun head history → (actor : ActorId) (s : SentStage) (c : SentCommit) → HasSent (known_at head actor history).sent (stage_request s) → HasSent (known_at head actor history).sent (commit_request c)
      → s.meta.id ≡ c.meta.id → AreApart (known_at head actor history).heard s c
  unfolding HaveApart
  stages_apart = run_induction head HaveApart (λ actor s c sent also same. absurd (none_sent (stage_request s) sent)) (λ history e run may all actor s c sent also same.
      let k = known_at head actor history in
      let more = heard_goes_on head history e actor in
      let on : AreApart k.heard s c → AreApart (known_at head actor (history ++ e ∷ [])).heard s c = λ h. subst (λ l. AreApart l s c) (sym more.1) (apart_more k.heard more.0 s c h) in
      elim (sent_cases head history e actor (stage_request s) sent) [
        | inl old ↦ elim (sent_cases head history e actor (commit_request c) also) [
          | inl before ↦ on (all actor s c old before same)
          | inr now ↦ on (commit-apart actor history s c old same (commit_sent head history e may actor c now))
        ]
        | inr now ↦ elim (sent_cases head history e actor (commit_request c) also) [
          | inl before ↦ elim (stage_sent head history e may actor s now) [
            | inl old ↦ on (all actor s c old before same)
            | inr new ↦ on (inr (inr (inl (commit_of new.t.id (WasCommitRefused k.heard) k.sent new.commits c (sym same ∙ ap (λ (m : TxnMeta). m.id) new.whose.same) before))))
          ]
          | inr too ↦ absurd (let both : events.Send now.number now.range (stage_request s) ≡ events.Send too.number too.range (commit_request c) = sym now.sends ∙ too.sends in cc both)
        ]
      ])
