-- The stages of the open transaction that are late.
use Rattle.std.proofs.Common.{◌≡◌, ℕ, true, false, ◌⊎◌, inl, inr, List, ◌++◌, Option, sym, ap, ◌∙◌, subst, All, Any, Contains, IsTrue}
use Rattle.std.proofs.lemmas.List.Elements.{All-contains, All-weaker}
use Rattle.pc_base.specs.Transaction.{same_txn}
use Rattle.pc_lists.proofs.Anywhere.{any_kept, any_weaker}
use Rattle.pc_lists.proofs.Lists.{all_from_contains}
use Rattle.pc_lists.proofs.Same.{same_txn-self}
use Rattle.pc_proto.specs.declared.reply.Reply.{Reply}
use Rattle.pc_proto.specs.declared.request.Request.{Request}
use Rattle.pc_proto.specs.Requests.{is_about}
use Rattle.pc_staging.proofs.Deciding.{over_yes}
use Rattle.pc_staging.proofs.Fates.{stage_of}
use Rattle.pc_staging.specs.Kept.{Evidence, is_over}
use Rattle.pc_staging.specs.Standing.{StagingStands, WasStagedAt, WasStageSent}
use Rattle.pc_txn.proofs.Above.{StaysUp, any_above}
use Rattle.pc_txn.proofs.Lists.{any_before}
use Rattle.pc_txn.specs.Standing.{AreLateByWrites, AreLiveHere, StandsAbove, IsStageHere}
use Rattle.pc_world.specs.Known.{Known}
use Rattle.pc_world.specs.Known.Traffic.{Heard}
use Rattle.pc_world.specs.Known.Transactions.{Txn}
use Rattle.pc_world.specs.StageFate.{IsDead, IsDeadByWrite, IsLate, RefutesRecord, RefutesWrite, SentCommit, SentStage, is_write_refuted, stage_request}
use Rattle.pc_world.specs.Tell.End.{shows_staging}

-- what is not about its record, and refutes no write of the stage, leaves the stage
pub none_by : (t : Txn) (s : SentStage) (h : Heard) → s.meta.id ≡ t.id → is_about t.id h.request ≡ false → is_write_refuted s h.request h.reply ≡ false → RefutesWrite s h ⊎ RefutesRecord s h → ⊥
none_by t s h whose other unrefuted refutes =
    elim refutes [
      | inl w ↦ let is : is_write_refuted s h.request h.reply ≡ true = w.refuted in absurd cc
      | inr p ↦ let about : is_about t.id h.request ≡ true = ap (is_about t.id) p.asked ∙ ap (λ id. same_txn id t.id) whose ∙ same_txn-self t.id in absurd cc
    ]

-- so does the reply to what is no stage, and refutes no write
pub none_by_other : (s : SentStage) (h : Heard) (request : Request) → h.request ≡ request → ((reply : Reply) → is_write_refuted s request reply ≡ false) → (request ≡ stage_request s → ⊥) → RefutesWrite s h ⊎ RefutesRecord s h → ⊥
none_by_other s h request asked unrefuted other refutes =
    elim refutes [
      | inl w ↦ let is : is_write_refuted s h.request h.reply ≡ true = w.refuted in let none = ap (λ r. is_write_refuted s r h.reply) asked ∙ unrefuted h.reply in absurd cc
      | inr p ↦ other (sym asked ∙ p.asked)
    ]

-- beside what refutes none of them, the stages that are late are so by the writes they were
pub late_on : (heard more : List Heard) (t now : Txn) (stages : List SentStage) → StaysUp t now → now.writes ≡ t.writes → AreLateByWrites stages heard t
    → ((s : SentStage) → Contains stages s → All (λ h. RefutesWrite s h ⊎ RefutesRecord s h → ⊥) more) → AreLateByWrites stages (heard ++ more) now
late_on heard more t now stages stays same late none =
    all_from_contains (λ s. IsLate (heard ++ more) s → Any (StandsAbove (heard ++ more) now s.ts) now.writes) stages
    (λ s there is.
    subst (λ ws. Any (StandsAbove (heard ++ more) now s.ts) ws) (sym same)
    (any_above heard more t now stays s.ts t.writes
    (All-contains (λ s. IsLate heard s → Any (StandsAbove heard t s.ts) t.writes) stages s late there
    (any_before (λ h. RefutesWrite s h ⊎ RefutesRecord s h) heard more (none s there) is))))

late_of_dead : (heard : List Heard) (s : SentStage) → IsDead heard s → IsLate heard s
late_of_dead heard s dead =
    elim dead [
      | inl past ↦ any_weaker (RefutesRecord s) (λ h. RefutesWrite s h ⊎ RefutesRecord s h) (λ h r. inr r) heard past
      | inr written ↦ any_weaker (IsDeadByWrite heard s) (λ h. RefutesWrite s h ⊎ RefutesRecord s h) (λ h d. inl d.refuted) heard written
    ]

-- a late stage stays late
pub late_more : (heard more : List Heard) (s : SentStage) → IsLate heard s → IsLate (heard ++ more) s
late_more heard more s late = any_kept (λ h. RefutesWrite s h ⊎ RefutesRecord s h) heard more late

pub still_late : (heard more : List Heard) (stages : List SentStage) → All (IsLate heard) stages → All (IsLate (heard ++ more)) stages
still_late heard more stages late = All-weaker (IsLate heard) (IsLate (heard ++ more)) (λ s is. late_more heard more s is) stages late

-- where each of the stages is late, none has to lie at the write timestamp
pub none_live : (heard : List Heard) (staged : Option ℕ) (t : Txn) (stages : List SentStage) → All (IsLate heard) stages → AreLiveHere stages heard staged t
none_live heard staged t stages late = All-weaker (IsLate heard) (λ s. (IsLate heard s → ⊥) → IsStageHere heard staged t s) (λ s is live. absurd (live is)) stages late

-- beside what shows no stage of the transaction, those that are not late lie there
pub live_on : (heard more : List Heard) (staged : Option ℕ) (t now : Txn) (stages : List SentStage) → now.id ≡ t.id → now.epoch ≡ t.epoch → now.write_ts ≡ t.write_ts → All (λ h. (ts : ℕ) → IsTrue (shows_staging t.id t.epoch ts h) → ⊥) more
    → AreLiveHere stages heard staged t → AreLiveHere stages (heard ++ more) staged now
live_on heard more staged t now stages id epoch at none live =
    All-weaker (λ s. (IsLate heard s → ⊥) → IsStageHere heard staged t s) (λ s. (IsLate (heard ++ more) s → ⊥) → IsStageHere (heard ++ more) staged now s) one stages live
  where
    before : (ts : ℕ) → WasStagedAt (heard ++ more) now ts → WasStagedAt heard t ts
    before ts was =
        let P : Heard → Type 0 = λ h. IsTrue (shows_staging t.id t.epoch ts h) in
        any_before P heard more (All-weaker (λ h. (ts : ℕ) → IsTrue (shows_staging t.id t.epoch ts h) → ⊥) (λ h. P h → ⊥) (λ h un. un ts) more none)
        (subst (λ i. Any (λ h. IsTrue (shows_staging i t.epoch ts h)) (heard ++ more)) id (subst (λ n. Any (λ h. IsTrue (shows_staging now.id n ts h)) (heard ++ more)) epoch was))

    one : (s : SentStage) → ((IsLate heard s → ⊥) → IsStageHere heard staged t s) → (IsLate (heard ++ more) s → ⊥) → IsStageHere (heard ++ more) staged now s
    one s here unlate =
        let h = here (λ late. unlate (late_more heard more s late)) in
        record { at_write_ts = h.at_write_ts ∙ sym at; heard_last = λ was. h.heard_last (before s.ts was) }

-- where each stage is dead, each one that is kept is late
pub dead_late : (k : Known) (stages : List SentStage) (commit : Option SentCommit) (t : Txn) (x : Evidence) → StagingStands k stages commit t x → is_over x ≡ true → All (IsLate k.heard) stages
dead_late k stages commit t x st over =
    all_from_contains (IsLate k.heard) stages
    (λ s there.
    let w : WasStageSent k.sent t.id s = All-contains (WasStageSent k.sent t.id) stages s st.sent there in
    late_of_dead k.heard s (stage_of t.id (IsDead k.heard) k.sent (over_yes k stages commit t x st over).stages s w.whose w.went_out))

-- where each stage that is kept is late, some write stands only above each of them
pub kept_above : (heard : List Heard) (t : Txn) (stages : List SentStage) (ts : ℕ) → AreLateByWrites stages heard t → All (IsLate heard) stages → Any (λ s. s.ts ≡ ts) stages → Any (StandsAbove heard t ts) t.writes
kept_above heard t stages ts by all (n, s, inside, at, is) =
    let there : Contains stages s = (n, inside, at) in
    subst (λ ts. Any (StandsAbove heard t ts) t.writes) is
    (All-contains (λ s. IsLate heard s → Any (StandsAbove heard t s.ts) t.writes) stages s by there (All-contains (IsLate heard) stages s all there))
