-- What is so of a transaction by what is filed under it is so by all that was sent and heard.
use Rattle.std.proofs.Common.{◌≡◌, ◌≢◌, ◌↔◌, ℕ, true, Any, List, ap, is_some, refl, sym, subst, inl, inr}
use Rattle.std.proofs.lemmas.List.Elements.{All-weaker}
use Rattle.pc_base.specs.declared.transaction.TxnId.{TxnId}
use Rattle.pc_base.specs.declared.transaction.Who.{Who}
use Rattle.pc_files.proofs.Narrow.{any_narrow, each_commit, each_stage, itself, late, late_by_record, refused}
use Rattle.pc_files.proofs.Views.{final, found, missed, pushed}
use Rattle.pc_files.specs.Filing.{decided_by, deciding_of, is_txn, replies_of, views_of}
use Rattle.pc_may_send.specs.Listed.{HasFoundAll, HasListed, HasMissed}
use Rattle.pc_may_send.specs.Settled.{IsFinalAbout, IsSettledBy}
use Rattle.pc_may_send.specs.Staging.{IsStageAgain}
use Rattle.pc_world.specs.Known.Traffic.{Heard, Sent}
use Rattle.pc_world.specs.Known.Transactions.{Txn}
use Rattle.pc_world.specs.Send.Recovery.{WasFound}
use Rattle.pc_world.specs.Send.Stage.{IsPassed}
use Rattle.pc_world.specs.StageFate.{EachCommit, EachStage, IsLate, SentStage, WasCommitRefused, stage_request}

module _ (sent : List Sent) (heard : List Heard) (id : TxnId) where
  pub nothing_elsewhere : (ts : ℕ) → (EachStage id (deciding_of id sent) (λ s. s.ts ≢ ts → IsLate (replies_of id heard) s) × EachCommit id (deciding_of id sent) (λ c. c.ts ≢ ts → WasCommitRefused (replies_of id heard) c))
      ↔ (EachStage id sent (λ s. s.ts ≢ ts → IsLate heard s) × EachCommit id sent (λ c. c.ts ≢ ts → WasCommitRefused heard c))
  nothing_elsewhere ts = (λ r. (stages.0 r.0, commits.0 r.1), λ r. (stages.1 r.0, commits.1 r.1))
    where
      stages : EachStage id (deciding_of id sent) (λ s. s.ts ≢ ts → IsLate (replies_of id heard) s) ↔ EachStage id sent (λ s. s.ts ≢ ts → IsLate heard s)
      stages =
          each_stage id (λ s. s.ts ≢ ts → IsLate (replies_of id heard) s) (λ s. s.ts ≢ ts → IsLate heard s)
          (λ s whose. (λ f ne. (late s id whose heard).0 (f ne), λ f ne. (late s id whose heard).1 (f ne))) sent

      commits : EachCommit id (deciding_of id sent) (λ c. c.ts ≢ ts → WasCommitRefused (replies_of id heard) c) ↔ EachCommit id sent (λ c. c.ts ≢ ts → WasCommitRefused heard c)
      commits =
          each_commit id (λ c. c.ts ≢ ts → WasCommitRefused (replies_of id heard) c) (λ c. c.ts ≢ ts → WasCommitRefused heard c)
          (λ c whose. (λ f ne. (refused c id whose heard).0 (f ne), λ f ne. (refused c id whose heard).1 (f ne))) sent

  passed : (ts : ℕ) (s : SentStage) → s.meta.id ≡ id → IsPassed (replies_of id heard) ts s ↔ IsPassed heard ts s
  passed ts s whose = (
    λ h. elim h [ inl l ↦ inl ((late s id whose heard).0 l.0, l.1) | inr r ↦ inr ((late_by_record s id whose heard).0 r) ],
    λ h. elim h [ inl l ↦ inl ((late s id whose heard).1 l.0, l.1) | inr r ↦ inr ((late_by_record s id whose heard).1 r) ],
  )

  pub way_free : (ts : ℕ) → (EachStage id (deciding_of id sent) (IsPassed (replies_of id heard) ts) × EachCommit id (deciding_of id sent) (WasCommitRefused (replies_of id heard)))
      ↔ (EachStage id sent (IsPassed heard ts) × EachCommit id sent (WasCommitRefused heard))
  way_free ts = (λ n. (stages.0 n.0, commits.0 n.1), λ n. (stages.1 n.0, commits.1 n.1))
    where
      stages : EachStage id (deciding_of id sent) (IsPassed (replies_of id heard) ts) ↔ EachStage id sent (IsPassed heard ts)
      stages = each_stage id (IsPassed (replies_of id heard) ts) (IsPassed heard ts) (passed ts) sent

      commits : EachCommit id (deciding_of id sent) (WasCommitRefused (replies_of id heard)) ↔ EachCommit id sent (WasCommitRefused heard)
      commits = each_commit id (WasCommitRefused (replies_of id heard)) (WasCommitRefused heard) (λ c whose. refused c id whose heard) sent

module _ (sent : List Sent) (heard : List Heard) (t : Txn) where
  pub again : (s : SentStage) → IsStageAgain (deciding_of s.meta.id sent) (replies_of s.meta.id heard) t s ↔ IsStageAgain sent heard t s
  again s = (
    λ a. record { epoch_now = a.epoch_now; before = before.0 a.before; not_late = λ l. a.not_late (was_late.1 l) },
    λ a. record { epoch_now = a.epoch_now; before = before.1 a.before; not_late = λ l. a.not_late (was_late.0 l) },
  )
    where
      was_late : IsLate (replies_of s.meta.id heard) s ↔ IsLate heard s
      was_late = late s s.meta.id refl heard

      before : Any (λ m. m.request ≡ stage_request s) (deciding_of s.meta.id sent) ↔ Any (λ m. m.request ≡ stage_request s) sent
      before =
          any_narrow (λ (m : Sent). is_txn s.meta.id (decided_by m.request)) (λ m. m.request ≡ stage_request s)
          (λ m is. subst (λ r. is_txn s.meta.id (decided_by r) ≡ true) (sym is) (itself s.meta.id)) sent

module _ (id : TxnId) (heard : List Heard) where
  pub final_about : Any (IsFinalAbout id) (views_of id heard) ↔ Any (IsFinalAbout id) heard
  final_about = final id heard (IsFinalAbout id) (λ h f. (f.1.about, ap is_some f.1.told))

  pub other_final : Any (IsSettledBy heard id) (views_of id heard) ↔ Any (IsSettledBy heard id) heard
  other_final = final id heard (IsSettledBy heard id) (λ h s. (s.1.about, ap is_some s.1.told))

  pub listed : (epoch seq ts : ℕ) (key : List ℕ) → Any (HasListed id epoch seq ts key) (replies_of id heard) ↔ Any (HasListed id epoch seq ts key) heard
  listed epoch seq ts key = pushed id heard (HasListed id epoch seq ts key) (λ h l. l.1.pushed)

  met-in : (epoch ts : ℕ) (replies : List Heard) → Any (HasFoundAll replies id epoch ts) (replies_of id heard) ↔ Any (HasFoundAll replies id epoch ts) heard
  met-in epoch ts replies = pushed id heard (HasFoundAll replies id epoch ts) (λ h f. f.1.pushed)

  pub found_all : (epoch ts : ℕ) → Any (HasFoundAll (replies_of id heard) id epoch ts) (replies_of id heard) ↔ Any (HasFoundAll heard id epoch ts) heard
  found_all epoch ts =
      let Narrow : List ℕ × ℕ → Type 0 = λ w. Any (WasFound id epoch ts w) (replies_of id heard) in
      let Wide : List ℕ × ℕ → Type 0 = λ w. Any (WasFound id epoch ts w) heard in (
        λ a. let b = (met-in epoch ts (replies_of id heard)).0 a in (b.0, b.1, b.2, b.3, (b.4.0, b.4.1, All-weaker Narrow Wide (λ w. (found id heard epoch ts w).0) b.4.0 b.4.2)),
        λ a. (met-in epoch ts (replies_of id heard)).1 (a.0, a.1, a.2, a.3, (a.4.0, a.4.1, All-weaker Wide Narrow (λ w. (found id heard epoch ts w).1) a.4.0 a.4.2)),
      )

  pub some_missed : (epoch ts : ℕ) (key : List ℕ) (by : Who) → Any (HasMissed (replies_of id heard) id epoch ts key by) (replies_of id heard) ↔ Any (HasMissed heard id epoch ts key by) heard
  some_missed epoch ts key by = (
    λ a. let b = (narrow (replies_of id heard)).0 a in (b.0, b.1, b.2, b.3, (b.4.0, b.4.1, (missed id heard epoch ts b.4.0 key by).0 b.4.2)),
    λ a. (narrow (replies_of id heard)).1 (a.0, a.1, a.2, a.3, (a.4.0, a.4.1, (missed id heard epoch ts a.4.0 key by).1 a.4.2)),
  )
    where
      narrow : (replies : List Heard) → Any (HasMissed replies id epoch ts key by) (replies_of id heard) ↔ Any (HasMissed replies id epoch ts key by) heard
      narrow replies = pushed id heard (HasMissed replies id epoch ts key by) (λ h m. m.1.pushed)
