-- What is so of a transaction by what is filed under it is so by all that was sent and heard.
use Rattle.std.proofs.Common.{◌≡◌, ◌↔◌, ◌⊎◌, ℕ, true, All, Any, IsTrue, List, inl, inr}
use Rattle.pc_base.specs.declared.transaction.TxnId.{TxnId}
use Rattle.pc_files.proofs.Narrow.{any_narrow, dead, refused, same_is}
use Rattle.pc_files.proofs.Views.{committed, staged}
use Rattle.pc_files.specs.Filing.{decided_by, deciding_of, is_txn, replies_of}
use Rattle.pc_proto.specs.declared.request.Request.{Request}
use Rattle.pc_proto.specs.declared.request.Request.TheVariants as requests
use Rattle.pc_world.specs.Known.Traffic.{Heard, Sent}
use Rattle.pc_world.specs.Known.Transactions.{Txn}
use Rattle.pc_world.specs.Known.Writes.{IsProvedBy}
use Rattle.pc_world.specs.StageFate.{IsCommitWith, IsDead, IsStageWith, SentCommit, SentStage, SomeCommit, SomeStage, WasCommitRefused}
use Rattle.pc_world.specs.Tell.End.{shows_staging}
use Rattle.pc_world.specs.Views.{WasCommitted}

module _ (id : TxnId) (P Q : SentStage → Type 0) (same : (s : SentStage) → s.meta.id ≡ id → P s ↔ Q s) where
  stage-with : (request : Request) → IsStageWith id P request ↔ IsStageWith id Q request
  stage-with (requests.Stage meta ts now writes locks) = (λ h. (h.0, (same _ (same_is meta.id id h.0)).0 h.1), λ h. (h.0, (same _ (same_is meta.id id h.0)).1 h.1))
  stage-with _ = (λ h. h, λ h. h)

  stage-decides : (request : Request) → IsStageWith id P request → is_txn id (decided_by request) ≡ true
  stage-decides (requests.Stage meta ts now writes locks) h = h.0
  stage-decides _ h = absurd h

  some_stage : (sent : List Sent) → SomeStage id (deciding_of id sent) P ↔ SomeStage id sent Q
  some_stage sent =
      let narrow = any_narrow (λ (m : Sent). is_txn id (decided_by m.request)) (λ m. IsStageWith id P m.request) (λ m h. stage-decides m.request h) sent in (
        λ a. let b = narrow.0 a in (b.0, b.1, b.2, b.3, (stage-with b.1.request).0 b.4),
        λ a. narrow.1 (a.0, a.1, a.2, a.3, (stage-with a.1.request).1 a.4),
      )

module _ (id : TxnId) (P Q : SentCommit → Type 0) (same : (c : SentCommit) → c.meta.id ≡ id → P c ↔ Q c) where
  commit-with : (request : Request) → IsCommitWith id P request ↔ IsCommitWith id Q request
  commit-with (requests.Commit meta ts locks) = (λ h. (h.0, (same _ (same_is meta.id id h.0)).0 h.1), λ h. (h.0, (same _ (same_is meta.id id h.0)).1 h.1))
  commit-with _ = (λ h. h, λ h. h)

  commit-decides : (request : Request) → IsCommitWith id P request → is_txn id (decided_by request) ≡ true
  commit-decides (requests.Commit meta ts locks) h = h.0
  commit-decides _ h = absurd h

  some_commit : (sent : List Sent) → SomeCommit id (deciding_of id sent) P ↔ SomeCommit id sent Q
  some_commit sent =
      let narrow = any_narrow (λ (m : Sent). is_txn id (decided_by m.request)) (λ m. IsCommitWith id P m.request) (λ m h. commit-decides m.request h) sent in (
        λ a. let b = narrow.0 a in (b.0, b.1, b.2, b.3, (commit-with b.1.request).0 b.4),
        λ a. narrow.1 (a.0, a.1, a.2, a.3, (commit-with a.1.request).1 a.4),
      )

-- a stage or commit may have come to something
pub doubtful : (id : TxnId) (sent : List Sent) (heard : List Heard)
    → (SomeStage id (deciding_of id sent) (λ s. IsDead (replies_of id heard) s → ⊥) ⊎ SomeCommit id (deciding_of id sent) (λ c. WasCommitRefused (replies_of id heard) c → ⊥))
    ↔ (SomeStage id sent (λ s. IsDead heard s → ⊥) ⊎ SomeCommit id sent (λ c. WasCommitRefused heard c → ⊥))
doubtful id sent heard = (
  λ h. elim h [ inl s ↦ inl (stages.0 s) | inr c ↦ inr (commits.0 c) ],
  λ h. elim h [ inl s ↦ inl (stages.1 s) | inr c ↦ inr (commits.1 c) ],
)
  where
    stages : SomeStage id (deciding_of id sent) (λ s. IsDead (replies_of id heard) s → ⊥) ↔ SomeStage id sent (λ s. IsDead heard s → ⊥)
    stages =
        some_stage id (λ s. IsDead (replies_of id heard) s → ⊥) (λ s. IsDead heard s → ⊥)
        (λ s whose. (λ f d. f ((dead s id whose heard).1 d), λ f d. f ((dead s id whose heard).0 d))) sent

    commits : SomeCommit id (deciding_of id sent) (λ c. WasCommitRefused (replies_of id heard) c → ⊥) ↔ SomeCommit id sent (λ c. WasCommitRefused heard c → ⊥)
    commits =
        some_commit id (λ c. WasCommitRefused (replies_of id heard) c → ⊥) (λ c. WasCommitRefused heard c → ⊥)
        (λ c whose. (λ f r. f ((refused c id whose heard).1 r), λ f r. f ((refused c id whose heard).0 r))) sent

-- The transaction was heard to have committed: a view said so, or it is staged there and each of its writes is proved.
abbrev pub WasHeardSo : List Heard → Txn → ℕ → Type 0
WasHeardSo heard t ts = WasCommitted heard t.id ts ⊎ (Any (λ h. IsTrue (shows_staging t.id t.epoch ts h)) heard × All (IsProvedBy ts) t.writes)

pub heard_so : (heard : List Heard) (t : Txn) (ts : ℕ) → WasHeardSo (replies_of t.id heard) t ts ↔ WasHeardSo heard t ts
heard_so heard t ts = (
  λ h. elim h [ inl c ↦ inl ((committed t.id heard ts).0 c) | inr s ↦ inr ((staged t.id heard t.epoch ts).0 s.0, s.1) ],
  λ h. elim h [ inl c ↦ inl ((committed t.id heard ts).1 c) | inr s ↦ inr ((staged t.id heard t.epoch ts).1 s.0, s.1) ],
)
