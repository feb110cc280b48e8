-- How what is kept of a transaction's stages and commits stands beside what its session knows. RFC 20180324; own profile.
use Rattle.std.specs.Prelude.{◌≡◌, ℕ, ◌<◌, ◌≤◌, not, ◌==◌, ◌⊎◌, if◌then◌else◌, Option, None, Some, IfSome, List, [], ◌∷◌, All, Any, Contains, IsTrue, filter, ⊤}
use Rattle.std.specs.Option.{option_map}
use Rattle.pc_base.specs.declared.transaction.TxnId.{TxnId}
use Rattle.pc_proto.specs.declared.view.View.{View}
use Rattle.pc_proto.specs.Views.{is_final_view, is_staging_at}
use Rattle.pc_staging.specs.declared.stage_out.StageOut.{StageOut}
use Rattle.pc_staging.specs.Kept.{Evidence}
use Rattle.pc_world.specs.Known.{Known}
use Rattle.pc_world.specs.Known.Traffic.{Heard, Sent}
use Rattle.pc_world.specs.Known.Transactions.{Txn, lists_write}
use Rattle.pc_world.specs.Known.Writes.{Write, is_proved}
use Rattle.pc_world.specs.Send.Stage.{IsPassed}
use Rattle.pc_world.specs.StageFate.{EachCommit, EachStage, IsDead, IsLate, IsLateByRecord, RefutesRecord, RefutesWrite, Refuses, SentCommit, SentStage, WasCommitRefused, commit_request, is_write_refuted, stage_request}
use Rattle.pc_world.specs.Tell.End.{shows_staging}
use Rattle.pc_world.specs.Views.{shows_undecided}

module _ (P : Heard → Type 0) where
  -- The first step at which a reply that is so was evaluated, if there is one.
  abbrev pub IsFirstStep : List Heard → Option ℕ → Type 0
  IsFirstStep heard None = All (λ h. P h → ⊥) heard
  IsFirstStep heard (Some step) = Any (λ h. P h × (h.step ≡ step)) heard × All (λ h. P h → step ≤ h.step) heard

  -- The last step at which a reply that is so was evaluated, if there is one.
  abbrev pub IsLastStep : List Heard → Option ℕ → Type 0
  IsLastStep heard None = All (λ h. P h → ⊥) heard
  IsLastStep heard (Some step) = Any (λ h. P h × (h.step ≡ step)) heard × All (λ h. P h → h.step ≤ step) heard

-- The write of this key and sequence is not proved.
pub record IsUnprovedAt (key : List ℕ) (seq : ℕ) (w : Write) : Type 0 where
  pub same_place : w.key ≡ key
  pub same_sequence : w.seq ≡ seq
  pub unproved : IsTrue (not (is_proved w))

-- One of the writes is of this key and sequence, and not proved.
abbrev pub HasUnproved : List ℕ → ℕ → List Write → Type 0
HasUnproved key seq writes = Any (IsUnprovedAt key seq) writes

-- The stage lists each of the writes that is not proved.
abbrev pub ListsUnproved : List Write → SentStage → Type 0
ListsUnproved writes s = (key : List ℕ) (seq : ℕ) → HasUnproved key seq writes → IsTrue (lists_write key seq s.writes)

-- What is kept of a stage is what its session knows of it: the first step at which one of its writes was refuted. It is of the present
-- epoch, lists the writes in flight, and was not told that its record went another way.
pub record IsEvidenceOf (heard : List Heard) (t : Txn) (s : SentStage) (o : StageOut) : Type 0 where
  pub whose : s.meta.id ≡ t.id
  pub epoch_now : s.meta.epoch ≡ t.epoch
  pub lists : ListsUnproved t.writes s
  pub at : o.ts ≡ s.ts
  pub first_refuted : IsFirstStep (RefutesWrite s) heard o.refuted
  pub not_past : IsLateByRecord heard s → ⊥

-- Each of the stages is kept so, in order.
abbrev pub AreEvidence : List Heard → Txn → List SentStage → List StageOut → Type 0
AreEvidence heard t [] [] = ⊤
AreEvidence heard t [] (o ∷ os) = ⊥
AreEvidence heard t (s ∷ ss) [] = ⊥
AreEvidence heard t (s ∷ ss) (o ∷ os) = IsEvidenceOf heard t s o × AreEvidence heard t ss os

-- The stage is dead, and in the way of no stage at this timestamp.
pub record IsBehind (heard : List Heard) (ts : ℕ) (s : SentStage) : Type 0 where
  pub dead : IsDead heard s
  pub passed : IsPassed heard ts s

-- Each stage of the transaction that the reply refutes lies below this timestamp.
abbrev pub AreRefutedBelow : TxnId → ℕ → Heard → Type 0
AreRefutedBelow id ts h = (s : SentStage) → s.meta.id ≡ id → IsTrue (is_write_refuted s h.request h.reply) → s.ts < ts

-- The transaction sent this stage.
pub record WasStageSent (sent : List Sent) (id : TxnId) (s : SentStage) : Type 0 where
  pub went_out : Any (λ m. m.request ≡ stage_request s) sent
  pub whose : s.meta.id ≡ id

-- The transaction sent this commit, and it was not refused.
pub record IsCommitOut (sent : List Sent) (heard : List Heard) (id : TxnId) (c : SentCommit) : Type 0 where
  pub went_out : Any (λ m. m.request ≡ commit_request c) sent
  pub whose : c.meta.id ≡ id
  pub unrefused : WasCommitRefused heard c → ⊥

-- The transaction was heard to be staged at this timestamp, in its epoch.
abbrev pub WasStagedAt : List Heard → Txn → ℕ → Type 0
WasStagedAt heard t ts = Any (λ h. IsTrue (shows_staging t.id t.epoch ts h)) heard

-- If the reply refuses a commit of the transaction, that commit lies below this timestamp: its record stood above it.
abbrev pub IsRefusedCommitBelow : TxnId → ℕ → Heard → Type 0
IsRefusedCommitBelow id ts h = (c : SentCommit) → c.meta.id ≡ id → Refuses c h → c.ts < ts

-- If the reply shows that the record went another way than a stage of the transaction, that stage lies below this timestamp: its record stood
-- above it.
abbrev pub IsPastStageBelow : TxnId → ℕ → Heard → Type 0
IsPastStageBelow id ts h = (s : SentStage) → s.meta.id ≡ id → RefutesRecord s h → s.ts < ts

-- Each stage that the transaction sent is dead and passed, or kept as its session knows it, no two of these at one timestamp; all but the
-- last of these are late, and the last one too where a commit is out; each commit was refused but for that one, below the write timestamp,
-- and so is each stage whose record went another way; and what was seen of its record last is as its session heard it.
pub record StagingStands (k : Known) (stages : List SentStage) (commit : Option SentCommit) (t : Txn) (x : Evidence) : Type 0 where
  pub each : EachStage t.id k.sent (λ s. IsBehind k.heard t.write_ts s ⊎ Contains stages s)
  pub sent : All (WasStageSent k.sent t.id) stages
  pub kept : AreEvidence k.heard t stages x.stages
  pub apart : (s other : SentStage) → Contains stages s → Contains stages other → s.ts ≡ other.ts → s ≡ other
  pub timely : All (λ s. s.ts ≤ t.write_ts) stages
  pub older : (s other : SentStage) → Contains stages s → Contains stages other → s.ts < other.ts → IsLate k.heard s
  pub reached : All (AreRefutedBelow t.id t.write_ts) k.heard
  pub last_staged : IfSome x.staged (WasStagedAt k.heard t)
  pub staged_by : IfSome x.staged (λ ts. Any (λ s. s.ts ≡ ts) stages)
  pub last_undecided : IsLastStep (λ h. IsTrue (shows_undecided t.id h.request h.reply)) k.heard x.undecided
  pub refused : EachCommit t.id k.sent (λ c. (commit ≡ Some c) ⊎ WasCommitRefused k.heard c)
  pub passed : All (IsRefusedCommitBelow t.id t.write_ts) k.heard
  pub went_past : All (IsPastStageBelow t.id t.write_ts) k.heard
  pub commit_at : x.commit ≡ option_map (λ c. c.ts) commit
  pub out : IfSome commit (IsCommitOut k.sent k.heard t.id)
  pub behind_commit : (c : SentCommit) → commit ≡ Some c → All (IsLate k.heard) stages

-- No earlier stage of the transaction stands in the way of one at its write timestamp, and each commit was refused.
pub record IsPassedAll (k : Known) (t : Txn) : Type 0 where
  pub stages : EachStage t.id k.sent (IsPassed k.heard t.write_ts)
  pub commits : EachCommit t.id k.sent (WasCommitRefused k.heard)

-- The stages that are kept once the one at this timestamp was told this view.
abbrev pub stages_after : ℕ → ℕ → View → List SentStage → List SentStage
stages_after epoch ts view stages =
    if is_final_view view then stages
    else if is_staging_at epoch ts view then stages
    else filter (λ s. not (s.ts == ts)) stages

-- The commit that is out once it was told this view.
abbrev pub commit_after : View → SentCommit → Option SentCommit
commit_after view c = if is_final_view view then Some c else None
