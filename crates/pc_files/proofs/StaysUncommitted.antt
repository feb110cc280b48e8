-- What is uncommitted stays so, whatever is heard, until the transaction sends a stage or a commit.
use Rattle.std.proofs.Common.{◌≡◌, true, false, List, [], ◌∷◌, ◌++◌, sym, ◌∙◌, inl, inr}
use Rattle.std.proofs.lemmas.List.Elements.{All-push, All-weaker}
use Rattle.pc_base.specs.declared.transaction.TxnId.{TxnId}
use Rattle.pc_files.specs.Filing.{decided_by, is_txn}
use Rattle.pc_lists.proofs.Anywhere.{any_kept, any_weaker}
use Rattle.pc_proto.specs.declared.request.Request.{Request}
use Rattle.pc_proto.specs.declared.request.Request.TheVariants as requests
use Rattle.pc_world.specs.Known.Traffic.{Heard, Sent}
use Rattle.pc_world.specs.StageFate.{IsDead, IsDeadByWrite, IsUncommitted, IsUnsettledAfter, OnCommit, OnStage, Refuses, RefutesRecord, SentCommit, SentStage, WasCommitRefused}

module _ (heard more : List Heard) where
  dead-more : (s : SentStage) → IsDead heard s → IsDead (heard ++ more) s
  dead-more s (inl past) = inl (any_kept (RefutesRecord s) heard more past)
  dead-more s (inr write) =
      inr (any_kept (IsDeadByWrite (heard ++ more) s) heard more
      (any_weaker (IsDeadByWrite heard s) (IsDeadByWrite (heard ++ more) s) (λ h d. record { refuted = d.refuted; undecided = any_kept (IsUnsettledAfter s h) heard more d.undecided }) heard write))

  refused-more : (c : SentCommit) → WasCommitRefused heard c → WasCommitRefused (heard ++ more) c
  refused-more c r = any_kept (Refuses c) heard more r

module _ (id : TxnId) where
  on-stage : (P Q : SentStage → Type 0) → ((s : SentStage) → P s → Q s) → (request : Request) → OnStage id P request → OnStage id Q request
  on-stage P Q more (requests.Stage meta ts now writes locks) on = λ t. more _ (on t)
  on-stage P Q more _ on = tt

  on-commit : (P Q : SentCommit → Type 0) → ((c : SentCommit) → P c → Q c) → (request : Request) → OnCommit id P request → OnCommit id Q request
  on-commit P Q more (requests.Commit meta ts locks) on = λ t. more _ (on t)
  on-commit P Q more _ on = tt

  -- whatever else is heard
  pub uncommitted_heard : (sent : List Sent) (heard more : List Heard) → IsUncommitted id sent heard → IsUncommitted id sent (heard ++ more)
  uncommitted_heard sent heard more u = record {
    stages = All-weaker (λ (m : Sent). OnStage id (IsDead heard) m.request) (λ m. OnStage id (IsDead (heard ++ more)) m.request)
        (λ m. on-stage (IsDead heard) (IsDead (heard ++ more)) (dead-more heard more) m.request) sent u.stages;
    commits = All-weaker (λ (m : Sent). OnCommit id (WasCommitRefused heard) m.request) (λ m. OnCommit id (WasCommitRefused (heard ++ more)) m.request)
        (λ m. on-commit (WasCommitRefused heard) (WasCommitRefused (heard ++ more)) (refused-more heard more) m.request) sent u.commits;
  }

  no-stage : (P : SentStage → Type 0) (request : Request) → is_txn id (decided_by request) ≡ false → OnStage id P request
  no-stage P (requests.Stage meta ts now writes locks) off = λ t. let no : true ≡ false = sym t ∙ off in absurd (cc no)
  no-stage P _ off = tt

  no-commit : (P : SentCommit → Type 0) (request : Request) → is_txn id (decided_by request) ≡ false → OnCommit id P request
  no-commit P (requests.Commit meta ts locks) off = λ t. let no : true ≡ false = sym t ∙ off in absurd (cc no)
  no-commit P _ off = tt

  -- where a message is sent that is no stage and no commit of it
  pub uncommitted_sent : (sent : List Sent) (heard : List Heard) (m : Sent) → is_txn id (decided_by m.request) ≡ false → IsUncommitted id sent heard → IsUncommitted id (sent ++ m ∷ []) heard
  uncommitted_sent sent heard m off u = record {
    stages = All-push (λ (x : Sent). OnStage id (IsDead heard) x.request) sent m u.stages (no-stage (IsDead heard) m.request off);
    commits = All-push (λ (x : Sent). OnCommit id (WasCommitRefused heard) x.request) sent m u.commits (no-commit (WasCommitRefused heard) m.request off);
  }
