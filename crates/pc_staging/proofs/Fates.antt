-- What became of stages and commits stays so, and what holds of each that was sent.
use Rattle.std.proofs.Common.{◌≡◌, ℕ, ◌<◌, ◌≤◌, ◌⊎◌, true, inl, inr, List, [], ◌∷◌, ◌++◌, zero, suc, refl, sym, ap, ◌∙◌, subst, arith, All, Any}
use Rattle.std.proofs.lemmas.List.Elements.{All-contains, All-weaker}
use Rattle.pc_base.specs.declared.transaction.TxnId.{TxnId}
use Rattle.pc_base.specs.Transaction.{same_txn}
use Rattle.pc_lists.proofs.Anywhere.{any_head, any_kept, any_later, any_weaker}
use Rattle.pc_lists.proofs.Same.{same_txn-self}
use Rattle.pc_proto.specs.declared.request.Request.{Request}
use Rattle.pc_proto.specs.declared.request.Request.TheVariants as requests
use Rattle.pc_staging.proofs.Steps.{none_any}
use Rattle.pc_staging.specs.Standing.{IsBehind}
use Rattle.pc_world.specs.Known.Traffic.{Heard, Sent}
use Rattle.pc_world.specs.Send.Stage.{IsPassed}
use Rattle.pc_world.specs.StageFate.{EachCommit, EachStage, IsDead, IsDeadByWrite, IsLateByRecord, IsUnsettledAfter, OnCommit, OnStage, RefutesRecord, RefutesWrite, SentCommit, SentStage, commit_request, stage_request}

-- nothing came that is so, so there is none where there was none
module _ {X : Type 0} (P : X → Type 0) where
  pub none_more : (xs ys : List X) → (Any P xs → ⊥) → All (λ y. P y → ⊥) ys → Any P (xs ++ ys) → ⊥
  none_more [] ys none later some = none_any P ys later some
  none_more (x ∷ xs) ys none later (zero, y, there, is, h) = none (any_head P x xs (subst P (sym is) h))
  none_more (x ∷ xs) ys none later (suc k, y, there, is, h) = none_more xs ys (λ some. none (any_later P x xs some)) later (k, y, omega arith, is, h)

module _ (heard more : List Heard) where
  past_more : (s : SentStage) → IsLateByRecord heard s → IsLateByRecord (heard ++ more) s
  past_more s h = any_kept (RefutesRecord s) heard more h

  dead_more : (s : SentStage) → IsDead heard s → IsDead (heard ++ more) s
  dead_more s h =
      elim h [
        | inl past ↦ inl (past_more s past)
        | inr refuted ↦
            inr (any_weaker (IsDeadByWrite heard s) (IsDeadByWrite (heard ++ more) s)
            (λ g d. record { refuted = d.refuted; undecided = any_kept (IsUnsettledAfter s g) heard more d.undecided })
            (heard ++ more) (any_kept (IsDeadByWrite heard s) heard more refuted))
      ]

  passed_more : (from to : ℕ) → from ≤ to → (s : SentStage) → IsPassed heard from s → IsPassed (heard ++ more) to s
  passed_more from to low s h =
      elim h [
        | inl late ↦ let below : s.ts < from = late.1 in inl (any_kept (λ g. RefutesWrite s g ⊎ RefutesRecord s g) heard more late.0, omega (arith, below, low))
        | inr past ↦ inr (past_more s past)
      ]

  pub behind_more : (from to : ℕ) → from ≤ to → (s : SentStage) → IsBehind heard from s → IsBehind (heard ++ more) to s
  behind_more from to low s h = record { dead = dead_more s h.dead; passed = passed_more from to low s h.passed }

-- a stage that was told that its record went another way is behind every timestamp
pub past_behind : (heard : List Heard) (ts : ℕ) (s : SentStage) → IsLateByRecord heard s → IsBehind heard ts s
past_behind heard ts s past = record { dead = inl past; passed = inr past }

-- ---- what holds of each that was sent

pub on_stage-more : (id : TxnId) (P Q : SentStage → Type 0) → ((s : SentStage) → P s → Q s) → (request : Request) → OnStage id P request → OnStage id Q request
on_stage-more id P Q on (requests.Stage meta ts now writes locks) h =
    λ same. on (record { meta = meta; ts = ts; now = now; writes = writes; locks = locks }) (h same)
on_stage-more id P Q on request h = tt

pub on_commit-more : (id : TxnId) (P Q : SentCommit → Type 0) → ((c : SentCommit) → P c → Q c) → (request : Request) → OnCommit id P request → OnCommit id Q request
on_commit-more id P Q on (requests.Commit meta ts locks) h = λ same. on (record { meta = meta; ts = ts; locks = locks }) (h same)
on_commit-more id P Q on request h = tt

pub each_stage-more : (id : TxnId) (P Q : SentStage → Type 0) → ((s : SentStage) → P s → Q s) → (sent : List Sent) → EachStage id sent P → EachStage id sent Q
each_stage-more id P Q on sent a = All-weaker (λ m. OnStage id P m.request) (λ m. OnStage id Q m.request) (λ m. on_stage-more id P Q on m.request) sent a

pub each_commit-more : (id : TxnId) (P Q : SentCommit → Type 0) → ((c : SentCommit) → P c → Q c) → (sent : List Sent) → EachCommit id sent P → EachCommit id sent Q
each_commit-more id P Q on sent a = All-weaker (λ m. OnCommit id P m.request) (λ m. OnCommit id Q m.request) (λ m. on_commit-more id P Q on m.request) sent a

pub same_id : (one id : TxnId) → one ≡ id → same_txn one id ≡ true
same_id one id e = ap (λ i. same_txn i id) e ∙ same_txn-self id

-- what holds of each stage that was sent holds of one of them
pub stage_of : (id : TxnId) (P : SentStage → Type 0) (sent : List Sent) → EachStage id sent P → (s : SentStage) → s.meta.id ≡ id → Any (λ m. m.request ≡ stage_request s) sent → P s
stage_of id P sent each s whose (n, m, inside, at, is) =
    let on : OnStage id P m.request = All-contains (λ (x : Sent). OnStage id P x.request) sent m each (n, inside, at) in
    let own : OnStage id P (stage_request s) = subst (OnStage id P) is on in
    own (same_id s.meta.id id whose)

pub commit_of : (id : TxnId) (P : SentCommit → Type 0) (sent : List Sent) → EachCommit id sent P → (c : SentCommit) → c.meta.id ≡ id → Any (λ m. m.request ≡ commit_request c) sent → P c
commit_of id P sent each c whose (n, m, inside, at, is) =
    let on : OnCommit id P m.request = All-contains (λ (x : Sent). OnCommit id P x.request) sent m each (n, inside, at) in
    let own : OnCommit id P (commit_request c) = subst (OnCommit id P) is on in
    own (same_id c.meta.id id whose)

-- The stage that a request sends is this one.
abbrev StagesThis : SentStage → Request → Type 0
StagesThis s (requests.Stage meta ts now writes locks) = record { meta = meta; ts = ts; now = now; writes = writes; locks = locks } ≡ s
StagesThis s request = ⊥

-- one request sends one stage
pub one_stage : (s other : SentStage) → stage_request s ≡ stage_request other → s ≡ other
one_stage s other e = let same : StagesThis s (stage_request other) = subst (StagesThis s) e refl in sym same

-- The request is this commit.
abbrev CommitsThis : SentCommit → Request → Type 0
CommitsThis c (requests.Commit meta ts locks) = record { meta = meta; ts = ts; locks = locks } ≡ c
CommitsThis c request = ⊥

-- which commit a request is of
pub one_commit : (c other : SentCommit) → commit_request c ≡ commit_request other → c ≡ other
one_commit c other e = let same : CommitsThis c (commit_request other) = subst (CommitsThis c) e refl in sym same

-- a stage is no commit, and what is so of it is so of each stage that its request sends
pub stage_new : (id : TxnId) (P : SentStage → Type 0) (s : SentStage) (request : Request) → request ≡ stage_request s → P s → OnStage id P request
stage_new id P s request is p = subst (OnStage id P) (sym is) (λ same. p)

pub stage_no_commit : (id : TxnId) (P : SentCommit → Type 0) (s : SentStage) (request : Request) → request ≡ stage_request s → OnCommit id P request
stage_no_commit id P s request is = subst (OnCommit id P) (sym is) tt

pub commit_new : (id : TxnId) (P : SentCommit → Type 0) (c : SentCommit) (request : Request) → request ≡ commit_request c → P c → OnCommit id P request
commit_new id P c request is p = subst (OnCommit id P) (sym is) (λ same. p)

pub commit_no_stage : (id : TxnId) (P : SentStage → Type 0) (c : SentCommit) (request : Request) → request ≡ commit_request c → OnStage id P request
commit_no_stage id P c request is = subst (OnStage id P) (sym is) tt
