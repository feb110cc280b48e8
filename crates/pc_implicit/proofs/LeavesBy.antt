-- What becomes of a staging record over a request to it, and over one more entry of a run.
use Rattle.std.proofs.Common.{◌≡◌, ℕ, ◌≤◌, max, nat_le, Bool, true, false, if◌then◌else◌, not, ◌&&◌, ◌==◌, List, [], Some, refl, sym, ap, subst, ◌∙◌, arith}
use Rattle.std.proofs.lemmas.Bool.{and_from, and_parts, eq-eqb, eqb-true, leb-true}
use Rattle.std.proofs.lemmas.Grind.{common_steps}
use Rattle.pc_base.specs.declared.transaction.Priority.{Priority}
use Rattle.pc_base.specs.declared.transaction.TxnId.{TxnId}
use Rattle.pc_base.specs.declared.transaction.Who.{Who}
use Rattle.pc_implicit.specs.Decided.{decision}
use Rattle.pc_proto.specs.declared.fate.Finding.{Finding}
use Rattle.pc_proto.specs.declared.fate.Finding.TheVariants as findings
use Rattle.pc_proto.specs.declared.fate.Goal.{Goal}
use Rattle.pc_proto.specs.declared.fate.Goal.TheVariants as goals
use Rattle.pc_proto.specs.declared.meta.TxnMeta.{TxnMeta}
use Rattle.pc_proto.specs.declared.record.Record.{Record}
use Rattle.pc_proto.specs.declared.record.Standing.TheVariants as standings
use Rattle.pc_proto.specs.declared.request.Request.{Request}
use Rattle.pc_proto.specs.declared.request.Request.TheVariants as requests
use Rattle.pc_proto.specs.declared.why.Why.{Why}
use Rattle.pc_proto.specs.declared.why.Why.TheVariants as whys
use Rattle.pc_proto.specs.Place.{Place, Kept, Change, Become, Finish, Stay, after, is_decided, is_final}
use Rattle.pc_proto.specs.RecordRows.{place_change, unless_decided}
use Rattle.pc_proto.specs.RecordRows.Beat.{beat}
use Rattle.pc_proto.specs.RecordRows.Commit.{commit}
use Rattle.pc_proto.specs.RecordRows.Push.{push}
use Rattle.pc_proto.specs.RecordRows.Reached.{activity_of, alive_at, is_reached, is_staged_at, is_staging, status_of}
use Rattle.pc_proto.specs.RecordRows.Recover.{decided, recover}
use Rattle.pc_proto.specs.RecordRows.Stage.{stage}
use Rattle.pc_world.specs.StageFate.{SentStage, stage_request}

-- The record stages still, with the status and the list of this one.
pub record StagesStill (r : Record) (q : Place) : Type 0 where
  pub now : Record
  pub kept : q ≡ Kept now
  pub same_status : now.status ≡ r.status
  pub same_writes : now.writes ≡ r.writes

-- How a request changes a staging record: not at all, but for its activity; or a commit that reaches it, an abort, a stage elsewhere
-- that reaches it, or a recovery of just its epoch and timestamp leaves this.
pub data LeavesBy (r : Record) (request : Request) (q : Place) : Type 0 where
  Stages : StagesStill r q → LeavesBy r request q
  ByCommit : (meta : TxnMeta) (ts : ℕ) (locks : List (List ℕ)) → request ≡ requests.Commit meta ts locks → r.status.epoch ≤ meta.epoch → r.status.ts ≤ ts
      → decision q ≡ Some (status_of standings.Committed meta.epoch ts) → LeavesBy r request q
  ByAbort : (meta : TxnMeta) (why : Why) (locks : List (List ℕ)) → request ≡ requests.Abort meta why locks → LeavesBy r request q
  ByStage : (s : SentStage) → request ≡ stage_request s → r.status.epoch ≤ s.meta.epoch → r.status.ts ≤ s.ts → (s.meta.epoch ≡ r.status.epoch → s.ts ≡ r.status.ts → ⊥)
      → LeavesBy r request q
  ByFound : (id : TxnId) (anchor : List ℕ) → request ≡ requests.Recover id r.status.epoch r.status.ts anchor findings.All
      → decision q ≡ Some (status_of standings.Committed r.status.epoch r.status.ts) → LeavesBy r request q
  ByMissing : (id : TxnId) (anchor key : List ℕ) (by : Who) → request ≡ requests.Recover id r.status.epoch r.status.ts anchor (findings.Missing key by)
      → decision q ≡ Some (status_of (standings.Aborted (whys.Missing key by)) r.status.epoch r.status.ts) → LeavesBy r request q

module _ (r : Record) (staging : r.status.standing ≡ standings.Staging) where
  undecided : is_decided (Kept r) ≡ false
  undecided = ap is_final staging

  is-staging : is_staging r.status.standing ≡ true
  is-staging = ap is_staging staging

  itself : StagesStill r (Kept r)
  itself = record { now = r; kept = refl; same_status = refl; same_writes = refl }

  -- a request whose change counts only while the record is undecided
  unless : (request : Request) (c : Change) → LeavesBy r request (after (Kept r) c) → LeavesBy r request (after (Kept r) (unless_decided (Kept r) c))
  unless request c leaves = subst (λ b. LeavesBy r request (after (Kept r) (if b then Stay else c))) (sym undecided) leaves

  -- What a commit makes of it.
  abbrev commit-makes : TxnMeta → ℕ → List (List ℕ) → Change
  commit-makes meta ts locks =
      Become (record { meta = meta; status = status_of standings.Committed meta.epoch ts; activity = activity_of (Kept r) meta.born; writes = []; locks = locks })

  -- What a stage makes of it.
  abbrev stage-makes : TxnMeta → ℕ → ℕ → List (List ℕ × ℕ) → List (List ℕ) → Change
  stage-makes meta ts now writes locks =
      Become (record { meta = meta; status = status_of standings.Staging meta.epoch ts; activity = alive_at (Kept r) now; writes = writes; locks = locks })

  by-commit : (meta : TxnMeta) (ts : ℕ) (locks : List (List ℕ)) → LeavesBy r (requests.Commit meta ts locks) (after (Kept r) (place_change (requests.Commit meta ts locks) (Kept r)))
  by-commit meta ts locks = unless (requests.Commit meta ts locks) (commit meta ts locks (Kept r)) (cases (is_reached (Kept r) meta.epoch ts) refl)
    where
      cases : (b : Bool) → is_reached (Kept r) meta.epoch ts ≡ b → LeavesBy r (requests.Commit meta ts locks) (after (Kept r) (if b then commit-makes meta ts locks else Stay))
      cases true reached =
          let parts = and_parts (nat_le r.status.epoch meta.epoch) (nat_le r.status.ts ts) reached in
          ByCommit meta ts locks refl (leb-true r.status.epoch meta.epoch parts.0) (leb-true r.status.ts ts parts.1) refl
      cases false past = Stages itself

  by-stage : (meta : TxnMeta) (ts now : ℕ) (writes : List (List ℕ × ℕ)) (locks : List (List ℕ))
      → LeavesBy r (requests.Stage meta ts now writes locks) (after (Kept r) (place_change (requests.Stage meta ts now writes locks) (Kept r)))
  by-stage meta ts now writes locks = unless (requests.Stage meta ts now writes locks) (stage meta ts now writes locks (Kept r)) (cases (is_reached (Kept r) meta.epoch ts) refl (is_staged_at (Kept r) meta.epoch ts) refl)
    where
      elsewhere : is_staged_at (Kept r) meta.epoch ts ≡ false → meta.epoch ≡ r.status.epoch → ts ≡ r.status.ts → ⊥
      elsewhere apart epoch at =
          let here : is_staged_at (Kept r) meta.epoch ts ≡ true =
          and_from (is_staging r.status.standing) (r.status.epoch == meta.epoch && r.status.ts == ts) is-staging
          (and_from (r.status.epoch == meta.epoch) (r.status.ts == ts) (eq-eqb r.status.epoch meta.epoch (sym epoch)) (eq-eqb r.status.ts ts (sym at))) in
          let both : true ≡ false = sym here ∙ apart in
          cc both

      cases : (b : Bool) → is_reached (Kept r) meta.epoch ts ≡ b → (c : Bool) → is_staged_at (Kept r) meta.epoch ts ≡ c
          → LeavesBy r (requests.Stage meta ts now writes locks) (after (Kept r) (if b && not c then stage-makes meta ts now writes locks else Stay))
      cases true reached false apart =
          let parts = and_parts (nat_le r.status.epoch meta.epoch) (nat_le r.status.ts ts) reached in
          ByStage (record { meta = meta; ts = ts; now = now; writes = writes; locks = locks }) refl (leb-true r.status.epoch meta.epoch parts.0) (leb-true r.status.ts ts parts.1) (elsewhere apart)
      cases true reached true here = Stages itself
      cases false past c is = Stages itself

  by-push : (holder : TxnMeta) (by : Who) (level : Priority) (now : ℕ) (goal : Goal)
      → LeavesBy r (requests.Push holder by level now goal) (after (Kept r) (place_change (requests.Push holder by level now goal) (Kept r)))
  by-push holder by level now goal =
      unless (requests.Push holder by level now goal) (push holder by level now goal (Kept r)) (Stages (subst (StagesStill r) (sym (stays goal)) itself))
    where
      stays : (goal : Goal) → after (Kept r) (push holder by level now goal (Kept r)) ≡ Kept r
      stays goals.Abort = grind (arith, common_steps, is-staging)
      stays (goals.Move target) = grind (arith, common_steps, is-staging)

  by-recover : (id : TxnId) (epoch ts : ℕ) (anchor : List ℕ) (finding : Finding)
      → LeavesBy r (requests.Recover id epoch ts anchor finding) (after (Kept r) (place_change (requests.Recover id epoch ts anchor finding) (Kept r)))
  by-recover id epoch ts anchor finding = unless (requests.Recover id epoch ts anchor finding) (recover epoch ts finding (Kept r)) (cases finding (is_staged_at (Kept r) epoch ts) refl)
    where
      asks : is_staged_at (Kept r) epoch ts ≡ true → (f : Finding) → requests.Recover id epoch ts anchor f ≡ requests.Recover id r.status.epoch r.status.ts anchor f
      asks here f =
          let parts = and_parts (is_staging r.status.standing) (r.status.epoch == epoch && r.status.ts == ts) here in
          let at = and_parts (r.status.epoch == epoch) (r.status.ts == ts) parts.1 in
          let same_epoch = eqb-true r.status.epoch epoch at.0 in
          let same_ts = eqb-true r.status.ts ts at.1 in
          ap (λ e. requests.Recover id e ts anchor f) (sym same_epoch) ∙ ap (λ t. requests.Recover id r.status.epoch t anchor f) (sym same_ts)

      cases : (f : Finding) → (b : Bool) → is_staged_at (Kept r) epoch ts ≡ b → LeavesBy r (requests.Recover id epoch ts anchor f) (after (Kept r) (if b then decided f (Kept r) else Stay))
      cases findings.All true here = ByFound id anchor (asks here findings.All) refl
      cases (findings.Missing key by) true here = ByMissing id anchor key by (asks here (findings.Missing key by)) refl
      cases f false apart = Stages itself

  -- how each request changes it
  pub leaves_by : (request : Request) → LeavesBy r request (after (Kept r) (place_change request (Kept r)))
  leaves_by (requests.Beat meta ts now) =
      unless (requests.Beat meta ts now) (beat meta ts now (Kept r)) (Stages (record { now = record r { activity = max r.activity now }; kept = refl; same_status = refl; same_writes = refl }))
  leaves_by (requests.Stage meta ts now writes locks) = by-stage meta ts now writes locks
  leaves_by (requests.Commit meta ts locks) = by-commit meta ts locks
  leaves_by (requests.Abort meta why locks) = ByAbort meta why locks refl
  leaves_by (requests.Push holder by level now goal) = by-push holder by level now goal
  leaves_by (requests.Recover id epoch ts anchor finding) = by-recover id epoch ts anchor finding
  leaves_by (requests.Remove id anchor) = Stages (subst (StagesStill r) (sym (ap (λ b. after (Kept r) (if b then Finish r.status else Stay)) undecided)) itself)
  leaves_by request = Stages itself
