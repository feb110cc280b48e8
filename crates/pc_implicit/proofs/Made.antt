-- What makes a record committed: a commit, or a recovery of its staging that found all.
use Rattle.std.proofs.Common.{◌≡◌, ℕ, Bool, true, false, ◌==◌, ◌&&◌, not, if◌then◌else◌, List, Option, Some, refl, sym, ap, subst, ◌∙◌}
use Rattle.std.proofs.lemmas.Bool.{and_parts, eqb-true}
use Rattle.pc_base.specs.declared.transaction.TxnId.{TxnId}
use Rattle.pc_base.specs.declared.transaction.Who.{Who}
use Rattle.pc_implicit.proofs.Rows.{removed-keeps}
use Rattle.pc_implicit.specs.Decided.{decision}
use Rattle.pc_proto.specs.declared.fate.Finding.{Finding}
use Rattle.pc_proto.specs.declared.fate.Finding.TheVariants as findings
use Rattle.pc_proto.specs.declared.fate.Goal.{Goal}
use Rattle.pc_proto.specs.declared.fate.Goal.TheVariants as goals
use Rattle.pc_proto.specs.declared.meta.TxnMeta.{TxnMeta}
use Rattle.pc_proto.specs.declared.record.Standing.TheVariants as standings
use Rattle.pc_proto.specs.declared.record.Status.{Status}
use Rattle.pc_proto.specs.declared.request.Request.{Request}
use Rattle.pc_proto.specs.declared.request.Request.TheVariants as requests
use Rattle.pc_proto.specs.Place.{Place, Nothing, Kept, Marked, Change, Stay, Become, after, is_decided}
use Rattle.pc_proto.specs.RecordRows.{place_change, unless_decided}
use Rattle.pc_proto.specs.RecordRows.Abort.{abort}
use Rattle.pc_proto.specs.RecordRows.Beat.{beat}
use Rattle.pc_proto.specs.RecordRows.Push.{Verdict, There, Refuse, Doubt, Do, on_verdict, push, push_verdict, pushed}
use Rattle.pc_proto.specs.RecordRows.Reached.{alive_at, is_reached, is_staged_at, is_staging, status_of}
use Rattle.pc_proto.specs.RecordRows.Recover.{decided, recover}
use Rattle.pc_proto.specs.RecordRows.Stage.{stage}

pub status_same : (one other at ts : ℕ) → ◌≡◌ {A = Option Status} (Some (status_of standings.Committed one at)) (Some (status_of standings.Committed other ts)) → (one ≡ other) × (at ≡ ts)
status_same one other at ts h =
    let same : status_of standings.Committed one at ≡ status_of standings.Committed other ts = cc in
    (ap (λ (s : Status). s.epoch) same, ap (λ (s : Status). s.ts) same)

-- What a request to a transaction's record has to be, where the record is committed so after it and was not before.
module _ (epoch ts : ℕ) (p : Place) (X : Type 0) (old : decision p ≡ Some (status_of standings.Committed epoch ts) → X) where
  unless-made : (c : Change) → (decision (after p c) ≡ Some (status_of standings.Committed epoch ts) → X) → decision (after p (unless_decided p c)) ≡ Some (status_of standings.Committed epoch ts) → X
  unless-made c h = by (is_decided p)
    where
      by : (b : Bool) → decision (after p (if b then Stay else c)) ≡ Some (status_of standings.Committed epoch ts) → X
      by true = old
      by false = h

  stage-made : (meta : TxnMeta) (at now : ℕ) (writes : List (List ℕ × ℕ)) (locks : List (List ℕ)) → decision (after p (stage meta at now writes locks p)) ≡ Some (status_of standings.Committed epoch ts) → X
  stage-made meta at now writes locks = by (is_reached p meta.epoch at && not (is_staged_at p meta.epoch at))
    where
      by : (b : Bool)
          → decision (after p (if b then Become (record { meta = meta; status = status_of standings.Staging meta.epoch at; activity = alive_at p now; writes = writes; locks = locks }) else Stay))
          ≡ Some (status_of standings.Committed epoch ts) → X
      by true h = absurd cc
      by false h = old h

  beat-made-so : (meta : TxnMeta) (at now : ℕ) → decision (after p (beat meta at now p)) ≡ Some (status_of standings.Committed epoch ts) → X
  beat-made-so meta at now = by p old
    where
      by : (q : Place) → (decision q ≡ Some (status_of standings.Committed epoch ts) → X) → decision (after q (beat meta at now q)) ≡ Some (status_of standings.Committed epoch ts) → X
      by Nothing before h = absurd cc
      by (Kept r) before h = before h
      by (Marked s) before h = before h

  push-made-so : (holder : TxnMeta) (by : Who) (goal : Goal) (v : Verdict) → decision (after p (on_verdict v (pushed holder by goal p))) ≡ Some (status_of standings.Committed epoch ts) → X
  push-made-so holder by goal There h = old h
  push-made-so holder by goal Refuse h = old h
  push-made-so holder by goal Doubt h = old h
  push-made-so holder by goals.Abort Do h = absurd cc
  push-made-so holder by (goals.Move target) Do h = absurd cc

  recover-made : (at_epoch at : ℕ) (finding : Finding) → (finding ≡ findings.All → is_staged_at p epoch ts ≡ true → at_epoch ≡ epoch → at ≡ ts → X)
      → decision (after p (recover at_epoch at finding p)) ≡ Some (status_of standings.Committed epoch ts) → X
  recover-made at_epoch at finding found = by (is_staged_at p at_epoch at) refl
    where
      all-made : (q : Place) (finding : Finding) → is_staged_at q at_epoch at ≡ true → (finding ≡ findings.All → is_staged_at q epoch ts ≡ true → at_epoch ≡ epoch → at ≡ ts → X)
          → decision (after q (decided finding q)) ≡ Some (status_of standings.Committed epoch ts) → X
      all-made Nothing finding staged found h = absurd cc
      all-made (Kept r) findings.All staged found h =
          let same = status_same r.status.epoch epoch r.status.ts ts h in
          let parts = and_parts (is_staging r.status.standing) (r.status.epoch == at_epoch && r.status.ts == at) staged in
          let both = and_parts (r.status.epoch == at_epoch) (r.status.ts == at) parts.1 in
          let epochs : at_epoch ≡ epoch = sym (eqb-true r.status.epoch at_epoch both.0) ∙ same.0 in
          let times : at ≡ ts = sym (eqb-true r.status.ts at both.1) ∙ same.1 in
          found refl (subst (λ n. is_staged_at (Kept r) n ts ≡ true) epochs (subst (λ n. is_staged_at (Kept r) at_epoch n ≡ true) times staged)) epochs times
      all-made (Kept r) (findings.Missing key who) staged found h = absurd cc
      all-made (Marked s) finding staged found h = absurd cc

      by : (b : Bool) → is_staged_at p at_epoch at ≡ b → decision (after p (if b then decided finding p else Stay)) ≡ Some (status_of standings.Committed epoch ts) → X
      by true staged h = all-made p finding staged found h
      by false staged h = old h

  -- what is committed after a request was so before, or the request is a commit, or a recovery of its staging that found all
  pub made_by : (request : Request) → ((meta : TxnMeta) (at : ℕ) (locks : List (List ℕ)) → request ≡ requests.Commit meta at locks → X)
      → ((id : TxnId) (anchor : List ℕ) → request ≡ requests.Recover id epoch ts anchor findings.All → is_staged_at p epoch ts ≡ true → X)
      → decision (after p (place_change request p)) ≡ Some (status_of standings.Committed epoch ts) → X
  made_by (requests.Beat meta at now) commits recovers = unless-made (beat meta at now p) (beat-made-so meta at now)
  made_by (requests.Commit meta at locks) commits recovers = λ h. commits meta at locks refl
  made_by (requests.Abort meta why locks) commits recovers = unless-made (abort meta why locks p) (λ h. absurd cc)
  made_by (requests.Push holder by level now goal) commits recovers = unless-made (push holder by level now goal p) (push-made-so holder by goal (push_verdict holder level now goal p))
  made_by (requests.Recover id at_epoch at anchor finding) commits recovers =
      unless-made (recover at_epoch at finding p) (recover-made at_epoch at finding (λ all staged epochs times.
      recovers id anchor
      (ap (requests.Recover id at_epoch at anchor) all ∙ ap (λ n. requests.Recover id n at anchor findings.All) epochs ∙ ap (λ n. requests.Recover id epoch n anchor findings.All) times)
      staged))
  made_by (requests.Remove id anchor) commits recovers = λ h. old (sym (removed-keeps p) ∙ h)
  made_by (requests.Stage meta at now writes locks) commits recovers = unless-made (stage meta at now writes locks p) (stage-made meta at now writes locks)
  made_by request commits recovers = old
