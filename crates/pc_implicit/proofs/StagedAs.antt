-- A staging record is as a stage that was sent.
use Rattle.std.proofs.Common.{◌≡◌, ℕ, Bool, true, false, if◌then◌else◌, not, ◌&&◌, inl, inr, List, [], ◌∷◌, ◌++◌, Some, refl, sym, ap, subst, ◌∙◌}
use Rattle.std.proofs.lemmas.List.Elements.{Contains-append_left}
use Rattle.pc_base.specs.declared.entry.Entry.{Entry}
use Rattle.pc_base.specs.declared.transaction.Priority.{Priority}
use Rattle.pc_base.specs.declared.transaction.TxnId.{TxnId}
use Rattle.pc_base.specs.declared.transaction.Who.{Who}
use Rattle.pc_implicit.proofs.HomeOver.{home_over}
use Rattle.pc_implicit.proofs.StageWords.{WasStagedAs}
use Rattle.pc_implicit.specs.Stages.{WasStaged}
use Rattle.pc_implicit.specs.Writes.{home_of}
use Rattle.pc_proto.specs.declared.event.Event.{Event}
use Rattle.pc_proto.specs.declared.event.Event.TheVariants as events
use Rattle.pc_proto.specs.declared.fate.Finding.{Finding}
use Rattle.pc_proto.specs.declared.fate.Finding.TheVariants as findings
use Rattle.pc_proto.specs.declared.fate.Goal.{Goal}
use Rattle.pc_proto.specs.declared.fate.Goal.TheVariants as goals
use Rattle.pc_proto.specs.declared.meta.TxnMeta.{TxnMeta}
use Rattle.pc_proto.specs.declared.record.Record.{Record}
use Rattle.pc_proto.specs.declared.record.Standing.TheVariants as standings
use Rattle.pc_proto.specs.declared.record.Status.{Status}
use Rattle.pc_proto.specs.declared.request.Request.{Request}
use Rattle.pc_proto.specs.declared.request.Request.TheVariants as requests
use Rattle.pc_proto.specs.Place.{Place, Nothing, Kept, Marked, Change, Become, Finish, Stay, after, is_decided, is_final}
use Rattle.pc_proto.specs.RecordRows.{place_change, unless_decided}
use Rattle.pc_proto.specs.RecordRows.Beat.{beat}
use Rattle.pc_proto.specs.RecordRows.Commit.{commit}
use Rattle.pc_proto.specs.RecordRows.Push.{There, Refuse, Doubt, Do, Verdict, on_verdict, push, push_verdict, pushed}
use Rattle.pc_proto.specs.RecordRows.Reached.{is_reached, is_staged_at}
use Rattle.pc_proto.specs.RecordRows.Recover.{decided, recover}
use Rattle.pc_proto.specs.RecordRows.Remove.{remove}
use Rattle.pc_proto.specs.RecordRows.Stage.{stage}
use Rattle.pc_proto.specs.Requests.{subject}
use Rattle.pc_world.proofs.Prefixes.{run_induction}
use Rattle.pc_world.specs.Local.{Head}
use Rattle.pc_world.specs.Run.{IsRun}
use Rattle.pc_world.specs.StageFate.{SentStage, stage_request}

-- Where a staging record comes from over a request: it staged so before, or the request is its stage.
pub data StagedFrom (p : Place) (request : Request) (r : Record) : Type 0 where
  StagedBefore : (old : Record) → p ≡ Kept old → old.status ≡ r.status → old.writes ≡ r.writes → StagedFrom p request r
  StagedBy : (s : SentStage) → request ≡ stage_request s → r.status.epoch ≡ s.meta.epoch → r.status.ts ≡ s.ts → r.writes ≡ s.writes → StagedFrom p request r

-- Whatever record stages after the change, it comes from there.
abbrev SaysFrom : Place → Request → Change → Type 0
SaysFrom p request c = (r : Record) → after p c ≡ Kept r → r.status.standing ≡ standings.Staging → StagedFrom p request r

module _ (p : Place) (request : Request) where
  stays : SaysFrom p request Stay
  stays r is staging = StagedBefore r is refl refl

  -- what becomes of it does not stage
  becomes : (x : Record) → (x.status.standing ≡ standings.Staging → ⊥) → SaysFrom p request (Become x)
  becomes x differs r is staging =
      let same : x ≡ r = let both : Kept x ≡ Kept r = is in cc both in
      absurd (differs (ap (λ (y : Record). y.status.standing) same ∙ staging))

  finishes : (s : Status) → SaysFrom p request (Finish s)
  finishes s r is staging = absurd cc

  either : (b : Bool) (c : Change) → SaysFrom p request c → SaysFrom p request (if b then c else Stay)
  either true c says = says
  either false c says = stays

  unless : (c : Change) → SaysFrom p request c → SaysFrom p request (unless_decided p c)
  unless c says = by (is_decided p)
    where
      by : (b : Bool) → SaysFrom p request (if b then Stay else c)
      by true = stays
      by false = says

  on-verdict : (v : Verdict) (c : Change) → SaysFrom p request c → SaysFrom p request (on_verdict v c)
  on-verdict There c says = stays
  on-verdict Refuse c says = stays
  on-verdict Doubt c says = stays
  on-verdict Do c says = says

-- what it becomes stages as it did
goes-on : (old x : Record) (request : Request) → old.status ≡ x.status → old.writes ≡ x.writes → SaysFrom (Kept old) request (Become x)
goes-on old x request status writes r is staging =
    let same : x ≡ r = let both : Kept x ≡ Kept r = is in cc both in
    StagedBefore old refl (status ∙ ap (λ (y : Record). y.status) same) (writes ∙ ap (λ (y : Record). y.writes) same)

-- what it becomes stages as the request says
becomes-stage : (p : Place) (x : Record) (s : SentStage) → x.status.epoch ≡ s.meta.epoch → x.status.ts ≡ s.ts → x.writes ≡ s.writes → SaysFrom p (stage_request s) (Become x)
becomes-stage p x s epoch ts writes r is staging =
    let same : r ≡ x = let both : Kept x ≡ Kept r = is in sym (cc both) in
    StagedBy s refl (ap (λ (y : Record). y.status.epoch) same ∙ epoch) (ap (λ (y : Record). y.status.ts) same ∙ ts) (ap (λ (y : Record). y.writes) same ∙ writes)

from-beat : (meta : TxnMeta) (ts now : ℕ) (p : Place) → SaysFrom p (requests.Beat meta ts now) (beat meta ts now p)
from-beat meta ts now Nothing = becomes Nothing (requests.Beat meta ts now) _ (λ same. cc)
from-beat meta ts now (Kept old) = goes-on old _ (requests.Beat meta ts now) refl refl
from-beat meta ts now (Marked s) = stays (Marked s) (requests.Beat meta ts now)

from-stage : (meta : TxnMeta) (ts now : ℕ) (writes : List (List ℕ × ℕ)) (locks : List (List ℕ)) (p : Place)
    → SaysFrom p (requests.Stage meta ts now writes locks) (stage meta ts now writes locks p)
from-stage meta ts now writes locks p =
    either p (requests.Stage meta ts now writes locks) (is_reached p meta.epoch ts && not (is_staged_at p meta.epoch ts)) _
    (becomes-stage p _ (record { meta = meta; ts = ts; now = now; writes = writes; locks = locks }) refl refl refl)

from-recover : (id : TxnId) (epoch ts : ℕ) (anchor : List ℕ) (finding : Finding) (p : Place) → SaysFrom p (requests.Recover id epoch ts anchor finding) (recover epoch ts finding p)
from-recover id epoch ts anchor finding p = either p (requests.Recover id epoch ts anchor finding) (is_staged_at p epoch ts) (decided finding p) (by p finding)
  where
    by : (p : Place) (f : Finding) → SaysFrom p (requests.Recover id epoch ts anchor finding) (decided f p)
    by Nothing f = stays Nothing (requests.Recover id epoch ts anchor finding)
    by (Kept r) findings.All = becomes (Kept r) (requests.Recover id epoch ts anchor finding) _ (λ same. cc)
    by (Kept r) (findings.Missing key who) = becomes (Kept r) (requests.Recover id epoch ts anchor finding) _ (λ same. cc)
    by (Marked s) f = stays (Marked s) (requests.Recover id epoch ts anchor finding)

from-push : (holder : TxnMeta) (by : Who) (level : Priority) (now : ℕ) (goal : Goal) (p : Place) → SaysFrom p (requests.Push holder by level now goal) (push holder by level now goal p)
from-push holder by level now goal p = on-verdict p (requests.Push holder by level now goal) (push_verdict holder level now goal p) (pushed holder by goal p) (of goal)
  where
    of : (g : Goal) → SaysFrom p (requests.Push holder by level now goal) (pushed holder by g p)
    of goals.Abort = becomes p (requests.Push holder by level now goal) _ (λ same. cc)
    of (goals.Move target) = becomes p (requests.Push holder by level now goal) _ (λ same. cc)

from-remove : (id : TxnId) (anchor : List ℕ) (p : Place) → SaysFrom p (requests.Remove id anchor) (remove p)
from-remove id anchor Nothing = stays Nothing (requests.Remove id anchor)
from-remove id anchor (Kept r) = either (Kept r) (requests.Remove id anchor) (is_final r.status.standing) (Finish r.status) (finishes (Kept r) (requests.Remove id anchor) r.status)
from-remove id anchor (Marked s) = stays (Marked s) (requests.Remove id anchor)

-- where a staging record comes from over a request
pub staged_from : (request : Request) (p : Place) (r : Record) → after p (place_change request p) ≡ Kept r → r.status.standing ≡ standings.Staging → StagedFrom p request r
staged_from (requests.Beat meta ts now) p = unless p (requests.Beat meta ts now) (beat meta ts now p) (from-beat meta ts now p)
staged_from (requests.Stage meta ts now writes locks) p = unless p (requests.Stage meta ts now writes locks) (stage meta ts now writes locks p) (from-stage meta ts now writes locks p)
staged_from (requests.Commit meta ts locks) p =
    unless p (requests.Commit meta ts locks) (commit meta ts locks p)
    (either p (requests.Commit meta ts locks) (is_reached p meta.epoch ts) _ (becomes p (requests.Commit meta ts locks) _ (λ same. cc)))
staged_from (requests.Abort meta why locks) p = unless p (requests.Abort meta why locks) _ (becomes p (requests.Abort meta why locks) _ (λ same. cc))
staged_from (requests.Push holder by level now goal) p = unless p (requests.Push holder by level now goal) (push holder by level now goal p) (from-push holder by level now goal p)
staged_from (requests.Recover id epoch ts anchor finding) p = unless p (requests.Recover id epoch ts anchor finding) (recover epoch ts finding p) (from-recover id epoch ts anchor finding p)
staged_from (requests.Remove id anchor) p = from-remove id anchor p
staged_from request p = stays p request

-- a stage that was sent was sent in every longer history
pub staged_along : (front back : List (Entry Event)) (s : SentStage) → WasStaged front s → WasStaged (front ++ back) s
staged_along front back s sent = record { send = sent.send; listed = Contains-append_left front back sent.send sent.listed; number = sent.number; range = sent.range; sends = sent.sends }

-- however the longer one splits
pub staged_in : (front back history : List (Entry Event)) → front ++ back ≡ history → (s : SentStage) → WasStaged front s → WasStaged history s
staged_in front back history whole s sent = subst (λ h. WasStaged h s) whole (staged_along front back s sent)

staged-as-more : (history : List (Entry Event)) (e : Entry Event) (id : TxnId) (epoch ts : ℕ) (writes : List (List ℕ × ℕ)) → WasStagedAs history id epoch ts writes → WasStagedAs (history ++ e ∷ []) id epoch ts writes
staged-as-more history e id epoch ts writes as_sent = record {
  stage = as_sent.stage;
  sent = staged_along history (e ∷ []) as_sent.stage as_sent.sent;
  whose = as_sent.whose;
  epoch_is = as_sent.epoch_is;
  ts_is = as_sent.ts_is;
  writes_are = as_sent.writes_are;
}

module _ (head : Head) where
  -- The staging record of each transaction is as a stage that was sent.
  abbrev AreStagedAs : List (Entry Event) → Type 0
  AreStagedAs history = (id : TxnId) (r : Record) → home_of head id history ≡ Kept r → r.status.standing ≡ standings.Staging → WasStagedAs history id r.status.epoch r.status.ts r.writes

  pub staged_as : (history : List (Entry Event)) → IsRun head history → (id : TxnId) (r : Record) → home_of head id history ≡ Kept r → r.status.standing ≡ standings.Staging
      → WasStagedAs history id r.status.epoch r.status.ts r.writes
  staged_as = run_induction head AreStagedAs (λ id r is staging. absurd cc) (λ history e run may all id r is staging.
      elim (home_over head history run e may id) [
        | inl same ↦ staged-as-more history e id r.status.epoch r.status.ts r.writes (all id r (sym same ∙ is) staging)
        | inr c ↦ elim (staged_from c.ev.request (home_of head id history) r (sym c.changed ∙ is) staging) [
          | StagedBefore old kept status writes ↦
              let before = all id old kept (ap (λ (s : Status). s.standing) status ∙ staging) in
              let here : WasStagedAs history id r.status.epoch r.status.ts r.writes =
              subst (λ ws. WasStagedAs history id r.status.epoch r.status.ts ws) writes (subst (λ (s : Status). WasStagedAs history id s.epoch s.ts old.writes) status before) in
              staged-as-more history e id r.status.epoch r.status.ts r.writes here
          | StagedBy s asks epoch ts writes ↦
              let sent : WasStaged history s = record { send = c.ev.send; listed = c.ev.listed; number = c.number; range = c.ev.range; sends = c.ev.sends ∙ ap (events.Send c.number c.ev.range) asks } in
              let about : subject (stage_request s) ≡ Some id = ap subject (sym asks) ∙ c.about in
              let whose : s.meta.id ≡ id = let both : Some s.meta.id ≡ Some id = about in cc both in
              record { stage = s; sent = staged_along history (e ∷ []) s sent; whose = whose; epoch_is = sym epoch; ts_is = sym ts; writes_are = sym writes }
        ]
      ])
