-- A staging that was left never returns.
use Rattle.std.proofs.Common.{◌≡◌, ℕ, ◌+◌, ◌<◌, Bool, true, false, ◌&&◌, ◌==◌, if◌then◌else◌, ◌⊎◌, inl, inr, List, refl, ap, arith}
use Rattle.std.proofs.lemmas.Grind.{common_steps}
use Rattle.pc_base.specs.declared.transaction.Priority.{Priority}
use Rattle.pc_base.specs.declared.transaction.TxnId.{TxnId}
use Rattle.pc_base.specs.declared.transaction.Who.{Who}
use Rattle.pc_implicit.proofs.Lift.{GoesOn}
use Rattle.pc_implicit.proofs.Places.{at_place}
use Rattle.pc_implicit.proofs.Rows.{decided-row, rises-row}
use Rattle.pc_implicit.specs.Decided.{IsPast}
use Rattle.pc_proto.specs.declared.fate.Finding.{Finding}
use Rattle.pc_proto.specs.declared.fate.Finding.TheVariants as findings
use Rattle.pc_proto.specs.declared.fate.Goal.{Goal}
use Rattle.pc_proto.specs.declared.meta.TxnMeta.{TxnMeta}
use Rattle.pc_proto.specs.declared.record.Record.{Record}
use Rattle.pc_proto.specs.declared.record.Standing.{Standing}
use Rattle.pc_proto.specs.declared.record.Standing.TheVariants as standings
use Rattle.pc_proto.specs.declared.request.Request.{Request}
use Rattle.pc_proto.specs.declared.request.Request.TheVariants as requests
use Rattle.pc_proto.specs.Place.{Place, Nothing, Kept, Marked, Change, Stay, after, is_decided, is_final}
use Rattle.pc_proto.specs.RecordRows.{place_change, unless_decided}
use Rattle.pc_proto.specs.RecordRows.Abort.{abort}
use Rattle.pc_proto.specs.RecordRows.Beat.{beat}
use Rattle.pc_proto.specs.RecordRows.Commit.{commit}
use Rattle.pc_proto.specs.RecordRows.Push.{push}
use Rattle.pc_proto.specs.RecordRows.Reached.{is_staged_at, is_staging}
use Rattle.pc_proto.specs.RecordRows.Recover.{recover}
use Rattle.pc_proto.specs.RecordRows.Remove.{remove}
use Rattle.pc_proto.specs.RecordRows.Stage.{stage}
use Rattle.pc_proto.specs.Table.{place_of}

not-staging : (standing : Standing) → is_final standing ≡ true → is_staging standing ≡ false
not-staging standings.Pending h = refl
not-staging standings.Staging h = absurd cc
not-staging standings.Committed h = refl
not-staging (standings.Aborted why) h = refl

elsewhere : (b : Bool) (e c epoch ts : ℕ) → epoch + ts < e + c → (b && (e == epoch && c == ts)) ≡ false
elsewhere b e c epoch ts h = grind (arith, common_steps)

-- what is past does not stage there
pub past-differs : (epoch ts : ℕ) (p : Place) → IsPast epoch ts p → is_staged_at p epoch ts ≡ false
past-differs epoch ts Nothing h = refl
past-differs epoch ts (Kept r) h =
    elim h [
      | inl decided ↦ ap (λ b. b && (r.status.epoch == epoch && r.status.ts == ts)) (not-staging r.status.standing decided)
      | inr past ↦ elsewhere (is_staging r.status.standing) r.status.epoch r.status.ts epoch ts past.1
    ]
past-differs epoch ts (Marked s) h = refl

-- what is past stays past
past-row : (epoch ts : ℕ) (request : Request) (p : Place) → IsPast epoch ts p → IsPast epoch ts (after p (place_change request p))
past-row epoch ts request p h =
    let rises = rises-row request p in
    elim h [
      | inl decided ↦ inl (decided-row request p decided)
      | inr past ↦ inr (record { epoch_reached = omega (arith, past.0.epoch_reached, rises.epoch); ts_reached = omega (arith, past.0.ts_reached, rises.ts) }, omega (arith, past.1, rises.epoch, rises.ts))
    ]

abbrev StagesOrPast : ℕ → ℕ → Place → Type 0
StagesOrPast epoch ts p = (is_staged_at p epoch ts ≡ true) ⊎ IsPast epoch ts p

staged-beat : (epoch at : ℕ) (meta : TxnMeta) (ts now : ℕ) (r : Record) → is_staged_at (Kept r) epoch at ≡ true → StagesOrPast epoch at (after (Kept r) (beat meta ts now (Kept r)))
staged-beat epoch at meta ts now r h = inl h

staged-stage : (epoch at : ℕ) (meta : TxnMeta) (ts now : ℕ) (writes : List (List ℕ × ℕ)) (locks : List (List ℕ)) (r : Record) → is_staged_at (Kept r) epoch at ≡ true → StagesOrPast epoch at (after (Kept r) (stage meta ts now writes locks (Kept r)))
staged-stage epoch at meta ts now writes locks r h = grind (arith, common_steps)

staged-commit : (epoch at : ℕ) (meta : TxnMeta) (ts : ℕ) (locks : List (List ℕ)) (r : Record) → is_staged_at (Kept r) epoch at ≡ true → StagesOrPast epoch at (after (Kept r) (commit meta ts locks (Kept r)))
staged-commit epoch at meta ts locks r h = grind (arith, common_steps)

staged-push : (epoch at : ℕ) (holder : TxnMeta) (by : Who) (level : Priority) (now : ℕ) (goal : Goal) (r : Record) → is_staged_at (Kept r) epoch at ≡ true → StagesOrPast epoch at (after (Kept r) (push holder by level now goal (Kept r)))
staged-push epoch at holder by level now goal r h = grind (arith, common_steps)

staged-recover : (epoch at e ts : ℕ) (finding : Finding) (r : Record) → is_staged_at (Kept r) epoch at ≡ true → StagesOrPast epoch at (after (Kept r) (recover e ts finding (Kept r)))
staged-recover epoch at e ts findings.All r h = grind (arith, common_steps)
staged-recover epoch at e ts (findings.Missing key by) r h = grind (arith, common_steps)

staged-remove : (epoch at : ℕ) (r : Record) → is_staged_at (Kept r) epoch at ≡ true → StagesOrPast epoch at (after (Kept r) (remove (Kept r)))
staged-remove epoch at r h = grind (arith, common_steps)

unless-staged : (epoch at : ℕ) (p : Place) (c : Change) → is_staged_at p epoch at ≡ true → StagesOrPast epoch at (after p c) → StagesOrPast epoch at (after p (unless_decided p c))
unless-staged epoch at p c h k = by (is_decided p)
  where
    by : (b : Bool) → StagesOrPast epoch at (after p (if b then Stay else c))
    by true = inl h
    by false = k

-- a staging stays, or is past
staged-row : (epoch at : ℕ) (request : Request) (p : Place) → is_staged_at p epoch at ≡ true → StagesOrPast epoch at (after p (place_change request p))
staged-row epoch at request Nothing h = absurd cc
staged-row epoch at (requests.Beat meta ts now) (Kept r) h = unless-staged epoch at (Kept r) (beat meta ts now (Kept r)) h (staged-beat epoch at meta ts now r h)
staged-row epoch at (requests.Stage meta ts now writes locks) (Kept r) h = unless-staged epoch at (Kept r) (stage meta ts now writes locks (Kept r)) h (staged-stage epoch at meta ts now writes locks r h)
staged-row epoch at (requests.Commit meta ts locks) (Kept r) h = unless-staged epoch at (Kept r) (commit meta ts locks (Kept r)) h (staged-commit epoch at meta ts locks r h)
staged-row epoch at (requests.Abort meta why locks) (Kept r) h = unless-staged epoch at (Kept r) (abort meta why locks (Kept r)) h (inr (inl refl))
staged-row epoch at (requests.Push holder by level now goal) (Kept r) h = unless-staged epoch at (Kept r) (push holder by level now goal (Kept r)) h (staged-push epoch at holder by level now goal r h)
staged-row epoch at (requests.Recover id e ts anchor finding) (Kept r) h = unless-staged epoch at (Kept r) (recover e ts finding (Kept r)) h (staged-recover epoch at e ts finding r h)
staged-row epoch at (requests.Remove id anchor) (Kept r) h = staged-remove epoch at r h
staged-row epoch at request (Kept r) h = inl h
staged-row epoch at request (Marked s) h = absurd cc

-- Where it staged or was past, it stages or is past; and what was past is past.
pub record Leaves (epoch ts : ℕ) (p q : Place) : Type 0 where
  pub staged : is_staged_at p epoch ts ≡ true → (is_staged_at q epoch ts ≡ true) ⊎ IsPast epoch ts q
  pub past : IsPast epoch ts p → IsPast epoch ts q

leaves-itself : (epoch ts : ℕ) (p : Place) → Leaves epoch ts p p
leaves-itself epoch ts p = record { staged = λ h. inl h; past = λ h. h }

leaves-on : (epoch ts : ℕ) (p q r : Place) → Leaves epoch ts p q → Leaves epoch ts q r → Leaves epoch ts p r
leaves-on epoch ts p q r h k = record {
  staged = λ s. elim (h.staged s) [ inl still ↦ k.staged still | inr past ↦ inr (k.past past) ];
  past = λ s. k.past (h.past s);
}

pub staging_goes_on : (epoch ts : ℕ) (id : TxnId) → GoesOn (λ s t. Leaves epoch ts (place_of id s.table) (place_of id t.table))
staging_goes_on epoch ts id = record {
  same = λ s. leaves-itself epoch ts (place_of id s.table);
  on = λ s t u. leaves-on epoch ts (place_of id s.table) (place_of id t.table) (place_of id u.table);
  step = λ request s. at_place (Leaves epoch ts) (leaves-itself epoch ts) (λ request p. record { staged = staged-row epoch ts request p; past = past-row epoch ts request p }) id request s.table;
}
