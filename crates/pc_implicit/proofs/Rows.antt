-- What each record row keeps.
use Rattle.std.proofs.Common.{◌≡◌, ℕ, Bool, true, false, if◌then◌else◌, List, Some, refl, ap, ◌∙◌, arith}
use Rattle.std.proofs.lemmas.Grind.{common_steps}
use Rattle.pc_base.specs.declared.transaction.Priority.{Priority}
use Rattle.pc_base.specs.declared.transaction.Who.{Who}
use Rattle.pc_implicit.specs.Decided.{IsNotBelow, decision}
use Rattle.pc_proto.specs.declared.fate.Finding.{Finding}
use Rattle.pc_proto.specs.declared.fate.Goal.{Goal}
use Rattle.pc_proto.specs.declared.fate.Goal.TheVariants as goals
use Rattle.pc_proto.specs.declared.meta.TxnMeta.{TxnMeta}
use Rattle.pc_proto.specs.declared.record.Status.{Status}
use Rattle.pc_proto.specs.declared.request.Request.{Request}
use Rattle.pc_proto.specs.declared.request.Request.TheVariants as requests
use Rattle.pc_proto.specs.declared.why.Why.{Why}
use Rattle.pc_proto.specs.Place.{Place, Nothing, Kept, Marked, Change, Stay, after, is_decided}
use Rattle.pc_proto.specs.RecordRows.{place_change, unless_decided}
use Rattle.pc_proto.specs.RecordRows.Abort.{abort}
use Rattle.pc_proto.specs.RecordRows.Beat.{beat}
use Rattle.pc_proto.specs.RecordRows.Commit.{commit}
use Rattle.pc_proto.specs.RecordRows.Push.{push}
use Rattle.pc_proto.specs.RecordRows.Recover.{recover}
use Rattle.pc_proto.specs.RecordRows.Remove.{remove}
use Rattle.pc_proto.specs.RecordRows.Stage.{stage}

decided-if : (p : Place) (s : Status) → decision p ≡ Some s → is_decided p ≡ true
decided-if Nothing s h = grind arith
decided-if (Kept r) s h = grind arith
decided-if (Marked s) t h = refl

pub removed-keeps : (p : Place) → decision (after p (remove p)) ≡ decision p
removed-keeps Nothing = refl
removed-keeps (Kept r) = grind arith
removed-keeps (Marked s) = refl

unless-keeps : (p : Place) (c : Change) (s : Status) → decision p ≡ Some s → decision (after p (unless_decided p c)) ≡ Some s
unless-keeps p c s h = let d : is_decided p ≡ true = decided-if p s h in ap (λ b. decision (after p (if b then Stay else c))) d ∙ h

-- a decision stands
pub decision-row : (s : Status) (request : Request) (p : Place) → decision p ≡ Some s → decision (after p (place_change request p)) ≡ Some s
decision-row s (requests.Beat meta ts now) p h = unless-keeps p (beat meta ts now p) s h
decision-row s (requests.Stage meta ts now writes locks) p h = unless-keeps p (stage meta ts now writes locks p) s h
decision-row s (requests.Commit meta ts locks) p h = unless-keeps p (commit meta ts locks p) s h
decision-row s (requests.Abort meta why locks) p h = unless-keeps p (abort meta why locks p) s h
decision-row s (requests.Push holder by level now goal) p h = unless-keeps p (push holder by level now goal p) s h
decision-row s (requests.Recover id epoch ts anchor finding) p h = unless-keeps p (recover epoch ts finding p) s h
decision-row s (requests.Remove id anchor) p h = removed-keeps p ∙ h
decision-row s request p h = h

beat-rises : (meta : TxnMeta) (ts now : ℕ) (p : Place) → IsNotBelow p (after p (beat meta ts now p))
beat-rises meta ts now Nothing = grind arith
beat-rises meta ts now (Kept r) = grind arith
beat-rises meta ts now (Marked s) = grind arith

stage-rises : (meta : TxnMeta) (ts now : ℕ) (writes : List (List ℕ × ℕ)) (locks : List (List ℕ)) (p : Place) → IsNotBelow p (after p (stage meta ts now writes locks p))
stage-rises meta ts now writes locks Nothing = grind arith
stage-rises meta ts now writes locks (Kept r) = grind (arith, common_steps)
stage-rises meta ts now writes locks (Marked s) = grind arith

commit-rises : (meta : TxnMeta) (ts : ℕ) (locks : List (List ℕ)) (p : Place) → IsNotBelow p (after p (commit meta ts locks p))
commit-rises meta ts locks Nothing = grind arith
commit-rises meta ts locks (Kept r) = grind (arith, common_steps)
commit-rises meta ts locks (Marked s) = grind arith

abort-rises : (meta : TxnMeta) (why : Why) (locks : List (List ℕ)) (p : Place) → is_decided p ≡ false → IsNotBelow p (after p (abort meta why locks p))
abort-rises meta why locks Nothing d = grind arith
abort-rises meta why locks (Kept r) d = grind arith
abort-rises meta why locks (Marked s) d = absurd cc

push-rises : (holder : TxnMeta) (by : Who) (level : Priority) (now : ℕ) (goal : Goal) (p : Place) → is_decided p ≡ false → IsNotBelow p (after p (push holder by level now goal p))
push-rises holder by level now goal Nothing d = grind arith
push-rises holder by level now goals.Abort (Kept r) d = grind (arith, common_steps)
push-rises holder by level now (goals.Move target) (Kept r) d = grind (arith, common_steps)
push-rises holder by level now goal (Marked s) d = absurd cc

recover-rises : (epoch ts : ℕ) (finding : Finding) (p : Place) → IsNotBelow p (after p (recover epoch ts finding p))
recover-rises epoch ts finding Nothing = grind arith
recover-rises epoch ts finding (Kept r) = grind (arith, common_steps)
recover-rises epoch ts finding (Marked s) = grind arith

remove-rises : (p : Place) → IsNotBelow p (after p (remove p))
remove-rises Nothing = grind arith
remove-rises (Kept r) = grind arith
remove-rises (Marked s) = grind arith

pub not-below-itself : (p : Place) → IsNotBelow p p
not-below-itself p = record { epoch = omega arith; ts = omega arith }

unless-rises : (p : Place) (c : Change) (b : Bool) → (b ≡ false → IsNotBelow p (after p c)) → IsNotBelow p (after p (if b then Stay else c))
unless-rises p c true rises = not-below-itself p
unless-rises p c false rises = rises refl

-- neither the epoch nor the timestamp falls
pub rises-row : (request : Request) (p : Place) → IsNotBelow p (after p (place_change request p))
rises-row (requests.Beat meta ts now) p = unless-rises p (beat meta ts now p) (is_decided p) (λ d. beat-rises meta ts now p)
rises-row (requests.Stage meta ts now writes locks) p = unless-rises p (stage meta ts now writes locks p) (is_decided p) (λ d. stage-rises meta ts now writes locks p)
rises-row (requests.Commit meta ts locks) p = unless-rises p (commit meta ts locks p) (is_decided p) (λ d. commit-rises meta ts locks p)
rises-row (requests.Abort meta why locks) p = unless-rises p (abort meta why locks p) (is_decided p) (abort-rises meta why locks p)
rises-row (requests.Push holder by level now goal) p = unless-rises p (push holder by level now goal p) (is_decided p) (push-rises holder by level now goal p)
rises-row (requests.Recover id epoch ts anchor finding) p = unless-rises p (recover epoch ts finding p) (is_decided p) (λ d. recover-rises epoch ts finding p)
rises-row (requests.Remove id anchor) p = remove-rises p
rises-row request p = not-below-itself p

unless-decides : (p : Place) (c : Change) → is_decided p ≡ true → is_decided (after p (unless_decided p c)) ≡ true
unless-decides p c d = ap (λ b. is_decided (after p (if b then Stay else c))) d ∙ d

-- what is decided stays decided
pub decided-row : (request : Request) (p : Place) → is_decided p ≡ true → is_decided (after p (place_change request p)) ≡ true
decided-row (requests.Beat meta ts now) p d = unless-decides p (beat meta ts now p) d
decided-row (requests.Stage meta ts now writes locks) p d = unless-decides p (stage meta ts now writes locks p) d
decided-row (requests.Commit meta ts locks) p d = unless-decides p (commit meta ts locks p) d
decided-row (requests.Abort meta why locks) p d = unless-decides p (abort meta why locks p) d
decided-row (requests.Push holder by level now goal) p d = unless-decides p (push holder by level now goal p) d
decided-row (requests.Recover id epoch ts anchor finding) p d = unless-decides p (recover epoch ts finding p) d
decided-row (requests.Remove id anchor) Nothing d = d
decided-row (requests.Remove id anchor) (Kept r) d = grind arith
decided-row (requests.Remove id anchor) (Marked s) d = d
decided-row request p d = d
