-- What aborts a record over a request: an abort, a push that wins, or a recovery that found a write missing.
use Rattle.std.proofs.Common.{◌≡◌, ℕ, Bool, true, false, if◌then◌else◌, not, ◌&&◌, ◌⊎◌, inl, inr, List, None, Some, refl, sym, ap, ◌∙◌}
use Rattle.pc_base.specs.declared.transaction.Priority.{Priority}
use Rattle.pc_base.specs.declared.transaction.TxnId.{TxnId}
use Rattle.pc_base.specs.declared.transaction.Who.{Who}
use Rattle.pc_implicit.specs.Decided.{decision}
use Rattle.pc_proto.specs.declared.fate.Finding.{Finding}
use Rattle.pc_proto.specs.declared.fate.Finding.TheVariants as findings
use Rattle.pc_proto.specs.declared.fate.Goal.{Goal}
use Rattle.pc_proto.specs.declared.fate.Goal.TheVariants as goals
use Rattle.pc_proto.specs.declared.meta.TxnMeta.{TxnMeta}
use Rattle.pc_proto.specs.declared.record.Record.{Record}
use Rattle.pc_proto.specs.declared.record.Standing.{Standing}
use Rattle.pc_proto.specs.declared.record.Standing.TheVariants as standings
use Rattle.pc_proto.specs.declared.record.Status.{Status}
use Rattle.pc_proto.specs.declared.request.Request.{Request}
use Rattle.pc_proto.specs.declared.request.Request.TheVariants as requests
use Rattle.pc_proto.specs.declared.why.Why.{Why}
use Rattle.pc_proto.specs.declared.why.Why.TheVariants as whys
use Rattle.pc_proto.specs.Place.{Place, Nothing, Kept, Marked, Change, Become, Finish, Stay, after, is_decided, is_final}
use Rattle.pc_proto.specs.RecordRows.{place_change, unless_decided}
use Rattle.pc_proto.specs.RecordRows.Abort.{abort}
use Rattle.pc_proto.specs.RecordRows.Beat.{beat}
use Rattle.pc_proto.specs.RecordRows.Commit.{commit}
use Rattle.pc_proto.specs.RecordRows.Push.{There, Refuse, Doubt, Do, Verdict, is_staged, on_verdict, push, push_verdict, pushed, wins}
use Rattle.pc_proto.specs.RecordRows.Reached.{is_reached, is_staged_at}
use Rattle.pc_proto.specs.RecordRows.Recover.{decided, recover}
use Rattle.pc_proto.specs.RecordRows.Remove.{remove}
use Rattle.pc_proto.specs.RecordRows.Stage.{stage}

-- What aborts a place for this cause.
pub data AbortsBy (p : Place) (request : Request) (why : Why) : Type 0 where
  ByAbort : (meta : TxnMeta) (locks : List (List ℕ)) → request ≡ requests.Abort meta why locks → AbortsBy p request why
  ByPush : (holder : TxnMeta) (by : Who) (level : Priority) (now : ℕ) → request ≡ requests.Push holder by level now goals.Abort → why ≡ whys.Pushed by
      → wins holder level now p ≡ true → AbortsBy p request why
  ByRecover : (id : TxnId) (epoch ts : ℕ) (anchor key : List ℕ) (by : Who) → request ≡ requests.Recover id epoch ts anchor (findings.Missing key by) → why ≡ whys.Missing key by
      → is_staged_at p epoch ts ≡ true → AbortsBy p request why

-- What is aborted after the change was so before, or the request aborts it.
pub record SaysAborts (p : Place) (request : Request) (c : Change) : Type 0 where
  pub says : (s : Status) (why : Why) → decision (after p c) ≡ Some s → s.standing ≡ standings.Aborted why → (decision p ≡ Some s) ⊎ AbortsBy p request why

module _ (p : Place) (request : Request) where
  stays : SaysAborts p request Stay
  stays = record { says = λ s why is aborted. inl is }

  -- what is made of it is not aborted, or it is by this request
  becomes : (kind : Standing) (x : Record) → x.status.standing ≡ kind → ((why : Why) → kind ≡ standings.Aborted why → AbortsBy p request why) → SaysAborts p request (Become x)
  becomes kind x stands how = record { says = λ s why is aborted. by s why aborted (is_final x.status.standing) is }
    where
      by : (s : Status) (why : Why) → s.standing ≡ standings.Aborted why → (b : Bool) → (if b then Some x.status else None) ≡ Some s → (decision p ≡ Some s) ⊎ AbortsBy p request why
      by s why aborted true is = let same : x.status ≡ s = cc in inr (how why (sym stands ∙ ap (λ (y : Status). y.standing) same ∙ aborted))
      by s why aborted false is = absurd cc

  either : (b : Bool) (c : Change) → (b ≡ true → SaysAborts p request c) → SaysAborts p request (if b then c else Stay)
  either true c says = says refl
  either false c says = stays

  unless : (c : Change) → SaysAborts p request c → SaysAborts p request (unless_decided p c)
  unless c says = by (is_decided p)
    where
      by : (b : Bool) → SaysAborts p request (if b then Stay else c)
      by true = stays
      by false = says

beats : (meta : TxnMeta) (ts now : ℕ) (p : Place) → SaysAborts p (requests.Beat meta ts now) (beat meta ts now p)
beats meta ts now Nothing = becomes Nothing (requests.Beat meta ts now) standings.Pending _ refl (λ why is. absurd cc)
beats meta ts now (Kept old) = record { says = λ s why is aborted. inl is }
beats meta ts now (Marked s) = stays (Marked s) (requests.Beat meta ts now)

recovers : (id : TxnId) (epoch ts : ℕ) (anchor : List ℕ) (finding : Finding) (p : Place) → SaysAborts p (requests.Recover id epoch ts anchor finding) (recover epoch ts finding p)
recovers id epoch ts anchor finding p = either p (requests.Recover id epoch ts anchor finding) (is_staged_at p epoch ts) (decided finding p) (by p finding)
  where
    by : (p : Place) (f : Finding) → is_staged_at p epoch ts ≡ true → SaysAborts p (requests.Recover id epoch ts anchor f) (decided f p)
    by Nothing f staged = stays Nothing (requests.Recover id epoch ts anchor f)
    by (Kept r) findings.All staged = becomes (Kept r) (requests.Recover id epoch ts anchor findings.All) standings.Committed _ refl (λ why is. absurd cc)
    by (Kept r) (findings.Missing key who) staged =
        becomes (Kept r) (requests.Recover id epoch ts anchor (findings.Missing key who)) (standings.Aborted (whys.Missing key who)) _ refl (λ why is. let same : whys.Missing key who ≡ why = cc in ByRecover id epoch ts anchor key who refl (sym same) staged)
    by (Marked s) f staged = stays (Marked s) (requests.Recover id epoch ts anchor f)

pushes : (holder : TxnMeta) (by : Who) (level : Priority) (now : ℕ) (goal : Goal) (p : Place) → SaysAborts p (requests.Push holder by level now goal) (push holder by level now goal p)
pushes holder by level now goals.Abort p = won (wins holder level now p) refl (is_staged p)
  where
    won : (b : Bool) → wins holder level now p ≡ b → (c : Bool)
        → SaysAborts p (requests.Push holder by level now goals.Abort) (on_verdict (if b then (if c then Doubt else Do) else Refuse) (pushed holder by goals.Abort p))
    won true is true = stays p (requests.Push holder by level now goals.Abort)
    won true is false =
        becomes p (requests.Push holder by level now goals.Abort) (standings.Aborted (whys.Pushed by)) _ refl (λ why named. let same : whys.Pushed by ≡ why = cc in ByPush holder by level now refl (sym same) is)
    won false is c = stays p (requests.Push holder by level now goals.Abort)
pushes holder by level now (goals.Move target) p = of (push_verdict holder level now (goals.Move target) p)
  where
    of : (v : Verdict) → SaysAborts p (requests.Push holder by level now (goals.Move target)) (on_verdict v (pushed holder by (goals.Move target) p))
    of There = stays p (requests.Push holder by level now (goals.Move target))
    of Refuse = stays p (requests.Push holder by level now (goals.Move target))
    of Doubt = stays p (requests.Push holder by level now (goals.Move target))
    of Do = becomes p (requests.Push holder by level now (goals.Move target)) standings.Pending _ refl (λ why is. absurd cc)

removes : (id : TxnId) (anchor : List ℕ) (p : Place) → SaysAborts p (requests.Remove id anchor) (remove p)
removes id anchor Nothing = stays Nothing (requests.Remove id anchor)
removes id anchor (Kept r) = by (is_final r.status.standing) refl
  where
    by : (b : Bool) → is_final r.status.standing ≡ b → SaysAborts (Kept r) (requests.Remove id anchor) (if b then Finish r.status else Stay)
    by true final = record { says = λ s why is aborted. inl (ap (λ b. if b then Some r.status else None) final ∙ is) }
    by false unfinal = stays (Kept r) (requests.Remove id anchor)
removes id anchor (Marked s) = stays (Marked s) (requests.Remove id anchor)

-- what is aborted after a request was so before, or the request aborts it
pub aborted_from : (request : Request) (p : Place) → SaysAborts p request (place_change request p)
aborted_from (requests.Beat meta ts now) p = unless p (requests.Beat meta ts now) (beat meta ts now p) (beats meta ts now p)
aborted_from (requests.Stage meta ts now writes locks) p =
    unless p (requests.Stage meta ts now writes locks) (stage meta ts now writes locks p)
    (either p (requests.Stage meta ts now writes locks) (is_reached p meta.epoch ts && not (is_staged_at p meta.epoch ts)) _
    (λ reached. becomes p (requests.Stage meta ts now writes locks) standings.Staging _ refl (λ why is. absurd cc)))
aborted_from (requests.Commit meta ts locks) p =
    unless p (requests.Commit meta ts locks) (commit meta ts locks p)
    (either p (requests.Commit meta ts locks) (is_reached p meta.epoch ts) _ (λ reached. becomes p (requests.Commit meta ts locks) standings.Committed _ refl (λ why is. absurd cc)))
aborted_from (requests.Abort meta why locks) p =
    unless p (requests.Abort meta why locks) (abort meta why locks p)
    (becomes p (requests.Abort meta why locks) (standings.Aborted why) _ refl (λ other is. let same : why ≡ other = cc in ByAbort meta locks (ap (λ w. requests.Abort meta w locks) same)))
aborted_from (requests.Push holder by level now goal) p = unless p (requests.Push holder by level now goal) (push holder by level now goal p) (pushes holder by level now goal p)
aborted_from (requests.Recover id epoch ts anchor finding) p =
    unless p (requests.Recover id epoch ts anchor finding) (recover epoch ts finding p) (recovers id epoch ts anchor finding p)
aborted_from (requests.Remove id anchor) p = removes id anchor p
aborted_from request p = stays p request
