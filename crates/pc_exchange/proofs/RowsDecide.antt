-- A commit or a recovery of a record that stages just so leaves it staging so no more.
use Rattle.std.proofs.Common.{◌≡◌, ℕ, nat_le, Bool, true, false, ◌&&◌, ◌==◌, if◌then◌else◌, List, [], Contains, refl, sym, ap, ◌∙◌, arith}
use Rattle.std.proofs.lemmas.Bool.{and_from, eq-eqb, le-leb}
use Rattle.pc_base.specs.declared.transaction.TxnId.{TxnId}
use Rattle.pc_desk.specs.OwnLog.{IsOwnLog, LogMeaning}
use Rattle.pc_exchange.proofs.HeardKinds.{answered, history_of}
use Rattle.pc_implicit.proofs.FinalMarks.{marks_final}
use Rattle.pc_implicit.proofs.Shown.{WasAnswered}
use Rattle.pc_proto.specs.declared.fate.Finding.{Finding}
use Rattle.pc_proto.specs.declared.fate.Finding.TheVariants as findings
use Rattle.pc_proto.specs.declared.meta.TxnMeta.{TxnMeta}
use Rattle.pc_proto.specs.declared.record.Record.{Record}
use Rattle.pc_proto.specs.declared.record.Standing.{Standing}
use Rattle.pc_proto.specs.declared.record.Standing.TheVariants as standings
use Rattle.pc_proto.specs.declared.record.Status.{Status}
use Rattle.pc_proto.specs.declared.reply.Reply.TheVariants as replies
use Rattle.pc_proto.specs.declared.request.Request.TheVariants as requests
use Rattle.pc_proto.specs.declared.view.View.{View}
use Rattle.pc_proto.specs.declared.view.View.TheVariants as views
use Rattle.pc_proto.specs.Place.{Place, Nothing, Kept, Marked, Stay, Become, after, is_final, status_view, view_of}
use Rattle.pc_proto.specs.RecordRows.{unless_decided}
use Rattle.pc_proto.specs.RecordRows.Commit.{commit}
use Rattle.pc_proto.specs.RecordRows.Reached.{activity_of, is_reached, is_staged_at, is_staging, status_of}
use Rattle.pc_proto.specs.RecordRows.Recover.{decided, recover, standing_found}
use Rattle.pc_proto.specs.Table.{place_of}
use Rattle.pc_world.specs.After.{state_at}
use Rattle.pc_world.specs.Evaluation.{reply}
use Rattle.pc_world.specs.Known.{known_of}
use Rattle.pc_world.specs.Known.Traffic.{Heard}

-- A status that is shown staging so stages so.
record StagesSo (standing : Standing) (epoch ts at_epoch at : ℕ) : Type 0 where
  staging : standing ≡ standings.Staging
  epoch_is : epoch ≡ at_epoch
  ts_is : ts ≡ at

stages_so : (standing : Standing) (epoch ts : ℕ) (writes : List (List ℕ × ℕ)) (locks : List (List ℕ)) (at_epoch at : ℕ) (shown : List (List ℕ × ℕ)) → status_view standing epoch ts writes locks ≡ views.Staging at_epoch at shown
    → StagesSo standing epoch ts at_epoch at
stages_so standings.Staging epoch ts writes locks at_epoch at shown is = record { staging = refl; epoch_is = cc; ts_is = cc }
stages_so standings.Pending epoch ts writes locks at_epoch at shown is = absurd cc
stages_so standings.Committed epoch ts writes locks at_epoch at shown is = absurd cc
stages_so (standings.Aborted why) epoch ts writes locks at_epoch at shown is = absurd cc

-- what is final is not shown so
final_stages_none : (standing : Standing) (epoch ts : ℕ) (writes : List (List ℕ × ℕ)) (locks : List (List ℕ)) → is_final standing ≡ true → (at_epoch at : ℕ) (shown : List (List ℕ × ℕ)) → status_view standing epoch ts writes locks ≡ views.Staging at_epoch at shown → ⊥
final_stages_none standing epoch ts writes locks final at_epoch at shown is =
    let so = stages_so standing epoch ts writes locks at_epoch at shown is in
    let both : is_final standings.Staging ≡ true = sym (ap is_final so.staging) ∙ final in
    cc both

-- ---- a commit

module _ (meta : TxnMeta) (ts : ℕ) (locks : List (List ℕ)) (shown : List (List ℕ × ℕ)) where
  module _ (r : Record) where
    commit_reached : (b : Bool) → is_reached (Kept r) meta.epoch ts ≡ b
        → view_of (after (Kept r) (if b then Become (record { meta = meta; status = status_of standings.Committed meta.epoch ts; activity = activity_of (Kept r) meta.born; writes = []; locks = locks }) else Stay)) ≡ views.Staging meta.epoch ts shown → ⊥
    commit_reached true reached is = cc
    commit_reached false past is =
        let so = stages_so r.status.standing r.status.epoch r.status.ts r.writes r.locks meta.epoch ts shown is in
        let epoch = so.epoch_is in
        let at = so.ts_is in
        let reached : is_reached (Kept r) meta.epoch ts ≡ true =
        and_from (nat_le r.status.epoch meta.epoch) (nat_le r.status.ts ts) (le-leb r.status.epoch meta.epoch (omega (arith, epoch))) (le-leb r.status.ts ts (omega (arith, at))) in
        let both : true ≡ false = sym reached ∙ past in
        cc both

    commit_kept : (b : Bool) → is_final r.status.standing ≡ b → view_of (after (Kept r) (if b then Stay else commit meta ts locks (Kept r))) ≡ views.Staging meta.epoch ts shown → ⊥
    commit_kept true final is = final_stages_none r.status.standing r.status.epoch r.status.ts r.writes r.locks final meta.epoch ts shown is
    commit_kept false undecided is = commit_reached (is_reached (Kept r) meta.epoch ts) refl is

  commit_stages_none : (p : Place) → ((s : Status) → p ≡ Marked s → is_final s.standing ≡ true) → view_of (after p (unless_decided p (commit meta ts locks p))) ≡ views.Staging meta.epoch ts shown → ⊥
  commit_stages_none Nothing marks is = cc
  commit_stages_none (Kept r) marks is = commit_kept r (is_final r.status.standing) refl is
  commit_stages_none (Marked s) marks is = final_stages_none s.standing s.epoch s.ts [] [] (marks s refl) meta.epoch ts shown is

-- ---- a recovery

final_found : (finding : Finding) → is_final (standing_found finding) ≡ true
final_found findings.All = refl
final_found (findings.Missing key by) = refl

module _ (epoch ts : ℕ) (finding : Finding) (shown : List (List ℕ × ℕ)) where
  module _ (r : Record) where
    recover_staged : (b : Bool) → is_staged_at (Kept r) epoch ts ≡ b → view_of (after (Kept r) (if b then decided finding (Kept r) else Stay)) ≡ views.Staging epoch ts shown → ⊥
    recover_staged true staged is = final_stages_none (standing_found finding) r.status.epoch r.status.ts [] r.locks (final_found finding) epoch ts shown is
    recover_staged false other is =
        let so = stages_so r.status.standing r.status.epoch r.status.ts r.writes r.locks epoch ts shown is in
        let staged : is_staged_at (Kept r) epoch ts ≡ true =
        and_from (is_staging r.status.standing) (r.status.epoch == epoch && r.status.ts == ts) (ap is_staging so.staging)
        (and_from (r.status.epoch == epoch) (r.status.ts == ts) (eq-eqb r.status.epoch epoch so.epoch_is) (eq-eqb r.status.ts ts so.ts_is)) in
        let both : true ≡ false = sym staged ∙ other in
        cc both

    recover_kept : (b : Bool) → is_final r.status.standing ≡ b → view_of (after (Kept r) (if b then Stay else recover epoch ts finding (Kept r))) ≡ views.Staging epoch ts shown → ⊥
    recover_kept true final is = final_stages_none r.status.standing r.status.epoch r.status.ts r.writes r.locks final epoch ts shown is
    recover_kept false undecided is = recover_staged (is_staged_at (Kept r) epoch ts) refl is

  recover_stages_none : (p : Place) → ((s : Status) → p ≡ Marked s → is_final s.standing ≡ true) → view_of (after p (unless_decided p (recover epoch ts finding p))) ≡ views.Staging epoch ts shown → ⊥
  recover_stages_none Nothing marks is = cc
  recover_stages_none (Kept r) marks is = recover_kept r (is_final r.status.standing) refl is
  recover_stages_none (Marked s) marks is = final_stages_none s.standing s.epoch s.ts [] [] (marks s refl) epoch ts shown is

-- ---- so it is of what an actor heard

same_status : (one other : View) → replies.Status one ≡ replies.Status other → one ≡ other
same_status one other e = cc

module _ {C : Type 0} (l : LogMeaning C) (log : IsOwnLog l) (h : Heard) (there : Contains (known_of l.part.own).heard h) where
  it_answered : WasAnswered l.head (history_of l log) l.part.id h.number h.request h.reply
  it_answered = answered l log h there

  -- a commit is not answered that its record stages at its timestamp, in its epoch
  pub commit_decides : (meta : TxnMeta) (ts : ℕ) (locks : List (List ℕ)) (shown : List (List ℕ × ℕ)) → h.request ≡ requests.Commit meta ts locks → h.reply ≡ replies.Status (views.Staging meta.epoch ts shown) → ⊥
  commit_decides meta ts locks shown asked told =
      let p : Place = place_of meta.id (state_at l.head it_answered.range it_answered.front).table in
      let is : reply (requests.Commit meta ts locks) (state_at l.head it_answered.range it_answered.front) ≡ replies.Status (views.Staging meta.epoch ts shown) =
      sym (it_answered.answers ∙ ap (λ q. reply q (state_at l.head it_answered.range it_answered.front)) asked) ∙ told in
      commit_stages_none meta ts locks shown p (λ s marked. marks_final l.head it_answered.range meta.id it_answered.front s marked) (same_status (view_of (after p (unless_decided p (commit meta ts locks p)))) (views.Staging meta.epoch ts shown) is)

  -- nor a recovery of what it recovers
  pub recover_decides : (id : TxnId) (epoch ts : ℕ) (anchor : List ℕ) (finding : Finding) (shown : List (List ℕ × ℕ)) → h.request ≡ requests.Recover id epoch ts anchor finding → h.reply ≡ replies.Status (views.Staging epoch ts shown) → ⊥
  recover_decides id epoch ts anchor finding shown asked told =
      let p : Place = place_of id (state_at l.head it_answered.range it_answered.front).table in
      let is : reply (requests.Recover id epoch ts anchor finding) (state_at l.head it_answered.range it_answered.front) ≡ replies.Status (views.Staging epoch ts shown) =
      sym (it_answered.answers ∙ ap (λ q. reply q (state_at l.head it_answered.range it_answered.front)) asked) ∙ told in
      recover_stages_none epoch ts finding shown p (λ s marked. marks_final l.head it_answered.range id it_answered.front s marked) (same_status (view_of (after p (unless_decided p (recover epoch ts finding p)))) (views.Staging epoch ts shown) is)
