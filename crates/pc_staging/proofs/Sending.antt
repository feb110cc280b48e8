-- A transaction begins, stages, commits, and forgets its dead stages.
use Rattle.std.proofs.Common.{◌≡◌, ℕ, ◌<◌, ◌≤◌, true, false, ◌&&◌, ◌⊎◌, inl, inr, Option, Some, None, IfSome, is_none, is_some, List, [], ◌∷◌, ◌++◌, refl, sym, ap, ◌∙◌, subst, arith, All, Any, Contains}
use Rattle.std.specs.List.{list_all}
use Rattle.std.specs.Option.{option_map}
use Rattle.std.proofs.lemmas.List.{append-nil}
use Rattle.std.proofs.lemmas.List.Elements.{All-append, All-contains, All-cons, All-head, All-nil, All-tail, All-weaker, Contains-append_left, Contains-push, Contains-push_cases}
use Rattle.pc_base.specs.declared.transaction.TxnId.{TxnId}
use Rattle.pc_base.specs.Transaction.{same_txn}
use Rattle.pc_lists.proofs.Same.{same_txn-self}
use Rattle.pc_lists.proofs.Anywhere.{any_behind, any_head, any_kept}
use Rattle.pc_lists.proofs.Lists.{contains_nil}
use Rattle.pc_proto.specs.declared.request.Request.{Request}
use Rattle.pc_proto.specs.declared.request.Request.TheVariants as requests
use Rattle.pc_proto.specs.Requests.{is_about}
use Rattle.pc_staging.proofs.Deciding.{late_stages, none_out, over_yes, passed_yes}
use Rattle.pc_staging.proofs.Evidenced.{both_true, evidence_on, evidence_push, evidence_step, map_same, ShowsOpen}
use Rattle.pc_staging.proofs.Fates.{commit_new, commit_no_stage, each_commit-more, none_more, stage_new, stage_no_commit}
use Rattle.pc_staging.proofs.Going.{each_on, late_on, lists_in_flight, out_on, passed_on, reached_on, refused_on, sent_on, staged_on, undecided_on, went_past_on}
use Rattle.pc_staging.proofs.Steps.{first_on}
use Rattle.pc_staging.specs.declared.stage_out.StageOut.{StageOut}
use Rattle.pc_staging.specs.Hearing.{HasSentNothing, SendsCommit, SendsStage}
use Rattle.pc_staging.specs.Kept.{Evidence, is_dead_by, is_over, is_passed_by, is_refuted, is_step_before, nothing_kept, with_stages, without_stages}
use Rattle.pc_staging.specs.Standing.{AreEvidence, AreRefutedBelow, IsBehind, IsEvidenceOf, IsPastStageBelow, IsRefusedCommitBelow, StagingStands, WasStageSent}
use Rattle.pc_world.specs.Known.{Known}
use Rattle.pc_world.specs.Known.Traffic.{Heard, Sent}
use Rattle.pc_world.specs.Known.Transactions.{Txn, txn_sent}
use Rattle.pc_world.specs.StageFate.{EachStage, IsDead, IsLate, IsLateByRecord, OnCommit, OnStage, RefutesRecord, RefutesWrite, Refuses, SentCommit, SentStage, WasCommitRefused, commit_request, stage_request}
use Rattle.pc_world.specs.Send.Stage.{IsPassed}

-- ---- nothing was sent

no_stage : (id : TxnId) (P : SentStage → Type 0) (request : Request) → is_about id request ≡ false → OnStage id P request
no_stage id P (requests.Stage meta ts now writes locks) none = λ same. let is : same_txn meta.id id ≡ true = same in let not_it : same_txn meta.id id ≡ false = none in absurd cc
no_stage id P request none = tt

no_commit : (id : TxnId) (P : SentCommit → Type 0) (request : Request) → is_about id request ≡ false → OnCommit id P request
no_commit id P (requests.Commit meta ts locks) none = λ same. let is : same_txn meta.id id ≡ true = same in let not_it : same_txn meta.id id ≡ false = none in absurd cc
no_commit id P request none = tt

refused_about : (id : TxnId) (c : SentCommit) (h : Heard) → c.meta.id ≡ id → Refuses c h → is_about id h.request ≡ true
refused_about id c h whose r = ap (is_about id) r.asked ∙ ap (λ i. same_txn i id) whose ∙ same_txn-self id

past_about : (id : TxnId) (s : SentStage) (h : Heard) → s.meta.id ≡ id → RefutesRecord s h → is_about id h.request ≡ true
past_about id s h whose r = ap (is_about id) r.asked ∙ ap (λ i. same_txn i id) whose ∙ same_txn-self id

unseen : (id : TxnId) (h : Heard) → is_about id h.request ≡ false → ShowsOpen id h → ⊥
unseen id h none shows = let is : is_about id h.request ≡ true = (both_true (is_about id h.request) _ shows).0 in absurd cc

pub nothing_stands : (k : Known) (t : Txn) → HasSentNothing k t → StagingStands k [] None t nothing_kept
nothing_stands k t none = record {
  each = All-weaker (λ m. is_about t.id m.request ≡ false) (λ m. OnStage t.id (λ s. IsBehind k.heard t.write_ts s ⊎ Contains [] s) m.request) (λ m no. no_stage t.id (λ s. IsBehind k.heard t.write_ts s ⊎ Contains [] s) m.request no) k.sent none.none_sent;
  sent = All-nil (WasStageSent k.sent t.id);
  kept = tt;
  apart = λ s other there also at. absurd (contains_nil s there);
  timely = All-nil (λ s. s.ts ≤ t.write_ts);
  older = λ s other there also below. absurd (contains_nil s there);
  staged_by = tt;
  behind_commit = λ c is. let bad : None ≡ Some c = is in absurd cc;
  reached = none.none_written;
  last_staged = tt;
  last_undecided = All-weaker (λ h. is_about t.id h.request ≡ false) (λ h. ShowsOpen t.id h → ⊥) (λ h no shows. unseen t.id h no shows) k.heard none.none_heard;
  refused = All-weaker (λ m. is_about t.id m.request ≡ false) (λ m. OnCommit t.id (λ c. (None ≡ Some c) ⊎ WasCommitRefused k.heard c) m.request) (λ m no. no_commit t.id (λ c. (None ≡ Some c) ⊎ WasCommitRefused k.heard c) m.request no) k.sent none.none_sent;
  passed = All-weaker (λ h. is_about t.id h.request ≡ false) (IsRefusedCommitBelow t.id t.write_ts)
      (λ h no c whose r. let is : is_about t.id h.request ≡ true = refused_about t.id c h whose r in absurd cc) k.heard none.none_heard;
  went_past = All-weaker (λ h. is_about t.id h.request ≡ false) (IsPastStageBelow t.id t.write_ts)
      (λ h no s whose r. let is : is_about t.id h.request ≡ true = past_about t.id s h whose r in absurd cc) k.heard none.none_heard;
  commit_at = refl;
  out = tt;
}

-- ---- a stage

module _ (k now : Known) (stages : List SentStage) (commit : Option SentCommit) (t : Txn) (x : Evidence) (s : SentStage) (st : StagingStands k stages commit t x) (passed : is_passed_by x ≡ true) (sends : SendsStage k now t s) where
  abbrev m0 : Sent
  m0 = sends.sends.m

  abbrev later : Txn
  later = txn_sent (stage_request s) t

  abbrev o0 : StageOut
  o0 = record { ts = s.ts; refuted = None }

  same_time : t.write_ts ≤ t.write_ts
  same_time = omega arith

  unrefuted : All (λ h. RefutesWrite s h → ⊥) k.heard
  unrefuted =
      All-weaker (AreRefutedBelow t.id t.write_ts) (λ h. RefutesWrite s h → ⊥)
      (λ h r w. let below : s.ts < t.write_ts = r s sends.whose w.refuted in let at : s.ts ≡ t.write_ts = sends.at_write_ts in absurd (omega arith))
      k.heard st.reached

  -- a stage whose record went another way lies below the write timestamp
  not_past : IsLateByRecord k.heard s → ⊥
  not_past (i, h, there, is, r) =
      let below : IsPastStageBelow t.id t.write_ts h = All-contains (IsPastStageBelow t.id t.write_ts) k.heard h st.went_past (i, there, is) in
      let low : s.ts < t.write_ts = below s sends.whose r in
      let at : s.ts ≡ t.write_ts = sends.at_write_ts in
      absurd (omega (arith, low, at))

  own : IsEvidenceOf (k.heard ++ []) later s o0
  own = record {
    whose = sends.whose;
    epoch_now = sends.epoch_now;
    lists = lists_in_flight s t.writes sends.in_flight;
    at = refl;
    first_refuted = first_on (RefutesWrite s) None k.heard [] unrefuted (All-nil (λ h. RefutesWrite s h → ⊥));
    not_past = none_more (RefutesRecord s) k.heard [] not_past (All-nil (λ h. RefutesRecord s h → ⊥));
  }

  older : AreEvidence (k.heard ++ []) later stages x.stages
  older =
      subst (λ os. AreEvidence (k.heard ++ []) later stages os) (map_same x.stages)
      (evidence_on k.heard [] t later (λ o. o) stages x.stages
      (λ y o there e.
      evidence_step k.heard [] t later y o o e refl refl (λ key seq u. u) refl (first_on (RefutesWrite y) o.refuted k.heard [] e.first_refuted (All-nil (λ h. RefutesWrite y h → ⊥)))
      (All-nil (λ h. RefutesRecord y h → ⊥)))
      st.kept)

  below : (y : SentStage) → Contains stages y → y.ts < s.ts
  below y there =
      let late : IsLate k.heard y × (y.ts < t.write_ts) = All-contains (λ y. IsLate k.heard y × (y.ts < t.write_ts)) stages y (late_stages k stages commit t x st passed) there in
      let low : y.ts < t.write_ts = late.1 in
      let at : s.ts ≡ t.write_ts = sends.at_write_ts in
      omega (arith, low, at)

  apart2 : (a b : SentStage) → Contains (stages ++ s ∷ []) a → Contains (stages ++ s ∷ []) b → a.ts ≡ b.ts → a ≡ b
  apart2 a b there also at =
      elim (Contains-push_cases stages s a there) [
        | inl old ↦
            elim (Contains-push_cases stages s b also) [
              | inl too ↦ st.apart a b old too at
              | inr is ↦ let low : a.ts < s.ts = below a old in let up : a.ts ≡ s.ts = at ∙ ap (λ y. y.ts) (sym is) in absurd (omega arith)
            ]
        | inr is ↦
            elim (Contains-push_cases stages s b also) [
              | inl too ↦ let low : b.ts < s.ts = below b too in let up : s.ts ≡ b.ts = ap (λ y. y.ts) is ∙ at in absurd (omega arith)
              | inr same ↦ sym is ∙ same
            ]
      ]

  older2 : (a b : SentStage) → Contains (stages ++ s ∷ []) a → Contains (stages ++ s ∷ []) b → a.ts < b.ts → IsLate now.heard a
  older2 a b there also low =
      elim (Contains-push_cases stages s a there) [
        | inl old ↦
            late_on k now stages commit t x st (m0 ∷ []) [] sends.sends.grown a
            (All-contains (λ y. IsLate k.heard y × (y.ts < t.write_ts)) stages a (late_stages k stages commit t x st passed) old).0
        | inr is ↦
            elim (Contains-push_cases stages s b also) [
              | inl too ↦ let under : b.ts < s.ts = below b too in let at : s.ts ≡ a.ts = ap (λ y. y.ts) is in absurd (omega arith)
              | inr same ↦ let at : a.ts ≡ b.ts = sym (ap (λ y. y.ts) is) ∙ ap (λ y. y.ts) same in absurd (omega arith)
            ]
      ]

  none_yet : commit ≡ None
  none_yet = none_out k stages commit t x st (both_true (is_none x.commit) (list_all is_refuted x.stages) passed).0

  staged_more : (o : Option ℕ) → IfSome o (λ ts. Any (λ y. y.ts ≡ ts) stages) → IfSome o (λ ts. Any (λ y. y.ts ≡ ts) (stages ++ s ∷ []))
  staged_more None h = tt
  staged_more (Some ts) h = any_kept (λ y. y.ts ≡ ts) stages (s ∷ []) h

  abbrev Q : SentStage → Type 0
  Q y = IsBehind (k.heard ++ []) t.write_ts y ⊎ Contains (stages ++ s ∷ []) y

  abbrev C : SentCommit → Type 0
  C c = (commit ≡ Some c) ⊎ WasCommitRefused (k.heard ++ []) c

  pub stage_stands : StagingStands now (stages ++ s ∷ []) commit later (with_stages (x.stages ++ o0 ∷ []) x)
  stage_stands =
      let grown = sends.sends.grown in
      let W : SentStage → Type 0 = WasStageSent now.sent t.id in
      let P : Sent → Type 0 = λ m. m.request ≡ stage_request s in
      let went : Any P now.sent = subst (λ ms. Any P ms) (sym grown.sent) (any_behind P k.sent (m0 ∷ []) (any_head P m0 [] sends.sends.said)) in
      record {
        each = each_on k now stages commit t x st (m0 ∷ []) [] grown t.write_ts same_time (stages ++ s ∷ []) (λ y there. inr (Contains-append_left stages (s ∷ []) y there))
            (All-cons (λ m. OnStage t.id Q m.request) m0 [] (stage_new t.id Q s m0.request sends.sends.said (inr (Contains-push stages s))) (All-nil (λ m. OnStage t.id Q m.request)));
        sent = All-append W stages (s ∷ []) (sent_on k now stages commit t x st (m0 ∷ []) [] grown) (All-cons W s [] (record { went_out = went; whose = sends.whose }) (All-nil W));
        kept = subst (λ hs. AreEvidence hs later (stages ++ s ∷ []) (x.stages ++ o0 ∷ [])) (sym grown.heard) (evidence_push (k.heard ++ []) later stages x.stages s o0 older own);
        apart = apart2;
        timely = All-append (λ y. y.ts ≤ t.write_ts) stages (s ∷ []) st.timely
            (All-cons (λ y. y.ts ≤ t.write_ts) s [] (let at : s.ts ≡ t.write_ts = sends.at_write_ts in omega (arith, at)) (All-nil (λ y. y.ts ≤ t.write_ts)));
        older = older2;
        staged_by = staged_more x.staged st.staged_by;
        behind_commit = λ c is. let bad : None ≡ Some c = sym none_yet ∙ is in absurd cc;
        reached = reached_on k now stages commit t x st (m0 ∷ []) [] grown t.write_ts same_time (All-nil (AreRefutedBelow t.id t.write_ts));
        last_staged = staged_on k now stages commit t x st (m0 ∷ []) [] grown x.staged st.last_staged;
        last_undecided = undecided_on k now stages commit t x st (m0 ∷ []) [] grown (All-nil (λ h. ShowsOpen t.id h → ⊥)) x.undecided st.last_undecided;
        refused = refused_on k now stages commit t x st (m0 ∷ []) [] grown commit (λ c is. inl is)
            (All-cons (λ m. OnCommit t.id C m.request) m0 [] (stage_no_commit t.id C s m0.request sends.sends.said) (All-nil (λ m. OnCommit t.id C m.request)));
        passed = passed_on k now stages commit t x st (m0 ∷ []) [] grown t.write_ts same_time (All-nil (IsRefusedCommitBelow t.id t.write_ts));
        went_past = went_past_on k now stages commit t x st (m0 ∷ []) [] grown t.write_ts same_time (All-nil (IsPastStageBelow t.id t.write_ts));
        commit_at = st.commit_at;
        out = out_on k now stages commit t x st (m0 ∷ []) [] grown (λ c is. All-nil (λ h. Refuses c h → ⊥));
      }

-- ---- a commit

module _ (k now : Known) (stages : List SentStage) (commit : Option SentCommit) (t : Txn) (x : Evidence) (c : SentCommit) (st : StagingStands k stages commit t x) (passed : is_passed_by x ≡ true) (sends : SendsCommit k now t c) where
  abbrev m1 : Sent
  m1 = sends.sends.m

  abbrev next : Txn
  next = txn_sent (commit_request c) t

  as_late : t.write_ts ≤ t.write_ts
  as_late = omega arith

  none_before : commit ≡ None
  none_before = none_out k stages commit t x st (both_true (is_none x.commit) (list_all is_refuted x.stages) passed).0

  still : AreEvidence (k.heard ++ []) next stages x.stages
  still =
      subst (λ os. AreEvidence (k.heard ++ []) next stages os) (map_same x.stages)
      (evidence_on k.heard [] t next (λ o. o) stages x.stages
      (λ y o there e.
      evidence_step k.heard [] t next y o o e refl refl (λ key seq u. u) refl (first_on (RefutesWrite y) o.refuted k.heard [] e.first_refuted (All-nil (λ h. RefutesWrite y h → ⊥)))
      (All-nil (λ h. RefutesRecord y h → ⊥)))
      st.kept)

  abbrev R : SentStage → Type 0
  R y = IsBehind (k.heard ++ []) t.write_ts y ⊎ Contains stages y

  abbrev D : SentCommit → Type 0
  D d = (Some c ≡ Some d) ⊎ WasCommitRefused (k.heard ++ []) d

  -- a commit that was refused lies below the write timestamp
  not_refused : WasCommitRefused k.heard c → ⊥
  not_refused (i, h, there, is, r) =
      let below : IsRefusedCommitBelow t.id t.write_ts h = All-contains (IsRefusedCommitBelow t.id t.write_ts) k.heard h st.passed (i, there, is) in
      let low : c.ts < t.write_ts = below c sends.whose r in
      let at : c.ts ≡ t.write_ts = sends.at_write_ts in
      absurd (omega (arith, low, at))

  pub commit_stands : StagingStands now stages (Some c) next (record x { commit = Some c.ts })
  commit_stands =
      let grown = sends.sends.grown in
      let P : Sent → Type 0 = λ m. m.request ≡ commit_request c in
      let went : Any P now.sent = subst (λ ms. Any P ms) (sym grown.sent) (any_behind P k.sent (m1 ∷ []) (any_head P m1 [] sends.sends.said)) in
      record {
        each = each_on k now stages commit t x st (m1 ∷ []) [] grown t.write_ts as_late stages (λ y there. inr there)
            (All-cons (λ m. OnStage t.id R m.request) m1 [] (commit_no_stage t.id R c m1.request sends.sends.said) (All-nil (λ m. OnStage t.id R m.request)));
        sent = sent_on k now stages commit t x st (m1 ∷ []) [] grown;
        kept = subst (λ hs. AreEvidence hs next stages x.stages) (sym grown.heard) still;
        apart = st.apart;
        timely = st.timely;
        older = λ a b there also low. late_on k now stages commit t x st (m1 ∷ []) [] grown a (st.older a b there also low);
        staged_by = st.staged_by;
        behind_commit = λ d is.
            All-weaker (λ y. IsLate k.heard y × (y.ts < t.write_ts)) (IsLate now.heard) (λ y late. late_on k now stages commit t x st (m1 ∷ []) [] grown y late.0)
            stages (late_stages k stages commit t x st passed);
        reached = reached_on k now stages commit t x st (m1 ∷ []) [] grown t.write_ts as_late (All-nil (AreRefutedBelow t.id t.write_ts));
        last_staged = staged_on k now stages commit t x st (m1 ∷ []) [] grown x.staged st.last_staged;
        last_undecided = undecided_on k now stages commit t x st (m1 ∷ []) [] grown (All-nil (λ h. ShowsOpen t.id h → ⊥)) x.undecided st.last_undecided;
        refused = refused_on k now stages commit t x st (m1 ∷ []) [] grown (Some c) (λ d is. let bad : None ≡ Some d = sym none_before ∙ is in absurd cc)
            (All-cons (λ m. OnCommit t.id D m.request) m1 [] (commit_new t.id D c m1.request sends.sends.said (inl refl)) (All-nil (λ m. OnCommit t.id D m.request)));
        passed = passed_on k now stages commit t x st (m1 ∷ []) [] grown t.write_ts as_late (All-nil (IsRefusedCommitBelow t.id t.write_ts));
        went_past = went_past_on k now stages commit t x st (m1 ∷ []) [] grown t.write_ts as_late (All-nil (IsPastStageBelow t.id t.write_ts));
        commit_at = refl;
        out = record {
          went_out = went;
          whose = sends.whose;
          unrefused = λ refused. not_refused (subst (λ hs. WasCommitRefused hs c) (grown.heard ∙ append-nil k.heard) refused);
        };
      }

-- ---- dead stages are forgotten

dead_before : (first last : Option ℕ) → is_step_before first last ≡ true → is_some first ≡ true
dead_before None last is = absurd cc
dead_before (Some n) last is = refl

dead_refuted : (last : Option ℕ) (os : List StageOut) → list_all (is_dead_by last) os ≡ true → list_all is_refuted os ≡ true
dead_refuted last [] is = refl
dead_refuted last (o ∷ os) is =
    let both = both_true (is_dead_by last o) (list_all (is_dead_by last) os) is in
    ap (λ b. b && list_all is_refuted os) (dead_before o.refuted last both.0) ∙ dead_refuted last os both.1

over_passed : (x : Evidence) → is_over x ≡ true → is_passed_by x ≡ true
over_passed x is =
    let both = both_true (is_none x.commit) (list_all (is_dead_by x.undecided) x.stages) is in
    ap (λ b. b && list_all is_refuted x.stages) both.0 ∙ dead_refuted x.undecided x.stages both.1

module _ (k : Known) (t : Txn) where
  -- The stage is behind, or kept among none.
  abbrev IsGone : SentStage → Type 0
  IsGone s = IsBehind k.heard t.write_ts s ⊎ Contains [] s

  on_both : (request : Request) → OnStage t.id (IsDead k.heard) request → OnStage t.id (IsPassed k.heard t.write_ts) request → OnStage t.id IsGone request
  on_both (requests.Stage meta ts now writes locks) dead passed = λ same. inl (record { dead = dead same; passed = passed same })
  on_both request dead passed = tt

  behind_each : (sent : List Sent) → EachStage t.id sent (IsDead k.heard) → EachStage t.id sent (IsPassed k.heard t.write_ts) → EachStage t.id sent IsGone
  behind_each [] dead passed = All-nil (λ m. OnStage t.id IsGone m.request)
  behind_each (m ∷ ms) dead passed =
      All-cons (λ m. OnStage t.id IsGone m.request) m ms
      (on_both m.request (All-head (λ m. OnStage t.id (IsDead k.heard) m.request) m ms dead) (All-head (λ m. OnStage t.id (IsPassed k.heard t.write_ts) m.request) m ms passed))
      (behind_each ms (All-tail (λ m. OnStage t.id (IsDead k.heard) m.request) m ms dead) (All-tail (λ m. OnStage t.id (IsPassed k.heard t.write_ts) m.request) m ms passed))

pub forgets : (k : Known) (stages : List SentStage) (commit : Option SentCommit) (t : Txn) (x : Evidence) → StagingStands k stages commit t x → is_over x ≡ true → StagingStands k [] None t (without_stages x)
forgets k stages commit t x st over =
    let none : commit ≡ None = none_out k stages commit t x st (both_true (is_none x.commit) (list_all (is_dead_by x.undecided) x.stages) over).0 in
    let dead = over_yes k stages commit t x st over in
    let passed = passed_yes k stages commit t x st (over_passed x over) in
    let P : SentCommit → Type 0 = λ c. (None ≡ Some c) ⊎ WasCommitRefused k.heard c in
    record {
      each = behind_each k t k.sent dead.stages passed.stages;
      sent = All-nil (WasStageSent k.sent t.id);
      kept = tt;
      apart = λ s other there also at. absurd (contains_nil s there);
      timely = All-nil (λ s. s.ts ≤ t.write_ts);
      older = λ s other there also below. absurd (contains_nil s there);
      staged_by = tt;
      behind_commit = λ c is. let bad : None ≡ Some c = is in absurd cc;
      reached = st.reached;
      passed = st.passed;
      went_past = st.went_past;
      last_staged = tt;
      last_undecided = st.last_undecided;
      refused = each_commit-more t.id (WasCommitRefused k.heard) P (λ c refused. inr refused) k.sent dead.commits;
      commit_at = st.commit_at ∙ ap (option_map (λ c. c.ts)) none;
      out = tt;
    }
