-- What is kept once a reply was heard.
use Rattle.std.proofs.Common.{◌≡◌, ℕ, ◌+◌, ◌<◌, ◌≤◌, max, nat_lt, Bool, true, false, ◌&&◌, ◌==◌, not, cond, ◌⊎◌, inl, inr, Option, Some, None, IfSome, List, [], ◌∷◌, ◌++◌, map, filter, refl, sym, ap, ◌∙◌, subst, arith, All, Any, Contains, IsTrue}
use Rattle.std.specs.Option.{option_map, option_map_or}
use Rattle.std.proofs.lemmas.Bool.{eq-eqb, eqb-true, ltb-true}
use Rattle.std.proofs.lemmas.List.Elements.{All-contains, All-cons, All-nil}
use Rattle.pc_base.specs.declared.transaction.TxnId.{TxnId}
use Rattle.pc_base.specs.Transaction.{same_txn}
use Rattle.pc_lists.proofs.Anywhere.{any_last}
use Rattle.pc_lists.proofs.Lists.{all_from_contains, contains_cons, contains_filter, contains_in_filter, contains_nil}
use Rattle.pc_lists.proofs.Same.{same_txn-self}
use Rattle.pc_proto.specs.declared.reply.Reply.{Reply}
use Rattle.pc_proto.specs.declared.reply.Reply.TheVariants as replies
use Rattle.pc_proto.specs.declared.request.Request.{Request}
use Rattle.pc_proto.specs.declared.request.Request.TheVariants as requests
use Rattle.pc_proto.specs.declared.view.View.{View}
use Rattle.pc_proto.specs.declared.view.View.TheVariants as views
use Rattle.pc_proto.specs.Replies.{is_undecided_status, view_in}
use Rattle.pc_proto.specs.Requests.{is_about, is_commit, is_stage_or_commit}
use Rattle.pc_proto.specs.Views.{is_final_view, is_staging_at, undecided_ts}
use Rattle.pc_staging.proofs.Evidenced.{evidence_elsewhere, evidence_on, evidence_step, map_same, ShowsOpen}
use Rattle.pc_staging.proofs.Fates.{one_commit, one_stage, past_behind, same_id}
use Rattle.pc_staging.proofs.Going.{all_late_on, each_on, goes_on, late_on, out_on, passed_on, reached_on, refused_on, reply_proves, sent_on, staged_on, undecided_on, timely_on, went_past_on}
use Rattle.pc_staging.proofs.Steps.{first_on, first_push, last_push}
use Rattle.pc_staging.specs.declared.stage_out.StageOut.{StageOut}
use Rattle.pc_staging.specs.Hearing.{HasGrown, HearsBeat, HearsCommit, HearsMissing, HearsStage, HearsWritten}
use Rattle.pc_staging.specs.Kept.{Evidence, after_commit, after_stage, after_view, later_step, refuted_above, refuted_at, refuted_by, seen_undecided, stages_elsewhere, with_stages, without_stage}
use Rattle.pc_staging.specs.Laws.{SendsNothingNew}
use Rattle.pc_staging.specs.Standing.{AreEvidence, AreRefutedBelow, IsBehind, IsCommitOut, IsEvidenceOf, IsLastStep, IsPastStageBelow, IsRefusedCommitBelow, StagingStands, WasStagedAt, WasStageSent, commit_after, stages_after}
use Rattle.pc_world.specs.Known.{Known}
use Rattle.pc_world.specs.Known.Traffic.{Heard}
use Rattle.pc_world.specs.Known.Transactions.{Txn, has_staged, lists_write, missing_ts, raised_to, txn_heard}
use Rattle.pc_world.specs.StageFate.{IsLate, IsLateByRecord, OnCommit, OnStage, RefutesRecord, RefutesWrite, Refuses, SentCommit, SentStage, WasCommitRefused, commit_request, is_past_stage, is_write_refuted, shows_past, stage_request}
use Rattle.pc_world.specs.Tell.End.{shows_staging}
use Rattle.pc_world.specs.Views.{shows_undecided}

-- Whatever the reply, the request refutes no write of a stage.
abbrev pub TellsNoWrite : Request → Type 0
TellsNoWrite request = (s : SentStage) (reply : Reply) → is_write_refuted s request reply ≡ false

stage_tells : (s : SentStage) → TellsNoWrite (stage_request s)
stage_tells s = λ other reply. refl

commit_tells : (c : SentCommit) → TellsNoWrite (commit_request c)
commit_tells c = λ other reply. refl

-- ---- what a view shows

-- The reply is this view, of the transaction's record.
pub record ShowsView (id : TxnId) (view : View) (h : Heard) : Type 0 where
  pub about : is_about id h.request ≡ true
  pub told : h.reply ≡ replies.Status view

open_is : (id : TxnId) (view : View) (h : Heard) → ShowsView id view h → shows_undecided id h.request h.reply ≡ not (is_final_view view)
open_is id view h v =
    ap (λ reply. is_about id h.request && option_map_or (λ view. not (is_final_view view)) (view_in reply) false) v.told
    ∙ ap (λ b. b && not (is_final_view view)) v.about

shows_open : (id : TxnId) (view : View) (h : Heard) → ShowsView id view h → is_final_view view ≡ false → ShowsOpen id h
shows_open id view h v other = open_is id view h v ∙ ap not other

shows_final : (id : TxnId) (view : View) (h : Heard) → ShowsView id view h → is_final_view view ≡ true → ShowsOpen id h → ⊥
shows_final id view h v final shows =
    let none : shows_undecided id h.request h.reply ≡ false = open_is id view h v ∙ ap not final in
    let is : shows_undecided id h.request h.reply ≡ true = shows in
    absurd cc

-- a stage's view is that it stages, or that its record went another way
pub staged_not_past : (s : SentStage) (view : View) → is_staging_at s.meta.epoch s.ts view ≡ true → is_past_stage s view ≡ true → ⊥
staged_not_past s (views.Staging epoch ts writes) staged past =
    let none : not (epoch == s.meta.epoch && ts == s.ts) ≡ false = ap not staged in absurd cc
staged_not_past s (views.Pending epoch ts) staged past = absurd cc
staged_not_past s views.Nothing staged past = absurd cc
staged_not_past s (views.Committed epoch ts locks) staged past = absurd cc
staged_not_past s (views.Aborted epoch why locks) staged past = absurd cc

elsewhere_past : (s : SentStage) (view : View) → is_final_view view ≡ false → is_staging_at s.meta.epoch s.ts view ≡ false → is_past_stage s view ≡ true
elsewhere_past s (views.Staging epoch ts writes) unfinal other = ap not other
elsewhere_past s (views.Pending epoch ts) unfinal other = refl
elsewhere_past s views.Nothing unfinal other = refl
elsewhere_past s (views.Committed epoch ts locks) unfinal other = absurd cc
elsewhere_past s (views.Aborted epoch why locks) unfinal other = absurd cc

-- The stage is of the transaction, in its epoch.
abbrev pub IsOwnStage : Txn → SentStage → Type 0
IsOwnStage t s = (s.meta.id ≡ t.id) × (s.meta.epoch ≡ t.epoch)

own_all : (heard : List Heard) (t : Txn) (ss : List SentStage) (os : List StageOut) → AreEvidence heard t ss os → All (IsOwnStage t) ss
own_all heard t [] [] e = All-nil (IsOwnStage t)
own_all heard t [] (o ∷ os) e = absurd e
own_all heard t (s ∷ ss) [] e = absurd e
own_all heard t (s ∷ ss) (o ∷ os) e = All-cons (IsOwnStage t) s ss (e.0.whose, e.0.epoch_now) (own_all heard t ss os e.1)

-- the stages that are kept are so
pub own_each : (heard : List Heard) (t : Txn) (ss : List SentStage) (os : List StageOut) → AreEvidence heard t ss os → (s : SentStage) → Contains ss s → IsOwnStage t s
own_each heard t ss os e s there = All-contains (IsOwnStage t) ss s (own_all heard t ss os e) there

-- what is kept of one of the stages
pub evidence_of : (heard : List Heard) (t : Txn) (ss : List SentStage) (os : List StageOut) → AreEvidence heard t ss os → (s : SentStage) → Contains ss s → (o : StageOut) × IsEvidenceOf heard t s o
evidence_of heard t [] os e s there = absurd (contains_nil s there)
evidence_of heard t (y ∷ ss) [] e s there = absurd e
evidence_of heard t (y ∷ ss) (o ∷ os) e s there =
    elim (contains_cons y ss s there) [
      | inl is ↦ (o, subst (λ y. IsEvidenceOf heard t y o) is e.0)
      | inr later ↦ evidence_of heard t ss os e.1 s later
    ]

module _ (k now : Known) (stages : List SentStage) (commit : Option SentCommit) (t : Txn) (x : Evidence) (st : StagingStands k stages commit t x) (h : Heard) (grown : HasGrown k now [] (h ∷ [])) where
  abbrev pub after : Txn
  after = txn_heard k.sent (Some h) t

  rises : t.write_ts ≤ after.write_ts
  rises = let low : t.write_ts ≤ max t.write_ts (raised_to t.id k.sent h.request h.reply) = omega arith in low

  no_write : TellsNoWrite h.request → (s : SentStage) → RefutesWrite s h → ⊥
  no_write quiet s r = let none : is_write_refuted s h.request h.reply ≡ false = quiet s h.reply in let is : is_write_refuted s h.request h.reply ≡ true = r.refuted in absurd cc

  -- a final view leaves all as it is
  pub hears_final : TellsNoWrite h.request → (ShowsOpen t.id h → ⊥) → StagingStands now stages commit after x
  hears_final quiet final =
      let L : Heard → Type 0 = λ h. All (λ s. is_write_refuted s h.request h.reply ≡ false) stages × (ShowsOpen t.id h → ⊥) × AreRefutedBelow t.id after.write_ts h in
      let one : L h = (all_from_contains (λ s. is_write_refuted s h.request h.reply ≡ false) stages (λ s there. quiet s h.reply), final, λ s whose r. absurd (no_write quiet s (record { refuted = r }))) in
      goes_on k now stages commit t after.write_ts x [] (h ∷ []) st grown rises (All-cons L h [] one (All-nil L)) after refl refl
      (inl (refl, reply_proves t.id t.epoch h.request h.reply t.writes)) (All-nil (λ m. SendsNothingNew stages commit t.id m.request))

  module _ (kept : List SentStage) (os : List StageOut) (out : Option SentCommit) (staged at : Option ℕ) (quiet : TellsNoWrite h.request) (shows : ShowsOpen t.id h)
      (drop : (s : SentStage) → Contains stages s → IsLateByRecord (k.heard ++ h ∷ []) s ⊎ Contains kept s) (subset : (s : SentStage) → Contains kept s → Contains stages s) (e : AreEvidence k.heard t kept os)
      (not_past : (s : SentStage) → Contains kept s → RefutesRecord s h → ⊥) (staged_is : IfSome staged (WasStagedAt now.heard t))
      (commits : (c : SentCommit) → commit ≡ Some c → (out ≡ Some c) ⊎ WasCommitRefused (k.heard ++ h ∷ []) c) (at_is : at ≡ option_map (λ c. c.ts) out) (out_is : IfSome out (IsCommitOut now.sent now.heard t.id)) (staged_kept : IfSome staged (λ ts. Any (λ s. s.ts ≡ ts) kept)) (out_old : (c : SentCommit) → out ≡ Some c → commit ≡ Some c) (past : IsRefusedCommitBelow t.id after.write_ts h) (gone : IsPastStageBelow t.id after.write_ts h) where
    -- a view that is not final was heard
    pub hears_open : StagingStands now kept out after (record { stages = os; staged = staged; undecided = Some (later_step x.undecided h.step); commit = at })
    hears_open = record {
      each = each_on k now stages commit t x st [] (h ∷ []) grown after.write_ts rises kept
          (λ s there. elim (drop s there) [ inl past ↦ inl (past_behind (k.heard ++ h ∷ []) after.write_ts s past) | inr on ↦ inr on ])
          (All-nil (λ m. OnStage t.id (λ s. IsBehind (k.heard ++ h ∷ []) after.write_ts s ⊎ Contains kept s) m.request));
      sent = all_from_contains (WasStageSent now.sent t.id) kept
          (λ s there. All-contains (WasStageSent now.sent t.id) stages s (sent_on k now stages commit t x st [] (h ∷ []) grown) (subset s there));
      kept =
          subst (λ hs. AreEvidence hs after kept os) (sym grown.heard)
          (subst (λ os. AreEvidence (k.heard ++ h ∷ []) after kept os) (map_same os)
          (evidence_on k.heard (h ∷ []) t after (λ o. o) kept os
          (λ s o there e.
          evidence_step k.heard (h ∷ []) t after s o o e refl refl (reply_proves t.id t.epoch h.request h.reply t.writes) refl
          (first_on (RefutesWrite s) o.refuted k.heard (h ∷ []) e.first_refuted (All-cons (λ h. RefutesWrite s h → ⊥) h [] (no_write quiet s) (All-nil (λ h. RefutesWrite s h → ⊥))))
          (All-cons (λ h. RefutesRecord s h → ⊥) h [] (not_past s there) (All-nil (λ h. RefutesRecord s h → ⊥))))
          e));
      apart = λ s other there also is. st.apart s other (subset s there) (subset other also) is;
      timely = all_from_contains (λ s. s.ts ≤ after.write_ts) kept (λ s there. All-contains (λ s. s.ts ≤ after.write_ts) stages s (timely_on k now stages commit t x st [] (h ∷ []) grown after.write_ts rises) (subset s there));
      older = λ s other there also below. late_on k now stages commit t x st [] (h ∷ []) grown s (st.older s other (subset s there) (subset other also) below);
      staged_by = staged_kept;
      behind_commit = λ c is.
          all_from_contains (IsLate now.heard) kept (λ s there. All-contains (IsLate now.heard) stages s (all_late_on k now stages commit t x st [] (h ∷ []) grown c (out_old c is)) (subset s there));
      reached = reached_on k now stages commit t x st [] (h ∷ []) grown after.write_ts rises
          (All-cons (AreRefutedBelow t.id after.write_ts) h [] (λ s whose r. absurd (no_write quiet s (record { refuted = r }))) (All-nil (AreRefutedBelow t.id after.write_ts)));
      last_staged = staged_as staged staged_is;
      last_undecided = subst (λ hs. IsLastStep (ShowsOpen t.id) hs (Some (later_step x.undecided h.step))) (sym grown.heard) (last_push (ShowsOpen t.id) x.undecided k.heard h st.last_undecided shows);
      refused = refused_on k now stages commit t x st [] (h ∷ []) grown out commits (All-nil (λ m. OnCommit t.id (λ c. (out ≡ Some c) ⊎ WasCommitRefused (k.heard ++ h ∷ []) c) m.request));
      passed = passed_on k now stages commit t x st [] (h ∷ []) grown after.write_ts rises (All-cons (IsRefusedCommitBelow t.id after.write_ts) h [] past (All-nil (IsRefusedCommitBelow t.id after.write_ts)));
      went_past = went_past_on k now stages commit t x st [] (h ∷ []) grown after.write_ts rises (All-cons (IsPastStageBelow t.id after.write_ts) h [] gone (All-nil (IsPastStageBelow t.id after.write_ts)));
      commit_at = at_is;
      out = out_is;
    }
      where
        staged_as : (o : Option ℕ) → IfSome o (WasStagedAt now.heard t) → IfSome o (WasStagedAt now.heard after)
        staged_as None w = tt
        staged_as (Some ts) w = w

  -- ---- a stage was told a view

  abbrev pub with_view : Evidence
  with_view = seen_undecided h.step x

  module _ (s : SentStage) (view : View) (there : Contains stages s) (hears : HearsStage k now s view h) where
    own : (s.meta.id ≡ t.id) × (s.meta.epoch ≡ t.epoch)
    own = own_each k.heard t stages x.stages st.kept s there

    quiet_stage : TellsNoWrite h.request
    quiet_stage = subst TellsNoWrite (sym hears.asked) (stage_tells s)

    stage_view : ShowsView t.id view h
    stage_view = record { about = ap (is_about t.id) hears.asked ∙ same_id s.meta.id t.id own.0; told = hears.told }

    shown_past : (y : SentStage) → RefutesRecord y h → (y ≡ s) × (is_past_stage s view ≡ true)
    shown_past y r =
        let same : y ≡ s = one_stage y s (sym r.asked ∙ hears.asked) in
        let past : shows_past y h.reply ≡ true = r.past in
        (same, sym (ap (λ z. is_past_stage z view) same) ∙ sym (ap (shows_past y) hears.told) ∙ past)

    no_refusal : (c : SentCommit) → commit ≡ Some c → All (λ g. Refuses c g → ⊥) (h ∷ [])
    no_refusal c is =
        All-cons (λ g. Refuses c g → ⊥) h []
        (λ r. let same : stage_request s ≡ commit_request c = sym hears.asked ∙ r.asked in let bad : false ≡ true = ap is_commit same in absurd cc)
        (All-nil (λ g. Refuses c g → ⊥))

    refuses_none : IsRefusedCommitBelow t.id after.write_ts h
    refuses_none c whose r = let same : stage_request s ≡ commit_request c = sym hears.asked ∙ r.asked in let bad : false ≡ true = ap is_commit same in absurd cc

    -- where its record went another way, the write timestamp rises to where that stands, above it
    gone_below : is_past_stage s view ≡ true → IsPastStageBelow t.id after.write_ts h
    gone_below past y whose r =
        let at : y.ts ≡ s.ts = ap (λ (z : SentStage). z.ts) (shown_past y r).0 in
        let low : s.ts < undecided_ts view = hears.past past in
        let up : raised_to t.id k.sent h.request h.reply ≡ undecided_ts view =
        ap (λ r. raised_to t.id k.sent r h.reply) hears.asked ∙ ap (λ p. raised_to t.id k.sent (stage_request s) p) hears.told
        ∙ ap (λ b. cond b (undecided_ts view) 0) (same_id s.meta.id t.id own.0) in
        let goal : y.ts < max t.write_ts (raised_to t.id k.sent h.request h.reply) = omega (arith, at, low, up) in
        goal

    abbrev P : SentStage → Bool
    P y = not (y.ts == s.ts)

    staged_here : is_staging_at t.epoch s.ts view ≡ true → WasStagedAt now.heard t s.ts
    staged_here staging =
        subst (λ hs. WasStagedAt hs t s.ts) (sym grown.heard)
        (any_last (λ g. IsTrue (shows_staging t.id t.epoch s.ts g)) k.heard h
        (ap (λ reply. is_about t.id h.request && option_map_or (is_staging_at t.epoch s.ts) (view_in reply) false) hears.told
        ∙ ap (λ b. b && is_staging_at t.epoch s.ts view) stage_view.about ∙ staging))

    abbrev Result : Bool → Bool → Type 0
    Result final staging =
        StagingStands now (cond final stages (cond staging stages (filter P stages))) commit after
        (cond final x (cond staging (record with_view { staged = Some s.ts }) (without_stage s.ts with_view)))

    by_view : (final staging : Bool) → is_final_view view ≡ final → is_staging_at t.epoch s.ts view ≡ staging → Result final staging
    by_view true staging final is = hears_final quiet_stage (shows_final t.id view h stage_view final)
    by_view false true unfinal staging =
        hears_open stages x.stages commit (Some s.ts) x.commit quiet_stage (shows_open t.id view h stage_view unfinal) (λ y on. inr on) (λ y on. on) st.kept
        (λ y on r.
        let p = shown_past y r in
        staged_not_past s view (ap (λ epoch. is_staging_at epoch s.ts view) own.1 ∙ staging) p.1)
        (staged_here staging) (λ c is. inl is) st.commit_at (out_on k now stages commit t x st [] (h ∷ []) grown no_refusal) (let (n, inside, at) = there in (n, s, inside, at, refl)) (λ c is. is) refuses_none
        (λ y whose r. absurd (staged_not_past s view (ap (λ epoch. is_staging_at epoch s.ts view) own.1 ∙ staging) (shown_past y r).1))
    by_view false false unfinal other =
        let past : is_past_stage s view ≡ true = elsewhere_past s view unfinal (ap (λ epoch. is_staging_at epoch s.ts view) own.1 ∙ other) in
        let late : IsLateByRecord (k.heard ++ h ∷ []) s = any_last (RefutesRecord s) k.heard h (record { asked = hears.asked; past = ap (shows_past s) hears.told ∙ past }) in
        hears_open (filter P stages) (stages_elsewhere s.ts x.stages) commit None x.commit quiet_stage (shows_open t.id view h stage_view unfinal)
        (λ y on. dropped late y on (y.ts == s.ts) refl)
        (λ y on. (contains_filter P stages y on).0)
        (evidence_elsewhere k.heard t s.ts stages x.stages st.kept)
        (λ y on r.
        let same = (shown_past y r).0 in
        let away : not (y.ts == s.ts) ≡ true = (contains_filter P stages y on).1 in
        let here : (y.ts == s.ts) ≡ true = eq-eqb y.ts s.ts (ap (λ z. z.ts) same) in
        absurd cc)
        tt (λ c is. inl is) st.commit_at (out_on k now stages commit t x st [] (h ∷ []) grown no_refusal) tt (λ c is. is) refuses_none (gone_below past)
      where
        dropped : IsLateByRecord (k.heard ++ h ∷ []) s → (y : SentStage) → Contains stages y → (b : Bool) → (y.ts == s.ts) ≡ b → IsLateByRecord (k.heard ++ h ∷ []) y ⊎ Contains (filter P stages) y
        dropped late y on true is =
            let same : s ≡ y = st.apart s y there on (sym (eqb-true y.ts s.ts is)) in inl (subst (IsLateByRecord (k.heard ++ h ∷ [])) same late)
        dropped late y on false is = inr (contains_in_filter P stages y on (ap not is))

    stage_told : StagingStands now (stages_after t.epoch s.ts view stages) commit after (after_stage t.epoch s.ts h.step view x)
    stage_told = by_view (is_final_view view) (is_staging_at t.epoch s.ts view) refl refl

    pub stage_heard : (epoch ts step : ℕ) (made : Evidence) → s.ts ≡ ts → t.epoch ≡ epoch → h.step ≡ step → made ≡ after_stage epoch ts step view x → StagingStands now (stages_after epoch ts view stages) commit after made
    stage_heard epoch ts step made at_ts at_epoch at_step is =
        let one = subst (λ (n : ℕ). StagingStands now (stages_after t.epoch n view stages) commit after (after_stage t.epoch n h.step view x)) at_ts stage_told in
        let two = subst (λ (n : ℕ). StagingStands now (stages_after n ts view stages) commit after (after_stage n ts h.step view x)) at_epoch one in
        let three = subst (λ (n : ℕ). StagingStands now (stages_after epoch ts view stages) commit after (after_stage epoch ts n view x)) at_step two in
        subst (λ (e : Evidence). StagingStands now (stages_after epoch ts view stages) commit after e) (sym is) three

  -- ---- a heartbeat was told a view

  module _ (view : View) (hears : HearsBeat k now t view h) where
    abbrev beat : Request
    beat = requests.Beat hears.meta hears.ts hears.reading

    quiet_beat : TellsNoWrite h.request
    quiet_beat = subst TellsNoWrite (sym hears.asked) (λ s reply. refl)

    beat_view : ShowsView t.id view h
    beat_view = record { about = ap (is_about t.id) hears.asked ∙ same_id hears.meta.id t.id hears.whose; told = hears.told }

    beat_decides : is_stage_or_commit h.request ≡ false
    beat_decides = ap is_stage_or_commit hears.asked

    by_beat : (final : Bool) → is_final_view view ≡ final → StagingStands now stages commit after (cond final x (seen_undecided h.step x))
    by_beat true final = hears_final quiet_beat (shows_final t.id view h beat_view final)
    by_beat false unfinal =
        hears_open stages x.stages commit x.staged x.commit quiet_beat (shows_open t.id view h beat_view unfinal) (λ y on. inr on) (λ y on. on) st.kept
        (λ y on r. let bad : is_stage_or_commit h.request ≡ true = ap is_stage_or_commit r.asked in let none = beat_decides in absurd cc)
        (staged_on k now stages commit t x st [] (h ∷ []) grown x.staged st.last_staged)
        (λ c is. inl is) st.commit_at
        (out_on k now stages commit t x st [] (h ∷ []) grown
        (λ c is. All-cons (λ g. Refuses c g → ⊥) h [] (λ r. let bad : is_stage_or_commit h.request ≡ true = ap is_stage_or_commit r.asked in let none = beat_decides in absurd cc) (All-nil (λ g. Refuses c g → ⊥))))
        st.staged_by (λ c is. is)
        (λ c whose r. let bad : is_stage_or_commit h.request ≡ true = ap is_stage_or_commit r.asked in let none = beat_decides in absurd cc)
        (λ s whose r. let bad : is_stage_or_commit h.request ≡ true = ap is_stage_or_commit r.asked in let none = beat_decides in absurd cc)

    pub beat_heard : (step : ℕ) (made : Evidence) → h.step ≡ step → made ≡ after_view step view x → StagingStands now stages commit after made
    beat_heard step made at is =
        subst (λ (e : Evidence). StagingStands now stages commit after e) (ap (λ n. after_view n view x) at ∙ sym is) (by_beat (is_final_view view) refl)

-- ---- the commit was told a view

module _ (k now : Known) (stages : List SentStage) (t : Txn) (x : Evidence) (c : SentCommit) (st : StagingStands k stages (Some c) t x) (h : Heard) (view : View) (hears : HearsCommit k now c view h) where
  abbrev then : Txn
  then = txn_heard k.sent (Some h) t

  quiet_commit : TellsNoWrite h.request
  quiet_commit = subst TellsNoWrite (sym hears.asked) (commit_tells c)

  commit_view : ShowsView t.id view h
  commit_view = record { about = ap (is_about t.id) hears.asked ∙ same_id c.meta.id t.id st.out.whose; told = hears.told }

  is_no_stage : (s : SentStage) → RefutesRecord s h → ⊥
  is_no_stage s r = let same : commit_request c ≡ stage_request s = sym hears.asked ∙ r.asked in let bad : true ≡ false = ap is_commit same in absurd cc

  -- the write timestamp rises to where the record stands, above the commit
  below_now : is_final_view view ≡ false → IsRefusedCommitBelow t.id then.write_ts h
  below_now unfinal d whose r =
      let same : commit_request c ≡ commit_request d = sym hears.asked ∙ r.asked in
      let at : c.ts ≡ d.ts = ap (λ (q : SentCommit). q.ts) (one_commit c d same) in
      let low : c.ts < undecided_ts view = hears.past unfinal in
      let up : raised_to t.id k.sent h.request h.reply ≡ undecided_ts view =
      ap (λ r. raised_to t.id k.sent r h.reply) hears.asked ∙ ap (λ p. raised_to t.id k.sent (commit_request c) p) hears.told
      ∙ ap (λ b. cond b (undecided_ts view) 0) (same_id c.meta.id t.id st.out.whose) in
      let goal : d.ts < max t.write_ts (raised_to t.id k.sent h.request h.reply) = omega (arith, at, low, up) in
      goal

  by_commit : (final : Bool) → is_final_view view ≡ final → StagingStands now stages (cond final (Some c) None) then (cond final x (record (seen_undecided h.step x) { commit = None }))
  by_commit true final = hears_final k now stages (Some c) t x st h hears.grown quiet_commit (shows_final t.id view h commit_view final)
  by_commit false unfinal =
      hears_open k now stages (Some c) t x st h hears.grown stages x.stages None x.staged None quiet_commit (shows_open t.id view h commit_view unfinal) (λ y on. inr on) (λ y on. on) st.kept (λ y on r. is_no_stage y r)
      (staged_on k now stages (Some c) t x st [] (h ∷ []) hears.grown x.staged st.last_staged)
      (λ d is.
      let same : c ≡ d = cc is in
      inr (any_last (Refuses d) k.heard h
      (record {
        asked = hears.asked ∙ ap commit_request same;
        unsettled = ap is_undecided_status hears.told ∙ ap not unfinal;
      })))
      refl tt st.staged_by (λ d is. let bad : None ≡ Some d = is in absurd cc) (below_now unfinal) (λ s whose r. absurd (is_no_stage s r))

  -- it was refused
  pub commit_refused : is_final_view view ≡ false → (step : ℕ) → h.step ≡ step → StagingStands now stages None then (record (seen_undecided step x) { commit = None })
  commit_refused unfinal step at = subst (λ (n : ℕ). StagingStands now stages None then (record (seen_undecided n x) { commit = None })) at (by_commit false unfinal)

  pub commit_heard : (step : ℕ) (made : Evidence) → h.step ≡ step → made ≡ after_commit step view x → StagingStands now stages (commit_after view c) then made
  commit_heard step made at is =
      subst (λ (e : Evidence). StagingStands now stages (commit_after view c) then e) (ap (λ n. after_commit n view x) at ∙ sym is) (by_commit (is_final_view view) refl)

-- ---- a write was heard of

all_hold : (a b l n : Bool) → a ≡ true → b ≡ true → l ≡ true → (a && b && (l && n)) ≡ n
all_hold true true true n a b l = refl
all_hold false b l n a is on = absurd cc
all_hold true false l n a is on = absurd cc
all_hold true true false n a is on = absurd cc

last_holds : (a b l n : Bool) → (a && b && (l && n)) ≡ true → n ≡ true
last_holds true true true n is = is
last_holds false b l n is = absurd cc
last_holds true false l n is = absurd cc
last_holds true true false n is = absurd cc

third_holds : (a b l n : Bool) → (a && b && (l && n)) ≡ true → l ≡ true
third_holds true true true n is = refl
third_holds false b l n is = absurd cc
third_holds true false l n is = absurd cc
third_holds true true false n is = absurd cc

swap_last : (a b l n : Bool) → a ≡ true → b ≡ true → l ≡ true → (a && b && (n && l)) ≡ n
swap_last true true true true a b l = refl
swap_last true true true false a b l = refl
swap_last false b l n a is on = absurd cc
swap_last true false l n a is on = absurd cc
swap_last true true false n a is on = absurd cc

module _ (k now : Known) (stages : List SentStage) (commit : Option SentCommit) (t : Txn) (x : Evidence) (st : StagingStands k stages commit t x) (h : Heard) (grown : HasGrown k now [] (h ∷ [])) (test : ℕ → Bool)
    (refutes : (s : SentStage) (o : StageOut) → Contains stages s → IsEvidenceOf k.heard t s o → is_write_refuted s h.request h.reply ≡ test o.ts) (unseen : shows_undecided t.id h.request h.reply ≡ false)
    (decides : is_stage_or_commit h.request ≡ false) (below : AreRefutedBelow t.id (txn_heard k.sent (Some h) t).write_ts h) where
  abbrev since : Txn
  since = txn_heard k.sent (Some h) t

  no_earlier : t.write_ts ≤ since.write_ts
  no_earlier = let low : t.write_ts ≤ max t.write_ts (raised_to t.id k.sent h.request h.reply) = omega arith in low

  -- What is kept of a stage after it.
  abbrev pub refuted_if : StageOut → StageOut
  refuted_if o = cond (test o.ts) (refuted_by h.step o) o

  no_record : (s : SentStage) → All (λ g. RefutesRecord s g → ⊥) (h ∷ [])
  no_record s =
      All-cons (λ g. RefutesRecord s g → ⊥) h []
      (λ r. let bad : is_stage_or_commit h.request ≡ true = ap is_stage_or_commit r.asked in let none = decides in absurd cc)
      (All-nil (λ g. RefutesRecord s g → ⊥))

  one_kept : (s : SentStage) (o : StageOut) → Contains stages s → IsEvidenceOf k.heard t s o → IsEvidenceOf (k.heard ++ h ∷ []) since s (refuted_if o)
  one_kept s o there e = by (test o.ts) refl
    where
      by : (b : Bool) → test o.ts ≡ b → IsEvidenceOf (k.heard ++ h ∷ []) since s (cond b (refuted_by h.step o) o)
      by true is =
          evidence_step k.heard (h ∷ []) t since s o (refuted_by h.step o) e refl refl (reply_proves t.id t.epoch h.request h.reply t.writes) refl
          (first_push (RefutesWrite s) o.refuted k.heard h e.first_refuted (record { refuted = refutes s o there e ∙ is })) (no_record s)
      by false is =
          evidence_step k.heard (h ∷ []) t since s o o e refl refl (reply_proves t.id t.epoch h.request h.reply t.writes) refl
          (first_on (RefutesWrite s) o.refuted k.heard (h ∷ []) e.first_refuted
          (All-cons (λ g. RefutesWrite s g → ⊥) h []
          (λ r. let none : is_write_refuted s h.request h.reply ≡ false = refutes s o there e ∙ is in let so : is_write_refuted s h.request h.reply ≡ true = r.refuted in absurd cc)
          (All-nil (λ g. RefutesWrite s g → ⊥))))
          (no_record s)

  pub write_heard : StagingStands now stages commit since (with_stages (map refuted_if x.stages) x)
  write_heard = record {
    each = each_on k now stages commit t x st [] (h ∷ []) grown since.write_ts no_earlier stages (λ s there. inr there)
        (All-nil (λ m. OnStage t.id (λ s. IsBehind (k.heard ++ h ∷ []) since.write_ts s ⊎ Contains stages s) m.request));
    sent = sent_on k now stages commit t x st [] (h ∷ []) grown;
    kept = subst (λ hs. AreEvidence hs since stages (map refuted_if x.stages)) (sym grown.heard) (evidence_on k.heard (h ∷ []) t since refuted_if stages x.stages one_kept st.kept);
    apart = st.apart;
    timely = timely_on k now stages commit t x st [] (h ∷ []) grown since.write_ts no_earlier;
    older = λ s other there also low. late_on k now stages commit t x st [] (h ∷ []) grown s (st.older s other there also low);
    staged_by = st.staged_by;
    behind_commit = all_late_on k now stages commit t x st [] (h ∷ []) grown;
    reached = reached_on k now stages commit t x st [] (h ∷ []) grown since.write_ts no_earlier (All-cons (AreRefutedBelow t.id since.write_ts) h [] below (All-nil (AreRefutedBelow t.id since.write_ts)));
    last_staged = staged_as x.staged (staged_on k now stages commit t x st [] (h ∷ []) grown x.staged st.last_staged);
    last_undecided = undecided_on k now stages commit t x st [] (h ∷ []) grown
        (All-cons (λ g. ShowsOpen t.id g → ⊥) h [] (λ shows. let is : shows_undecided t.id h.request h.reply ≡ true = shows in let none = unseen in absurd cc) (All-nil (λ g. ShowsOpen t.id g → ⊥)))
        x.undecided st.last_undecided;
    refused = refused_on k now stages commit t x st [] (h ∷ []) grown commit (λ c is. inl is) (All-nil (λ m. OnCommit t.id (λ c. (commit ≡ Some c) ⊎ WasCommitRefused (k.heard ++ h ∷ []) c) m.request));
    passed = passed_on k now stages commit t x st [] (h ∷ []) grown since.write_ts no_earlier
        (All-cons (IsRefusedCommitBelow t.id since.write_ts) h []
        (λ c whose r. let bad : is_stage_or_commit h.request ≡ true = ap is_stage_or_commit r.asked in let none = decides in absurd cc)
        (All-nil (IsRefusedCommitBelow t.id since.write_ts)));
    went_past = went_past_on k now stages commit t x st [] (h ∷ []) grown since.write_ts no_earlier
        (All-cons (IsPastStageBelow t.id since.write_ts) h []
        (λ s whose r. let bad : is_stage_or_commit h.request ≡ true = ap is_stage_or_commit r.asked in let none = decides in absurd cc)
        (All-nil (IsPastStageBelow t.id since.write_ts)));
    commit_at = st.commit_at;
    out = out_on k now stages commit t x st [] (h ∷ []) grown
        (λ c is.
        All-cons (λ g. Refuses c g → ⊥) h [] (λ r. let bad : is_stage_or_commit h.request ≡ true = ap is_stage_or_commit r.asked in let none = decides in absurd cc)
        (All-nil (λ g. Refuses c g → ⊥)));
  }
    where
      staged_as : (o : Option ℕ) → IfSome o (WasStagedAt now.heard t) → IfSome o (WasStagedAt now.heard since)
      staged_as None w = tt
      staged_as (Some ts) w = w

module _ (k now : Known) (stages : List SentStage) (commit : Option SentCommit) (t : Txn) (x : Evidence) (st : StagingStands k stages commit t x) (h : Heard) where
  same_epoch : (one other : ℕ) → one ≡ other → (one == other) ≡ true
  same_epoch one other is = eq-eqb one other is

  module _ (ts : ℕ) (w : HearsWritten k now t ts h) where
    abbrev put : Request
    put = requests.Put w.meta w.seq w.sent_at w.key w.value

    said_put : (s : SentStage) → is_write_refuted s h.request h.reply ≡ is_write_refuted s put (replies.Written ts)
    said_put s = ap (λ r. is_write_refuted s r h.reply) w.asked ∙ ap (λ p. is_write_refuted s put p) w.told

    put_refutes : (s : SentStage) (o : StageOut) → Contains stages s → IsEvidenceOf k.heard t s o → is_write_refuted s h.request h.reply ≡ nat_lt o.ts ts
    put_refutes s o there e =
        said_put s
        ∙ all_hold (same_txn w.meta.id s.meta.id) (w.meta.epoch == s.meta.epoch) (lists_write w.key w.seq s.writes) (nat_lt s.ts ts) (same_id w.meta.id s.meta.id (w.whose ∙ sym e.whose))
        (same_epoch w.meta.epoch s.meta.epoch (w.epoch_now ∙ sym e.epoch_now)) (e.lists w.key w.seq w.waiting)
        ∙ ap (λ n. nat_lt n ts) (sym e.at)

    -- a stage that is kept is refuted exactly where the write was written above it
    pub refutes_above : (s : SentStage) → Contains stages s → is_write_refuted s h.request h.reply ≡ nat_lt s.ts ts
    refutes_above s there = let e = evidence_of k.heard t stages x.stages st.kept s there in put_refutes s e.0 there e.1 ∙ ap (λ n. nat_lt n ts) e.1.at

    put_raises : raised_to t.id k.sent h.request h.reply ≡ ts
    put_raises =
        ap (λ r. raised_to t.id k.sent r h.reply) w.asked ∙ ap (λ p. raised_to t.id k.sent put p) w.told
        ∙ ap (λ b. cond b ts 0) (same_id w.meta.id t.id w.whose)

    put_below : AreRefutedBelow t.id (txn_heard k.sent (Some h) t).write_ts h
    put_below s whose r =
        let is : is_write_refuted s h.request h.reply ≡ true = r in
        let lt = last_holds (same_txn w.meta.id s.meta.id) (w.meta.epoch == s.meta.epoch) (lists_write w.key w.seq s.writes) (nat_lt s.ts ts) (sym (said_put s) ∙ is) in
        let low : s.ts < ts = ltb-true s.ts ts lt in
        let up : raised_to t.id k.sent h.request h.reply ≡ ts = put_raises in
        let goal : s.ts < max t.write_ts (raised_to t.id k.sent h.request h.reply) = omega (arith, low, up) in
        goal

    pub written_heard : StagingStands now stages commit (txn_heard k.sent (Some h) t) (with_stages (map (refuted_above ts h.step) x.stages) x)
    written_heard =
        write_heard k now stages commit t x st h w.grown (λ at. nat_lt at ts) put_refutes (ap (λ r. shows_undecided t.id r h.reply) w.asked) (ap is_stage_or_commit w.asked) put_below

  turn : (a b : ℕ) → (a == b) ≡ (b == a)
  turn a b = by (a == b) refl (b == a) refl
    where
      by : (p : Bool) → (a == b) ≡ p → (q : Bool) → (b == a) ≡ q → (a == b) ≡ (b == a)
      by true is true also = is ∙ sym also
      by false is false also = is ∙ sym also
      by true is false also = let so : (b == a) ≡ true = eq-eqb b a (sym (eqb-true a b is)) in absurd cc
      by false is true also = let so : (a == b) ≡ true = eq-eqb a b (sym (eqb-true b a also)) in absurd cc

  module _ (ts : ℕ) (w : HearsMissing k now t ts h) where
    abbrev query : Request
    query = requests.Query t.id t.epoch w.seq ts w.key w.by

    said_query : (s : SentStage) → is_write_refuted s h.request h.reply ≡ is_write_refuted s query replies.Missing
    said_query s = ap (λ r. is_write_refuted s r h.reply) w.asked ∙ ap (λ p. is_write_refuted s query p) w.told

    query_refutes : (s : SentStage) (o : StageOut) → Contains stages s → IsEvidenceOf k.heard t s o → is_write_refuted s h.request h.reply ≡ (o.ts == ts)
    query_refutes s o there e =
        said_query s
        ∙ swap_last (same_txn t.id s.meta.id) (t.epoch == s.meta.epoch) (lists_write w.key w.seq s.writes) (ts == s.ts) (same_id t.id s.meta.id (sym e.whose)) (same_epoch t.epoch s.meta.epoch (sym e.epoch_now))
        (e.lists w.key w.seq w.waiting)
        ∙ turn ts s.ts ∙ ap (λ n. n == ts) (sym e.at)

    -- a stage that is kept is refuted exactly where the query was at its timestamp
    pub refutes_at : (s : SentStage) → Contains stages s → is_write_refuted s h.request h.reply ≡ (s.ts == ts)
    refutes_at s there = let e = evidence_of k.heard t stages x.stages st.kept s there in query_refutes s e.0 there e.1 ∙ ap (λ n. n == ts) e.1.at

    query_raises : raised_to t.id k.sent h.request h.reply ≡ ts + 1
    query_raises =
        ap (λ r. raised_to t.id k.sent r h.reply) w.asked ∙ ap (λ p. raised_to t.id k.sent query p) w.told
        ∙ ap (λ b. cond b (missing_ts (has_staged k.sent t.id t.epoch ts w.key w.seq) ts replies.Missing) 0) (same_txn-self t.id)
        ∙ ap (λ b. cond b (ts + 1) 0) w.staged

    query_below : AreRefutedBelow t.id (txn_heard k.sent (Some h) t).write_ts h
    query_below s whose r =
        let is : is_write_refuted s h.request h.reply ≡ true = r in
        let same = third_holds (same_txn t.id s.meta.id) (t.epoch == s.meta.epoch) (ts == s.ts) (lists_write w.key w.seq s.writes) (sym (said_query s) ∙ is) in
        let at : ts ≡ s.ts = eqb-true ts s.ts same in
        let up : raised_to t.id k.sent h.request h.reply ≡ ts + 1 = query_raises in
        let goal : s.ts < max t.write_ts (raised_to t.id k.sent h.request h.reply) = omega (arith, at, up) in
        goal

    pub missing_heard : StagingStands now stages commit (txn_heard k.sent (Some h) t) (with_stages (map (refuted_at ts h.step) x.stages) x)
    missing_heard =
        write_heard k now stages commit t x st h w.grown (λ at. at == ts) query_refutes (ap (λ r. shows_undecided t.id r h.reply) w.asked) (ap is_stage_or_commit w.asked) query_below
