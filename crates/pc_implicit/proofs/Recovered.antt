-- What a recovery answers committed was committed before it.
use Rattle.std.proofs.Common.{◌≡◌, ℕ, Bool, true, false, if◌then◌else◌, ◌==◌, ◌&&◌, List, [], ◌∷◌, ◌++◌, Option, None, Some, Contains, refl, sym, ap, subst, ◌∙◌}
use Rattle.std.proofs.lemmas.List.Elements.{All-contains}
use Rattle.std.specs.Prelude.{Any}
use Rattle.pc_base.specs.declared.actor.ActorId.{ActorId}
use Rattle.pc_base.specs.declared.entry.Entry.{Entry}
use Rattle.pc_base.specs.declared.transaction.TxnId.{TxnId}
use Rattle.pc_history.specs.History.{MayFollow}
use Rattle.pc_history.specs.Own.{named_in}
use Rattle.pc_implicit.proofs.Because.{commits_by_is}
use Rattle.pc_implicit.proofs.Commits.{committed-view}
use Rattle.pc_implicit.proofs.Doing.{Does}
use Rattle.pc_implicit.proofs.EvaluatedAt.{sent_at}
use Rattle.pc_implicit.proofs.Evals.{of_entry}
use Rattle.pc_implicit.proofs.FoundThere.{found_there, staging_heard}
use Rattle.pc_implicit.proofs.HeardViews.{replied_of, so_of}
use Rattle.pc_implicit.proofs.Homes.{home_commits, home_is}
use Rattle.pc_implicit.proofs.LeavesBy.{ByAbort, ByCommit, ByFound, ByMissing, ByStage, Stages, leaves_by}
use Rattle.pc_implicit.proofs.Metas.{subject_anchored}
use Rattle.pc_implicit.proofs.Presence.{staged_writes_stay}
use Rattle.pc_implicit.proofs.Runs.{reply_is}
use Rattle.pc_implicit.proofs.StagedAs.{staged_along, staged_as}
use Rattle.pc_implicit.proofs.StagesRefuted.{one_staged}
use Rattle.pc_implicit.proofs.StageWords.{CommitsBy, StagesAs}
use Rattle.pc_implicit.proofs.StaysOrRefuted.{replied_along, staging_open}
use Rattle.pc_implicit.specs.Decided.{decision}
use Rattle.pc_implicit.specs.Replied.{WasReplied}
use Rattle.pc_implicit.specs.Stages.{IsOpenTo, WasStaged, WasThere}
use Rattle.pc_implicit.specs.Writes.{home_of}
use Rattle.pc_proto.specs.declared.event.Event.{Event}
use Rattle.pc_proto.specs.declared.event.Event.TheVariants as events
use Rattle.pc_proto.specs.declared.fate.Finding.{Finding}
use Rattle.pc_proto.specs.declared.fate.Finding.TheVariants as findings
use Rattle.pc_proto.specs.declared.record.Record.{Record}
use Rattle.pc_proto.specs.declared.record.Standing.{Standing}
use Rattle.pc_proto.specs.declared.record.Standing.TheVariants as standings
use Rattle.pc_proto.specs.declared.record.Status.{Status}
use Rattle.pc_proto.specs.declared.reply.Reply.{Reply}
use Rattle.pc_proto.specs.declared.reply.Reply.TheVariants as replies
use Rattle.pc_proto.specs.declared.request.Request.{Request}
use Rattle.pc_proto.specs.declared.request.Request.TheVariants as requests
use Rattle.pc_proto.specs.declared.view.View.{View}
use Rattle.pc_proto.specs.declared.view.View.TheVariants as views
use Rattle.pc_proto.specs.declared.why.Why.{Why}
use Rattle.pc_proto.specs.declared.why.Why.TheVariants as whys
use Rattle.pc_proto.specs.Place.{Place, Nothing, Kept, Marked, Stay, after, is_final, status_view, view_of}
use Rattle.pc_proto.specs.RecordRows.{place_change}
use Rattle.pc_proto.specs.RecordRows.Reached.{is_staged_at, is_staging, status_of}
use Rattle.pc_proto.specs.RecordRows.Recover.{decided, recover}
use Rattle.pc_proto.specs.Replies.{view_in}
use Rattle.pc_proto.specs.Requests.{Recovers}
use Rattle.pc_world.proofs.Prefixes.{run_front, run_may}
use Rattle.pc_world.specs.After.{known_at, place_at, state_at}
use Rattle.pc_world.specs.Committed.{IsCommitted}
use Rattle.pc_world.specs.Decisions.{AnswersCommitted}
use Rattle.pc_world.specs.Evaluation.{reply as reply_of}
use Rattle.pc_world.specs.Known.Traffic.{reply_in}
use Rattle.pc_world.specs.Local.{Head}
use Rattle.pc_world.specs.Named.{request_in, request_named}
use Rattle.pc_world.specs.Run.{IsRun, protocol}
use Rattle.pc_world.specs.Send.Recovery.{MaySendRecover, WasFound}
use Rattle.pc_world.specs.StageFate.{SentStage, stage_request}

-- the evaluation that gives a reply
pub replies_what : (event : Event) (reply : Reply) → reply_in event ≡ Some reply → (actor : ActorId) × (number : ℕ) × (event ≡ events.Eval actor number reply)
replies_what (events.Eval actor number told) reply h = let same : told ≡ reply = cc in (actor, number, ap (λ r. events.Eval actor number r) same)
replies_what event reply h = absurd cc

-- a committed view is that of a decision
view-decides : (q : Place) (epoch ts : ℕ) (locks : List (List ℕ)) → view_of q ≡ views.Committed epoch ts locks → decision q ≡ Some (status_of standings.Committed epoch ts)
view-decides Nothing epoch ts locks is = absurd cc
view-decides (Kept r) epoch ts locks is = by r.status.standing refl r.status.epoch refl r.status.ts refl r.writes r.locks is
  where
    by : (standing : Standing) → r.status.standing ≡ standing → (e : ℕ) → r.status.epoch ≡ e → (t : ℕ) → r.status.ts ≡ t → (writes : List (List ℕ × ℕ)) (kept : List (List ℕ))
        → status_view standing e t writes kept ≡ views.Committed epoch ts locks → decision (Kept r) ≡ Some (status_of standings.Committed epoch ts)
    by standings.Committed s e n t m writes kept is =
        let epochs : e ≡ epoch = cc is in
        let times : t ≡ ts = cc is in
        let status : r.status ≡ status_of standings.Committed epoch ts = λ i. record { standing = s i; epoch = (n ∙ epochs) i; ts = (m ∙ times) i } in
        ap (λ x. if is_final x then Some r.status else None) s ∙ ap Some status
    by standings.Staging s e n t m writes kept is = absurd cc
    by standings.Pending s e n t m writes kept is = absurd cc
    by (standings.Aborted why) s e n t m writes kept is = absurd cc
view-decides (Marked s) epoch ts locks is = by s.standing refl s.epoch refl s.ts refl is
  where
    by : (standing : Standing) → s.standing ≡ standing → (e : ℕ) → s.epoch ≡ e → (t : ℕ) → s.ts ≡ t → status_view standing e t [] [] ≡ views.Committed epoch ts locks
        → decision (Marked s) ≡ Some (status_of standings.Committed epoch ts)
    by standings.Committed st e n t m is =
        let epochs : e ≡ epoch = cc is in
        let times : t ≡ ts = cc is in
        let status : s ≡ status_of standings.Committed epoch ts = λ i. record { standing = st i; epoch = (n ∙ epochs) i; ts = (m ∙ times) i } in
        ap Some status
    by standings.Staging st e n t m is = absurd cc
    by standings.Pending st e n t m is = absurd cc
    by (standings.Aborted why) st e n t m is = absurd cc

-- what becomes of a place over a recovery: it stays, or it is a staging record
pub data IsRecovering (id : TxnId) (epoch ts : ℕ) (anchor : List ℕ) (finding : Finding) (p : Place) : Type 0 where
  LeavesIt : after p (place_change (requests.Recover id epoch ts anchor finding) p) ≡ p → IsRecovering id epoch ts anchor finding p
  OfStaging : (r : Record) → p ≡ Kept r → r.status.standing ≡ standings.Staging → IsRecovering id epoch ts anchor finding p

recovering : (id : TxnId) (epoch ts : ℕ) (anchor : List ℕ) (finding : Finding) (p : Place) → IsRecovering id epoch ts anchor finding p
recovering id epoch ts anchor finding Nothing = LeavesIt refl
recovering id epoch ts anchor finding (Kept r) = by (is_staging r.status.standing) refl
  where
    staging-is : (standing : Standing) → is_staging standing ≡ true → standing ≡ standings.Staging
    staging-is standings.Staging is = refl
    staging-is standings.Pending is = absurd cc
    staging-is standings.Committed is = absurd cc
    staging-is (standings.Aborted why) is = absurd cc

    unless : (b : Bool) → is_staged_at (Kept r) epoch ts ≡ false → after (Kept r) (if b then Stay else recover epoch ts finding (Kept r)) ≡ Kept r
    unless true none = refl
    unless false none = ap (λ c. after (Kept r) (if c then decided finding (Kept r) else Stay)) none

    by : (b : Bool) → is_staging r.status.standing ≡ b → IsRecovering id epoch ts anchor finding (Kept r)
    by true is = OfStaging r refl (staging-is r.status.standing is)
    by false is = LeavesIt (unless (is_final r.status.standing) (ap (λ b. b && (r.status.epoch == epoch && r.status.ts == ts)) is))
recovering id epoch ts anchor finding (Marked s) = LeavesIt refl

-- A recovery that found all writes was sent, of a record that stages so.
module _ (head : Head) (before : List (Entry Event)) (run : IsRun head before) (id : TxnId) (r : Record) (home : home_of head id before ≡ Kept r) (staging : r.status.standing ≡ standings.Staging)
    (send : Entry Event) (listed : Contains before send) (number range : ℕ) (anchor : List ℕ)
    (sends : send.event ≡ events.Send number range (requests.Recover id r.status.epoch r.status.ts anchor findings.All)) where
  -- each write was found, so it was present
  found-one : (s : SentStage) → WasStaged before s → IsOpenTo head before s → (front back : List (Entry Event)) → front ++ back ≡ before → IsRun head front → (actor : ActorId) (w : List ℕ × ℕ) → s.meta.id ≡ id → s.meta.epoch ≡ r.status.epoch → s.ts ≡ r.status.ts
      → Any (WasFound id r.status.epoch r.status.ts w) (known_at head actor front).heard → WasThere head before s w
  found-one s sent opened front back joined run_of actor w whose epoch ts (n, h, inside, at, found) =
      let request = requests.Query id r.status.epoch w.1 r.status.ts w.0 found.by in
      let replied : WasReplied before request replies.Found =
      replied_along front back before joined request replies.Found (replied_of head front actor h (so_of head front run_of actor h (n, inside, at)) request replies.Found found.asked found.told) in
      let asks : request ≡ requests.Query s.meta.id s.meta.epoch w.1 s.ts w.0 found.by = λ i. requests.Query (sym whose i) (sym epoch i) w.1 (sym ts i) w.0 found.by in
      found_there head before run s sent opened w (record { by = found.by; replied = subst (λ q. WasReplied before q replies.Found) asks replied })

  -- so its stage commits it
  found_all : (s : SentStage) × CommitsBy head before s × (s.meta.id ≡ id) × (s.ts ≡ r.status.ts)
  found_all =
      let as_sent = staged_as head before run id r home staging in
      let s = as_sent.stage in
      let home_s : home_of head s.meta.id before ≡ Kept r = ap (λ i. home_of head i before) as_sent.whose ∙ home in
      let stages : StagesAs s r = record { staging = staging; epoch_is = sym as_sent.epoch_is; ts_is = sym as_sent.ts_is; writes_are = sym as_sent.writes_are } in
      let opened = staging_open head before s r home_s stages in
      let at = sent_at head before run send listed in
      let joined : at.before ++ (send ∷ at.later) ≡ before = sym at.whole in
      let run_of : IsRun head at.before = run_front head at.before (send ∷ at.later) (subst (IsRun head) at.whole run) in
      let act : Does head send.actor (known_at head send.actor at.before) (events.Send number range (requests.Recover id r.status.epoch r.status.ts anchor findings.All)) =
      subst (Does head send.actor (known_at head send.actor at.before)) sends at.does in
      let row : MaySendRecover send.actor (known_at head send.actor at.before) id r.status.epoch r.status.ts anchor findings.All = act.row in
      let seen = staging_heard head at.before run_of send.actor id r.status.epoch r.status.ts row.writes row.staging in
      let also : WasStaged before seen.stage = subst (λ h. WasStaged h seen.stage) joined (staged_along at.before (send ∷ at.later) seen.stage seen.sent) in
      let one : seen.stage ≡ s =
      one_staged head before run s seen.stage as_sent.sent also (seen.whose ∙ sym as_sent.whose) (seen.epoch_is ∙ sym as_sent.epoch_is) (seen.ts_is ∙ sym as_sent.ts_is) opened in
      let writes : s.writes ≡ row.writes = ap (λ (x : SentStage). x.writes) (sym one) ∙ seen.writes_are in
      let was : (w : List ℕ × ℕ) → Contains s.writes w → WasThere head before s w =
      λ w listed.
      found-one s as_sent.sent opened at.before (send ∷ at.later) joined run_of send.actor w as_sent.whose as_sent.epoch_is as_sent.ts_is
      (All-contains (λ x. Any (WasFound id r.status.epoch r.status.ts x) (known_at head send.actor at.before).heard) row.writes w row.found (subst (λ ws. Contains ws w) writes listed)) in (
        s,
        record { sent = as_sent.sent; r = r; home = home_s; stages = stages; present = staged_writes_stay head before s run opened was },
        as_sent.whose,
        as_sent.ts_is,
      )

-- the request of a recovery
recovers-what : (id : TxnId) (request : Request) → Recovers id request → (epoch ts : ℕ) × (anchor : List ℕ) × (finding : Finding) × (request ≡ requests.Recover id epoch ts anchor finding)
recovers-what id (requests.Recover other epoch ts anchor finding) h = (epoch, ts, anchor, finding, ap (λ i. requests.Recover i epoch ts anchor finding) h)
recovers-what id request h = absurd h

-- two decisions that are one
same-decision : (standing : Standing) (epoch ts at_epoch at : ℕ) → ◌≡◌ {A = Option Status} (Some (status_of standing epoch ts)) (Some (status_of standings.Committed at_epoch at)) → (standing ≡ standings.Committed) × (ts ≡ at)
same-decision standing epoch ts at_epoch at same =
    let one : status_of standing epoch ts ≡ status_of standings.Committed at_epoch at = cc same in
    (ap (λ (s : Status). s.standing) one, ap (λ (s : Status). s.ts) one)

same-recovery : (id other : TxnId) (epoch ts e t : ℕ) (anchor named : List ℕ) (finding found : Finding) → requests.Recover id epoch ts anchor finding ≡ requests.Recover other e t named found → other ≡ id
same-recovery id other epoch ts e t anchor named finding found same = sym (cc same)

module _ (head : Head) (before : List (Entry Event)) (run : IsRun head before) where
  -- what a recovery decides committed was committed
  recovered-staging : (id : TxnId) (epoch ts : ℕ) (anchor : List ℕ) (finding : Finding) (number range : ℕ) (send : Entry Event) → Contains before send
      → send.event ≡ events.Send number range (requests.Recover id epoch ts anchor finding) → (r : Record) → home_of head id before ≡ Kept r → r.status.standing ≡ standings.Staging
      → (at_epoch at : ℕ) → decision (after (Kept r) (place_change (requests.Recover id epoch ts anchor finding) (Kept r))) ≡ Some (status_of standings.Committed at_epoch at) → IsCommitted head before id at
  recovered-staging id epoch ts anchor finding number range send listed sends r home staging at_epoch at decides =
      elim (leaves_by r staging (requests.Recover id epoch ts anchor finding)) [
        | Stages still ↦
            let unfinal : is_final still.now.status.standing ≡ false = ap (λ (x : Status). is_final x.standing) still.same_status ∙ ap is_final staging in
            let none : decision (after (Kept r) (place_change (requests.Recover id epoch ts anchor finding) (Kept r))) ≡ None =
            ap decision still.kept ∙ ap (λ b. if b then Some still.now.status else None) unfinal in
            let both : None ≡ Some (status_of standings.Committed at_epoch at) = sym none ∙ decides in absurd cc
        | ByCommit meta t locks asks epoch_low ts_low so ↦ absurd cc
        | ByAbort meta why locks asks ↦ absurd cc
        | ByStage s asks epoch_low ts_low apart ↦ absurd (no-stage s asks)
        | ByFound other named asks so ↦
            let times = (same-decision standings.Committed r.status.epoch r.status.ts at_epoch at (sym so ∙ decides)).1 in
            let own = same-recovery id other epoch ts r.status.epoch r.status.ts anchor named finding findings.All asks in
            let asked : requests.Recover id epoch ts anchor finding ≡ requests.Recover id r.status.epoch r.status.ts named findings.All = asks ∙ ap (λ i. requests.Recover i r.status.epoch r.status.ts named findings.All) own in
            let found = found_all head before run id r home staging send listed number range named (sends ∙ ap (events.Send number range) asked) in
            let committed = commits_by_is head before found.0 found.1 in
            subst (λ i. IsCommitted head before i at) found.2 (subst (IsCommitted head before found.0.meta.id) (found.3 ∙ times) committed)
        | ByMissing other named key by asks so ↦
            let both : standings.Aborted (whys.Missing key by) ≡ standings.Committed = (same-decision (standings.Aborted (whys.Missing key by)) r.status.epoch r.status.ts at_epoch at (sym so ∙ decides)).0 in
            absurd (not-committed (whys.Missing key by) both)
      ]
    where
      not-committed : (why : Why) → standings.Aborted why ≡ standings.Committed → ⊥
      not-committed why same = absurd cc

      no-stage : (s : SentStage) → requests.Recover id epoch ts anchor finding ≡ stage_request s → ⊥
      no-stage s asks = absurd cc

  answers-so : (id : TxnId) (epoch ts : ℕ) (anchor : List ℕ) (finding : Finding) (number range : ℕ) (send : Entry Event) → Contains before send
      → send.event ≡ events.Send number range (requests.Recover id epoch ts anchor finding) → (at_epoch at : ℕ)
      → decision (after (home_of head id before) (place_change (requests.Recover id epoch ts anchor finding) (home_of head id before))) ≡ Some (status_of standings.Committed at_epoch at)
      → IsCommitted head before id at
  answers-so id epoch ts anchor finding number range send listed sends at_epoch at decides =
      let p = home_of head id before in
      let request = requests.Recover id epoch ts anchor finding in
      elim (recovering id epoch ts anchor finding p) [
        | LeavesIt same ↦ home_commits head id before at_epoch at (ap decision (sym same) ∙ decides)
        | OfStaging r home staging ↦
            recovered-staging id epoch ts anchor finding number range send listed sends r home staging at_epoch at (ap (λ q. decision (after q (place_change request q))) (sym home) ∙ decides)
      ]

  -- what a recovery answers committed was committed before it
  pub recovered_so : (e : Entry Event) → MayFollow (protocol head) before e → (id : TxnId) (ts : ℕ) → AnswersCommitted head before ts (Recovers id) e → IsCommitted head before id ts
  recovered_so e may id ts a =
      let what = replies_what e.event a.reply a.told in
      let ev = of_entry head before e what.0 what.1 a.reply run may what.2 in
      let asked : ev.request ≡ a.request =
      let eq : Some ev.request ≡ Some a.request = sym (ap request_named (ap (named_in (protocol head) before) what.2 ∙ ev.named) ∙ ap request_in ev.sends) ∙ a.asked in cc eq in
      let kind = recovers-what id a.request a.kind in
      let request = requests.Recover id kind.0 kind.1 kind.2 kind.3 in
      let is : ev.request ≡ request = asked ∙ kind.4 in
      let sends : ev.send.event ≡ events.Send what.1 ev.range request = ev.sends ∙ ap (events.Send what.1 ev.range) is in
      let anchored = subject_anchored head before run ev.send ev.listed what.1 ev.range request id sends refl in
      let home : place_at head ev.range id before ≡ home_of head id before = ap (λ r. place_at head r id before) anchored.there ∙ sym (home_is head id before anchored.anchor anchored.anchored) in
      let told : a.reply ≡ reply_of request (state_at head ev.range before) = reply_is head before e what.0 what.1 a.reply may what.2 ev ∙ ap (λ q. reply_of q (state_at head ev.range before)) is in
      let answer_is : a.reply ≡ replies.Status (view_of (after (home_of head id before) (place_change request (home_of head id before)))) =
      told ∙ ap (λ p. replies.Status (view_of (after p (place_change request p)))) home in
      let view = committed-view ts (view_in a.reply) a.shown in
      let shown : Some (view_of (after (home_of head id before) (place_change request (home_of head id before)))) ≡ Some (views.Committed view.0 ts view.1) = sym (ap view_in answer_is) ∙ view.2 in
      answers-so id kind.0 kind.1 kind.2 kind.3 what.1 ev.range ev.send ev.listed sends view.0 ts
      (view-decides (after (home_of head id before) (place_change request (home_of head id before))) view.0 ts view.1 (one-view shown))
    where
      one-view : {x y : View} → ◌≡◌ {A = Option View} (Some x) (Some y) → x ≡ y
      one-view h = cc

pub recoveries_agree : (head : Head) (before : List (Entry Event)) (e : Entry Event) (later : List (Entry Event)) (id : TxnId) (ts : ℕ) → IsRun head (before ++ e ∷ later) → AnswersCommitted head before ts (Recovers id) e
    → IsCommitted head before id ts
recoveries_agree head before e later id ts run a = recovered_so head before (run_front head before (e ∷ later) run) e (run_may head before e later run) id ts a
