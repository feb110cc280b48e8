-- What never commits, and what is not committed yet.
use Rattle.std.proofs.Common.{◌≡◌, ℕ, ◌+◌, Bool, true, false, if◌then◌else◌, inl, inr, List, [], ◌∷◌, ◌++◌, Option, None, Some, IsTrue, refl, sym, ap, subst, ◌∙◌, arith}
use Rattle.std.proofs.lemmas.List.{append_assoc}
use Rattle.std.specs.Option.{option_or}
use Rattle.pc_base.specs.declared.actor.ActorId.{ActorId}
use Rattle.pc_base.specs.declared.actor.ActorId.TheVariants as actors
use Rattle.pc_base.specs.declared.entry.Entry.{Entry}
use Rattle.pc_base.specs.declared.transaction.TxnId.{TxnId}
use Rattle.pc_base.specs.Transaction.{same_txn}
use Rattle.pc_history.specs.History.{MayFollow}
use Rattle.pc_implicit.proofs.Agreed.{agreed, begun_next, committed_row, open_there, owned}
use Rattle.pc_implicit.proofs.Because.{because}
use Rattle.pc_implicit.proofs.Commits.{act_of}
use Rattle.pc_implicit.proofs.CommitsStay.{commits_stay, goes_along}
use Rattle.pc_implicit.proofs.Did.{numbered-at, session_at}
use Rattle.pc_implicit.proofs.Doing.{Does, same_or_not, told_by_row}
use Rattle.pc_implicit.proofs.Firsts.{first_push}
use Rattle.pc_implicit.proofs.Forward.{Has, has_more}
use Rattle.pc_implicit.proofs.HeardViews.{so_of, view_is_so}
use Rattle.pc_implicit.proofs.Homes.{home_along, home_is}
use Rattle.pc_implicit.proofs.KnownOver.{IsKnownOver}
use Rattle.pc_implicit.proofs.Metas.{place_anchored}
use Rattle.pc_implicit.proofs.Moves.{open_is_first}
use Rattle.pc_implicit.proofs.NotDead.{not_dead}
use Rattle.pc_implicit.proofs.OpenOver.{IsOpenHere, is-commit, open_over, open_untold, opens, over-told, over-unsent, over_on}
use Rattle.pc_implicit.proofs.Settled.{settled}
use Rattle.pc_implicit.proofs.SettledOn.{settled_not_over}
use Rattle.pc_implicit.proofs.StagesSent.{has_sent_stage}
use Rattle.pc_implicit.proofs.StagesKnown.{HasSent}
use Rattle.pc_implicit.proofs.StaysOrRefuted.{staging_open}
use Rattle.pc_implicit.proofs.StageWords.{ByDecision, ByStaging, ByTelling}
use Rattle.pc_implicit.specs.Decided.{StaysTrue, decision}
use Rattle.pc_implicit.specs.Ends.{SaysGivenUp, SaysOver, TellsOpen}
use Rattle.pc_implicit.specs.Writes.{home_of, place_under, txns_of}
use Rattle.pc_lists.proofs.Same.{same_txn-is}
use Rattle.pc_proto.specs.declared.answer.Answer.{Answer}
use Rattle.pc_proto.specs.declared.answer.Answer.TheVariants as answers
use Rattle.pc_proto.specs.declared.call.Call.{Call}
use Rattle.pc_proto.specs.declared.call.Call.TheVariants as calls
use Rattle.pc_proto.specs.declared.event.Event.{Event}
use Rattle.pc_proto.specs.declared.event.Event.TheVariants as events
use Rattle.pc_proto.specs.declared.record.Standing.TheVariants as standings
use Rattle.pc_proto.specs.declared.record.Status.{Status}
use Rattle.pc_proto.specs.declared.view.View.{View}
use Rattle.pc_proto.specs.declared.view.View.TheVariants as views
use Rattle.pc_proto.specs.declared.why.Why.{Why}
use Rattle.pc_proto.specs.RecordRows.Reached.{status_of}
use Rattle.pc_proto.specs.Requests.{is_about}
use Rattle.pc_proto.specs.Views.{AbortsWith}
use Rattle.pc_world.proofs.Knowing.{known_other, known_same, run_push}
use Rattle.pc_world.proofs.Prefixes.{run_front, run_may}
use Rattle.pc_world.specs.After.{known_at, place_at}
use Rattle.pc_world.specs.Committed.{IsCommitted, committed_by, committed_in, told_at}
use Rattle.pc_world.specs.Known.{Known, call_in, call_of, open_txn}
use Rattle.pc_world.specs.Known.Statements.{is_open_after, is_open_told}
use Rattle.pc_world.specs.Known.Transactions.{Txn}
use Rattle.pc_world.specs.Local.{Head}
use Rattle.pc_world.specs.Run.{IsRun, protocol}
use Rattle.pc_world.specs.StageFate.{IsDead, stage_request}

-- ---- what is not committed

module _ (head : Head) (history : List (Entry Event)) (run : IsRun head history) (id : TxnId) where
  -- what is known to have come to nothing, and was not told committed, is not committed
  pub over_uncommitted : IsKnownOver (session_at head id history) id → told_at id history ≡ None → (at : ℕ) → IsCommitted head history id at → ⊥
  over_uncommitted over untold at is =
      elim (because head history run id at is) [
        | ByDecision epoch decided ↦ settled_not_over head history run id epoch at decided (settled head history run id epoch at decided) over
        | ByStaging s commits whose ts_is ↦
            let sent : HasSent (session_at head id history).sent (stage_request s) =
            subst (λ (i : TxnId). HasSent (session_at head i history).sent (stage_request s)) whose (has_sent_stage head history run s commits.sent) in
            not_dead head history run s commits (subst (λ (i : TxnId). IsDead (session_at head i history).heard s) (sym whose) (over.dead s sent whose))
        | ByTelling none told ↦ let both : ◌≡◌ {A = Option ℕ} None (Some at) = sym untold ∙ told in cc both
      ]

  -- what its home has aborted is not committed
  pub aborted_uncommitted : (epoch ts : ℕ) (why : Why) → decision (home_of head id history) ≡ Some (status_of (standings.Aborted why) epoch ts) → (at : ℕ) → IsCommitted head history id at → ⊥
  aborted_uncommitted epoch ts why aborted at is =
      elim (because head history run id at is) [
        | ByDecision other decided ↦
            let both : ◌≡◌ {A = Option Status} (Some (status_of (standings.Aborted why) epoch ts)) (Some (status_of standings.Committed other at)) = sym aborted ∙ decided in
            differ other at both
        | ByStaging s commits whose ts_is ↦
            let none : decision (home_of head id history) ≡ None = subst (λ i. decision (home_of head i history) ≡ None) whose (staging_open head history s commits.r commits.home commits.stages).undecided in
            let both : ◌≡◌ {A = Option Status} None (Some (status_of (standings.Aborted why) epoch ts)) = sym none ∙ aborted in
            cc both
        | ByTelling none told ↦
            let both : ◌≡◌ {A = Option Status} None (Some (status_of (standings.Aborted why) epoch ts)) = sym (ap (λ o. decision (place_under head id history o)) none) ∙ aborted in
            cc both
      ]
    where
      differ : (other at : ℕ) → ◌≡◌ {A = Option Status} (Some (status_of (standings.Aborted why) epoch ts)) (Some (status_of standings.Committed other at)) → ⊥
      differ other at h =
          let same : status_of (standings.Aborted why) epoch ts ≡ status_of standings.Committed other at = cc h in
          let standing : standings.Aborted why ≡ standings.Committed = ap (λ (x : Status). x.standing) same in
          cc standing

-- where a record or mark says that it is aborted, it was never committed
pub aborted_never_commits : (head : Head) (range : ℕ) (front back : List (Entry Event)) (id : TxnId) (epoch ts : ℕ) (why : Why) (at : ℕ) → IsRun head (front ++ back)
    → decision (place_at head range id (front ++ back)) ≡ Some (status_of (standings.Aborted why) epoch ts) → IsCommitted head front id at → ⊥
aborted_never_commits head range front back id epoch ts why at run aborted is =
    let history = front ++ back in
    let now : IsCommitted head history id at = (commits_stay head front back id at run is).0 in
    elim (place_anchored head history run range id) [
      | inl nothing ↦ let both : ◌≡◌ {A = Option Status} None (Some (status_of (standings.Aborted why) epoch ts)) = ap decision (sym nothing) ∙ aborted in cc both
      | inr a ↦
          let there : place_at head range id history ≡ home_of head id history = ap (λ r. place_at head r id history) a.there ∙ sym (home_is head id history a.anchor a.anchored) in
          aborted_uncommitted head history run id epoch ts why (ap decision (sym there) ∙ aborted) at now
    ]

-- ---- what is told

stays-open : (answer : Answer) → SaysGivenUp answer → is_open_told answer true ≡ true
stays-open (answers.Restart key ts) says = refl
stays-open (answers.Blocked holder) says = refl
stays-open (answers.Moved ts) says = refl
stays-open (answers.Unavailable faults) says = refl
stays-open answer says = absurd says

no-commit-given-up : (id : TxnId) (answer : Answer) → SaysGivenUp answer → committed_by id answer ≡ None
no-commit-given-up id (answers.Restart key ts) says = refl
no-commit-given-up id (answers.Blocked holder) says = refl
no-commit-given-up id (answers.Moved ts) says = refl
no-commit-given-up id (answers.Unavailable faults) says = refl
no-commit-given-up id answer says = absurd says

untold-more : (history : List (Entry Event)) (e : Entry Event) (id : TxnId) → told_at id history ≡ None → committed_in id e.event ≡ None → told_at id (history ++ e ∷ []) ≡ None
untold-more history e id untold quiet = first_push (λ x. committed_in id x.event) history e ∙ ap (λ o. option_or o (committed_in id e.event)) untold ∙ quiet

-- The transaction is over: it has come to nothing, was not told committed, and is not open, though its session knows it.
record IsOver (head : Head) (history : List (Entry Event)) (id : TxnId) : Type 0 where
  over : IsKnownOver (session_at head id history) id
  untold : told_at id history ≡ None
  closed : IsOpenHere (session_at head id history) id → ⊥
  has : Has id (txns_of head id history)

module _ (head : Head) (id : TxnId) where
  -- One more entry of a transaction that is over.
  module _ (history : List (Entry Event)) (e : Entry Event) (run : IsRun head history) (may : MayFollow (protocol head) history e) (o : IsOver head history id) where
    acts : Does head e.actor (known_at head e.actor history) e.event
    acts = act_of head history e may

    -- nobody is told that it committed
    quiet : (event : Event) → Does head e.actor (known_at head e.actor history) event → committed_in id event ≡ None
    quiet (events.Tell (answers.Committed other ts)) may = by (same_txn other id) refl
      where
        open-told : other ≡ id → IsOpenHere (session_at head id history) id
        open-told same =
            let k = known_at head e.actor history in
            let row = committed_row head e.actor k other ts may in
            let named : row.t.id ≡ id = sym row.whose ∙ same in
            let own : e.actor ≡ actors.Session row.t.id.session = (owned e.actor (k.begun + 1) k.txns row.t (agreed head history run e.actor).numbered (open_there k row.t row.opened)).0 in
            let actor : e.actor ≡ actors.Session id.session = own ∙ ap (λ (i : TxnId). actors.Session i.session) named in
            record { t = row.t; opened = subst (λ a. open_txn (known_at head a history) ≡ Some row.t) actor row.opened; named = named }

        by : (b : Bool) → same_txn other id ≡ b → (if b then Some ts else None) ≡ None
        by true same = absurd (o.closed (open-told (same_txn-is other id same)))
        by false differ = refl
    quiet event may = refl

    over-longer : IsOver head (history ++ e ∷ []) id
    over-longer =
        elim (same_or_not e.actor (actors.Session id.session)) [
          | inl same ↦
              record {
                over = over_on head history e run may id same o.over o.untold (λ here call. o.closed here);
                untold = untold-more history e id o.untold (quiet e.event acts);
                closed = λ here. elim (opens head history e run may id same here) [ inl new ↦ known-already same new.0 new.1 new.2 new.3 | inr was ↦ o.closed was ];
                has = has_more head history e (actors.Session id.session) id o.has;
              }
          | inr differ ↦
              let still : session_at head id (history ++ e ∷ []) ≡ session_at head id history = known_other head (actors.Session id.session) history e differ in
              record {
                over = subst (λ k. IsKnownOver k id) (sym still) o.over;
                untold = untold-more history e id o.untold (quiet e.event acts);
                closed = λ here. o.closed (subst (λ k. IsOpenHere k id) still here);
                has = has_more head history e (actors.Session id.session) id o.has;
              }
        ]
      where
        -- a transaction that is known is not begun again
        known-already : e.actor ≡ actors.Session id.session → (new : TxnId) (ts : ℕ) → e.event ≡ events.Tell (answers.Begun new ts) → new ≡ id → ⊥
        known-already same new ts is eq =
            let k = session_at head id history in
            let own : Does head (actors.Session id.session) k e.event = subst (λ a. Does head a (known_at head a history) e.event) same acts in
            let next = begun_next head (actors.Session id.session) k new ts (subst (Does head (actors.Session id.session) k) is own) in
            let h = o.has in
            let low = (owned (actors.Session id.session) (k.begun + 1) k.txns h.0 (numbered-at head history run id) h.1).1 in
            let number : new.number ≡ k.begun + 1 = next.1 in
            let its : h.0.id.number ≡ new.number = ap (λ (i : TxnId). i.number) (h.2 ∙ sym eq) in
            omega (arith, low, number, its)

  -- The entry tells the open transaction.
  module _ (before : List (Entry Event)) (e : Entry Event) (run : IsRun head before) (may : MayFollow (protocol head) before e) (Says : Answer → Type 0) (a : TellsOpen head before id Says e) where
    teller : e.actor ≡ actors.Session id.session
    teller =
        let k = known_at head e.actor before in
        (owned e.actor (k.begun + 1) k.txns a.t (agreed head before run e.actor).numbered (open_there k a.t a.opened)).0 ∙ ap (λ (i : TxnId). actors.Session i.session) a.named

    open-here : IsOpenHere (session_at head id before) id
    open-here = record { t = a.t; opened = subst (λ x. open_txn (known_at head x before) ≡ Some a.t) teller a.opened; named = a.named }

    tells-on : Does head (actors.Session id.session) (session_at head id before) (events.Tell a.answer)
    tells-on = subst (Does head (actors.Session id.session) (session_at head id before)) a.tells (subst (λ x. Does head x (known_at head x before) e.event) teller (act_of head before e may))

    told-over : IsKnownOver (session_at head id before) id → IsKnownOver (session_at head id (before ++ e ∷ [])) id
    told-over over =
        over-unsent head before e run may id teller over (λ number range request sends. let both : events.Tell a.answer ≡ events.Send number range request = sym a.tells ∙ sends in cc both)

    -- where it gave a call up, the transaction has come to nothing
    given-up-over : SaysGivenUp a.answer → IsKnownOver (session_at head id before) id
    given-up-over says =
        elim (is-commit (call_of (session_at head id before))) [
          | inl call ↦ over-told head before e run may id teller open-here a.answer a.tells (stays-open a.answer says) call
          | inr other ↦ open_over head before run id open-here other
        ]

    -- where it is rolled back, it is over
    rolled-back-over : (other : TxnId) (why : Why) → a.answer ≡ answers.RolledBack other why → IsOver head (before ++ e ∷ []) id
    rolled-back-over other why is =
        let k = session_at head id before in
        let does : Does head (actors.Session id.session) k (events.Tell (answers.RolledBack other why)) = subst (λ x. Does head (actors.Session id.session) k (events.Tell x)) is tells-on in
        let row = told_by_row head (actors.Session id.session) k (answers.RolledBack other why) does (λ h. cc h) (λ h. cc h) in
        let call : call_of k ≡ Some calls.Rollback = ap call_in does.opened ∙ ap Some row.asked in
        let over = open_over head before run id open-here (λ commit. let both : ◌≡◌ {A = Option Call} (Some calls.Rollback) (Some calls.Commit) = sym call ∙ commit in cc both) in
        let tells : e.event ≡ events.Tell (answers.RolledBack other why) = a.tells ∙ ap events.Tell is in
        record {
          over = told-over over;
          untold = untold-more before e id (open_untold head before run id open-here) (ap (committed_in id) tells);
          closed = λ here.
              let k2 = session_at head id (before ++ e ∷ []) in
              let closed : k2.is_open ≡ false = ap (λ (x : Known). x.is_open) (known_same head (actors.Session id.session) before e teller) ∙ ap (λ event. is_open_after event k.is_open) tells in
              let both : true ≡ false = sym (open_is_first k2 here.t here.opened).1 ∙ closed in
              cc both;
          has = has_more head before e (actors.Session id.session) id (let o = open-here in (o.t, open_there k o.t o.opened, o.named));
        }

    -- where it is told that it is aborted, its home has aborted it
    pub told_aborted : (why : Why) → a.answer ≡ answers.Aborted why → (epoch : ℕ) × (ts : ℕ) × (decision (home_of head id before) ≡ Some (status_of (standings.Aborted why) epoch ts))
    told_aborted why is =
        let actor : ActorId = actors.Session id.session in
        let k = session_at head id before in
        let does : Does head actor k (events.Tell (answers.Aborted why)) = subst (λ x. Does head actor k (events.Tell x)) is tells-on in
        let row = told_by_row head actor k (answers.Aborted why) does (λ h. cc h) (λ h. cc h) in
        let here = open-here in
        let same : row.t ≡ here.t = let both : Some row.t ≡ Some here.t = sym row.opened ∙ here.opened in cc both in
        let named : row.t.id ≡ id = ap (λ (x : Txn). x.id) same ∙ here.named in
        let (n, h, inside, at, shows) = row.heard in
        aborted-view shows.view shows.cause
        (view_is_so head before run actor h (so_of head before run actor h (n, inside, at)) id shows.view (subst (λ i. IsTrue (is_about i h.request)) named shows.about) shows.told)
      where
        aborted-view : (view : View) → AbortsWith why view → StaysTrue view (home_of head id before) → (epoch : ℕ) × (ts : ℕ) × (decision (home_of head id before) ≡ Some (status_of (standings.Aborted why) epoch ts))
        aborted-view (views.Aborted epoch cause locks) same stays = (epoch, stays.0, stays.1 ∙ ap (λ w. Some (status_of (standings.Aborted w) epoch stays.0)) same)
        aborted-view view same stays = absurd same

-- where a session is told that its transaction is over, it never commits
pub ended_never_commits : (head : Head) (before : List (Entry Event)) (e : Entry Event) (later : List (Entry Event)) (id : TxnId) (front back : List (Entry Event)) (at : ℕ)
    → IsRun head (before ++ e ∷ later) → TellsOpen head before id SaysOver e → before ++ e ∷ later ≡ front ++ back → IsCommitted head front id at → ⊥
ended_never_commits head before e later id front back at run a whole is = by a.answer refl a.says
  where
    run-before : IsRun head before
    run-before = run_front head before (e ∷ later) run

    may : MayFollow (protocol head) before e
    may = run_may head before e later run

    at-last : IsCommitted head (before ++ e ∷ later) id at
    at-last = subst (λ h. IsCommitted head h id at) (sym whole) (commits_stay head front back id at (subst (IsRun head) whole run) is).0

    over-last : IsOver head (before ++ e ∷ []) id → ⊥
    over-last o =
        let joined : (before ++ e ∷ []) ++ later ≡ before ++ e ∷ later = append_assoc before (e ∷ []) later in
        let last : IsOver head ((before ++ e ∷ []) ++ later) id =
        goes_along head (λ h. IsOver head h id) (λ h x run_h may_h holds. over-longer head id h x run_h may_h holds) (before ++ e ∷ []) later (subst (IsRun head) (sym joined) run) o in
        let end : IsOver head (before ++ e ∷ later) id = subst (λ h. IsOver head h id) joined last in
        over_uncommitted head (before ++ e ∷ later) run id end.over end.untold at at-last

    aborted-last : (why : Why) (epoch ts : ℕ) → decision (home_of head id before) ≡ Some (status_of (standings.Aborted why) epoch ts) → ⊥
    aborted-last why epoch ts aborted =
        aborted_uncommitted head (before ++ e ∷ later) run id epoch ts why ((home_along head id before (e ∷ later)).decided (status_of (standings.Aborted why) epoch ts) aborted) at at-last

    by : (answer : Answer) → a.answer ≡ answer → SaysOver answer → ⊥
    by (answers.Aborted why) is says = let d = told_aborted head id before e run-before may SaysOver a why is in aborted-last why d.0 d.1 d.2
    by (answers.RolledBack other why) is says = over-last (rolled-back-over head id before e run-before may SaysOver a other why is)
    by answer is says = says

-- where a session is told that a call gave up, its transaction is not committed then
pub given_up_is_uncommitted : (head : Head) (before : List (Entry Event)) (e : Entry Event) (later : List (Entry Event)) (id : TxnId) (at : ℕ)
    → IsRun head (before ++ e ∷ later) → TellsOpen head before id SaysGivenUp e → IsCommitted head (before ++ e ∷ []) id at → ⊥
given_up_is_uncommitted head before e later id at run a is =
    let run_before : IsRun head before = run_front head before (e ∷ later) run in
    let may : MayFollow (protocol head) before e = run_may head before e later run in
    let over = told-over head id before e run_before may SaysGivenUp a (given-up-over head id before e run_before may SaysGivenUp a a.says) in
    let untold = untold-more before e id (open_untold head before run_before id (open-here head id before e run_before may SaysGivenUp a)) (ap (committed_in id) a.tells ∙ no-commit-given-up id a.answer a.says) in
    over_uncommitted head (before ++ e ∷ []) (run_push head before e run_before may) id over untold at is
