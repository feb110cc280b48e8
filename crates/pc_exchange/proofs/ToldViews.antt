-- What is shown of a transaction's record since its session was told that it is committed: it is committed so, or stages there.
use Rattle.std.proofs.Common.{◌≡◌, ℕ, ◌≤◌, true, ◌&&◌, ◌==◌, ◌⊎◌, inl, inr, List, [], ◌∷◌, ◌++◌, Some, Contains, refl, sym, ap, ◌∙◌, subst, arith}
use Rattle.std.proofs.lemmas.Bool.{and_parts, eqb-true}
use Rattle.std.proofs.lemmas.List.{append-nil, append_assoc}
use Rattle.std.specs.Option.{option_or}
use Rattle.pc_base.specs.declared.actor.ActorId.{ActorId}
use Rattle.pc_base.specs.declared.actor.ActorId.TheVariants as actors
use Rattle.pc_base.specs.declared.entry.Entry.{Entry}
use Rattle.pc_base.specs.declared.transaction.TxnId.{TxnId}
use Rattle.pc_desk.specs.OwnLog.{IsOwnLog, LogMeaning}
use Rattle.pc_exchange.proofs.EvaluatedSince.{IsHeardSince, WasEvaluatedSince, evaluated_since}
use Rattle.pc_exchange.proofs.HeardKinds.{anchor_longer, history_of, is_run, known_there}
use Rattle.pc_history.specs.declared.pair.Pair.{Pair}
use Rattle.pc_history.specs.Own.{own}
use Rattle.pc_implicit.proofs.Agreed.{Agrees, agreed, owned}
use Rattle.pc_implicit.proofs.Did.{GrownTo, grown_to, one_known}
use Rattle.pc_implicit.proofs.Fates.{shown_fate}
use Rattle.pc_implicit.proofs.Firsts.{first_push}
use Rattle.pc_implicit.proofs.HeardAt.{viewed_then}
use Rattle.pc_implicit.proofs.Homes.{home_along}
use Rattle.pc_implicit.proofs.Runs.{kept-status}
use Rattle.pc_implicit.proofs.ToldCommits.{told_commits_stand_ok}
use Rattle.pc_implicit.specs.Decided.{decision}
use Rattle.pc_implicit.specs.Writes.{home_of, txns_of}
use Rattle.pc_lists.proofs.Each.{each-contains}
use Rattle.pc_proto.specs.declared.event.Event.{Event}
use Rattle.pc_proto.specs.declared.fate.Fate.TheVariants as fates
use Rattle.pc_proto.specs.declared.record.Standing.{Standing}
use Rattle.pc_proto.specs.declared.record.Standing.TheVariants as standings
use Rattle.pc_proto.specs.declared.record.Status.{Status}
use Rattle.pc_proto.specs.declared.view.View.{View}
use Rattle.pc_proto.specs.declared.view.View.TheVariants as views
use Rattle.pc_proto.specs.Place.{Place, Nothing, Kept, Marked, is_final, status_view, view_of}
use Rattle.pc_proto.specs.RecordRows.Reached.{is_staged_at, is_staging, status_of}
use Rattle.pc_proto.specs.Replies.{view_in}
use Rattle.pc_proto.specs.Requests.{subject}
use Rattle.pc_world.proofs.Prefixes.{run_front}
use Rattle.pc_world.specs.After.{known_at}
use Rattle.pc_world.specs.Committed.{anchor_in, committed_in, told_at}
use Rattle.pc_world.specs.Known.{Known, known_of}
use Rattle.pc_world.specs.Known.Traffic.{Heard}
use Rattle.pc_world.specs.Known.Transactions.{Txn}
use Rattle.pc_world.specs.Run.{IsRun}
use Rattle.pc_world.specs.Send.Settling.{MaySendResolve}

-- The view says that the record is committed so.
abbrev pub IsCommittedView : ℕ → ℕ → View → Type 0
IsCommittedView epoch ts view = (shown : List (List ℕ)) × (view ≡ views.Committed epoch ts shown)

-- The view says that the record stages so.
abbrev pub IsStagingView : ℕ → ℕ → View → Type 0
IsStagingView epoch ts view = (writes : List (List ℕ × ℕ)) × (view ≡ views.Staging epoch ts writes)

-- how a record that is decided committed is shown
decided_view : (p : Place) (epoch ts : ℕ) → decision p ≡ Some (status_of standings.Committed epoch ts) → IsCommittedView epoch ts (view_of p)
decided_view Nothing epoch ts is = absurd cc
decided_view (Kept r) epoch ts is =
    let same : r.status ≡ status_of standings.Committed epoch ts = kept-status (is_final r.status.standing) r.status (status_of standings.Committed epoch ts) is in
    (r.locks, ap (λ (s : Status). status_view s.standing s.epoch s.ts r.writes r.locks) same)
decided_view (Marked s) epoch ts is =
    let same : s ≡ status_of standings.Committed epoch ts = cc in
    ([], ap (λ (s : Status). status_view s.standing s.epoch s.ts [] []) same)

staging-is : (standing : Standing) → is_staging standing ≡ true → standing ≡ standings.Staging
staging-is standings.Staging is = refl
staging-is standings.Pending is = absurd cc
staging-is standings.Committed is = absurd cc
staging-is (standings.Aborted why) is = absurd cc

-- and one that stages
staged_view : (p : Place) (epoch ts : ℕ) → is_staged_at p epoch ts ≡ true → IsStagingView epoch ts (view_of p)
staged_view Nothing epoch ts is = absurd cc
staged_view (Kept r) epoch ts is =
    let one = and_parts (is_staging r.status.standing) (r.status.epoch == epoch && r.status.ts == ts) is in
    let two = and_parts (r.status.epoch == epoch) (r.status.ts == ts) one.1 in (
      r.writes,
      ap (λ standing. status_view standing r.status.epoch r.status.ts r.writes r.locks) (staging-is r.status.standing one.0)
          ∙ (ap (λ e. views.Staging e r.status.ts r.writes) (eqb-true r.status.epoch epoch two.0) ∙ ap (λ t. views.Staging epoch t r.writes) (eqb-true r.status.ts ts two.1)),
    )
staged_view (Marked s) epoch ts is = absurd cc

-- what was told stays told
told_longer : (id : TxnId) (ts : ℕ) (front back : List (Entry Event)) → told_at id front ≡ Some ts → told_at id (front ++ back) ≡ Some ts
told_longer id ts front [] is = ap (told_at id) (append-nil front) ∙ is
told_longer id ts front (e ∷ back) is =
    let more : told_at id (front ++ e ∷ []) ≡ Some ts = first_push (λ (x : Entry Event). committed_in id x.event) front e ∙ ap (λ o. option_or o (committed_in id e.event)) is in
    sym (ap (told_at id) (append_assoc front (e ∷ []) back)) ∙ told_longer id ts (front ++ e ∷ []) back more

module _ {C : Type 0} (l : LogMeaning C) (log : IsOwnLog l) (before : List (Pair Event)) (h : Heard) (since : IsHeardSince l before h) where
  it_since : WasEvaluatedSince l log before h
  it_since = evaluated_since l log before h since

  -- What came between, and the history right behind the evaluation.
  abbrev between : List (Entry Event)
  between = it_since.since ++ it_since.at.e ∷ []

  abbrev behind : List (Entry Event)
  behind = it_since.front ++ between

  behind_is : it_since.at.before ++ it_since.at.e ∷ [] ≡ behind
  behind_is = ap (λ es. es ++ it_since.at.e ∷ []) it_since.whole ∙ append_assoc it_since.front it_since.since (it_since.at.e ∷ [])

  all_is : history_of l log ≡ behind ++ it_since.at.later
  all_is = it_since.at.whole ∙ (sym (append_assoc it_since.at.before (it_since.at.e ∷ []) it_since.at.later) ∙ ap (λ es. es ++ it_since.at.later) behind_is)

  run_all : IsRun l.head (behind ++ it_since.at.later)
  run_all = subst (IsRun l.head) all_is (is_run l log)

  run_behind : IsRun l.head behind
  run_behind = run_front l.head behind it_since.at.later run_all

  run_then : IsRun l.head it_since.front
  run_then = run_front l.head it_since.front between run_behind

  known_then : known_at l.head l.part.id it_since.front ≡ known_of before
  known_then = ap known_of it_since.mine

  view_behind : (id : TxnId) (view : View) → subject h.request ≡ Some id → view_in h.reply ≡ Some view → view ≡ view_of (home_of l.head id behind)
  view_behind id view about told =
      subst (λ es. view ≡ view_of (home_of l.head id es)) behind_is (viewed_then l.head (history_of l log) (is_run l log) l.part.id h it_since.at id view about told)

  -- a record that was heard to be committed before is shown so
  pub fate_shown_since : (id : TxnId) (epoch ts : ℕ) → MaySendResolve (known_of before) id (fates.Committed epoch ts) → (view : View) → subject h.request ≡ Some id → view_in h.reply ≡ Some view → IsCommittedView epoch ts view
  fate_shown_since id epoch ts known view about told =
      let so : decision (home_of l.head id it_since.front) ≡ Some (status_of standings.Committed epoch ts) =
      shown_fate l.head it_since.front run_then l.part.id id (fates.Committed epoch ts) (subst (λ (k : Known). MaySendResolve k id (fates.Committed epoch ts)) (sym known_then) known) in
      let stays : decision (home_of l.head id behind) ≡ Some (status_of standings.Committed epoch ts) = (home_along l.head id it_since.front between).decided (status_of standings.Committed epoch ts) so in
      subst (IsCommittedView epoch ts) (sym (view_behind id view about told)) (decided_view (home_of l.head id behind) epoch ts stays)

  module _ (t : Txn) (anchor : List ℕ) (ts : ℕ) (mine : Contains (known_of before).txns t) (anchored : t.anchor ≡ Some anchor) (committed : t.committed ≡ Some ts) (u : Txn) (still : Contains (known_of l.part.own).txns u) (named : u.id ≡ t.id) (epoch : u.epoch ≡ t.epoch) where
    abbrev owner : ActorId
    owner = actors.Session t.id.session

    mine_known : Contains (known_at l.head l.part.id it_since.front).txns t
    mine_known = subst (λ (k : Known). Contains k.txns t) (sym known_then) mine

    whose_it : l.part.id ≡ owner
    whose_it = (owned l.part.id _ (known_at l.head l.part.id it_since.front).txns t (agreed l.head it_since.front run_then l.part.id).numbered mine_known).0

    mine_then : Contains (txns_of l.head t.id it_since.front) t
    mine_then = subst (λ a. Contains (known_at l.head a it_since.front).txns t) whose_it mine_known

    agrees_then : Agrees it_since.front t
    agrees_then = each-contains (Agrees it_since.front) (txns_of l.head t.id it_since.front) t (agreed l.head it_since.front run_then owner).agrees mine_then

    grown : GrownTo l.head it_since.front behind t.id t
    grown = grown_to l.head it_since.front between run_behind t.id t mine_then refl

    grown_since : GrownTo l.head behind (behind ++ it_since.at.later) t.id grown.u
    grown_since = grown_to l.head behind it_since.at.later run_all t.id grown.u grown.there grown.named

    still_known : Contains (txns_of l.head t.id (behind ++ it_since.at.later)) u
    still_known =
        let here : Contains (known_at l.head l.part.id (history_of l log)).txns u = subst (λ (k : Known). Contains k.txns u) (sym (known_there l log)) still in
        subst (λ es. Contains (txns_of l.head t.id es) u) all_is (subst (λ a. Contains (known_at l.head a (history_of l log)).txns u) whose_it here)

    one_it : grown_since.u ≡ u
    one_it = one_known l.head (behind ++ it_since.at.later) run_all t.id grown_since.u u grown_since.there still_known (grown_since.named ∙ sym named)

    epoch_then : grown.u.epoch ≡ t.epoch
    epoch_then =
        let low : t.epoch ≤ grown.u.epoch = grown.grows.rises in
        let high : grown.u.epoch ≤ grown_since.u.epoch = grown_since.grows.rises in
        let same : grown_since.u.epoch ≡ u.epoch = ap (λ (x : Txn). x.epoch) one_it in
        omega (arith, low, high, same, epoch)

    agrees_behind : Agrees behind grown.u
    agrees_behind = each-contains (Agrees behind) (txns_of l.head t.id behind) grown.u (agreed l.head behind run_behind owner).agrees grown.there

    anchored_then : grown.u.anchor ≡ Some anchor
    anchored_then =
        sym agrees_behind.anchor ∙ (ap (λ i. anchor_in i behind) grown.named ∙ anchor_longer t.id anchor it_since.front between (agrees_then.anchor ∙ anchored))

    committed_then : grown.u.committed ≡ Some ts
    committed_then =
        sym agrees_behind.told ∙ (ap (λ i. told_at i behind) grown.named ∙ told_longer t.id ts it_since.front between (agrees_then.told ∙ committed))

    -- a record of which its session had been told so is shown committed, or staging there
    pub told_shown_since : (view : View) → subject h.request ≡ Some t.id → view_in h.reply ≡ Some view → IsCommittedView t.epoch ts view ⊎ IsStagingView t.epoch ts view
    told_shown_since view about told =
        let is = view_behind t.id view about told in
        elim (told_commits_stand_ok l.head behind t.id grown.u anchor ts run_behind grown.there grown.named anchored_then committed_then) [
          | inl decided ↦
              inl (subst (λ n. IsCommittedView n ts view) epoch_then (subst (IsCommittedView grown.u.epoch ts) (sym is) (decided_view (home_of l.head t.id behind) grown.u.epoch ts decided)))
          | inr staged ↦
              inr (subst (λ n. IsStagingView n ts view) epoch_then (subst (IsStagingView grown.u.epoch ts) (sym is) (staged_view (home_of l.head t.id behind) grown.u.epoch ts staged)))
        ]
