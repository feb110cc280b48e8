-- What a committed transaction wrote stands, as its version or in its intent.
use Rattle.std.proofs.Common.{◌≡◌, ℕ, true, false, ◌==◌, ◌&&◌, inl, inr, List, [], ◌∷◌, ◌++◌, Option, None, Some, Contains, IsTrue, refl, sym, ap, subst, ◌∙◌}
use Rattle.std.proofs.lemmas.Bool.{and_parts, eq-eqb, eqb-true}
use Rattle.std.proofs.lemmas.List.Elements.{Contains-push}
use Rattle.std.specs.Option.{option_map_or, option_or}
use Rattle.pc_base.specs.declared.actor.ActorId.TheVariants as actors
use Rattle.pc_base.specs.declared.entry.Entry.{Entry}
use Rattle.pc_base.specs.declared.transaction.TxnId.{TxnId}
use Rattle.pc_history.specs.History.{MayFollow}
use Rattle.pc_implicit.proofs.Anchored.{put_anchored}
use Rattle.pc_implicit.proofs.CommitPoint.{ByCommit, ByRecovery, RecoversNow, decides_how}
use Rattle.pc_implicit.proofs.Evals.{evaluated_state}
use Rattle.pc_implicit.proofs.Homes.{home_on}
use Rattle.pc_implicit.proofs.Places.{place_after}
use Rattle.pc_implicit.proofs.Runs.{kept-status, reply_is}
use Rattle.pc_implicit.proofs.StageWords.{ByDecision, ByStaging, ByTelling}
use Rattle.pc_implicit.proofs.Because.{because}
use Rattle.pc_implicit.proofs.Recovered.{recoveries_agree}
use Rattle.pc_implicit.proofs.NotDead.{not_dead}
use Rattle.pc_implicit.proofs.StagesLast.{stages_last}
use Rattle.pc_implicit.proofs.ImplicitStands.{implied_epoch, implied_whole}
use Rattle.pc_implicit.proofs.Turns.{IsAnswered, Restarted, WentOn, Wrote, comes_from, Turn}
use Rattle.pc_implicit.proofs.WriteLists.{Laid, AreAlike}
use Rattle.pc_implicit.specs.Decided.{decision}
use Rattle.pc_implicit.specs.Writes.{LastWriteStands, home_of, place_under, txns_of, writes_on}
use Rattle.pc_lists.proofs.Lists.{contains_nil}
use Rattle.pc_proto.specs.declared.event.Event.{Event}
use Rattle.pc_proto.specs.declared.record.Standing.TheVariants as standings
use Rattle.pc_proto.specs.declared.record.Status.{Status}
use Rattle.pc_proto.specs.Replies.{view_in}
use Rattle.pc_proto.specs.Requests.{Recovers}
use Rattle.pc_proto.specs.Table.{place_of}
use Rattle.pc_proto.specs.RecordRows.Reached.{is_staged_at, is_staging, status_of}
use Rattle.pc_proto.specs.Views.{is_committed_at}
use Rattle.pc_world.proofs.Knowing.{run_push}
use Rattle.pc_world.proofs.Prefixes.{run_induction}
use Rattle.pc_world.specs.After.{known_at, place_at, state_at}
use Rattle.pc_world.specs.Committed.{anchor_in, IsCommitted, key_sent}
use Rattle.pc_world.specs.Known.{Known}
use Rattle.pc_world.specs.Known.Transactions.{Txn}
use Rattle.pc_world.specs.Known.Writes.{Write}
use Rattle.pc_world.specs.Local.{Head}
use Rattle.pc_world.specs.Run.{IsRun, protocol}
use Rattle.pc_world.specs.StageFate.{IsDead}
use Rattle.pc_world.specs.Decisions.{AnswersCommitted}
use Rattle.pc_world.specs.Evaluation.{intents_after, reply as reply_of}
use Rattle.pc_world.specs.Known.Traffic.{reply_in}
use Rattle.pc_world.specs.Named.{request_in, request_named}
use Rattle.pc_world.specs.RangeState.{RangeState}
use Rattle.pc_history.specs.Own.{named_in}
use Rattle.pc_proto.specs.declared.fate.Finding.TheVariants as findings
use Rattle.pc_proto.specs.declared.record.Record.{Record}
use Rattle.pc_proto.specs.declared.reply.Reply.TheVariants as replies
use Rattle.pc_proto.specs.declared.request.Request.{Request}
use Rattle.pc_proto.specs.declared.request.Request.TheVariants as requests
use Rattle.pc_proto.specs.Place.{Place, Nothing, Kept, Marked, after, is_final, status_view, view_of}
use Rattle.pc_proto.specs.RecordRows.{place_change, table_after}
use Rattle.pc_implicit.proofs.Firsts.{first_push}
use Rattle.pc_implicit.proofs.SettledNow.{HasWhole, IsImplied, IsSettled, settled_by, settled_now}
use Rattle.pc_implicit.proofs.SettledOn.{settled_more}

-- a place that is decided committed shows it
shows-commit : (q : Place) (epoch ts : ℕ) → decision q ≡ Some (status_of standings.Committed epoch ts) → is_committed_at ts (view_of q) ≡ true
shows-commit Nothing epoch ts h = absurd cc
shows-commit (Kept r) epoch ts h =
    let same = kept-status (is_final r.status.standing) r.status (status_of standings.Committed epoch ts) h in
    subst (λ (x : Status). is_committed_at ts (status_view x.standing x.epoch x.ts r.writes r.locks) ≡ true) (sym same) (eq-eqb ts ts refl)
shows-commit (Marked m) epoch ts h =
    let same : m ≡ status_of standings.Committed epoch ts = cc in
    subst (λ (x : Status). is_committed_at ts (status_view x.standing x.epoch x.ts [] []) ≡ true) (sym same) (eq-eqb ts ts refl)

-- a place that is staged so is a record of that epoch
staged-epoch : (p : Place) (r : Record) (epoch ts : ℕ) → p ≡ Kept r → is_staged_at p epoch ts ≡ true → r.status.epoch ≡ epoch
staged-epoch p r epoch ts is staged =
    let here : (is_staging r.status.standing && (r.status.epoch == epoch && r.status.ts == ts)) ≡ true = subst (λ q. is_staged_at q epoch ts ≡ true) is staged in
    let parts = and_parts (is_staging r.status.standing) (r.status.epoch == epoch && r.status.ts == ts) here in
    eqb-true r.status.epoch epoch (and_parts (r.status.epoch == epoch) (r.status.ts == ts) parts.1).0

-- An entry that recovers a transaction that is not decided.
module _ (head : Head) (history : List (Entry Event)) (run : IsRun head history) (e : Entry Event) (may : MayFollow (protocol head) history e) (id : TxnId) (epoch ts : ℕ)
    (none : decision (home_of head id history) ≡ None) (now : RecoversNow head history e id epoch ts) where
  recovery : Request
  recovery = requests.Recover id epoch ts now.anchor findings.All

  -- it answers that the transaction is committed
  pub answers-commit : AnswersCommitted head history ts (Recovers id) e
  unfolding recovery
  answers-commit =
      let ev = now.ev in
      let s = state_at head ev.range history in
      let place : place_at head ev.range id (history ++ e ∷ []) ≡ after (place_of id s.table) (place_change recovery (place_of id s.table)) =
      ap (λ (x : RangeState). place_of id x.table) (evaluated_state head history e now.actor now.number ev.range now.reply ev now.is)
      ∙ ap (λ r. place_of id (table_after r s.table)) now.asks
      ∙ place_after id (place_change recovery (place_of id s.table)) s.table in
      let told : now.reply ≡ replies.Status (view_of (place_at head ev.range id (history ++ e ∷ []))) =
      reply_is head history e now.actor now.number now.reply may now.is ev ∙ ap (λ r. reply_of r s) now.asks ∙ ap (λ p. replies.Status (view_of p)) (sym place) in
      record {
        request = ev.request;
        asked = ap request_named (ap (named_in (protocol head) history) now.is ∙ ev.named) ∙ ap request_in ev.sends;
        kind = subst (Recovers id) (sym now.asks) refl;
        reply = now.reply;
        told = ap reply_in now.is;
        shown = subst (λ r. IsTrue (option_map_or (is_committed_at ts) (view_in r) false)) (sym told) (shows-commit (place_at head ev.range id (history ++ e ∷ [])) epoch ts now.later);
      }

  -- so the transaction was committed by a stage before
  was-implied : IsImplied head history id epoch ts
  was-implied =
      elim (because head history run id ts (recoveries_agree head history e [] id ts (run_push head history e run may) answers-commit)) [
        | ByDecision at decided ↦ let both : None ≡ Some (status_of standings.Committed at ts) = sym none ∙ decided in absurd cc
        | ByStaging s commits whose ts_is ↦
            record {
              stage = s;
              commits = commits;
              whose = whose;
              epoch_is = sym commits.stages.epoch_is ∙ staged-epoch (home_of head s.meta.id history) commits.r epoch ts commits.home (subst (λ i. is_staged_at (home_of head i history) epoch ts ≡ true) (sym whose) now.staged);
              ts_is = ts_is;
            }
        | ByTelling unanchored told ↦
            let both : false ≡ true = ap (λ o. is_staged_at (place_under head id history o) epoch ts) (sym unanchored) ∙ now.staged in absurd cc
      ]

  -- and is settled by the entry
  settled-by-recovery : IsSettled head (history ++ e ∷ []) id epoch ts
  settled-by-recovery =
      let w = was-implied in
      let s = w.stage in
      let last = stages_last head history run in
      let alive : IsDead (known_at head (actors.Session s.meta.id.session) history).heard s → ⊥ = not_dead head history run s w.commits in
      let of_stage : (t : Txn) → Contains (txns_of head id history) t → Contains (txns_of head s.meta.id history) t = λ t known. subst (λ i. Contains (txns_of head i history) t) (sym w.whose) known in
      settled_by head history e id epoch ts now.actor now.number now.reply now.is now.ev (λ x. ap (λ r. intents_after r x) now.asks)
      (inr (record { front = history; back = e ∷ []; whole = refl; implied = w }))
      (λ t known same. implied_epoch head history run s w.commits last alive t (of_stage t known) (same ∙ sym w.whose) ∙ w.epoch_is)
      (λ t known same key front seq value is.
      subst (HasWhole head history t key) w.ts_is (implied_whole head history run s w.commits last alive t (of_stage t known) (same ∙ sym w.whose) key front seq value is))

module _ (head : Head) where
  abbrev AllSettled : List (Entry Event) → Type 0
  AllSettled history = (id : TxnId) (epoch ts : ℕ) → decision (home_of head id history) ≡ Some (status_of standings.Committed epoch ts) → IsSettled head history id epoch ts

  -- what a transaction wrote stands that is decided committed
  pub settled : (history : List (Entry Event)) → IsRun head history → (id : TxnId) (epoch ts : ℕ) → decision (home_of head id history) ≡ Some (status_of standings.Committed epoch ts) → IsSettled head history id epoch ts
  settled = run_induction head AllSettled (λ id epoch ts decided. absurd cc) (λ history e run may all id epoch ts decided.
      by history e run may id epoch ts decided (all id epoch ts) (decision (home_of head id history)) refl)
    where
      by : (history : List (Entry Event)) (e : Entry Event) → IsRun head history → MayFollow (protocol head) history e → (id : TxnId) (epoch ts : ℕ)
          → decision (home_of head id (history ++ e ∷ [])) ≡ Some (status_of standings.Committed epoch ts)
          → (decision (home_of head id history) ≡ Some (status_of standings.Committed epoch ts) → IsSettled head history id epoch ts)
          → (o : Option Status) → decision (home_of head id history) ≡ o → IsSettled head (history ++ e ∷ []) id epoch ts
      by history e run may id epoch ts decided before None is =
          elim (decides_how head history run e may id epoch ts is decided) [
            | ByCommit now ↦ settled_now head history run e id epoch ts is now
            | ByRecovery now ↦ settled-by-recovery head history run e may id epoch ts is now
          ]
      by history e run may id epoch ts decided before (Some s) is =
          let both : Some s ≡ Some (status_of standings.Committed epoch ts) = sym ((home_on head id history e).decided s is) ∙ decided in
          let old : decision (home_of head id history) ≡ Some (status_of standings.Committed epoch ts) = is ∙ both in
          settled_more head history run e may id epoch ts old (before old)

alike-none : (New : Write → ℕ → Type 0) (ws xs : List Write) → AreAlike New ws xs → ws ≡ [] → xs ≡ []
alike-none New [] [] alike none = refl
alike-none New [] (x ∷ xs) alike none = absurd alike
alike-none New (w ∷ ws) xs alike none = absurd cc

unanchored-before : (history : List (Entry Event)) (e : Entry Event) (id : TxnId) → anchor_in id (history ++ e ∷ []) ≡ None → anchor_in id history ≡ None
unanchored-before history e id none = by (anchor_in id history) (sym (first_push (λ x. key_sent id x.event) history e) ∙ none)
  where
    by : (o : Option (List ℕ)) → option_or o (key_sent id e.event) ≡ None → o ≡ None
    by None is = refl
    by (Some anchor) is = absurd cc

module _ (head : Head) where
  unwritten-turn : (history : List (Entry Event)) (e : Entry Event) → IsRun head history → MayFollow (protocol head) history e → (k : Known) (t u : Txn) → u.id ≡ t.id → anchor_in u.id (history ++ e ∷ []) ≡ None
      → (anchor_in t.id history ≡ None → t.writes ≡ []) → Turn history e k t u → u.writes ≡ []
  unwritten-turn history e run may k t u same none before (WentOn epoch alike) =
      alike-none (IsAnswered history t) t.writes u.writes alike (before (ap (λ i. anchor_in i history) (sym same) ∙ unanchored-before history e u.id none))
  unwritten-turn history e run may k t u same none before (Wrote w f epoch writes) =
      let anchored = (put_anchored head (history ++ e ∷ []) (run_push head history e run may) e (Contains-push history e) f.number f.range f.meta w.seq f.ts w.key w.value f.sends).anchor in
      let both : None ≡ Some f.meta.anchor = sym none ∙ ap (λ i. anchor_in i (history ++ e ∷ [])) (same ∙ sym f.whose) ∙ anchored in absurd cc
  unwritten-turn history e run may k t u same none before (Restarted r next writes) = writes

  pub unwritten : (history : List (Entry Event)) → IsRun head history → (t : Txn) → Contains (txns_of head t.id history) t → anchor_in t.id history ≡ None → t.writes ≡ []
  unwritten = run_induction head (λ history. (t : Txn) → Contains (txns_of head t.id history) t → anchor_in t.id history ≡ None → t.writes ≡ [])
      (λ t there. absurd (contains_nil t there)) (λ history e run may all u there none.
      elim (comes_from head history run e may (actors.Session u.id.session) u there) [
        | inl b ↦ b.unwritten
        | inr c ↦
            unwritten-turn history e run may (known_at head (actors.Session u.id.session) history) c.t u c.same none
            (all c.t (subst (λ (i : TxnId). Contains (txns_of head i history) c.t) c.same c.there)) c.turn
      ])

  -- what a committed transaction wrote stands
  pub writes_of_committed : (history : List (Entry Event)) (t : Txn) (ts : ℕ) (key : List ℕ) (front : List Laid) (seq : ℕ) (value : Option (List ℕ)) → IsRun head history
      → Contains (txns_of head t.id history) t → IsCommitted head history t.id ts → writes_on key t.writes ≡ front ++ (seq, value) ∷ [] → LastWriteStands head history t key value ts
  writes_of_committed history t ts key front seq value run known committed is =
      elim (because head history run t.id ts committed) [
        | ByDecision epoch decided ↦ (settled head history run t.id epoch ts decided).stand t known refl key front seq value is
        | ByStaging s commits whose ts_is ↦
            let whole = implied_whole head history run s commits (stages_last head history run) (not_dead head history run s commits) t (subst (λ i. Contains (txns_of head i history) t) (sym whose) known) (sym whose) key front seq value is in
            inr (subst (HasWhole head history t key) ts_is whole)
        | ByTelling none told ↦
            let both : writes_on key [] ≡ front ++ (seq, value) ∷ [] = ap (writes_on key) (sym (unwritten history run t known none)) ∙ is in
            absurd (empty front (seq, value) both)
      ]
    where
      empty : (front : List Laid) (w : Laid) → [] ≡ front ++ w ∷ [] → ⊥
      empty [] w h = absurd cc
      empty (x ∷ front) w h = absurd cc
