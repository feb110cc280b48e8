-- The same stage or commit of the open transaction goes out once more, as it was lost: the transaction stays as it is.
use Rattle.std.proofs.Common.{◌≡◌, ◌≢◌, ℕ, max, false, ◌⊎◌, inl, inr, List, [], ◌∷◌, ◌++◌, Option, Some, refl, sym, ap, ◌∙◌, subst, arith, All, Contains, IsTrue}
use Rattle.std.proofs.lemmas.List.{append-nil}
use Rattle.std.proofs.lemmas.List.Elements.{All-cons, All-contains, All-nil, All-push}
use Rattle.std.proofs.lemmas.Option.{same_Some}
use Rattle.pc_base.specs.declared.actor.ActorId.{ActorId}
use Rattle.pc_base.specs.Transaction.{same_txn}
use Rattle.pc_flight.proofs.Holding.{landed_all}
use Rattle.pc_flight.specs.InFlight.{FlightStands}
use Rattle.pc_follows.specs.Heartbeats.{is_heartbeat, last_shown}
use Rattle.pc_lists.proofs.Same.{same_txn-self}
use Rattle.pc_proto.specs.declared.call.Call.TheVariants as calls
use Rattle.pc_proto.specs.Requests.{is_put_of}
use Rattle.pc_reads.specs.ReadsStanding.{TxnReadsStand}
use Rattle.pc_staging.proofs.Deciding.{passed_late}
use Rattle.pc_staging.proofs.Fates.{commit_new, commit_no_stage, each_commit-more, each_stage-more, on_stage-more, stage_new, stage_no_commit}
use Rattle.pc_staging.proofs.Going.{staging_on}
use Rattle.pc_staging.proofs.Hears as hears
use Rattle.pc_staging.specs.Laws.{LeavesStages, SendsNothingNew}
use Rattle.pc_staging.specs.Standing.{IsBehind, StagingStands}
use Rattle.pc_txn.proofs.Above.{StaysUp, any_above, reach_on}
use Rattle.pc_txn.proofs.Accounted.{accounted_on}
use Rattle.pc_txn.proofs.Commits.{commit_now}
use Rattle.pc_txn.proofs.Same.{if_true}
use Rattle.pc_txn.proofs.Shown.{shown-one}
use Rattle.pc_txn.proofs.Written.{writes_on}
use Rattle.pc_txn.specs.declared.txn.OpenTxn.{OpenTxn}
use Rattle.pc_txn.specs.Standing.{AreLateByWrites, AreLiveHere, AreStagedThere, HasMovedOn, IsAccountedFor, IsUndecidedOf, TxnStands}
use Rattle.pc_txn.specs.Opened.{own_commit, with_commit}
use Rattle.pc_txn.specs.Writing.{IsFoundProved, IsNotWritten, PutsUpTo, WritesStand}
use Rattle.pc_world.specs.Known.{Known, call_of, open_txn}
use Rattle.pc_world.specs.Known.Reads.{IsGoodAt}
use Rattle.pc_world.specs.Known.Traffic.{Sent}
use Rattle.pc_world.specs.Known.Transactions.{Txn, txn_sent}
use Rattle.pc_world.specs.Known.Writes.{last_seq_of}
use Rattle.pc_world.specs.MaySend.{MaySendRow}
use Rattle.pc_world.specs.Send.Commit.{MayDecide}
use Rattle.pc_world.specs.StageFate.{IsLate, OnCommit, OnStage, SentCommit, SentStage, WasCommitRefused, commit_request, stage_request}

module _ (k now : Known) (stages : List SentStage) (commit : Option SentCommit) (t : Txn) (x : OpenTxn) (m : Sent) (st : TxnStands k stages commit t x) (more : HasMovedOn k now (m ∷ []) []) where
  heard-same : now.heard ≡ k.heard
  heard-same = more.heard ∙ append-nil k.heard

  stays_up : StaysUp t t
  stays_up = record { id = refl; epoch = refl; up = omega arith }

  abbrev P0 : SentStage → Type 0
  P0 = IsAccountedFor stages (k.heard ++ []) t

  -- one that is kept is of this epoch
  known_one : (s : SentStage) → Contains stages s → P0 s
  known_one s there =
      let own = hears.own_each k.heard t stages x.staging.stages st.staging.kept s there in
      let epoch : s.meta.epoch ≡ t.epoch = own.1 in
      record { no_later = omega (arith, epoch); fate = λ same. inl there }

  -- where it is a stage that is kept, or the commit that is out
  module _ (stage : OnStage t.id (Contains stages) m.request) (commits : OnCommit t.id (λ c. commit ≡ Some c) m.request) (silent : is_heartbeat m.request ≡ false) (no_put : (epoch seq : ℕ) → IsTrue (is_put_of t.id epoch seq m.request) → ⊥) where
    staging2 : StagingStands now stages commit t x.staging
    staging2 =
        staging_on k now stages commit t t x.staging (m ∷ []) [] st.staging (record { sent = more.sent; heard = more.heard })
        (record { same = refl; no_earlier = omega arith; stays = inl (refl, λ key seq u. u) })
        (All-cons (λ m. SendsNothingNew stages commit t.id m.request) m [] (record { stage = stage; commits = commits }) (All-nil (λ m. SendsNothingNew stages commit t.id m.request)))
        (All-nil (LeavesStages stages t))

    known_again : TxnStands now stages commit t x
    known_again = record {
      same = st.same;
      number = omega (arith, st.number, more.begun);
      begun = st.begun;
      behind = st.behind;
      at_begin = st.at_begin;
      below = reach_on k now (m ∷ []) [] more t t refl refl st.below;
      views = subst (λ hs. All (IsUndecidedOf t) hs) (sym heard-same) st.views;
      shown = st.shown ∙ sym (ap (last_shown t) more.sent ∙ shown-one t k.sent m silent);
      staged = subst (λ hs. AreStagedThere stages hs t) (sym heard-same) st.staged;
      accounted =
          accounted_on k now (m ∷ []) [] more t t refl stages stages (λ ts above. any_above k.heard [] t t stays_up ts t.writes above) (λ s there. inl there) st.accounted
          (All-cons (λ m. OnStage t.id P0 m.request) m [] (on_stage-more t.id (Contains stages) P0 known_one m.request stage) (All-nil (λ m. OnStage t.id P0 m.request)));
      late = subst (λ hs. AreLateByWrites stages hs t) (sym heard-same) st.late;
      live = subst (λ hs. AreLiveHere stages hs x.staging.staged t) (sym heard-same) st.live;
      puts =
          subst (λ ms. All (λ m. PutsUpTo t (last_seq_of t.writes) m.request) ms) (sym more.sent)
          (All-push (λ m. PutsUpTo t (last_seq_of t.writes) m.request) k.sent m st.puts (λ epoch seq put. absurd (no_put epoch seq put)));
      put_heard = subst (λ hs. All (λ h. PutsUpTo t (last_seq_of t.writes) h.request) hs) (sym heard-same) st.put_heard;
      found = subst (λ hs. All (IsFoundProved t) hs) (sym heard-same) st.found;
      writes =
          subst (λ ms. WritesStand ms now.heard t) (sym more.sent)
          (subst (λ hs. WritesStand (k.sent ++ m ∷ []) hs t) (sym more.heard) (writes_on k.sent (m ∷ []) k.heard [] t st.writes (All-nil (λ h. (seq : ℕ) → IsNotWritten t seq h))));
      flight = st.flight;
      staging = staging2;
      reads = subst (λ hs. TxnReadsStand t.id hs t.reads x.reads) (sym heard-same) st.reads;
    }

  -- a stage that is kept goes out again, where the transaction reads at its timestamp
  pub stage_sent_again : (s : SentStage) → Contains stages s → m.request ≡ stage_request s → t.read_ts ≡ s.ts → TxnStands now stages commit (txn_sent m.request t) x
  stage_sent_again s there said at =
      subst (λ t2. TxnStands now stages commit t2 x) (sym same)
      (known_again (stage_new t.id (Contains stages) s m.request said there) (stage_no_commit t.id (λ c. commit ≡ Some c) s m.request said) (ap is_heartbeat said) (λ epoch seq put. subst (λ r. IsTrue (is_put_of t.id epoch seq r) → ⊥) (sym said) (λ put. absurd cc) put))
    where
      own : s.meta.id ≡ t.id
      own = (hears.own_each k.heard t stages x.staging.stages st.staging.kept s there).0

      same : txn_sent m.request t ≡ t
      same =
          let F : ℕ → Txn = λ n. record t { read_ts = n } in
          let top : max t.read_ts s.ts ≡ t.read_ts = omega (arith, at) in
          ap (λ r. txn_sent r t) said ∙ ap F (if_true (same_txn s.meta.id t.id) (max t.read_ts s.ts) t.read_ts (ap (λ id. same_txn id t.id) own ∙ same_txn-self t.id) ∙ top)

  -- so does the commit that is out
  pub commit_sent_again : (c : SentCommit) → commit ≡ Some c → c.meta.id ≡ t.id → m.request ≡ commit_request c → t.read_ts ≡ c.ts → TxnStands now stages commit (txn_sent m.request t) x
  commit_sent_again c out own said at =
      subst (λ t2. TxnStands now stages commit t2 x) (sym same)
      (known_again (commit_no_stage t.id (Contains stages) c m.request said) (commit_new t.id (λ c. commit ≡ Some c) c m.request said out) (ap is_heartbeat said) (λ epoch seq put. subst (λ r. IsTrue (is_put_of t.id epoch seq r) → ⊥) (sym said) (λ put. absurd cc) put))
    where
      same : txn_sent m.request t ≡ t
      same =
          let F : ℕ → Txn = λ n. record t { read_ts = n } in
          let top : max t.read_ts c.ts ≡ t.read_ts = omega (arith, at) in
          ap (λ r. txn_sent r t) said ∙ ap F (if_true (same_txn c.meta.id t.id) (max t.read_ts c.ts) t.read_ts (ap (λ id. same_txn id t.id) own ∙ same_txn-self t.id) ∙ top)

-- ---- the commit that is out

module _ (k : Known) (stages : List SentStage) (t : Txn) (x : OpenTxn) (anchor : List ℕ) (st : TxnStands k stages (Some (commit_now t anchor)) t x) where
  writes_at : x.write_ts ≡ t.write_ts
  writes_at = ap (λ (x : OpenTxn). x.write_ts) st.same

  -- it is kept already, where the transaction reads at its write timestamp
  pub commit_kept : t.read_ts ≡ t.write_ts → with_commit x ≡ x
  commit_kept at =
      let F : ℕ → Option ℕ → OpenTxn = λ n o. record x { reads = record { spans = x.reads.spans; ts = n }; staging = record x.staging { commit = o } } in
      let kept : Some x.write_ts ≡ x.staging.commit = ap Some writes_at ∙ sym st.staging.commit_at in
      let reads : x.write_ts ≡ x.reads.ts = writes_at ∙ sym at ∙ sym (ap (λ (x : OpenTxn). x.reads.ts) st.same) in
      ap (λ n. F n (Some x.write_ts)) reads ∙ ap (F x.reads.ts) kept

  -- it may go out again
  pub may_commit_again : (splits : List (List ℕ)) (actor : ActorId) → Contains k.txns t → open_txn k ≡ Some t → x.in_flight ≡ [] → t.anchor ≡ Some anchor → call_of k ≡ Some calls.Commit → t.read_ts ≡ t.write_ts → MaySendRow splits actor k (own_commit x anchor)
  may_commit_again splits actor mine opened none anchored asked at =
      subst (λ x. MaySendRow splits actor k (own_commit x anchor)) (sym st.same)
      (record { t = t; mine = mine; whose = record { anchored = anchored; same = refl }; all_locks = refl; decided = inl decides })
    where
      good : All (IsGoodAt t.id k.heard t.write_ts) t.reads
      good = subst (λ n. All (IsGoodAt t.id k.heard n) t.reads) (ap (λ (x : OpenTxn). x.reads.ts) st.same ∙ at) st.reads.good

      decides : MayDecide k t t.write_ts
      decides = record {
        may = inl (opened, asked);
        at_write_ts = refl;
        good = record { begun = omega (arith, st.begun, st.behind); reads = good };
        proved = landed_all [] t (subst (λ fs. FlightStands fs t) none st.flight) refl;
        stages = each_stage-more t.id (λ s. IsBehind k.heard t.write_ts s ⊎ Contains stages s) (λ s. s.ts ≢ t.write_ts → IsLate k.heard s)
            (λ s h differs. elim h [ inl behind ↦ passed_late k.heard t.write_ts s behind.passed | inr there ↦ All-contains (IsLate k.heard) stages s (st.staging.behind_commit (commit_now t anchor) refl) there ])
            k.sent st.staging.each;
        commits = each_commit-more t.id (λ c. (Some (commit_now t anchor) ≡ Some c) ⊎ WasCommitRefused k.heard c) (λ c. c.ts ≢ t.write_ts → WasCommitRefused k.heard c)
            (λ c h differs. elim h [ inl same ↦ absurd (differs (sym (ap (λ (c : SentCommit). c.ts) (same_Some (commit_now t anchor) c same)))) | inr refused ↦ refused ])
            k.sent st.staging.refused;
      }
