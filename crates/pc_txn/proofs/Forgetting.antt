-- The open transaction forgets its stages, where each of them is dead and no commit is out.
use Rattle.std.proofs.Common.{◌≡◌, ℕ, true, inl, inr, List, [], Option, None, ap, Any}
use Rattle.std.proofs.lemmas.List.Elements.{All-nil}
use Rattle.pc_staging.proofs.Fates.{each_stage-more}
use Rattle.pc_staging.proofs.Sending.{forgets}
use Rattle.pc_staging.specs.Kept.{Evidence, is_over, without_stages}
use Rattle.pc_txn.proofs.Accounted.{kept_at}
use Rattle.pc_txn.proofs.Late.{dead_late, kept_above}
use Rattle.pc_txn.specs.declared.txn.OpenTxn.{OpenTxn}
use Rattle.pc_txn.specs.Standing.{IsAccountedFor, IsFateKnown, IsStageHere, StandsAbove, TxnStands}
use Rattle.pc_world.specs.Known.{Known}
use Rattle.pc_world.specs.Known.Transactions.{Txn}
use Rattle.pc_world.specs.StageFate.{IsLate, SentCommit, SentStage}

module _ (k : Known) (stages : List SentStage) (commit : Option SentCommit) (t : Txn) (x : OpenTxn) (st : TxnStands k stages commit t x) (over : is_over x.staging ≡ true) where
  above : (ts : ℕ) → Any (λ s. s.ts ≡ ts) stages → Any (StandsAbove k.heard t ts) t.writes
  above ts kept = kept_above k.heard t stages ts st.late (dead_late k stages commit t x.staging st.staging over) kept

  known : (s : SentStage) → IsFateKnown stages k.heard t s → IsFateKnown [] k.heard t s
  known s (inl there) = inr (inl (above s.ts (kept_at stages s there)))
  known s (inr other) = inr other

  -- then it stands, and no stage of it is kept
  pub stands_forgotten : TxnStands k [] None t (record x { staging = without_stages x.staging })
  stands_forgotten =
      let kept : Evidence = without_stages x.staging in
      record {
        same = ap (λ (x : OpenTxn). record x { staging = kept }) st.same;
        number = st.number;
        begun = st.begun;
        behind = st.behind;
        at_begin = st.at_begin;
        below = st.below;
        views = st.views;
        shown = st.shown;
        staged = λ ts was. inr (elim (st.staged ts was) [ inl kept ↦ above ts kept | inr stands ↦ stands ]);
        accounted =
            each_stage-more t.id (IsAccountedFor stages k.heard t) (IsAccountedFor [] k.heard t) (λ s a. record { no_later = a.no_later; fate = λ same. known s (a.fate same) }) k.sent st.accounted;
        late = All-nil (λ s. IsLate k.heard s → Any (StandsAbove k.heard t s.ts) t.writes);
        live = All-nil (λ s. (IsLate k.heard s → ⊥) → IsStageHere k.heard None t s);
        puts = st.puts;
        put_heard = st.put_heard;
        found = st.found;
        writes = st.writes;
        flight = st.flight;
        staging = forgets k stages commit t x.staging st.staging over;
        reads = st.reads;
      }
