-- What may be staged, committed or given up, by what is kept.
use Rattle.std.proofs.Common.{◌≡◌, ℕ, ◌<◌, true, false, ◌&&◌, ◌==◌, not, ◌⊎◌, inl, inr, Option, Some, None, IfSome, is_none, List, length, refl, sym, ap, ◌∙◌, subst, All, Any, Contains, IsTrue}
use Rattle.std.specs.List.{list_all, list_any}
use Rattle.std.specs.Option.{option_map}
use Rattle.std.proofs.lemmas.Bool.{eqb-true}
use Rattle.std.proofs.lemmas.List.Elements.{All-contains, All-weaker}
use Rattle.pc_flight.proofs.Holding.{landed_all}
use Rattle.pc_flight.specs.declared.write.WriteInFlight.{WriteInFlight}
use Rattle.pc_flight.specs.InFlight.{FlightStands}
use Rattle.pc_lists.proofs.Anywhere.{any_weaker}
use Rattle.pc_staging.proofs.Evidenced.{all_dead, all_late, both_true, dead_all, late_all, live_one, one_alive, one_live}
use Rattle.pc_staging.proofs.Fates.{commit_of, each_commit-more, each_stage-more, same_id, stage_of}
use Rattle.pc_staging.specs.Kept.{Evidence, is_dead_by, is_just, is_over, is_passed_by, is_refuted, is_staged_and_proved}
use Rattle.pc_staging.specs.Standing.{IsBehind, IsCommitOut, IsPassedAll, StagingStands, WasStagedAt, WasStageSent}
use Rattle.pc_world.specs.Known.{Known}
use Rattle.pc_world.specs.Known.Traffic.{Heard}
use Rattle.pc_world.specs.Known.Transactions.{Txn}
use Rattle.pc_world.specs.Known.Writes.{IsProvedBy}
use Rattle.pc_world.specs.Send.Stage.{IsPassed}
use Rattle.pc_world.specs.StageFate.{EachCommit, IsCommitWith, IsDead, IsLate, IsStageWith, IsUncommitted, RefutesRecord, RefutesWrite, SentCommit, SentStage, WasCommitRefused, commit_request, stage_request}
use Rattle.pc_world.specs.Tell.End.{IsImplicit, shows_staging}
use Rattle.pc_world.specs.Tell.Refusal.{MayHaveCommitted}

pub passed_late : (heard : List Heard) (ts : ℕ) (s : SentStage) → IsPassed heard ts s → IsLate heard s
passed_late heard ts s h =
    elim h [
      | inl late ↦ late.0
      | inr past ↦ any_weaker (RefutesRecord s) (λ g. RefutesWrite s g ⊎ RefutesRecord s g) (λ g r. inr r) heard past
    ]

module _ (k : Known) (stages : List SentStage) (commit : Option SentCommit) (t : Txn) (x : Evidence) (st : StagingStands k stages commit t x) where
  pub none_out : is_none x.commit ≡ true → commit ≡ None
  none_out is = by commit st.commit_at
    where
      by : (o : Option SentCommit) → x.commit ≡ option_map (λ c. c.ts) o → o ≡ None
      by None e = refl
      by (Some c) e = let bad : false ≡ true = sym (ap is_none e) ∙ is in absurd cc

  pub all_refused : commit ≡ None → EachCommit t.id k.sent (WasCommitRefused k.heard)
  all_refused none =
      each_commit-more t.id (λ c. (commit ≡ Some c) ⊎ WasCommitRefused k.heard c) (WasCommitRefused k.heard)
      (λ c h. elim h [ inl is ↦ let bad : None ≡ Some c = sym none ∙ is in absurd cc | inr refused ↦ refused ])
      k.sent st.refused

  none_kept : EachCommit t.id k.sent (WasCommitRefused k.heard) → is_none x.commit ≡ true
  none_kept all = by commit refl st.out
    where
      by : (o : Option SentCommit) → commit ≡ o → IfSome o (IsCommitOut k.sent k.heard t.id) → is_none x.commit ≡ true
      by None is out = ap is_none (st.commit_at ∙ ap (option_map (λ c. c.ts)) is)
      by (Some c) is out = absurd (out.unrefused (commit_of t.id (WasCommitRefused k.heard) k.sent all c out.whose out.went_out))

  pub late_stages : is_passed_by x ≡ true → All (λ s. IsLate k.heard s × (s.ts < t.write_ts)) stages
  late_stages is = all_late k.heard t st.reached stages x.stages st.kept (both_true (is_none x.commit) (list_all is_refuted x.stages) is).1

  pub passed_yes : is_passed_by x ≡ true → IsPassedAll k t
  passed_yes is = record {
    stages =
        each_stage-more t.id (λ s. IsBehind k.heard t.write_ts s ⊎ Contains stages s) (IsPassed k.heard t.write_ts)
        (λ s h.
        elim h [
          | inl behind ↦ behind.passed
          | inr there ↦ inl (All-contains (λ s. IsLate k.heard s × (s.ts < t.write_ts)) stages s (late_stages is) there)
        ])
        k.sent st.each;
    commits = all_refused (none_out (both_true (is_none x.commit) (list_all is_refuted x.stages) is).0);
  }

  pub passed_all : IsPassedAll k t → is_passed_by x ≡ true
  passed_all p =
      ap (λ b. b && list_all is_refuted x.stages) (none_kept p.commits)
      ∙ late_all k.heard t stages x.stages st.kept
      (All-weaker (WasStageSent k.sent t.id) (IsLate k.heard) (λ s w. passed_late k.heard t.write_ts s (stage_of t.id (IsPassed k.heard t.write_ts) k.sent p.stages s w.whose w.went_out)) stages st.sent)

  pub over_yes : is_over x ≡ true → IsUncommitted t.id k.sent k.heard
  over_yes is =
      let parts = both_true (is_none x.commit) (list_all (is_dead_by x.undecided) x.stages) is in
      let dead = all_dead k.heard t x.undecided st.last_undecided stages x.stages st.kept parts.1 in
      record {
        stages =
            each_stage-more t.id (λ s. IsBehind k.heard t.write_ts s ⊎ Contains stages s) (IsDead k.heard)
            (λ s h. elim h [ inl behind ↦ behind.dead | inr there ↦ All-contains (IsDead k.heard) stages s dead there ])
            k.sent st.each;
        commits = all_refused (none_out parts.0);
      }

  pub over_all : IsUncommitted t.id k.sent k.heard → is_over x ≡ true
  over_all u =
      ap (λ b. b && list_all (is_dead_by x.undecided) x.stages) (none_kept u.commits)
      ∙ dead_all k.heard t x.undecided st.last_undecided stages x.stages st.kept
      (All-weaker (WasStageSent k.sent t.id) (IsDead k.heard) (λ s w. stage_of t.id (IsDead k.heard) k.sent u.stages s w.whose w.went_out) stages st.sent)

  pub in_doubt : is_over x ≡ false → MayHaveCommitted k t.id
  in_doubt is = by commit refl st.out
    where
      by : (o : Option SentCommit) → commit ≡ o → IfSome o (IsCommitOut k.sent k.heard t.id) → MayHaveCommitted k t.id
      by (Some c) none out =
          let P : SentCommit → Type 0 = λ c. WasCommitRefused k.heard c → ⊥ in
          inr (any_weaker (λ m. m.request ≡ commit_request c) (λ m. IsCommitWith t.id P m.request)
          (λ m asks. subst (IsCommitWith t.id P) (sym asks) (same_id c.meta.id t.id out.whose, out.unrefused))
          k.sent out.went_out)
      by None none out =
          let P : SentStage → Type 0 = λ s. IsDead k.heard s → ⊥ in
          let free : is_none x.commit ≡ true = ap is_none (st.commit_at ∙ ap (option_map (λ c. c.ts)) none) in
          let alive = one_alive k.heard t x.undecided st.last_undecided stages x.stages st.kept (sym (ap (λ b. b && list_all (is_dead_by x.undecided) x.stages) free) ∙ is) in
          let w : WasStageSent k.sent t.id alive.0 = All-contains (WasStageSent k.sent t.id) stages alive.0 st.sent alive.1 in
          inl (any_weaker (λ m. m.request ≡ stage_request alive.0) (λ m. IsStageWith t.id P m.request)
          (λ m asks. subst (IsStageWith t.id P) (sym asks) (same_id alive.0.meta.id t.id w.whose, alive.2))
          k.sent w.went_out)

  pub live_stage : (ts : ℕ) → list_any (λ o. o.ts == ts && not (is_refuted o)) x.stages ≡ true → (s : SentStage) → Contains stages s → s.ts ≡ ts → IsLate k.heard s → ⊥
  live_stage ts is s there at late =
      let found = one_live k.heard t ts stages x.stages st.kept is in
      let same : s ≡ found.0 = st.apart s found.0 there found.1 (at ∙ sym found.2) in
      found.3 (subst (IsLate k.heard) same late)

  pub live_kept : (ts : ℕ) (s : SentStage) → Contains stages s → s.ts ≡ ts → (IsLate k.heard s → ⊥) → list_any (λ o. o.ts == ts && not (is_refuted o)) x.stages ≡ true
  live_kept ts s there at unlate = live_one k.heard t ts stages x.stages st.kept s there at unlate

  pub implicit : (flight : List WriteInFlight) (ts : ℕ) → FlightStands flight t → ts ≡ t.write_ts → is_staged_and_proved flight ts x ≡ true → IsImplicit k t ts
  implicit flight ts f at is =
      let parts = both_true (length flight == 0) (is_just ts x.staged) is in
      record {
        staging = by x.staged parts.1 st.last_staged;
        proved = subst (λ n. All (IsProvedBy n) t.writes) (sym at) (landed_all flight t f (eqb-true (length flight) 0 parts.0));
      }
    where
      by : (o : Option ℕ) → is_just ts o ≡ true → IfSome o (WasStagedAt k.heard t) → Any (λ h. IsTrue (shows_staging t.id t.epoch ts h)) k.heard
      by None just h = absurd cc
      by (Some own) just h = subst (λ n. WasStagedAt k.heard t n) (eqb-true own ts just) h

  -- the stage at which it was last heard to be staged is one that is kept
  pub staged_there : (flight : List WriteInFlight) (ts : ℕ) → is_staged_and_proved flight ts x ≡ true → (y : SentStage) × Contains stages y × (y.ts ≡ ts)
  staged_there flight ts is = by x.staged (both_true (length flight == 0) (is_just ts x.staged) is).1 st.staged_by
    where
      by : (o : Option ℕ) → is_just ts o ≡ true → IfSome o (λ at. Any (λ y. y.ts ≡ at) stages) → (y : SentStage) × Contains stages y × (y.ts ≡ ts)
      by None just h = absurd cc
      by (Some own) just (n, y, inside, at, is) = (y, (n, inside, at), is ∙ eqb-true own ts just)
