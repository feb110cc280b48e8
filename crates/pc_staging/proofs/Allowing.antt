-- Which stage and which commit may be sent.
use Rattle.std.proofs.Common.{◌≡◌, ◌≢◌, ℕ, ◌<◌, ◌≤◌, ◌⊎◌, inl, inr, true, not, Option, Some, List, [], ◌∷◌, refl, sym, ◌∙◌, subst, arith, All, Any, Contains, IsTrue}
use Rattle.std.specs.List.{list_any}
use Rattle.std.proofs.lemmas.List.Elements.{All-contains}
use Rattle.pc_flight.proofs.Holding.{flights_hold, landed_all, staged_list}
use Rattle.pc_flight.specs.declared.write.WriteInFlight.{WriteInFlight}
use Rattle.pc_flight.specs.InFlight.{FlightStands, listed_in_flight}
use Rattle.pc_lists.proofs.Lists.{contains_head, contains_nil}
use Rattle.pc_staging.proofs.Deciding.{implicit, passed_late, passed_yes, staged_there}
use Rattle.pc_staging.proofs.Evidenced.{late_below}
use Rattle.pc_staging.proofs.Fates.{each_commit-more, each_stage-more}
use Rattle.pc_staging.specs.Kept.{Evidence, is_passed_by, is_staged_and_proved}
use Rattle.pc_staging.specs.Laws.{CommitsThere, StagesInFlight, StagingAllows}
use Rattle.pc_staging.specs.Standing.{IsBehind, StagingStands}
use Rattle.pc_world.specs.Known.{Known}
use Rattle.pc_world.specs.Known.Transactions.{Txn}
use Rattle.pc_world.specs.Known.Writes.{IsProvedBy, is_proved}
use Rattle.pc_world.specs.Send.Commit.{MayDecide}
use Rattle.pc_world.specs.Send.Stage.{IsPassed, MaySendNewStage}
use Rattle.pc_world.specs.Tell.End.{IsImplicit}
use Rattle.pc_world.specs.StageFate.{EachStage, IsLate, SentCommit, SentStage, WasCommitRefused}

module _ (k : Known) (stages : List SentStage) (commit : Option SentCommit) (t : Txn) (x : Evidence) (st : StagingStands k stages commit t x) where
  some_listed : (flight : List WriteInFlight) → flight ≢ [] → listed_in_flight flight ≢ []
  some_listed [] some none = some refl
  some_listed (f ∷ fs) some none = absurd cc

  new_stage : (flight : List WriteInFlight) (s : SentStage) → FlightStands flight t → is_passed_by x ≡ true → StagesInFlight k t flight s → MaySendNewStage k s
  new_stage flight s f passed a =
      let p = passed_yes k stages commit t x st passed in
      record {
        t = t;
        opened = a.opened;
        asked = a.asked;
        whose = a.whose;
        good = a.good;
        proved = subst (λ n. All (λ w. IsTrue (is_proved w) → IsProvedBy n w) t.writes) (sym a.at_write_ts) f.landed;
        in_flight = a.listed ∙ staged_list flight t.writes f.in_flight;
        some = λ none. some_listed flight a.some (sym a.listed ∙ none);
        at_write_ts = a.at_write_ts;
        read_now = a.read_now;
        all_locks = a.all_locks;
        stages = subst (λ n. EachStage t.id k.sent (IsPassed k.heard n)) (sym a.at_write_ts) p.stages;
        commits = p.commits;
      }

  commits_there : (ts : ℕ) → FlightStands [] t → is_passed_by x ≡ true → CommitsThere k t ts → MayDecide k t ts
  commits_there ts f passed a =
      let p = passed_yes k stages commit t x st passed in
      record {
        may = a.may;
        at_write_ts = a.at_write_ts;
        good = a.good;
        proved = subst (λ n. All (IsProvedBy n) t.writes) (sym a.at_write_ts) (landed_all [] t f refl);
        stages = each_stage-more t.id (IsPassed k.heard t.write_ts) (λ s. s.ts ≢ ts → IsLate k.heard s) (λ s passed differs. passed_late k.heard t.write_ts s passed) k.sent p.stages;
        commits = each_commit-more t.id (WasCommitRefused k.heard) (λ c. c.ts ≢ ts → WasCommitRefused k.heard c) (λ c refused differs. refused) k.sent p.commits;
      }

  module _ (flight : List WriteInFlight) (ts : ℕ) (f : FlightStands flight t) (is : is_staged_and_proved flight ts x ≡ true) (a : CommitsThere k t ts) where
    -- the stage by which it is committed
    staging : (y : SentStage) × Contains stages y × (y.ts ≡ ts)
    staging = staged_there k stages commit t x st flight ts is

    other_late : (s : SentStage) → Contains stages s → s.ts ≢ ts → IsLate k.heard s
    other_late s there differs =
        let own : SentStage = staging.0 in
        let at : own.ts ≡ ts = staging.2 in
        let top : ts ≡ t.write_ts = a.at_write_ts in
        let most : s.ts ≤ t.write_ts = All-contains (λ s. s.ts ≤ t.write_ts) stages s st.timely there in
        let low : s.ts < own.ts = omega (arith, at, top, most, differs) in
        st.older s own there staging.1 low

    none_sent : (c : SentCommit) → commit ≡ Some c → ⊥
    none_sent c sent =
        let own : SentStage = staging.0 in
        let late : IsLate k.heard own = All-contains (IsLate k.heard) stages own (st.behind_commit c sent) staging.1 in
        let low : own.ts < t.write_ts = late_below k.heard t st.reached stages x.stages st.kept own staging.1 late in
        let at : own.ts ≡ ts = staging.2 in
        let top : ts ≡ t.write_ts = a.at_write_ts in
        absurd (omega (arith, low, at, top))

    explicit_commit : MayDecide k t ts
    explicit_commit = record {
      may = a.may;
      at_write_ts = a.at_write_ts;
      good = a.good;
      proved = (implicit k stages commit t x st flight ts f a.at_write_ts is).proved;
      stages = each_stage-more t.id (λ s. IsBehind k.heard t.write_ts s ⊎ Contains stages s) (λ s. s.ts ≢ ts → IsLate k.heard s)
          (λ s h differs. elim h [ inl behind ↦ passed_late k.heard t.write_ts s behind.passed | inr there ↦ other_late s there differs ])
          k.sent st.each;
      commits = each_commit-more t.id (λ c. (commit ≡ Some c) ⊎ WasCommitRefused k.heard c) (λ c. c.ts ≢ ts → WasCommitRefused k.heard c)
          (λ c h differs. elim h [ inl sent ↦ absurd (none_sent c sent) | inr refused ↦ refused ])
          k.sent st.refused;
    }

proved_by : (ts : ℕ) (proofs : List ℕ) → Any (λ proof. proof ≤ ts) proofs → list_any (λ ts. true) proofs ≡ true
proved_by ts [] some = absurd (contains_nil some.1 (some.0, some.2, some.3))
proved_by ts (p ∷ ps) some = refl

waits_in_flight : (k : Known) (t : Txn) (flight : List WriteInFlight) (ts : ℕ) → FlightStands flight t → flight ≢ [] → IsImplicit k t ts → ⊥
waits_in_flight k t [] ts f some i = some refl
waits_in_flight k t (w ∷ ws) ts f some i =
    let u = flights_hold.known (w ∷ ws) t.writes f.in_flight w (contains_head w ws) in
    let proved : list_any (λ ts. true) u.w.proofs ≡ true = proved_by ts u.w.proofs (All-contains (IsProvedBy ts) t.writes u.w i.proved u.written) in
    let unproved : not (list_any (λ ts. true) u.w.proofs) ≡ true = u.unproved in
    absurd cc

pub allows : StagingAllows
allows = record {
  stage = λ k stages commit t x flight s st f passed a. new_stage k stages commit t x st flight s f passed a;
  commits = λ k stages commit t x ts st f passed a. commits_there k stages commit t x st ts f passed a;
  waits = waits_in_flight;
  explicit = λ k stages commit t x flight ts st f is a. explicit_commit k stages commit t x st flight ts f is a;
}
