-- What leaves the evidence of a transaction's stages and commits as it is.
use Rattle.std.specs.Prelude.{◌≡◌, ◌≢◌, ℕ, ◌≤◌, true, false, ◌==◌, ◌⊎◌, Option, None, Some, List, [], All, Contains, map}
use Rattle.std.specs.List.{list_any}
use Rattle.pc_base.specs.declared.transaction.TxnId.{TxnId}
use Rattle.pc_proto.specs.declared.request.Request.{Request}
use Rattle.pc_flight.specs.declared.write.WriteInFlight.{WriteInFlight}
use Rattle.pc_flight.specs.InFlight.{FlightStands, listed_in_flight}
use Rattle.pc_proto.specs.declared.call.Call.TheVariants as calls
use Rattle.pc_staging.specs.Hearing.{HasGrown}
use Rattle.pc_staging.specs.Kept.{Evidence, is_passed_by, is_staged_and_proved}
use Rattle.pc_staging.specs.Standing.{HasUnproved, AreRefutedBelow, ListsUnproved, StagingStands}
use Rattle.pc_world.specs.Known.{Known, call_of, open_txn, reading_of}
use Rattle.pc_world.specs.Known.Traffic.{Heard, Sent}
use Rattle.pc_world.specs.Known.Transactions.{Txn, IsGood, IsMetaOf}
use Rattle.pc_world.specs.Known.Writes.{Write, listed_as, proved_at, unproved, with_put}
use Rattle.pc_world.specs.Send.Commit.{MayCommit, MayDecide}
use Rattle.pc_world.specs.Send.Stage.{MaySendNewStage}
use Rattle.pc_world.specs.StageFate.{OnCommit, OnStage, SentCommit, SentStage, is_write_refuted}
use Rattle.pc_world.specs.Tell.End.{IsImplicit}
use Rattle.pc_world.specs.Views.{shows_undecided}

-- What is not proved later was not proved before.
abbrev pub ProvesOn : List Write → List Write → Type 0
ProvesOn before now = (key : List ℕ) (seq : ℕ) → HasUnproved key seq now → HasUnproved key seq before

-- The transaction is still in its epoch, and has no new write; or nothing is kept of its stages.
abbrev pub StaysOrIsFree : List SentStage → Option ℕ → Txn → Txn → Type 0
StaysOrIsFree stages staged t now =
    ((now.epoch ≡ t.epoch) × ProvesOn t.writes now.writes) ⊎ ((stages ≡ []) × (staged ≡ None))

-- The transaction goes on: it writes no earlier, and new writes and a new epoch wait until its stages are dead.
pub record GoesOnAs (stages : List SentStage) (staged : Option ℕ) (t now : Txn) : Type 0 where
  pub same : now.id ≡ t.id
  pub no_earlier : t.write_ts ≤ now.write_ts
  pub stays : StaysOrIsFree stages staged t now

-- The message is no new stage or commit of the transaction.
pub record SendsNothingNew (stages : List SentStage) (commit : Option SentCommit) (id : TxnId) (request : Request) : Type 0 where
  pub stage : OnStage id (Contains stages) request
  pub commits : OnCommit id (λ c. commit ≡ Some c) request

-- The reply refutes none of the stages, and shows no record of the transaction that is not final; and what it says of its writes, its write
-- timestamp has reached.
pub record LeavesStages (stages : List SentStage) (t : Txn) (h : Heard) : Type 0 where
  pub unrefuted : All (λ s. is_write_refuted s h.request h.reply ≡ false) stages
  pub unseen : shows_undecided t.id h.request h.reply ≡ false
  pub reaches : AreRefutedBelow t.id t.write_ts h

-- The evidence stands on while the session sends and hears what leaves it.
abbrev pub StagingStandsOn : Type 0
StagingStandsOn =
    (k now : Known) (stages : List SentStage) (commit : Option SentCommit) (t later : Txn) (x : Evidence) (sent_more : List Sent) (heard_more : List Heard)
    → StagingStands k stages commit t x → HasGrown k now sent_more heard_more → GoesOnAs stages x.staged t later
    → All (λ m. SendsNothingNew stages commit t.id m.request) sent_more → All (LeavesStages stages later) heard_more
    → StagingStands now stages commit later x

-- Which writes are listed, and what leaves them so.
pub record StagingIsKept : Type 0 where
  -- A stage that lists what is in flight lists each write that is not proved.
  pub lists : (s : SentStage) (writes : List Write) → s.writes ≡ listed_as (unproved writes) → ListsUnproved writes s
  -- A write that is proved, or sent again, leaves no other to be proved.
  pub proves : (key : List ℕ) (seq ts : ℕ) (writes : List Write) → ProvesOn writes (map (proved_at key seq ts) writes)
  pub again : (key : List ℕ) (seq ts : ℕ) (value : Option (List ℕ)) (writes : List Write) → list_any (λ w. w.seq == seq) writes ≡ true → ProvesOn writes (with_put seq ts key value writes)

-- What a stage of the open transaction says: in a commit, all that is in flight, at the write timestamp.
pub record StagesInFlight (k : Known) (t : Txn) (flight : List WriteInFlight) (s : SentStage) : Type 0 where
  pub opened : open_txn k ≡ Some t
  pub asked : call_of k ≡ Some calls.Commit
  pub whose : IsMetaOf t s.meta
  pub good : IsGood k.heard t s.ts
  pub at_write_ts : s.ts ≡ t.write_ts
  pub listed : s.writes ≡ listed_in_flight flight
  pub some : flight ≢ []
  pub read_now : reading_of k ≡ Some s.now
  pub all_locks : s.locks ≡ t.locks

-- The transaction is committing, or was told that it committed, at its write timestamp, where its reads are good.
pub record CommitsThere (k : Known) (t : Txn) (ts : ℕ) : Type 0 where
  pub may : MayCommit k t ts
  pub at_write_ts : ts ≡ t.write_ts
  pub good : IsGood k.heard t ts

-- What the evidence allows, with the writes in flight beside it.
pub record StagingAllows : Type 0 where
  -- A stage of all that is in flight, where no earlier one stands in its way.
  pub stage : (k : Known) (stages : List SentStage) (commit : Option SentCommit) (t : Txn) (x : Evidence) (flight : List WriteInFlight) (s : SentStage) → StagingStands k stages commit t x → FlightStands flight t → is_passed_by x ≡ true → StagesInFlight k t flight s → MaySendNewStage k s
  -- A commit where nothing is in flight and no earlier stage or commit stands in its way.
  pub commits : (k : Known) (stages : List SentStage) (commit : Option SentCommit) (t : Txn) (x : Evidence) (ts : ℕ) → StagingStands k stages commit t x → FlightStands [] t → is_passed_by x ≡ true → CommitsThere k t ts → MayDecide k t ts
  -- The explicit commit of a transaction that its stage committed.
  pub explicit : (k : Known) (stages : List SentStage) (commit : Option SentCommit) (t : Txn) (x : Evidence) (flight : List WriteInFlight) (ts : ℕ) → StagingStands k stages commit t x → FlightStands flight t → is_staged_and_proved flight ts x ≡ true → CommitsThere k t ts → MayDecide k t ts
  -- Nothing is committed by its stage while a write is in flight.
  pub waits : (k : Known) (t : Txn) (flight : List WriteInFlight) (ts : ℕ) → FlightStands flight t → flight ≢ [] → IsImplicit k t ts → ⊥
