-- Finishing jobs: what a transaction leaves behind when it is over is settled by its own session, between calls: each of its locks in
-- key order, and then its record is removed. SIGMOD 2020 paper, section 3.2, "asynchronous intent resolution"; the order and the
-- removal are this project's own profile.
use Rattle.std.specs.Prelude.{◌≡◌, ℕ, Bool, ◌&&◌, Option, None, Some, List, [], ◌∷◌, ◌++◌, All, map, fold, is_some, if◌then◌else◌, slice_get, ⊤}
use Rattle.std.specs.List.{list_any}
use Rattle.std.specs.Option.{option_or}
use Rattle.pc_base.specs.declared.transaction.TxnId.{TxnId}
use Rattle.pc_follows.specs.WaveOrder.{IsHeardOrPut}
use Rattle.pc_history.specs.declared.pair.Pair.{Pair}
use Rattle.pc_proto.specs.declared.answer.Answer.{Answer}
use Rattle.pc_proto.specs.declared.answer.Answer.TheVariants as answers
use Rattle.pc_proto.specs.declared.event.Event.{Event}
use Rattle.pc_proto.specs.declared.event.Event.TheVariants as events
use Rattle.pc_proto.specs.declared.fate.Fate.{Fate}
use Rattle.pc_proto.specs.declared.fate.Fate.TheVariants as fates
use Rattle.pc_proto.specs.declared.request.Request.{Request}
use Rattle.pc_proto.specs.declared.request.Request.TheVariants as requests
use Rattle.pc_proto.specs.Requests.{is_commit}
use Rattle.pc_world.specs.Known.{Known, learn, nothing_known, open_txn}
use Rattle.pc_world.specs.Known.Transactions.{Txn, meta_of}
use Rattle.pc_world.specs.Known.Traffic.{Heard}
use Rattle.pc_world.specs.Views.{fate_heard, shows_committed}

-- The messages that finish a transaction of this fate and anchor: each of these locks is settled, and then its record is removed.
abbrev pub finishing_messages : TxnId → Fate → List ℕ → List (List ℕ) → List Request
finishing_messages id fate anchor locks = map (λ lock. requests.Resolve id lock fate) locks ++ requests.Remove id anchor ∷ []

-- The messages that finish a transaction, where its fate and its anchor are known.
abbrev pub settling : Txn → Option Fate → Option (List ℕ) → List Request
settling t None anchor = []
settling t (Some fate) None = []
settling t (Some fate) (Some anchor) = finishing_messages t.id fate anchor t.locks

-- What is left to be done of a transaction that ends: its settling, where it was heard to be committed or aborted.
abbrev pub left_of : Known → Txn → List Request
left_of k t = settling t (fate_heard t.id k.heard) t.anchor

-- The same of the open transaction; where none is open, nothing is left.
abbrev pub left_if : Known → Option Txn → List Request
left_if k None = []
left_if k (Some t) = left_of k t

-- The reply is to a commit of the transaction, and shows it committed at this timestamp.
abbrev pub is_commit_told : TxnId → ℕ → Heard → Bool
is_commit_told id ts h = is_commit h.request && shows_committed id ts h

-- The explicit commit of a transaction that was told committed, where no commit of it was answered so: what its staging committed its
-- record has to say by itself before its writes are settled.
abbrev pub committing : Known → Txn → ℕ → Option (List ℕ) → List Request
committing k t ts None = []
committing k t ts (Some anchor) =
    if list_any (is_commit_told t.id ts) k.heard then [] else requests.Commit (meta_of t anchor) ts t.locks ∷ []

-- The fate of a transaction that was told committed: as it was heard, else that of its staging.
abbrev pub committed_fate : Known → Txn → ℕ → Option Fate
committed_fate k t ts = option_or (fate_heard t.id k.heard) (Some (fates.Committed t.epoch ts))

-- What is left to be done of the transaction that was told committed.
abbrev pub left_committed : ℕ → Known → Option Txn → List Request
left_committed ts k None = []
left_committed ts k (Some t) = committing k t ts t.anchor ++ settling t (committed_fate k t ts) t.anchor

-- What an answer leaves to be done of the open transaction, which it ends. A commit of which nothing is known leaves nothing.
abbrev pub left_by : Answer → Known → List Request
left_by (answers.Committed id ts) k = left_committed ts k (open_txn k)
left_by (answers.Aborted why) k = left_if k (open_txn k)
left_by (answers.RolledBack id why) k = left_if k (open_txn k)
left_by _ k = []

-- The jobs with one more, if there is anything to do in it.
abbrev pub with_job : List Request → List (List Request) → List (List Request)
with_job [] jobs = jobs
with_job (message ∷ messages) jobs = jobs ++ (message ∷ messages) ∷ []

-- The jobs once the next message of the oldest one was sent.
abbrev pub without_first : List (List Request) → List (List Request)
without_first [] = []
without_first ([] ∷ jobs) = jobs
without_first ((message ∷ []) ∷ jobs) = jobs
without_first ((message ∷ more ∷ messages) ∷ jobs) = (more ∷ messages) ∷ jobs

-- The jobs that wait after an event: an answer that ends a transaction adds its job, and a message between calls is the next one of
-- the oldest job.
abbrev pub jobs_after : Event → Known → List (List Request) → List (List Request)
jobs_after (events.Tell answer) k jobs = with_job (left_by answer k) jobs
jobs_after (events.Send number range request) k jobs = if is_some k.statement then jobs else without_first jobs
jobs_after _ k jobs = jobs

-- What a session knows, and which jobs wait, each by its messages that are still to be sent, the oldest first.
pub record Duty : Type 0 where
  pub known : Known
  pub jobs : List (List Request)

-- What it knows and which jobs wait after one more of its entries.
abbrev pub duty_after : Duty → Pair Event → Duty
duty_after d p = record { known = learn p d.known; jobs = jobs_after p.entry.event d.known d.jobs }

-- The jobs that wait after a session's own list.
abbrev pub jobs_of : List (Pair Event) → List (List Request)
jobs_of own = (fold duty_after (record { known = nothing_known; jobs = [] }) own).jobs

-- The next message of the oldest job.
abbrev pub first_message : List (List Request) → Option Request
first_message [] = None
first_message (job ∷ jobs) = slice_get job 0

-- A message that is sent between calls is the next one of the oldest job, and each message before it was heard, or is a put in flight.
pub record IsDue (k : Known) (jobs : List (List Request)) (request : Request) : Type 0 where
  pub next : first_message jobs ≡ Some request
  pub heard : All (IsHeardOrPut k.heard) k.sent

-- A message that is sent between calls is due.
abbrev pub DoesJobs : Known → List (List Request) → Event → Type 0
DoesJobs k jobs (events.Send number range request) = k.statement ≡ None → IsDue k jobs request
DoesJobs k jobs _ = ⊤
