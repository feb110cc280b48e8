-- A coordinator as contracts see it, and what it gives next.
use Rattle.std.specs.Prelude.{◌≡◌, ℕ, ◌+◌, ◌&&◌, Bool, true, false, if◌then◌else◌, Option, None, Some, List, [], All, ⊤}
use Rattle.pc_base.specs.declared.transaction.Priority.{Priority}
use Rattle.pc_base.specs.declared.transaction.TxnId.{TxnId}
use Rattle.pc_call.specs.declared.call.OpenCall.{OpenCall}
use Rattle.pc_call.specs.declared.later.LaterPut.{LaterPut}
use Rattle.pc_call.specs.declared.over.Left.{Left}
use Rattle.pc_call.specs.declared.over.Over.{Over}
use Rattle.pc_call.specs.declared.purpose.Purpose.{Purpose}
use Rattle.pc_call.specs.declared.purpose.Purpose.TheVariants as purposes
use Rattle.pc_call.specs.Opening.{reader_of}
use Rattle.pc_call.specs.Setting.{Setting}
use Rattle.pc_coord.specs.declared.due.Due.{Due}
use Rattle.pc_coord.specs.declared.due.Due.TheVariants as dues
use Rattle.pc_coord.specs.declared.due.Opened.{Opened}
use Rattle.pc_coord.specs.declared.job.Job.{Job}
use Rattle.pc_coord.specs.declared.next.Next.{Next}
use Rattle.pc_coord.specs.declared.next.Next.TheVariants as nexts
use Rattle.pc_proto.specs.declared.answer.Answer.{Answer}
use Rattle.pc_proto.specs.declared.answer.Answer.TheVariants as answers
use Rattle.pc_proto.specs.declared.request.Request.{Request}
use Rattle.pc_txn.specs.declared.txn.OpenTxn.{OpenTxn}
use Rattle.pc_txn.specs.Opened.{just_begun}
use Rattle.pc_wave.specs.declared.step.Step.{Step}
use Rattle.pc_wave.specs.declared.step.Step.TheVariants as steps
use Rattle.pc_wave.specs.Messages.{is_to_send, step_of, wave_awaits}
use Rattle.pc_world.specs.Known.Transactions.{begun}
use Rattle.pc_call.specs.Serving.{IsOutOrLost}

-- A coordinator: its session, how often in a row a request may be sent without an answer, whether writes are pipelined, and the keys at which the
-- ranges are cut; the greatest timestamp heard or given; how many transactions were begun; the open transaction, and its puts that wait in the outbox; the reading
-- at which the last call was asked; what is due; and what is left to be done of the last transaction that ended. While an answer is due, the clock, the count and
-- the transaction are those that stand once it was told.
pub record Coordination : Type 0 where
  pub session : ℕ
  pub tries : ℕ
  pub pipelining : Bool
  pub splits : List (List ℕ)
  pub clock : ℕ
  pub begun : ℕ
  pub txn : Option OpenTxn
  pub later : List LaterPut
  pub reading : ℕ
  pub due : Due
  pub job : Option Job

-- In what its session sends its messages, of which some may be lost or none.
abbrev pub setting_of : Bool → Coordination → Setting
setting_of loses c = record { splits = c.splits; course = record { loses = loses; pipelines = c.pipelining } }

-- A coordinator that was just made: it heard nothing and began nothing, and nothing is due or left to be done.
abbrev pub new_coordination : ℕ → ℕ → Bool → List (List ℕ) → Coordination
new_coordination session tries pipelining splits = record { session = session; tries = tries; pipelining = pipelining; splits = splits; clock = 0; begun = 0; txn = None; later = []; reading = 0; due = dues.Nothing; job = None }

-- The call writes, and does nothing else.
abbrev pub is_writing : Purpose → Bool
is_writing purposes.Write = true
is_writing _ = false

-- What comes next by a step of a call's messages; a reader reads there, and a put may be told written at once.
abbrev pub next_by : Option ℕ → Bool → Step → Next
next_by reader at_once (steps.Send request) = if at_once then nexts.Later request else nexts.Send request
next_by reader at_once steps.Deliver = nexts.Wave
next_by reader at_once (steps.Round number conflict) = nexts.Conflict number conflict reader
next_by reader at_once (steps.Blocked holder) = nexts.Idle
next_by reader at_once steps.Answered = nexts.Idle

abbrev pub next_in : Bool → Option OpenTxn → OpenCall → Next
next_in pipelining None call = nexts.Idle
next_in pipelining (Some x) call = next_by (reader_of call.purpose x) (pipelining && is_writing call.purpose) (step_of call.wave)

abbrev pub next_at : Bool → Option OpenTxn → Due → Next
next_at pipelining txn dues.Nothing = nexts.Idle
next_at pipelining txn (dues.Call call) = next_in pipelining txn call
next_at pipelining txn (dues.Tell answer) = nexts.Tell answer

-- The request that is to be sent next, if one is.
abbrev pub request_next : Next → Option Request
request_next (nexts.Send request) = Some request
request_next (nexts.Later request) = Some request
request_next _ = None

-- What a coordinator gives next.
abbrev pub next_of : Coordination → Next
next_of c = next_at c.pipelining c.txn c.due

-- It waits for the message of this number.
abbrev pub awaits_number : ℕ → Due → Bool
awaits_number number dues.Nothing = false
awaits_number number (dues.Call call) = wave_awaits number call.wave
awaits_number number (dues.Tell answer) = false

-- None of the messages of the open call is still to be sent.
abbrev pub SendsNoMore : Due → Type 0
SendsNoMore (dues.Call call) = All (λ m. is_to_send m ≡ false) call.wave
SendsNoMore _ = ⊤

-- All messages of the wave that is due went out; what was lost since, and is no stage, is to be sent again.
abbrev pub HasSentWave : Due → Type 0
HasSentWave (dues.Call call) = All IsOutOrLost call.wave
HasSentWave _ = ⊤

-- It has heard timestamps up to this one.
abbrev pub with_clock : ℕ → Coordination → Coordination
with_clock ts c = record c { clock = ts }

-- What the last transaction left was handed out.
abbrev pub without_job : Coordination → Coordination
without_job c = record c { job = None }

-- This was told: nothing is due.
abbrev pub with_nothing_due : Coordination → Coordination
with_nothing_due c = record c { due = dues.Nothing }

-- The open call goes on by these messages.
abbrev pub calling : OpenCall → OpenTxn → Coordination → Coordination
calling call x c = record c { txn = Some x; due = dues.Call call }

-- The job of what a transaction left, if it left anything.
abbrev pub job_left : Option Left → Option Job
job_left None = None
job_left (Some l) = Some (record { meta = l.meta; staged = l.staged; fate = l.fate; locks = l.locks })

-- A transaction begins at this timestamp, which the clock gave, and its call is to be told so.
abbrev pub beginning : Priority → ℕ → ℕ → Coordination → Coordination
beginning priority reading ts c =
    let id : TxnId = record { session = c.session; number = c.begun + 1 } in
    record c { begun = c.begun + 1; txn = Some (just_begun (begun id priority reading ts)); due = dues.Tell (answers.Begun id ts) }

-- The open transaction was taken out.
abbrev pub without_txn : Coordination → Coordination
without_txn c = record c { txn = None }

-- The open call and its transaction were taken out.
abbrev pub without_call : Coordination → Coordination
without_call c = record c { txn = None; due = dues.Nothing }

-- The open call, where there is one, with its transaction.
abbrev pub opened_by : Option OpenTxn → Due → Option Opened
opened_by None due = None
opened_by (Some x) dues.Nothing = None
opened_by (Some x) (dues.Call call) = Some (record { call = call; txn = x })
opened_by (Some x) (dues.Tell answer) = None

-- The call is to be told how its transaction ends: nothing waits any more, and what that left is to be done.
abbrev pub finishing : Over → Coordination → Coordination
finishing over c = record c { txn = None; later = []; due = dues.Tell over.answer; job = job_left over.left }

-- This is to be told, and then this is the open transaction, and this is left to be done.
abbrev pub telling : Answer → Option OpenTxn → Option Job → Coordination → Coordination
telling answer txn job c = record c { txn = txn; due = dues.Tell answer; job = job }
