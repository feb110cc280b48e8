-- A call goes on once the heartbeat of its transaction was heard.
use Rattle.std.specs.Prelude.{Option, None, Some}
use Rattle.pc_call.specs.declared.purpose.Purpose.{Purpose}
use Rattle.pc_call.specs.declared.purpose.Purpose.TheVariants as purposes
use Rattle.pc_call.specs.Fresh.{IsFresh}
use Rattle.pc_call.specs.Suiting.{SuitsFlightIn}
use Rattle.pc_proto.specs.declared.call.Call.{Call}
use Rattle.pc_proto.specs.declared.why.Why.{Why}
use Rattle.pc_txn.specs.declared.txn.OpenTxn.{OpenTxn}
use Rattle.pc_wave.specs.Course.{Course}
use Rattle.pc_world.specs.Known.{Known}
use Rattle.pc_world.specs.Known.Statements.{Statement}
use Rattle.pc_world.specs.Tell.Refusal.{MayBlock}

-- The call that goes on after a heartbeat.
abbrev pub call_kept : Purpose → Option Call
call_kept (purposes.Beat call reading) = Some call
call_kept _ = None

-- The statement begins, its heartbeat heard: it reads, writes or commits, and suits the transaction.
pub record GoesOnAlive (course : Course) (k : Known) (x : OpenTxn) (s : Statement) : Type 0 where
  pub why : Why
  pub fresh : IsFresh course.loses k x s why
  pub asks : MayBlock s.call
  pub suits : SuitsFlightIn course.pipelines s.call x.in_flight
