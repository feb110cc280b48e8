-- How an open call goes on, beside what its session knows.
use Rattle.std.specs.Prelude.{◌≡◌, ℕ, Bool, true, false, None, Some, All, ⊤}
use Rattle.pc_base.specs.declared.transaction.TxnId.{TxnId}
use Rattle.pc_call.specs.declared.call.OpenCall.{OpenCall}
use Rattle.pc_call.specs.declared.purpose.Purpose.{Purpose}
use Rattle.pc_call.specs.declared.purpose.Purpose.TheVariants as purposes
use Rattle.pc_call.specs.GivingUp.{IsAfterAllHeard}
use Rattle.pc_call.specs.Missing.{IsAboveMisses}
use Rattle.pc_call.specs.Learned.{known_heard}
use Rattle.pc_call.specs.Rounding.{GoesOnBeside, MakesRound, RefusesRound}
use Rattle.pc_call.specs.Serving.{InCall, IsOutOrLost}
use Rattle.pc_call.specs.Stages.{IsFirstOut}
use Rattle.pc_coord.specs.Aside.{KeepsAside}
use Rattle.pc_coord.specs.Coordination.{Coordination, setting_of}
use Rattle.pc_coord.specs.Events.{IsAnsweredAlive}
use Rattle.pc_coord.specs.declared.round.Round.{Round}
use Rattle.pc_coord.specs.Knows.{KeepsCourse}
use Rattle.pc_coord.specs.declared.round.Round.TheVariants as rounds
use Rattle.pc_proto.specs.declared.reply.Reply.{Reply}
use Rattle.pc_proto.specs.declared.why.Why.{Why}
use Rattle.pc_txn.specs.Counted.{IsCounted}
use Rattle.pc_txn.specs.declared.txn.OpenTxn.{OpenTxn}
use Rattle.pc_wave.specs.Messages.{is_to_send, wave_awaits}
use Rattle.pc_wave.specs.Standing.{IsHeardTo}
use Rattle.pc_world.specs.Known.{Known, reading_of}
use Rattle.pc_world.specs.Known.Statements.{Statement}
use Rattle.pc_world.specs.Known.Traffic.{Heard}
use Rattle.pc_world.specs.MayTell.{is_begin}
use Rattle.pc_world.specs.Tell.Refusal.{WasLost}

-- The coordinator counts as its session does; the open call, if there is one, was asked at its reading; and nothing is left of an earlier transaction.
pub record StandsReady (loses : Bool) (c : Coordination) (k : Known) : Type 0 where
  pub course : KeepsCourse loses c k
  pub counted : IsCounted c.session c.clock c.begun k
  pub asked_at : (reading : ℕ) → reading_of k ≡ Some reading → reading ≡ c.reading
  pub handed : c.job ≡ None

-- The open call begins no transaction.
abbrev pub BeginsNothing : Known → Type 0
BeginsNothing k = (s : Statement) → k.statement ≡ Some s → is_begin s.call ≡ false

-- Messages of this purpose may all be answered before their call ends or goes on: those that read, refresh or stage, or prove writes of earlier calls. Any
-- other call ends with its one reply.
abbrev pub IsForMany : Purpose → Type 0
IsForMany (purposes.Prove call all) = ⊤
IsForMany purposes.Read = ⊤
IsForMany (purposes.Refresh refusals puts) = ⊤
IsForMany (purposes.Stage refusals) = ⊤
IsForMany _ = ⊥

-- This was replied to a message for which the open call waits.
pub record HearsNow (loses : Bool) (c : Coordination) (call : OpenCall) (x : OpenTxn) (number : ℕ) (reply : Reply) (k : Known) (h : Heard) : Type 0 where
  pub before : ℕ
  pub counted : IsCounted c.session before c.begun k
  pub in_call : InCall (setting_of loses c) k x call.purpose call.wave
  pub aside : KeepsAside loses c.pipelining k x call.purpose c.later call.wave
  pub waited : wave_awaits number call.wave ≡ true
  pub whole : All IsOutOrLost call.wave
  pub heard : IsHeardTo k number reply h
  pub alive : IsAnsweredAlive k h.request reply
  pub missed : IsAboveMisses k.heard h.request h.reply
  pub turn : IsFirstOut number call.wave
  pub after : IsAfterAllHeard k.heard h
  pub ready : StandsReady loses c (known_heard h k)

-- Since then the round of this conflict was made beside the open call, whose transaction has this name, and ended so.
abbrev pub HasHadRound : Bool → Round → Known → Known → TxnId → Reply → Type 0
HasHadRound loses rounds.Again start k own conflict = MakesRound start k own conflict
HasHadRound loses rounds.Refused start k own conflict = RefusesRound start k own conflict
HasHadRound loses (rounds.Lost faults) start k own conflict = (loses ≡ true) × GoesOnBeside start k own × WasLost k faults

-- The transaction, of which a rollback is caused by this.
abbrev pub caused : Why → OpenTxn → OpenTxn
caused why x = record x { cause = why }
