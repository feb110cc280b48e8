-- How the open call and the counts that are kept stand to what the actor knows.
use Rattle.std.specs.Prelude.{◌≡◌, ℕ, ◌+◌, ⊤}
use Rattle.pc_known.specs.declared.calls.Calls.{Calls}
use Rattle.pc_proto.specs.declared.answer.Answer.{Answer}
use Rattle.pc_proto.specs.declared.answer.Answer.TheVariants as answers
use Rattle.pc_proto.specs.declared.event.Event.{Event}
use Rattle.pc_proto.specs.declared.event.Event.TheVariants as events
use Rattle.pc_world.specs.Known.{Known}

-- The open call, the commits met in it, the greatest timestamps, the count of transactions begun and whether the last is open are
-- those that the actor knows.
pub record KeepsCalls (k : Known) (x : Calls) : Type 0 where
  pub statement : x.statement ≡ k.statement
  pub met : x.met.items ≡ k.met_now
  pub top : x.top ≡ k.top
  pub high : x.high ≡ k.high
  pub begun : x.begun ≡ k.begun
  pub is_open : x.is_open ≡ k.is_open

-- The answer rests on the call alone, and on no message or transaction.
abbrev pub IsOfCall : Answer → Type 0
IsOfCall (answers.Begun id ts) = ⊤
IsOfCall answers.Learnt = ⊤
IsOfCall answers.NotYet = ⊤
IsOfCall answers.Done = ⊤
IsOfCall (answers.Clock reading) = ⊤
IsOfCall answers.NoTxn = ⊤
IsOfCall _ = ⊥

-- If the answer begins a transaction, that is the next one.
abbrev pub TellsNext : ℕ → Answer → Type 0
TellsNext begun (answers.Begun id ts) = id.number ≡ begun + 1
TellsNext begun _ = ⊤

-- If the event begins a transaction, that is the next one, as in any entry that may come next.
abbrev pub BeginsNext : ℕ → Event → Type 0
BeginsNext begun (events.Tell answer) = TellsNext begun answer
BeginsNext begun _ = ⊤
