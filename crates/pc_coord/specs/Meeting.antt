-- A learn meets the commit that it asks for, where another session was told of it before.
use Rattle.std.specs.Prelude.{◌≡◌, ℕ, max, false, Some, [], ◌∷◌, ◌++◌}
use Rattle.pc_base.specs.declared.entry.Entry.{Entry}
use Rattle.pc_base.specs.declared.transaction.TxnId.{TxnId}
use Rattle.pc_coord.specs.Coordination.{Coordination, telling, with_clock}
use Rattle.pc_coord.specs.declared.due.Due.TheVariants as dues
use Rattle.pc_history.specs.declared.pair.Pair.{Pair}
use Rattle.pc_proto.specs.declared.answer.Answer.TheVariants as answers
use Rattle.pc_proto.specs.declared.call.Call.TheVariants as calls
use Rattle.pc_proto.specs.declared.event.Event.{Event}
use Rattle.pc_proto.specs.declared.event.Event.TheVariants as events
use Rattle.pc_proto.specs.Stamps.{greatest_of}
use Rattle.pc_world.specs.Known.{Known, call_of}

-- The learn is open, nothing was heard in it and it has met nothing yet; it meets the commit that it asks for: the entry names the telling of that
-- commit, at this timestamp.
pub record MeetsCommit (c : Coordination) (id : TxnId) (step ts : ℕ) (k : Known) (p : Pair Event) : Type 0 where
  pub due : c.due ≡ dues.Tell answers.NotYet
  pub asked : call_of k ≡ Some (calls.Learn id)
  pub closed : k.is_open ≡ false
  pub quiet : k.heard_now ≡ []
  pub event : p.entry.event ≡ events.Meet id step
  pub commit : Entry Event
  pub named : p.named ≡ Some commit
  pub told : commit.event ≡ events.Tell (answers.Committed id ts)

-- What a session knows once it met this commit.
abbrev pub known_met : TxnId → ℕ → Known → Known
known_met id ts k = record k {
  met_now = k.met_now ++ id ∷ [];
  top = max k.top (max 0 (greatest_of (ts ∷ [])));
  high = max k.high (greatest_of (ts ∷ []));
}

-- A learn that met its commit is told so, and the clock has heard of that commit's timestamp.
abbrev pub meeting : ℕ → Coordination → Coordination
meeting ts c = telling answers.Learnt c.txn c.job (with_clock (max c.clock ts) c)
