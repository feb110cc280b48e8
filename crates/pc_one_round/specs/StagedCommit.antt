-- A commit of which the law of one round speaks: that of the history in which a session puts one key and commits by stage. Up to its second reply it
-- heard that its put was written where it was staged, and that its record stages there.
use Rattle.std.specs.Prelude.{[], ◌∷◌, None, Some, codes, take}
use Rattle.pc_base.specs.declared.actor.ActorId.TheVariants as actors
use Rattle.pc_base.specs.declared.transaction.Priority.TheVariants as priorities
use Rattle.pc_history.specs.Own.{own}
use Rattle.pc_one_round.specs.OneRound.{IsCommitAsStaged}
use Rattle.pc_serial.specs.FirstRow.{first_head, first_ts, first_txn}
use Rattle.pc_serial.specs.StagedRow.{staged_history}
use Rattle.pc_world.specs.Known.{Known, known_of}
use Rattle.pc_world.specs.Known.Transactions.{Txn}
use Rattle.pc_world.specs.Run.{protocol}

-- What the session knows of that history once it has heard both replies.
abbrev pub known_at_replies : Known
known_at_replies = known_of (own (protocol first_head) (actors.Session 1) (take 11 staged_history))

-- Its transaction then: one write, which is proved.
abbrev pub staged_txn : Txn
staged_txn = record {
  id = first_txn;
  priority = priorities.Normal;
  born = 10;
  begin = first_ts;
  epoch = 0;
  anchor = Some (codes "a");
  locks = codes "a" ∷ [];
  write_ts = first_ts;
  read_ts = first_ts;
  writes = record { key = codes "a"; seq = 1; value = Some (codes "x"); asked = first_ts ∷ []; proofs = first_ts ∷ [] } ∷ [];
  reads = [];
  restart = None;
  committed = None;
}

-- Its commit is answered as it was staged.
abbrev pub StagedRowCommitsAsStaged : Type 0
StagedRowCommitsAsStaged = IsCommitAsStaged known_at_replies staged_txn first_ts
