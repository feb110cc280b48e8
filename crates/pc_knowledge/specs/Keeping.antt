-- How all that is kept of an actor stands to what it knows.
use Rattle.std.specs.Prelude.{◌≡◌, length}
use Rattle.pc_files.specs.Filing.{KeepsFiles}
use Rattle.pc_knowledge.specs.declared.knowledge.Knowledge.{Knowledge}
use Rattle.pc_knowledge.specs.LastGood.{AreLastGood}
use Rattle.pc_known.specs.Calls.{KeepsCalls}
use Rattle.pc_known.specs.Heards.{KeepsHeards}
use Rattle.pc_known.specs.Sends.{KeepsSends}
use Rattle.pc_own.specs.Numbered.{AreBegunInOrder}
use Rattle.pc_world.specs.Known.{Known}

-- The open call, the messages, the replies, what of them is filed and the transactions are those that the actor knows, as many
-- transactions are known as were begun, and the reads of the last one are good as far as is noted.
pub record KeepsKnowledge (k : Known) (x : Knowledge) : Type 0 where
  pub calls : KeepsCalls k x.calls
  pub sends : KeepsSends k x.sends
  pub heards : KeepsHeards k x.heards
  pub files : KeepsFiles k x.files
  pub txns : x.txns ≡ k.txns
  pub numbered : AreBegunInOrder k.txns
  pub counted : k.begun ≡ length k.txns
  pub good : AreLastGood k x.good
