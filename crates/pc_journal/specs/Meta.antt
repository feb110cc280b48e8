-- How a transaction's own particulars, a point of its history and its writes are spelled. Own profile.
use Rattle.std.specs.Prelude.{ℕ, List}
use Rattle.std.specs.Fmt.{decimal}
use Rattle.pc_base.specs.declared.transaction.TxnId.{TxnId}
use Rattle.pc_proto.specs.declared.meta.TxnMeta.{TxnMeta}
use Rattle.pc_journal.specs.Names.{id_text, priority_text}
use Rattle.pc_journal.specs.Optional.{key_text}
use Rattle.pc_journal.specs.Side.{◌⦂◌}

-- Name, epoch, priority, reading at begin and anchor key: `1.1:0:normal:10:a`.
abbrev pub meta_text : TxnMeta → List ℕ
meta_text meta = id_text meta.id ⦂ decimal meta.epoch ⦂ priority_text meta.priority ⦂ decimal meta.born ⦂ key_text meta.anchor

-- A transaction's name, epoch and sequence: `1.1:0:3`.
abbrev pub point_text : TxnId → ℕ → ℕ → List ℕ
point_text id epoch seq = id_text id ⦂ decimal epoch ⦂ decimal seq

-- A write by its key and sequence: `a:1`.
abbrev pub write_text : (List ℕ × ℕ) → List ℕ
write_text write = key_text write.0 ⦂ decimal write.1
