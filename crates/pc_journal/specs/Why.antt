-- How causes of an abort are spelled. Own profile.
use Rattle.std.specs.Prelude.{ℕ, List, codes}
use Rattle.pc_proto.specs.declared.why.Why.{Why}
use Rattle.pc_proto.specs.declared.why.Why.TheVariants.{Pushed, Missing, Refresh, Client}
use Rattle.pc_journal.specs.Names.{who_text}
use Rattle.pc_journal.specs.Number.{ts_text}
use Rattle.pc_journal.specs.Optional.{key_text}
use Rattle.pc_journal.specs.Side.{◌⦂◌}

-- A cause is one word with what it names: `pushed:2.1`, `missing:n:v1`, `refresh:b:20.0`, `client`.
abbrev pub why_text : Why → List ℕ
why_text (Pushed by) = codes "pushed" ⦂ who_text by
why_text (Missing key by) = codes "missing" ⦂ key_text key ⦂ who_text by
why_text (Refresh key ts) = codes "refresh" ⦂ key_text key ⦂ ts_text ts
why_text Client = codes "client"
