-- How calls are spelled. Own profile.
use Rattle.std.specs.Prelude.{ℕ, List, codes}
use Rattle.pc_proto.specs.declared.call.Call.{Call}
use Rattle.pc_proto.specs.declared.call.Call.TheVariants as calls
use Rattle.pc_journal.specs.Names.{id_text, priority_text}
use Rattle.pc_journal.specs.Optional.{key_text, value_text}
use Rattle.pc_journal.specs.Side.{◌·◌}
use Rattle.pc_journal.specs.Span.{span_text}

-- What a client asks: `begin normal`, `put a =x`, `scan a,m`, `commit`.
abbrev pub call_text : Call → List ℕ
call_text (calls.Begin priority) = codes "begin" · priority_text priority
call_text (calls.Get key) = codes "get" · key_text key
call_text (calls.Scan span) = codes "scan" · span_text span
call_text (calls.Put key value) = codes "put" · key_text key · value_text value
call_text (calls.Delete key) = codes "delete" · key_text key
call_text calls.Commit = codes "commit"
call_text calls.Rollback = codes "rollback"
call_text (calls.Learn id) = codes "learn" · id_text id
call_text calls.Round = codes "round"
