-- The row of a version that a scan sees. SIGMOD 2020 paper, section 3.3.
use Rattle.std.specs.Prelude.{ℕ, Option, List}
use Rattle.pc_base.specs.declared.version.Version.{Version}
use Rattle.pc_proto.specs.declared.reply.Origin.{Origin}
use Rattle.pc_proto.specs.declared.reply.Origin.TheVariants as origins
use Rattle.pc_world.specs.Evaluation.Scan.{row_found}

-- Its key, its timestamp and its value; none, where it is a deletion.
abbrev pub row_of : Version → Option (List ℕ × Origin × List ℕ)
row_of v = row_found v.key (origins.At v.ts, v.value)
