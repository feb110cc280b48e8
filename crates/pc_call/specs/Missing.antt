-- A write that was missed at a timestamp is written above it. SIGMOD 2020 paper, section 3.3.
use Rattle.std.specs.Prelude.{ℕ, ◌<◌, List, ⊤}
use Rattle.pc_proto.specs.declared.reply.Reply.{Reply}
use Rattle.pc_proto.specs.declared.reply.Reply.TheVariants as replies
use Rattle.pc_proto.specs.declared.request.Request.{Request}
use Rattle.pc_proto.specs.declared.request.Request.TheVariants as requests
use Rattle.pc_txn.specs.Standing.{WasMissedAt}
use Rattle.pc_world.specs.Known.Traffic.{Heard}

-- Where the reply says that a write was written, or found, each timestamp at which a query missed it before lies below: the run gives that.
abbrev pub IsAboveMisses : List Heard → Request → Reply → Type 0
IsAboveMisses heard (requests.Put meta seq ts key value) (replies.Written at) = (missed : ℕ) → WasMissedAt heard meta.id meta.epoch key seq missed → missed < at
IsAboveMisses heard (requests.Query id epoch seq ts key by) replies.Found = (missed : ℕ) → WasMissedAt heard id epoch key seq missed → missed < ts
IsAboveMisses heard request reply = ⊤
