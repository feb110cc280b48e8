use Rattle.std.proofs.Common.{◌≡◌, Some, rules}
use Rattle.pc_base.specs.Versions.{newest}
use Rattle.pc_eval.proofs.Room.{newest_has_room}
use Rattle.pc_eval.proofs.versions.above_newest.Goals as goal

pub next-requires : goal.next-requires
next-requires c =
    let found : newest c.args.key.now c.args.versions.now ≡ Some c.in-Some.version.now = search rules in
    newest_has_room _ _ _ c.requires found
