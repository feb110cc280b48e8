use Rattle.std.proofs.Common.{subst, sym}
use Rattle.pc_eval.proofs.Room.{versions_have_room}
use Rattle.pc_world.specs.RangeState.{RangeState}
use Rattle.pc_world.specs.Stamps.{AllBelowGreatest, state_stamps}
use Rattle.pc_eval.proofs.state.RangeState.free_ts.Goals as goal

pub above_newest-unwritten-requires : goal.above_newest-unwritten-requires
above_newest-unwritten-requires c =
    let P : RangeState → Type 0 = λ s. AllBelowGreatest (state_stamps s) in
    let s : RangeState = record { versions = c.self.inside.versions; intents = c.self.inside.intents; bound = c.self.inside.bound; table = c.self.inside.table } in
    versions_have_room s (subst P (sym c.self.view_is) c.requires)
