use Rattle.pc_implicit.proofs.OwnStanding.{own_intents_stand}
use Rattle.pc_implicit.proofs.writes.own_intents_stand.Goals as goal

pub returns : goal.returns
returns c = λ head. own_intents_stand head
