use Rattle.std.proofs.Common.{◌++◌}
use Rattle.std.specs.Option.{option_to_list}
use Rattle.pc_knowledge.proofs.LastGood.{last_good_after, none_known}
use Rattle.pc_knowledge.proofs.reads.good_after.Goals as goal
use Rattle.pc_proto.specs.declared.event.Event.TheVariants as events
use Rattle.pc_world.specs.Known.{txns_after}

pub returns-in-Tell : goal.returns-in-Tell
returns-in-Tell c k h top high files same are = none_known (txns_after c.args.event.now h k) (k.heard ++ option_to_list h)

pub returns-in-Send : goal.returns-in-Send
returns-in-Send c k h top high files same are =
    rw c.in-Send.is (last_good_after (events.Send c.in-Send.number c.in-Send.range c.in-Send.request) (λ answer is. absurd cc) h top high k c.good_sent.result (c.good_sent.ensures k files same are))

pub returns-in_default : goal.returns-in_default
returns-in_default c k h top high files same are = last_good_after c.args.event.now c.in_default.not-Tell h top high k c.args.good are
