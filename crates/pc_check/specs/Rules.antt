-- Which rule an entry breaks that may not follow those before it. Own profile.
use Rattle.pc_proto.specs.declared.event.Event.{Event}
use Rattle.pc_proto.specs.declared.event.Event.TheVariants as events
use Rattle.pc_check.specs.declared.rule.Rule.{Rule}
use Rattle.pc_check.specs.declared.rule.Rule.TheVariants as rules_broken

-- The rule of an event of this kind.
abbrev pub rule_of : Event → Rule
rule_of (events.Ask call reading) = rules_broken.Ask
rule_of (events.Send number range request) = rules_broken.Send
rule_of (events.Eval actor number reply) = rules_broken.Eval
rule_of (events.Hear number step) = rules_broken.Hear
rule_of (events.Tell answer) = rules_broken.Tell
rule_of (events.Meet id step) = rules_broken.Meet
