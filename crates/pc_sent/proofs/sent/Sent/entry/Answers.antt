use Rattle.std.proofs.Common.{◌≡◌, List, Some, slice_get, sym, ap, ◌∙◌, rules}
use Rattle.std.specs.Option.{option_and_then}
use Rattle.pc_base.specs.declared.entry.Entry.{Entry}
use Rattle.pc_proto.specs.declared.event.Event.{Event}
use Rattle.pc_sent.specs.Sending.{sent_place}
use Rattle.pc_sent.proofs.sent.Sent.entry.Goals as goal

pub returns : goal.returns
returns c = λ all.
    let history : List (Entry Event) = c.args.history.now in
    let there : sent_place c.args.self.now c.args.actor c.args.number ≡ Some c.in_ok-place.field-0.now = search rules in
    c.at.ensures ∙ (sym (ap (option_and_then (slice_get history)) there) ∙ all.there c.args.actor c.args.number)
