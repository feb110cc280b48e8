use Rattle.std.proofs.Common.{◌≡◌, ℕ, length, ap, ◌∙◌, rules}
use Rattle.std.specs.HashMap.{get}
use Rattle.std.specs.Option.{unwrap_or}
use Rattle.pc_sent.specs.declared.sent.MessageName.{MessageName}
use Rattle.pc_sent.proofs.Indexed.{added, skipped}
use Rattle.pc_sent.specs.Naming.{message_name}
use Rattle.pc_sent.specs.Sending.{same_name}
use Rattle.pc_sent.proofs.sent.Sent.add.Goals as goal

pub returns-in_default : goal.returns-in_default
returns-in_default c = λ all. skipped c.args.before.now c.args.entry.now c.args.self.now (λ sent range request is. c.in_default.not-Send sent range request is) all

pub returns-in_ok-self : goal.returns-in_ok-self
returns-in_ok-self c = λ all.
    let place : ℕ = c.or_insert.result.now in
    let name : MessageName = c.message_name-name.result in
    let kept : place ≡ unwrap_or (get same_name c.args.self.now.places name) (length c.args.before.now) = search rules in
    added c.args.before.now c.args.entry.now c.args.self.now _ c.in-Send.number c.in-Send.range c.in-Send.request name place c.in-Send.is c.message_name-name.ensures
    (kept ∙ ap (λ (k : MessageName). unwrap_or (get same_name c.args.self.now.places k) (length c.args.before.now)) c.message_name-name.ensures)
    (λ actor n. let u = (c.in_ok-self.ensures.update.0 place).0 (message_name actor n) in search rules)
    all
