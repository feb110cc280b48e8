use Rattle.std.proofs.Common.{◌≡◌, sym, subst}
use Rattle.std.specs.Option.{option_copied}
use Rattle.pc_known.proofs.Sending.{heard_keeps, sent_keeps}
use Rattle.pc_known.proofs.sends.Sends.learn.Goals as goal
use Rattle.pc_known.specs.Sends.{MarksHeard, KeepsSends, SendsNext}
use Rattle.pc_world.specs.Known.{known_after, next_number}
use Rattle.pc_world.specs.Known.Traffic.{heard_by}

pub returns-in_ok-send-in-Send : goal.returns-in_ok-send-in-Send
returns-in_ok-send-in-Send c k named top high keeps heard next =
    subst (λ e. KeepsSends (known_after e (heard_by e named k.sent) top high k) c.send.new.self) (sym c.in-Send.is)
    (sent_keeps k c.args.self.now c.send.new.self _ _ _ top high keeps (subst (λ e. SendsNext (next_number k) e) c.in-Send.is next) c.in_ok-send-in-Send.ensures)

pub returns-in-Hear : goal.returns-in-Hear
returns-in-Hear c k named top high keeps heard next =
    subst (λ e. KeepsSends (known_after e (heard_by e named k.sent) top high k) c.hear.new.self) (sym c.in-Hear.is)
    (heard_keeps k c.args.self.now c.hear.new.self _ _ named top high keeps
    (subst (λ o. MarksHeard o c.args.self.now c.hear.new.self) (subst (λ e. option_copied c.args.heard ≡ heard_by e named k.sent) c.in-Hear.is heard) c.hear.ensures))
