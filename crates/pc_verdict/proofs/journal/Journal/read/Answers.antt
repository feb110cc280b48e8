use Rattle.std.proofs.Common.{sym, ◌∙◌, arith}
use Rattle.pc_read.specs.Items.{head_items, text_lines}
use Rattle.pc_read.specs.Texts.{splits_in}
use Rattle.pc_verdict.proofs.Bodies.{names_below}
use Rattle.pc_verdict.proofs.Found.{head_first, read_from}
use Rattle.pc_verdict.proofs.journal.Journal.read.Goals as goal

pub returns-in-Err-clause-unread : goal.returns-in-Err-clause-unread
returns-in-Err-clause-unread c =
    let head = c.in_ok-head.head in
    names_below c.in_ok-splits.splits head.sessions head.recoverers (head_items (text_lines c.args.bytes.now)) c.read_head.new.lines c.in-Err.unread
    (sym c.new-lines.ensures ∙ head_first (splits_in head.splits.now) c.in_ok-splits.splits head.sessions head.recoverers c.new-lines.result c.read_head.new.lines c.in_ok-splits.ensures c.in_ok-head.ensures.head)
    c.in-Err.ensures.unread

pub returns-in-Ok-clause-read : goal.returns-in-Ok-clause-read
returns-in-Ok-clause-read c =
    let head = c.in_ok-head.head in
    read_from c.args.bytes.now (record { splits = c.in_ok-splits.splits; sessions = head.sessions; recoverers = head.recoverers; body = c.in-Ok.body }) c.read_head.new.lines
    (sym c.new-lines.ensures ∙ head_first (splits_in head.splits.now) c.in_ok-splits.splits head.sessions head.recoverers c.new-lines.result c.read_head.new.lines c.in_ok-splits.ensures c.in_ok-head.ensures.head)
    c.in-Ok.ensures.read (omega arith)
