use Rattle.pc_journal.proofs.Lines.{whole_journal, whole_behind, part_behind, on_ok, on_err}
use Rattle.pc_journal.proofs.Spelled.{entries_fit}
use Rattle.pc_journal.proofs.journal.print_journal.Goals as goal

pub returns-clause-ok : goal.returns-clause-ok
returns-clause-ok c =
    let both = whole_journal c.args.splits.now c.args.sessions c.args.recoverers c.args.entries.now in
    on_ok c.print_lines.result (whole_behind _ _ _ _ c.print_head.new.out.items c.print_lines.new.out.items both c.in_ok-print_head.ensures.ok) c.print_lines.ensures.ok

pub returns-clause-err : goal.returns-clause-err
returns-clause-err c =
    let both = whole_journal c.args.splits.now c.args.sessions c.args.recoverers c.args.entries.now in
    on_err c.print_lines.result (part_behind _ _ _ _ c.print_head.new.out.items c.print_lines.new.out.items both c.in_ok-print_head.ensures.ok) c.print_lines.ensures.err

pub returns-clause-spelled : goal.returns-clause-spelled
returns-clause-spelled c = on_ok c.print_lines.result (entries_fit c.args.entries.now) c.print_lines.ensures.spelled
