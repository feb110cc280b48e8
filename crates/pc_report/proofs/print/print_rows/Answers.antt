use Rattle.pc_report.proofs.Parts.{three_parts}
use Rattle.pc_report.proofs.print.print_rows.Goals as goal

pub returns-clause-text : goal.returns-clause-text
returns-clause-text c = three_parts c.args.out.now.items _ _ _ c.row_lines.new.out.items c.row_lines-2.new.out.items c.row_lines-3.new.out.items c.in_ok-row_lines.ensures.text c.in_ok-row_lines-2.ensures.text c.in_ok-row_lines-3.ensures.text
