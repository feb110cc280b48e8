use Rattle.pc_may_send.proofs.send.may_send_row.Goals as goal

pub returns-in-Scan : goal.returns-in-Scan
returns-in-Scan c k keeps = rw c.in-Scan.is (c.may_send_scan.ensures k keeps)
