use Rattle.std.proofs.Common.{Some}
use Rattle.pc_history.proofs.opener.Opener.seat.Given as goal

abbrev pub ghosts-seat_as : goal.ghosts-seat_as
ghosts-seat_as g a = record { asked = Some a.id }
