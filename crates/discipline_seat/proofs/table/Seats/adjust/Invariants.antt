use Rattle.discipline_seat.specs.Rule.Story.{refusal_found as ask}
use Rattle.discipline_seat.proofs.table.Seats.adjust.Given as goal

abbrev pub ghosts-look : goal.ghosts-look
ghosts-look a = record { rows = a.self.now.rows; says = ask a.self.now.rows a._asked }
