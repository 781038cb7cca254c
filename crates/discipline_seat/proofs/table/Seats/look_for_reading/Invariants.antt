use Rattle.discipline_seat.specs.Rule.Story.{reading_item as gave}
use Rattle.discipline_seat.proofs.table.Seats.look_for_reading.Given as goal

abbrev pub ghosts-look : goal.ghosts-look
ghosts-look a = record { rows = a.self.now.rows; says = gave a.self.now.openings.items }
