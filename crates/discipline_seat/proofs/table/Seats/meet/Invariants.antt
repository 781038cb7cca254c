use Rattle.discipline_seat.proofs.table.Seats.meet.Given as goal

abbrev pub ghosts-round : goal.ghosts-round
ghosts-round g a = record { page = g.N.Page.list a.page.now }
