use Rattle.std.specs.Prelude.{slice_index}
use Rattle.ptp_profile.specs.Roles.SeatLogs.{clock_after}
use Rattle.model_clock.specs.Clock.{clock_at}
use Rattle.discipline_seat.specs.Rule.SeatView.{row_words, seen_log}
use Rattle.discipline_seat.proofs.table.Seats.row_word.Given as goal

abbrev pub ghosts-fetch : goal.ghosts-fetch
ghosts-fetch a = record { word = slice_index (row_words (clock_after (clock_at a.self.now.openings.items a.clock) (seen_log a.pass.now.view a.clock))) a.word }
