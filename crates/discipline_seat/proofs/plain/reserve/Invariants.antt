use Rattle.std.proofs.Common.{◌≡◌, ◌<◌, ◌≤◌, ℕ, get_or, length, vec_len}
use Rattle.std.specs.Prelude.{All}
use Rattle.discipline_seat.specs.SeatInvariants.{Line, logs_of, openings_of}
use Rattle.discipline_seat.proofs.plain.reserve.Given as goal

abbrev pub invariant-loop-place : goal.invariant-loop-place
invariant-loop-place l = record {
  openings : openings_of l.seats.items ≡ openings_of l.fn.seats.items;
  logs : logs_of l.seats.items ≡ logs_of l.fn.seats.items;
  rooms : (spare : ℕ) → All (λ (line : Line). spare ≤ line.room) l.fn.seats.items → All (λ (line : Line). spare ≤ line.room) l.seats.items;
  done : (k : ℕ) (d : Line) → k < l.place → l.more ≤ (get_or l.seats.items k d).room;
  long : length l.seats.items ≡ l.count;
  len : vec_len l.seats ≡ l.count;
}
