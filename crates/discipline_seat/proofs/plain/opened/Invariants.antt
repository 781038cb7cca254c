use Rattle.std.proofs.Common.{◌≡◌, [], map, take}
use Rattle.discipline_seat.proofs.plain.opened.Given as goal

abbrev pub invariant-loop-clock : goal.invariant-loop-clock
invariant-loop-clock l = l.seats.items ≡ map (λ clock. record { opening = clock; log = []; room = 0 }) (take l.clock-index l.clocks)
