use Rattle.std.proofs.Common.{◌≡◌, ◌+◌, ◌-◌, ℕ, [], ◌∷◌, ◌++◌, List, length, reverse, ap, sym, ◌∙◌, arith, append_assoc, length-append}
use Rattle.std.specs.Vec.Iter.{into_iter_items}
use Rattle.ptp_base.specs.Room.{Reserved}
use Rattle.ptp_profile.specs.declared.seats.Log.{Log}
use Rattle.discipline_seat.specs.SeatInvariants.{logs_of, openings_of}
use Rattle.ptp_profile.specs.Roles.SeatLogs.{logs_from}
use Rattle.discipline_seat.proofs.lemmas.SeatInvariantLemmas.{log_as, logs_from-more}
use Rattle.discipline_seat.proofs.plain.PlainSeats.part.Goals as goal

pub loop-seat-preserved : goal.loop-seat-preserved
loop-seat-preserved c =
    let at = c.loop-seat in
    let x = c.in-Some.seat in
    let steps : into_iter_items at.seat-iterator ≡ x ∷ into_iter_items c.next.new.self = c.in-Some.ensures.steps.0 in
    let gone = c.in-Some.ensures.steps.1 in
    let short = ap length steps in
    let left = at.invariant.left in
    let room : c.push.new.self.spare ≡ at.logs.spare - 1 = ap (λ (r : Reserved Log). r.spare) c.push.ensures in
    let places = at.invariant.places in
    let few = at.invariant.few in
    let long : length (at.yielded ++ x ∷ []) ≡ length at.yielded + 1 = length-append at.yielded (x ∷ []) in
    let clock = at.invariant.clock in
    let number : at.clock ≡ 0 + length at.yielded = omega arith in
    record {
      all = append_assoc at.yielded (x ∷ []) _ ∙ rw (← steps) at.invariant.all;
      left = omega arith;
      logs =
          ap (λ (r : Reserved Log). r.items) c.push.ensures
          ∙ ap (λ (logs : List Log). logs ++ c.into_log.result ∷ []) at.invariant.logs
          ∙ ap (λ (log : Log). logs_from 0 (openings_of at.yielded) (logs_of at.yielded) ++ log ∷ []) (c.into_log.ensures ∙ ap (λ (n : ℕ). log_as n x.opening (reverse x.log)) number)
          ∙ sym (logs_from-more 0 at.yielded x);
      clock = omega arith;
      places = omega arith;
      few = omega arith;
    }
