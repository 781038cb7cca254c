use Rattle.std.proofs.Common.{◌<◌, ◌∙◌, length, arith}
use Rattle.std.proofs.lemmas.List.{length-set}
use Rattle.discipline_seat.proofs.lemmas.SeatInvariantLemmas.{logs-grown, openings-grown, rooms-grown, rooms-more}
use Rattle.discipline_seat.proofs.plain.reserve.Goals as goal

pub returns-in_err-reserve-clause-openings : goal.returns-in_err-reserve-clause-openings
returns-in_err-reserve-clause-openings c =
    openings-grown c.loop-place.seats.items c.loop-place.place c.reserve.new.self c.index_mut-seat.result.now c.index_mut-seat.ensures.value c.reserve.ensures.same
    ∙ c.loop-place.invariant.openings

pub returns-in_err-reserve-clause-logs : goal.returns-in_err-reserve-clause-logs
returns-in_err-reserve-clause-logs c =
    logs-grown c.loop-place.seats.items c.loop-place.place c.reserve.new.self c.index_mut-seat.result.now c.index_mut-seat.ensures.value c.reserve.ensures.same
    ∙ c.loop-place.invariant.logs

pub returns-in_err-reserve-clause-rooms : goal.returns-in_err-reserve-clause-rooms
returns-in_err-reserve-clause-rooms c = λ spare all.
    let there : c.loop-place.place < length c.loop-place.seats.items = omega arith in
    rooms-grown c.loop-place.seats.items c.loop-place.place c.reserve.new.self c.index_mut-seat.result.now spare there c.index_mut-seat.ensures.value c.reserve.ensures.more
    (c.loop-place.invariant.rooms spare all)

pub loop-place-preserved : goal.loop-place-preserved
loop-place-preserved c =
    let there : c.loop-place.place < length c.loop-place.seats.items = omega arith in
    record {
      openings =
          openings-grown c.loop-place.seats.items c.loop-place.place c.reserve.new.self c.index_mut-seat.result.now c.index_mut-seat.ensures.value c.reserve.ensures.same
          ∙ c.loop-place.invariant.openings;
      logs =
          logs-grown c.loop-place.seats.items c.loop-place.place c.reserve.new.self c.index_mut-seat.result.now c.index_mut-seat.ensures.value c.reserve.ensures.same
          ∙ c.loop-place.invariant.logs;
      rooms = λ spare all.
          rooms-grown c.loop-place.seats.items c.loop-place.place c.reserve.new.self c.index_mut-seat.result.now spare there c.index_mut-seat.ensures.value c.reserve.ensures.more
          (c.loop-place.invariant.rooms spare all);
      done = rooms-more c.loop-place.seats.items c.loop-place.place c.reserve.new.self c.args.more there c.in_ok-reserve.ensures.ok c.loop-place.invariant.done;
      long = length-set c.loop-place.seats.items c.loop-place.place c.reserve.new.self ∙ c.loop-place.invariant.long;
      len = c.loop-place.invariant.len;
    }
