use Rattle.std.proofs.Common.{◌∙◌, ap, arith, length}
use Rattle.ptp_profile.specs.Roles.SeatLogs.{log_at}
use Rattle.ptp_profile.specs.declared.seats.LogEntry.{LogEntry}
use Rattle.ptp_profile.specs.declared.seats.LogEntry.TheVariants.{Order}
use Rattle.ptp_base.specs.Room.{Reserved}
use Rattle.discipline_seat.specs.declared.entries.Numbered.{Numbered}
use Rattle.discipline_seat.proofs.lemmas.PlacedEntryLemmas.{place_of_next, same_list}
use Rattle.discipline_seat.proofs.entries.Entries.fill.Goals as goal

pub index_mut-requires : goal.index_mut-requires
index_mut-requires c =
    let h = place_of_next c.loop-one.logs.items c.args.logs.now.items c.as_slice-one-items.result.now c.args.self.now.items c.loop-one.one-index (record { clock = 0; number = 0; entry = Order 0 0 }) (c.as_slice-one-items.ensures.value ∙ ap (λ (r : Reserved Numbered). r.items) c.self.view_is) (omega (arith, c.loop-one-test.true)) c.requires c.loop-one.invariant.placed_so in
    omega (arith, h.2, c.from.ensures, c.loop-one.logs.ok)

pub overflow_sub-one : goal.overflow_sub-one
overflow_sub-one c =
    let h = place_of_next c.loop-one.logs.items c.args.logs.now.items c.as_slice-one-items.result.now c.args.self.now.items c.loop-one.one-index (record { clock = 0; number = 0; entry = Order 0 0 }) (c.as_slice-one-items.ensures.value ∙ ap (λ (r : Reserved Numbered). r.items) c.self.view_is) (omega (arith, c.loop-one-test.true)) c.requires c.loop-one.invariant.placed_so in
    h.0

pub set-requires : goal.set-requires
set-requires c =
    let h = place_of_next c.loop-one.logs.items c.args.logs.now.items c.as_slice-one-items.result.now c.args.self.now.items c.loop-one.one-index (record { clock = 0; number = 0; entry = Order 0 0 }) (c.as_slice-one-items.ensures.value ∙ ap (λ (r : Reserved Numbered). r.items) c.self.view_is) (omega (arith, c.loop-one-test.true)) c.requires c.loop-one.invariant.placed_so in
    let clock = c.from.ensures in
    let list = ap (length {A = LogEntry}) (c.index_mut.ensures.value ∙ same_list c.loop-one.logs.items c.from.result c.index_mut.result.now (omega (arith, h.2, clock)) ∙ ap (log_at c.loop-one.logs.items) clock) in
    omega (arith, h.0, h.1, list)
