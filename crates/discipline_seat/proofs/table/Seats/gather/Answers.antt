use Rattle.std.proofs.Common.{◌≡◌, length, sym, ap, ◌∙◌, subst, arith}
use Rattle.atomic_table.specs.Table.{Me}
use Rattle.ptp_profile.specs.declared.seats.LogEntry.{LogEntry}
use Rattle.discipline_seat.specs.declared.view.View.{View}
use Rattle.discipline_seat.specs.SeatValue.{SeatValue, seat_value}
use Rattle.discipline_seat.specs.WholeLogs.{TakenIn}
use Rattle.discipline_seat.proofs.lemmas.GatherLemmas.{gathered}
use Rattle.discipline_seat.proofs.lemmas.MeetLemmas.{stamps_stay}
use Rattle.discipline_seat.proofs.lemmas.SeatEntryLemmas.{keeps_orders}
use Rattle.discipline_seat.proofs.lemmas.StepLemmas.{gathers, tells_all}
use Rattle.discipline_seat.proofs.table.Seats.gather.Goals as goal

pub join_seat-requires : goal.join_seat-requires
join_seat-requires c =
    let i = c.hub.invariant in
    let mine : c.hub.inside.seat.table_id ≡ c.args.self.now.table.shared.table_id = ap (λ (p : SeatValue). p.table) c.hub.view_is ∙ c.requires.hub_table.table_is in
    let theirs : c.pass.inside.seat.table_id ≡ c.args.self.now.table.shared.table_id = ap (λ (p : SeatValue). p.table) c.pass.view_is ∙ c.requires.pass_table.table_is in
    let as_long : length c.hub.inside.seat.me.0.openings ≡ length c.pass.inside.seat.me.0.openings = ap (λ (p : SeatValue). length p.view.openings) c.hub.view_is ∙ ap length (c.requires.hub_table.openings_are ∙ sym c.requires.pass_table.openings_are) ∙ sym (ap (λ (p : SeatValue). length p.view.openings) c.pass.view_is) in (
      mine,
      theirs,
      c.pass.invariant.0,
      omega (arith, c.args.self.now.sized, c.args.self.now.some_clock),
      gathers _ _ _ _ _ _ _ i.2 c.pass.invariant.2 (omega (arith, as_long, i.1, c.pass.invariant.1)),
    )

pub load-requires : goal.load-requires
load-requires c =
    let mine : c.hub.inside.seat.table_id ≡ c.args.self.now.table.shared.table_id = ap (λ (p : SeatValue). p.table) c.hub.view_is ∙ c.requires.hub_table.table_is in
    (c.join_seat.ensures.0 ∙ mine, omega (arith, c.args.self.now.sized, c.args.self.now.some_clock), tells_all _ _ _ _ _ c.join_seat.new.seat.me 0)

pub invariant_of-hub : goal.invariant_of-hub
invariant_of-hub c =
    let i = c.hub.invariant in
    let as_long : length c.hub.inside.seat.me.0.openings ≡ length c.pass.inside.seat.me.0.openings = ap (λ (p : SeatValue). length p.view.openings) c.hub.view_is ∙ ap length (c.requires.hub_table.openings_are ∙ sym c.requires.pass_table.openings_are) ∙ sym (ap (λ (p : SeatValue). length p.view.openings) c.pass.view_is) in
    let l = c.load.ensures in
    let j = c.join_seat.ensures in
    let v : View = c.hub.inside.seat.me.0 in
    let w : View = c.load.new.seat.me.0 in
    let g = gathered v (seat_value c.pass.inside.seat.table_id c.pass.inside.seat.me.0) c.join_seat.new.seat.me.0 w (omega (arith, as_long, i.1, c.pass.invariant.1)) (ap (λ (m : Me LogEntry View). m.0) j.2) l.2.1 l.2.2 l.2.5 i.2 c.pass.invariant.2 c.pass.invariant.4 in
    let words = ap length (sym g.openings) in (
      l.2.0 ∙ ap (λ (m : Me LogEntry View). m.1) j.2 ∙ i.0,
      g.wide ∙ i.1 ∙ words,
      g.taken.owner ∙ i.2,
      i.3 ∙ words,
      λ d h. stamps_stay v w d _ i.2 (g.mine d) (i.4 d h),
      keeps_orders c.hub.inside.entries.items v w i.2 g.mine i.5,
    )

pub returns-clause-hub_table : goal.returns-clause-hub_table
returns-clause-hub_table c =
    let i = c.hub.invariant in
    let mine : c.hub.inside.seat.table_id ≡ c.args.self.now.table.shared.table_id = ap (λ (p : SeatValue). p.table) c.hub.view_is ∙ c.requires.hub_table.table_is in
    let l = c.load.ensures in
    let j = c.join_seat.ensures in
    record {
      table_is = l.0 ∙ j.0 ∙ mine;
      openings_are = ap (λ (y : View). y.openings) (l.2.1) ∙ ap (λ (m : Me LogEntry View). m.0.openings) j.2 ∙ ap (λ (p : SeatValue). p.view.openings) c.hub.view_is ∙ c.requires.hub_table.openings_are;
    }

pub returns-clause-taken : goal.returns-clause-taken
returns-clause-taken c =
    let i = c.hub.invariant in
    let as_long : length c.hub.inside.seat.me.0.openings ≡ length c.pass.inside.seat.me.0.openings = ap (λ (p : SeatValue). length p.view.openings) c.hub.view_is ∙ ap length (c.requires.hub_table.openings_are ∙ sym c.requires.pass_table.openings_are) ∙ sym (ap (λ (p : SeatValue). length p.view.openings) c.pass.view_is) in
    let l = c.load.ensures in
    let j = c.join_seat.ensures in
    let v : View = c.hub.inside.seat.me.0 in
    let w : View = c.load.new.seat.me.0 in
    let q : SeatValue = record { table = c.pass.inside.seat.table_id; view = c.pass.inside.seat.me.0; spare = c.pass.inside.entries.spare } in
    let g = gathered v q c.join_seat.new.seat.me.0 w (omega (arith, as_long, i.1, c.pass.invariant.1)) (ap (λ (m : Me LogEntry View). m.0) j.2) l.2.1 l.2.2 l.2.5 i.2 c.pass.invariant.2 c.pass.invariant.4 in
    subst (λ (t : SeatValue × SeatValue). TakenIn t.0.view t.1 w) (λ k. (c.hub.view_is k, c.pass.view_is k)) g.taken
