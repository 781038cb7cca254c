use Rattle.std.proofs.Common.{◌≡◌, [], length, sym, ap, ◌∙◌, subst, arith}
use Rattle.atomic_table.specs.Table.{Me}
use Rattle.discipline_seat.specs.SeatValue.{SeatValue}
use Rattle.ptp_profile.specs.declared.seats.LogEntry.{LogEntry}
use Rattle.discipline_seat.specs.declared.view.View.{View}
use Rattle.discipline_seat.specs.Rule.SeatView.{after_hearing as heard, note_of as note, seen_log, with_page}
use Rattle.discipline_seat.specs.Rule.Story.{stories_after_hearing}
use Rattle.discipline_seat.specs.Rule.SeatLog.{Extends}
use Rattle.discipline_seat.specs.SeatCalls.{HasSameOrders, HearYields}
use Rattle.discipline_seat.proofs.lemmas.MeetLemmas.{orders_stay, noted, hears_it, stamps_stay, just_more}
use Rattle.discipline_seat.proofs.lemmas.SeatEntryLemmas.{keeps_orders}
use Rattle.discipline_seat.proofs.lemmas.StepLemmas.{puts, hears, tells_all}
use Rattle.discipline_seat.proofs.table.Seats.tell_hub.Goals as goal

pub split_seat-note-requires : goal.split_seat-note-requires
split_seat-note-requires g c = (c.requires.pass_table.table_is, omega (arith, c.args.self.now.sized, c.args.self.now.some_clock), puts _ _ _ _ _ _ c.requires.seat.pass)

pub join_seat-requires : goal.join_seat-requires
join_seat-requires g c =
    let i = c.hub.invariant in
    let e = c.split_seat-note.ensures in
    let mine : c.hub.inside.seat.table_id ≡ c.args.self.now.table.shared.table_id = ap (λ (p : SeatValue). p.table) c.hub.view_is ∙ c.requires.hub_table.table_is in
    let u : View = with_page c.args.seat.now.me.0 g.P.Said.page in
    let note_is : c.split_seat-note.result.me ≡ (note u, []) = e.4 in
    let as_long : length c.hub.inside.seat.me.0.openings ≡ length c.args.seat.now.me.0.openings = ap (λ (p : SeatValue). length p.view.openings) c.hub.view_is ∙ ap length (c.requires.hub_table.openings_are ∙ sym c.requires.pass_table.openings_are) in
    let seen : length c.split_seat-note.result.me.0.seen ≡ length c.args.seat.now.me.0.seen = ap (λ (m : Me LogEntry View). length m.0.seen) note_is in (
      mine,
      e.3 ∙ c.requires.pass_table.table_is,
      ap (λ (m : Me LogEntry View). m.1) note_is,
      omega (arith, c.args.self.now.sized, c.args.self.now.some_clock),
      hears _ _ _ _ _ _ _ i.2 (ap (λ (m : Me LogEntry View). m.0.owner) note_is) (omega (arith, seen, as_long, i.1, c.requires.seat.wide)),
    )

pub load-requires : goal.load-requires
load-requires g c =
    let mine : c.hub.inside.seat.table_id ≡ c.args.self.now.table.shared.table_id = ap (λ (p : SeatValue). p.table) c.hub.view_is ∙ c.requires.hub_table.table_is in
    (c.join_seat.ensures.0 ∙ mine, omega (arith, c.args.self.now.sized, c.args.self.now.some_clock), tells_all _ _ _ _ _ c.join_seat.new.seat.me 0)

pub invariant_of-hub : goal.invariant_of-hub
invariant_of-hub g c =
    let i = c.hub.invariant in
    let mine : c.hub.inside.seat.table_id ≡ c.args.self.now.table.shared.table_id = ap (λ (p : SeatValue). p.table) c.hub.view_is ∙ c.requires.hub_table.table_is in
    let as_long : length c.hub.inside.seat.me.0.openings ≡ length c.args.seat.now.me.0.openings = ap (λ (p : SeatValue). length p.view.openings) c.hub.view_is ∙ ap length (c.requires.hub_table.openings_are ∙ sym c.requires.pass_table.openings_are) in
    let l = c.load.ensures in
    let j = c.join_seat.ensures in
    let u : View = with_page c.args.seat.now.me.0 g.P.Said.page in
    let v : View = c.hub.inside.seat.me.0 in
    let w : View = c.load.new.seat.me.0 in
    let js : c.join_seat.new.seat.me.0 ≡ heard v (note u) = ap (λ (m : Me LogEntry View). m.0) j.2 ∙ ap (λ (m : Me LogEntry View). heard v m.0) c.split_seat-note.ensures.4 in
    let told = noted v u w c.join_seat.new.seat.me.0 (stories_after_hearing u.number v.stories u.stories) js l.2.1 l.2.2 in
    let words = ap length (sym told.openings) in (
      l.2.0 ∙ ap (λ (m : Me LogEntry View). m.1) j.2 ∙ i.0,
      told.wide (omega (arith, as_long, i.1, c.requires.seat.wide)) ∙ i.1 ∙ words,
      told.owner ∙ i.2,
      i.3 ∙ words,
      λ d h. stamps_stay v w d _ i.2 (told.mine d) (i.4 d h),
      keeps_orders c.hub.inside.entries.items v w i.2 told.mine i.5,
    )

pub returns-clause-hub_table : goal.returns-clause-hub_table
returns-clause-hub_table g c =
    let l = c.load.ensures in
    let j = c.join_seat.ensures in
    let u : View = with_page c.args.seat.now.me.0 g.P.Said.page in
    let v : View = c.hub.inside.seat.me.0 in
    let w : View = c.load.new.seat.me.0 in
    let js : c.join_seat.new.seat.me.0 ≡ heard v (note u) = ap (λ (m : Me LogEntry View). m.0) j.2 ∙ ap (λ (m : Me LogEntry View). heard v m.0) c.split_seat-note.ensures.4 in
    let told = noted v u w c.join_seat.new.seat.me.0 (stories_after_hearing u.number v.stories u.stories) js l.2.1 l.2.2 in
    let mine : c.hub.inside.seat.table_id ≡ c.args.self.now.table.shared.table_id = ap (λ (p : SeatValue). p.table) c.hub.view_is ∙ c.requires.hub_table.table_is in
    record { table_is = l.0 ∙ j.0 ∙ mine; openings_are = told.openings ∙ ap (λ (p : SeatValue). p.view.openings) c.hub.view_is ∙ c.requires.hub_table.openings_are }

pub returns-clause-hub_owner : goal.returns-clause-hub_owner
returns-clause-hub_owner g c =
    let l = c.load.ensures in
    let j = c.join_seat.ensures in
    let u : View = with_page c.args.seat.now.me.0 g.P.Said.page in
    let v : View = c.hub.inside.seat.me.0 in
    let w : View = c.load.new.seat.me.0 in
    let js : c.join_seat.new.seat.me.0 ≡ heard v (note u) = ap (λ (m : Me LogEntry View). m.0) j.2 ∙ ap (λ (m : Me LogEntry View). heard v m.0) c.split_seat-note.ensures.4 in
    let told = noted v u w c.join_seat.new.seat.me.0 (stories_after_hearing u.number v.stories u.stories) js l.2.1 l.2.2 in
    told.owner ∙ ap (λ (p : SeatValue). p.view.owner) c.hub.view_is

pub returns-clause-hub_passes : goal.returns-clause-hub_passes
returns-clause-hub_passes g c =
    let l = c.load.ensures in
    let j = c.join_seat.ensures in
    let u : View = with_page c.args.seat.now.me.0 g.P.Said.page in
    let v : View = c.hub.inside.seat.me.0 in
    let w : View = c.load.new.seat.me.0 in
    let js : c.join_seat.new.seat.me.0 ≡ heard v (note u) = ap (λ (m : Me LogEntry View). m.0) j.2 ∙ ap (λ (m : Me LogEntry View). heard v m.0) c.split_seat-note.ensures.4 in
    let told = noted v u w c.join_seat.new.seat.me.0 (stories_after_hearing u.number v.stories u.stories) js l.2.1 l.2.2 in
    told.passes ∙ ap (λ (p : SeatValue). p.view.passes) c.hub.view_is

pub returns-clause-orders : goal.returns-clause-orders
returns-clause-orders g c =
    let l = c.load.ensures in
    let j = c.join_seat.ensures in
    let u : View = with_page c.args.seat.now.me.0 g.P.Said.page in
    let v : View = c.hub.inside.seat.me.0 in
    let w : View = c.load.new.seat.me.0 in
    let js : c.join_seat.new.seat.me.0 ≡ heard v (note u) = ap (λ (m : Me LogEntry View). m.0) j.2 ∙ ap (λ (m : Me LogEntry View). heard v m.0) c.split_seat-note.ensures.4 in
    let told = noted v u w c.join_seat.new.seat.me.0 (stories_after_hearing u.number v.stories u.stories) js l.2.1 l.2.2 in
    λ d. subst (λ (p : SeatValue). HasSameOrders (seen_log p.view d) (seen_log w d)) c.hub.view_is (orders_stay d v.owner _ _ c.hub.invariant.2 (told.mine d))

pub returns-clause-told : goal.returns-clause-told
returns-clause-told g c =
    let l = c.load.ensures in
    let j = c.join_seat.ensures in
    let u : View = with_page c.args.seat.now.me.0 g.P.Said.page in
    let v : View = c.hub.inside.seat.me.0 in
    let w : View = c.load.new.seat.me.0 in
    let js : c.join_seat.new.seat.me.0 ≡ heard v (note u) = ap (λ (m : Me LogEntry View). m.0) j.2 ∙ ap (λ (m : Me LogEntry View). heard v m.0) c.split_seat-note.ensures.4 in
    let told = noted v u w c.join_seat.new.seat.me.0 (stories_after_hearing u.number v.stories u.stories) js l.2.1 l.2.2 in
    λ d. (subst (λ (p : SeatValue). Extends (seen_log p.view d) (seen_log w d)) c.hub.view_is (just_more _ _ _ _ (told.mine d)), told.theirs d)

pub returns-clause-heard : goal.returns-clause-heard
returns-clause-heard g c =
    let l = c.load.ensures in
    let u : View = with_page c.args.seat.now.me.0 g.P.Said.page in
    let v : View = c.hub.inside.seat.me.0 in
    let w : View = c.load.new.seat.me.0 in
    let js : c.join_seat.new.seat.me.0 ≡ heard v (note u) = ap (λ (m : Me LogEntry View). m.0) c.join_seat.ensures.2 ∙ ap (λ (m : Me LogEntry View). heard v m.0) c.split_seat-note.ensures.4 in
    subst (λ (p : SeatValue). HearYields p.view u w) c.hub.view_is (hears_it v u w c.join_seat.new.seat.me.0 js l.2.1 l.2.3)
