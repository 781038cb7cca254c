use Rattle.std.proofs.Common.{◌≡◌, ◌≤◌, [], length, sym, ap, ◌∙◌, subst, arith}
use Rattle.atomic_table.specs.Table.{Me}
use Rattle.discipline_seat.specs.SeatValue.{SeatValue}
use Rattle.ptp_profile.specs.declared.seats.LogEntry.{LogEntry}
use Rattle.discipline_seat.specs.declared.view.View.{View}
use Rattle.discipline_seat.specs.Rule.SeatLog.{Extends, pass_owner}
use Rattle.discipline_seat.specs.Rule.SeatView.{after_learning as learnt, note_of as note, seen_log}
use Rattle.discipline_seat.specs.Rule.Story.{stories_after_learning}
use Rattle.discipline_seat.specs.SeatCalls.{LearnYields}
use Rattle.discipline_seat.proofs.lemmas.MeetLemmas.{noted, learns_it, caught_up, just_more}
use Rattle.discipline_seat.proofs.lemmas.StepLemmas.{notes, learns, tells_all}
use Rattle.discipline_seat.proofs.table.Seats.tell_pass.Goals as goal

pub split_seat-note-requires : goal.split_seat-note-requires
split_seat-note-requires c = (
  ap (λ (p : SeatValue). p.table) c.hub.view_is ∙ c.requires.hub_table.table_is,
  omega (arith, c.args.self.now.sized, c.args.self.now.some_clock),
  notes _ _ _ _ _,
)

pub join_seat-requires : goal.join_seat-requires
join_seat-requires c =
    let i = c.hub.invariant in
    let e = c.split_seat-note.ensures in
    let mine : c.hub.inside.seat.table_id ≡ c.args.self.now.table.shared.table_id = ap (λ (p : SeatValue). p.table) c.hub.view_is ∙ c.requires.hub_table.table_is in
    let note_is : c.split_seat-note.result.me ≡ (note c.hub.inside.seat.me.0, []) = e.4 in
    let as_long : length c.hub.inside.seat.me.0.openings ≡ length c.args.seat.now.me.0.openings = ap (λ (p : SeatValue). length p.view.openings) c.hub.view_is ∙ ap length (c.requires.hub_table.openings_are ∙ sym c.requires.pass_table.openings_are) in
    let seen : length c.split_seat-note.result.me.0.seen ≡ length c.hub.inside.seat.me.0.seen = ap (λ (m : Me LogEntry View). length m.0.seen) note_is in (
      c.requires.pass_table.table_is,
      e.3 ∙ mine,
      ap (λ (m : Me LogEntry View). m.1) note_is,
      omega (arith, c.args.self.now.sized, c.args.self.now.some_clock),
      learns _ _ _ _ _ _ _ c.requires.seat.pass (ap (λ (m : Me LogEntry View). m.0.owner) note_is) (omega (arith, seen, as_long, i.1, c.requires.seat.wide)),
    )

pub load-requires : goal.load-requires
load-requires c = (c.join_seat.ensures.0 ∙ c.requires.pass_table.table_is, omega (arith, c.args.self.now.sized, c.args.self.now.some_clock), tells_all _ _ _ _ _ c.join_seat.new.seat.me 0)

pub returns-clause-seat : goal.returns-clause-seat
returns-clause-seat c =
    let i = c.hub.invariant in
    let mine : c.hub.inside.seat.table_id ≡ c.args.self.now.table.shared.table_id = ap (λ (p : SeatValue). p.table) c.hub.view_is ∙ c.requires.hub_table.table_is in
    let as_long : length c.hub.inside.seat.me.0.openings ≡ length c.args.seat.now.me.0.openings = ap (λ (p : SeatValue). length p.view.openings) c.hub.view_is ∙ ap length (c.requires.hub_table.openings_are ∙ sym c.requires.pass_table.openings_are) in
    let l = c.load.ensures in
    let j = c.join_seat.ensures in
    let e = c.split_seat-note.ensures in
    let u : View = c.hub.inside.seat.me.0 in
    let v : View = c.args.seat.now.me.0 in
    let js : c.join_seat.new.seat.me.0 ≡ learnt v (note u) = ap (λ (m : Me LogEntry View). m.0) j.2 ∙ ap (λ (m : Me LogEntry View). learnt v m.0) e.4 in
    let told = noted v u c.load.new.seat.me.0 c.join_seat.new.seat.me.0 (stories_after_learning v.number v.stories u.stories) js l.2.1 l.2.2 in record {
      no_slots = l.2.0 ∙ ap (λ (m : Me LogEntry View). m.1) j.2 ∙ c.requires.seat.no_slots;
      wide = told.wide (omega (arith, as_long, i.1, c.requires.seat.wide)) ∙ c.requires.seat.wide ∙ ap length (sym told.openings);
      pass = told.owner ∙ c.requires.seat.pass ∙ (λ i. pass_owner (sym told.ports i) (sym told.number i));
    }

pub returns-clause-hub : goal.returns-clause-hub
returns-clause-hub c =
    let e = c.split_seat-note.ensures in
    (λ i. record { table = e.0 i; view = ap (λ (m : Me LogEntry View). m.0) e.2 i; spare = c.hub.inside.entries.spare }) ∙ c.hub.view_is

pub returns-clause-pass_table : goal.returns-clause-pass_table
returns-clause-pass_table c =
    let l = c.load.ensures in
    let j = c.join_seat.ensures in
    let u : View = c.hub.inside.seat.me.0 in
    let v : View = c.args.seat.now.me.0 in
    let js : c.join_seat.new.seat.me.0 ≡ learnt v (note u) = ap (λ (m : Me LogEntry View). m.0) j.2 ∙ ap (λ (m : Me LogEntry View). learnt v m.0) c.split_seat-note.ensures.4 in
    let told = noted v u c.load.new.seat.me.0 c.join_seat.new.seat.me.0 (stories_after_learning v.number v.stories u.stories) js l.2.1 l.2.2 in
    record { table_is = l.0 ∙ j.0 ∙ c.requires.pass_table.table_is; openings_are = told.openings ∙ c.requires.pass_table.openings_are }

pub returns-clause-told : goal.returns-clause-told
returns-clause-told c =
    let l = c.load.ensures in
    let u : View = c.hub.inside.seat.me.0 in
    let v : View = c.args.seat.now.me.0 in
    let w : View = c.load.new.seat.me.0 in
    let mine : c.hub.inside.seat.table_id ≡ c.args.self.now.table.shared.table_id = ap (λ (p : SeatValue). p.table) c.hub.view_is ∙ c.requires.hub_table.table_is in
    let as_long : length c.hub.inside.seat.me.0.openings ≡ length c.args.seat.now.me.0.openings = ap (λ (p : SeatValue). length p.view.openings) c.hub.view_is ∙ ap length (c.requires.hub_table.openings_are ∙ sym c.requires.pass_table.openings_are) in
    let le : length u.seen ≤ length v.seen = omega (arith, as_long, c.hub.invariant.1, c.requires.seat.wide) in
    let js : c.join_seat.new.seat.me.0 ≡ learnt v (note u) = ap (λ (m : Me LogEntry View). m.0) c.join_seat.ensures.2 ∙ ap (λ (m : Me LogEntry View). learnt v m.0) c.split_seat-note.ensures.4 in
    let told = noted v u w c.join_seat.new.seat.me.0 (stories_after_learning v.number v.stories u.stories) js l.2.1 l.2.2 in
    λ d. (
      just_more _ _ _ _ (told.mine d),
      subst (λ (p : SeatValue). Extends (seen_log p.view d) (seen_log w d)) c.hub.view_is (told.theirs d),
      λ less. caught_up v u w d told le (subst (λ (p : SeatValue). length (seen_log v d) ≤ length (seen_log p.view d)) (sym c.hub.view_is) less) ∙ ap (λ (p : SeatValue). seen_log p.view d) c.hub.view_is,
    )

pub returns-clause-learnt : goal.returns-clause-learnt
returns-clause-learnt c =
    let l = c.load.ensures in
    let u : View = c.hub.inside.seat.me.0 in
    let v : View = c.args.seat.now.me.0 in
    let js : c.join_seat.new.seat.me.0 ≡ learnt v (note u) = ap (λ (m : Me LogEntry View). m.0) c.join_seat.ensures.2 ∙ ap (λ (m : Me LogEntry View). learnt v m.0) c.split_seat-note.ensures.4 in
    subst (λ (p : SeatValue). LearnYields v p.view c.load.new.seat.me.0) c.hub.view_is (learns_it v u c.load.new.seat.me.0 c.join_seat.new.seat.me.0 (noted v u c.load.new.seat.me.0 c.join_seat.new.seat.me.0 (stories_after_learning v.number v.stories u.stories) js l.2.1 l.2.2) js l.2.1 l.2.4 c.requires.seat.pass)
