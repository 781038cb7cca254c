use Rattle.std.proofs.Common.{◌≡◌, ℕ, ◌<◌, ◌≤◌, List, length, reverse, ap, sym, ◌∙◌, subst, arith, ⊎_elim}
use Rattle.std.proofs.lemmas.Bool.{cases_lt}
use Rattle.ptp_profile.specs.Roles.SeatLogs.{log_at}
use Rattle.ptp_profile.specs.declared.seats.LogEntry.{LogEntry}
use Rattle.discipline_seat.specs.SeatEntries.{entries_at, most_of, placed}
use Rattle.discipline_seat.specs.SeatValue.{SeatValue}
use Rattle.discipline_seat.specs.WholeLogs.{orders_of}
use Rattle.discipline_seat.specs.declared.view.Owner.TheVariants.{Hub}
use Rattle.discipline_seat.specs.declared.view.View.{View}
use Rattle.discipline_seat.specs.Rule.SeatView.{seen_log}
use Rattle.discipline_seat.proofs.lemmas.PlacedEntryLemmas.{within_owned, none_owned}
use Rattle.discipline_seat.proofs.lemmas.WholeLogLemmas.{orders_are}
use Rattle.discipline_seat.proofs.pass.HubSeat.fill.Goals as goal

pub fill-requires : goal.fill-requires
fill-requires c =
    λ d.
    let v : View = c.self.inside.seat.me.0 in
    let i = c.self.invariant in
    let lists = c.args.logs.now.items in
    let es : List (ℕ × LogEntry) = entries_at d (reverse c.self.inside.entries.items) in
    let is : es ≡ orders_of (seen_log v d) = orders_are d (seen_log v d) es (i.5 d) in
    let same : length lists ≡ length v.seen = c.requires.clocks ∙ sym (ap (λ (p : SeatValue). length p.view.openings) c.self.view_is) ∙ sym i.1 in
    ⊎_elim
    (λ (lt : d < length lists). within_owned d Hub (seen_log v d) es (length (log_at lists d)) (i.5 d) (subst (λ (fs : List (ℕ × LogEntry)). most_of 0 fs ≤ length (log_at lists d)) (sym is) (subst (λ (p : SeatValue). most_of 0 (orders_of (seen_log p.view d)) ≤ length (log_at lists d)) (sym c.self.view_is) (c.requires.inside d lt))))
    (λ (past : length lists ≤ d). none_owned d Hub v.seen es (length (log_at lists d)) (omega (arith, past, same)) (i.5 d))
    (cases_lt d (length lists))

pub returns-clause-placed : goal.returns-clause-placed
returns-clause-placed c = λ d.
    c.fill.ensures.placed d
    ∙ ap (λ (es : List (ℕ × LogEntry)). placed es (log_at c.args.logs.now.items d)) (orders_are d _ _ (c.self.invariant.5 d))
    ∙ ap (λ (p : SeatValue). placed (orders_of (seen_log p.view d)) (log_at c.args.logs.now.items d)) c.self.view_is
