use Rattle.std.proofs.Common.{◌≡◌, ℕ, ◌<◌, ◌≤◌, List, length, reverse, ap, sym, ◌∙◌, subst, arith, ⊎_elim}
use Rattle.std.proofs.lemmas.Bool.{cases_lt}
use Rattle.ptp_profile.specs.Roles.SeatLogs.{log_at}
use Rattle.ptp_profile.specs.declared.seats.LogEntry.{LogEntry}
use Rattle.discipline_seat.specs.SeatEntries.{AreWithin, entries_at, most_of, placed}
use Rattle.discipline_seat.specs.SeatValue.{SeatValue}
use Rattle.discipline_seat.specs.declared.view.View.{View}
use Rattle.discipline_seat.specs.Rule.Story.{receipts_of}
use Rattle.discipline_seat.proofs.lemmas.PlacedEntryLemmas.{within_owned, none_owned}
use Rattle.discipline_seat.proofs.pass.Pass.fill.Goals as goal

pub fill-requires : goal.fill-requires
fill-requires c =
    λ d.
    let v : View = c.self.inside.seat.me.0 in
    let i = c.self.invariant in
    let lists = c.args.logs.now.items in
    let rs : List (ℕ × LogEntry) = receipts_of d v.stories.story in
    let keeps : entries_at d (reverse c.self.inside.entries.items) ≡ rs = i.5 d in
    let same : length lists ≡ length v.seen = c.requires.clocks ∙ sym (ap (λ (p : SeatValue). length p.view.openings) c.self.view_is) ∙ sym i.1 in
    subst (AreWithin (length (log_at lists d))) (sym keeps)
    (⊎_elim
    (λ (lt : d < length lists). within_owned d v.owner _ rs (length (log_at lists d)) (i.4.own d) (subst (λ (p : SeatValue). most_of 0 (receipts_of d p.view.stories.story) ≤ length (log_at lists d)) (sym c.self.view_is) (c.requires.inside d lt)))
    (λ (past : length lists ≤ d). none_owned d v.owner v.seen rs (length (log_at lists d)) (omega (arith, past, same)) (i.4.own d))
    (cases_lt d (length lists)))

pub returns-clause-placed : goal.returns-clause-placed
returns-clause-placed c = λ d.
    c.fill.ensures.placed d
    ∙ ap (λ (es : List (ℕ × LogEntry)). placed es (log_at c.args.logs.now.items d)) (c.self.invariant.5 d)
    ∙ ap (λ (p : SeatValue). placed (receipts_of d p.view.stories.story) (log_at c.args.logs.now.items d)) c.self.view_is
