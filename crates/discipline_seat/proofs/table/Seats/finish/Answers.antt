use Rattle.std.proofs.Common.{◌≡◌, ◌<◌, ℕ, List, [], ◌∷◌, length, map, reverse, sym, ap, ◌∙◌, subst}
use Rattle.std.specs.Prelude.{All}
use Rattle.std.specs.List.{AllByRecursion}
use Rattle.discipline_seat.specs.SeatEntries.{most_of}
use Rattle.std.proofs.lemmas.List.Elements.{recursion_from_All}
use Rattle.model_clock.specs.declared.state.ClockState.{ClockState}
use Rattle.ptp_profile.specs.Roles.SeatLogs.{log_at, logs_from}
use Rattle.discipline_seat.specs.SeatValue.{IsSeatOf, PassesLeft, SeatValue}
use Rattle.discipline_seat.specs.declared.view.View.{View}
use Rattle.discipline_seat.specs.WholeLogs.{AllTakenIn, CloseYields, made_of}
use Rattle.discipline_seat.proofs.lemmas.ClosedLogLemmas.{closed_logs}
use Rattle.discipline_seat.proofs.table.Seats.finish.Goals as goal

pub returns : goal.returns
returns c =
    let v : View = c.args.hub.view in
    let h : View = c.hub.inside.seat.me.0 in
    let ps : List SeatValue = c.passes.inside.passes.items in
    let lists = c.gather_all.new.lists.items in
    let os : List ClockState = c.args.self.openings.items in
    let given : ps ≡ c.args.passes.passes = ap (λ (p : PassesLeft). p.passes) c.passes.view_is in
    let is : h ≡ c.gather_all.new.hub.view = ap (λ (p : SeatValue). p.view) c.hub.view_is in
    let final = c.close_with-closed.ensures.values.2 in
    let kept = final.1.0.0 in
    let taken : AllTakenIn v ps h = subst (AllTakenIn v ps) (sym is) c.gather_all.ensures.taken in
    let its : AllByRecursion (IsSeatOf c.args.self) ps = recursion_from_All (IsSeatOf c.args.self) ps (subst (λ (l : List SeatValue). All (IsSeatOf c.args.self) l) (sym given) c.requires.pass_tables) in
    let wide : length h.seen ≡ length os = c.hub.invariant.1 ∙ ap (λ (y : View). length y.openings) is ∙ ap length c.gather_all.ensures.hub_table.openings_are in
    let keyed : c.args.self.table.shared.key.openings.items ≡ os = c.args.self.openings_are in
    let yields = closed_logs _ _ _ final.0 kept c.hub.inside.seat.id v h ps lists c.args.blanks.lists.items final.1.1 c.hub.invariant.2
    (wide ∙ ap length (sym keyed)) taken (ap length given ∙ c.requires.all) (opened ps its (sym keyed)) (c.requires.clocks ∙ ap length (sym keyed)) c.gather_all.ensures.clocks
    (subst (λ (l : List SeatValue). (clock : ℕ) → clock < length c.args.blanks.lists.items → length (log_at c.args.blanks.lists.items clock) ≡ most_of 0 (made_of clock v l)) (sym given) c.requires.sized)
    c.gather_all.ensures.placed in (
      map reverse lists,
      c.logs_of.ensures ∙ ap (λ (o : List ClockState). logs_from 0 o (map reverse lists)) c.as_slice.ensures.value,
      subst (λ (q : ℕ × List ClockState × List SeatValue). CloseYields q.0 q.1 v q.2 (map reverse lists)) (λ i. (sym c.args.self.rows_are i, keyed i, given i)) yields,
    )
  where
    opened : (ps : List SeatValue) → AllByRecursion (IsSeatOf c.args.self) ps → {os : List ClockState} → c.args.self.openings.items ≡ os → AllByRecursion (λ (p : SeatValue). p.view.openings ≡ os) ps
    opened [] all e = tt
    opened (p ∷ ps) all e = (all.0.openings_are ∙ e, opened ps all.1 e)
