use Rattle.std.proofs.Common.{◌≡◌, ◌++◌, ◌∷◌, [], rules, ap, ◌∙◌, w64, to_z, of_z, ℤ}
use Rattle.std.proofs.lemmas.Int.{to_z-of_z}
use Rattle.ptp_profile.specs.declared.seats.LogEntry.TheVariants.{Change}
use Rattle.discipline_seat.proofs.lemmas.SeatInvariantLemmas.{changed-line}
use Rattle.discipline_seat.proofs.seat.Seat.change.Goals as goal

pub returns-clause-log : goal.returns-clause-log
returns-clause-log c =
    let step : to_z w64 (of_z w64 c.args.step) ≡ c.args.step = to_z-of_z w64 c.args.step (search rules) in
    let freq : to_z w64 (of_z w64 c.args.freq) ≡ c.args.freq = to_z-of_z w64 c.args.freq (search rules) in
    changed-line c.args.self.now c.self.inside.opening c.self.inside.entries.items c.push_reserved.new.self.items c.self.inside.room c.self.inside.stamp
    c.args.tick c.args.step c.args.freq c.self.view_is
    (c.push_reserved.ensures.items
    ∙ ap (λ (s : ℤ). c.self.inside.entries.items ++ Change c.self.inside.stamp.gener c.self.inside.stamp.ctrl c.args.tick s (to_z w64 (of_z w64 c.args.freq)) ∷ []) step
    ∙ ap (λ (f : ℤ). c.self.inside.entries.items ++ Change c.self.inside.stamp.gener c.self.inside.stamp.ctrl c.args.tick c.args.step f ∷ []) freq)
    c.self.invariant.kept.stamp_is
