use Rattle.std.proofs.Common.{◌≡◌, ◌<◌, ◌-◌, ℤ, ◌∷◌, ap, ◌∙◌, length, rules, w64, to_z, of_z}
use Rattle.std.proofs.lemmas.Int.{to_z-of_z}
use Rattle.ptp_profile.specs.declared.seats.Receipt.{Receipt}
use Rattle.ptp_profile.specs.Roles.SeatLogs.{change_of}
use Rattle.discipline_seat.proofs.lemmas.SeatInvariantLemmas.{line-there, line_of, number-added, refused-seen, seen-added}
use Rattle.discipline_seat.proofs.plain.PlainSeats.adjust.Goals as goal

pub returns-in-Ok-clause-taken : goal.returns-in-Ok-clause-taken
returns-in-Ok-clause-taken c =
    let there : c.args.held.clock < length c.self.inside.seats.items =
    line-there c.self.inside.rows c.self.inside.spare c.self.inside.seats.items c.args.held.clock c.args.self.now c.self.view_is c.requires.there in
    let step : to_z w64 (of_z w64 c.args.step) ≡ c.args.step = to_z-of_z w64 c.args.step (search rules) in
    let freq : to_z w64 (of_z w64 c.args.freq) ≡ c.args.freq = to_z-of_z w64 c.args.freq (search rules) in
    let changed : c.adjust.new.self ≡ line_of c.index_mut-seat.result.now.opening (change_of c.args.held c.args.tick c.args.step c.args.freq ∷ c.index_mut-seat.result.now.log) (c.index_mut-seat.result.now.room - 1) =
    c.in-Ok.ensures.taken
    ∙ ap (λ (s : ℤ). line_of c.index_mut-seat.result.now.opening (change_of c.args.held c.args.tick s (to_z w64 (of_z w64 c.args.freq)) ∷ c.index_mut-seat.result.now.log) (c.index_mut-seat.result.now.room - 1)) step
    ∙ ap (λ (f : ℤ). line_of c.index_mut-seat.result.now.opening (change_of c.args.held c.args.tick c.args.step f ∷ c.index_mut-seat.result.now.log) (c.index_mut-seat.result.now.room - 1)) freq in
    seen-added c.self.inside.rows c.self.inside.spare c.self.inside.seats.items c.args.held.clock c.adjust.new.self c.index_mut-seat.result.now
    (change_of c.args.held c.args.tick c.args.step c.args.freq) c.args.self.now there c.index_mut-seat.ensures.value changed c.self.view_is

pub returns-in-Ok-clause-number : goal.returns-in-Ok-clause-number
returns-in-Ok-clause-number c =
    let there : c.args.held.clock < length c.self.inside.seats.items =
    line-there c.self.inside.rows c.self.inside.spare c.self.inside.seats.items c.args.held.clock c.args.self.now c.self.view_is c.requires.there in
    let step : to_z w64 (of_z w64 c.args.step) ≡ c.args.step = to_z-of_z w64 c.args.step (search rules) in
    let freq : to_z w64 (of_z w64 c.args.freq) ≡ c.args.freq = to_z-of_z w64 c.args.freq (search rules) in
    let changed : c.adjust.new.self ≡ line_of c.index_mut-seat.result.now.opening (change_of c.args.held c.args.tick c.args.step c.args.freq ∷ c.index_mut-seat.result.now.log) (c.index_mut-seat.result.now.room - 1) =
    c.in-Ok.ensures.taken
    ∙ ap (λ (s : ℤ). line_of c.index_mut-seat.result.now.opening (change_of c.args.held c.args.tick s (to_z w64 (of_z w64 c.args.freq)) ∷ c.index_mut-seat.result.now.log) (c.index_mut-seat.result.now.room - 1)) step
    ∙ ap (λ (f : ℤ). line_of c.index_mut-seat.result.now.opening (change_of c.args.held c.args.tick c.args.step f ∷ c.index_mut-seat.result.now.log) (c.index_mut-seat.result.now.room - 1)) freq in
    ap (λ (r : Receipt). r.number) c.in-Ok.ensures.number
    ∙ number-added c.self.inside.seats.items c.args.held.clock c.adjust.new.self c.index_mut-seat.result.now
    (change_of c.args.held c.args.tick c.args.step c.args.freq) there changed

pub returns-in-Err-clause-refused : goal.returns-in-Err-clause-refused
returns-in-Err-clause-refused c =
    let there : c.args.held.clock < length c.self.inside.seats.items =
    line-there c.self.inside.rows c.self.inside.spare c.self.inside.seats.items c.args.held.clock c.args.self.now c.self.view_is c.requires.there in
    refused-seen c.self.inside.rows c.self.inside.spare c.self.inside.seats.items c.args.held.clock c.index_mut-seat.result.now c.args.held c.in-Err.refused
    c.args.self.now there c.index_mut-seat.ensures.value c.self.invariant.come c.requires.somebody c.in-Err.ensures.answer c.self.view_is c.requires.ordered
