use Rattle.std.proofs.Common.{◌≡◌, ◌<◌, List, [], ◌∷◌, ◌++◌, length, get_or, sym, ap, ◌∙◌, subst, arith, append_assoc, length-append}
use Rattle.ptp_profile.specs.Roles.SeatLogs.{log_at}
use Rattle.discipline_seat.specs.SeatValue.{IsSeatOf, SeatValue}
use Rattle.discipline_seat.proofs.lemmas.GatherLemmas.{one_taken, at_middle}
use Rattle.discipline_seat.proofs.lemmas.WholeLogLemmas.{most_of_hub, placed_pass, room_for_pass}
use Rattle.discipline_seat.proofs.table.Seats.gather_all.Goals as goal

pub fill-requires-clause-inside : goal.fill-requires-clause-inside
fill-requires-clause-inside c = λ d lt.
    let room = c.requires.sized d lt in
    let part = most_of_hub d c.args.hub.now.view c.args.passes.items in
    omega (arith, room, part)

pub gather-requires-clause-pass_table : goal.gather-requires-clause-pass_table
gather-requires-clause-pass_table c =
    let i = c.loop-pass.invariant in
    let p = c.in-Some.pass in
    let xs : List SeatValue = c.pop.new.self.items in
    let whole : c.args.passes.items ≡ xs ++ p ∷ i.done = i.all ∙ ap (λ (l : List SeatValue). l ++ i.done) c.in-Some.ensures.items ∙ append_assoc xs (p ∷ []) i.done in
    let inside : length xs < length c.args.passes.items = omega (arith, ap length whole, length-append xs (p ∷ i.done)) in
    subst (IsSeatOf c.args.self.now) (ap (λ (l : List SeatValue). get_or l (length xs) p) whole ∙ at_middle xs i.done p) (c.requires.pass_tables (length xs) p inside)

pub fill-requires-in-Some-clause-clocks : goal.fill-requires-in-Some-clause-clocks
fill-requires-in-Some-clause-clocks c =
    let i = c.loop-pass.invariant in
    let p = c.in-Some.pass in
    let xs : List SeatValue = c.pop.new.self.items in
    let whole : c.args.passes.items ≡ xs ++ p ∷ i.done = i.all ∙ ap (λ (l : List SeatValue). l ++ i.done) c.in-Some.ensures.items ∙ append_assoc xs (p ∷ []) i.done in
    let inside : length xs < length c.args.passes.items = omega (arith, ap length whole, length-append xs (p ∷ i.done)) in
    let its : IsSeatOf c.args.self.now p = subst (IsSeatOf c.args.self.now) (ap (λ (l : List SeatValue). get_or l (length xs) p) whole ∙ at_middle xs i.done p) (c.requires.pass_tables (length xs) p inside) in
    i.clocks ∙ c.requires.clocks ∙ sym (ap length its.openings_are)

pub fill-requires-in-Some-clause-inside : goal.fill-requires-in-Some-clause-inside
fill-requires-in-Some-clause-inside c = λ d lt.
    let i = c.loop-pass.invariant in
    let p = c.in-Some.pass in
    let xs : List SeatValue = c.pop.new.self.items in
    let whole : c.args.passes.items ≡ xs ++ p ∷ i.done = i.all ∙ ap (λ (l : List SeatValue). l ++ i.done) c.in-Some.ensures.items ∙ append_assoc xs (p ∷ []) i.done in
    room_for_pass d c.args.hub.now.view c.args.passes.items xs i.done p (log_at c.loop-pass.lists.items d) (log_at c.args.lists.now.items d) whole (i.placed_so d) (c.requires.sized d (omega (arith, i.clocks, lt)))

pub loop-pass-preserved : goal.loop-pass-preserved
loop-pass-preserved c =
    let i = c.loop-pass.invariant in
    let p = c.in-Some.pass in
    let xs : List SeatValue = c.pop.new.self.items in
    record {
      hub_table = c.gather.ensures.hub_table;
      clocks = c.fill-in-Some.ensures.clocks ∙ i.clocks;
      done = p ∷ i.done;
      all = i.all ∙ ap (λ (l : List SeatValue). l ++ i.done) c.in-Some.ensures.items ∙ append_assoc xs (p ∷ []) i.done;
      taken = one_taken c.args.hub.now.view c.loop-pass.hub.view c.gather.new.hub.view p i.done i.taken c.gather.ensures.taken;
      placed_so = λ d. placed_pass d c.args.hub.now.view p i.done (log_at c.fill-in-Some.new.logs.items d) (log_at c.loop-pass.lists.items d) (log_at c.args.lists.now.items d) (c.fill-in-Some.ensures.placed d) (i.placed_so d);
    }
