use Rattle.std.proofs.Common.{zero, refl, ◌≡◌, ℕ, suc, ◌<◌, ◌≤◌, List, ◌∷◌, ◌++◌, [], length, length-append, sym, ap, subst, arith, get_or, ⊎_elim}
use Rattle.std.proofs.lemmas.Bool.{cases_lt}
use Rattle.atomic_table.specs.Seated.{TableId}
use Rattle.model_clock.specs.declared.state.ClockState.{ClockState}
use Rattle.discipline_seat.specs.SeatValue.{SeatValue, Belongs}
use Rattle.discipline_seat.specs.SeatCalls.{IsNewHub, IsNewPass, AreNewPasses}
use Rattle.discipline_seat.specs.Rule.SeatView.{after_split as dealt, new_pass_view as new_pass}
use Rattle.discipline_seat.specs.Rule.SeatLog.{pass_owner}
use Rattle.discipline_seat.proofs.table.Seats.new.Goals as goal

front : (l : List SeatValue) (p d : SeatValue) (m : ℕ) → m < length l → get_or (l ++ p ∷ []) m d ≡ get_or l m d
front [] p d m h = absurd (omega (arith, h))
front (x ∷ xs) p d zero h = refl
front (x ∷ xs) p d (suc m) h = front xs p d m (omega (arith, h))

last : (l : List SeatValue) (p d : SeatValue) → get_or (l ++ p ∷ []) (length l) d ≡ p
last [] p d = refl
last (x ∷ xs) p d = last xs p d

more_dealt : (table : TableId) (os : List ClockState) (ports : ℕ) (l : List SeatValue) (p : SeatValue) → AreNewPasses table os ports l → IsNewPass table os ports (length l) p → AreNewPasses table os ports (l ++ p ∷ [])
more_dealt table os ports l p all new m d h =
    let long = length-append l (p ∷ []) in
    ⊎_elim
    (λ (within : m < length l). subst (IsNewPass table os ports m) (sym (front l p d m within)) (all m d within))
    (λ (past : length l ≤ m).
    let is : m ≡ length l = omega (arith, past, h, long) in
    subst (λ (n : ℕ). IsNewPass table os ports n (get_or (l ++ p ∷ []) n d)) (sym is) (subst (IsNewPass table os ports (length l)) (sym (last l p d)) new))
    (cases_lt m (length l))

pub loop-made-preserved : goal.loop-made-preserved
loop-made-preserved c =
    let i = c.loop-made.invariant in
    let b = i.0 in
    let g = i.2 in
    let t = c.in_ok-seats.seats.table.shared.table_id in
    let os = c.in_ok-seats.seats.openings.items in
    let h = c.loop-made.hub in
    let items = c.push_reserved.ensures.items in
    let long = length-append c.loop-made.passes.items (c.deal-pass.result ∷ []) in
    let hub : c.deal-pass.new.hub ≡ record { table = h.table; view = dealt h.view; spare = h.spare } = c.deal-pass.ensures.hub in
    let pass : c.deal-pass.result ≡ record { table = h.table; view = new_pass h.view; spare = 0 } = c.deal-pass.ensures.pass in
    let fresh : IsNewPass t os c.args.ports (length c.loop-made.passes.items) (record { table = h.table; view = new_pass h.view; spare = 0 })
    = record {
      belongs = record { table_is = b.table_is; openings_are = b.openings_are };
      owner = λ j. pass_owner (g.ports_are j) (g.passes j);
      number = g.passes;
      nothing = g.nothing;
      story = refl;
    } in
    let now : IsNewHub c.args.ports (dealt h.view) (length c.push_reserved.new.self.items)
    = record { owner = g.owner; stories = g.stories; ports_are = g.ports_are; passes = omega (arith, g.passes, ap length items, long); nothing = g.nothing } in (
      subst (Belongs t os) (sym hub) record { table_is = b.table_is; openings_are = b.openings_are },
      omega (arith, ap length items, long, i.1),
      subst (λ (q : SeatValue). IsNewHub c.args.ports q.view (length c.push_reserved.new.self.items)) (sym hub) now,
      subst (AreNewPasses t os c.args.ports) (sym items) (more_dealt t os c.args.ports c.loop-made.passes.items c.deal-pass.result i.3 (subst (IsNewPass t os c.args.ports (length c.loop-made.passes.items)) (sym pass) fresh)),
      omega (arith, i.4, c.push_reserved.ensures.capacity),
      omega (arith, i.5, c.push_reserved.ensures.len),
    )
