-- What was right of entries and logs stays so as the orders of one more entry come: they are newer than all before.
use Rattle.std.proofs.Common.{◌≡◌, ◌≤◌, ◌<◌, ℕ, ◌+◌, Bool, true, false, cond, inl, inr, refl, sym, ◌∙◌, subst, arith, List, [], ◌∷◌, length, Option, Some, None}
use Rattle.std.specs.Prelude.{◌⊎◌, All, IfSome}
use Rattle.std.proofs.lemmas.List.Elements.{All-cons, All-nil, All-head, All-tail, All-weaker, Contains-append_right}
use Rattle.model_clock.specs.Clock.{clock_at}
use Rattle.ptp_profile.specs.declared.roles.RoleOrder.{RoleOrder}
use Rattle.ptp_profile.specs.declared.seats.LogEntry.{LogEntry}
use Rattle.ptp_profile.specs.declared.seats.LogEntry.TheVariants.{Order}
use Rattle.ptp_profile.specs.Roles.SeatLogs.{HasOrder, log_at, order_entry, with_order, with_orders}
use Rattle.bc_history.specs.declared.entry.Entry.{Entry}
use Rattle.bc_history.specs.declared.entry.Input.{Input}
use Rattle.bc_history.specs.declared.scenario.Scenario.{Scenario}
use Rattle.bc_history.specs.Phases.Inputs.{event_of, tick_of}
use Rattle.bc_history.specs.Phases.State.{Event}
use Rattle.bc_history.specs.Run.Actors.{actor_of}
use Rattle.bc_history.specs.Run.ExchangeOutcomes.{Agrees}
use Rattle.bc_history.specs.declared.entry.Who.{Who}
use Rattle.bc_history.specs.Run.Actors.{is_by}
use Rattle.run_legal.specs.Numbers.Knowledge.{known_to, IsUpTo, IsWithin, IsAbreast, ComesAfter, IsNumbered}
use Rattle.run_legal.specs.Numbers.LogNumbers.{order_numbers, numbers_in}
use Rattle.run_legal.specs.Numbers.Marks.{Exchange, Mark, Sight, exchange_of, hub_sights, marks_in, marks_of, of_clock, sight_mark, sights_of}
use Rattle.run_legal.specs.Runs.Courses.{EachAfter, IsAgreed, IsReadRight, IsSeen, IsSightRight}
use Rattle.run_legal.proofs.lemmas.CourseLemmas.{Agrees-push, IsSeen-push}
use Rattle.run_legal.proofs.lemmas.NewerOrderLemmas.{AreOf, AreUpTo, log_at-changed, numbers-stay_by, numbers_stay}

-- ---- logs with more orders

-- a fact of a clock's log that one more entry leaves is so after orders
pub of_ordered : (P : List LogEntry → Type 0) → ((entry : LogEntry) (log : List LogEntry) → P log → P (entry ∷ log)) → (clock : ℕ) (orders : List RoleOrder) (logs : List (List LogEntry))
    → P (log_at logs clock) → P (log_at (with_orders logs orders) clock)
of_ordered P more clock [] logs fact = fact
of_ordered P more clock (order ∷ orders) logs fact = of_ordered P more clock orders (with_order logs order) (by (log_at-changed logs order.clock clock (order_entry order)))
  where
    by : (log_at (with_order logs order) clock ≡ log_at logs clock) ⊎ (log_at (with_order logs order) clock ≡ order_entry order ∷ log_at logs clock) → P (log_at (with_order logs order) clock)
    by (inl same) = subst P (sym same) fact
    by (inr changed) = subst P (sym changed) (more (order_entry order) (log_at logs clock) fact)

-- orders of a generation are newer than those of entries up to the one before
newer-entries : (g : ℕ) (order : RoleOrder) (entries : List Entry) → order.gener ≡ g + 1 → All (AreUpTo g) entries
    → All (λ (e : Entry). All (λ (o : RoleOrder). o.gener < order.gener) e.effects.orders) entries
newer-entries g order entries new former =
    All-weaker (AreUpTo g) (λ (e : Entry). All (λ (o : RoleOrder). o.gener < order.gener) e.effects.orders)
    (λ e up. All-weaker (λ (o : RoleOrder). o.gener ≤ g) (λ (o : RoleOrder). o.gener < order.gener) (λ o le. omega (arith, le, new)) e.effects.orders up) entries former

-- entries keep all their numbers
pub numbers_in-ordered : (s : Scenario) (g clock : ℕ) (entries : List Entry) → All (AreUpTo g) entries → (orders : List RoleOrder) → AreOf (g + 1) orders → (logs : List (List LogEntry))
    → numbers_in s (with_orders logs orders) clock entries ≡ numbers_in s logs clock entries
numbers_in-ordered s g clock entries former [] new logs = refl
numbers_in-ordered s g clock entries former (order ∷ orders) new logs =
    numbers_in-ordered s g clock entries former orders (All-tail (λ (o : RoleOrder). o.gener ≡ g + 1) order orders new) (with_order logs order)
    ∙ numbers_stay s logs order clock entries (newer-entries g order entries (All-head (λ (o : RoleOrder). o.gener ≡ g + 1) order orders new) former)

-- so do orders up to the generation before
order_numbers-ordered : (g clock : ℕ) (some : List RoleOrder) → All (λ (o : RoleOrder). o.gener ≤ g) some → (orders : List RoleOrder) → AreOf (g + 1) orders → (logs : List (List LogEntry))
    → order_numbers (with_orders logs orders) clock some ≡ order_numbers logs clock some
order_numbers-ordered g clock some former [] new logs = refl
order_numbers-ordered g clock some former (order ∷ orders) new logs =
    let gener = All-head (λ (o : RoleOrder). o.gener ≡ g + 1) order orders new in
    order_numbers-ordered g clock some former orders (All-tail (λ (o : RoleOrder). o.gener ≡ g + 1) order orders new) (with_order logs order)
    ∙ numbers-stay_by logs order clock some (All-weaker (λ (o : RoleOrder). o.gener ≤ g) (λ (o : RoleOrder). o.gener < order.gener) (λ o le. omega (arith, le, gener)) some former)

-- what is so of all entries is so of those that an actor knew
pub All-known : (P : Entry → Type 0) (who : Who) (entries : List Entry) → All P entries → All P (known_to who entries)
All-known P who [] all = all
All-known P who (e ∷ before) all = by (is_by who e) (All-known P who before (All-tail P e before all))
  where
    by : (b : Bool) → All P (known_to who before) → All P (cond b (e ∷ before) (known_to who before))
    by true rest = all
    by false rest = rest

module _ (s : Scenario) (logs : List (List LogEntry)) (g : ℕ) (orders : List RoleOrder) (new : AreOf (g + 1) orders) where
  -- a reading stays right
  pub sight-ordered : (tick : ℕ) (sight : Sight) → IsSightRight s logs tick sight → IsSightRight s (with_orders logs orders) tick sight
  sight-ordered tick sight right =
      of_ordered (λ (log : List LogEntry). IsSeen (clock_at s.clocks sight.clock) log tick sight.seen)
      (λ entry log is. IsSeen-push (clock_at s.clocks sight.clock) log entry tick sight.seen is) sight.clock orders logs right

  -- so do all readings of an event
  pub read-ordered : (event : Event) → IsReadRight s logs event → IsReadRight s (with_orders logs orders) event
  read-ordered event right =
      All-weaker (IsSightRight s logs (tick_of event.input)) (IsSightRight s (with_orders logs orders) (tick_of event.input)) (sight-ordered (tick_of event.input)) (sights_of s event) right

  -- an outcome goes on agreeing
  agreed-by : (o : Option Exchange)
      → IfSome o (λ (exchange : Exchange). Agrees s.options.seat_rows (log_at logs exchange.held.clock) exchange.held exchange.tick exchange.action exchange.outcome)
      → IfSome o (λ (exchange : Exchange). Agrees s.options.seat_rows (log_at (with_orders logs orders) exchange.held.clock) exchange.held exchange.tick exchange.action exchange.outcome)
  agreed-by None agrees = agrees
  agreed-by (Some x) agrees =
      of_ordered (λ (log : List LogEntry). Agrees s.options.seat_rows log x.held x.tick x.action x.outcome)
      (λ entry log is. Agrees-push s.options.seat_rows entry log x.held x.tick x.action x.outcome is) x.held.clock orders logs agrees

  -- so does that of an input
  pub agreed-ordered : (input : Input) → IsAgreed s logs input → IsAgreed s (with_orders logs orders) input
  agreed-ordered input agrees = agreed-by (exchange_of s input) agrees

  -- an order stays in its log
  pub has-ordered : (clock gener ctrl : ℕ) → HasOrder (log_at logs clock) gener ctrl → HasOrder (log_at (with_orders logs orders) clock) gener ctrl
  has-ordered clock gener ctrl has =
      of_ordered (λ (log : List LogEntry). HasOrder log gener ctrl) (λ entry log is. Contains-append_right (entry ∷ []) log (Order gener ctrl) is) clock orders logs has

  -- what was known is so still
  pub within-ordered : (mark : Mark) → IsWithin logs mark → IsWithin (with_orders logs orders) mark
  within-ordered mark within =
      of_ordered (λ (log : List LogEntry). mark.number ≤ length log) (λ entry log le. omega (arith, le)) mark.clock orders logs within

  -- and is not below what entries have
  pub up_to-ordered : (entries : List Entry) → All (AreUpTo g) entries → (mark : Mark) → IsUpTo s logs entries mark → IsUpTo s (with_orders logs orders) entries mark
  up_to-ordered entries former mark up =
      subst (λ (ns : List ℕ). All (λ n. n ≤ mark.number) ns) (sym (numbers_in-ordered s g mark.clock entries former orders new logs)) up

  -- so an event stays abreast
  pub abreast-ordered : (event : Event) (before : List Entry) → All (AreUpTo g) before → IsAbreast s logs event before → IsAbreast s (with_orders logs orders) event before
  abreast-ordered event before former is = record {
    rising = is.rising;
    within = All-weaker (IsWithin logs) (IsWithin (with_orders logs orders)) within-ordered (marks_of s event) is.within;
    told = All-weaker (IsUpTo s logs (known_to (actor_of event.input) before)) (IsUpTo s (with_orders logs orders) (known_to (actor_of event.input) before))
        (up_to-ordered (known_to (actor_of event.input) before) (All-known (AreUpTo g) (actor_of event.input) before former)) (marks_of s event) is.told;
    read = All-weaker (λ (sight : Sight). IsUpTo s logs before (sight_mark sight)) (λ (sight : Sight). IsUpTo s (with_orders logs orders) before (sight_mark sight))
        (λ sight. up_to-ordered before former (sight_mark sight)) (hub_sights s event) is.read;
  }

  -- an order stays above what was known before it
  comes_after-ordered : (before : List Entry) (order : RoleOrder) → order.gener ≤ g → ComesAfter s logs before order → ComesAfter s (with_orders logs orders) before order
  comes_after-ordered before order le comes =
      subst (λ (ns : List ℕ). All (λ n. All (λ (mark : Mark). mark.number < n) (of_clock order.clock (marks_in s before))) ns)
      (sym (order_numbers-ordered g order.clock (order ∷ []) (All-cons (λ (o : RoleOrder). o.gener ≤ g) order [] le (All-nil (λ (o : RoleOrder). o.gener ≤ g))) orders new logs)) comes

  -- so do those of an entry
  comes_after-each : (before : List Entry) (some : List RoleOrder) → All (λ (o : RoleOrder). o.gener ≤ g) some → All (ComesAfter s logs before) some → All (ComesAfter s (with_orders logs orders) before) some
  comes_after-each before [] former all = All-nil (ComesAfter s (with_orders logs orders) before)
  comes_after-each before (order ∷ some) former all =
      All-cons (ComesAfter s (with_orders logs orders) before) order some
      (comes_after-ordered before order (All-head (λ (o : RoleOrder). o.gener ≤ g) order some former) (All-head (ComesAfter s logs before) order some all))
      (comes_after-each before some (All-tail (λ (o : RoleOrder). o.gener ≤ g) order some former) (All-tail (ComesAfter s logs before) order some all))

  -- so each entry keeps its place among the numbers
  pub numbered-ordered : (entries : List Entry) → All (AreUpTo g) entries → EachAfter (IsNumbered s logs) entries → EachAfter (IsNumbered s (with_orders logs orders)) entries
  numbered-ordered [] former each = tt
  numbered-ordered (e ∷ before) former each =
      let rest = All-tail (AreUpTo g) e before former in (
        record {
          abreast = abreast-ordered (event_of e) before rest each.0.abreast;
          ordered = comes_after-each before e.effects.orders (All-head (AreUpTo g) e before former) each.0.ordered;
        },
        numbered-ordered before rest each.1,
      )
