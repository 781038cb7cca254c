-- What was right of entries and logs stays so as changes come.
use Rattle.std.proofs.Common.{◌≡◌, ◌≤◌, ◌<◌, ℕ, false, inl, inr, refl, sym, ap, ◌∙◌, subst, arith, List, [], ◌∷◌, length, Option, Some, None}
use Rattle.std.specs.Prelude.{◌==◌, All, filter, filter_map, IfSome}
use Rattle.std.proofs.lemmas.Bool.{false≢true}
use Rattle.std.proofs.lemmas.List.Elements.{All-weaker}
use Rattle.model_clock.specs.Clock.{clock_at}
use Rattle.ptp_profile.specs.declared.roles.RoleOrder.{RoleOrder}
use Rattle.ptp_profile.specs.declared.seats.LogEntry.{LogEntry}
use Rattle.ptp_profile.specs.declared.seats.LogEntry.TheVariants.{Order, Change}
use Rattle.ptp_profile.specs.Roles.SeatLogs.{is_order, log_at}
use Rattle.bc_history.specs.declared.entry.Entry.{Entry}
use Rattle.bc_history.specs.declared.entry.Input.{Input}
use Rattle.bc_history.specs.declared.scenario.Scenario.{Scenario}
use Rattle.bc_history.specs.Phases.Inputs.{event_of, tick_of}
use Rattle.bc_history.specs.Phases.State.{Event}
use Rattle.bc_history.specs.Run.Actors.{actor_of}
use Rattle.bc_history.specs.Run.ExchangeOutcomes.{Agrees}
use Rattle.run_legal.specs.Numbers.GrownLogs.{AreSameOrChanged, IsSameOrChanged}
use Rattle.run_legal.specs.Numbers.Knowledge.{known_to, IsUpTo, IsWithin, IsAbreast, ComesAfter, IsNumbered}
use Rattle.run_legal.specs.Numbers.LogNumbers.{order_number, order_numbers, numbers_in}
use Rattle.run_legal.specs.Numbers.Marks.{Exchange, Mark, Sight, exchange_of, hub_sights, marks_in, marks_of, of_clock, sight_mark, sights_of}
use Rattle.run_legal.specs.Runs.Courses.{AreLogs, IsAgreed, IsCourse, IsReadRight, IsSeen, IsSightRight}
use Rattle.run_legal.proofs.lemmas.CourseLemmas.{Agrees-push, EachAfter-weaker, IsSeen-push}

-- a fact that one more entry leaves is so of the later log
of_later : (P : List LogEntry → Type 0) (log later : List LogEntry) → ((change : LogEntry) → P log → P (change ∷ log)) → IsSameOrChanged log later → P log → P later
of_later P log later more (inl same) fact = subst P (sym same) fact
of_later P log later more (inr changed) fact = subst P (sym changed.2) (more changed.0 fact)

-- a change has no order's number
order_number-change : (gener ctrl : ℕ) (change : LogEntry) (log : List LogEntry) → is_order change ≡ false → order_number gener ctrl (change ∷ log) ≡ order_number gener ctrl log
order_number-change gener ctrl (Order g k) log is = absurd (false≢true (sym is))
order_number-change gener ctrl (Change g k tick step freq) log is = refl

order_number-later : (gener ctrl : ℕ) (log later : List LogEntry) → IsSameOrChanged log later → order_number gener ctrl later ≡ order_number gener ctrl log
order_number-later gener ctrl log later (inl same) = ap (order_number gener ctrl) same
order_number-later gener ctrl log later (inr changed) =
    ap (order_number gener ctrl) changed.2 ∙ order_number-change gener ctrl changed.0 log changed.1

-- so orders keep their numbers
numbers-later : (log later : List LogEntry) (orders : List RoleOrder) → IsSameOrChanged log later
    → filter_map (λ (order : RoleOrder). order_number order.gener order.ctrl later) orders ≡ filter_map (λ (order : RoleOrder). order_number order.gener order.ctrl log) orders
numbers-later log later [] grown = refl
numbers-later log later (order ∷ orders) grown = rw (order_number-later order.gener order.ctrl log later grown, numbers-later log later orders grown) refl

module _ (s : Scenario) (logs later : List (List LogEntry)) (grown : AreSameOrChanged logs later) where
  order_numbers-later : (clock : ℕ) (orders : List RoleOrder) → order_numbers later clock orders ≡ order_numbers logs clock orders
  order_numbers-later clock orders = numbers-later (log_at logs clock) (log_at later clock) (filter (λ (order : RoleOrder). order.clock == clock) orders) (grown clock)

  -- entries keep all their numbers
  pub numbers_in-later : (clock : ℕ) (entries : List Entry) → numbers_in s later clock entries ≡ numbers_in s logs clock entries
  numbers_in-later clock [] = refl
  numbers_in-later clock (e ∷ before) = rw (order_numbers-later clock e.effects.orders, numbers_in-later clock before) refl

  -- a reading stays right
  pub sight-later : (tick : ℕ) (sight : Sight) → IsSightRight s logs tick sight → IsSightRight s later tick sight
  sight-later tick sight right =
      of_later (λ (log : List LogEntry). IsSeen (clock_at s.clocks sight.clock) log tick sight.seen) (log_at logs sight.clock) (log_at later sight.clock)
      (λ change is. IsSeen-push (clock_at s.clocks sight.clock) (log_at logs sight.clock) change tick sight.seen is) (grown sight.clock) right

  pub read-later : (event : Event) → IsReadRight s logs event → IsReadRight s later event
  read-later event right = All-weaker (IsSightRight s logs (tick_of event.input)) (IsSightRight s later (tick_of event.input)) (sight-later (tick_of event.input)) (sights_of s event) right

  -- an outcome goes on agreeing
  agreed-by : (o : Option Exchange)
      → IfSome o (λ (exchange : Exchange). Agrees s.options.seat_rows (log_at logs exchange.held.clock) exchange.held exchange.tick exchange.action exchange.outcome)
      → IfSome o (λ (exchange : Exchange). Agrees s.options.seat_rows (log_at later exchange.held.clock) exchange.held exchange.tick exchange.action exchange.outcome)
  agreed-by None agrees = agrees
  agreed-by (Some x) agrees =
      of_later (λ (log : List LogEntry). Agrees s.options.seat_rows log x.held x.tick x.action x.outcome) (log_at logs x.held.clock) (log_at later x.held.clock)
      (λ change is. Agrees-push s.options.seat_rows change (log_at logs x.held.clock) x.held x.tick x.action x.outcome is) (grown x.held.clock) agrees

  pub agreed-later : (input : Input) → IsAgreed s logs input → IsAgreed s later input
  agreed-later input agrees = agreed-by (exchange_of s input) agrees

  -- what was known is so still
  pub within-later : (mark : Mark) → IsWithin logs mark → IsWithin later mark
  within-later mark within =
      of_later (λ (log : List LogEntry). mark.number ≤ length log) (log_at logs mark.clock) (log_at later mark.clock) (λ change le. omega (arith, le)) (grown mark.clock) within

  pub up_to-later : (entries : List Entry) (mark : Mark) → IsUpTo s logs entries mark → IsUpTo s later entries mark
  up_to-later entries mark up = subst (λ (ns : List ℕ). All (λ n. n ≤ mark.number) ns) (sym (numbers_in-later mark.clock entries)) up

  pub abreast-later : (event : Event) (before : List Entry) → IsAbreast s logs event before → IsAbreast s later event before
  abreast-later event before is = record {
    rising = is.rising;
    within = All-weaker (IsWithin logs) (IsWithin later) within-later (marks_of s event) is.within;
    told = All-weaker (IsUpTo s logs (known_to (actor_of event.input) before)) (IsUpTo s later (known_to (actor_of event.input) before)) (up_to-later (known_to (actor_of event.input) before)) (marks_of s event) is.told;
    read = All-weaker (λ (sight : Sight). IsUpTo s logs before (sight_mark sight)) (λ (sight : Sight). IsUpTo s later before (sight_mark sight)) (λ sight. up_to-later before (sight_mark sight)) (hub_sights s event) is.read;
  }

  comes_after-later : (before : List Entry) (order : RoleOrder) → ComesAfter s logs before order → ComesAfter s later before order
  comes_after-later before order comes =
      subst (λ (ns : List ℕ). All (λ n. All (λ (mark : Mark). mark.number < n) (of_clock order.clock (marks_in s before))) ns) (sym (order_numbers-later order.clock (order ∷ []))) comes

  numbered-later : (e : Entry) (before : List Entry) → IsNumbered s logs e before → IsNumbered s later e before
  numbered-later e before is = record {
    abreast = abreast-later (event_of e) before is.abreast;
    ordered = All-weaker (ComesAfter s logs before) (ComesAfter s later before) (comes_after-later before) e.effects.orders is.ordered;
  }

  -- so entries and logs go on belonging together, where the logs stay lawful
  pub course-later : (entries : List Entry) → IsCourse s entries logs → AreLogs s entries later → IsCourse s entries later
  course-later entries course lawful = record {
    formed = course.formed;
    history = course.history;
    lawful = lawful;
    readings = All-weaker (λ (e : Entry). IsReadRight s logs (event_of e)) (λ (e : Entry). IsReadRight s later (event_of e)) (λ e. read-later (event_of e)) entries course.readings;
    actions = course.actions;
    outcomes = record {
      agreed = All-weaker (λ (e : Entry). IsAgreed s logs e.input) (λ (e : Entry). IsAgreed s later e.input) (λ e. agreed-later e.input) entries course.outcomes.agreed;
      once = course.outcomes.once;
    };
    numbers = EachAfter-weaker (IsNumbered s logs) (IsNumbered s later) numbered-later entries course.numbers;
  }
