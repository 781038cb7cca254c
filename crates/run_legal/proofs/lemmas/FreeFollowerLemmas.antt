-- An exchange of a follower leaves the World right.
use Rattle.std.proofs.Common.{◌≡◌, ◌≢◌, ◌≤◌, ◌<◌, ℕ, zero, suc, Bool, true, false, cond, refl, sym, ap, ◌∙◌, subst, arith, List, [], ◌∷◌, ◌++◌, length, Some, None}
use Rattle.std.specs.Prelude.{◌==◌, All, Contains, filter, slice_get}
use Rattle.std.proofs.lemmas.Bool.{eqb-true}
use Rattle.std.proofs.lemmas.List.Elements.{All-append, All-cons, All-contains, All-contains_itself, All-head, All-map, All-nil, All-tail, All-weaker}
use Rattle.ptp_profile.specs.declared.roles.Lead.{Lead}
use Rattle.ptp_profile.specs.declared.roles.RoleOrder.{RoleOrder}
use Rattle.ptp_profile.specs.declared.seats.Held.{Held}
use Rattle.ptp_profile.specs.declared.seats.LogEntry.{LogEntry}
use Rattle.ptp_profile.specs.declared.seats.LogEntry.TheVariants.{Order}
use Rattle.ptp_profile.specs.declared.timing.Action.{Action}
use Rattle.ptp_profile.specs.Roles.SeatLogs.{HasOrder, IsLawful, is_order, log_at, order_entry, orders_for}
use Rattle.bc_history.specs.declared.entry.Input.TheVariants.{Sampled}
use Rattle.bc_history.specs.declared.entry.Outcome.{Outcome}
use Rattle.bc_history.specs.declared.entry.Outcome.TheVariants.{Unlocked, Changed, Superseded, Spent}
use Rattle.bc_history.specs.declared.entry.Seen.{Seen}
use Rattle.bc_history.specs.declared.entry.Who.TheVariants.{Follower as A_follower}
use Rattle.bc_history.specs.declared.place.FollowerPlace.TheVariants.{Exchanges as Exchanges_own, Samples}
use Rattle.bc_history.specs.declared.scenario.Scenario.{Scenario}
use Rattle.bc_history.specs.Phases.EntryEffects.{event}
use Rattle.bc_history.specs.Phases.State.{Follower}
use Rattle.bc_history.specs.Phases.Step.{state_of}
use Rattle.bc_history.specs.Run.Actors.{entries_of}
use Rattle.bc_history.specs.Run.World.{World, held_by, with_follower}
use Rattle.run_legal.specs.Numbers.GrownLogs.{AreSameOrChanged, logs_after_exchange, outcome_of_exchange}
use Rattle.run_legal.specs.Numbers.Knowledge.{IsAbreast, IsNumbered, IsUpTo, IsWithin, known_to}
use Rattle.run_legal.specs.Numbers.LogNumbers.{numbers_in}
use Rattle.run_legal.specs.Numbers.Marks.{Mark, marks_in, of_clock, sight_mark}
use Rattle.run_legal.specs.Runs.Courses.{IsAgreed, IsCourse, IsReadRight}
use Rattle.run_legal.specs.Runs.WorldInvariant.{IsFollowerPlaced, IsLed, IsRight, IsToExchange, IsToSample}
use Rattle.run_legal.proofs.lemmas.CourseLemmas.{marks_inside}
use Rattle.run_legal.proofs.lemmas.FreePlaceLemmas.{moved-right}
use Rattle.run_legal.proofs.lemmas.GrownLogLemmas.{numbers_in-later, read-later, up_to-later}
use Rattle.run_legal.proofs.lemmas.HolderLemmas.{All-passing}
use Rattle.run_legal.proofs.lemmas.NumberBoundLemmas.{AreUpTo, IsAtEnd, exchange-at_end, known-each, marks-of_clock, numbers-within}
use Rattle.run_legal.proofs.lemmas.PortExchangeLemmas.{exchange-logs, held_agreed, held_course, log-there}
use Rattle.run_legal.proofs.lemmas.ReadingLemmas.{former-within}

-- ---- the stamp of a lead

-- a log that has an order is one of the logs
has_order-there : (logs : List (List LogEntry)) (c gener ctrl : ℕ) → HasOrder (log_at logs c) gener ctrl → c < length logs
has_order-there [] c gener ctrl has = let none = has.1 in absurd (omega arith)
has_order-there (log ∷ logs) zero gener ctrl has = omega arith
has_order-there (log ∷ logs) (suc c) gener ctrl has = let lt = has_order-there logs c gener ctrl has in omega (arith, lt)

-- what is so of each that passes a test is so of all that pass
All-filtered : {X : Type 0} (P : X → Type 0) (test : X → Bool) (xs : List X) → All (λ (x : X). test x ≡ true → P x) xs → All P (filter test xs)
All-filtered P test [] all = All-nil P
All-filtered {X} P test (x ∷ xs) all = by (test x) refl (All-filtered P test xs (All-tail (λ (y : X). test y ≡ true → P y) x xs all))
  where
    by : (b : Bool) → test x ≡ b → All P (filter test xs) → All P (cond b (x ∷ filter test xs) (filter test xs))
    by true is rest = All-cons P x (filter test xs) (All-head (λ (y : X). test y ≡ true → P y) x xs all is) rest
    by false is rest = rest

-- an order by its parts
abbrev order_with : (clock gener ctrl : ℕ) → RoleOrder
order_with clock gener ctrl = record { clock = clock; gener = gener; ctrl = ctrl }

-- an order is the one of its parts
order-same : (o : RoleOrder) (clock gener ctrl : ℕ) → o.clock ≡ clock → Order o.gener o.ctrl ≡ Order gener ctrl → o ≡ order_with clock gener ctrl
order-same o clock gener ctrl is same =
    let by_gener : o.gener ≡ gener = cc in
    let by_ctrl : o.ctrl ≡ ctrl = cc in
    ap (λ (c : ℕ). order_with c o.gener o.ctrl) is ∙ (ap (λ (g : ℕ). order_with clock g o.ctrl) by_gener ∙ ap (λ (k : ℕ). order_with clock gener k) by_ctrl)

-- an order of a lawful log is one for its clock
has_order-ordered : (clock gener ctrl : ℕ) (orders : List RoleOrder) (log : List LogEntry) → IsLawful clock orders log → HasOrder log gener ctrl → Contains orders (order_with clock gener ctrl)
has_order-ordered clock gener ctrl orders log lawful has =
    let kept : Contains (filter is_order log) (Order gener ctrl) =
    All-contains (λ (x : LogEntry). is_order x ≡ true → Contains (filter is_order log) x) log (Order gener ctrl)
    (All-passing (Contains (filter is_order log)) is_order log (All-contains_itself (filter is_order log))) has refl in
    let there : Contains (orders_for clock orders) (Order gener ctrl) = subst (λ (xs : List LogEntry). Contains xs (Order gener ctrl)) lawful.orders_are kept in
    All-contains (λ (x : LogEntry). x ≡ Order gener ctrl → Contains orders (order_with clock gener ctrl)) (orders_for clock orders) (Order gener ctrl)
    (All-map (λ (x : LogEntry). x ≡ Order gener ctrl → Contains orders (order_with clock gener ctrl)) order_entry (filter (λ (o : RoleOrder). o.clock == clock) orders)
    (All-filtered (λ (o : RoleOrder). order_entry o ≡ Order gener ctrl → Contains orders (order_with clock gener ctrl)) (λ (o : RoleOrder). o.clock == clock) orders
    (All-weaker (Contains orders) (λ (o : RoleOrder). (o.clock == clock) ≡ true → order_entry o ≡ Order gener ctrl → Contains orders (order_with clock gener ctrl))
    (λ o is test same. subst (Contains orders) (order-same o clock gener ctrl (eqb-true o.clock clock test) same) is) orders (All-contains_itself orders)))) there refl

-- ---- the exchange

module _ (s : Scenario) (w : World) (c tick : ℕ) (lead : Lead) (theirs own : Seen) (action : Action) (right : IsRight s w) (to : IsToExchange s w c tick lead theirs own action) where
  abbrev held : Held
  held = held_by c lead

  abbrev later : List (List LogEntry)
  later = logs_after_exchange s w.logs held tick action

  abbrev result : Outcome
  result = outcome_of_exchange s w.logs held tick action

  abbrev end : ℕ
  end = length (log_at w.logs c)

  -- the stamp has a controller
  somebody : held.ctrl ≢ 0
  somebody = λ e. absurd (omega (arith, e))

  -- the follower's clock has a log
  within : c < length w.logs
  within = has_order-there w.logs c lead.gener held.ctrl to.ordered

  -- an order gave the clock to the follower
  ordered : Contains (state_of s w.entries).roles.orders (order_with c lead.gener held.ctrl)
  ordered =
      has_order-ordered c lead.gener held.ctrl (state_of s w.entries).roles.orders (log_at w.logs c)
      (right.course.lawful.lawful c (log_at w.logs c) (log-there w.logs c within)) to.ordered

  -- no log has an order more
  grown : AreSameOrChanged w.logs later
  grown = exchange-logs s w.logs held tick action

  -- the outcome agrees with the log that the exchange leaves
  agreed : IsAgreed s later (Sampled c tick lead theirs own action result)
  agreed = held_agreed s w.entries w.logs held tick action right.course somebody within ordered to.asks

  -- what was read stays right
  readings : IsReadRight s later (event (Sampled c tick lead theirs own action result) None)
  readings = read-later s w.logs later grown (event (Sampled c tick lead theirs own action Unlocked) None) to.ready.readings

  -- what the follower's readings knew
  abbrev read_marks : List Mark
  read_marks = sight_mark (record { clock = c; seen = own }) ∷ sight_mark (record { clock = lead.source; seen = theirs }) ∷ []

  -- and what its entries knew before
  abbrev known : List Mark
  known = read_marks ++ marks_in s (entries_of (A_follower c) w.entries)

  -- all that the follower knew of its clock is within the log before
  known_within : All (IsWithin w.logs) known
  known_within =
      All-append (IsWithin w.logs) read_marks (marks_in s (entries_of (A_follower c) w.entries)) to.ready.abreast.within (former-within s w (A_follower c) right.course)

  -- so are its marks of its own clock
  former : All (λ (mark : Mark). mark.number ≤ end) (of_clock c known)
  former = marks-of_clock w.logs c known known_within

  -- a mark of the clock at the end is not below what was told
  up_to : (mark : Mark) → mark.clock ≡ c → end ≤ mark.number → IsUpTo s later (known_to (A_follower c) w.entries) mark
  up_to mark here le =
      let told = numbers-within s w.logs c (known_to (A_follower c) w.entries) (known-each (IsNumbered s w.logs) (A_follower c) w.entries right.course.numbers) in
      let all : AreUpTo end (numbers_in s later c (known_to (A_follower c) w.entries)) = subst (AreUpTo end) (sym (numbers_in-later s w.logs later grown c (known_to (A_follower c) w.entries))) told in
      subst (λ (k : ℕ). AreUpTo mark.number (numbers_in s later k (known_to (A_follower c) w.entries))) (sym here)
      (All-weaker (λ n. n ≤ end) (λ n. n ≤ mark.number) (λ n few. omega (arith, few, le)) (numbers_in s later c (known_to (A_follower c) w.entries)) all)

  -- its readings are not below what was told
  read_told : All (IsUpTo s later (known_to (A_follower c) w.entries)) read_marks
  read_told =
      All-weaker (IsUpTo s w.logs (known_to (A_follower c) w.entries)) (IsUpTo s later (known_to (A_follower c) w.entries))
      (up_to-later s w.logs later grown (known_to (A_follower c) w.entries)) read_marks to.ready.abreast.told

  -- nor is the exchange with them
  mark_told : (mark : Mark) → mark.clock ≡ c → end ≤ mark.number → All (IsUpTo s later (known_to (A_follower c) w.entries)) (mark ∷ read_marks)
  mark_told mark here le = All-cons (IsUpTo s later (known_to (A_follower c) w.entries)) mark read_marks (up_to mark here le) read_told

  -- a sample of an outcome at the end is abreast
  sample_abreast : (outcome : Outcome) → IsAtEnd end outcome → IsAgreed s later (Sampled c tick lead theirs own action outcome)
      → IsAbreast s later (event (Sampled c tick lead theirs own action outcome) None) w.entries
  sample_abreast Unlocked at agrees = record {
    rising = to.ready.abreast.rising;
    within = marks_inside s later (event (Sampled c tick lead theirs own action Unlocked) None) readings agrees;
    told = read_told;
    read = All-nil _;
  }
  sample_abreast (Changed number) at agrees = record {
    rising = (All-weaker (λ (mark : Mark). mark.number ≤ end) (λ (mark : Mark). mark.number < number) (λ mark le. omega (arith, le, at)) (of_clock c known) former, to.ready.abreast.rising);
    within = marks_inside s later (event (Sampled c tick lead theirs own action (Changed number)) None) readings agrees;
    told = mark_told (record { clock = c; number = number; is_change = true }) refl (omega (arith, at));
    read = All-nil _;
  }
  sample_abreast (Superseded newer number) at agrees = record {
    rising = (All-weaker (λ (mark : Mark). mark.number ≤ end) (λ (mark : Mark). mark.number ≤ number) (λ mark le. omega (arith, le, at)) (of_clock c known) former, to.ready.abreast.rising);
    within = marks_inside s later (event (Sampled c tick lead theirs own action (Superseded newer number)) None) readings agrees;
    told = mark_told (record { clock = c; number = number; is_change = false }) refl (omega (arith, at));
    read = All-nil _;
  }
  sample_abreast (Spent number) at agrees = record {
    rising = (All-weaker (λ (mark : Mark). mark.number ≤ end) (λ (mark : Mark). mark.number ≤ number) (λ mark le. omega (arith, le, at)) (of_clock c known) former, to.ready.abreast.rising);
    within = marks_inside s later (event (Sampled c tick lead theirs own action (Spent number)) None) readings agrees;
    told = mark_told (record { clock = c; number = number; is_change = false }) refl (omega (arith, at));
    read = All-nil _;
  }

  -- the World after the exchange
  abbrev next : World
  next = with_follower (record w { logs = later }) c (Samples tick lead theirs own action result)

  -- the follower is to sample
  samples : IsToSample s next c tick lead theirs own action result
  samples = record {
    ready = record { readings = readings; action = to.ready.action; abreast = sample_abreast result (exchange-at_end s.options.seat_rows held (log_at w.logs c)) agreed };
    agreed = agreed;
  }

  -- so the follower is where it may be
  pub exchanged : (f : Follower) → IsLed f tick lead → IsFollowerPlaced s next c f (Samples tick lead theirs own action result)
  exchanged f led = (led, samples)

  -- entries and logs go on belonging together
  pub exchanged_course : IsCourse s w.entries later
  exchanged_course = held_course s w.entries w.logs held tick action right.course somebody within ordered

-- the World after an exchange of the follower of clock c
abbrev pub after_own_exchange : Scenario → World → ℕ → ℕ → Lead → (theirs own : Seen) → Action → World
after_own_exchange s w c tick lead theirs own action =
    with_follower (record w { logs = logs_after_exchange s w.logs (held_by c lead) tick action }) c
    (Samples tick lead theirs own action (outcome_of_exchange s w.logs (held_by c lead) tick action))

-- the World is right after an exchange of a follower that is at one
pub own-exchange-right : (s : Scenario) (w : World) (c tick : ℕ) (lead : Lead) (theirs own : Seen) (action : Action) (f : Follower) → IsRight s w
    → slice_get (state_of s w.entries).followers c ≡ Some f → slice_get w.followers c ≡ Some (Exchanges_own tick lead theirs own action)
    → IsRight s (after_own_exchange s w c tick lead theirs own action)
own-exchange-right s w c tick lead theirs own action f right is_f there =
    let to = (right.followers c f (Exchanges_own tick lead theirs own action) is_f there).1 in
    moved-right s w (logs_after_exchange s w.logs (held_by c lead) tick action) c (Samples tick lead theirs own action (outcome_of_exchange s w.logs (held_by c lead) tick action)) right
    (exchange-logs s w.logs (held_by c lead) tick action) (exchanged_course s w c tick lead theirs own action right to)
    (λ g is_g. exchanged s w c tick lead theirs own action right to g (right.followers c g (Exchanges_own tick lead theirs own action) is_g there).0)
