-- Each change of the World's logs is named, or is to be, after each step.
use Rattle.std.proofs.Common.{◌≡◌, ℕ, zero, suc, Bool, true, false, cond, eqb, refl, sym, ap, ◌∙◌, subst, arith, inl, inr, List, [], ◌∷◌, ◌++◌, length, map, filter, Some, None, Result, Ok, Err}
use Rattle.std.specs.Prelude.{◌⊎◌, Contains, IsSomeAnd, slice_set}
use Rattle.std.proofs.lemmas.Bool.{eqb-true, false≢true}
use Rattle.std.proofs.lemmas.List.Elements.{All-contains, All-contains_itself, Contains-append_left, Contains-append_right, filter-append}
use Rattle.model_clock.specs.declared.state.ClockState.{ClockState}
use Rattle.ptp_profile.specs.declared.roles.RoleOrder.{RoleOrder}
use Rattle.ptp_profile.specs.declared.seats.Held.{Held}
use Rattle.ptp_profile.specs.declared.seats.LogEntry.{LogEntry}
use Rattle.ptp_profile.specs.declared.seats.LogEntry.TheVariants.{Order}
use Rattle.ptp_profile.specs.declared.seats.Receipt.{Receipt}
use Rattle.ptp_profile.specs.declared.seats.Refused.{Refused}
use Rattle.ptp_profile.specs.declared.timing.Action.{Action}
use Rattle.ptp_profile.specs.declared.timing.Action.TheVariants.{Unlocked, Jump, Locked}
use Rattle.ptp_profile.specs.Roles.SeatLogs.{entry_at, exchange_answer, is_order, log_at, no_logs, with_order, with_orders}
use Rattle.bc_history.specs.declared.entry.Entry.{Entry}
use Rattle.bc_history.specs.declared.entry.Input.{Input}
use Rattle.bc_history.specs.declared.entry.Outcome.TheVariants.{Changed}
use Rattle.bc_history.specs.declared.entry.Who.{Who}
use Rattle.bc_history.specs.declared.scenario.Scenario.{Scenario}
use Rattle.bc_history.specs.Phases.Inputs.{event_of}
use Rattle.bc_history.specs.Run.Actors.{is_same_actor}
use Rattle.bc_history.specs.Run.ExchangeOutcomes.{after_exchange, answer_outcome}
use Rattle.bc_history.specs.Run.World.{World, world_opening}
use Rattle.run_legal.specs.Numbers.GrownLogs.{logs_after_exchange, outcome_of_exchange}
use Rattle.run_legal.specs.Numbers.Marks.{Mark, changes_in, exchange_marks, marks_in, marks_of, sight_mark, sights_of}
use Rattle.run_legal.specs.Runs.LegalRuns.{IsChangeAt}
use Rattle.run_legal.specs.Runs.NamedChanges.{AreNamedSoFar, IsNamedSoFar, IsToName, change_mark, input_to_enter}
use Rattle.run_legal.proofs.lemmas.CourseLemmas.{same_actor}
use Rattle.run_legal.proofs.lemmas.HolderLemmas.{All-passing}
use Rattle.run_legal.proofs.lemmas.NumberBoundLemmas.{IsAtEnd, exchange-at_end}

-- ---- changes of a log

-- an order is no change
change-under_order : (order : LogEntry) (log : List LogEntry) (number : ℕ) → is_order order ≡ true → IsChangeAt (order ∷ log) number → IsChangeAt log number
change-under_order order log number is change = by (eqb number (suc (length log))) change
  where
    by : (b : Bool) → IsSomeAnd (cond b (Some order) (entry_at number log)) (λ entry. is_order entry ≡ false) → IsChangeAt log number
    by true at = absurd (false≢true (sym at ∙ is))
    by false at = at

-- the newest entry, or one below it
change-newest : (entry : LogEntry) (log : List LogEntry) (number : ℕ) → IsChangeAt (entry ∷ log) number → IsChangeAt log number ⊎ (number ≡ suc (length log))
change-newest entry log number change = by (eqb number (suc (length log))) refl change
  where
    by : (b : Bool) → eqb number (suc (length log)) ≡ b → IsSomeAnd (cond b (Some entry) (entry_at number log)) (λ entry. is_order entry ≡ false)
        → IsChangeAt log number ⊎ (number ≡ suc (length log))
    by true is at = inr (eqb-true number (suc (length log)) is)
    by false is at = inl at

-- where one log is set, each is as it was, or is the one that was set
log-set_cases : (logs : List (List LogEntry)) (i : ℕ) (new : List LogEntry) (clock : ℕ)
    → (log_at (slice_set logs i new) clock ≡ log_at logs clock) ⊎ ((i ≡ clock) × (log_at (slice_set logs i new) clock ≡ new))
log-set_cases [] i new clock = inl refl
log-set_cases (log ∷ logs) zero new zero = inr (refl, refl)
log-set_cases (log ∷ logs) zero new (suc clock) = inl refl
log-set_cases (log ∷ logs) (suc i) new zero = inl refl
log-set_cases (log ∷ logs) (suc i) new (suc clock) =
    elim (log-set_cases logs i new clock) [
      | inl same ↦ inl same
      | inr set ↦ inr (ap (λ (n : ℕ). suc n) set.0, set.1)
    ]

-- orders change nothing
change-under_orders : (orders : List RoleOrder) (logs : List (List LogEntry)) (clock number : ℕ) → IsChangeAt (log_at (with_orders logs orders) clock) number → IsChangeAt (log_at logs clock) number
change-under_orders [] logs clock number change = change
change-under_orders (order ∷ orders) logs clock number change =
    let before : IsChangeAt (log_at (with_order logs order) clock) number = change-under_orders orders (with_order logs order) clock number change in
    elim (log-set_cases logs order.clock (Order order.gener order.ctrl ∷ log_at logs order.clock) clock) [
      | inl same ↦ subst (λ (log : List LogEntry). IsChangeAt log number) same before
      | inr set ↦
          subst (λ (c : ℕ). IsChangeAt (log_at logs c) number) set.0
          (change-under_order (Order order.gener order.ctrl) (log_at logs order.clock) number refl (subst (λ (log : List LogEntry). IsChangeAt log number) set.1 before))
    ]

-- ---- what an exchange changes

-- a log that was answered has the change that the answer names
change-answered : (answer : Result Receipt Refused) (held : Held) (tick : ℕ) (action : Action) (log : List LogEntry) (number : ℕ) → IsAtEnd (length log) (answer_outcome answer)
    → IsChangeAt (after_exchange answer held tick action log) number → IsChangeAt log number ⊎ (answer_outcome answer ≡ Changed number)
change-answered answer held tick Unlocked log number at change = inl change
change-answered (Ok receipt) held tick (Jump step freq) log number at change =
    elim (change-newest _ log number change) [
      | inl before ↦ inl before
      | inr newest ↦ inr (ap (λ (n : ℕ). Changed n) (omega (arith, at, newest)))
    ]
change-answered (Err refused) held tick (Jump step freq) log number at change = inl change
change-answered (Ok receipt) held tick (Locked freq) log number at change =
    elim (change-newest _ log number change) [
      | inl before ↦ inl before
      | inr newest ↦ inr (ap (λ (n : ℕ). Changed n) (omega (arith, at, newest)))
    ]
change-answered (Err refused) held tick (Locked freq) log number at change = inl change

-- a change of the logs after an exchange was there before, or is the one that the outcome names
pub change-exchanged : (s : Scenario) (logs : List (List LogEntry)) (held : Held) (tick : ℕ) (action : Action) (clock number : ℕ)
    → IsChangeAt (log_at (logs_after_exchange s logs held tick action) clock) number
    → IsChangeAt (log_at logs clock) number ⊎ ((held.clock ≡ clock) × (outcome_of_exchange s logs held tick action ≡ Changed number))
change-exchanged s logs held tick action clock number change =
    let log = log_at logs held.clock in
    let answer = exchange_answer s.options.seat_rows held log in
    elim (log-set_cases logs held.clock (after_exchange answer held tick action log) clock) [
      | inl same ↦ inl (subst (λ (l : List LogEntry). IsChangeAt l number) same change)
      | inr set ↦
          elim (change-answered answer held tick action log number (exchange-at_end s.options.seat_rows held log) (subst (λ (l : List LogEntry). IsChangeAt l number) set.1 change)) [
            | inl before ↦ inl (subst (λ (c : ℕ). IsChangeAt (log_at logs c) number) set.0 before)
            | inr named ↦ inr (set.0, named)
          ]
    ]

-- ---- what an entry names

-- an element that passes a test is among those that do
Contains-filter : {X : Type 0} (test : X → Bool) (xs : List X) (x : X) → test x ≡ true → Contains xs x → Contains (filter test xs) x
Contains-filter test xs x is there =
    All-contains (λ (y : _). test y ≡ true → Contains (filter test xs) y) xs x (All-passing (Contains (filter test xs)) test xs (All-contains_itself (filter test xs))) there is

-- the changes that one more entry names, and those before it
changes-more : (s : Scenario) (e : Entry) (before : List Entry)
    → changes_in s (e ∷ before) ≡ filter (λ (mark : Mark). mark.is_change) (marks_of s (event_of e)) ++ changes_in s before
changes-more s e before = filter-append (λ (mark : Mark). mark.is_change) (marks_of s (event_of e)) (marks_in s before)

-- what was named is so still
named-before : (s : Scenario) (e : Entry) (before : List Entry) (mark : Mark) → Contains (changes_in s before) mark → Contains (changes_in s (e ∷ before)) mark
named-before s e before mark there =
    subst (λ (marks : List Mark). Contains marks mark) (sym (changes-more s e before))
    (Contains-append_right (filter (λ (m : Mark). m.is_change) (marks_of s (event_of e))) (changes_in s before) mark there)

-- an entry names what its exchange made
named-now : (s : Scenario) (e : Entry) (before : List Entry) (mark : Mark) → mark.is_change ≡ true → Contains (exchange_marks s e.input) mark → Contains (changes_in s (e ∷ before)) mark
named-now s e before mark is there =
    let among = Contains-append_left (exchange_marks s e.input) (map sight_mark (sights_of s (event_of e))) mark there in
    subst (λ (marks : List Mark). Contains marks mark) (sym (changes-more s e before))
    (Contains-append_left (filter (λ (m : Mark). m.is_change) (marks_of s (event_of e))) (changes_in s before) mark
    (Contains-filter (λ (m : Mark). m.is_change) (marks_of s (event_of e)) mark is among))

-- ---- steps

-- what all others are to enter stays
abbrev pub OthersStay : World → World → Who → Type 0
OthersStay w next who = (other : Who) → is_same_actor other who ≡ false → input_to_enter next other ≡ input_to_enter w other

-- an actor's entry comes, with its orders; where it was to enter an input, that is the entry's
pub record EntersWith (w next : World) (who : Who) (e : Entry) : Type 0 where
  pub entries : next.entries ≡ e ∷ w.entries
  pub logs : next.logs ≡ with_orders w.logs e.effects.orders
  pub others : OthersStay w next who
  pub own : (input : Input) → input_to_enter w who ≡ Some input → e.input ≡ input

-- no entry comes, the actor was to enter nothing, and what is new in a log is to be named
pub record ActsFreely (s : Scenario) (w next : World) (who : Who) : Type 0 where
  pub entries : next.entries ≡ w.entries
  pub others : OthersStay w next who
  pub idle : input_to_enter w who ≡ None
  pub logs : (clock number : ℕ) → IsChangeAt (log_at next.logs clock) number → IsChangeAt (log_at w.logs clock) number ⊎ IsToName s next (change_mark clock number)

-- an entry keeps all changes named, or to be
pub named-entered : (s : Scenario) (w next : World) (who : Who) (e : Entry) → EntersWith w next who e → AreNamedSoFar s w → AreNamedSoFar s next
named-entered s w next who e is named clock number change =
    let before = change-under_orders e.effects.orders w.logs clock number (subst (λ (logs : List (List LogEntry)). IsChangeAt (log_at logs clock) number) is.logs change) in
    elim (named clock number before) [
      | inl there ↦ inl (subst (λ (es : List Entry). Contains (changes_in s es) (change_mark clock number)) (sym is.entries) (named-before s e w.entries (change_mark clock number) there))
      | inr to ↦ by to (is_same_actor to.who who) refl
    ]
  where
    by : (to : IsToName s w (change_mark clock number)) (b : Bool) → is_same_actor to.who who ≡ b → IsNamedSoFar s next (change_mark clock number)
    by to true same =
        let entered : e.input ≡ to.input = is.own to.input (subst (λ (x : Who). input_to_enter w x ≡ Some to.input) (same_actor to.who who same) to.next) in
        let names = subst (λ (input : Input). Contains (exchange_marks s input) (change_mark clock number)) (sym entered) to.names in
        inl (subst (λ (es : List Entry). Contains (changes_in s es) (change_mark clock number)) (sym is.entries) (named-now s e w.entries (change_mark clock number) refl names))
    by to false other = inr (record { who = to.who; input = to.input; next = is.others to.who other ∙ to.next; names = to.names })

-- a step that is no event keeps them so too
pub named-freely : (s : Scenario) (w next : World) (who : Who) → ActsFreely s w next who → AreNamedSoFar s w → AreNamedSoFar s next
named-freely s w next who is named clock number change =
    elim (is.logs clock number change) [
      | inl before ↦
          elim (named clock number before) [
            | inl there ↦ inl (subst (λ (es : List Entry). Contains (changes_in s es) (change_mark clock number)) (sym is.entries) there)
            | inr to ↦ by to (is_same_actor to.who who) refl
          ]
      | inr to ↦ inr to
    ]
  where
    by : (to : IsToName s w (change_mark clock number)) (b : Bool) → is_same_actor to.who who ≡ b → IsNamedSoFar s next (change_mark clock number)
    by to true same =
        let none : None ≡ Some to.input = sym is.idle ∙ subst (λ (x : Who). input_to_enter w x ≡ Some to.input) (same_actor to.who who same) to.next in
        absurd (cc)
    by to false other = inr (record { who = to.who; input = to.input; next = is.others to.who other ∙ to.next; names = to.names })

-- ---- the beginning

-- logs that are empty have no change
no_change : (clocks : List ClockState) (clock number : ℕ) → IsChangeAt (log_at (no_logs clocks) clock) number → ⊥
no_change [] clock number change = change
no_change (opening ∷ clocks) zero number change = change
no_change (opening ∷ clocks) (suc clock) number change = no_change clocks clock number change

-- nothing was changed before the first step
pub named-opening : (s : Scenario) → AreNamedSoFar s (world_opening s)
named-opening s clock number change = absurd (no_change s.clocks clock number change)
