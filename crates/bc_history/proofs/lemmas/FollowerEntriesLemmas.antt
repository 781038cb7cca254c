-- What entries say of a follower: its own alone say it, and its place is by what the last of them told it.
use Rattle.std.proofs.Common.{◌≡◌, ◌≤◌, ℕ, Bool, true, false, cond, refl, sym, ap, ◌∙◌, subst, List, [], ◌∷◌, length, Option, Some, None, eq-eqb, ne_eqb}
use Rattle.std.specs.Prelude.{option_map}
use Rattle.std.proofs.lemmas.Bool.{false≢true}
use Rattle.ptp_profile.specs.declared.roles.Lead.{Lead}
use Rattle.ptp_profile.specs.Timing.Servo.{Sample}
use Rattle.bc_history.specs.declared.entry.Entry.{Entry}
use Rattle.bc_history.specs.declared.entry.Input.{Input}
use Rattle.bc_history.specs.declared.entry.Input.TheVariants.{Frame, Timed, Down, Up, Report, Turn, Sampled, Query}
use Rattle.bc_history.specs.declared.entry.Who.TheVariants.{Follower as A_follower}
use Rattle.bc_history.specs.declared.place.FollowerPlace.{FollowerPlace}
use Rattle.bc_history.specs.declared.place.FollowerPlace.TheVariants.{ReadsTheirs, Turns}
use Rattle.bc_history.specs.declared.scenario.Options.{Options}
use Rattle.bc_history.specs.declared.scenario.Scenario.{Scenario}
use Rattle.bc_history.specs.Phases.Inputs.{tick_of}
use Rattle.bc_history.specs.Phases.State.{TickLead}
use Rattle.bc_history.specs.Run.Actors.{actor_of, entries_of, is_by, is_same_actor}
use Rattle.bc_history.specs.Run.FollowerEntries.{is_turn_of, leading_by, led_with, turns_by}
use Rattle.bc_history.specs.Run.FollowerPlace.{FollowerStep, after_follower_step, follower_place, follower_place_by_entries, place_by_lead, told_lead}
use Rattle.bc_history.specs.Run.History.{Continues}
use Rattle.bc_history.specs.Run.Samples.{follower_sample, follower_samples}
use Rattle.bc_history.proofs.lemmas.CoreInvariantLemmas.{option_map-some}
use Rattle.bc_history.proofs.lemmas.PortEntriesLemmas.{filter-filter, filter_map-filter}

-- ---- whose an entry is

-- an input that is not of the follower of clock c is no sample of it
sample-elsewhere : (c : ℕ) (input : Input) → is_same_actor (A_follower c) (actor_of input) ≡ false → follower_sample c input ≡ None
sample-elsewhere c (Frame port tick octets) other = refl
sample-elsewhere c (Timed port tick timer) other = refl
sample-elsewhere c (Down port tick) other = refl
sample-elsewhere c (Up port tick) other = refl
sample-elsewhere c (Report port tick gener action outcome) other = refl
sample-elsewhere c (Turn clock tick) other = refl
sample-elsewhere c (Sampled clock tick lead theirs own action outcome) other =
    rw (ne_eqb clock c (λ e. false≢true (sym other ∙ eq-eqb c clock (sym e)))) refl
sample-elsewhere c (Query tick text) other = refl

-- and no turn of it
turn-elsewhere : (c : ℕ) (input : Input) → is_same_actor (A_follower c) (actor_of input) ≡ false → is_turn_of c input ≡ false
turn-elsewhere c (Frame port tick octets) other = refl
turn-elsewhere c (Timed port tick timer) other = refl
turn-elsewhere c (Down port tick) other = refl
turn-elsewhere c (Up port tick) other = refl
turn-elsewhere c (Report port tick gener action outcome) other = refl
turn-elsewhere c (Turn clock tick) other = other
turn-elsewhere c (Sampled clock tick lead theirs own action outcome) other = refl
turn-elsewhere c (Query tick text) other = refl

-- ---- a follower's own entries

-- the samples of a follower are those of its own entries
pub follower_samples-own : (c : ℕ) (entries : List Entry)
    → follower_samples c entries ≡ follower_samples c (entries_of (A_follower c) entries)
follower_samples-own c entries =
    filter_map-filter (λ (e : Entry). follower_sample c e.input) (is_by (A_follower c)) (λ e other. sample-elsewhere c e.input other) entries

-- its turns are among its own entries
pub turns_by-own : (c : ℕ) (entries : List Entry) → turns_by c entries ≡ turns_by c (entries_of (A_follower c) entries)
turns_by-own c entries =
    ap (λ (es : List Entry). length es) (filter-filter (λ (e : Entry). is_turn_of c e.input) (is_by (A_follower c))
    (λ e other. turn-elsewhere c e.input other) entries)

-- what the last of its own entries told it is said by these alone
pub leading_by-own : (c : ℕ) (entries : List Entry) → leading_by c entries ≡ leading_by c (entries_of (A_follower c) entries)
leading_by-own c [] = refl
leading_by-own c (e ∷ before) = by (is_by (A_follower c) e) refl (entries_of (A_follower c) before) (leading_by-own c before)
  where
    by : (b : Bool) → is_by (A_follower c) e ≡ b → (own : List Entry) → leading_by c before ≡ leading_by c own
        → leading_by c (e ∷ before) ≡ leading_by c (cond b (e ∷ own) own)
    by true is own rest = ap (λ (l : Option TickLead). cond (is_by (A_follower c) e) (led_with e) l) rest
    by false is own rest = ap (λ (b : Bool). cond b (led_with e) (leading_by c before)) is ∙ rest

-- so is its place by entries
pub place_by_entries-own : (c : ℕ) (entries : List Entry)
    → follower_place_by_entries c entries ≡ follower_place_by_entries c (entries_of (A_follower c) entries)
place_by_entries-own c [] = refl
place_by_entries-own c (e ∷ before) =
    by (is_by (A_follower c) e) refl (entries_of (A_follower c) before) (place_by_entries-own c before)
  where
    by : (b : Bool) → is_by (A_follower c) e ≡ b → (own : List Entry) → follower_place_by_entries c before ≡ follower_place_by_entries c own
        → follower_place_by_entries c (e ∷ before) ≡ follower_place_by_entries c (cond b (e ∷ own) own)
    by true is own rest =
        ap (λ (p : FollowerPlace). cond (is_by (A_follower c) e) (place_by_lead (tick_of e.input) (told_lead e)) p) rest
    by false is own rest =
        ap (λ (b : Bool). cond b (place_by_lead (tick_of e.input) (told_lead e)) (follower_place_by_entries c before)) is ∙ rest

-- and its place after steps of its own
pub follower_place-own : (o : Options) (c : ℕ) (entries : List Entry) (steps : List FollowerStep)
    → follower_place o c entries steps ≡ follower_place o c (entries_of (A_follower c) entries) steps
follower_place-own o c entries [] = place_by_entries-own c entries
follower_place-own o c entries (step ∷ steps) =
    ap (λ (xs : List Sample). after_follower_step o xs step (follower_place o c entries steps)) (follower_samples-own c entries)
    ∙ ap (after_follower_step o (follower_samples c (entries_of (A_follower c) entries)) step) (follower_place-own o c entries steps)

-- ---- a follower's place

-- where a follower is by what it was told, if anything
abbrev place_led : Option TickLead → FollowerPlace
place_led None = Turns
place_led (Some l) = ReadsTheirs l.tick l.lead

-- both at a tick
abbrev whole : ℕ → Lead → TickLead
whole tick lead = record { tick = tick; lead = lead }

-- the place by a lead of a tick is the place by both
place_led-parts : (tick : ℕ) (lead : Option Lead) → place_by_lead tick lead ≡ place_led (option_map (whole tick) lead)
place_led-parts tick None = refl
place_led-parts tick (Some lead) = refl

-- a follower's place is by what its last entry told it
place-led : (c : ℕ) (entries : List Entry) → follower_place_by_entries c entries ≡ place_led (leading_by c entries)
place-led c [] = refl
place-led c (e ∷ before) = by (is_by (A_follower c) e) (place-led c before)
  where
    by : (b : Bool) → follower_place_by_entries c before ≡ place_led (leading_by c before)
        → cond b (place_by_lead (tick_of e.input) (told_lead e)) (follower_place_by_entries c before)
        ≡ place_led (cond b (led_with e) (leading_by c before))
    by true rest = place_led-parts (tick_of e.input) (told_lead e)
    by false rest = rest

-- where that told it nothing it takes a turn
pub place-unled : (c : ℕ) (entries : List Entry) → leading_by c entries ≡ None → follower_place_by_entries c entries ≡ Turns
place-unled c entries is = place-led c entries ∙ ap place_led is

-- where that told it whom to copy it reads that clock
pub place-by_lead : (c : ℕ) (entries : List Entry) (l : TickLead) → leading_by c entries ≡ Some l
    → follower_place_by_entries c entries ≡ ReadsTheirs l.tick l.lead
place-by_lead c entries l is = place-led c entries ∙ ap place_led is

-- it was told up to the end of the run
pub leading_by-due : (s : Scenario) (c : ℕ) (entries : List Entry) (l : TickLead) → Continues s entries
    → leading_by c entries ≡ Some l → l.tick ≤ s.options.duration
leading_by-due s c [] l continues is = absurd (cc)
leading_by-due s c (e ∷ before) l (f, continues) is = by (is_by (A_follower c) e) (leading_by-due s c before l continues) is
  where
    by : (b : Bool) → (leading_by c before ≡ Some l → l.tick ≤ s.options.duration)
        → cond b (led_with e) (leading_by c before) ≡ Some l → l.tick ≤ s.options.duration
    by true rest is =
        let made = option_map-some (whole (tick_of e.input)) (told_lead e) l is in
        subst (λ (x : TickLead). x.tick ≤ s.options.duration) made.2 f.due.1
    by false rest is = rest is
