-- What entries say of a port: its own alone say it, and the port took as many records as came for it.
use Rattle.std.proofs.Common.{◌≡◌, ◌≢◌, ℕ, ◌+◌, Bool, true, false, cond, refl, sym, ap, ◌∙◌, subst, arith, List, [], ◌∷◌, length, filter, Option, Some, None, eq-eqb, ne_eqb}
use Rattle.std.specs.Prelude.{◌&&◌}
use Rattle.std.specs.List.{cons_option, filter_map}
use Rattle.std.proofs.lemmas.Bool.{false≢true, eqb-true}
use Rattle.std.proofs.lemmas.Option.{same_Some}
use Rattle.ptp_profile.specs.Port.PortStates.{is_dependent}
use Rattle.ptp_profile.specs.declared.port_event.PortEvent.{PortEvent}
use Rattle.ptp_profile.specs.Timing.Servo.{Sample}
use Rattle.bc_history.specs.declared.entry.Entry.{Entry}
use Rattle.bc_history.specs.declared.entry.Input.{Input}
use Rattle.bc_history.specs.declared.entry.Input.TheVariants.{Frame, Timed, Down, Up, Report, Turn, Sampled, Query}
use Rattle.bc_history.specs.declared.entry.Who.TheVariants.{Port}
use Rattle.bc_history.specs.declared.port_input.EventContext.{EventContext}
use Rattle.bc_history.specs.declared.port_input.PortHappening.{PortHappening}
use Rattle.bc_history.specs.declared.port_input.PortHappening.TheVariants.{Frame as Frame_here, Timed as Timed_here, Down as Down_here, Up as Up_here, Report as Report_here}
use Rattle.bc_history.specs.declared.port_input.PortInput.{PortInput}
use Rattle.bc_history.specs.declared.scenario.Options.{Options}
use Rattle.bc_history.specs.declared.scenario.Scenario.{Scenario}
use Rattle.bc_history.specs.Phases.DecisionPhase.{best_of, is_sent_by, newest_sender, with_renewal}
use Rattle.bc_history.specs.Phases.HubPort.{HubPort, TickMeasure}
use Rattle.bc_history.specs.Phases.Inputs.{port_at, port_input, port_of, tick_of}
use Rattle.bc_history.specs.Phases.PortPhase.{after_cause, after_input, happening_event, with_happening}
use Rattle.bc_history.specs.Phases.Step.{state_of}
use Rattle.bc_history.specs.Run.Actors.{actor_of, entries_of, is_by, is_same_actor}
use Rattle.bc_history.specs.Run.PortEntries.{is_record_of, measured_by, measured_with, taken_by}
use Rattle.bc_history.specs.declared.place.PortPlace.{PortPlace}
use Rattle.bc_history.specs.Run.PortPlace.{place_by_entries, place_by_measure}
use Rattle.bc_history.specs.Run.Samples.{port_sample, port_samples}
use Rattle.bc_history.proofs.lemmas.CoreInvariantLemmas.{IsPortHistory, port_history}

-- ---- whose an entry is

-- an input of the actor that port p is comes to that port
port_of-own : (p : ℕ) (input : Input) → is_same_actor (Port p) (actor_of input) ≡ true → port_of input ≡ Some p
port_of-own p (Frame port tick octets) is = ap (λ (q : ℕ). Some q) (sym (eqb-true p port is))
port_of-own p (Timed port tick timer) is = ap (λ (q : ℕ). Some q) (sym (eqb-true p port is))
port_of-own p (Down port tick) is = ap (λ (q : ℕ). Some q) (sym (eqb-true p port is))
port_of-own p (Up port tick) is = ap (λ (q : ℕ). Some q) (sym (eqb-true p port is))
port_of-own p (Report port tick gener action outcome) is = ap (λ (q : ℕ). Some q) (sym (eqb-true p port is))
port_of-own p (Turn clock tick) is = absurd (false≢true is)
port_of-own p (Sampled clock tick lead theirs own action outcome) is = absurd (false≢true is)
port_of-own p (Query tick text) is = absurd (false≢true is)

-- an input that comes to port p is of the actor that the port is
own-port_of : (p : ℕ) (input : Input) → port_of input ≡ Some p → is_same_actor (Port p) (actor_of input) ≡ true
own-port_of p (Frame port tick octets) is = eq-eqb p port (sym (same_Some port p is))
own-port_of p (Timed port tick timer) is = eq-eqb p port (sym (same_Some port p is))
own-port_of p (Down port tick) is = eq-eqb p port (sym (same_Some port p is))
own-port_of p (Up port tick) is = eq-eqb p port (sym (same_Some port p is))
own-port_of p (Report port tick gener action outcome) is = eq-eqb p port (sym (same_Some port p is))
own-port_of p (Turn clock tick) is = cc
own-port_of p (Sampled clock tick lead theirs own action outcome) is = cc
own-port_of p (Query tick text) is = cc

-- an entry of port p is one of its number
pub port_of-by : (p : ℕ) (e : Entry) → is_by (Port p) e ≡ true → port_of e.input ≡ Some p
port_of-by p e is = port_of-own p e.input is

-- an entry of port p's number is the port's
pub by-port_of : (p : ℕ) (e : Entry) → port_of e.input ≡ Some p → is_by (Port p) e ≡ true
by-port_of p e is = own-port_of p e.input is

-- an entry that is not port p's is not of its number
pub port_of-not_by : (p : ℕ) (e : Entry) → is_by (Port p) e ≡ false → port_of e.input ≢ Some p
port_of-not_by p e other is = false≢true (sym other ∙ by-port_of p e is)

-- ---- a port took as many records as came for it

-- what happens to a port is a record
abbrev is_record : PortHappening → Bool
is_record (Frame_here octets) = true
is_record (Timed_here timer) = false
is_record Down_here = true
is_record Up_here = true
is_record (Report_here gener action outcome) = false

-- what happens to a port is one record more or none
taken-with_happening : (o : Options) (k : EventContext) (tick : ℕ) (what : PortHappening) (h : HubPort)
    → (with_happening o k tick what h).taken ≡ cond (is_record what) (h.taken + 1) h.taken
taken-with_happening o k tick (Frame_here octets) h = refl
taken-with_happening o k tick (Timed_here timer) h = refl
taken-with_happening o k tick Down_here h = refl
taken-with_happening o k tick Up_here h = refl
taken-with_happening o k tick (Report_here gener action outcome) h = refl

-- the event that it is for the port is none
taken-after_cause : (k : EventContext) (cause : Option PortEvent) (h : HubPort) → (after_cause k cause h).taken ≡ h.taken
taken-after_cause k None h = refl
taken-after_cause k (Some cause) h = refl

-- an input of a port is one more record or none
taken-after_input : (o : Options) (k : EventContext) (p : PortInput) (h : HubPort)
    → (after_input o k p h).taken ≡ cond (is_record p.what) (h.taken + 1) h.taken
taken-after_input o k p h =
    taken-after_cause k (happening_event k p.tick p.what h) (with_happening o k p.tick p.what h)
    ∙ taken-with_happening o k p.tick p.what h

-- a change, or none, that leaves how many records came
taken-if : (b : Bool) (g h : HubPort) → g.taken ≡ h.taken → (cond b g h).taken ≡ h.taken
taken-if true g h same = same
taken-if false g h same = refl

-- a renewal takes no record
taken-with_renewal : (m : ℕ) (h : HubPort) → (with_renewal m h).taken ≡ h.taken
taken-with_renewal m h = taken-if (is_dependent h.port.state && is_sent_by (best_of m h) (newest_sender h.kept)) _ h refl

-- the input of a port is a record of the port where it is a record
record-own : (input : Input) (p : PortInput) → port_input input ≡ Some p → is_record_of p.number input ≡ is_record p.what
record-own (Frame port tick octets) p is =
    subst (λ (q : PortInput). is_record_of q.number (Frame port tick octets) ≡ is_record q.what) (same_Some _ p is) (eq-eqb port port refl)
record-own (Timed port tick timer) p is =
    subst (λ (q : PortInput). is_record_of q.number (Timed port tick timer) ≡ is_record q.what) (same_Some _ p is) refl
record-own (Down port tick) p is =
    subst (λ (q : PortInput). is_record_of q.number (Down port tick) ≡ is_record q.what) (same_Some _ p is) (eq-eqb port port refl)
record-own (Up port tick) p is =
    subst (λ (q : PortInput). is_record_of q.number (Up port tick) ≡ is_record q.what) (same_Some _ p is) (eq-eqb port port refl)
record-own (Report port tick gener action outcome) p is =
    subst (λ (q : PortInput). is_record_of q.number (Report port tick gener action outcome) ≡ is_record q.what) (same_Some _ p is) refl
record-own (Turn clock tick) p is = cc
record-own (Sampled clock tick lead theirs own action outcome) p is = cc
record-own (Query tick text) p is = cc

-- it is none of another port
record-elsewhere : (input : Input) (p : ℕ) → port_of input ≢ Some p → is_record_of p input ≡ false
record-elsewhere (Frame port tick octets) p other = ne_eqb port p (λ e. other (ap (λ (q : ℕ). Some q) e))
record-elsewhere (Timed port tick timer) p other = refl
record-elsewhere (Down port tick) p other = ne_eqb port p (λ e. other (ap (λ (q : ℕ). Some q) e))
record-elsewhere (Up port tick) p other = ne_eqb port p (λ e. other (ap (λ (q : ℕ). Some q) e))
record-elsewhere (Report port tick gener action outcome) p other = refl
record-elsewhere (Turn clock tick) p other = refl
record-elsewhere (Sampled clock tick lead theirs own action outcome) p other = refl
record-elsewhere (Query tick text) p other = refl

-- a list with one entry more or not
pub length-if : (b : Bool) (e : Entry) (es : List Entry) → length (cond b (e ∷ es) es) ≡ cond b (length es + 1) (length es)
length-if true e es = omega arith
length-if false e es = refl

-- one more entry is one more record of a port or none
pub taken_by-more : (p : ℕ) (e : Entry) (before : List Entry)
    → taken_by p (e ∷ before) ≡ cond (is_record_of p e.input) (taken_by p before + 1) (taken_by p before)
taken_by-more p e before =
    length-if (is_record_of p e.input) e (filter (λ (x : Entry). is_record_of p x.input) before)

-- the port took as many records as the entries have
abbrev HasTaken : List Entry → ℕ → HubPort → Type 0
HasTaken entries p h = h.taken ≡ taken_by p entries

-- so does the port of one more entry
taken-own : (o : Options) (e : Entry) (before : List Entry) (k : EventContext) (p : PortInput) (h : HubPort)
    → port_input e.input ≡ Some p → HasTaken before p.number h → HasTaken (e ∷ before) p.number (after_input o k p h)
taken-own o e before k p h is was =
    taken-after_input o k p h
    ∙ (ap (λ (n : ℕ). cond (is_record p.what) (n + 1) n) was
    ∙ (ap (λ (b : Bool). cond b (taken_by p.number before + 1) (taken_by p.number before)) (sym (record-own e.input p is))
    ∙ sym (taken_by-more p.number e before)))

-- and each other port
taken-elsewhere : (e : Entry) (before : List Entry) (p : ℕ) (h : HubPort) → port_of e.input ≢ Some p → HasTaken before p h
    → HasTaken (e ∷ before) p h
taken-elsewhere e before p h other was =
    was
    ∙ sym (taken_by-more p e before
    ∙ ap (λ (b : Bool). cond b (taken_by p before + 1) (taken_by p before)) (record-elsewhere e.input p other))

-- so it is along every history
takes : (s : Scenario) → IsPortHistory s HasTaken
takes s = record {
  opened = λ i conf is. refl;
  taken = λ e before. record { own = taken-own s.options e before; elsewhere = taken-elsewhere e before };
  decisions = λ entries. record {
    code = λ m best parent steps p h was. was;
    renewal = λ m p h was. taken-with_renewal m h ∙ was;
  };
}

-- a port took as many records as came for it
pub taken-state_of : (s : Scenario) (entries : List Entry) (p : ℕ) (h : HubPort)
    → port_at (state_of s entries).core.ports p ≡ Some h → h.taken ≡ taken_by p entries
taken-state_of s entries p h there = port_history s HasTaken (takes s) entries p h there

-- ---- what a list says is said by those of its elements that pass a test

-- what is made of the elements is made of those that pass
pub filter_map-filter : {X Y : Type 0} (make : X → Option Y) (test : X → Bool) → ((x : X) → test x ≡ false → make x ≡ None)
    → (xs : List X) → filter_map make xs ≡ filter_map make (filter test xs)
filter_map-filter make test others [] = refl
filter_map-filter {X} {Y} make test others (x ∷ xs) = by (test x) refl (filter_map-filter make test others xs)
  where
    by : (b : Bool) → test x ≡ b → filter_map make xs ≡ filter_map make (filter test xs)
        → filter_map make (x ∷ xs) ≡ filter_map make (cond b (x ∷ filter test xs) (filter test xs))
    by true is rest = ap (λ (ys : List Y). cons_option (make x) ys) rest
    by false is rest = ap (λ (y : Option Y). cons_option y (filter_map make xs)) (others x is) ∙ rest

-- of the elements those that pass two tests, where the second passes all that pass the first
pub filter-filter : {X : Type 0} (test wide : X → Bool) → ((x : X) → wide x ≡ false → test x ≡ false) → (xs : List X)
    → filter test xs ≡ filter test (filter wide xs)
filter-filter test wide others [] = refl
filter-filter {X} test wide others (x ∷ xs) = by (wide x) refl (filter-filter test wide others xs)
  where
    by : (b : Bool) → wide x ≡ b → filter test xs ≡ filter test (filter wide xs)
        → filter test (x ∷ xs) ≡ filter test (cond b (x ∷ filter wide xs) (filter wide xs))
    by true is rest = ap (λ (ys : List X). cond (test x) (x ∷ ys) ys) rest
    by false is rest = ap (λ (b : Bool). cond b (x ∷ filter test xs) (filter test xs)) (others x is) ∙ rest

-- ---- a port's own entries

-- an entry that is not port p's is no sample of it
port_sample-not_by : (p : ℕ) (e : Entry) → is_by (Port p) e ≡ false → port_sample p e ≡ None
port_sample-not_by p e other = rw other refl

-- the samples of a port are those of its own entries
pub port_samples-own : (p : ℕ) (entries : List Entry) → port_samples p entries ≡ port_samples p (entries_of (Port p) entries)
port_samples-own p entries = filter_map-filter (port_sample p) (is_by (Port p)) (port_sample-not_by p) entries

-- the records of a port are among its own entries
pub taken_by-own : (p : ℕ) (entries : List Entry) → taken_by p entries ≡ taken_by p (entries_of (Port p) entries)
taken_by-own p entries =
    ap (λ (es : List Entry). length es) (filter-filter (λ (e : Entry). is_record_of p e.input) (is_by (Port p))
    (λ e other. record-elsewhere e.input p (port_of-not_by p e other)) entries)

-- the last measure of a port is that of its own entries
pub measured_by-own : (p : ℕ) (entries : List Entry) → measured_by p entries ≡ measured_by p (entries_of (Port p) entries)
measured_by-own p [] = refl
measured_by-own p (e ∷ before) = by (is_by (Port p) e) refl (entries_of (Port p) before) (measured_by-own p before)
  where
    by : (b : Bool) → is_by (Port p) e ≡ b → (own : List Entry) → measured_by p before ≡ measured_by p own
        → measured_by p (e ∷ before) ≡ measured_by p (cond b (e ∷ own) own)
    by true is own rest = ap (λ (m : Option TickMeasure). cond (is_by (Port p) e) (measured_with e) m) rest
    by false is own rest = ap (λ (b : Bool). cond b (measured_with e) (measured_by p before)) is ∙ rest

-- a port's place is that of its own entries
pub place_by_entries-own : (o : Options) (p : ℕ) (entries : List Entry)
    → place_by_entries o p entries ≡ place_by_entries o p (entries_of (Port p) entries)
place_by_entries-own o p [] = refl
place_by_entries-own o p (e ∷ before) =
    by (is_by (Port p) e) refl (entries_of (Port p) before) (port_samples-own p before) (place_by_entries-own o p before)
  where
    at : List Sample → PortPlace
    at samples = place_by_measure o (cons_option (port_sample p e) samples) (tick_of e.input) e.effects.measure

    by : (b : Bool) → is_by (Port p) e ≡ b → (own : List Entry) → port_samples p before ≡ port_samples p own
        → place_by_entries o p before ≡ place_by_entries o p own
        → place_by_entries o p (e ∷ before) ≡ place_by_entries o p (cond b (e ∷ own) own)
    by true is own samples rest =
        ap (λ (xs : List Sample). cond (is_by (Port p) e) (at xs) (place_by_entries o p before)) samples
        ∙ ap (λ (place : PortPlace). cond (is_by (Port p) e) (at (port_samples p own)) place) rest
    by false is own samples rest = ap (λ (b : Bool). cond b (at (port_samples p before)) (place_by_entries o p before)) is ∙ rest
