-- What an event does to all ports, and what it tells.
use Rattle.std.proofs.Common.{◌≡◌, ℕ, zero, suc, ◌<◌, Bool, true, false, cond, List, [], ◌∷◌, length, map, get_or, set, refl, sym, ap, subst, ◌∙◌, Option, Some, None}
use Rattle.std.specs.Prelude.{slice_get, option_map, option_and_then, ◌&&◌}
use Rattle.ptp_base.specs.declared.identity.PortId.{PortId}
use Rattle.ptp_base.specs.declared.announcement.Announcement.{Announcement}
use Rattle.ptp_base.specs.declared.port_conf.PortConf.{PortConf}
use Rattle.ptp_base.specs.declared.port_state.PortState.{PortState}
use Rattle.ptp_profile.specs.declared.seats.Held.{Held}
use Rattle.ptp_profile.specs.declared.timing.Measure.{Measure}
use Rattle.ptp_profile.specs.Best.MasterData.{Master}
use Rattle.ptp_profile.specs.Port.PortStates.{is_dependent}
use Rattle.ptp_profile.specs.Port.Port.{with_receipt_renewed}
use Rattle.data_sets.specs.declared.data_sets.DataSets.{DataSets}
use Rattle.data_sets.specs.declared.port_set.PortSet.{PortSet}
use Rattle.data_sets.specs.DataSetsView.{master_in}
use Rattle.bc_history.specs.declared.entry.Moved.{Moved}
use Rattle.bc_history.specs.declared.port_input.PortEntry.{PortEntry}
use Rattle.bc_history.specs.declared.scenario.Options.{Options}
use Rattle.bc_history.specs.Phases.Inputs.{port_at, at_port, changed_at}
use Rattle.bc_history.specs.Phases.PortPhase.{after_port, after_input, context_of, fate_at}
use Rattle.bc_history.specs.Phases.DecisionPhase.{with_codes, with_code, master_among, best_among, after_hearing, with_renewal, raises_decision, is_kept, best_of, is_sent_by, newest_sender}
use Rattle.bc_history.specs.Phases.RolePhase.{states_of}
use Rattle.bc_history.specs.Phases.EntryEffects.{moves_from, changed_parent}
use Rattle.bc_history.specs.Phases.OpeningState.{local_announcement}
use Rattle.bc_history.specs.Phases.Step.{last_measure}
use Rattle.bc_history.specs.Phases.State.{Core}
use Rattle.bc_history.specs.Phases.HubPort.{TickMeasure, HubPort}
use Rattle.bc_history.proofs.lemmas.CoreInvariantLemmas.{port_at-at_port, port_at-map}
use Rattle.bc_history.proofs.lemmas.PortPhaseLemmas.{face, face-after_input, face-with_code, face-with_renewal}
use Rattle.bc_ports.specs.Representation.{IsClockOf, CoreRepresents, ClockRepresents, MeasureRepresents, port_set}
use Rattle.bc_ports.specs.DecisionScratch.{IsMeasured, OthersStay, states_in, with_states}
use Rattle.bc_ports.specs.ClockYield.{CoreYields, EventYields, core_at, core_ported, core_decided, measure_of, raises_at}
use Rattle.bc_ports.specs.declared.boundary_clock.BoundaryClock.{BoundaryClock}
use Rattle.bc_ports.specs.declared.scratch.DecisionScratch.{DecisionScratch}
use Rattle.bc_ports.specs.declared.hub_port.HubPort.{HubPort as KeptPort}
use Rattle.bc_ports.specs.declared.hub_port.input.PortOutcome.{PortOutcome}
use Rattle.bc_ports.proofs.lemmas.RepresentationLemmas.{PortsRepresent-get}

-- ---- identities and configurations stay

abbrev pub faces : List HubPort → List (PortId × PortConf)
faces hs = map (λ (h : HubPort). face h.port) hs

faces-changed : (f : HubPort → HubPort) → ((h : HubPort) → face (f h).port ≡ face h.port) → (i : ℕ) (hs : List HubPort) → faces (changed_at f i hs) ≡ faces hs
faces-changed f same i [] = refl
faces-changed f same zero (h ∷ hs) = ap (λ (x : PortId × PortConf). x ∷ faces hs) (same h)
faces-changed f same (suc i) (h ∷ hs) = ap (λ (xs : List (PortId × PortConf)). face h.port ∷ xs) (faces-changed f same i hs)

faces-at_port : (f : HubPort → HubPort) → ((h : HubPort) → face (f h).port ≡ face h.port) → (p : ℕ) (hs : List HubPort) → faces (at_port f p hs) ≡ faces hs
faces-at_port f same zero hs = refl
faces-at_port f same (suc i) hs = faces-changed f same i hs

faces-map : (f : HubPort → HubPort) → ((h : HubPort) → face (f h).port ≡ face h.port) → (hs : List HubPort) → faces (map f hs) ≡ faces hs
faces-map f same [] = refl
faces-map f same (h ∷ hs) = rw (same h, faces-map f same hs) refl

faces-ported : (o : Options) (e : PortEntry) (c : Core) → faces (after_port o e c).ports ≡ faces c.ports
unfolding after_port
faces-ported o e c = faces-at_port (after_input o (context_of e c) e.input) (λ h. face-after_input o (context_of e c) e.input h) e.input.number c.ports

faces-codes : (own : Announcement) (best : Option Announcement) (c : Core) → faces (with_codes own best c).ports ≡ faces c.ports
unfolding with_codes
faces-codes own best c =
    let steps = (master_among own c.moment best c.master c.ports).steps in
    faces-map (with_code own c.moment best c.master.parent steps) (λ h. face-with_code own c.moment best c.master.parent steps h) c.ports

faces-hearing : (number : ℕ) (c : Core) → faces (after_hearing number c).ports ≡ faces c.ports
unfolding after_hearing
faces-hearing number c = faces-at_port (with_renewal c.moment) (λ h. face-with_renewal c.moment h) number c.ports

faces-raised : (raised kept : Bool) (own : Announcement) (best : Option Announcement) (number : ℕ) (c : Core)
    → faces (cond raised (cond kept (after_hearing number (with_codes own best c)) (with_codes own best c)) c).ports ≡ faces c.ports
faces-raised true true own best number c = faces-hearing number (with_codes own best c) ∙ faces-codes own best c
faces-raised true false own best number c = faces-codes own best c
faces-raised false kept own best number c = refl

faces-decided : (o : Options) (e : PortEntry) (c : Core) → faces (core_decided o e c).ports ≡ faces c.ports
faces-decided o e c =
    let before : Core = core_at e c in
    let between : Core = core_ported o e c in
    faces-raised (raises_decision (fate_at o e before) (port_at before.ports e.input.number) e.input.tick e.input.what) (is_kept (fate_at o e before)) (local_announcement o) (best_among between.moment between.ports) e.input.number between
    ∙ faces-ported o e before

-- portDS with the states of ports that have the same identities and configurations
same_set : (g h : HubPort) → face g.port ≡ face h.port → (let x : PortSet = record (port_set h) { state = g.port.state } in x) ≡ port_set g
same_set g h same =
    let id : g.port.id ≡ h.port.id = ap (λ (x : PortId × PortConf). x.0) same in
    let conf : g.port.conf ≡ h.port.conf = ap (λ (x : PortId × PortConf). x.1) same in
    rw (id, conf) refl

sets-with : (hs gs : List HubPort) → faces gs ≡ faces hs → with_states (map port_set hs) (states_of gs) ≡ map port_set gs
sets-with [] [] same = refl
sets-with [] (g ∷ gs) same = cc
sets-with (h ∷ hs) [] same = cc
sets-with (h ∷ hs) (g ∷ gs) same =
    let head : face g.port ≡ face h.port = cc in
    let tail : faces gs ≡ faces hs = cc in
    ap (λ (x : PortSet). x ∷ with_states (map port_set hs) (states_of gs)) (same_set g h head) ∙ ap (λ (xs : List PortSet). port_set g ∷ xs) (sets-with hs gs tail)

-- ---- states

states_in-port_set : (hs : List HubPort) → states_in (map port_set hs) ≡ states_of hs
states_in-port_set [] = refl
states_in-port_set (h ∷ hs) = ap (λ (xs : List PortState). h.port.state ∷ xs) (states_in-port_set hs)

states-changed : (f : HubPort → HubPort) (i : ℕ) (hs : List HubPort) (g : HubPort) → slice_get (changed_at f i hs) i ≡ Some g → states_of (changed_at f i hs) ≡ set (states_of hs) i g.port.state
states-changed f i [] g found = cc
states-changed f zero (h ∷ hs) g found = let same : f h ≡ g = cc in ap (λ (x : HubPort). x.port.state ∷ states_of hs) same
states-changed f (suc i) (h ∷ hs) g found = ap (λ (xs : List PortState). h.port.state ∷ xs) (states-changed f i hs g found)

states-ported : (o : Options) (e : PortEntry) (c : Core) (i : ℕ) (g : HubPort) → e.input.number ≡ suc i → slice_get (after_port o e c).ports i ≡ Some g → states_of (after_port o e c).ports ≡ set (states_of c.ports) i g.port.state
unfolding after_port
states-ported o e c i g number found =
    let f : HubPort → HubPort = after_input o (context_of e c) e.input in
    let P : ℕ → Type 0 = λ p. slice_get (at_port f p c.ports) i ≡ Some g in
    let Q : ℕ → Type 0 = λ p. states_of (at_port f p c.ports) ≡ set (states_of c.ports) i g.port.state in
    subst Q (sym number) (states-changed f i c.ports g (subst P number found))

-- the moves of three lists of states, each known
moves-known : (xs : List Moved) (olds mids news a b d : List PortState) → xs ≡ moves_from 1 olds mids news → olds ≡ a → mids ≡ b → news ≡ d → xs ≡ moves_from 1 a b d
moves-known xs olds mids news a b d is old_is mid_is new_is = rw (is, old_is, mid_is, new_is) refl

-- ---- measures

abbrev measured_in : Option HubPort → Option TickMeasure
measured_in x = option_and_then (λ (h : HubPort). h.measured) x

measured-changed : (f : HubPort → HubPort) → ((h : HubPort) → (f h).measured ≡ h.measured) → (x : Option HubPort) → measured_in (option_map f x) ≡ measured_in x
measured-changed f same None = refl
measured-changed f same (Some h) = same h

if_renewed : (b : Bool) (m : ℕ) (h : HubPort) → (cond b (record h { port = with_receipt_renewed m h.port }) h).measured ≡ h.measured
if_renewed true m h = refl
if_renewed false m h = refl

measured-codes : (own : Announcement) (best : Option Announcement) (number : ℕ) (c : Core) → measured_in (port_at (with_codes own best c).ports number) ≡ measured_in (port_at c.ports number)
unfolding with_codes
measured-codes own best number c =
    let f : HubPort → HubPort = with_code own c.moment best c.master.parent (master_among own c.moment best c.master c.ports).steps in
    ap measured_in (port_at-map f number c.ports) ∙ measured-changed f (λ h. refl) (port_at c.ports number)

measured-hearing : (number : ℕ) (c : Core) → measured_in (port_at (after_hearing number c).ports number) ≡ measured_in (port_at c.ports number)
unfolding after_hearing
measured-hearing number c =
    let f : HubPort → HubPort = with_renewal c.moment in
    ap measured_in (port_at-at_port f number c.ports)
    ∙ measured-changed f (λ h. if_renewed (is_dependent h.port.state && is_sent_by (best_of c.moment h) (newest_sender h.kept)) c.moment h) (port_at c.ports number)

measured-raised : (raised kept : Bool) (own : Announcement) (best : Option Announcement) (number : ℕ) (c : Core)
    → measured_in (port_at (cond raised (cond kept (after_hearing number (with_codes own best c)) (with_codes own best c)) c).ports number) ≡ measured_in (port_at c.ports number)
measured-raised true true own best number c = measured-hearing number (with_codes own best c) ∙ measured-codes own best number c
measured-raised true false own best number c = measured-codes own best number c
measured-raised false kept own best number c = refl

-- the measure of the entry's port after the decision is that before it
measure-decided : (o : Options) (e : PortEntry) (c : Core) → measure_of e.input.number (core_decided o e c).ports ≡ measure_of e.input.number (core_ported o e c).ports
measure-decided o e c =
    let before : Core = core_at e c in
    let between : Core = core_ported o e c in
    let M : Option TickMeasure → Option (Measure × Held) = λ x. option_map {U = Measure × Held} (λ (m : TickMeasure). (m.measure, m.held)) x in
    ap M (measured-raised (raises_decision (fate_at o e before) (port_at before.ports e.input.number) e.input.tick e.input.what) (is_kept (fate_at o e before)) (local_announcement o) (best_among between.moment between.ports) e.input.number between)

-- what a measure leaves of the data sets
measured-represents : (old new : DataSets) (held : Held) (x measured : Option Measure) → IsMeasured old new x → MeasureRepresents old measured
    → MeasureRepresents new (last_measure (option_map {U = Measure × Held} (λ (m : Measure). (m, held)) x) measured)
measured-represents old new held None measured is was = record { offset = ap (λ (d : DataSets). d.offset) is ∙ was.offset; delay = ap (λ (d : DataSets). d.delay) is ∙ was.delay }
measured-represents old new held (Some m) measured is was = record { offset = ap (λ (d : DataSets). d.offset) is; delay = ap (λ (d : DataSets). d.delay) is }

measured-clock : (o : Options) (old new : DataSets) (x : Option Measure) → IsMeasured old new x → IsClockOf o old → IsClockOf o new
measured-clock o old new None is clock = record { own = ap (λ (d : DataSets). d.own) is ∙ clock.own; domain = ap (λ (d : DataSets). d.domain) is ∙ clock.domain; local_time = ap (λ (d : DataSets). d.local_time) is ∙ clock.local_time }
measured-clock o old new (Some m) is clock = record { own = ap (λ (d : DataSets). d.own) is ∙ clock.own; domain = ap (λ (d : DataSets). d.domain) is ∙ clock.domain; local_time = ap (λ (d : DataSets). d.local_time) is ∙ clock.local_time }

measured-master : (old new : DataSets) (x : Option Measure) → IsMeasured old new x → master_in new ≡ master_in old
measured-master old new None is = ap (λ (d : DataSets). master_in d) is
measured-master old new (Some m) is = ap (λ (d : DataSets). master_in d) is

pub measured-ports : (old new : DataSets) (x : Option Measure) → IsMeasured old new x → new.ports ≡ old.ports
measured-ports old new None is = ap (λ (d : DataSets). d.ports) is
measured-ports old new (Some m) is = ap (λ (d : DataSets). d.ports) is

pub with_states-length : (sets : List PortSet) (states : List PortState) → length (with_states sets states) ≡ length sets
with_states-length [] states = refl
with_states-length (s ∷ sets) [] = refl
with_states-length (s ∷ sets) (state ∷ states) = ap suc (with_states-length sets states)

-- ---- an event

-- what was done at an event: old is the clock before it, ported that after its port took the input, decided that after the decision
pub record IsServed (o : Options) (e : PortEntry) (c : Core) (measured : Option Measure) (old ported decided : BoundaryClock) (before after : List (List ℕ)) (t : PortOutcome) : Type 0 where
  pub was : ClockRepresents o old c measured
  pub sets : ported.sets ≡ old.sets
  pub taken : CoreYields o e (core_at e c) ported before after t
  pub core : CoreRepresents o decided (core_decided o e c)
  pub others : OthersStay ported.sets decided.sets

-- the data sets then take the states of the ports, and the measure
abbrev pub IsStated : Options → PortEntry → Core → (decided d : DataSets) → Option Measure → Type 0
IsStated o e c decided d measure = IsMeasured (record decided { ports = with_states decided.ports (states_of (core_decided o e c).ports) }) d measure

sets-before : (o : Options) (e : PortEntry) (c : Core) (measured : Option Measure) (old ported decided : BoundaryClock) (before after : List (List ℕ)) (t : PortOutcome)
    → IsServed o e c measured old ported decided before after t → decided.sets.ports ≡ map port_set c.ports
sets-before o e c measured old ported decided before after t is = is.others.ports ∙ (ap (λ (x : DataSets). x.ports) is.sets ∙ is.was.port_sets)

states-before : (o : Options) (e : PortEntry) (c : Core) (measured : Option Measure) (old ported decided : BoundaryClock) (before after : List (List ℕ)) (t : PortOutcome)
    → IsServed o e c measured old ported decided before after t → states_in decided.sets.ports ≡ states_of c.ports
states-before o e c measured old ported decided before after t is = ap states_in (sets-before o e c measured old ported decided before after t is) ∙ states_in-port_set c.ports

-- the states once the entry's port took its input: its own changed
pub states-between : (o : Options) (e : PortEntry) (c : Core) (measured : Option Measure) (old ported decided : BoundaryClock) (before after : List (List ℕ)) (t : PortOutcome) (i : ℕ) (q : KeptPort) (between : PortState)
    → IsServed o e c measured old ported decided before after t → e.input.number ≡ suc i → i < length ported.ports.items → q ≡ get_or ported.ports.items i q → between ≡ q.engine.state
    → set (states_in decided.sets.ports) i between ≡ states_of (core_ported o e c).ports
states-between o e c measured old ported decided before after t i q between is number lt at between_is =
    let there = PortsRepresent-get o.delay_filter_length ported.moment ported.ports.items (core_ported o e c).ports i q is.taken.clock.ports lt at in
    let state : between ≡ there.0.port.state = between_is ∙ there.2.engine.state in
    ap (λ (xs : List PortState). set xs i between) (states-before o e c measured old ported decided before after t is)
    ∙ (ap (λ (s : PortState). set (states_of c.ports) i s) state ∙ sym (states-ported o e (core_at e c) i there.0 number there.1))

-- where no decision is raised, they are those after the entry
pub undecided : (o : Options) (e : PortEntry) (c : Core) → raises_at o e c ≡ false → core_decided o e c ≡ core_ported o e c
undecided o e c none = rw none refl

clock-served : (o : Options) (e : PortEntry) (c : Core) (measured : Option Measure) (old ported decided : BoundaryClock) (before after : List (List ℕ)) (t : PortOutcome) (d : DataSets) (scratch : DecisionScratch)
    → IsServed o e c measured old ported decided before after t → IsStated o e c decided.sets d t.measure
    → ClockRepresents o (record decided { sets = d; scratch = scratch }) (core_decided o e c) (last_measure (option_map {U = Measure × Held} (λ (m : Measure). (m, e.held)) t.measure) measured)
clock-served o e c measured old ported decided before after t d scratch is measured_is =
    let states : List PortState = states_of (core_decided o e c).ports in
    let stated : DataSets = record decided.sets { ports = with_states decided.sets.ports states } in
    let P : List PortSet → Type 0 = λ x. with_states x states ≡ map port_set (core_decided o e c).ports in
    let with : P decided.sets.ports = subst P (sym (sets-before o e c measured old ported decided before after t is)) (sets-with c.ports (core_decided o e c).ports (faces-decided o e c)) in
    record {
      core = record {
        moment = is.core.moment;
        clock = measured-clock o stated d t.measure measured_is (record { own = is.core.clock.own; domain = is.core.clock.domain; local_time = is.core.clock.local_time });
        master = measured-master stated d t.measure measured_is ∙ is.core.master;
        own = is.core.own;
        numbers = is.core.numbers;
        ports = is.core.ports;
      };
      port_sets = measured-ports stated d t.measure measured_is ∙ with;
      measure = measured-represents stated d e.held t.measure measured measured_is (record {
        offset = is.others.offset ∙ (ap (λ (x : DataSets). x.offset) is.sets ∙ is.was.measure.offset);
        delay = is.others.delay ∙ (ap (λ (x : DataSets). x.delay) is.sets ∙ is.was.measure.delay);
      });
    }

pub yields-event : (o : Options) (e : PortEntry) (c : Core) (measured : Option Measure) (old ported decided : BoundaryClock) (before after : List (List ℕ)) (t : PortOutcome) (d : DataSets) (scratch : DecisionScratch)
    (mids : List PortState) (moves : List Moved) (parent : Option PortId) (measure : Option (Measure × Held))
    → IsServed o e c measured old ported decided before after t → IsStated o e c decided.sets d t.measure → mids ≡ states_of (core_ported o e c).ports
    → moves ≡ moves_from 1 (states_in decided.sets.ports) mids (states_of (core_decided o e c).ports) → parent ≡ changed_parent old.sets.parent d.parent
    → measure ≡ option_map {U = Measure × Held} (λ (m : Measure). (m, e.held)) t.measure
    → EventYields o e c measured (record decided { sets = d; scratch = scratch }) before after (record { fate = t.fate; states = moves; parent = parent; measure = measure })
yields-event o e c measured old ported decided before after t d scratch mids moves parent measure is measured_is mids_are moves_are parent_is measure_is =
    let clock = clock-served o e c measured old ported decided before after t d scratch is measured_is in
    let olds = states-before o e c measured old ported decided before after t is in
    let C : Option (Measure × Held) → Type 0 = λ m. ClockRepresents o (record decided { sets = d; scratch = scratch }) (core_decided o e c) (last_measure m measured) in
    record {
      clock = subst C (sym measure_is) clock;
      fate = is.taken.fate;
      states = moves-known moves _ _ _ _ _ _ moves_are olds mids_are refl;
      parent = parent_is ∙ (ap (λ (x : Master). changed_parent x.parent d.parent) is.was.core.master ∙ ap (λ (x : Master). changed_parent c.master.parent x.parent) clock.core.master);
      frames = is.taken.frames;
      measure = measure_is ∙ (is.taken.measure ∙ sym (measure-decided o e c));
    }
