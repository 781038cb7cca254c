use Rattle.std.proofs.Common.{◌≡◌, ◌∙◌, ◌++◌, ◌+◌, ◌*◌, ◌-◌, ◌<◌, ◌≤◌, ℕ, Bool, false, suc, List, Option, length, set, ap, arith, subst, sym}
use Rattle.ptp_base.specs.declared.port_state.PortState.{PortState}
use Rattle.ptp_profile.specs.declared.timing.Measure.{Measure}
use Rattle.data_sets.specs.declared.data_sets.DataSets.{DataSets}
use Rattle.data_sets.specs.declared.port_set.PortSet.{PortSet}
use Rattle.bc_history.specs.declared.entry.Moved.{Moved}
use Rattle.bc_history.specs.declared.scenario.Options.{Options}
use Rattle.bc_history.specs.Phases.EntryEffects.{moves_from}
use Rattle.bc_history.specs.Phases.HubPort.{HubPort}
use Rattle.bc_history.specs.Phases.RolePhase.{states_of}
use Rattle.bc_history.specs.Phases.State.{Core}
use Rattle.ptp_base.specs.declared.announcement.Announcement.{Announcement}
use Rattle.ptp_profile.specs.declared.port_event.Fate.{Fate}
use Rattle.ptp_profile.specs.Best.StateDecision.{bests_of}
use Rattle.state_decision.specs.DeciderView.{DeciderView}
use Rattle.bc_history.specs.Phases.DecisionPhase.{raises_decision}
use Rattle.bc_history.specs.Phases.Inputs.{port_at}
use Rattle.bc_ports.specs.ClockYield.{EventYields, core_at, core_decided, core_ported, raises_at}
use Rattle.bc_ports.specs.DecisionCost.{last_bests, passing, setting_cost}
use Rattle.bc_ports.proofs.lemmas.RepresentationLemmas.{PortsRepresent-length}
use Rattle.bc_ports.specs.Representation.{ClockRepresents}
use Rattle.bc_ports.specs.DecisionScratch.{IsMeasured, states_in}
use Rattle.bc_ports.specs.declared.boundary_clock.BoundaryClock.{BoundaryClock}
use Rattle.bc_ports.proofs.lemmas.EventLemmas.{IsServed, IsStated, measured-ports, states-between, undecided, yields-event}
use Rattle.bc_ports.proofs.boundary_clock.BoundaryClock.serve.Given.{Over}
use Rattle.bc_ports.proofs.boundary_clock.BoundaryClock.serve.Goals as goal

pub returns-clause-sound : goal.returns-clause-sound
returns-clause-sound g c =
    let was = c.move_ports.ensures.sound in
    let ports : c.set_measure.new.sets.ports ≡ c.move_ports.new.self.sets.ports = measured-ports c.move_ports.new.self.sets c.set_measure.new.sets c.take-outcome.result.measure c.set_measure.ensures in
    record {
      few = was.few;
      early = was.early;
      sets = ap (λ (xs : List PortSet). length xs) ports ∙ was.sets;
      bests = was.bests;
      codes = was.codes;
      states = was.states;
      decided = was.decided;
    }

-- whether the entry raises a decision
raised : (g : Over) (c : goal.After-under g) (o : Options) (core : Core) (former : Option Measure) → ClockRepresents o c.args.self.now core former
    → c.take-outcome.result.raises ≡ raises_at o c.args.entry.now core
raised g c o core former is =
    let e = c.args.entry.now in
    let at = core_at e core in
    let taken = c.take-outcome.ensures.yields o core is.core in
    taken.raises_is ∙ ap (λ (f : Option Fate). raises_decision f (port_at at.ports e.input.number) e.input.tick e.input.what) taken.fate

-- what was done
served : (g : Over) (c : goal.After-under g) (o : Options) (core : Core) (former : Option Measure) → ClockRepresents o c.args.self.now core former
    → IsServed o c.args.entry.now core former c.args.self.now c.take-outcome.new.self c.conclude.new.self c.args.frames.now.items c.take-outcome.new.frames.items c.take-outcome.result
served g c o core former is =
    let taken = c.take-outcome.ensures.yields o core is.core in
    record {
      was = is;
      sets = c.take-outcome.ensures.sets;
      taken = taken;
      core = c.conclude.ensures.core o (core_at c.args.entry.now core) _ _ taken;
      others = c.conclude.ensures.others;
    }

-- the states after the own event of the entry's port
between_is : (g : Over) (c : goal.After-under g) (o : Options) (core : Core) (former : Option Measure) → ClockRepresents o c.args.self.now core former
    → set (states_in c.conclude.new.self.sets.ports) (c.args.entry.now.input.number - 1) c.state-between.result ≡ states_of (core_ported o c.args.entry.now core).ports
between_is g c o core former is =
    let number = c.args.entry.now.input.number in
    let number_is : number ≡ suc (number - 1) = omega (arith, c.requires.among.some) in
    let lt : number - 1 < length c.take-outcome.new.self.ports.items = omega (arith, c.requires.among.some, c.requires.among.there, c.take-outcome.ensures.length) in
    states-between o c.args.entry.now core former c.args.self.now c.take-outcome.new.self c.conclude.new.self c.args.frames.now.items c.take-outcome.new.frames.items c.take-outcome.result
    (number - 1) c.index.result.now c.state-between.result (served g c o core former is) number_is lt c.index.ensures c.state-between.ensures

-- are those after the entry, where it raises no decision
quiet : (g : Over) (c : goal.After-under g) (o : Options) (core : Core) (former : Option Measure) → ClockRepresents o c.args.self.now core former → c.take-outcome.result.raises ≡ false
    → states_of (core_decided o c.args.entry.now core).ports ≡ set (states_in c.conclude.new.self.sets.ports) (c.args.entry.now.input.number - 1) c.state-between.result
quiet g c o core former is none =
    ap (λ (x : Core). states_of x.ports) (undecided o c.args.entry.now core (sym (raised g c o core former is) ∙ none)) ∙ sym (between_is g c o core former is)

-- the data sets take the states and the measure
measured : (g : Over) (c : goal.After-under g) (o : Options) (core : Core) (former : Option Measure) → ClockRepresents o c.args.self.now core former
    → IsStated o c.args.entry.now core c.conclude.new.self.sets c.set_measure.new.sets c.take-outcome.result.measure
measured g c o core former is =
    let decided = (served g c o core former is).core in
    let ports = c.move_ports.ensures.sets o.delay_filter_length c.conclude.new.self.moment (core_decided o c.args.entry.now core).ports decided.ports (quiet g c o core former is) in
    let sets : c.move_ports.new.self.sets ≡ record c.conclude.new.self.sets { ports = c.move_ports.new.self.sets.ports } = ap (λ (n : BoundaryClock). n.sets) c.move_ports.ensures.same in
    let M : DataSets → Type 0 = λ d. IsMeasured d c.set_measure.new.sets c.take-outcome.result.measure in
    let P : List PortSet → Type 0 = λ xs. IsMeasured (record c.conclude.new.self.sets { ports = xs }) c.set_measure.new.sets c.take-outcome.result.measure in
    subst P ports (subst M sets c.set_measure.ensures)

pub returns-clause-yields : goal.returns-clause-yields
returns-clause-yields g c = λ o core former is.
    let e = c.args.entry.now in
    let mids : List PortState = set (states_in c.conclude.new.self.sets.ports) (e.input.number - 1) c.state-between.result in
    let hs : List HubPort = (core_decided o e core).ports in
    let decided = (served g c o core former is).core in
    let told = c.move_ports.ensures.moves o.delay_filter_length c.conclude.new.self.moment hs decided.ports (quiet g c o core former is) in
    let M : List Moved → Type 0 = λ former. c.move_ports.new.out.items ≡ former ++ moves_from 1 (states_in c.conclude.new.self.sets.ports) mids (states_of hs) in
    let moves : c.done.result ≡ moves_from 1 (states_in c.conclude.new.self.sets.ports) mids (states_of hs) = c.done.ensures ∙ subst M c.requires.empty told in
    let Y : BoundaryClock → Type 0 = λ n. EventYields o e core former (record n { sets = c.set_measure.new.sets }) c.args.frames.now.items c.take-outcome.new.frames.items
    (record { fate = c.take-outcome.result.fate; states = c.done.result; parent = c.changed_parent.result; measure = c.under.result }) in
    subst Y (sym c.move_ports.ensures.same)
    (yields-event o e core former c.args.self.now c.take-outcome.new.self c.conclude.new.self c.args.frames.now.items c.take-outcome.new.frames.items c.take-outcome.result c.set_measure.new.sets c.move_ports.new.self.scratch
    mids c.done.result c.changed_parent.result c.under.result (served g c o core former is) (measured g c o core former is) (between_is g c o core former is) moves c.changed_parent.ensures c.under.ensures)

pub returns-clause-bests : goal.returns-clause-bests
returns-clause-bests g c = λ o core former is.
    let e = c.args.entry.now in
    let taken = c.take-outcome.ensures.yields o core is.core in
    let ported = core_ported o e core in
    let B : Bool → List (Option Announcement) → Type 0 = λ b bs. bests_of c.conclude.new.self.decider.bests ≡ last_bests b ported.moment ported.ports bs in
    let same : bests_of c.take-outcome.new.self.decider.bests ≡ bests_of c.args.self.now.decider.bests = ap (λ (d : DeciderView). bests_of d.bests) c.take-outcome.ensures.decider in
    let raises = raised g c o core former is in
    let stays : bests_of c.move_ports.new.self.decider.bests ≡ bests_of c.conclude.new.self.decider.bests = ap (λ (n : BoundaryClock). bests_of n.decider.bests) c.move_ports.ensures.same in
    stays ∙ subst (B (raises_at o e core)) same (subst (λ (b : Bool). B b (bests_of c.take-outcome.new.self.decider.bests)) raises (c.conclude.ensures.bests o ported taken.clock))

pub returns-clause-counted : goal.returns-clause-counted
returns-clause-counted g c = λ o core former is.
    let e = c.args.entry.now in
    let taken = c.take-outcome.ensures.yields o core is.core in
    let ported = core_ported o e core in
    let same : bests_of c.args.self.now.decider.bests ≡ bests_of c.take-outcome.new.self.decider.bests = sym (ap (λ (d : DeciderView). bests_of d.bests) c.take-outcome.ensures.decider) in
    let heard = c.take-outcome.ensures.counted in
    let all = PortsRepresent-length o.delay_filter_length c.take-outcome.new.self.moment c.take-outcome.new.self.ports.items ported.ports taken.clock.ports in
    let count : c.take-outcome.new.self.ports.len ≡ length ported.ports = omega (arith, all, c.take-outcome.new.self.ports.ok.0) in
    let M : ℕ → Type 0 = λ n. c.conclude.new.steps ≤ c.take-outcome.new.steps + 15 * passing ported.moment ported.ports + setting_cost n in
    let most = subst M count (c.conclude.ensures.counted o ported taken.clock) in
    record {
      uncounted = λ none. let raises = raised g c o core former is ∙ none in c.conclude.ensures.uncounted raises ∙ c.take-outcome.ensures.uncounted raises;
      same_bests = λ bests. let few = c.conclude.ensures.same_bests o ported taken.clock (bests ∙ same) in omega (arith, heard, few);
      counted = omega (arith, heard, most);
    }
