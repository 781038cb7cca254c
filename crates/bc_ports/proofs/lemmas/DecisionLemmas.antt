-- What a decision leaves of data sets and ports.
use Rattle.std.proofs.Common.{◌≡◌, ℕ, List, map, ap, sym, subst, ◌∙◌, Option}
use Rattle.std.specs.Prelude.{fold}
use Rattle.std.specs.List.{enumerate_from}
use Rattle.ptp_profile.specs.declared.port_best.PortBest.{PortBest}
use Rattle.ptp_base.specs.declared.announcement.Announcement.{Announcement}
use Rattle.ptp_base.specs.declared.announcement.TimeProps.{TimeProps}
use Rattle.ptp_base.specs.declared.code.Code.{Code}
use Rattle.ptp_profile.specs.Best.MasterData.{Master, after_code}
use Rattle.ptp_profile.specs.Best.ForeignMasters.{ebest}
use Rattle.ptp_profile.specs.Best.StateDecision.{bests_of, code_of, codes_of}
use Rattle.data_sets.specs.declared.data_sets.DataSets.{DataSets}
use Rattle.data_sets.specs.DataSetsView.{master_in, with_master, announced_by, port_zero}
use Rattle.bc_history.specs.declared.scenario.Options.{Options}
use Rattle.bc_history.specs.Phases.DecisionPhase.{best_among, with_codes, with_code, master_among, code_with}
use Rattle.bc_history.specs.Phases.OpeningState.{local_announcement}
use Rattle.bc_history.specs.Phases.State.{Core}
use Rattle.bc_history.specs.Phases.HubPort.{HubPort}
use Rattle.bc_ports.specs.Representation.{PortsRepresent, ArePortsOf, IsClockOf, CoreRepresents}
use Rattle.bc_ports.specs.DecisionScratch.{OthersStay, port_bests}
use Rattle.bc_ports.specs.declared.boundary_clock.BoundaryClock.{BoundaryClock}
use Rattle.bc_ports.specs.declared.hub_port.HubPort.{HubPort as KeptPort}
use Rattle.bc_ports.proofs.lemmas.PortCodeLemmas.{bests-port_bests, codes-from}

-- the codes of all ports by this best of the clock
abbrev codes_by : Announcement → Option Announcement → List PortBest → List Code
codes_by own best ports = map (λ (port : ℕ × PortBest). code_of own best port.0 port.1.state port.1.best) (enumerate_from 1 ports)

-- ---- one code

-- the data sets that take another master are of the same clock
pub applied-clock : (o : Options) (d e : DataSets) → e ≡ with_master d (master_in e) → IsClockOf o d → IsClockOf o e
applied-clock o d e rest clock = record {
  own = ap (λ (x : DataSets). x.own) rest ∙ clock.own;
  domain = ap (λ (x : DataSets). x.domain) rest ∙ clock.domain;
  local_time = ap (λ (x : DataSets). x.local_time) rest ∙ clock.local_time;
}

pub applied-others : (c d e : DataSets) → e ≡ with_master d (master_in e) → OthersStay c d → OthersStay c e
applied-others c d e rest others = record {
  offset = ap (λ (x : DataSets). x.offset) rest ∙ others.offset;
  delay = ap (λ (x : DataSets). x.delay) rest ∙ others.delay;
  ports = ap (λ (x : DataSets). x.ports) rest ∙ others.ports;
}

-- what the data sets of a clock announce
announced : (o : Options) (own : Announcement) (time : TimeProps) → own ≡ local_announcement o → time ≡ (local_announcement o).time → record own { sender = port_zero own; time = time } ≡ local_announcement o
announced o own time own_is time_is =
    ap (λ (a : Announcement). let x : Announcement = record a { sender = port_zero a; time = time } in x) own_is
    ∙ ap (λ (t : TimeProps). let x : Announcement = record (local_announcement o) { sender = port_zero (local_announcement o); time = t } in x) time_is

pub announced-own : (o : Options) (d : DataSets) → IsClockOf o d → announced_by d ≡ local_announcement o
announced-own o d clock = announced o d.own d.local_time clock.own clock.local_time

-- ---- all codes

-- data sets and ports are those after the decision
record IsDecided (n : ℕ) (own : Announcement) (m : ℕ) (best : Option Announcement) (former : Master) (hs : List HubPort) (master : Master) (qs : List KeptPort) : Type 0 where
  master_is : master ≡ master_among own m best former hs
  ports : PortsRepresent n m qs (map (with_code own m best former.parent master.steps) hs)

core-decided : (o : Options) (m : ℕ) (best : Option Announcement) (former : Master) (new : BoundaryClock) (c : Core) → m ≡ c.moment → former ≡ c.master → best ≡ best_among m c.ports
    → new.moment ≡ m → new.decider.own ≡ local_announcement o → IsClockOf o new.sets → ArePortsOf o 1 new.ports.items
    → IsDecided o.delay_filter_length (local_announcement o) m best former c.ports (master_in new.sets) new.ports.items → CoreRepresents o new (with_codes (local_announcement o) (best_among c.moment c.ports) c)
unfolding with_codes
core-decided o m best former new c moment_is former_is best_is at own_is clock numbers is =
    let n = o.delay_filter_length in
    let own = local_announcement o in
    let qs = new.ports.items in
    let P : ℕ → Option Announcement → Master → Type 0 = λ x y z. IsDecided n own x y z c.ports (master_in new.sets) qs in
    let there : P c.moment (best_among c.moment c.ports) c.master =
    subst (λ (x : ℕ). P x (best_among x c.ports) c.master) moment_is (subst (λ (y : Option Announcement). P m y c.master) best_is (subst (P m best) former_is is)) in
    let Q : ℕ → Master → Type 0 = λ x z. PortsRepresent n x qs (map (with_code own c.moment (best_among c.moment c.ports) c.master.parent z.steps) c.ports) in
    let ports : Q c.moment (master_among own c.moment (best_among c.moment c.ports) c.master c.ports) = subst (Q c.moment) there.master_is there.ports in
    record {
      moment = at ∙ moment_is;
      clock = clock;
      master = there.master_is;
      own = own_is;
      numbers = numbers;
      ports = subst (λ (x : ℕ). Q x (master_among own c.moment (best_among c.moment c.ports) c.master c.ports)) (sym (at ∙ moment_is)) ports;
    }

-- the codes that were decided by what the ports hear were applied, and each port took its own
pub decided-core : (o : Options) (old new : BoundaryClock) (c : Core) (best : Option Announcement) (codes : List Code) → CoreRepresents o old c
    → best ≡ ebest (bests_of (port_bests old.moment c.ports)) → codes ≡ codes_of (local_announcement o) (port_bests old.moment c.ports)
    → new.moment ≡ old.moment → new.decider.own ≡ old.decider.own → IsClockOf o new.sets → ArePortsOf o 1 new.ports.items
    → master_in new.sets ≡ fold (after_code (local_announcement o) best) (master_in old.sets) codes
    → (codes ≡ map (code_with (local_announcement o) old.moment best) c.ports → PortsRepresent o.delay_filter_length old.moment new.ports.items (map (with_code (local_announcement o) old.moment best old.sets.parent new.sets.steps) c.ports))
    → CoreRepresents o new (with_codes (local_announcement o) (best_among c.moment c.ports) c)
decided-core o old new c best codes is best_is codes_is at own_is clock numbers applied_is ports =
    let own = local_announcement o in
    let m = old.moment in
    let among : best ≡ best_among m c.ports = best_is ∙ ap (λ (bests : List (Option Announcement)). ebest bests) (bests-port_bests m c.ports) in
    let by : codes ≡ codes_by own best (port_bests m c.ports) = codes_is ∙ ap (λ (x : Option Announcement). codes_by own x (port_bests m c.ports)) (sym best_is) in
    let with : codes ≡ map (code_with own m best) c.ports = by ∙ codes-from o.delay_filter_length o own best m 1 old.ports.items c.ports is.numbers is.ports in
    core-decided o m best (master_in old.sets) new c is.moment is.master among at (own_is ∙ is.own) clock numbers
    (record { master_is = applied_is ∙ ap (λ (xs : List Code). fold (after_code own best) (master_in old.sets) xs) with; ports = ports with })
