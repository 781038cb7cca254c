-- Ports and data sets before the first entry.
use Rattle.std.proofs.Common.{◌≡◌, ℕ, pos, suc, ◌+◌, List, [], ◌∷◌, ◌++◌, length, map, replicate, Option, refl, sym, ap, subst, ◌∙◌, arith}
use Rattle.std.specs.Prelude.{None}
use Rattle.ptp_base.specs.declared.announcement.Announcement.{Announcement}
use Rattle.ptp_base.specs.declared.port_conf.PortConf.{PortConf}
use Rattle.data_sets.specs.declared.data_sets.DataSets.{DataSets}
use Rattle.data_sets.specs.DataSetsView.{port_zero}
use Rattle.data_sets.specs.declared.port_set.PortSet.{PortSet}
use Rattle.bc_history.specs.declared.scenario.Options.{Options}
use Rattle.bc_history.specs.declared.scenario.Scenario.{Scenario}
use Rattle.bc_history.specs.Phases.OpeningState.{open_ports, opening, local_announcement}
use Rattle.ptp_profile.specs.Best.StateDecision.{bests_of}
use Rattle.state_decision.specs.DeciderView.{unset}
use Rattle.bc_ports.specs.DecisionCost.{no_bests}
use Rattle.bc_ports.specs.OpenPorts.{ArePortsFrom, IsOpenPort, port_set_from, port_sets_from}
use Rattle.bc_ports.specs.Representation.{PortsRepresent, ArePortsOf, ClockRepresents, port_set}
use Rattle.bc_ports.specs.declared.hub_port.HubPort.{HubPort as KeptPort}
use Rattle.bc_ports.specs.declared.boundary_clock.BoundaryClock.{BoundaryClock}

pub ArePortsFrom-push : (o : Options) (p : ℕ) (qs : List KeptPort) (confs : List PortConf) (q : KeptPort) (conf : PortConf) → ArePortsFrom o p qs confs → IsOpenPort o (p + length confs) conf q
    → ArePortsFrom o p (qs ++ q ∷ []) (confs ++ conf ∷ [])
ArePortsFrom-push o p [] [] q conf all one = let none : p + 0 ≡ p = omega arith in let P : ℕ → Type 0 = λ k. IsOpenPort o k conf q in (subst P none one, tt)
ArePortsFrom-push o p [] (d ∷ confs) q conf all one = absurd all
ArePortsFrom-push o p (x ∷ qs) [] q conf all one = absurd all
ArePortsFrom-push o p (x ∷ qs) (d ∷ confs) q conf all one =
    let more : p + suc (length confs) ≡ p + 1 + length confs = omega arith in
    let P : ℕ → Type 0 = λ k. IsOpenPort o k conf q in
    (all.0, ArePortsFrom-push o (p + 1) qs confs q conf all.1 (subst P more one))

pub stand_opened : (o : Options) (p : ℕ) (qs : List KeptPort) (confs : List PortConf) → ArePortsFrom o p qs confs → PortsRepresent o.delay_filter_length 0 qs (open_ports o p confs)
stand_opened o p [] [] all = tt
stand_opened o p [] (d ∷ confs) all = absurd all
stand_opened o p (q ∷ qs) [] all = absurd all
stand_opened o p (q ∷ qs) (d ∷ confs) all = (all.0.represents, stand_opened o (p + 1) qs confs all.1)

pub ports_opened : (o : Options) (p : ℕ) (qs : List KeptPort) (confs : List PortConf) → ArePortsFrom o p qs confs → ArePortsOf o p qs
ports_opened o p [] [] all = tt
ports_opened o p [] (d ∷ confs) all = absurd all
ports_opened o p (q ∷ qs) [] all = absurd all
ports_opened o p (q ∷ qs) (d ∷ confs) all = (all.0.receiver, ports_opened o (p + 1) qs confs all.1)

-- ---- portDS of each port

pub port_sets_from-push : (o : Options) (p : ℕ) (confs : List PortConf) (conf : PortConf) → port_sets_from o p (confs ++ conf ∷ []) ≡ port_sets_from o p confs ++ port_set_from o (p + length confs) conf ∷ []
port_sets_from-push o p [] conf = let none : p ≡ p + 0 = omega arith in ap (λ (k : ℕ). port_set_from o k conf ∷ []) none
port_sets_from-push o p (d ∷ confs) conf =
    let more : p + 1 + length confs ≡ p + suc (length confs) = omega arith in
    ap (λ (xs : List PortSet). port_set_from o p d ∷ xs) (port_sets_from-push o (p + 1) confs conf ∙ ap (λ (k : ℕ). port_sets_from o (p + 1) confs ++ port_set_from o k conf ∷ []) more)

pub port_sets_from-length : (o : Options) (p : ℕ) (confs : List PortConf) → length (port_sets_from o p confs) ≡ length confs
port_sets_from-length o p [] = refl
port_sets_from-length o p (conf ∷ confs) = ap suc (port_sets_from-length o (p + 1) confs)

sets-opened : (o : Options) (p : ℕ) (confs : List PortConf) → port_sets_from o p confs ≡ map port_set (open_ports o p confs)
sets-opened o p [] = refl
sets-opened o p (conf ∷ confs) = ap (λ (xs : List PortSet). port_set_from o p conf ∷ xs) (sets-opened o (p + 1) confs)

-- ---- the clock

-- the data sets of a clock that follows nobody
abbrev pub own_sets : Options → Announcement → List PortSet → DataSets
own_sets o own sets = record {
  own = own;
  domain = o.domain_number;
  local_time = own.time;
  steps = 0;
  offset = pos 0;
  delay = pos 0;
  parent = port_zero own;
  grandmaster = own.grandmaster;
  gm_quality = own.quality;
  time = own.time;
  ports = sets;
}

pub clock_opened : (s : Scenario) (own : Announcement) (sets : List PortSet) (d : DataSets) (n : BoundaryClock) → own ≡ local_announcement s.options → sets ≡ port_sets_from s.options 1 s.ports → d ≡ own_sets s.options own sets
    → ArePortsFrom s.options 1 n.ports.items s.ports → n.moment ≡ 0 → n.decider.own ≡ own → ClockRepresents s.options (record n { sets = d }) (opening s).core None
clock_opened s own sets d n own_is sets_are d_is ports moment decided =
    let o = s.options in
    let P : Announcement → List PortSet → Type 0 = λ a x. ClockRepresents o (record n { sets = own_sets o a x }) (opening s).core None in
    let Q : ℕ → Type 0 = λ m. PortsRepresent o.delay_filter_length m n.ports.items (open_ports o 1 s.ports) in
    let D : DataSets → Type 0 = λ x. ClockRepresents o (record n { sets = x }) (opening s).core None in
    let there : P (local_announcement o) (port_sets_from o 1 s.ports) = record {
      core = record {
        moment = moment;
        clock = record { own = refl; domain = refl; local_time = refl };
        master = refl;
        own = decided ∙ own_is;
        numbers = ports_opened o 1 n.ports.items s.ports ports;
        ports = subst Q (sym moment) (stand_opened o 1 n.ports.items s.ports ports);
      };
      port_sets = sets-opened o 1 s.ports;
      measure = record { offset = refl; delay = refl };
    } in
    subst D (sym d_is) (subst (λ (a : Announcement). P a sets) (sym own_is) (subst (P (local_announcement o)) (sym sets_are) there))

-- no port of a clock that opens has a best
pub bests-opened : (confs : List PortConf) (count : ℕ) → count ≡ length confs → bests_of (replicate count unset) ≡ no_bests confs
bests-opened confs count is = rw is (by confs)
  where
    by : (confs : List PortConf) → bests_of (replicate (length confs) unset) ≡ no_bests confs
    by [] = refl
    by (conf ∷ confs) = ap (λ (bests : List (Option Announcement)). None ∷ bests) (by confs)
