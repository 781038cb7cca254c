-- What no entry breaks holds after every history: a fact of the ports and the data sets, and a fact of each port by its number.
use Rattle.std.proofs.Common.{◌≡◌, ◌≢◌, ℕ, zero, suc, ◌+◌, Bool, true, false, cond, refl, sym, ap, ◌∙◌, subst, arith, inl, inr, List, [], ◌∷◌, length, map, Option, Some, None}
use Rattle.std.specs.Prelude.{slice_get, option_map}
use Rattle.std.proofs.lemmas.Bool.Decides.{eqb_tells}
use Rattle.std.proofs.lemmas.Option.{same_Some, slice_get-map}
use Rattle.ptp_base.specs.declared.identity.PortId.{PortId}
use Rattle.ptp_base.specs.declared.announcement.Announcement.{Announcement}
use Rattle.ptp_base.specs.declared.port_conf.PortConf.{PortConf}
use Rattle.bc_history.specs.declared.entry.Input.{Input}
use Rattle.bc_history.specs.declared.entry.Input.TheVariants.{Frame, Timed, Down, Up, Report, Turn, Sampled, Query}
use Rattle.bc_history.specs.declared.entry.Entry.{Entry}
use Rattle.bc_history.specs.declared.port_input.EventContext.{EventContext}
use Rattle.bc_history.specs.declared.port_input.PortEntry.{PortEntry}
use Rattle.bc_history.specs.declared.port_input.PortInput.{PortInput}
use Rattle.bc_history.specs.declared.scenario.Options.{Options}
use Rattle.bc_history.specs.declared.scenario.Scenario.{Scenario}
use Rattle.bc_history.specs.Phases.State.{Event, Core, State}
use Rattle.bc_history.specs.Phases.HubPort.{HubPort}
use Rattle.bc_history.specs.Phases.Inputs.{changed_at, at_port, port_at, port_of, port_input, event_of, tick_of}
use Rattle.bc_history.specs.Phases.OpeningState.{open_ports, open_hub_port, local_announcement, opening}
use Rattle.bc_history.specs.Phases.PortPhase.{after_port, after_input, context_of, fate_at}
use Rattle.bc_history.specs.Phases.DecisionPhase.{with_codes, with_code, master_among, best_among, after_hearing, with_renewal, after_decision, raises_decision, is_kept}
use Rattle.bc_history.specs.Phases.Step.{step, state_of, at_moment, port_entry, port_phase, decision_phase, core_before, core_between, core_after}

-- ---- lists whose elements have numbers from 1

-- the fact holds of each element, by its number
abbrev pub Each : {X : Type 0} → (ℕ → X → Type 0) → List X → Type 0
Each {X} P xs = (p : ℕ) (x : X) → port_at xs p ≡ Some x → P p x

-- what a function made of an option was there
pub option_map-some : {X Y : Type 0} (f : X → Y) (o : Option X) (y : Y) → option_map f o ≡ Some y
    → (x : X) × (o ≡ Some x) × (f x ≡ y)
option_map-some f None y is = cc
option_map-some f (Some x) y is = (x, refl, same_Some (f x) y is)

-- the element of an index that is changed
pub slice_get-changed_at : {X : Type 0} (change : X → X) (k : ℕ) (xs : List X)
    → slice_get (changed_at change k xs) k ≡ option_map change (slice_get xs k)
slice_get-changed_at change k [] = refl
slice_get-changed_at change zero (x ∷ xs) = refl
slice_get-changed_at change (suc k) (x ∷ xs) = slice_get-changed_at change k xs

-- the element of another index stays
pub slice_get-changed_elsewhere : {X : Type 0} (change : X → X) (k i : ℕ) (xs : List X) → k ≢ i
    → slice_get (changed_at change k xs) i ≡ slice_get xs i
slice_get-changed_elsewhere change k i [] other = refl
slice_get-changed_elsewhere change zero zero (x ∷ xs) other = absurd (other refl)
slice_get-changed_elsewhere change zero (suc i) (x ∷ xs) other = refl
slice_get-changed_elsewhere change (suc k) zero (x ∷ xs) other = refl
slice_get-changed_elsewhere change (suc k) (suc i) (x ∷ xs) other =
    slice_get-changed_elsewhere change k i xs (λ e. other (ap suc e))

-- the element of a number that is changed
pub port_at-at_port : {X : Type 0} (change : X → X) (p : ℕ) (xs : List X)
    → port_at (at_port change p xs) p ≡ option_map change (port_at xs p)
port_at-at_port change zero xs = refl
port_at-at_port change (suc k) xs = slice_get-changed_at change k xs

-- the element of another number stays
pub port_at-elsewhere : {X : Type 0} (change : X → X) (p q : ℕ) (xs : List X) → p ≢ q
    → port_at (at_port change p xs) q ≡ port_at xs q
port_at-elsewhere change zero q xs other = refl
port_at-elsewhere change (suc k) zero xs other = refl
port_at-elsewhere change (suc k) (suc i) xs other = slice_get-changed_elsewhere change k i xs (λ e. other (ap suc e))

-- the element of a number where all are changed
pub port_at-map : {X Y : Type 0} (f : X → Y) (p : ℕ) (xs : List X) → port_at (map f xs) p ≡ option_map f (port_at xs p)
port_at-map f zero xs = refl
port_at-map f (suc i) xs = slice_get-map f xs i

-- a change leaves as many elements
pub length-changed_at : {X : Type 0} (change : X → X) (k : ℕ) (xs : List X) → length (changed_at change k xs) ≡ length xs
length-changed_at change k [] = refl
length-changed_at change zero (x ∷ xs) = refl
length-changed_at change (suc k) (x ∷ xs) = ap suc (length-changed_at change k xs)

-- the same by numbers
pub length-at_port : {X : Type 0} (change : X → X) (p : ℕ) (xs : List X) → length (at_port change p xs) ≡ length xs
length-at_port change zero xs = refl
length-at_port change (suc k) xs = length-changed_at change k xs

-- a fact of each element before one is changed gives a fact of each after it
pub Each-at_port : {X : Type 0} (P Q : ℕ → X → Type 0) (change : X → X) (p : ℕ) (xs : List X)
    → ((x : X) → P p x → Q p (change x)) → ((q : ℕ) (x : X) → p ≢ q → P q x → Q q x) → Each P xs → Each Q (at_port change p xs)
Each-at_port P Q change p xs there elsewhere each q y is =
    elim (eqb_tells p q) [
      | inl same ↦
          let at = subst (λ n. port_at (at_port change p xs) n ≡ Some y) (sym same.1) is in
          let was = option_map-some change (port_at xs p) y (sym (port_at-at_port change p xs) ∙ at) in
          subst (λ n. Q n y) same.1 (subst (Q p) was.2 (there was.0 (each p was.0 was.1)))
      | inr differ ↦ elsewhere q y differ.1 (each q y (sym (port_at-elsewhere change p q xs differ.1) ∙ is))
    ]

-- a fact of each element gives a fact of what is made of each
pub Each-map : {X Y : Type 0} (P : ℕ → X → Type 0) (Q : ℕ → Y → Type 0) (f : X → Y) (xs : List X)
    → ((p : ℕ) (x : X) → P p x → Q p (f x)) → Each P xs → Each Q (map f xs)
Each-map P Q f xs made each p y is =
    let was = option_map-some f (port_at xs p) y (sym (port_at-map f p xs) ∙ is) in
    subst (Q p) was.2 (made p was.0 (each p was.0 was.1))

-- ---- a fact of the ports and the data sets

-- a decision keeps the fact: the codes of all ports, and the hearing of a kept Announce
pub record DecisionsKeep (o : Options) (P : Core → Type 0) : Type 0 where
  pub codes : (c : Core) → P c → P (with_codes (local_announcement o) (best_among c.moment c.ports) c)
  pub hearing : (number : ℕ) (c : Core) → P c → P (after_hearing number c)

-- each phase of an entry keeps the fact, at the entry's moment
pub record PhasesKeep (o : Options) (P : Core → Type 0) : Type 0 where
  pub port : (e : PortEntry) (c : Core) → P c → P (after_port o e c)
  pub decisions : DecisionsKeep o P

-- by what the decision depends on: whether it is raised, and by a kept Announce
decided-kept : (o : Options) (P : Core → Type 0) → DecisionsKeep o P → (raised kept : Bool) (number : ℕ) (c decided : Core)
    → P c → P decided → P (cond raised (cond kept (after_hearing number decided) decided) c)
decided-kept o P k true true number c decided before after = k.hearing number decided after
decided-kept o P k true false number c decided before after = after
decided-kept o P k false kept number c decided before after = before

-- the fact stands after the decision that an entry raises, or that it doesn't raise
pub kept-after_decision : (o : Options) (P : Core → Type 0) → DecisionsKeep o P → (e : PortEntry) (before c : Core) → P c
    → P (after_decision o e before c)
kept-after_decision o P k e before c holds =
    let fate = fate_at o e before in
    decided-kept o P k (raises_decision fate (port_at before.ports e.input.number) e.input.tick e.input.what) (is_kept fate)
    e.input.number c (with_codes (local_announcement o) (best_among c.moment c.ports) c) holds (k.codes c holds)

-- the same for an entry that is one of a port, or none
kept-by_entry : (o : Options) (P : Core → Type 0) → PhasesKeep o P → (e : Option PortEntry) (c : Core) → P c
    → P (port_phase o e c) × P (decision_phase o e c (port_phase o e c))
kept-by_entry o P k None c holds = (holds, holds)
kept-by_entry o P k (Some e) c holds =
    let own = k.port e c holds in (own, kept-after_decision o P k.decisions e c (after_port o e c) own)

-- what holds at the entry's moment holds after the entry's own port, and after the entry
pub kept-phases : (o : Options) (P : Core → Type 0) → PhasesKeep o P → (h : State) (e : Event) → P (core_before h e)
    → P (core_between o h e) × P (core_after o h e)
kept-phases o P k h e holds = kept-by_entry o P k (port_entry h e) (core_before h e) holds

-- what holds of the opening and what moments and phases keep holds after every history
pub core_invariant : (s : Scenario) (P : Core → Type 0) → P (opening s).core
    → ((tick : ℕ) (c : Core) → P c → P (at_moment tick c)) → PhasesKeep s.options P → (entries : List Entry)
    → P (state_of s entries).core
unfolding state_of step
core_invariant s P opened moment k [] = opened
core_invariant s P opened moment k (e ∷ before) =
    let holds = core_invariant s P opened moment k before in
    (kept-phases s.options P k (state_of s before) (event_of e) (moment (tick_of e.input) (state_of s before).core holds)).1

-- ---- a fact of each port by its number

-- a decision keeps the fact: the port's code, and the renewal of its announce receipt
pub record DecisionsKeepPorts (o : Options) (P : ℕ → HubPort → Type 0) : Type 0 where
  pub code : (m : ℕ) (best : Option Announcement) (parent : PortId) (steps p : ℕ) (h : HubPort) → P p h
      → P p (with_code (local_announcement o) m best parent steps h)
  pub renewal : (m p : ℕ) (h : HubPort) → P p h → P p (with_renewal m h)

-- the fact stands of each port after its code
pub Each-with_codes : (o : Options) (P : ℕ → HubPort → Type 0) → DecisionsKeepPorts o P → (best : Option Announcement) (c : Core)
    → Each P c.ports → Each P (with_codes (local_announcement o) best c).ports
unfolding with_codes
Each-with_codes o P k best c each =
    let steps = (master_among (local_announcement o) c.moment best c.master c.ports).steps in
    Each-map P P _ c.ports (k.code c.moment best c.master.parent steps) each

-- the fact stands of each port after a kept Announce was heard
pub Each-after_hearing : (o : Options) (P : ℕ → HubPort → Type 0) → DecisionsKeepPorts o P → (number : ℕ) (c : Core)
    → Each P c.ports → Each P (after_hearing number c).ports
unfolding after_hearing
Each-after_hearing o P k number c each =
    Each-at_port P P (with_renewal c.moment) number c.ports (k.renewal c.moment number) (λ q h other was. was) each

-- the fact stands of each port after the decision that an entry raises, or that it doesn't raise
pub Each-after_decision : (o : Options) (P : ℕ → HubPort → Type 0) → DecisionsKeepPorts o P → (e : PortEntry) (before c : Core)
    → Each P c.ports → Each P (after_decision o e before c).ports
Each-after_decision o P k e before c each =
    let codes = λ (c : Core). Each-with_codes o P k (best_among c.moment c.ports) c in
    kept-after_decision o (λ (c : Core). Each P c.ports) (record { codes = codes; hearing = Each-after_hearing o P k })
    e before c each

-- an entry's own port takes its input, and the other ports stay
pub Each-after_port : (o : Options) (P Q : ℕ → HubPort → Type 0) (e : PortEntry) (c : Core)
    → ((h : HubPort) → P e.input.number h → Q e.input.number (after_input o (context_of e c) e.input h))
    → ((p : ℕ) (h : HubPort) → e.input.number ≢ p → P p h → Q p h) → Each P c.ports → Each Q (after_port o e c).ports
unfolding after_port
Each-after_port o P Q e c own elsewhere each =
    Each-at_port P Q (after_input o (context_of e c) e.input) e.input.number c.ports own elsewhere each

-- the port of an input is that of its port's own input
pub port_of-port_input : (input : Input) → port_of input ≡ option_map (λ (p : PortInput). p.number) (port_input input)
port_of-port_input (Frame port tick octets) = refl
port_of-port_input (Timed port tick timer) = refl
port_of-port_input (Down port tick) = refl
port_of-port_input (Up port tick) = refl
port_of-port_input (Report port tick gener action outcome) = refl
port_of-port_input (Turn clock tick) = refl
port_of-port_input (Sampled clock tick lead theirs own action outcome) = refl
port_of-port_input (Query tick text) = refl

-- what is made of an input has that input
entry-input : (made : PortInput → PortEntry) → ((p : PortInput) → (made p).input ≡ p) → (o : Option PortInput)
    → o ≡ option_map (λ (x : PortEntry). x.input) (option_map made o)
entry-input made same None = refl
entry-input made same (Some p) = sym (ap Some (same p))

-- what the phases of ports look at has the port's own input
pub port_entry-input : (h : State) (e : Event) → port_input e.input ≡ option_map (λ (x : PortEntry). x.input) (port_entry h e)
port_entry-input h e = entry-input _ (λ p. refl) (port_input e.input)

-- an entry takes each port from P to Q: its own by its input, and the others as they are
pub record TakesEach (o : Options) (input : Input) (P Q : ℕ → HubPort → Type 0) : Type 0 where
  pub own : (k : EventContext) (p : PortInput) (h : HubPort) → port_input input ≡ Some p → P p.number h
      → Q p.number (after_input o k p h)
  pub elsewhere : (p : ℕ) (h : HubPort) → port_of input ≢ Some p → P p h → Q p h

-- each port after an entry that is one of a port, or none
Each-port_phase : (o : Options) (input : Input) (P Q : ℕ → HubPort → Type 0) → TakesEach o input P Q → (x : Option PortEntry)
    → port_input input ≡ option_map (λ (y : PortEntry). y.input) x → (c : Core) → Each P c.ports → Each Q (port_phase o x c).ports
Each-port_phase o input P Q k None is c each = λ p g there.
    let none = port_of-port_input input ∙ ap (option_map (λ (y : PortInput). y.number)) is in
    k.elsewhere p g (λ some. cc) (each p g there)
Each-port_phase o input P Q k (Some x) is c each =
    let one = port_of-port_input input ∙ ap (option_map (λ (y : PortInput). y.number)) is in
    Each-after_port o P Q x c (λ g was. k.own (context_of x c) x.input g is was)
    (λ p g other was. k.elsewhere p g (λ some. other (same_Some x.input.number p (sym one ∙ some))) was) each

-- each port after the entry's own port took its input
pub Each-core_between : (o : Options) (h : State) (e : Event) (P Q : ℕ → HubPort → Type 0) → TakesEach o e.input P Q
    → Each P h.core.ports → Each Q (core_between o h e).ports
Each-core_between o h e P Q k each =
    Each-port_phase o e.input P Q k (port_entry h e) (port_entry-input h e) (core_before h e) each

-- the fact stands of each port after the decision of such an entry
pub Each-decision_phase : (o : Options) (P : ℕ → HubPort → Type 0) → DecisionsKeepPorts o P → (x : Option PortEntry)
    → (before c : Core) → Each P c.ports → Each P (decision_phase o x before c).ports
Each-decision_phase o P k None before c each = each
Each-decision_phase o P k (Some e) before c each = Each-after_decision o P k e before c each

-- each port after the entry
pub Each-core_after : (o : Options) (h : State) (e : Event) (P Q : ℕ → HubPort → Type 0) → TakesEach o e.input P Q
    → DecisionsKeepPorts o Q → Each P h.core.ports → Each Q (core_after o h e).ports
Each-core_after o h e P Q k decisions each =
    let between = Each-core_between o h e P Q k each in
    Each-decision_phase o Q decisions (port_entry h e) (core_before h e) (core_between o h e) between

-- the ports from p on before the first entry
Each-open_ports : (o : Options) (P : ℕ → HubPort → Type 0) (p : ℕ) (confs : List PortConf)
    → ((i : ℕ) (conf : PortConf) → slice_get confs i ≡ Some conf → P (p + i) (open_hub_port o (p + i) conf))
    → (i : ℕ) (h : HubPort) → slice_get (open_ports o p confs) i ≡ Some h → P (p + i) h
Each-open_ports o P p [] opened i h there = cc
Each-open_ports o P p (conf ∷ confs) opened zero h there =
    let none : p + 0 ≡ p = omega arith in
    let first = subst (λ n. P n (open_hub_port o n conf)) none (opened 0 conf refl) in
    subst (λ n. P n h) (sym none) (subst (P p) (same_Some (open_hub_port o p conf) h there) first)
Each-open_ports o P p (conf ∷ confs) opened (suc i) h there =
    let more : (j : ℕ) → p + suc j ≡ p + 1 + j = λ j. omega arith in
    let rest : (j : ℕ) (c : PortConf) → slice_get confs j ≡ Some c → P (p + 1 + j) (open_hub_port o (p + 1 + j) c) =
    λ j c is. subst (λ n. P n (open_hub_port o n c)) (more j) (opened (suc j) c is) in
    subst (λ n. P n h) (sym (more i)) (Each-open_ports o P (p + 1) confs rest i h there)

-- each port before the first entry, with its number and its configuration
pub Each-opening : (s : Scenario) (P : ℕ → HubPort → Type 0)
    → ((i : ℕ) (conf : PortConf) → slice_get s.ports i ≡ Some conf → P (suc i) (open_hub_port s.options (suc i) conf))
    → Each P (opening s).core.ports
Each-opening s P opened zero h there = cc
Each-opening s P opened (suc i) h there =
    let one : (j : ℕ) → 1 + j ≡ suc j = λ j. omega arith in
    let all : (j : ℕ) (conf : PortConf) → slice_get s.ports j ≡ Some conf → P (1 + j) (open_hub_port s.options (1 + j) conf) =
    λ j conf is. subst (λ n. P n (open_hub_port s.options n conf)) (sym (one j)) (opened j conf is) in
    subst (λ n. P n h) (one i) (Each-open_ports s.options P 1 s.ports all i h there)

-- a fact of each port by the history, the newest entry first, and by the port's number
pub record IsPortHistory (s : Scenario) (F : List Entry → ℕ → HubPort → Type 0) : Type 0 where
  pub opened : (i : ℕ) (conf : PortConf) → slice_get s.ports i ≡ Some conf → F [] (suc i) (open_hub_port s.options (suc i) conf)
  pub taken : (e : Entry) (before : List Entry) → TakesEach s.options e.input (F before) (F (e ∷ before))
  pub decisions : (entries : List Entry) → DecisionsKeepPorts s.options (F entries)

-- it holds of each port after every history
pub port_history : (s : Scenario) (F : List Entry → ℕ → HubPort → Type 0) → IsPortHistory s F → (entries : List Entry)
    → Each (F entries) (state_of s entries).core.ports
unfolding state_of step
port_history s F k [] = Each-opening s (F []) k.opened
port_history s F k (e ∷ before) =
    Each-core_after s.options (state_of s before) (event_of e) (F before) (F (e ∷ before)) (k.taken e before)
    (k.decisions (e ∷ before)) (port_history s F k before)

-- a fact of each port that its opening has, and that no input, code or renewal breaks
pub record IsPortInvariant (s : Scenario) (P : ℕ → HubPort → Type 0) : Type 0 where
  pub opened : (i : ℕ) (conf : PortConf) → slice_get s.ports i ≡ Some conf → P (suc i) (open_hub_port s.options (suc i) conf)
  pub input : (k : EventContext) (input : PortInput) (p : ℕ) (h : HubPort) → P p h → P p (after_input s.options k input h)
  pub decisions : DecisionsKeepPorts s.options P

-- it holds of each port after every history
pub port_invariant : (s : Scenario) (P : ℕ → HubPort → Type 0) → IsPortInvariant s P → (entries : List Entry)
    → (i : ℕ) (h : HubPort) → slice_get (state_of s entries).core.ports i ≡ Some h → P (suc i) h
port_invariant s P k entries i h there =
    port_history s (λ entries. P) (record {
      opened = k.opened;
      taken = λ e before. record { own = λ c p g is was. k.input c p p.number g was; elsewhere = λ p g other was. was };
      decisions = λ entries. k.decisions;
    }) entries (suc i) h there
