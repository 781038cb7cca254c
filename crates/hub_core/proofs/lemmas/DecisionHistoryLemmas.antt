-- What an entry makes of the last decision, and how many comparisons that takes.
use Rattle.std.proofs.Common.{◌≡◌, ◌∙◌, ℕ, Bool, List, [], ◌∷◌, length, refl, sym, ap, subst, arith, Option, Some, None}
use Rattle.ptp_base.specs.declared.announcement.Announcement.{Announcement}
use Rattle.bc_history.specs.declared.entry.Entry.{Entry}
use Rattle.bc_history.specs.declared.entry.Input.{Input}
use Rattle.bc_history.specs.declared.entry.Input.TheVariants.{Frame, Timed, Down, Up, Report, Turn, Sampled, Query}
use Rattle.bc_history.specs.declared.entry.Seen.{Seen}
use Rattle.bc_history.specs.declared.port_input.PortEntry.{PortEntry}
use Rattle.bc_history.specs.declared.scenario.Options.{Options}
use Rattle.bc_history.specs.declared.scenario.Scenario.{Scenario}
use Rattle.bc_history.specs.Phases.EntryEffects.{entry_after, event}
use Rattle.bc_history.specs.Phases.Inputs.{event_of, history_input, port_of}
use Rattle.bc_history.specs.Phases.PortPhase.{after_input, after_port, context_of}
use Rattle.bc_history.specs.Phases.HubPort.{HubPort}
use Rattle.bc_history.specs.Phases.State.{Core, Event, State}
use Rattle.bc_history.specs.Phases.Step.{core_before, core_between, port_entry, port_phase, state_of}
use Rattle.bc_history.proofs.lemmas.CoreInvariantLemmas.{length-at_port}
use Rattle.bc_history.proofs.lemmas.PortIdentityLemmas.{ports-length}
use Rattle.bc_ports.specs.ClockYield.{core_ported, raises_at}
use Rattle.bc_ports.specs.DecisionCost.{IsCounted, last_bests, no_bests}
use Rattle.hub_core.specs.DecisionHistory.{bests_after, decided_bests, is_deciding, is_deciding_at}
use Rattle.hub_core.specs.HubCost.{IsCountedAt}
use Rattle.hub_core.proofs.lemmas.PortEntryLemmas.{between-is}

-- before the first entry
pub bests-opened : (s : Scenario) → decided_bests s [] ≡ no_bests s.ports
unfolding decided_bests
bests-opened s = refl

-- where nothing is compared, no bound is passed
pub uncounted : (raises : Bool) (m : ℕ) (hs : List HubPort) (last : List (Option Announcement)) (n : ℕ) → IsCounted raises m hs last n n
uncounted raises m hs last n = record { uncounted = λ none. refl; same_bests = λ same. omega arith; counted = omega arith }

-- ---- an entry of a port

-- what is known of the entry of a port
pub record IsPortEntry (s : Scenario) (entries : List Entry) (e : PortEntry) (seen : Option Seen) (entry : Entry) : Type 0 where
  pub is : port_entry (state_of s entries) (event (history_input e.input) seen) ≡ Some e
  pub event_is : event_of entry ≡ event (history_input e.input) seen

pub bests-next : (s : Scenario) (entries : List Entry) (e : PortEntry) (seen : Option Seen) (entry : Entry) (old new : List (Option Announcement)) → IsPortEntry s entries e seen entry
    → old ≡ decided_bests s entries
    → new ≡ last_bests (raises_at s.options e (state_of s entries).core) (core_ported s.options e (state_of s entries).core).moment (core_ported s.options e (state_of s entries).core).ports old
    → new ≡ decided_bests s (entry ∷ entries)
unfolding decided_bests
bests-next s entries e seen entry old new at was is =
    let o = s.options in
    let h = state_of s entries in
    let ev : Event = event (history_input e.input) seen in
    let between = between-is o h e seen at.is in
    let raises : raises_at o e h.core ≡ is_deciding o h ev = sym (ap (λ (x : Option PortEntry). is_deciding_at o h.core x) at.is) in
    is ∙ ap (λ (bs : List (Option Announcement)). last_bests (raises_at o e h.core) (core_ported o e h.core).moment (core_ported o e h.core).ports bs) was
    ∙ ap (λ (b : Bool). last_bests b (core_ported o e h.core).moment (core_ported o e h.core).ports (decided_bests s entries)) raises
    ∙ ap (λ (c : Core). last_bests (is_deciding o h ev) c.moment c.ports (decided_bests s entries)) (sym between)
    ∙ ap (λ (x : Event). bests_after o h x (decided_bests s entries)) (sym at.event_is)

pub counted-next : (s : Scenario) (entries : List Entry) (e : PortEntry) (seen : Option Seen) (entry : Entry) (old : List (Option Announcement)) (before after : ℕ) → IsPortEntry s entries e seen entry
    → old ≡ decided_bests s entries
    → IsCounted (raises_at s.options e (state_of s entries).core) (core_ported s.options e (state_of s entries).core).moment (core_ported s.options e (state_of s entries).core).ports old before after
    → IsCountedAt s entries (event_of entry) before after
counted-next s entries e seen entry old before after at was is =
    let o = s.options in
    let h = state_of s entries in
    let ev : Event = event (history_input e.input) seen in
    let between = between-is o h e seen at.is in
    let raises : raises_at o e h.core ≡ is_deciding o h ev = sym (ap (λ (x : Option PortEntry). is_deciding_at o h.core x) at.is) in
    let P : Bool → Core → List (Option Announcement) → Type 0 = λ b c bs. IsCounted b c.moment c.ports bs before after in
    subst (λ (x : Event). IsCountedAt s entries x before after) (sym at.event_is)
    (subst (λ (c : Core). P (is_deciding o h ev) c (decided_bests s entries)) (sym between)
    (subst (λ (b : Bool). P b (core_ported o e h.core) (decided_bests s entries)) raises
    (subst (P (raises_at o e h.core) (core_ported o e h.core)) was is)))

-- ---- an entry of no port

portless_entry : (h : State) (seen : Option Seen) (input : Input) → port_of input ≡ None → port_entry h (event input seen) ≡ None
portless_entry h seen (Frame port tick octets) own = absurd (cc)
portless_entry h seen (Timed port tick timer) own = absurd (cc)
portless_entry h seen (Down port tick) own = absurd (cc)
portless_entry h seen (Up port tick) own = absurd (cc)
portless_entry h seen (Report port tick gener action outcome) own = absurd (cc)
portless_entry h seen (Turn clock tick) own = refl
portless_entry h seen (Sampled clock tick lead theirs ours action outcome) own = refl
portless_entry h seen (Query tick text) own = refl

-- it raises no decision
pub bests-stay : (s : Scenario) (entries : List Entry) (entry : Entry) → port_of entry.input ≡ None → decided_bests s (entry ∷ entries) ≡ decided_bests s entries
unfolding decided_bests
bests-stay s entries entry own =
    let o = s.options in
    let h = state_of s entries in
    ap (λ (x : Option PortEntry). last_bests (is_deciding_at o h.core x) (core_between o h (event_of entry)).moment (core_between o h (event_of entry)).ports (decided_bests s entries))
    (portless_entry h entry.seen entry.input own)

-- ---- the event of an input

pub event-after : (s : Scenario) (entries : List Entry) (input : Input) (seen : Option Seen) → event_of (entry_after s entries input seen) ≡ event input seen
unfolding entry_after
event-after s entries input seen = refl

-- there are as many ports as the scenario has once the entry's own took its input
ported-length : (o : Options) (x : Option PortEntry) (c : Core) → length (port_phase o x c).ports ≡ length c.ports
unfolding after_port
ported-length o None c = refl
ported-length o (Some e) c = length-at_port (after_input o (context_of e c) e.input) e.input.number c.ports

pub between-length : (s : Scenario) (entries : List Entry) (e : Event) → length (core_between s.options (state_of s entries) e).ports ≡ length s.ports
between-length s entries e =
    let h = state_of s entries in
    ported-length s.options (port_entry h e) (core_before h e) ∙ ports-length s entries
