use Rattle.std.proofs.Common.{rules, w64, to_z, of_z, ℤ, ◌≡◌, ◌∙◌, ℕ, ◌-◌, ◌<◌, ◌≤◌, List, ◌∷◌, length, map, get_or, refl, sym, ap, subst, arith, Option, Some}
use Rattle.std.specs.Prelude.{All}
use Rattle.std.proofs.lemmas.Int.{to_z-of_z}
use Rattle.std.proofs.lemmas.List.{length-map}
use Rattle.bc_history.specs.declared.entry.Effects.{Effects}
use Rattle.bc_history.specs.declared.entry.Entry.{Entry}
use Rattle.bc_history.specs.declared.entry.Seen.{Seen}
use Rattle.bc_history.specs.declared.entry.Sent.{Sent}
use Rattle.bc_history.specs.declared.port_input.PortEntry.{PortEntry}
use Rattle.bc_history.specs.declared.port_input.PortInput.{PortInput}
use Rattle.bc_history.specs.declared.scenario.Options.{Options}
use Rattle.bc_history.specs.declared.scenario.Scenario.{Scenario}
use Rattle.bc_history.specs.Scenario.ScenarioRules.{AreOptions}
use Rattle.ptp_base.specs.declared.time.TheConstants.{TICK_MAX}
use Rattle.bc_history.specs.Phases.EntryEffects.{entry_after, event}
use Rattle.bc_history.specs.Phases.Inputs.{history_input, port_at}
use Rattle.bc_history.specs.Phases.RolePhase.{after_roles}
use Rattle.bc_history.specs.Phases.State.{State}
use Rattle.bc_history.specs.Phases.HubPort.{HubPort}
use Rattle.bc_history.specs.Phases.Step.{held_of, state_of}
use Rattle.bc_history.proofs.lemmas.PortIdentityLemmas.{ports-length}
use Rattle.bc_ports.specs.ClockYield.{EventYields, core_at, core_decided}
use Rattle.bc_history.specs.Phases.Inputs.{IsTime}
use Rattle.hub_core.specs.EffectParts.{effects_with, sent_by}
use Rattle.hub_core.specs.HubParts.{IsAt, PartsRepresent, clocks_by}
use Rattle.hub_core.specs.EffectRooms.{AreFew, IsShort}
use Rattle.hub_core.specs.declared.hub_parts.HubParts.{HubParts}
use Rattle.ptp_profile.specs.Best.StateDecision.{bests_of}
use Rattle.bc_history.specs.declared.entry.Input.{Input}
use Rattle.bc_history.specs.Run.NextInputs.{IsDue}
use Rattle.hub_core.proofs.lemmas.DecisionHistoryLemmas.{IsPortEntry, bests-next, counted-next}
use Rattle.hub_core.proofs.lemmas.RolesStayLemmas.{told-of}
use Rattle.hub_core.proofs.lemmas.PortEntryLemmas.{IsAtPort, entry-is, IsPlaced, clock-is, clock-there, clocks-ports, clocks-there, due-port, due-tick, placed-at, seen-is}
use Rattle.hub_core.proofs.lemmas.EffectRoomLemmas.{few-frames, few-moves, sends-known, short-frames}
use Rattle.hub_core.proofs.lemmas.EntryLemmas.{IsMade, clocks-decided, entry-made, frames-few, machine-next}
use Rattle.hub_core.proofs.lemmas.PortlessEntryLemmas.{notices-clocks, notices-few}
use Rattle.hub_core.proofs.hub_parts.HubParts.serve.Given.{Over}
use Rattle.hub_core.proofs.hub_parts.HubParts.serve.Goals as goal

-- the port of the input
port-at : (m : HubParts) (p : PortInput) (w : IsAt m (history_input p)) → IsAtPort (state_of w.scenario w.entries).core.ports p.number
port-at m p w = due-port w.scenario (state_of w.scenario w.entries) p w.due

port-placed : (m : HubParts) (p : PortInput) (w : IsAt m (history_input p)) → IsPlaced w.scenario p.number (port-at m p w).port
port-placed m p w = placed-at w.scenario w.entries p.number (port-at m p w).port (port-at m p w).there

-- the clock in the port's place is the port's
clock-of : (s : Scenario) (h : State) (m : HubParts) (p : PortInput) (q : HubPort) (clock : ℕ) → PartsRepresent s m h → IsPlaced s p.number q
    → clock ≡ get_or m.port_clocks.items (p.number - 1) clock → clock ≡ q.port.conf.clock
clock-of s h m p q clock machine placed at = clock-is s p.number q clock placed (at ∙ ap (λ (cs : List ℕ). get_or cs (p.number - 1) clock) machine.clocks)

clock-below : (m : HubParts) (p : PortInput) (w : IsAt m (history_input p)) (clock : ℕ) → clock ≡ get_or m.port_clocks.items (p.number - 1) clock → clock < length m.roles.stamps
clock-below m p w clock at =
    let placed = port-placed m p w in
    let there = clock-there w.scenario p.number (port-at m p w).port w.rules placed in
    let is = clock-of w.scenario (state_of w.scenario w.entries) m p (port-at m p w).port clock w.machine placed at in
    omega (arith, there, is, w.machine.stamps)

pub index-clock-requires : goal.index-clock-requires
index-clock-requires g c =
    let w = c.requires.at in
    let placed = port-placed c.args.self.now c.args.input w in
    let long = ap (λ (cs : List ℕ). length cs) w.machine.clocks ∙ length-map w.scenario.ports _ in
    omega (arith, placed.some, placed.few, long, c.args.self.now.port_clocks.ok.0)

pub seen-seen-requires-clause-there : goal.seen-seen-requires-clause-there
seen-seen-requires-clause-there g c = clock-below c.args.self.now c.args.input c.requires.at c.index-clock.result.now c.index-clock.ensures

pub held-requires : goal.held-requires
held-requires g c = record { there = clock-below c.args.self.now c.args.input c.requires.at c.index-clock.result.now c.index-clock.ensures }

-- a run ends at a tick that a clock may have
ends_in_time : (o : Options) → AreOptions o → o.duration ≤ TICK_MAX
ends_in_time o ranges = search (rules, ranges)

pub serve-outcome-requires-clause-among : goal.serve-outcome-requires-clause-among
serve-outcome-requires-clause-among g c =
    let w = c.requires.at in
    let placed = port-placed c.args.self.now c.args.input w in
    let tick = due-tick w.scenario (state_of w.scenario w.entries) c.args.input w.due in
    let reading = to_z-of_z w64 c.value_of.result (search rules) ∙ c.value_of.ensures in
    record {
      some = placed.some;
      there = omega (arith, placed.few, w.machine.ports);
      tick = omega (arith, tick, ends_in_time w.scenario.options w.rules.options);
      reading = subst (λ (z : ℤ). IsTime z) (sym reading) (c.seen-seen.ensures.early, c.seen-seen.ensures.late);
    }

pub advance_roles-orders-requires-clause-placed : goal.advance_roles-orders-requires-clause-placed
advance_roles-orders-requires-clause-placed g c =
    let w = c.requires.at in
    let P : List ℕ → Type 0 = λ cs. All (λ clock. clock < length c.args.self.now.roles.stamps) cs in
    let N : ℕ → Type 0 = λ n. All (λ clock. clock < n) (clocks_by w.scenario) in
    subst P (sym (c.deref.ensures.value ∙ w.machine.clocks)) (subst N (sym w.machine.stamps) (clocks-there w.scenario w.rules))

pub sends_of-requires : goal.sends_of-requires
sends_of-requires g c =
    let w = c.requires.at in
    let s = w.scenario in
    let h = state_of s w.entries in
    let at = port-at c.args.self.now c.args.input w in
    let e : PortEntry = record { input = c.args.input; held = c.held.result; reading = to_z w64 (of_z w64 c.value_of.result) } in
    let Y : List (List ℕ) → Type 0 = λ b. EventYields s.options e h.core h.measured c.serve-outcome.new.self b c.serve-outcome.new.frames.items c.serve-outcome.result in
    let yields = subst Y c.requires.rooms.frames.empty (c.serve-outcome.ensures.yields s.options h.core h.measured w.machine.core) in
    let few = frames-few s.options h.core h.measured e at.port c.serve-outcome.new.self c.serve-outcome.new.frames.items c.serve-outcome.result at.there yields in
    record { empty = c.requires.rooms.sends.empty; places = omega (arith, few, c.requires.rooms.sends.places) }

pub post-requires-clause-there : goal.post-requires-clause-there
post-requires-clause-there g c =
    let w = c.requires.at in
    let few = notices-clocks w.scenario c.args.self.now w.entries w.machine in
    omega (arith, few, c.advance_roles-orders.ensures.same.clocks)

pub post-requires-clause-few : goal.post-requires-clause-few
post-requires-clause-few g c = let w = c.requires.at in notices-few w.scenario c.args.self.now w.entries w.machine w.few

pub post-requires-clause-places : goal.post-requires-clause-places
post-requires-clause-places g c =
    let w = c.requires.at in
    let few = notices-clocks w.scenario c.args.self.now w.entries w.machine in
    omega (arith, few, w.machine.stamps, w.machine.drafts)

-- what the code made an entry of
abbrev made_of : (g : Over) → goal.After-effects_with g → PortEntry
made_of g c = record { input = c.args.input; held = c.held.result; reading = to_z w64 (of_z w64 c.value_of.result) }

-- what it made of it, after any history that the machine stands for
made-at : (g : Over) (c : goal.After-effects_with g) (s : Scenario) (entries : List Entry) (q : HubPort) → PartsRepresent s c.args.self.now (state_of s entries)
    → port_at (state_of s entries).core.ports c.args.input.number ≡ Some q
    → IsMade s.options (state_of s entries) (made_of g c) q c.seen-seen.result c.serve-outcome.new.self c.serve-outcome.new.frames.items c.serve-outcome.result c.advance_roles-orders.new.roles c.advance_roles-orders.result
made-at g c s entries q machine there =
    let h = state_of s entries in
    let m = c.args.self.now in
    let e = made_of g c in
    let placed = placed-at s entries c.args.input.number q there in
    let clock = clock-of s h m c.args.input q c.index-clock.result.now machine placed c.index-clock.ensures in
    let held = c.held.ensures.history h.roles machine.roles ∙ ap (λ (k : ℕ). held_of k h.roles.orders) clock in
    let reading = to_z-of_z w64 c.value_of.result (search rules) ∙ c.value_of.ensures in
    let Y : List (List ℕ) → Type 0 = λ b. EventYields s.options e h.core h.measured c.serve-outcome.new.self b c.serve-outcome.new.frames.items c.serve-outcome.result in
    let yields = subst Y c.requires.rooms.frames.empty (c.serve-outcome.ensures.yields s.options h.core h.measured machine.core) in
    let clocks = c.deref.ensures.value ∙ machine.clocks ∙ clocks-decided s entries e q c.seen-seen.result there held reading in
    let kept = sym (clocks-decided s entries e q c.seen-seen.result there held reading) ∙ clocks-ports s entries in
    let told = told-of s entries e c.seen-seen.result c.serve-outcome.result kept yields.states yields.parent in
    record {
      there = there;
      number = placed.number_is;
      held = held;
      reading = reading;
      yields = yields;
      went = c.advance_roles-orders.ensures.advanced s entries (core_decided s.options e h.core) told yields.clock.core clocks machine.roles;
    }

-- the effects by the frames that were sent
effects-by : (g : Over) (c : goal.After-effects_with g) → c.effects_with.result ≡ effects_with c.serve-outcome.result c.advance_roles-orders.result (map (sent_by c.args.input.number) c.serve-outcome.new.frames.items)
effects-by g c = c.effects_with.ensures ∙ ap (λ (fs : List Sent). effects_with c.serve-outcome.result c.advance_roles-orders.result fs) c.sends_of.ensures

pub returns-clause-served : goal.returns-clause-served
returns-clause-served g c = λ s entries rules machine due.
    let h = state_of s entries in
    let m = c.args.self.now in
    let e = made_of g c in
    let seen = c.seen-seen.result in
    let at = due-port s h c.args.input due in
    let q = at.port in
    let placed = placed-at s entries c.args.input.number q at.there in
    let is = made-at g c s entries q machine at.there in
    let before = c.generation-before.ensures ∙ machine.roles.gener in
    let notices = c.post.ensures.posted s.options (core_decided s.options e h.core) (after_roles (core_decided s.options e h.core) h.roles) h.roles h.followers is.yields.clock.core is.went.roles before machine.notices in
    let new : HubParts = record { port_clocks = m.port_clocks; core = c.serve-outcome.new.self; roles = c.advance_roles-orders.new.roles; states = c.advance_roles-orders.new.states; notices = c.post.new.self.notices; drafts = c.post.new.self.drafts } in
    let entry : Entry = record { input = c.history_input.result; moment = c.post.new.self.core.moment; seen = seen; effects = c.effects_with.result } in
    let made = entry-made s entries e q seen c.serve-outcome.new.self c.serve-outcome.new.frames.items c.serve-outcome.result c.advance_roles-orders.new.roles c.advance_roles-orders.result entry
    is c.history_input.ensures (ap (λ (x : HubParts). x.core.moment) c.post.ensures.same) refl (effects-by g c) in
    let next = machine-next s entries e q seen m new c.serve-outcome.new.frames.items c.serve-outcome.result c.advance_roles-orders.result machine is (record {
      clocks = refl;
      sound = c.serve-outcome.ensures.sound;
      ports = c.serve-outcome.ensures.length;
      table = c.advance_roles-orders.ensures.same;
      places = omega (arith, c.advance_roles-orders.ensures.places, c.serve-outcome.ensures.length);
      drafts = c.post.ensures.places;
    }) notices in
    let clock = clock-of s h m c.args.input q c.index-clock.result.now machine placed c.index-clock.ensures in
    let reading = seen-is s m.roles.seats.logs m.roles.seats.openings c.args.input q c.index-clock.result.now seen placed machine.openings clock c.seen-seen.ensures.seen in
    record {
      entry_is = made ∙ ap (λ (x : Option Seen). entry_after s entries (history_input c.args.input) x) reading;
      machine = subst (λ (x : Entry). PartsRepresent s c.post.new.self (state_of s (x ∷ entries))) (sym made)
          (subst (λ (x : HubParts). PartsRepresent s x (state_of s (entry_after s entries (history_input e.input) seen ∷ entries))) (sym c.post.ensures.same) next);
    }

pub returns-clause-few : goal.returns-clause-few
returns-clause-few g c =
    let w = c.requires.at in
    let s = w.scenario in
    let h = state_of s w.entries in
    let at = port-at c.args.self.now c.args.input w in
    let e = made_of g c in
    let is = made-at g c s w.entries at.port w.machine at.there in
    let sends = sends-known s.options e (core_at e h.core) at.port c.args.input.number c.serve-outcome.new.frames.items at.there is.number is.yields.frames in
    let count = ports-length s w.entries ∙ sym w.machine.ports in
    let F : Effects → Type 0 = λ f. AreFew c.args.self.now.core.ports.len (length c.args.self.now.roles.stamps) f in
    let L : List Sent → Type 0 = λ xs. length xs ≤ 2 in
    let S : List Sent → Type 0 = λ xs. All IsShort xs in
    subst F (sym (effects-by g c)) (record {
      moves = few-moves c.serve-outcome.result.states h.core.ports _ _ c.args.self.now.core.ports.len is.yields.states count;
      orders = c.advance_roles-orders.ensures.short;
      frames = subst L (sym sends) (few-frames s.options e (core_at e h.core) at.port at.there);
      short = subst S (sym sends) (short-frames s.options e (core_at e h.core) at.port at.there);
      unanswered = refl;
    })

-- the entry is one of the port
port-entry : (g : Over) (c : goal.After-effects_with g) (s : Scenario) (entries : List Entry) → PartsRepresent s c.args.self.now (state_of s entries) → IsDue s (state_of s entries) (history_input c.args.input)
    → IsPortEntry s entries (made_of g c) c.seen-seen.result (record { input = c.history_input.result; moment = c.post.new.self.core.moment; seen = c.seen-seen.result; effects = c.effects_with.result })
port-entry g c s entries machine due =
    let h = state_of s entries in
    let e = made_of g c in
    let at = due-port s h c.args.input due in
    let is = made-at g c s entries at.port machine at.there in
    record {
      is = entry-is h at.port c.seen-seen.result e is.there is.held is.reading;
      event_is = ap (λ (x : Input). event x c.seen-seen.result) c.history_input.ensures;
    }

pub returns-clause-bests : goal.returns-clause-bests
returns-clause-bests g c = λ s entries rules machine due was.
    let h = state_of s entries in
    let entry : Entry = record { input = c.history_input.result; moment = c.post.new.self.core.moment; seen = c.seen-seen.result; effects = c.effects_with.result } in
    let posted = ap (λ (x : HubParts). bests_of x.core.decider.bests) c.post.ensures.same in
    posted ∙ bests-next s entries (made_of g c) c.seen-seen.result entry _ _ (port-entry g c s entries machine due) was
    (c.serve-outcome.ensures.bests s.options h.core h.measured machine.core)

pub returns-clause-counted : goal.returns-clause-counted
returns-clause-counted g c = λ s entries rules machine due was.
    let h = state_of s entries in
    let entry : Entry = record { input = c.history_input.result; moment = c.post.new.self.core.moment; seen = c.seen-seen.result; effects = c.effects_with.result } in
    counted-next s entries (made_of g c) c.seen-seen.result entry _ _ _ (port-entry g c s entries machine due) was
    (c.serve-outcome.ensures.counted s.options h.core h.measured machine.core)
