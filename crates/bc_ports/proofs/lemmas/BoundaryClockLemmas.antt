-- An entry's own port among all ports of a clock.
use Rattle.std.proofs.Common.{◌≡◌, ℕ, zero, suc, ◌-◌, ◌<◌, List, [], ◌∷◌, ◌++◌, map, length, get_or, set, refl, ap, subst, sym, ◌∙◌, arith, Option, Some, None}
use Rattle.std.specs.Prelude.{max, slice_get, option_map, option_and_then, option_to_list, flat_map, IsSomeAnd}
use Rattle.std.proofs.lemmas.List.{append-nil}
use Rattle.ptp_base.specs.declared.identity.PortId.{PortId}
use Rattle.ptp_base.specs.declared.announcement.Announcement.{Announcement}
use Rattle.ptp_profile.specs.declared.message.Message.{Message}
use Rattle.ptp_profile.specs.declared.port_event.Fate.{Fate}
use Rattle.ptp_profile.specs.declared.seats.Held.{Held}
use Rattle.ptp_profile.specs.declared.timing.Measure.{Measure}
use Rattle.ptp_profile.specs.Best.MasterData.{Master}
use Rattle.ptp_profile.specs.Wire.MessageFormat.{message_octets}
use Rattle.data_sets.specs.declared.data_sets.DataSets.{DataSets}
use Rattle.data_sets.specs.DataSetsView.{master_in}
use Rattle.bc_history.specs.declared.entry.Sent.{Sent}
use Rattle.bc_history.specs.declared.port_input.EventContext.{EventContext}
use Rattle.bc_history.specs.declared.port_input.PortEntry.{PortEntry}
use Rattle.bc_history.specs.declared.scenario.Options.{Options}
use Rattle.bc_history.specs.Phases.Inputs.{port_at, at_port, changed_at}
use Rattle.bc_history.specs.Phases.PortPhase.{after_port, after_input, context_of, fate_at, happening_fate, happening_measure, measured_at}
use Rattle.bc_history.specs.Phases.DecisionPhase.{best_of, code_with, is_new_parent, newest_sender, with_renewal, after_hearing, with_codes, with_code, master_among, raises_decision}
use Rattle.bc_history.specs.Phases.EntryEffects.{frames_at, messages_of, frame_of_message}
use Rattle.bc_history.specs.Phases.Step.{at_moment}
use Rattle.bc_history.specs.Phases.State.{Core}
use Rattle.bc_history.specs.Phases.HubPort.{TickMeasure, HubPort}
use Rattle.bc_history.proofs.lemmas.CoreInvariantLemmas.{slice_get-changed_at, port_at-map}
use Rattle.bc_ports.specs.Representation.{PortRepresents, PortsRepresent, IsSamePort, IsClockOf, ArePortsOf, CoreRepresents}
use Rattle.ptp_base.specs.declared.port_conf.PortConf.{PortConf}
use Rattle.ptp_profile.specs.declared.port_best.PortBest.{PortBest}
use Rattle.ptp_profile.specs.declared.port_event.PortEvent.TheVariants.{Decided}
use Rattle.ptp_profile.specs.Best.ForeignMasters.{erbest}
use Rattle.ptp_profile.specs.Best.StateDecision.{bests_of}
use Rattle.ptp_profile.specs.Port.PortTimers.{window_of}
use Rattle.bc_history.proofs.lemmas.PortPhaseLemmas.{face-after_event}
use Rattle.bc_ports.specs.DecisionCost.{bests_at}
use Rattle.state_decision.specs.DeciderView.{DeciderView, HasBest}
use Rattle.bc_ports.specs.PortYield.{IsSenderOf, PortYields}
use Rattle.bc_ports.specs.ClockYield.{IsHeard, IsKeptAt, CoreYields}
use Rattle.bc_ports.specs.declared.boundary_clock.BoundaryClock.{BoundaryClock}
use Rattle.bc_ports.specs.declared.hub_port.HubPort.{HubPort as KeptPort}
use Rattle.bc_ports.specs.declared.hub_port.input.PortOutcome.{PortOutcome}
use Rattle.bc_ports.proofs.lemmas.RepresentationLemmas.{PortsRepresent-later, PortsRepresent-get, PortsRepresent-at, ArePortsOf-set}

-- ---- frames, measures and senders of the port of an entry

octets-sent : (p : ℕ) (messages : List Message) → map (λ (s : Sent). s.octets) (map (frame_of_message p) messages) ≡ map message_octets messages
octets-sent p [] = refl
octets-sent p (m ∷ messages) = ap (λ rest. message_octets m ∷ rest) (octets-sent p messages)

frames-there : (o : Options) (e : PortEntry) (c : Core) (port : HubPort) (fate : Option Fate) → port_at c.ports e.input.number ≡ Some port → fate ≡ fate_at o e c
    → map message_octets (messages_of o fate c.master e.reading e.input.tick e.input.what port.port) ≡ map (λ (s : Sent). s.octets) (frames_at o e c)
frames-there o e c port fate there fate_is =
    let made : List Message = messages_of o (fate_at o e c) c.master e.reading e.input.tick e.input.what port.port in
    let P : Option HubPort → Type 0 = λ x. map message_octets made ≡ map (λ (s : Sent). s.octets) (flat_map (λ (h : HubPort). map (frame_of_message h.port.id.port) (messages_of o (fate_at o e c) c.master e.reading e.input.tick e.input.what h.port)) (option_to_list x)) in
    let one : P (Some port) = sym (ap (λ (xs : List Sent). map (λ (s : Sent). s.octets) xs) (append-nil (map (frame_of_message port.port.id.port) made)) ∙ octets-sent port.port.id.port made) in
    ap (λ (f : Option Fate). map message_octets (messages_of o f c.master e.reading e.input.tick e.input.what port.port)) fate_is ∙ subst P (sym there) one

measure-held : (k : EventContext) (tick : ℕ) (x : Option Measure)
    → option_map {U = Measure × Held} (λ (m : Measure). (m, k.held)) x ≡ option_map {U = Measure × Held} (λ (m : TickMeasure). (m.measure, m.held)) (option_map (measured_at k tick) x)
measure-held k tick None = refl
measure-held k tick (Some m) = refl

kept-at : (fate : Option Fate) (sender : Option PortId) (number : ℕ) (hs : List HubPort) (g : HubPort) → port_at hs number ≡ Some g → IsSenderOf fate sender g → IsKeptAt number fate sender hs
kept-at fate None number hs g there is = is
kept-at fate (Some s) number hs g there is = (is.0, rw there is.1)

-- ---- the port takes its input

-- what a port goes by, at a moment and with a master
abbrev context_with : PortEntry → ℕ → Master → EventContext
context_with e moment master = record { moment = moment; parent = master.parent; steps = master.steps; held = e.held; reading = e.reading }

-- where the port of index i is found, what it made of its input is what the entry makes
yields-there : (o : Options) (e : PortEntry) (c : Core) (i : ℕ) (d : DataSets) (h : HubPort) (new : BoundaryClock) (q' : KeptPort) (before after : List (List ℕ)) (t : PortOutcome)
    → e.input.number ≡ suc i → slice_get c.ports i ≡ Some h → master_in d ≡ c.master → CoreRepresents o new (after_port o e c) → PortYields o (context_of e c) d e.input.tick e.input.what q' before after t h
    → CoreYields o e c new before after t
unfolding after_port
yields-there o e c i d h new q' before after t number found master core y =
    let f : HubPort → HubPort = after_input o (context_of e c) e.input in
    let there : port_at c.ports e.input.number ≡ Some h = ap (λ (n : ℕ). port_at c.ports n) number ∙ found in
    let changed : slice_get (changed_at f i c.ports) i ≡ Some (f h) = slice_get-changed_at f i c.ports ∙ ap (λ (x : Option HubPort). option_map f x) found in
    let after_is : port_at (at_port f e.input.number c.ports) e.input.number ≡ Some (f h) = ap (λ (n : ℕ). port_at (at_port f n c.ports) n) number ∙ changed in
    let fate : t.fate ≡ fate_at o e c = y.fate ∙ ap (λ (x : Option HubPort). option_and_then (happening_fate o (context_of e c) e.input.what) x) (sym there) in
    let M : Option HubPort → Option (Measure × Held) = λ x. option_map {U = Measure × Held} (λ (m : TickMeasure). (m.measure, m.held)) (option_and_then (λ (g : HubPort). g.measured) x) in
    record {
      clock = core;
      fate = fate;
      measure = ap (λ (x : Option Measure). option_map {U = Measure × Held} (λ (m : Measure). (m, e.held)) x) y.measure ∙ (measure-held (context_of e c) e.input.tick (happening_measure o (context_of e c) e.input.what h) ∙ ap M (sym after_is));
      frames = y.frames
          ∙ (ap (λ (m : Master). before ++ map message_octets (messages_of o t.fate m e.reading e.input.tick e.input.what h.port)) master ∙ ap (λ (xs : List (List ℕ)). before ++ xs) (frames-there o e c h t.fate there fate));
      raises_is = y.raises_is ∙ ap (λ (x : Option HubPort). raises_decision t.fate x e.input.tick e.input.what) (sym there);
      sender = kept-at t.fate t.sender e.input.number _ (f h) after_is y.sender;
    }

-- the clock whose port of index i took its input
pub core-taken : (o : Options) (e : PortEntry) (c : Core) (old new : BoundaryClock) (i : ℕ) (q q' : KeptPort) (before after : List (List ℕ)) (t : PortOutcome)
    → e.input.number ≡ suc i → i < length old.ports.items → q ≡ get_or old.ports.items i q → IsSamePort q q'
    → new.moment ≡ max old.moment e.input.tick → new.sets ≡ old.sets → new.decider ≡ old.decider → new.ports.items ≡ set old.ports.items i q'
    → ((h : HubPort) → IsClockOf o old.sets → PortRepresents o.delay_filter_length new.moment q h
    → PortYields o (context_with e new.moment (master_in old.sets)) old.sets e.input.tick e.input.what q' before after t h)
    → CoreRepresents o old c → CoreYields o e (at_moment e.input.tick c) new before after t
unfolding after_port
core-taken o e c old new i q q' before after t number lt at same moment sets decider ports takes is =
    let n = o.delay_filter_length in
    let core : Core = at_moment e.input.tick c in
    let moment_is : new.moment ≡ core.moment = moment ∙ ap (λ (m : ℕ). max m e.input.tick) is.moment in
    let later = PortsRepresent-later n old.moment new.moment old.ports.items c.ports (omega (arith, moment)) is.ports in
    let there = PortsRepresent-get n new.moment old.ports.items c.ports i q later lt at in
    let Y : ℕ → Master → Type 0 = λ m x. (h : HubPort) → PortRepresents n new.moment q h → PortYields o (context_with e m x) old.sets e.input.tick e.input.what q' before after t h in
    let yields : Y core.moment core.master = subst (λ (m : ℕ). Y m core.master) moment_is (subst (Y new.moment) is.master (λ h s. takes h is.clock s)) in
    let f : HubPort → HubPort = after_input o (context_of e core) e.input in
    let S : ℕ → Type 0 = λ m. (h : HubPort) → slice_get c.ports i ≡ Some h → PortRepresents n new.moment q h → PortRepresents n m q' (f h) in
    let steps : S new.moment = subst S (sym moment_is) (λ h found s. (yields h s).port) in
    let changed : PortsRepresent n new.moment (set old.ports.items i q') (changed_at f i c.ports) = PortsRepresent-at n new.moment old.ports.items c.ports i q q' f later lt at steps in
    let P : ℕ → Type 0 = λ p. PortsRepresent n new.moment (set old.ports.items i q') (at_port f p c.ports) in
    let Q : List KeptPort → Type 0 = λ qs. PortsRepresent n new.moment qs (at_port f e.input.number c.ports) in
    let R : List KeptPort → Type 0 = λ qs. ArePortsOf o 1 qs in
    let D : DataSets → Type 0 = λ d. IsClockOf o d in
    yields-there o e core i old.sets there.0 new q' before after t number there.1 is.master
    (record {
      moment = moment_is;
      clock = subst D (sym sets) is.clock;
      master = ap (λ (d : DataSets). master_in d) sets ∙ is.master;
      own = ap (λ (d : DeciderView). d.own) decider ∙ is.own;
      numbers = subst R (sym ports) (ArePortsOf-set o 1 old.ports.items i q q' is.numbers lt at same);
      ports = subst Q (sym ports) (subst P (sym number) changed);
    })
    (yields there.0 there.2)

-- ---- the port that kept an Announce

heard-some : (hs : List HubPort) (i number : ℕ) (h : HubPort) (sender : PortId) → number ≡ suc i → slice_get hs i ≡ Some h → IsHeard number hs sender → newest_sender h.kept ≡ Some sender
heard-some hs i number h sender number_is found heard =
    let P : ℕ → Type 0 = λ n. IsHeard n hs sender in
    let Q : Option HubPort → Type 0 = λ x. IsSomeAnd x (λ (g : HubPort). newest_sender g.kept ≡ Some sender) in
    subst Q found (subst P number_is heard)

-- its best is the one by the decision
option-some : {A : Type 0} (x y : Option A) (a b : A) → x ≡ Some a → y ≡ Some b → x ≡ y → a ≡ b
option-some x y a b one other same = cc

best-at : (m i : ℕ) (hs : List HubPort) (h : HubPort) → slice_get hs i ≡ Some h → slice_get (bests_at m hs) i ≡ Some (best_of m h)
best-at m i [] h found = absurd (cc)
best-at m zero (g ∷ hs) h found = ap (λ (x : Option HubPort). option_map (best_of m) x) found
best-at m (suc i) (g ∷ hs) h found = best-at m i hs h found

best-set : (i : ℕ) (ports : List PortBest) → slice_get (bests_of ports) i ≡ option_map (λ (port : PortBest). port.best) (slice_get ports i)
best-set i [] = refl
best-set zero (p ∷ ports) = refl
best-set (suc i) (p ∷ ports) = best-set i ports

best-some : (c : Core) (m number i : ℕ) (h : HubPort) (ports : List PortBest) (best : Option Announcement) → number ≡ suc i → m ≡ c.moment → slice_get c.ports i ≡ Some h → HasBest number ports best
    → bests_at c.moment c.ports ≡ bests_of ports → best ≡ best_of m h
best-some c m number i h ports best number_is moment found has bests =
    let there : slice_get (bests_of ports) i ≡ Some (best_of m h) = ap (λ (xs : List (Option Announcement)). slice_get xs i) (sym bests) ∙ (ap (λ (k : ℕ). slice_get (bests_at k c.ports) i) (sym moment) ∙ best-at m i c.ports h found) in
    let index : number - 1 ≡ i = omega (arith, number_is) in
    let here : slice_get (bests_of ports) i ≡ Some best = best-set i ports ∙ (ap (λ (k : ℕ). option_map (λ (port : PortBest). port.best) (slice_get ports k)) (sym index) ∙ has) in
    option-some _ _ best (best_of m h) here there refl

-- it sets announce receipt anew
pub core-renewed : (o : Options) (number : ℕ) (c : Core) (old new : BoundaryClock) (i : ℕ) (q q' : KeptPort) (sender : PortId) (best : Option Announcement)
    → number ≡ suc i → i < length old.ports.items → q ≡ get_or old.ports.items i q → IsSamePort q q' → new.moment ≡ old.moment → new.sets ≡ old.sets → new.decider ≡ old.decider → new.ports.items ≡ set old.ports.items i q'
    → ((h : HubPort) → PortRepresents o.delay_filter_length old.moment q h → best ≡ best_of old.moment h → newest_sender h.kept ≡ Some sender → PortRepresents o.delay_filter_length old.moment q' (with_renewal old.moment h))
    → HasBest number old.decider.bests best → bests_at c.moment c.ports ≡ bests_of old.decider.bests → IsHeard number c.ports sender → CoreRepresents o old c → CoreRepresents o new (after_hearing number c)
unfolding after_hearing
core-renewed o number c old new i q q' sender best number_is lt at same moment sets decider ports renews has bests heard is =
    let n = o.delay_filter_length in
    let f : HubPort → HubPort = with_renewal c.moment in
    let S : ℕ → Type 0 = λ m. (h : HubPort) → slice_get c.ports i ≡ Some h → PortRepresents n old.moment q h → PortRepresents n old.moment q' (with_renewal m h) in
    let steps : S c.moment = subst S is.moment (λ h found s. renews h s (best-some c old.moment number i h old.decider.bests best number_is is.moment found has bests) (heard-some c.ports i number h sender number_is found heard)) in
    let changed : PortsRepresent n old.moment (set old.ports.items i q') (changed_at f i c.ports) = PortsRepresent-at n old.moment old.ports.items c.ports i q q' f is.ports lt at steps in
    let P : ℕ → Type 0 = λ p. PortsRepresent n old.moment (set old.ports.items i q') (at_port f p c.ports) in
    let Q : ℕ → List KeptPort → Type 0 = λ m qs. PortsRepresent n m qs (at_port f number c.ports) in
    let R : List KeptPort → Type 0 = λ qs. ArePortsOf o 1 qs in
    let D : DataSets → Type 0 = λ d. IsClockOf o d in
    record {
      moment = moment ∙ is.moment;
      clock = subst D (sym sets) is.clock;
      master = ap (λ (d : DataSets). master_in d) sets ∙ is.master;
      own = ap (λ (d : DeciderView). d.own) decider ∙ is.own;
      numbers = subst R (sym ports) (ArePortsOf-set o 1 old.ports.items i q q' is.numbers lt at same);
      ports = subst (λ (m : ℕ). Q m new.ports.items) (sym moment) (subst (Q old.moment) (sym ports) (subst P (sym number_is) changed));
    }

-- a decision leaves what the ports hear
bests-decided : (own : Announcement) (best : Option Announcement) (m k : ℕ) (parent : PortId) (steps : ℕ) (hs : List HubPort) → bests_at k (map (with_code own m best parent steps) hs) ≡ bests_at k hs
bests-decided own best m k parent steps [] = refl
bests-decided own best m k parent steps (h ∷ hs) =
    let conf = ap (λ (f : PortId × PortConf). f.1) (face-after_event m steps (Decided (code_with own m best h)) (is_new_parent best parent) h.port) in
    ap (λ (x : PortConf). erbest (window_of x) k h.kept ∷ bests_at k (map (with_code own m best parent steps) hs)) conf
    ∙ ap (λ (xs : List (Option Announcement)). best_of k h ∷ xs) (bests-decided own best m k parent steps hs)

pub bests-with_codes : (own : Announcement) (best : Option Announcement) (c : Core) → bests_at (with_codes own best c).moment (with_codes own best c).ports ≡ bests_at c.moment c.ports
unfolding with_codes
bests-with_codes own best c = bests-decided own best c.moment c.moment c.master.parent (master_among own c.moment best c.master c.ports).steps c.ports

-- a decision leaves who was heard
pub heard-decided : (own : Announcement) (best : Option Announcement) (c : Core) (number : ℕ) (sender : PortId) → IsHeard number c.ports sender → IsHeard number (with_codes own best c).ports sender
unfolding with_codes
heard-decided own best c number sender heard =
    let f : HubPort → HubPort = with_code own c.moment best c.master.parent (master_among own c.moment best c.master c.ports).steps in
    let P : Option HubPort → Type 0 = λ x. IsSomeAnd x (λ (g : HubPort). newest_sender g.kept ≡ Some sender) in
    subst P (sym (port_at-map f number c.ports)) (by (port_at c.ports number) heard)
  where
    by : (x : Option HubPort) → IsSomeAnd x (λ (g : HubPort). newest_sender g.kept ≡ Some sender)
        → IsSomeAnd (option_map (with_code own c.moment best c.master.parent (master_among own c.moment best c.master c.ports).steps) x) (λ (g : HubPort). newest_sender g.kept ≡ Some sender)
    by None is = is
    by (Some h) is = is
