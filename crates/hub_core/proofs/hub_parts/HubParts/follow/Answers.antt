use Rattle.std.proofs.Common.{◌≡◌, ◌∙◌, ℕ, max, ◌∷◌, ap, sym, subst, Option, None}
use Rattle.bc_history.specs.declared.entry.Entry.{Entry}
use Rattle.bc_history.specs.declared.entry.Seen.{Seen}
use Rattle.bc_history.specs.declared.entry.Told.{Told}
use Rattle.bc_history.specs.Phases.EntryEffects.{entry_after}
use Rattle.bc_history.specs.Phases.Inputs.{tick_of}
use Rattle.bc_history.specs.Phases.State.{Core}
use Rattle.bc_history.specs.Phases.Step.{at_moment, state_of}
use Rattle.bc_ports.specs.declared.boundary_clock.BoundaryClock.{BoundaryClock}
use Rattle.bc_ports.specs.Representation.{ClockRepresents}
use Rattle.hub_core.specs.EffectParts.{follower_entry}
use Rattle.hub_core.specs.HubParts.{PartsRepresent}
use Rattle.hub_core.specs.PortReading.{input_seen}
use Rattle.hub_core.specs.declared.hub_parts.HubParts.{HubParts}
use Rattle.hub_core.proofs.lemmas.PortlessEntryLemmas.{follower-entry, machine-followed, notices-clocks, notices-few, portless, turner-there, unread}
use Rattle.hub_core.proofs.hub_parts.HubParts.follow.Goals as goal

pub told-told-requires-clause-turner : goal.told-told-requires-clause-turner
told-told-requires-clause-turner c =
    let w = c.requires.at in
    turner-there w.scenario (state_of w.scenario w.entries) c.args.self.now.notices c.args.input w.due.0 w.machine.notices

pub told-told-requires-clause-there : goal.told-told-requires-clause-there
told-told-requires-clause-there c = let w = c.requires.at in notices-clocks w.scenario c.args.self.now w.entries w.machine

pub told-told-requires-clause-few : goal.told-told-requires-clause-few
told-told-requires-clause-few c = let w = c.requires.at in notices-few w.scenario c.args.self.now w.entries w.machine w.few

pub returns-clause-served : goal.returns-clause-served
returns-clause-served c = λ s entries rules machine due.
    let m = c.args.self.now in
    let o = s.options in
    let h = state_of s entries in
    let input = c.args.input in
    let told = c.told-told.result in
    let new = c.told-told.new.self in
    let core = c.advance_moment.new.self in
    let tick = c.tick_of.ensures in
    let at : Core = at_moment (tick_of input) h.core in
    let C : ℕ → Type 0 = λ t. ClockRepresents o core (at_moment t h.core) h.measured in
    let clock = subst C tick (c.advance_moment.ensures.clock o h.core h.measured machine.core) in
    let said = c.told-told.ensures.told o at h.roles h.followers clock.core machine.roles machine.notices in
    let moment = clock.core.moment in
    let none : input_seen s m.roles.seats.logs input ≡ None = unread s m.roles.seats.logs input (portless input c.requires.own) in
    let same = c.told-told.ensures.same in
    let at_end : new.core.moment ≡ max h.core.moment (tick_of input) = ap (λ (x : HubParts). x.core.moment) same ∙ moment in
    let entry_is : c.follower_entry.result ≡ entry_after s entries input None =
    c.follower_entry.ensures ∙ ap (λ (k : ℕ). follower_entry input k told) at_end
    ∙ ap (λ (t : Option Told). follower_entry input (max h.core.moment (tick_of input)) t) said
    ∙ sym (follower-entry s entries input c.requires.own) in
    let ports = ap (λ (n : BoundaryClock). n.ports.len) c.advance_moment.ensures.exact in
    let notices = c.told-told.ensures.notices o at h.roles h.followers clock.core machine.roles machine.notices in
    let next = machine-followed s entries input m core new.notices (portless input c.requires.own) machine c.advance_moment.ensures.sound ports clock notices in
    record {
      entry_is = entry_is ∙ ap (λ (x : Option Seen). entry_after s entries input x) (sym none);
      machine = subst (λ (x : Entry). PartsRepresent s new (state_of s (x ∷ entries))) (sym entry_is)
          (subst (λ (x : HubParts). PartsRepresent s x (state_of s (entry_after s entries input None ∷ entries))) (sym same) next);
    }
