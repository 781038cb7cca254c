use Rattle.std.proofs.Common.{refl, sym, subst}
use Rattle.ptp_profile.specs.declared.seats.Held.{Held}
use Rattle.ptp_profile.specs.Roles.SeatLogs.{HasOrder, log_at}
use Rattle.bc_steps.proofs.lemmas.FollowerStepLemmas.{exchanges-own, holds-follower}
use Rattle.bc_steps.proofs.lemmas.ServedFollowerLemmas.{follower-exchanged}
use Rattle.bc_steps.proofs.follower.actor.FollowerActor.exchange.Goals as goal

pub held_by-requires : goal.held_by-requires
held_by-requires c =
    let at = exchanges-own c.self.inside c.args.self.now c.args.hub.now c.args.tick c.args.lead c.args.theirs c.args.own c.args.action c.self.invariant c.self.view_is c.requires.level c.requires.place in
    at.can.small

pub exchange-requires-clause-asks : goal.exchange-requires-clause-asks
exchange-requires-clause-asks c =
    let at = exchanges-own c.self.inside c.args.self.now c.args.hub.now c.args.tick c.args.lead c.args.theirs c.args.own c.args.action c.self.invariant c.self.view_is c.requires.level c.requires.place in
    let holds = holds-follower c.self.inside c.args.hub.now c.args.tick c.args.lead c.args.theirs c.args.own c.args.action c.self.invariant at.level c.rules.ensures.scenario
    c.rules.ensures.history.continues c.rules.ensures.lawful c.rules.ensures.logs at.place in
    holds.asks

pub exchange-requires-clause-ordered : goal.exchange-requires-clause-ordered
exchange-requires-clause-ordered c =
    let at = exchanges-own c.self.inside c.args.self.now c.args.hub.now c.args.tick c.args.lead c.args.theirs c.args.own c.args.action c.self.invariant c.self.view_is c.requires.level c.requires.place in
    let holds = holds-follower c.self.inside c.args.hub.now c.args.tick c.args.lead c.args.theirs c.args.own c.args.action c.self.invariant at.level c.rules.ensures.scenario
    c.rules.ensures.history.continues c.rules.ensures.lawful c.rules.ensures.logs at.place in
    subst (λ (h : Held). HasOrder (log_at c.args.hub.now.logs h.clock) h.gener h.ctrl) (sym c.held_by.ensures) holds.ordered

pub exchange-requires-clause-tick : goal.exchange-requires-clause-tick
exchange-requires-clause-tick c =
    let at = exchanges-own c.self.inside c.args.self.now c.args.hub.now c.args.tick c.args.lead c.args.theirs c.args.own c.args.action c.self.invariant c.self.view_is c.requires.level c.requires.place in
    at.can.tick_is

pub invariant_of-self : goal.invariant_of-self
invariant_of-self c =
    let at = exchanges-own c.self.inside c.args.self.now c.args.hub.now c.args.tick c.args.lead c.args.theirs c.args.own c.args.action c.self.invariant c.self.view_is c.requires.level c.requires.place in
    follower-exchanged c.self.inside _ c.args.tick c.args.lead c.args.theirs c.args.own c.args.action c.in_ok-outcome.outcome c.self.invariant at.place refl
