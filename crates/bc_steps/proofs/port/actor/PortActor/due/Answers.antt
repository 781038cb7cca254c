use Rattle.std.proofs.Common.{ap, refl, sym, ◌∙◌}
use Rattle.bc_steps.proofs.lemmas.OwnPortLemmas.{by_end, by_end-late, by_end-within, due-told}
use Rattle.bc_steps.proofs.port.actor.PortActor.due.Goals as goal

pub returns-in-Some : goal.returns-in-Some
returns-in-Some c =
    let told = due-told c.self.inside c.args.self.now c.args.hub.now c.self.inside.records c.due.result c.tick_at.result c.self.invariant c.self.view_is
    c.requires.level refl c.due.ensures c.tick_at.ensures in
    record { tick = by_end-within c.self.inside.duration c.in-Some.tick c.if-tick-self.true ∙ ap (by_end c.self.inside.duration) (sym c.in-Some.is) ∙ told }

pub returns-in_default : goal.returns-in_default
returns-in_default c =
    let told = due-told c.self.inside c.args.self.now c.args.hub.now c.self.inside.records c.due.result c.tick_at.result c.self.invariant c.self.view_is
    c.requires.level refl c.due.ensures c.tick_at.ensures in
    record { tick = by_end-late c.self.inside.duration c.in-Some.tick c.if-tick-self.false ∙ ap (by_end c.self.inside.duration) (sym c.in-Some.is) ∙ told }

pub returns-in_default-2 : goal.returns-in_default-2
returns-in_default-2 c =
    let told = due-told c.self.inside c.args.self.now c.args.hub.now c.self.inside.records c.due.result c.tick_at.result c.self.invariant c.self.view_is
    c.requires.level refl c.due.ensures c.tick_at.ensures in
    record { tick = ap (by_end c.self.inside.duration) (sym c.in_default.is) ∙ told }
