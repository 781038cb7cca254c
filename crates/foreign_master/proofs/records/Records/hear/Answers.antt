use Rattle.std.proofs.Common.{◌≡◌, ◌≤◌, true, false, eqb, List, length, sym, subst, ap, refl, ◌∙◌}
use Rattle.std.proofs.lemmas.Bool.{lt-leb}
use Rattle.ptp_base.specs.declared.identity.PortId.{PortId}
use Rattle.ptp_base.specs.declared.limits.TheConstants.{SENDERS_MAX, STEPS_END}
use Rattle.ptp_profile.specs.declared.foreign_master.Heard.TheVariants.{Kept, Crowded}
use Rattle.ptp_profile.specs.Best.ForeignMasters.{hearing_of}
use Rattle.foreign_master.specs.declared.foreign_master.ForeignMaster.{ForeignMaster}
use Rattle.foreign_master.specs.RecordsView.{RecordsView, RecordsRepresent}
use Rattle.foreign_master.proofs.lemmas.HearingLemmas.{heard_as}
use Rattle.foreign_master.proofs.lemmas.BestLemmas.{represent_more, few_compared}
use Rattle.foreign_master.proofs.records.Records.hear.Goals as goal

pub returns-then-not-take-clause-answer : goal.returns-then-not-take-clause-answer
returns-then-not-take-clause-answer g c = λ kept keeps reached.
    let inside = subst (λ (r : RecordsView). RecordsRepresent r kept) (sym c.self.view_is) keeps in
    let crowded = c.take.ensures.crowded kept inside.masters reached in
    let receiver = ap (λ (p : PortId). eqb c.args.a.sender.clock.id p.clock.id) (c.requires ∙ sym (ap (λ (r : RecordsView). r.receiver) c.self.view_is)) in
    subst (λ (r : RecordsView). Crowded ≡ hearing_of r.window c.args.at kept c.args.a) c.self.view_is
    (heard_as c.self.inside.window c.args.at kept c.args.a false (receiver ∙ sym c.eq.ensures ∙ c.if-eq.false) (lt-leb STEPS_END c.args.a.steps c.if-a-ge-STEPS_END.false) c.if-a.false (sym c.if-not-take.true ∙ crowded))

pub returns-clause-answer : goal.returns-clause-answer
returns-clause-answer g c = λ kept keeps reached.
    let inside = subst (λ (r : RecordsView). RecordsRepresent r kept) (sym c.self.view_is) keeps in
    let crowded = c.take.ensures.crowded kept inside.masters reached in
    let receiver = ap (λ (p : PortId). eqb c.args.a.sender.clock.id p.clock.id) (c.requires ∙ sym (ap (λ (r : RecordsView). r.receiver) c.self.view_is)) in
    subst (λ (r : RecordsView). Kept ≡ hearing_of r.window c.args.at kept c.args.a) c.self.view_is
    (heard_as c.self.inside.window c.args.at kept c.args.a true (receiver ∙ sym c.eq.ensures ∙ c.if-eq.false) (lt-leb STEPS_END c.args.a.steps c.if-a-ge-STEPS_END.false) c.if-a.false (sym c.if-not-take.false ∙ crowded))

pub returns-clause-kept : goal.returns-clause-kept
returns-clause-kept g c = λ kept keeps reached _.
    let inside = subst (λ (r : RecordsView). RecordsRepresent r kept) (sym c.self.view_is) keeps in
    represent_more c.self.inside.window c.args.at (record { at = c.args.at; said = c.args.a }) _ kept (c.take.ensures.taken kept inside.masters reached c.if-not-take.false) refl reached

pub returns-clause-counted : goal.returns-clause-counted
returns-clause-counted g c =
    few_compared c.self.inside.window c.args.at c.args.steps.now c.pass_over-self-inside.new.steps c.items.result.now (subst (λ (l : List ForeignMaster). length l ≤ SENDERS_MAX) (sym c.items.ensures.items) c.items.ensures.few) c.pass_over-self-inside.ensures.counted
