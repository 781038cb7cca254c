use Rattle.std.proofs.Common.{◌≡◌, ◌≤◌, true, List, length, sym, subst, ◌∙◌}
use Rattle.ptp_base.specs.declared.limits.TheConstants.{SENDERS_MAX}
use Rattle.ptp_profile.specs.Best.ForeignMasters.{erbest}
use Rattle.foreign_master.specs.declared.foreign_master.ForeignMaster.{ForeignMaster}
use Rattle.foreign_master.specs.ForeignMasterTable.{AreRising}
use Rattle.foreign_master.specs.RecordsView.{RecordsView, RecordsRepresent}
use Rattle.foreign_master.specs.SettledRecords.{is_settled}
use Rattle.foreign_master.proofs.lemmas.BestLemmas.{best_passed, best_kept, nothing_compared, few_compared}
use Rattle.foreign_master.proofs.records.Records.best.Goals as goal

pub returns-then-is_within-clause-best : goal.returns-then-is_within-clause-best
returns-then-is_within-clause-best g c = λ kept keeps reached.
    let inside : RecordsView = record { receiver = c.self.inside.receiver; window = c.self.inside.window; heard = c.self.inside.heard; masters = c.self.inside.masters } in
    let up = subst AreRising (sym c.items-masters.ensures.items) c.items-masters.ensures.rising in
    subst (λ (r : RecordsView). c.self.inside.pass.winner ≡ erbest r.window c.args.at kept) c.self.view_is
    (best_kept inside c.args.at kept c.items-masters.result.now c.self.inside.pass (subst (λ (r : RecordsView). RecordsRepresent r kept) (sym c.self.view_is) keeps) reached up c.items-masters.ensures.items c.self.invariant.kept (sym c.is_within.ensures ∙ c.if-is_within.true))

pub returns-clause-best : goal.returns-clause-best
returns-clause-best g c = λ kept keeps reached.
    let inside : RecordsView = record { receiver = c.self.inside.receiver; window = c.self.inside.window; heard = c.self.inside.heard; masters = c.self.inside.masters } in
    let up = subst AreRising (sym c.items-masters.ensures.items) c.items-masters.ensures.rising in
    subst (λ (r : RecordsView). c.pass_over.result.winner ≡ erbest r.window c.args.at kept) c.self.view_is
    (best_passed inside c.args.at kept c.items-masters.result.now c.pass_over.result (subst (λ (r : RecordsView). RecordsRepresent r kept) (sym c.self.view_is) keeps) reached up c.items-masters.ensures.items c.pass_over.ensures.pass)

pub returns-clause-settled : goal.returns-clause-settled
returns-clause-settled g c = λ kept keeps reached settled.
    let inside : RecordsView = record { receiver = c.self.inside.receiver; window = c.self.inside.window; heard = c.self.inside.heard; masters = c.self.inside.masters } in
    let up = subst AreRising (sym c.items-masters.ensures.items) c.items-masters.ensures.rising in
    nothing_compared inside c.args.at c.args.steps.now c.pass_over.new.steps kept c.items-masters.result.now c.self.inside.pass (subst (λ (r : RecordsView). RecordsRepresent r kept) (sym c.self.view_is) keeps) reached up c.items-masters.ensures.items c.self.invariant.kept
    (sym c.is_within.ensures ∙ c.if-is_within.false) c.pass_over.ensures.counted (subst (λ (r : RecordsView). is_settled r.window c.args.at kept ≡ true) (sym c.self.view_is) settled)

pub returns-clause-counted : goal.returns-clause-counted
returns-clause-counted g c =
    few_compared c.self.inside.window c.args.at c.args.steps.now c.pass_over.new.steps c.items-masters.result.now (subst (λ (l : List ForeignMaster). length l ≤ SENDERS_MAX) (sym c.items-masters.ensures.items) c.items-masters.ensures.few) c.pass_over.ensures.counted
