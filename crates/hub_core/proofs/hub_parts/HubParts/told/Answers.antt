use Rattle.std.proofs.Common.{◌∙◌, ℕ, ap, refl, sym, subst}
use Rattle.std.specs.Prelude.{option_map, slice_get}
use Rattle.ptp_profile.specs.declared.roles.Notice.{Notice}
use Rattle.bc_history.specs.declared.entry.Input.{Input}
use Rattle.bc_history.specs.Phases.EntryEffects.{told_by}
use Rattle.bc_history.specs.Phases.NoticePhase.{after_turn, notice_for, told_at}
use Rattle.bc_notices.specs.NoticesView.{NoticesRepresent}
use Rattle.hub_core.proofs.lemmas.NoticeLemmas.{untold, unturned}
use Rattle.hub_core.proofs.hub_parts.HubParts.told.Goals as goal

pub returns-in-Turn-clause-told : goal.returns-in-Turn-clause-told
returns-in-Turn-clause-told c = λ o core r fs at roles is.
    let clock = c.in-Turn.clock in
    let tick = c.in-Turn.tick in
    let notice = c.notice-notice.ensures.history core r roles (c.slave.ensures o core at) in
    let told = c.turn.ensures.told o fs is in
    sym told ∙ ap (λ (n : Notice). option_map (told_at o c.args.self.now.core.moment tick n) (slice_get fs clock)) notice
    ∙ ap (λ (m : ℕ). option_map (told_at o m tick (notice_for core r clock)) (slice_get fs clock)) at.moment
    ∙ sym (ap (λ (x : Input). told_by o core r x fs) c.in-Turn.is)

pub returns-in-Turn-clause-notices : goal.returns-in-Turn-clause-notices
returns-in-Turn-clause-notices c = λ o core r fs at roles is.
    let notice = c.notice-notice.ensures.history core r roles (c.slave.ensures o core at) in
    let N : Input → Type 0 = λ x. NoticesRepresent o c.turn.new.self (after_turn o core r x fs) in
    subst N (sym c.in-Turn.is) (c.turn.ensures.represents o core r fs is at.moment notice)

pub returns-in_default : goal.returns-in_default
returns-in_default c = record {
  told = λ o core r fs at roles is. untold o core r c.args.input.now fs c.in_default.not-Turn;
  notices = λ o core r fs at roles is. unturned o core r c.args.input.now c.args.self.now.notices fs c.in_default.not-Turn is;
  same = refl;
}
