use Rattle.std.proofs.Common.{◌≡◌, subst, sym, ap, ◌∙◌}
use Rattle.std.specs.Prelude.{IfSome}
use Rattle.ptp_profile.specs.Port.PortTimers.{due_of}
use Rattle.port_fsm.proofs.lemmas.DueTimerLemmas.{IsSetAt, IsLeastIn, due_is_set, due_is_least, none_is_set, none_is_due}
use Rattle.port_fsm.proofs.timers.Timers.due.Goals as goal

is_due : (c : goal.After-result-1) → c.self.inside.first ≡ due_of c.args.self.now
is_due c = c.self.invariant ∙ ap due_of c.self.view_is

pub returns-clause-set : goal.returns-clause-set
returns-clause-set c = subst (λ o. IfSome o (IsSetAt c.args.self.now)) (sym (is_due c)) (due_is_set c.args.self.now)

pub returns-clause-least : goal.returns-clause-least
returns-clause-least c = subst (λ o. IfSome o (IsLeastIn c.args.self.now)) (sym (is_due c)) (due_is_least c.args.self.now)

pub returns-clause-none : goal.returns-clause-none
returns-clause-none c = (λ none. none_is_set c.args.self.now (sym (is_due c) ∙ none), λ none. is_due c ∙ none_is_due c.args.self.now none)
