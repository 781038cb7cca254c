use Rattle.std.proofs.Common.{◌<◌, ◌≤◌, not, None, List, length, ap, subst, ◌∙◌}
use Rattle.std.specs.List.{position}
use Rattle.ptp_base.specs.declared.limits.TheConstants.{SENDERS_MAX}
use Rattle.foreign_master.specs.declared.foreign_master.ForeignMaster.{ForeignMaster}
use Rattle.foreign_master.specs.ForeignMasterTable.{is_of, is_present}
use Rattle.foreign_master.proofs.lemmas.HearingLemmas.{keeps_from, own_not_crowded, room_not_crowded, left_not_crowded, full_crowded, put_taken, new_taken, left_taken, put_table, new_table, left_table}
use Rattle.foreign_master.proofs.master_table.MasterTable.take.Goals as goal

pub invariant_of-self : goal.invariant_of-self
invariant_of-self c =
    let found = c.in-Some.ensures ∙ ap (position (is_of c.args.a.sender)) c.as_slice-masters.ensures.value in
    put_table c.self.inside.masters.items _ c.in-Some.known (record { said = c.args.a; last = c.args.at; before = _ }) (record { said = c.args.a; last = c.args.at; before = None }) c.self.invariant found c.requires

pub returns-in-Some-clause-crowded : goal.returns-in-Some-clause-crowded
returns-in-Some-clause-crowded c = λ kept keeps reached.
    let found = c.in-Some.ensures ∙ ap (position (is_of c.args.a.sender)) c.as_slice-masters.ensures.value in
    own_not_crowded c.args.window c.args.at kept c.args.a.sender c.self.inside.masters.items c.in-Some.known found (keeps_from c.args.window _ _ _ kept c.self.invariant c.self.view_is keeps) reached

pub returns-in-Some-clause-taken : goal.returns-in-Some-clause-taken
returns-in-Some-clause-taken c = λ kept keeps reached _.
    let found = c.in-Some.ensures ∙ ap (position (is_of c.args.a.sender)) c.as_slice-masters.ensures.value in
    put_taken c.args.window c.self.inside.masters.items c.as_slice-masters.result.now kept (record { at = c.args.at; said = c.args.a }) c.in-Some.known _ c.as_slice-masters.ensures.value found (keeps_from c.args.window _ _ _ kept c.self.invariant c.self.view_is keeps) reached

pub invariant_of-self-then-masters-lt-SENDERS_MAX : goal.invariant_of-self-then-masters-lt-SENDERS_MAX
invariant_of-self-then-masters-lt-SENDERS_MAX c =
    let absent = c.in_default.ensures ∙ ap (position (is_of c.args.a.sender)) c.as_slice-masters.ensures.value in
    let few = subst (λ (l : List ForeignMaster). length l < SENDERS_MAX) c.as_slice-masters.ensures.value c.if-masters-lt-SENDERS_MAX.true in
    new_table c.self.inside.masters.items _ _ _ (record { said = c.args.a; last = c.args.at; before = None }) c.self.invariant few absent c.requires c.insert.ensures.items c.insert.ensures.capacity

pub returns-then-masters-lt-SENDERS_MAX-clause-crowded : goal.returns-then-masters-lt-SENDERS_MAX-clause-crowded
returns-then-masters-lt-SENDERS_MAX-clause-crowded c = λ kept keeps reached.
    let few = subst (λ (l : List ForeignMaster). length l < SENDERS_MAX) c.as_slice-masters.ensures.value c.if-masters-lt-SENDERS_MAX.true in
    room_not_crowded c.args.window c.args.at kept c.args.a.sender c.self.inside.masters.items few (keeps_from c.args.window _ _ _ kept c.self.invariant c.self.view_is keeps) reached

pub returns-then-masters-lt-SENDERS_MAX-clause-taken : goal.returns-then-masters-lt-SENDERS_MAX-clause-taken
returns-then-masters-lt-SENDERS_MAX-clause-taken c = λ kept keeps reached _.
    let absent = c.in_default.ensures ∙ ap (position (is_of c.args.a.sender)) c.as_slice-masters.ensures.value in
    new_taken c.args.window c.self.inside.masters.items _ kept (record { at = c.args.at; said = c.args.a }) absent (keeps_from c.args.window _ _ _ kept c.self.invariant c.self.view_is keeps) reached c.insert.ensures.items

pub invariant_of-self-in-Some-find_left : goal.invariant_of-self-in-Some-find_left
invariant_of-self-in-Some-find_left c =
    let absent = c.in_default.ensures ∙ ap (position (is_of c.args.a.sender)) c.as_slice-masters.ensures.value in
    let left = c.in-Some-find_left.ensures ∙ ap (position (λ (p : ForeignMaster). not (is_present c.args.window c.args.at p))) c.as_slice-masters.ensures.value in
    left_table c.args.window c.args.at c.self.inside.masters.items _ _ _ _ _ c.in-Some-find_left.left (record { said = c.args.a; last = c.args.at; before = None }) c.self.invariant left absent c.requires
    c.remove.ensures.items c.remove.ensures.capacity c.insert-in-Some-find_left.ensures.items c.insert-in-Some-find_left.ensures.capacity

pub returns-in-Some-find_left-clause-crowded : goal.returns-in-Some-find_left-clause-crowded
returns-in-Some-find_left-clause-crowded c = λ kept keeps reached.
    let left = c.in-Some-find_left.ensures ∙ ap (position (λ (p : ForeignMaster). not (is_present c.args.window c.args.at p))) c.as_slice-masters.ensures.value in
    left_not_crowded c.args.window c.args.at kept c.args.a.sender c.self.inside.masters.items c.in-Some-find_left.left left (keeps_from c.args.window _ _ _ kept c.self.invariant c.self.view_is keeps) reached

pub returns-in-Some-find_left-clause-taken : goal.returns-in-Some-find_left-clause-taken
returns-in-Some-find_left-clause-taken c = λ kept keeps reached _.
    let absent = c.in_default.ensures ∙ ap (position (is_of c.args.a.sender)) c.as_slice-masters.ensures.value in
    let left = c.in-Some-find_left.ensures ∙ ap (position (λ (p : ForeignMaster). not (is_present c.args.window c.args.at p))) c.as_slice-masters.ensures.value in
    left_taken c.args.window c.self.inside.masters.items _ _ kept (record { at = c.args.at; said = c.args.a }) c.in-Some-find_left.left left absent (keeps_from c.args.window _ _ _ kept c.self.invariant c.self.view_is keeps) reached
    c.remove.ensures.items c.insert-in-Some-find_left.ensures.items

pub returns-in-None-clause-crowded : goal.returns-in-None-clause-crowded
returns-in-None-clause-crowded c = λ kept keeps reached.
    let absent = c.in_default.ensures ∙ ap (position (is_of c.args.a.sender)) c.as_slice-masters.ensures.value in
    let none = c.in-None.ensures ∙ ap (position (λ (p : ForeignMaster). not (is_present c.args.window c.args.at p))) c.as_slice-masters.ensures.value in
    let many = subst (λ (l : List ForeignMaster). SENDERS_MAX ≤ length l) c.as_slice-masters.ensures.value c.if-masters-lt-SENDERS_MAX.false in
    full_crowded c.args.window c.args.at kept c.args.a.sender c.self.inside.masters.items none many absent (keeps_from c.args.window _ _ _ kept c.self.invariant c.self.view_is keeps) reached
