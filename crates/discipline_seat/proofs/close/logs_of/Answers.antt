use Rattle.std.proofs.Common.{rules, ◌≡◌, ◌+◌, ◌-◌, [], ◌∷◌, ◌++◌, length, ap, sym, ◌∙◌, refl, arith, append_assoc, length-append}
use Rattle.std.specs.Vec.Iter.{into_iter_items}
use Rattle.ptp_base.specs.Room.{Reserved}
use Rattle.ptp_profile.specs.declared.seats.Log.{Log}
use Rattle.discipline_seat.proofs.lemmas.WholeLogLemmas.{logs_from-none, pushed_log}
use Rattle.discipline_seat.proofs.close.logs_of.Goals as goal

pub loop-entries-init : goal.loop-entries-init
loop-entries-init c = record {
  all = refl;
  left = search rules;
  logs = c.requires.empty ∙ sym (logs_from-none 0 c.args.openings.now);
  clock = refl;
  places = search rules;
  few = search rules;
}

pub loop-entries-preserved : goal.loop-entries-preserved
loop-entries-preserved c =
    let at = c.loop-entries in
    let x = c.in-Some.entries in
    let steps : into_iter_items at.entries-iterator ≡ x ∷ into_iter_items c.next.new.self = c.in-Some.ensures.steps.0 in
    let gone = c.in-Some.ensures.steps.1 in
    let short = ap length steps in
    let left = at.invariant.left in
    let room : c.push.new.self.spare ≡ at.logs.spare - 1 = ap (λ (r : Reserved Log). r.spare) c.push.ensures in
    let places = at.invariant.places in
    let few = at.invariant.few in
    let long : length (at.yielded ++ x ∷ []) ≡ length at.yielded + 1 = length-append at.yielded (x ∷ []) in
    let clock = at.invariant.clock in
    record {
      all = append_assoc at.yielded (x ∷ []) _ ∙ rw (← steps) at.invariant.all;
      left = omega arith;
      logs = pushed_log c.args.openings.now c.push.new.self.items at.logs.items at.yielded x at.clock c.from.result _ (ap (λ (r : Reserved Log). r.items) c.push.ensures) c.from.ensures clock (omega (arith, few, short, clock)) at.invariant.logs;
      clock = omega arith;
      places = omega arith;
      few = omega arith;
    }
