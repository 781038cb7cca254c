use Rattle.std.proofs.Common.{◌≡◌, ◌+◌, ◌∙◌, ap, sym, subst, arith}
use Rattle.ptp_profile.specs.Roles.SeatLogs.{HasOrder}
use Rattle.discipline_seat.specs.SeatValue.{SeatValue}
use Rattle.discipline_seat.specs.Rule.SeatLog.{SeatLog}
use Rattle.discipline_seat.specs.Rule.SeatView.{seen_log}
use Rattle.discipline_seat.proofs.lemmas.CrewLemmas.{crew_met}
use Rattle.discipline_seat.proofs.crew_tests.met.Goals as goal

pub returns-clause-ordered : goal.returns-clause-ordered
returns-clause-ordered c = crew_met c.args.hub.now.view c.meet.new.hub.view (c.args.gener + 1) 0 c.meet.ensures.hub_owner c.meet.ensures.orders (λ d. (c.meet.ensures.met d).0) c.requires.ordered

pub returns-clause-ready : goal.returns-clause-ready
returns-clause-ready c =
    let hub = crew_met c.args.hub.now.view c.meet.new.hub.view (c.args.gener + 1) 0 c.meet.ensures.hub_owner c.meet.ensures.orders (λ d. (c.meet.ensures.met d).0) c.requires.ordered in
    let m = c.requires.member in
    let held = c.args.member.held in
    record {
      member = record {
        table = c.meet.ensures.pass_table;
        there = m.there;
        some = m.some;
        last = m.last;
        ctrl_is = m.ctrl_is;
        somebody = m.somebody;
        named = m.named ∙ sym (c.meet.ensures.owner ∙ ap (λ (p : SeatValue). p.view.owner) c.in_ok-reserve.ensures.same);
      };
      given = λ le. subst (λ (l : SeatLog). HasOrder l held.gener held.ctrl) (sym (c.meet.ensures.met held.clock).2)
          (subst (λ k. HasOrder (seen_log c.meet.new.hub.view held.clock) held.gener k) (sym m.ctrl_is) (hub.given held.gener held.clock m.some (omega (arith, le)) m.there));
      spare = omega (arith, c.in_ok-reserve.ensures.ok, c.meet.ensures.spare);
    }
