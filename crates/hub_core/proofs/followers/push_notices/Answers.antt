use Rattle.std.proofs.Common.{◌≡◌, ◌∙◌, ◌+◌, ◌-◌, List, [], ◌∷◌, ◌++◌, length, ap, sym, arith, length-append}
use Rattle.std.proofs.lemmas.List.FromFn.{map-range_with_len_more}
use Rattle.ptp_base.specs.Room.{Reserved}
use Rattle.ptp_profile.specs.declared.roles.Notice.{Notice}
use Rattle.bc_history.specs.Phases.NoticePhase.{notice_for}
use Rattle.bc_notices.specs.NoticesView.{notices_for}
use Rattle.hub_core.proofs.followers.push_notices.Goals as goal

pub loop-clock-preserved : goal.loop-clock-preserved
loop-clock-preserved c =
    let done : List Notice = c.loop-clock.out.items in
    let one : Notice = c.notice.result in
    let k = c.loop-clock.clock in
    let items : c.push.new.self.items ≡ done ++ one ∷ [] = ap (λ (r : Reserved Notice). r.items) c.push.ensures in
    let spare : c.push.new.self.spare ≡ c.loop-clock.out.spare - 1 = ap (λ (r : Reserved Notice). r.spare) c.push.ensures in
    let long = ap (λ (xs : List Notice). length xs) items ∙ length-append done (one ∷ []) in
    record {
      count = omega (arith, long, c.loop-clock.invariant.count);
      places = omega (arith, long, spare, c.loop-clock.invariant.places);
      notices = λ core r is slave.
          let next : 0 + k ≡ k = omega arith in
          items ∙ ap (λ (xs : List Notice). xs ++ one ∷ []) (c.loop-clock.invariant.notices core r is slave)
          ∙ ap (λ (x : Notice). notices_for core r k ++ x ∷ []) (c.notice.ensures.history core r is slave)
          ∙ sym (map-range_with_len_more (notice_for core r) 0 k k next);
    }
