use Rattle.std.proofs.Common.{None, refl, List, [], ◌∷◌}
use Rattle.std.specs.Prelude.{filter_map}
use Rattle.ptp_profile.specs.declared.port_event.Timer.{Timer}
use Rattle.ptp_profile.specs.declared.port_event.Timer.TheVariants.{AnnounceReceipt, Qualification, AnnounceSend, SyncSend, DelayRequest}
use Rattle.ptp_profile.specs.Port.PortTimers.{Timers, set_timer, due_of}
use Rattle.port_fsm.proofs.lemmas.DueTimerLemmas.{timer_more}
use Rattle.port_fsm.proofs.timers.first_of.Goals as goal

pub returns : goal.returns
returns c =
    let t : Timers =
    record {
      receipt = c.args.receipt;
      qualification = c.args.qualification;
      announce = c.args.announce;
      sync = c.args.sync;
      delay = c.args.delay;
    } in
    let due = λ (later : List Timer). filter_map (set_timer t) later in
    let one = c.with_later-first.ensures in
    let two = c.with_later-first-2.ensures in
    let three = c.with_later-first-3.ensures in
    let four = c.with_later-first-4.ensures in
    let five = c.with_later.ensures in
    timer_more _ _ (due_of t) DelayRequest t.delay [] five.set five.cleared
    (timer_more _ _ (due_of t) SyncSend t.sync (due (DelayRequest ∷ [])) four.set four.cleared
    (timer_more _ _ (due_of t) AnnounceSend t.announce (due (SyncSend ∷ DelayRequest ∷ [])) three.set three.cleared
    (timer_more _ _ (due_of t) Qualification t.qualification (due (AnnounceSend ∷ SyncSend ∷ DelayRequest ∷ [])) two.set two.cleared
    (timer_more None _ (due_of t) AnnounceReceipt t.receipt (due (Qualification ∷ AnnounceSend ∷ SyncSend ∷ DelayRequest ∷ [])) one.set one.cleared refl))))
