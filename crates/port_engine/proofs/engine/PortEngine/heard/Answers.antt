use Rattle.std.proofs.Common.{rules, ◌∙◌, ap, sym, subst, ℤ, w64}
use Rattle.std.proofs.lemmas.Int.{to_z-of_z}
use Rattle.ptp_profile.specs.Port.Port.{timing_fate, timing_measure, after_timing}
use Rattle.port_engine.specs.EngineView.{EngineRepresents}
use Rattle.port_engine.proofs.lemmas.TimingMessageLemmas.{pair_sends_nothing, response_sends_nothing}
use Rattle.port_engine.proofs.engine.PortEngine.heard.Goals as goal

pub returns-in-Sync : goal.returns-in-Sync
returns-in-Sync c =
    let kept = to_z-of_z w64 c.args.seen (search rules) in
    record {
      fate = λ length p is.
          c.take_sync.ensures.told length p c.args.parent is (sym (c.takes_from.ensures length p is) ∙ c.if-not-takes_from.false)
          ∙ ap (λ (z : ℤ). timing_fate c.args.parent c.args.m.now z p c.args.m.now.body) kept;
      measure = λ length p is. c.take_sync.ensures.measure length p is ∙ ap (λ (z : ℤ). timing_measure length c.args.m.now z c.take_sync.result.0 p) kept;
      port = λ length p is. let P : ℤ → Type 0 = λ z. EngineRepresents length c.take_sync.new.self (after_timing c.args.m.now z c.take_sync.result.0 p) in subst P kept (c.take_sync.ensures.port length p is);
      sent = λ length p is. pair_sends_nothing _ _ _ _ (c.take_sync.ensures.fate length p is);
      same = search rules;
      same_frames = search rules;
      succeeds = search rules;
      room = search rules;
    }

pub returns-in-FollowUp : goal.returns-in-FollowUp
returns-in-FollowUp c =
    let kept = to_z-of_z w64 c.args.seen (search rules) in
    record {
      fate = λ length p is.
          c.take_follow_up.ensures.told length p c.args.parent is (sym (c.takes_from.ensures length p is) ∙ c.if-not-takes_from.false)
          ∙ ap (λ (z : ℤ). timing_fate c.args.parent c.args.m.now z p c.args.m.now.body) kept;
      measure = λ length p is. c.take_follow_up.ensures.measure length p is ∙ ap (λ (z : ℤ). timing_measure length c.args.m.now z c.take_follow_up.result.0 p) kept;
      port = λ length p is. let P : ℤ → Type 0 = λ z. EngineRepresents length c.take_follow_up.new.self (after_timing c.args.m.now z c.take_follow_up.result.0 p) in subst P kept (c.take_follow_up.ensures.port length p is);
      sent = λ length p is. pair_sends_nothing _ _ _ _ (c.take_follow_up.ensures.fate length p is);
      same = search rules;
      same_frames = search rules;
      succeeds = search rules;
      room = search rules;
    }

pub returns-in-DelayResp : goal.returns-in-DelayResp
returns-in-DelayResp c = record {
  fate = λ length p is. c.take_response.ensures.told length p c.args.parent c.args.seen is (sym (c.takes_from.ensures length p is) ∙ c.if-not-takes_from.false);
  measure = λ length p is. sym (c.take_response.ensures.measure length p c.args.seen);
  port = λ length p is. c.take_response.ensures.port length p c.args.seen is;
  sent = λ length p is. response_sends_nothing _ _ _ _ (c.take_response.ensures.fate length p is);
  same = search rules;
  same_frames = search rules;
  succeeds = search rules;
  room = search rules;
}
