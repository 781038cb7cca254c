use Rattle.std.proofs.Common.{◌≡◌, ◌∷◌, rules, ap, sym, subst}
use Rattle.std.proofs.lemmas.Int.{to_z-of_z}
use Rattle.ptp_base.specs.Floor.{IsWithin}
use Rattle.ptp_base.specs.declared.time.TheConstants.{TIME_MAX}
use Rattle.ptp_profile.specs.Timing.Servo.{newest_action, IsGentle}
use Rattle.pi_servo.specs.SteererView.{SteererView, SteererRepresents}
use Rattle.phc_follow.specs.FollowerView.{FollowerView, follower_sample}
use Rattle.phc_follow.proofs.lemmas.FollowerLemmas.{steered-within}
use Rattle.phc_follow.proofs.follower.Follower.sample.Goals as goal

pub returns-clause-steers : goal.returns-clause-steers
returns-clause-steers c = λ conf samples rep.
    let steerer_is : c.self.inside.steerer ≡ c.args.self.now.steerer = ap (λ (f : FollowerView). f.steerer) c.self.view_is in
    let e = c.sample.ensures.steers conf samples (subst (λ (s : SteererView). SteererRepresents s conf samples) (sym steerer_is) rep) in
    search (rules, to_z-of_z, e)

pub returns-clause-limits : goal.returns-clause-limits
returns-clause-limits c = λ conf samples rep.
    let x = follower_sample c.args.lead c.args.theirs.now c.args.own.now c.args.tick in
    let steerer_is : c.self.inside.steerer ≡ c.args.self.now.steerer = ap (λ (f : FollowerView). f.steerer) c.self.view_is in
    let e = c.sample.ensures.answer conf samples (subst (λ (s : SteererView). SteererRepresents s conf samples) (sym steerer_is) rep) in
    let is : c.sample.result ≡ newest_action conf (x ∷ samples) = search (rules, to_z-of_z, e) in
    let offset_is : c.offset_between-offset.result ≡ x.offset = search (rules, to_z-of_z) in
    let gentle : IsGentle c.args.self.now.steerer.conf c.sample.result = subst (λ (s : SteererView). IsGentle s.conf c.sample.result) steerer_is c.sample.ensures.gentle in
    steered-within c.args.self.now.steerer conf samples x c.sample.result rep is (subst (IsWithin TIME_MAX) offset_is c.offset_between-offset.ensures.within) gentle
