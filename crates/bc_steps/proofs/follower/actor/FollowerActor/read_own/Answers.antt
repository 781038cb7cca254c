use Rattle.std.proofs.Common.{◌≡◌, ◌∙◌, ◌∷◌, ap, sym, subst}
use Rattle.ptp_profile.specs.declared.timing.Action.{Action}
use Rattle.ptp_profile.specs.declared.seats.Reading.{Reading}
use Rattle.ptp_profile.specs.Timing.Servo.{Sample, newest_action}
use Rattle.pi_servo.specs.SteererView.{SteererRepresents}
use Rattle.phc_follow.specs.FollowerView.{follower_sample}
use Rattle.bc_history.specs.declared.entry.Seen.{Seen}
use Rattle.bc_history.specs.declared.place.FollowerPlace.{FollowerPlace}
use Rattle.bc_history.specs.Phases.OpeningState.{servo_of}
use Rattle.bc_history.specs.Run.FollowerPlace.{follower_job}
use Rattle.bc_history.specs.Run.Samples.{follower_samples, sample_of}
use Rattle.bc_history.specs.Run.World.{seen_at}
use Rattle.bc_steps.specs.FollowerActors.{follower_history}
use Rattle.bc_steps.specs.declared.follower.actor.FollowerActor.TheInside.{Inside}
use Rattle.bc_steps.proofs.lemmas.FollowerStepLemmas.{kept-some, limits-askable, own-read-view, reads-own}
use Rattle.bc_steps.proofs.lemmas.ServedFollowerLemmas.{follower-read_own}
use Rattle.bc_steps.proofs.lemmas.ServedPortLemmas.{within-clock}
use Rattle.bc_steps.proofs.follower.actor.FollowerActor.read_own.Goals as goal

pub sample-action-requires-clause-asked : goal.sample-action-requires-clause-asked
sample-action-requires-clause-asked c =
    let reads = reads-own c.self.inside c.args.self.now c.args.hub.now c.args.tick c.args.lead c.args.theirs c.self.invariant c.self.view_is c.requires.level c.requires.place in
    reads.can.tick_is

pub seen_at-requires-clause-asked : goal.seen_at-requires-clause-asked
seen_at-requires-clause-asked c =
    let reads = reads-own c.self.inside c.args.self.now c.args.hub.now c.args.tick c.args.lead c.args.theirs c.self.invariant c.self.view_is c.requires.level c.requires.place in
    reads.can.tick_is

pub invariant_of-self : goal.invariant_of-self
invariant_of-self c =
    let i : Inside = c.self.inside in
    let conf = servo_of i.scenario.value.options in
    let samples = follower_samples i.clock (follower_history i) in
    let reads = reads-own i c.args.self.now c.args.hub.now c.args.tick c.args.lead c.args.theirs c.self.invariant c.self.view_is c.requires.level c.requires.place in
    let shows = kept-some i c.args.hub.now c.args.tick c.args.lead c.args.theirs c.in-Some.read reads c.in-Some.is in
    let sample : follower_sample c.args.lead c.in-Some.read c.read-own.result c.args.tick ≡ sample_of c.args.lead c.args.theirs c.seen_at.result =
    ap (λ (x : Seen). sample_of c.args.lead x (seen_at c.args.tick c.read-own.result)) (sym shows.seen_is)
    ∙ ap (λ (x : Seen). sample_of c.args.lead c.args.theirs x) (sym c.seen_at.ensures) in
    follower-read_own i _ c.args.tick c.args.lead c.args.theirs c.seen_at.result c.sample-action.result c.self.invariant reads.place
    (c.sample-action.ensures.action conf samples reads.servo ∙ ap (λ (x : Sample). newest_action conf (x ∷ samples)) sample)
    (limits-askable conf c.sample-action.result (within-clock i.scenario.value c.self.invariant.rules) (c.sample-action.ensures.limits conf samples reads.servo))
    (subst (λ (x : Sample). SteererRepresents c.sample-action.new.self.steerer conf (x ∷ samples)) sample (c.sample-action.ensures.steers conf samples reads.servo))
    (ap (λ (p : FollowerPlace). record i { place = p; follower = c.sample-action.new.self }) c.follower_job-self-inside.ensures)

pub returns : goal.returns
returns c = λ n who.
    let i : Inside = c.self.inside in
    let conf = servo_of i.scenario.value.options in
    let samples = follower_samples i.clock (follower_history i) in
    let reads = reads-own i c.args.self.now c.args.hub.now c.args.tick c.args.lead c.args.theirs c.self.invariant c.self.view_is c.requires.level c.requires.place in
    let shows = kept-some i c.args.hub.now c.args.tick c.args.lead c.args.theirs c.in-Some.read reads c.in-Some.is in
    let sample : follower_sample c.args.lead c.in-Some.read c.read-own.result c.args.tick ≡ sample_of c.args.lead c.args.theirs c.seen_at.result =
    ap (λ (x : Seen). sample_of c.args.lead x (seen_at c.args.tick c.read-own.result)) (sym shows.seen_is)
    ∙ ap (λ (x : Seen). sample_of c.args.lead c.args.theirs x) (sym c.seen_at.ensures) in
    let action = c.sample-action.ensures.action conf samples reads.servo ∙ ap (λ (x : Sample). newest_action conf (x ∷ samples)) sample in
    let own = c.seen_at.ensures ∙ ap (λ (r : Reading). seen_at c.args.tick r) c.read-own.ensures.reading in
    let place = c.follower_job-self-inside.ensures
    ∙ (ap (λ (a : Action). follower_job c.args.tick c.args.lead c.args.theirs c.seen_at.result a) action
    ∙ ap (λ (x : Seen). follower_job c.args.tick c.args.lead c.args.theirs x (newest_action conf (sample_of c.args.lead c.args.theirs x ∷ samples))) own) in
    own-read-view i c.args.self.now c.args.hub.now c.args.tick c.args.lead c.args.theirs c.follower_job-self-inside.result n c.self.view_is reads.level who place
