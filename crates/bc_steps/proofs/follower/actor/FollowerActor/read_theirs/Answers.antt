use Rattle.std.proofs.Common.{refl}
use Rattle.bc_steps.proofs.lemmas.FollowerStepLemmas.{reads-theirs}
use Rattle.bc_steps.proofs.lemmas.ServedFollowerLemmas.{follower-read_theirs}
use Rattle.bc_steps.proofs.follower.actor.FollowerActor.read_theirs.Goals as goal

pub read-theirs-requires : goal.read-theirs-requires
read-theirs-requires c =
    let reads = reads-theirs c.self.inside c.args.self.now c.args.hub.now c.args.tick c.args.lead c.self.invariant c.self.view_is c.requires.level c.requires.place in
    record { there = reads.can.source }

pub seen_at-requires-clause-asked : goal.seen_at-requires-clause-asked
seen_at-requires-clause-asked c =
    let reads = reads-theirs c.self.inside c.args.self.now c.args.hub.now c.args.tick c.args.lead c.self.invariant c.self.view_is c.requires.level c.requires.place in
    reads.can.tick_is

pub invariant_of-self : goal.invariant_of-self
invariant_of-self c =
    let reads = reads-theirs c.self.inside c.args.self.now c.args.hub.now c.args.tick c.args.lead c.self.invariant c.self.view_is c.requires.level c.requires.place in
    follower-read_theirs c.self.inside _ c.args.tick c.args.lead c.seen_at.result c.read-theirs.result c.self.invariant reads.place
    (record { clock = c.read-theirs.ensures.state; seen_is = c.seen_at.ensures }) refl
