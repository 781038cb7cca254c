use Rattle.std.specs.Int.{w128}
use Rattle.std.proofs.Common.{rules}
use Rattle.std.proofs.lemmas.Int.{to_z-of_z}
use Rattle.bc_config.proofs.draft.Draft.set.Goals as goal

pub returns-in-Port : goal.returns-in-Port
returns-in-Port c =
    let whole = to_z-of_z w128 c.args.value (search rules) in
    rw (c.in_ok-push.ensures.ok, c.set_last_port.ensures, ← c.self.view_is, c.in-Port.is, whole)

pub returns-in-Clock : goal.returns-in-Clock
returns-in-Clock c =
    let whole = to_z-of_z w128 c.args.value (search rules) in
    rw (c.in_ok-push.ensures.ok, c.set_last_clock.ensures, ← c.self.view_is, c.in-Clock.is, whole)
