use Rattle.bc_actors.proofs.rounds.take_rounds.Goals as goal

pub returns-in-Full-clause-error : goal.returns-in-Full-clause-error
returns-in-Full-clause-error g c =
    let held = c.next-in-loop.ensures.full c.in-Full.is in
    c.part-in-Full.ensures.full held.0 held.1
