use Rattle.std.proofs.Common.{◌≡◌, ◌∙◌, ◌+◌, ◌<◌, List, ◌++◌, length, set, ap, sym, arith}
use Rattle.ptp_base.specs.declared.port_state.PortState.{PortState}
use Rattle.ptp_base.specs.declared.port_state.PortState.TheVariants.{Initializing}
use Rattle.data_sets.specs.declared.port_set.PortSet.{PortSet}
use Rattle.bc_history.specs.declared.entry.Moved.{Moved}
use Rattle.bc_ports.specs.DecisionScratch.{states_in}
use Rattle.bc_ports.proofs.lemmas.MoveLemmas.{get-there, moves-one, regroup, state-between, states_in-at, states_in-length}
use Rattle.bc_ports.proofs.moves.push_moves.Goals as goal

pub loop-i-preserved : goal.loop-i-preserved
loop-i-preserved c =
    let i = c.loop-i.i in
    let sets : List PortSet = c.args.sets.now in
    let olds : List PortState = states_in sets in
    let news : List PortState = c.args.news.now in
    let mids : List PortState = set olds c.args.at c.args.between in
    let lt : i < length sets = c.loop-i-test.true in
    let long : length olds ≡ length sets = states_in-length sets in
    let s = get-there sets i _ lt in
    let old = states_in-at sets i _ s in
    let mid = state-between olds i c.args.at c.args.between _ c.state_between-mid.result old (omega (arith, long, lt)) c.state_between-mid.ensures.here c.state_between-mid.ensures.elsewhere in
    let new = get-there news i Initializing (omega (arith, lt, c.requires.news)) in
    let next = moves-one (i + 1) i (i + 1) olds mids news _ _ _ (omega arith) old mid new in
    let a : List Moved = c.loop-i.out.items in
    record {
      room = omega (arith, c.loop-i.invariant.room, c.push_moved.ensures.spare, c.push_moved-in-loop-i.ensures.spare);
      moves = rw (c.push_moved-in-loop-i.ensures.moved, c.push_moved.ensures.moved) (regroup a _ _ _ ∙ (ap (λ (xs : List Moved). a ++ xs) (sym next) ∙ c.loop-i.invariant.moves));
    }
