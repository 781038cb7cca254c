use Rattle.std.proofs.Common.{◌∙◌, List, ◌++◌, set, ap, sym}
use Rattle.data_sets.specs.declared.port_set.PortSet.{PortSet}
use Rattle.bc_history.specs.declared.entry.Moved.{Moved}
use Rattle.bc_ports.specs.DecisionScratch.{states_in}
use Rattle.bc_ports.proofs.lemmas.MoveLemmas.{moves-own, stated-own, states_in-at}
use Rattle.bc_ports.proofs.moves.move_own.Goals as goal

pub returns-clause-moves : goal.returns-clause-moves
returns-clause-moves c =
    let sets : List PortSet = c.args.sets.now in
    let former : PortSet = c.set_at-former.result in
    let own = moves-own 1 c.args.at (states_in sets) former.state c.args.between (states_in-at sets c.args.at former c.set_at-former.ensures) in
    c.push_moved.ensures.moved ∙ ap (λ (xs : List Moved). c.args.out.now.items ++ xs) (sym own)

pub returns-clause-sets : goal.returns-clause-sets
returns-clause-sets c =
    let sets : List PortSet = c.args.sets.now in
    c.set.ensures ∙ (ap (λ (x : PortSet). set sets c.args.at x) c.with_state.ensures ∙ stated-own c.args.at sets c.set_at-former.result c.args.between c.set_at-former.ensures)
