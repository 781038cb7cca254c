use Rattle.std.proofs.Common.{◌≡◌, ◌∙◌, suc, List, length, set, ap, subst, add-one, Some}
use Rattle.std.specs.Prelude.{slice_get, slice_index_or}
use Rattle.ptp_base.specs.declared.port_state.PortState.{PortState}
use Rattle.ptp_base.specs.declared.port_state.PortState.TheVariants.{Initializing}
use Rattle.data_sets.specs.declared.port_set.PortSet.{PortSet}
use Rattle.bc_ports.proofs.lemmas.MoveLemmas.{get-there, stated, stated-all, stated-length, stated-next}
use Rattle.bc_ports.proofs.moves.set_states.Goals as goal

pub loop-i-preserved : goal.loop-i-preserved
loop-i-preserved c =
    let i = c.loop-i.i in
    let sets : List PortSet = c.args.sets.now in
    let states : List PortState = c.args.states.now in
    let former : PortSet = c.set_at-former.result in
    let new : PortSet = record former { state = slice_index_or states i Initializing } in
    let P : List PortSet → Type 0 = λ xs. slice_get xs i ≡ Some former in
    let found : slice_get (stated i sets states) i ≡ Some former = subst P c.loop-i.invariant.sets c.set_at-former.ensures in
    let next = stated-next i sets states former (slice_index_or states i Initializing) c.requires found (get-there states i Initializing c.loop-i-test.true) in
    let is : c.set.new.self ≡ stated (suc i) sets states =
    c.set.ensures ∙ (ap (λ (x : PortSet). set c.loop-i.sets i x) c.with_state.ensures ∙ (ap (λ (xs : List PortSet). set xs i new) c.loop-i.invariant.sets ∙ next)) in
    record {
      sets = rw add-one is;
      length = ap (λ (xs : List PortSet). length xs) is ∙ stated-length (suc i) sets states;
    }

pub returns : goal.returns
returns c = c.loop-i.invariant.sets ∙ stated-all c.loop-i.i c.args.sets.now c.args.states.now c.loop-i-test.false
