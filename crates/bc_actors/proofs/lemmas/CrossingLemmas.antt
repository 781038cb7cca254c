-- A hub and all who act may cross from one thread to another.
use denote.RattleType.{RattleType}
use denote.Param.Send.{IsSend, sendable, view_send, recorded_send}
use denote.Param.SendFields.{declared_send}
use Rattle.std.proofs.Crossing.{crosses, frees}
use Rattle.std.below.std_heap.specs.contracts.Global as Heap
use Rattle.std.below.std_heap.specs.contracts.GlobalAllocator.TheImpl.{ghosts}
use Rattle.circular_buffer.proofs.Crosses.{Cells-send, Deed-send}
use Rattle.circular_buffer.specs.contracts.cells.Deed as Deed
use Rattle.bc_history.specs.contracts.entry.Entry as entry
use Rattle.hub_core.below.bc_ports.specs.contracts.boundary_clock.BoundaryClock as clock
use Rattle.hub_core.below.bc_ports.specs.contracts.hub_port.HubPort as port
use Rattle.hub_core.specs.contracts.hub.Hub as hub
use Rattle.hub_core.specs.contracts.hub.Hub.TheInside as inside
use Rattle.hub_core.specs.contracts.hub_parts.HubParts as parts
use Rattle.bc_steps.specs.contracts.actor.Actor as actor
use Rattle.bc_actors.specs.declared.acting.Naming.{Ghosts}
use Rattle.bc_actors.specs.contracts.acting.Acting as acting
use Rattle.bc_actors.specs.contracts.acting.Acting.TheInside as acting_inside

deed-send : (T : RattleType) → IsSend (Deed.the_row T Heap.the_row ghosts)
deed-send T = Deed-send T Heap.the_row ghosts frees

ruleset all = (sendable, crosses, Cells-send, deed-send)

entry-send : IsSend entry.the_row
entry-send = search all depth 100 fits 20000

port-send : IsSend port.the_row
port-send = search all depth 100 fits 20000

clock-send : IsSend clock.the_row
clock-send = declared_send clock.the_type (search all depth 60 fits 20000, (search all depth 60 fits 20000, (search (port-send, crosses, recorded_send) depth 60, (search all depth 60 fits 20000, (search all depth 60 fits 20000, tt)))))

parts-send : IsSend parts.the_row
parts-send =
    declared_send parts.the_type (search all depth 60 fits 20000, (search clock-send depth 60, (search all depth 60 fits 20000, (search all depth 60 fits 20000, (search all depth 60 fits 20000, (search all depth 60 fits 20000, tt))))))

pub hub-send : IsSend hub.the_row
hub-send =
    let fields = declared_send inside.the_type (search all depth 60 fits 20000, (search all depth 60 fits 20000, (search parts-send depth 60, (search (entry-send, all) depth 60, (search all depth 60 fits 20000, (search all depth 60 fits 20000, (search all depth 60 fits 20000, tt))))))) in
    view_send _ _ _ _ _ fields

pub actor-send : IsSend actor.the_row
actor-send = search all depth 100 fits 20000

-- the hub and all who act, as what names the scenario may
pub acting-send : (N : RattleType) (naming : Ghosts N.Denot) → IsSend N → IsSend (acting.the_row N naming)
acting-send N naming named =
    let fields = declared_send (acting_inside.the_type N naming) (search hub-send depth 60, (search (actor-send, crosses, recorded_send) depth 60, (search all depth 60 fits 20000, tt))) in
    view_send _ _ _ _ _ fields
