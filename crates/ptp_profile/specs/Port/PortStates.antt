-- The states of a port and what changes them (IEEE 1588-2019, 9.2.5 and 9.2.6).
use Rattle.std.specs.Prelude.{ℕ, Bool, true, false, if◌then◌else◌}
use Rattle.ptp_base.specs.declared.code.Code.TheVariants.{Stay, M1, M2, M3, P1, P2, S1}
use Rattle.ptp_base.specs.declared.port_state.PortState.{PortState}
use Rattle.ptp_base.specs.declared.port_state.PortState.TheVariants.{Initializing, Faulty, Disabled, Listening, PreMaster, Master, Passive, Uncalibrated, Slave}
use Rattle.ptp_profile.specs.declared.port_event.PortEvent.{PortEvent}
use Rattle.ptp_profile.specs.declared.port_event.PortEvent.TheVariants.{FaultDetected, FaultCleared, AnnounceTimeout, QualificationTimeout, MasterClockSelected, SynchronizationFault, Decided}

-- the number of a state (8.2.15.3.1)
abbrev pub state_number : PortState → ℕ
state_number Initializing = 1
state_number Faulty = 2
state_number Disabled = 3
state_number Listening = 4
state_number PreMaster = 5
state_number Master = 6
state_number Passive = 7
state_number Uncalibrated = 8
state_number Slave = 9

-- the state is FAULTY
abbrev pub is_faulty : PortState → Bool
is_faulty Initializing = false
is_faulty Faulty = true
is_faulty Disabled = false
is_faulty Listening = false
is_faulty PreMaster = false
is_faulty Master = false
is_faulty Passive = false
is_faulty Uncalibrated = false
is_faulty Slave = false

-- the state is MASTER
abbrev pub is_master : PortState → Bool
is_master Initializing = false
is_master Faulty = false
is_master Disabled = false
is_master Listening = false
is_master PreMaster = false
is_master Master = true
is_master Passive = false
is_master Uncalibrated = false
is_master Slave = false

-- UNCALIBRATED or SLAVE: the port takes its time from a parent
abbrev pub is_following : PortState → Bool
is_following Initializing = false
is_following Faulty = false
is_following Disabled = false
is_following Listening = false
is_following PreMaster = false
is_following Master = false
is_following Passive = false
is_following Uncalibrated = true
is_following Slave = true

-- the state is SLAVE
abbrev pub is_slave : PortState → Bool
is_slave Initializing = false
is_slave Faulty = false
is_slave Disabled = false
is_slave Listening = false
is_slave PreMaster = false
is_slave Master = false
is_slave Passive = false
is_slave Uncalibrated = false
is_slave Slave = true

-- PASSIVE, UNCALIBRATED or SLAVE: the port counts on the Announces of another clock
abbrev pub is_dependent : PortState → Bool
is_dependent Initializing = false
is_dependent Faulty = false
is_dependent Disabled = false
is_dependent Listening = false
is_dependent PreMaster = false
is_dependent Master = false
is_dependent Passive = true
is_dependent Uncalibrated = true
is_dependent Slave = true

-- one row of the table: the state after each event, the codes of the decision last (M1, M2 and M3
-- lead to one state, P1 and P2 to one)
abbrev pub row :
    (on_fault on_cleared on_announce on_qualification on_selected on_synchronization stay m p s :
    PortState) →
    PortEvent → PortState
row on_fault on_cleared on_announce on_qualification on_selected on_synchronization stay m p s FaultDetected =
    on_fault
row on_fault on_cleared on_announce on_qualification on_selected on_synchronization stay m p s FaultCleared =
    on_cleared
row on_fault on_cleared on_announce on_qualification on_selected on_synchronization stay m p s AnnounceTimeout =
    on_announce
row on_fault on_cleared on_announce on_qualification on_selected on_synchronization stay m p s QualificationTimeout =
    on_qualification
row on_fault on_cleared on_announce on_qualification on_selected on_synchronization stay m p s MasterClockSelected =
    on_selected
row on_fault on_cleared on_announce on_qualification on_selected on_synchronization stay m p s SynchronizationFault =
    on_synchronization
row on_fault on_cleared on_announce on_qualification on_selected on_synchronization stay m p s (Decided Stay) =
    stay
row on_fault on_cleared on_announce on_qualification on_selected on_synchronization stay m p s (Decided M1) =
    m
row on_fault on_cleared on_announce on_qualification on_selected on_synchronization stay m p s (Decided M2) =
    m
row on_fault on_cleared on_announce on_qualification on_selected on_synchronization stay m p s (Decided M3) =
    m
row on_fault on_cleared on_announce on_qualification on_selected on_synchronization stay m p s (Decided P1) =
    p
row on_fault on_cleared on_announce on_qualification on_selected on_synchronization stay m p s (Decided P2) =
    p
row on_fault on_cleared on_announce on_qualification on_selected on_synchronization stay m p s (Decided S1) =
    s

-- the state after an event, row by row (9.2.5, figure 30); is_new says that the best announcement
-- comes from another sender than the parent. INITIALIZING and DISABLED are never entered, and
-- FAULT_CLEARED leads straight to LISTENING (the project's)
abbrev pub next : PortState → PortEvent → Bool → PortState
next Initializing e is_new = Initializing
next Disabled e is_new = Disabled
next Faulty e is_new =
    row Faulty Listening Faulty Faulty Faulty Faulty Faulty Faulty Faulty Faulty e
next Listening e is_new =
    row Faulty Listening Master Listening Listening Listening Listening PreMaster Passive
    Uncalibrated e
next PreMaster e is_new =
    row Faulty PreMaster PreMaster Master PreMaster PreMaster PreMaster PreMaster Passive
    Uncalibrated e
next Master e is_new =
    row Faulty Master Master Master Master Master Master Master Passive Uncalibrated e
next Passive e is_new =
    row Faulty Passive Master Passive Passive Passive Passive PreMaster Passive Uncalibrated e
next Uncalibrated e is_new =
    row Faulty Uncalibrated Master Uncalibrated Slave Uncalibrated Uncalibrated PreMaster Passive
    Uncalibrated e
next Slave e is_new =
    row Faulty Slave Master Slave Slave Uncalibrated Slave PreMaster Passive
    (if is_new then Uncalibrated else Slave) e
