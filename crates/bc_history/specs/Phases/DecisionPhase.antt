-- The second phase of an entry: the decision for all ports, where the entry raises one (IEEE
-- 1588-2019, 9.3.3 and 9.3.5).
use Rattle.std.specs.Prelude.{ℕ, Bool, true, false, not, ◌&&◌, if◌then◌else◌, List, [], ◌∷◌, map, Option, Some, None}
use Rattle.ptp_base.specs.declared.identity.PortId.{PortId}
use Rattle.ptp_base.specs.declared.announcement.Announcement.{Announcement}
use Rattle.ptp_base.specs.declared.code.Code.{Code}
use Rattle.ptp_profile.specs.declared.port_event.Fate.{Fate}
use Rattle.ptp_profile.specs.declared.port_event.Fate.TheVariants.{Kept}
use Rattle.ptp_profile.specs.declared.port_event.Timer.TheVariants.{AnnounceReceipt, Qualification, AnnounceSend, SyncSend, DelayRequest}
use Rattle.ptp_profile.specs.declared.port_event.PortEvent.TheVariants.{Decided}
use Rattle.ptp_profile.specs.declared.foreign_master.KeptAnnounce.{KeptAnnounce}
use Rattle.ptp_profile.specs.Best.PortIdentity.{is_same_port}
use Rattle.ptp_profile.specs.Best.ForeignMasters.{erbest, ebest}
use Rattle.ptp_profile.specs.Best.StateDecision.{code_of}
use Rattle.ptp_profile.specs.Best.MasterData.{Master, master_after}
use Rattle.ptp_profile.specs.Port.PortStates.{is_dependent}
use Rattle.ptp_profile.specs.Port.PortTimers.{window_of}
use Rattle.ptp_profile.specs.Port.Port.{is_set_for, after_event, with_receipt_renewed}
use Rattle.bc_history.specs.declared.port_input.PortHappening.{PortHappening}
use Rattle.bc_history.specs.declared.port_input.PortHappening.TheVariants.{Frame, Timed, Down, Up, Report}
use Rattle.bc_history.specs.declared.scenario.Options.{Options}
use Rattle.bc_history.specs.Phases.Inputs.{port_at, at_port, holds}
use Rattle.bc_history.specs.Phases.OpeningState.{local_announcement}
use Rattle.bc_history.specs.Phases.PortPhase.{fate_at}
use Rattle.bc_history.specs.Phases.State.{Core}
use Rattle.bc_history.specs.Phases.HubPort.{HubPort}
use Rattle.bc_history.specs.declared.port_input.PortEntry.{PortEntry}

-- Erbest: the best announcement that a port hears, at moment m
abbrev pub best_of : ℕ → HubPort → Option Announcement
best_of m h = erbest (window_of h.port.conf) m h.kept

-- Ebest: the best of all ports
abbrev pub best_among : ℕ → List HubPort → Option Announcement
best_among m ports = ebest (map (best_of m) ports)

-- the fate is that of an Announce that counts
abbrev pub is_kept : Option Fate → Bool
is_kept (Some Kept) = true
is_kept _ = false

-- a kept Announce, an announce receipt timeout, a fault and its end raise a decision; the port is
-- that of the entry, before it
abbrev pub raises_decision : Option Fate → Option HubPort → ℕ → PortHappening → Bool
raises_decision fate port tick (Frame octets) = is_kept fate
raises_decision fate port tick (Timed AnnounceReceipt) =
    holds (λ (h : HubPort). is_set_for AnnounceReceipt tick h.port) port
raises_decision fate port tick (Timed Qualification) = false
raises_decision fate port tick (Timed AnnounceSend) = false
raises_decision fate port tick (Timed SyncSend) = false
raises_decision fate port tick (Timed DelayRequest) = false
raises_decision fate port tick Down = true
raises_decision fate port tick Up = true
raises_decision fate port tick (Report gener action outcome) = false

-- the code of a port, with the own announcement and Ebest
abbrev pub code_with : Announcement → ℕ → Option Announcement → HubPort → Code
code_with own m best h = code_of own best h.port.id.port h.port.state (best_of m h)

-- the data sets after the decision
abbrev pub master_among : Announcement → ℕ → Option Announcement → Master → List HubPort → Master
master_among own m best master ports =
    master_after own best master (map (code_with own m best) ports)

-- Ebest comes from another sender than the parent
abbrev pub is_new_parent : Option Announcement → PortId → Bool
is_new_parent best parent = holds (λ (a : Announcement). not (is_same_port a.sender parent)) best

-- a port after its code; the parent is the one before the decision, the steps are those after it
abbrev pub with_code : Announcement → ℕ → Option Announcement → PortId → ℕ → HubPort → HubPort
with_code own m best parent steps h =
    record h {
      port = after_event m steps (Decided (code_with own m best h)) (is_new_parent best parent)
          h.port;
    }

-- the decision for all ports: the data sets first, then each port
unfoldable pub with_codes : Announcement → Option Announcement → Core → Core
with_codes own best c = record c {
  master = master_among own c.moment best c.master c.ports;
  ports =
      map
      (with_code own c.moment best c.master.parent
      (master_among own c.moment best c.master c.ports).steps)
      c.ports;
}

-- the announcement comes from the sender
abbrev pub is_sent_by : Option Announcement → Option PortId → Bool
is_sent_by None sender = false
is_sent_by (Some a) None = false
is_sent_by (Some a) (Some sender) = is_same_port a.sender sender

-- the sender of the newest of the kept Announces
abbrev pub newest_sender : List KeptAnnounce → Option PortId
newest_sender [] = None
newest_sender (k ∷ kept) = Some k.said.sender

-- announce receipt is set anew where a port that counts on another clock hears its best sender
abbrev pub with_renewal : ℕ → HubPort → HubPort
with_renewal m h =
    if is_dependent h.port.state && is_sent_by (best_of m h) (newest_sender h.kept) then
    record h { port = with_receipt_renewed m h.port }
    else
    h

-- after a kept Announce and its decision, for the port that heard it
unfoldable pub after_hearing : ℕ → Core → Core
after_hearing number c = record c { ports = at_port (with_renewal c.moment) number c.ports }

-- the decision that an entry of a port raises
abbrev pub with_decision : Options → Option Fate → ℕ → Core → Core
with_decision o fate number c =
    if is_kept fate then after_hearing number (with_codes (local_announcement o) (best_among c.moment c.ports) c)
    else with_codes (local_announcement o) (best_among c.moment c.ports) c

-- the decision, where the entry raises one: `before` is what stood before the port took its input,
-- c what stands after that
abbrev pub after_decision : Options → PortEntry → Core → Core → Core
after_decision o e before c =
    if raises_decision (fate_at o e before) (port_at before.ports e.input.number) e.input.tick e.input.what
    then with_decision o (fate_at o e before) e.input.number c else c
