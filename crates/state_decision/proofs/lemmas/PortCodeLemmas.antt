-- The codes of the ports that are left.
use Rattle.std.proofs.Common.{ℕ, List, map, Option}
use Rattle.std.specs.List.{enumerate_from}
use Rattle.ptp_base.specs.declared.announcement.Announcement.{Announcement}
use Rattle.ptp_base.specs.declared.code.Code.{Code}
use Rattle.ptp_profile.specs.declared.port_best.PortBest.{PortBest}
use Rattle.ptp_profile.specs.Best.StateDecision.{code_of}

-- the codes of the ports from this number on
abbrev pub codes_from : Announcement → Option Announcement → ℕ → List PortBest → List Code
codes_from own ebest n ports = map (λ (port : ℕ × PortBest). code_of own ebest port.0 port.1.state port.1.best) (enumerate_from n ports)
