use Rattle.std.proofs.Common.{◌≡◌, ◌∙◌, List, length, map, ap, arith}
use Rattle.std.proofs.lemmas.List.{length-replicate}
use Rattle.ptp_base.specs.Room.{Reserved}
use Rattle.ptp_base.specs.declared.port_conf.PortConf.{PortConf}
use Rattle.ptp_base.specs.declared.port_state.PortState.{PortState}
use Rattle.ptp_profile.specs.declared.roles.Notice.{Notice}
use Rattle.ptp_profile.specs.Roles.Edges.{no_stamp}
use Rattle.model_clock.specs.declared.state.ClockState.{ClockState}
use Rattle.bc_history.specs.declared.scenario.Scenario.{Scenario}
use Rattle.bc_roles.specs.RolesView.{RolesView, no_roles}
use Rattle.hub_core.proofs.hub_parts.HubParts.new.Goals as goal

pub returns-clause-machine : goal.returns-clause-machine
returns-clause-machine c =
    let s : Scenario = c.args.s.now in
    let clocks : c.items-2.result.now ≡ s.clocks = c.items-2.ensures ∙ ap (λ (x : Scenario). x.clocks) c.s.view_is in
    let roles = c.in_ok-new-2.ensures.roles ∙ ap (λ (cs : List ClockState). no_roles c.s.inside.options.seat_rows cs) clocks in
    let count = c.len.ensures ∙ ap (λ (x : Scenario). length x.ports) c.s.view_is in
    let room = ap (λ (r : Reserved PortState). r.spare) c.in_ok-with.ensures in
    let counted = c.len-2.ensures ∙ ap (λ (x : Scenario). length x.clocks) c.s.view_is in
    let more = ap (λ (r : Reserved Notice). r.spare) c.in_ok-with-2.ensures in
    record {
      clocks = c.in_ok-clocks_of.ensures ∙ ap (λ (ps : List PortConf). map (λ (conf : PortConf). conf.clock) ps) (c.items.ensures ∙ ap (λ (x : Scenario). x.ports) c.s.view_is);
      core = c.in_ok-new.ensures.clock;
      sound = c.in_ok-new.ensures.sound;
      ports = c.in_ok-new.ensures.length;
      roles = c.in_ok-new-2.ensures.history s clocks;
      rows = ap (λ (r : RolesView). r.seats.rows) roles ∙ ap (λ (x : Scenario). x.options.seat_rows) c.s.view_is;
      openings = ap (λ (r : RolesView). r.seats.openings) roles;
      stamps = ap (λ (r : RolesView). length r.stamps) roles ∙ length-replicate (length s.clocks) no_stamp;
      places = omega (arith, room, count);
      notices = c.in_ok-new-3.ensures;
      drafts = omega (arith, more, counted);
    }
