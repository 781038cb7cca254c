-- What options set, before any is set.
use Rattle.std.specs.Prelude.{pos}
use Rattle.bc_history.specs.declared.scenario.TheConstants.{NO_OPTIONS}
use Rattle.bc_config.specs.declared.table.Settings.{Settings}

-- options of the whole, of a port and of a clock, each at 0
abbrev pub no_settings : Settings
no_settings = record {
  options = NO_OPTIONS;
  port =
      record
      { clock = 0; log_announce = pos 0; log_sync = pos 0; log_delay = pos 0; receipt = 0 };
  clock = record { tick = 0; time = pos 0; freq = pos 0; drift = pos 0 };
}
