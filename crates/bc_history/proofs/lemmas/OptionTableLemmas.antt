-- The table has each option by its name, and the defaults that the definitions take.
use Rattle.std.proofs.Common.{◌≡◌, ℕ, zero, suc, ◌+◌, List, [], ◌∷◌, Some, refl, ◌∙◌, ap, arith, rules}
use Rattle.std.specs.Prelude.{slice_get, option_map}
use Rattle.ptp_base.specs.declared.port_conf.PortConf.{PortConf}
use Rattle.model_clock.specs.declared.state.ClockState.{ClockState}
use Rattle.bc_history.specs.Scenario.OptionTable.{Row, PlacedRow, option_table, row_of, option_named, with_defaults, with_port_defaults, with_clock_defaults}
use Rattle.bc_history.specs.Scenario.Defaults.{default_options, plain_port}
use Rattle.model_clock.specs.Clock.{plain_clock}
use Rattle.bc_history.specs.declared.scenario.Options.{Options}

-- the rows, the first of which has this number, are each named by its name
abbrev AreNamedFrom : ℕ → List PlacedRow → Type 0
AreNamedFrom number [] = Unit {0}
AreNamedFrom number (p ∷ rest) = (option_named p.row.scope p.row.name ≡ Some number) × AreNamedFrom (suc number) rest

all_named : AreNamedFrom 0 option_table
all_named = search rules

named_from : (number : ℕ) (rows : List PlacedRow) (n : ℕ) (row : Row) → AreNamedFrom number rows → option_map (λ (p : PlacedRow). p.row) (slice_get rows n) ≡ Some row
    → option_named row.scope row.name ≡ Some (number + n)
named_from number [] n row h e = cc
named_from number (p ∷ rest) zero row h e =
    let same : p.row ≡ row = cc in
    let here : number ≡ number + 0 = omega arith in
    rw same at (h.0 ∙ ap Some here)
named_from number (p ∷ rest) (suc n) row h e =
    let there : suc number + n ≡ number + suc n = omega arith in
    named_from (suc number) rest n row h.1 e ∙ ap Some there

pub named : (number : ℕ) (row : Row) → row_of number ≡ Some row → option_named row.scope row.name ≡ Some number
named number row e = let whole : 0 + number ≡ number = omega arith in named_from 0 option_table number row all_named e ∙ ap Some whole

pub options_default : (o : Options) → with_defaults o ≡ default_options
options_default o = refl

pub ports_default : (p : PortConf) → with_port_defaults p ≡ record plain_port { clock = p.clock }
ports_default p = refl

pub clocks_default : (c : ClockState) → with_clock_defaults c ≡ record plain_clock { tick = c.tick; freq = c.freq }
clocks_default c = refl
