-- What an option sets stays in its range.
use Rattle.std.proofs.Common.{◌≡◌, ℕ, zero, suc, ℤ, pos, negsuc, true, ◌&&◌, List, [], ◌∷◌, Option, Some, None, refl, ◌∙◌, ap, arith, rules}
use Rattle.std.specs.Prelude.{◌*ℤ◌, int_le, nat_abs, slice_get, option_map}
use Rattle.std.specs.Option.{option_map_or}
use Rattle.std.proofs.lemmas.Bool.{and_parts}
use Rattle.std.proofs.lemmas.Int.{ints}
use Rattle.ptp_base.specs.declared.port_conf.PortConf.{PortConf}
use Rattle.model_clock.specs.declared.state.ClockState.{ClockState}
use Rattle.bc_history.specs.declared.scenario.Options.{Options}
use Rattle.bc_history.specs.Scenario.OptionTable.{Row, PlacedRow, IsFrom, IsBetween, EachRow, OptionIsFrom, PortOptionIsFrom, ClockOptionIsFrom, option_table, placed_row, row_of, is_in_range, options_with, port_with, clock_with, with_option, with_port_option, with_clock_option}
use Rattle.model_clock.specs.Clock.{plain_clock}
use Rattle.bc_history.specs.Scenario.Defaults.{default_options, plain_port}
use Rattle.bc_history.specs.Scenario.ScenarioRules.{AreOptions, IsPortConf, IsOpeningClock}

-- ---- each row

-- a fact of each row is one of the row with a number
pub row_at : (P : PlacedRow → Type 0) (rows : List PlacedRow) (n : ℕ) (p : PlacedRow) → EachRow P rows → slice_get rows n ≡ Some p → P p
row_at P [] n p h e = cc
row_at P (first ∷ rest) zero p h e = let same : first ≡ p = cc in rw same at h.0
row_at P (first ∷ rest) (suc n) p h e = row_at P rest n p h.1 e

-- with a value in range, a row's own option is in its range, whatever stood before: its field holds what is put in it
abbrev OptionHolds : PlacedRow → Type 0
OptionHolds p = (value : ℤ) (o : Options) → is_in_range p.row value ≡ true → OptionIsFrom (options_with p.place value o) p

abbrev PortOptionHolds : PlacedRow → Type 0
PortOptionHolds p = (value : ℤ) (conf : PortConf) → is_in_range p.row value ≡ true → PortOptionIsFrom (port_with p.place value conf) p

abbrev ClockOptionHolds : PlacedRow → Type 0
ClockOptionHolds p = (value : ℤ) (c : ClockState) → is_in_range p.row value ≡ true → ClockOptionIsFrom (clock_with p.place value c) p

between : (least most value : ℤ) → (int_le least value && int_le value most) ≡ true → IsBetween least most value
between least most value e =
    let p : (int_le least value ≡ true) × (int_le value most ≡ true) = and_parts (int_le least value) (int_le value most) e in
    (grind (arith, ints, p.0), grind (arith, ints, p.1))

from : (least most : ℕ) (value : ℤ) → (int_le (pos least) value && int_le value (pos most)) ≡ true → IsFrom least most (nat_abs value)
from least most (pos n) e =
    let p : IsBetween (pos least) (pos most) (pos n) = between (pos least) (pos most) (pos n) e in
    (omega (arith, ints, p.0), omega (arith, ints, p.1))
from least most (negsuc n) e =
    let p : IsBetween (pos least) (pos most) (negsuc n) = between (pos least) (pos most) (negsuc n) e in
    absurd (omega (arith, ints, p.0))

multiple : (value : ℤ) → (int_le (negsuc 9999999) value && int_le value (pos 10000000)) ≡ true
    → IsBetween (negsuc 9999999 *ℤ pos 65536) (pos 10000000 *ℤ pos 65536) (value *ℤ pos 65536)
multiple (pos n) e = let p : IsBetween (negsuc 9999999) (pos 10000000) (pos n) = between (negsuc 9999999) (pos 10000000) (pos n) e in (omega (arith, ints, p.0), omega (arith, ints, p.1))
multiple (negsuc n) e = let p : IsBetween (negsuc 9999999) (pos 10000000) (negsuc n) = between (negsuc 9999999) (pos 10000000) (negsuc n) e in (omega (arith, ints, p.0), omega (arith, ints, p.1))

options_hold : EachRow OptionHolds option_table
options_hold = search (rules, from, between)

ports_hold : EachRow PortOptionHolds option_table
ports_hold = search (rules, from, between)

clocks_hold : EachRow ClockOptionHolds option_table
clocks_hold = search (rules, from, between, multiple)

-- what is put in a row's field leaves the options of other rows in their ranges
abbrev OptionKeeps : PlacedRow → PlacedRow → Type 0
OptionKeeps p other = (value : ℤ) (o : Options) → OptionIsFrom (options_with p.place value o) p → OptionIsFrom o other → OptionIsFrom (options_with p.place value o) other

abbrev PortOptionKeeps : PlacedRow → PlacedRow → Type 0
PortOptionKeeps p other = (value : ℤ) (conf : PortConf) → PortOptionIsFrom (port_with p.place value conf) p → PortOptionIsFrom conf other → PortOptionIsFrom (port_with p.place value conf) other

abbrev ClockOptionKeeps : PlacedRow → PlacedRow → Type 0
ClockOptionKeeps p other = (value : ℤ) (c : ClockState) → ClockOptionIsFrom (clock_with p.place value c) p → ClockOptionIsFrom c other → ClockOptionIsFrom (clock_with p.place value c) other

options_keep : EachRow (λ p. EachRow (OptionKeeps p) option_table) option_table
options_keep = search rules

ports_keep : EachRow (λ p. EachRow (PortOptionKeeps p) option_table) option_table
ports_keep = search rules

clocks_keep : EachRow (λ p. EachRow (ClockOptionKeeps p) option_table) option_table
clocks_keep = search rules

-- what two facts of each row give of each row
each_row : (P Q R : PlacedRow → Type 0) → ((p : PlacedRow) → P p → Q p → R p) → (rows : List PlacedRow) → EachRow P rows → EachRow Q rows → EachRow R rows
each_row P Q R step [] h k = tt
each_row P Q R step (p ∷ rest) h k = (step p h.0 k.0, each_row P Q R step rest h.1 k.1)

-- no option sets at which tick and pace a clock begins
abbrev ClockBegins : PlacedRow → Type 0
ClockBegins p = (value : ℤ) (c : ClockState) → ((clock_with p.place value c).tick ≡ c.tick) × ((clock_with p.place value c).freq ≡ c.freq)

clocks_begin : EachRow ClockBegins option_table
clocks_begin = search rules

-- nor which clock a port is on
abbrev PortStays : PlacedRow → Type 0
PortStays p = (value : ℤ) (conf : PortConf) → (port_with p.place value conf).clock ≡ conf.clock

ports_stay : EachRow PortStays option_table
ports_stay = search rules

-- ---- options by their numbers

-- a value is in the range of an option's row
abbrev pub IsInRow : ℕ → ℤ → Type 0
IsInRow number value = (row : Row) → row_of number ≡ Some row → is_in_range row value ≡ true

in_placed : (number : ℕ) (value : ℤ) (p : PlacedRow) → IsInRow number value → placed_row number ≡ Some p → is_in_range p.row value ≡ true
in_placed number value p good e = good p.row (ap (option_map (λ (q : PlacedRow). q.row)) e)

pub keeps_option : (number : ℕ) (value : ℤ) (o : Options) → IsInRow number value → AreOptions o → AreOptions (with_option number value o)
keeps_option number value o good h = by (placed_row number) refl
  where
    by : (found : Option PlacedRow) → placed_row number ≡ found → AreOptions (option_map_or (λ (p : PlacedRow). options_with p.place value o) found o)
    by None e = h
    by (Some p) e =
        let own : OptionIsFrom (options_with p.place value o) p = row_at OptionHolds option_table number p options_hold e value o (in_placed number value p good e) in
        each_row (OptionKeeps p) (OptionIsFrom o) (OptionIsFrom (options_with p.place value o)) (λ q keep was. keep value o own was) option_table
        (row_at (λ r. EachRow (OptionKeeps r) option_table) option_table number p options_keep e) h

pub keeps_port : (number : ℕ) (value : ℤ) (conf : PortConf) → IsInRow number value → IsPortConf conf → IsPortConf (with_port_option number value conf)
keeps_port number value conf good h = by (placed_row number) refl
  where
    by : (found : Option PlacedRow) → placed_row number ≡ found → IsPortConf (option_map_or (λ (p : PlacedRow). port_with p.place value conf) found conf)
    by None e = h
    by (Some p) e =
        let own : PortOptionIsFrom (port_with p.place value conf) p = row_at PortOptionHolds option_table number p ports_hold e value conf (in_placed number value p good e) in
        each_row (PortOptionKeeps p) (PortOptionIsFrom conf) (PortOptionIsFrom (port_with p.place value conf)) (λ q keep was. keep value conf own was) option_table
        (row_at (λ r. EachRow (PortOptionKeeps r) option_table) option_table number p ports_keep e) h

pub keeps_clock : (number : ℕ) (value : ℤ) (c : ClockState) → IsInRow number value → IsOpeningClock c → IsOpeningClock (with_clock_option number value c)
keeps_clock number value c good h = by (placed_row number) refl
  where
    by : (found : Option PlacedRow) → placed_row number ≡ found → IsOpeningClock (option_map_or (λ (p : PlacedRow). clock_with p.place value c) found c)
    by None e = h
    by (Some p) e =
        let own : ClockOptionIsFrom (clock_with p.place value c) p = row_at ClockOptionHolds option_table number p clocks_hold e value c (in_placed number value p good e) in
        let begins : ((clock_with p.place value c).tick ≡ c.tick) × ((clock_with p.place value c).freq ≡ c.freq) = row_at ClockBegins option_table number p clocks_begin e value c in
        record {
          tick = begins.0 ∙ h.tick;
          freq = begins.1 ∙ h.freq;
          options = each_row (ClockOptionKeeps p) (ClockOptionIsFrom c) (ClockOptionIsFrom (clock_with p.place value c)) (λ q keep was. keep value c own was) option_table
              (row_at (λ r. EachRow (ClockOptionKeeps r) option_table) option_table number p clocks_keep e) h.options;
        }

pub port_stays : (number : ℕ) (value : ℤ) (conf : PortConf) → (with_port_option number value conf).clock ≡ conf.clock
port_stays number value conf = by (placed_row number) refl
  where
    by : (found : Option PlacedRow) → placed_row number ≡ found → (option_map_or (λ (p : PlacedRow). port_with p.place value conf) found conf).clock ≡ conf.clock
    by None e = refl
    by (Some p) e = row_at PortStays option_table number p ports_stay e value conf

-- ---- what stands where a text names no option

pub defaults_in_range : AreOptions default_options
defaults_in_range = search rules

pub plain_port_rule : IsPortConf plain_port
plain_port_rule = search rules

no_drift : (value : ℤ) × (pos 0 ≡ value *ℤ pos 65536)
no_drift = (pos 0, refl)

pub plain_clock_rule : IsOpeningClock plain_clock
plain_clock_rule = record { tick = refl; freq = refl; options = search (rules, no_drift) }
