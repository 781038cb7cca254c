-- The text of a made scenario (project).
use Rattle.std.specs.Prelude.{ℕ, ℤ, ◌-◌, ◌%◌, List, codes}
use Rattle.std.specs.Fmt.{decimal, signed_decimal}
use Rattle.std.specs.List.{flat_map, range_with_len}
use Rattle.hex.specs.Hex.{encode_lower}
use Rattle.ptp_profile.specs.Port.PrintedNames.{◌<>◌}
use Rattle.ptp_profile.specs.Wire.MessageFormat.{message_octets}
use Rattle.bc_gen.specs.declared.records.MadeRecord.{MadeRecord}
use Rattle.bc_gen.specs.MadeNumbers.{made_drift}
use Rattle.bc_gen.specs.MadeRecords.{made_records}

-- `[global]` and its options
abbrev pub global_text : List ℕ
global_text = codes "[global]\nboundary_clock_jbod 1\nduration 640\n"

-- the section of a clock, by its number and its drift in ppb
unfoldable pub clock_section : ℕ → ℤ → List ℕ
clock_section c drift =
    codes "[clock " <> decimal c <> codes "]\ntime 0\ndrift " <> signed_decimal drift <> codes "\n"

-- the section of clock c of scenario n
abbrev pub clock_text : ℕ → ℕ → List ℕ
clock_text n c = clock_section c (made_drift n c)

-- the header of port p, from 1 on: the ports are dealt to the 16 clocks in turn
unfoldable pub port_header : ℕ → List ℕ
port_header p =
    codes "[port " <> decimal p <> codes " clock " <> decimal ((p - 1) % 16) <> codes "]\n"

-- the line of a record
unfoldable pub record_line : MadeRecord → List ℕ
record_line r =
    decimal r.tick <> codes " " <> decimal r.port <> codes " " <> encode_lower
    (message_octets r.message) <> codes "\n"

-- the lines of records
abbrev pub record_lines : List MadeRecord → List ℕ
record_lines records = flat_map record_line records

-- the sections of the 16 clocks
abbrev pub clock_texts : ℕ → List ℕ
clock_texts n = flat_map (clock_text n) (range_with_len 0 16)

-- the headers of the 32 ports
abbrev pub port_headers : List ℕ
port_headers = flat_map port_header (range_with_len 1 32)

-- the lines of the records of master e of scenario n
abbrev pub master_text : ℕ → ℕ → List ℕ
master_text n e = record_lines (made_records n e)

-- those of the 32 masters
abbrev pub master_texts : ℕ → List ℕ
master_texts n = flat_map (master_text n) (range_with_len 0 32)

-- the text of scenario n
unfoldable pub made_text : ℕ → List ℕ
made_text n =
    global_text <> clock_texts n <> port_headers <> codes "[records]\n" <> master_texts n
