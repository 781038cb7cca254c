-- Values that are in their option's range.
use Rattle.std.specs.Prelude.{ℕ, ℤ, ◌≤◌, ◌≤ℤ◌, Option, Some, None}
use Rattle.bc_history.specs.Scenario.OptionTable.{Row, row_of}
use Rattle.bc_history.specs.declared.option.Form.{Form}
use Rattle.bc_history.specs.declared.option.Form.TheVariants.{Decimal, Hex, Seconds, Signed, Identity}

-- the value is no less than the least and no more than the greatest of a row
abbrev pub IsInRowRange : Row → ℤ → Type 0
IsInRowRange row value = (row.least ≤ℤ value) × (value ≤ℤ row.most)

-- the row's range lies between two values
abbrev pub HasRange : (least most : ℤ) → Row → Type 0
HasRange least most row = (least ≤ℤ row.least) × (row.most ≤ℤ most)

-- there is a row, and the value is in its range
abbrev pub IsInRowOf : Option Row → ℤ → Type 0
IsInRowOf None value = ⊥
IsInRowOf (Some row) value = IsInRowRange row value

-- the table has the option, and the value is in its range
abbrev pub IsInRange : (number : ℕ) → ℤ → Type 0
IsInRange number value = IsInRowOf (row_of number) value

-- hex digits are at most so many as a u64 has room for
abbrev pub HasRoom : Form → Type 0
HasRoom (Hex most) = most ≤ 16
HasRoom Decimal = Unit {0}
HasRoom Seconds = Unit {0}
HasRoom Signed = Unit {0}
HasRoom Identity = Unit {0}
