-- The text of a query: words, parted by one space each (project).
use Rattle.std.specs.Prelude.{ℕ, ◌≤◌, List, length, All}
use Rattle.ptp_management.specs.ManagementQueries.{words_of}
use Rattle.bc_history.specs.Scenario.OptionTable.{IsFrom}

-- a word: one or more printable octets, no space among them
pub record IsWord (word : List ℕ) : Type 0 where
  pub length : 1 ≤ length word
  pub printable : All (λ (octet : ℕ). IsFrom 0x21 0x7E octet) word

-- the text of a query: one or more words, parted by one space each
abbrev pub IsQueryText : List ℕ → Type 0
IsQueryText text = All IsWord (words_of text)
