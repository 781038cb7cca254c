-- The words that the program takes, and the commands that they name.
use Rattle.std.specs.Prelude.{ℕ, ◌^◌, ◌&&◌, nat_lt, if◌then◌else◌, List, [], ◌∷◌, Option, Some, None, option_map, codes, find}
use Rattle.std.specs.Str.{bytes_eq}
use Rattle.std.specs.Str.Parse.{digits_value}
use Rattle.text_io.specs.Numerals.{is_numeral}
use Rattle.bc_top.specs.declared.words.Command.{Command}
use Rattle.bc_top.specs.declared.words.Command.TheVariants.{Replay, Run, Gen}

-- the first word of a command
abbrev pub word_of : Command → List ℕ
word_of Replay = codes "replay"
word_of Run = codes "run"
word_of (Gen n) = codes "gen"

-- the number of a scenario: 1 to 10 decimal digits, leading zeros allowed, and at most 4,294,967,295
abbrev pub scenario_number : List ℕ → Option ℕ
scenario_number word =
    if is_numeral 10 10 word && nat_lt (digits_value 10 word) (2 ^ 32)
    then Some (digits_value 10 word)
    else None

-- by one word the one of these commands whose word it is; by two words `gen` of a number
abbrev pub command_named : List Command → List (List ℕ) → Option Command
command_named commands (word ∷ []) = find (λ command. bytes_eq word (word_of command)) commands
command_named commands (word ∷ number ∷ []) =
    if bytes_eq word (codes "gen") then option_map (λ n. Gen n) (scenario_number number) else None
command_named commands words = None

-- the command that the words name, of those that `offline` takes
abbrev pub offline_command : List (List ℕ) → Option Command
offline_command words = command_named (Replay ∷ []) words

-- the command that the words name, of those that `top` takes
abbrev pub top_command : List (List ℕ) → Option Command
top_command words = command_named (Replay ∷ Run ∷ []) words
