-- A text as lines, and a line as words (project).
use Rattle.std.specs.Prelude.{ℕ, Bool, ◌==◌, ◌&&◌, ◌||◌, nat_lt, nat_le, List, map, length}
use Rattle.std.specs.List.{filter, list_all, slice_split}
use Rattle.bstr.specs.Text.{lines_of, without_terminator}

-- the lines of a text: each ends with a newline, which is dropped with one carriage return before
-- it; a last piece without a newline is a line where it isn't empty
abbrev pub lines_of_text : List ℕ → List (List ℕ)
lines_of_text text = map without_terminator (lines_of text)

-- a space or a tab
abbrev pub is_blank : ℕ → Bool
is_blank octet = (octet == 32) || (octet == 9)

-- a word has an octet at least
abbrev pub is_filled : List ℕ → Bool
is_filled word = nat_lt 0 (length word)

-- the words of a line: its pieces between blanks, without the empty ones
abbrev pub words_of : List ℕ → List (List ℕ)
words_of line = filter is_filled (slice_split is_blank line)

-- an octet that may stand in a line that isn't a comment: a tab, a space, or a character of ASCII
-- that shows
abbrev pub is_shown : ℕ → Bool
is_shown octet = (octet == 9) || (nat_le 32 octet && nat_le octet 126)

-- all octets of a line may be shown
abbrev pub is_printable : List ℕ → Bool
is_printable line = list_all is_shown line
