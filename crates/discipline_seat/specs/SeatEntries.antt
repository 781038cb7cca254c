-- The entries that a seat made, as it keeps them (project)
use Rattle.std.specs.Prelude.{◌≡◌, ℕ, ◌-◌, ◌<◌, ◌≤◌, eqb, max, List, [], ◌∷◌, reverse, slice_set}
use Rattle.ptp_profile.specs.declared.seats.LogEntry.{LogEntry}
use Rattle.discipline_seat.specs.declared.entries.Numbered.{Numbered}
use Rattle.discipline_seat.specs.declared.view.Owner.TheVariants.{Hub}
use Rattle.discipline_seat.specs.declared.view.View.{View}
use Rattle.discipline_seat.specs.Rule.SeatView.{seen_log}
use Rattle.discipline_seat.specs.Rule.Story.{AreEntriesOf, receipts_of, with_entry_if}

-- those of a clock, with their numbers
abbrev pub entries_at : ℕ → List Numbered → List (ℕ × LogEntry)
entries_at clock [] = []
entries_at clock (first ∷ entries) =
    with_entry_if (eqb first.clock clock) (first.number, first.entry) (entries_at clock entries)

-- a pass keeps, the oldest first, the changes that its story has receipts of
abbrev pub KeepsReceipts : List Numbered → View → Type 0
KeepsReceipts entries view = (clock : ℕ) →
    entries_at clock (reverse entries) ≡ receipts_of clock view.stories.story

-- the hub's seat keeps, the oldest first, all orders of the logs
abbrev pub KeepsOrders : List Numbered → View → Type 0
KeepsOrders entries view = (clock : ℕ) →
    AreEntriesOf clock Hub (seen_log view clock) (entries_at clock (reverse entries))

-- ---- entries and the places that they have in a log

-- the largest of a number and those of the entries
abbrev pub most_of : ℕ → List (ℕ × LogEntry) → ℕ
most_of least [] = least
most_of least (first ∷ entries) = max first.0 (most_of least entries)

-- each number is one of so many places, which count from 1
abbrev pub AreWithin : ℕ → List (ℕ × LogEntry) → Type 0
AreWithin places [] = Unit {0}
AreWithin places (first ∷ entries) =
    (0 < first.0) × (first.0 ≤ places) × AreWithin places entries

-- the places, the first of which is that of number 1, with each entry at the one of its number
abbrev pub placed : List (ℕ × LogEntry) → List LogEntry → List LogEntry
placed [] places = places
placed (first ∷ entries) places = slice_set (placed entries places) (first.0 - 1) first.1
