-- The story of a pass, the newest item first: the answers that it was given, and the pages of its
-- meets (project)
use Rattle.std.specs.Prelude.{◌≡◌, ◌≢◌, ℕ, zero, suc, ◌<◌, ◌≤◌, ◌⊎◌, ltb, eqb, List, [], ◌∷◌, ◌++◌, length, Bool, true, false, slice_index_or}
use mathlib.Core.Option.{Option, some, none}
use Rattle.model_clock.specs.Clock.{clock_at}
use Rattle.model_clock.specs.declared.state.ClockState.{ClockState}
use Rattle.ptp_profile.specs.Roles.SeatLogs.{whole_reading}
use Rattle.ptp_profile.specs.declared.seats.LogEntry.{LogEntry}
use Rattle.ptp_profile.specs.declared.seats.LogEntry.TheVariants.{Order, Change}
use Rattle.discipline_seat.specs.declared.view.Owner.{Owner}
use Rattle.discipline_seat.specs.declared.view.StoryItem.{StoryItem}
use Rattle.discipline_seat.specs.declared.view.StoryItem.TheVariants.{GaveReading, GaveReceipt, WasSuperseded, WasSpent, HadPage}
use Rattle.discipline_seat.specs.declared.view.StoryView.{StoryView}
use Rattle.discipline_seat.specs.Rule.SeatLog.{SeatLog, gener_after, ctrl_after, maker_of, Extends}

-- what a pass was answered, and what pages it had
abbrev pub Story : Type 0
Story = List StoryItem

-- ---- items

-- a page, where it says something
abbrev pub page_item : List ℕ → Story
page_item [] = []
page_item (x ∷ xs) = HadPage (x ∷ xs) ∷ []

-- the answer of a reading after the log
abbrev pub reading_item : List ClockState → ℕ → SeatLog → Story
reading_item openings clock log =
    GaveReading clock (whole_reading (clock_at openings clock) log) ∷ []

-- the first where another stamp is in force, the second where the log has no room, else none
abbrev pub refusal_by : Bool → Bool → Bool → StoryItem → StoryItem → Story
refusal_by true true true superseded spent = []
refusal_by true true false superseded spent = spent ∷ []
refusal_by true false room superseded spent = superseded ∷ []
refusal_by false ctrl room superseded spent = superseded ∷ []

-- the answer of a look for a change, where it is a refusal
abbrev pub refusal_found : ℕ → LogEntry → ℕ → SeatLog → Story
refusal_found rows (Order gener ctrl) clock log = []
refusal_found rows (Change gener ctrl tick step freq) clock log =
    refusal_by (eqb (gener_after log) gener) (eqb (ctrl_after log) ctrl) (ltb (length log) rows)
    (WasSuperseded clock gener ctrl tick step freq (gener_after log) (length log))
    (WasSpent clock gener ctrl tick step freq (length log))

-- the receipt of a change with this number
abbrev pub receipt_item : ℕ → Option LogEntry → ℕ → Story
receipt_item clock (some (Change gener ctrl tick step freq)) number =
    GaveReceipt clock gener ctrl tick step freq number ∷ []
receipt_item clock (some (Order gener ctrl)) number = []
receipt_item clock none number = []

-- the refusal of a change after the log
abbrev pub refusal_item : ℕ → Option LogEntry → SeatLog → Story
refusal_item clock (some (Change gener ctrl tick step freq)) log =
    WasSuperseded clock gener ctrl tick step freq (gener_after log) (length log) ∷ []
refusal_item clock (some (Order gener ctrl)) log = []
refusal_item clock none log = []

-- an item that is no page
abbrev pub IsNoPage : StoryItem → Type 0
IsNoPage (GaveReading clock reading) = Unit {0}
IsNoPage (GaveReceipt clock gener ctrl tick step freq number) = Unit {0}
IsNoPage (WasSuperseded clock gener ctrl tick step freq newer at) = Unit {0}
IsNoPage (WasSpent clock gener ctrl tick step freq at) = Unit {0}
IsNoPage (HadPage list) = ⊥

-- no item is a page
abbrev pub HasNoPages : Story → Type 0
HasNoPages [] = Unit {0}
HasNoPages (item ∷ story) = IsNoPage item × HasNoPages story

-- an item that is no receipt
abbrev pub IsNoReceipt : StoryItem → Type 0
IsNoReceipt (GaveReading clock reading) = Unit {0}
IsNoReceipt (GaveReceipt clock gener ctrl tick step freq number) = ⊥
IsNoReceipt (WasSuperseded clock gener ctrl tick step freq newer at) = Unit {0}
IsNoReceipt (WasSpent clock gener ctrl tick step freq at) = Unit {0}
IsNoReceipt (HadPage list) = Unit {0}

-- no item is a receipt
abbrev pub HasNoReceipts : Story → Type 0
HasNoReceipts [] = Unit {0}
HasNoReceipts (item ∷ story) = IsNoReceipt item × HasNoReceipts story

-- ---- stories of which one goes on from the other

-- the later story ends with the earlier one
pub record StoryExtends (old new : Story) : Type 0 where
  pub newer : Story
  pub is : new ≡ newer ++ old

-- the later story ends with the earlier one, and holds no page behind it
pub record GrewWithoutPages (old new : Story) : Type 0 where
  pub newer : Story
  pub is : new ≡ newer ++ old
  pub free : HasNoPages newer

-- the second where the test holds, else the first
abbrev pub one_story : Bool → Story → Story → Story
one_story true a b = b
one_story false a b = a

-- the longer of two
abbrev pub longer_story : Story → Story → Story
longer_story a b = one_story (ltb (length a) (length b)) a b

-- a story at a place, up to which the list grows where it is too short
abbrev pub with_story_at : List Story → ℕ → Story → List Story
with_story_at [] zero story = story ∷ []
with_story_at [] (suc m) story = [] ∷ with_story_at [] m story
with_story_at (first ∷ stories) zero story = story ∷ stories
with_story_at (first ∷ stories) (suc m) story = first ∷ with_story_at stories m story

-- ---- what a view has of stories

-- nothing
abbrev pub no_stories : StoryView
no_stories = record {
  story = [];
  told = [];
  stories = [];
  met = 0;
  was = [];
  note_story = [];
  note_told = [];
}

-- the hub's story of the pass m
abbrev pub story_of : StoryView → ℕ → Story
story_of stories m = slice_index_or stories.stories m []

-- so many items more
abbrev pub with_items : Story → StoryView → StoryView
with_items items stories = record stories { story = items ++ stories.story }

-- the hub's, once it heard a note of the pass m
abbrev pub stories_after_hearing : ℕ → StoryView → StoryView → StoryView
stories_after_hearing m hub note = record hub {
  stories = with_story_at hub.stories m (longer_story (story_of hub m) note.story);
  met = m;
  was = story_of hub m;
  note_story = note.story;
  note_told = note.told;
}

-- the hub's, once it took in the pass m for good
abbrev pub stories_after_closing : ℕ → StoryView → StoryView → StoryView
stories_after_closing m hub pass = record hub {
  stories = with_story_at hub.stories m pass.story;
  met = m;
  was = story_of hub m;
  note_story = pass.story;
  note_told = pass.told;
}

-- those of the pass m, once it learnt from a note of the hub's
abbrev pub stories_after_learning : ℕ → StoryView → StoryView → StoryView
stories_after_learning m pass note =
    record pass { told = longer_story pass.told (story_of note m) }

-- what the hub's last join of a note told of stories: what the note was told is an end of what the
-- hub had, and this and the note's story are ends of what the hub has now
pub record JoinTellsStories (stories : StoryView) : Type 0 where
  pub told : StoryExtends stories.note_told stories.was
  pub former : StoryExtends stories.was (story_of stories stories.met)
  pub theirs : StoryExtends stories.note_story (story_of stories stories.met)

-- ---- what a story says of the logs

-- the log of the item's clock says what the item says, where the clocks opened so
abbrev pub ItemAgrees : List ClockState → (ℕ → SeatLog) → StoryItem → Type 0
ItemAgrees openings logs (GaveReading clock reading) =
    (log : SeatLog) × Extends log (logs clock)
    × (reading ≡ whole_reading (clock_at openings clock) log)
ItemAgrees openings logs (GaveReceipt clock gener ctrl tick step freq number) =
    (log : SeatLog) × Extends (Change gener ctrl tick step freq ∷ log) (logs clock)
    × (number ≡ suc (length log))
ItemAgrees openings logs (WasSuperseded clock gener ctrl tick step freq newer at) =
    (log : SeatLog) × Extends log (logs clock) × (length log ≡ at) × (gener_after log ≡ newer)
    × (gener < newer)
ItemAgrees openings logs (WasSpent clock gener ctrl tick step freq at) =
    (log : SeatLog) × Extends log (logs clock) × (length log ≡ at) × (gener_after log ≡ gener)
    × (ctrl_after log ≡ ctrl)
ItemAgrees openings logs (HadPage list) = Unit {0}

-- each item does
abbrev pub StoryAgrees : List ClockState → (ℕ → SeatLog) → Story → Type 0
StoryAgrees openings logs [] = Unit {0}
StoryAgrees openings logs (item ∷ story) =
    ItemAgrees openings logs item × StoryAgrees openings logs story

-- the numbered entry before the others where the test holds
abbrev pub with_entry_if : Bool → ℕ × LogEntry → List (ℕ × LogEntry) → List (ℕ × LogEntry)
with_entry_if true entry entries = entry ∷ entries
with_entry_if false entry entries = entries

-- the changes of the clock that a story has receipts of, with their numbers
abbrev pub receipts_of : ℕ → Story → List (ℕ × LogEntry)
receipts_of clock [] = []
receipts_of clock (GaveReading at reading ∷ story) = receipts_of clock story
receipts_of clock (GaveReceipt at gener ctrl tick step freq number ∷ story) =
    with_entry_if (eqb at clock) (number, Change gener ctrl tick step freq)
    (receipts_of clock story)
receipts_of clock (WasSuperseded d gener ctrl tick step freq newer at ∷ story) =
    receipts_of clock story
receipts_of clock (WasSpent d gener ctrl tick step freq at ∷ story) = receipts_of clock story
receipts_of clock (HadPage list ∷ story) = receipts_of clock story

-- these are the owner's entries of the log, all and in order, with their numbers
abbrev pub AreEntriesOf : ℕ → Owner → SeatLog → List (ℕ × LogEntry) → Type 0
AreEntriesOf clock owner [] entries = entries ≡ []
AreEntriesOf clock owner (entry ∷ log) entries =
    ((maker_of clock entry ≢ owner) × AreEntriesOf clock owner log entries)
    ⊎ ((maker_of clock entry ≡ owner)
    × ((rest : List (ℕ × LogEntry)) × (entries ≡ (suc (length log), entry) ∷ rest)
    × AreEntriesOf clock owner log rest))

-- no answer about the clock has a number above n
abbrev pub HasNoneAbove : ℕ → ℕ → Story → Type 0
HasNoneAbove clock n [] = Unit {0}
HasNoneAbove clock n (GaveReading at reading ∷ story) =
    (at ≡ clock → reading.number ≤ n) × HasNoneAbove clock n story
HasNoneAbove clock n (GaveReceipt at gener ctrl tick step freq number ∷ story) =
    (at ≡ clock → number ≤ n) × HasNoneAbove clock n story
HasNoneAbove clock n (WasSuperseded d gener ctrl tick step freq newer at ∷ story) =
    (d ≡ clock → at ≤ n) × HasNoneAbove clock n story
HasNoneAbove clock n (WasSpent d gener ctrl tick step freq at ∷ story) =
    (d ≡ clock → at ≤ n) × HasNoneAbove clock n story
HasNoneAbove clock n (HadPage list ∷ story) = HasNoneAbove clock n story

-- the numbers of a clock never fall, and a receipt's is above all former ones
abbrev pub NumbersRise : Story → Type 0
NumbersRise [] = Unit {0}
NumbersRise (GaveReading clock reading ∷ story) =
    HasNoneAbove clock reading.number story × NumbersRise story
NumbersRise (GaveReceipt clock gener ctrl tick step freq number ∷ story) =
    ((m : ℕ) × (number ≡ suc m) × HasNoneAbove clock m story) × NumbersRise story
NumbersRise (WasSuperseded clock gener ctrl tick step freq newer at ∷ story) =
    HasNoneAbove clock at story × NumbersRise story
NumbersRise (WasSpent clock gener ctrl tick step freq at ∷ story) =
    HasNoneAbove clock at story × NumbersRise story
NumbersRise (HadPage list ∷ story) = NumbersRise story

-- an item, no receipt, whose number is the length of its clock's log
abbrev pub IsOfWholeLog : (ℕ → SeatLog) → StoryItem → Type 0
IsOfWholeLog logs (GaveReading clock reading) = reading.number ≡ length (logs clock)
IsOfWholeLog logs (GaveReceipt clock gener ctrl tick step freq number) = ⊥
IsOfWholeLog logs (WasSuperseded clock gener ctrl tick step freq newer at) =
    at ≡ length (logs clock)
IsOfWholeLog logs (WasSpent clock gener ctrl tick step freq at) = at ≡ length (logs clock)
IsOfWholeLog logs (HadPage list) = Unit {0}

-- at most one item, and that is so
abbrev pub IsAnswerOfLook : (ℕ → SeatLog) → Story → Type 0
IsAnswerOfLook logs [] = Unit {0}
IsAnswerOfLook logs (item ∷ []) = IsOfWholeLog logs item
IsAnswerOfLook logs (item ∷ other ∷ story) = ⊥
