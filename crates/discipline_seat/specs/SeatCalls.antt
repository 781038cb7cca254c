-- What the calls on the seats promise, of a view before and after (project)
use Rattle.std.specs.Prelude.{◌≡◌, ◌≢◌, ℕ, ℤ, suc, ◌<◌, ◌≤◌, List, [], ◌∷◌, ◌++◌, length, slice_index_or, slice_set, Result, Ok, Err}
use Rattle.seat_word.specs.declared.word.Word.{Word}
use Rattle.atomic_table.specs.Seated.{TableId}
use Rattle.atomic_table.specs.Table.{Me}
use Rattle.model_clock.specs.declared.state.ClockState.{ClockState}
use Rattle.ptp_profile.specs.Roles.SeatLogs.{order_count, stamp_after}
use Rattle.ptp_profile.specs.declared.seats.LogEntry.{LogEntry}
use Rattle.ptp_profile.specs.declared.seats.LogEntry.TheVariants.{Change}
use Rattle.ptp_profile.specs.declared.seats.Receipt.{Receipt}
use Rattle.ptp_profile.specs.declared.seats.Refused.{Refused}
use Rattle.ptp_profile.specs.declared.seats.Refused.TheVariants.{Superseded, Spent}
use Rattle.discipline_seat.specs.declared.view.Owner.TheVariants.{Hub}
use Rattle.discipline_seat.specs.declared.view.StoryItem.TheVariants.{GaveReceipt, WasSuperseded, WasSpent}
use Rattle.discipline_seat.specs.declared.view.StoryView.{StoryView}
use Rattle.discipline_seat.specs.declared.view.View.{View}
use Rattle.discipline_seat.specs.SeatValue.{SeatValue, Belongs}
use Rattle.discipline_seat.specs.Rule.SeatLog.{SeatLog, gener_after, ctrl_after, last_change, IsSeatLog, Extends, GrewByOthers, pass_owner}
use Rattle.discipline_seat.specs.Rule.Story.{Story, StoryExtends, longer_story, story_of}
use Rattle.discipline_seat.specs.Rule.SeatView.{IsPassView, seen_log, after_look, with_more_story}

-- ---- looks

-- the word shows the log
pub record IsWordOf (x : Word) (log : SeatLog) : Type 0 where
  pub gener : x.gener ≡ gener_after log
  pub ctrl : x.ctrl ≡ ctrl_after log
  pub number : x.number ≡ length log
  pub row : x.row ≡ last_change log
  pub small_gener : x.gener < 262144
  pub small_number : x.number < 524288
  pub small_row : x.row < 524288

-- the whole log was seen, of which this is the word, and the story grew by what `says` makes of it
pub record LookYields (rows : ℕ) (says : ℕ → SeatLog → Story) (old : View) (clock : ℕ)
    (x : Word) (new : View) : Type 0 where
  pub is : new ≡ with_more_story (after_look old clock (seen_log new clock))
      (says clock (seen_log new clock))
  pub grew : GrewByOthers clock old.owner (seen_log old clock) (seen_log new clock)
  pub word : IsWordOf x (seen_log new clock)
  pub lawful : IsSeatLog rows (seen_log new clock)

-- more of the clock's log was seen, of which nothing is the owner's own, and nothing else
pub record SawLog (old : View) (clock : ℕ) (new : View) : Type 0 where
  pub is : new.seen ≡ slice_set old.seen clock (seen_log new clock)
  pub grew : GrewByOthers clock old.owner (seen_log old clock) (seen_log new clock)
  pub owner : new.owner ≡ old.owner

-- nothing was seen of other clocks
pub record LeavesOthers (old : View) (clock : ℕ) (new : View) : Type 0 where
  pub owner : new.owner ≡ old.owner
  pub others : (other : ℕ) → other ≢ clock → seen_log new other ≡ seen_log old other
  pub wide : length new.seen ≡ length old.seen

-- ---- adjustments and orders

-- the entry stands at its number of the log, behind all that was seen, of which what is new is
-- none of the owner's
pub record EntryAdded (old : View) (clock : ℕ) (entry : LogEntry) (n : ℕ)
    (new : View) : Type 0 where
  pub log : SeatLog
  pub is : seen_log new clock ≡ entry ∷ log
  pub number : n ≡ suc (length log)
  pub grew : GrewByOthers clock old.owner (seen_log old clock) log

-- a generation newer than the held one is in force
pub record WasOvertaken (old : View) (clock held : ℕ) (x : Word) (new : View) : Type 0 where
  pub newer : held < x.gener
  pub gener : x.gener ≡ gener_after (seen_log new clock)
  pub number : x.number ≡ length (seen_log new clock)
  pub grew : GrewByOthers clock old.owner (seen_log old clock) (seen_log new clock)

-- what a refusal says of the log that was then seen: a newer generation is in force, or the held
-- stamp is and the log has as many entries as it may have
abbrev pub RefusalYields : View → ℕ → ℕ → ℕ → ℕ → Refused → View → Type 0
RefusalYields old clock gener ctrl rows (Superseded newer at) new =
    (gener < newer) × (newer ≡ gener_after (seen_log new clock))
    × (at ≡ length (seen_log new clock))
    × GrewByOthers clock old.owner (seen_log old clock) (seen_log new clock)
RefusalYields old clock gener ctrl rows (Spent at) new =
    (gener ≡ gener_after (seen_log new clock)) × (ctrl ≡ ctrl_after (seen_log new clock))
    × (at ≡ length (seen_log new clock)) × (rows ≤ at)
    × GrewByOthers clock old.owner (seen_log old clock) (seen_log new clock)

-- an adjustment adds its change, or is refused so
abbrev pub AdjustYields : View → ℕ → ℕ → ℕ → ℕ → ℤ → ℤ → ℕ → Result Receipt Refused → View
    → Type 0
AdjustYields old clock gener ctrl tick step freq rows (Ok receipt) new =
    EntryAdded old clock (Change gener ctrl tick step freq) receipt.number new
AdjustYields old clock gener ctrl tick step freq rows (Err refused) new =
    RefusalYields old clock gener ctrl rows refused new

-- its answer as an item of a story
abbrev pub adjust_item : ℕ → ℕ → ℕ → ℕ → ℤ → ℤ → Result Receipt Refused → Story
adjust_item clock gener ctrl tick step freq (Ok receipt) =
    GaveReceipt clock gener ctrl tick step freq receipt.number ∷ []
adjust_item clock gener ctrl tick step freq (Err (Superseded newer at)) =
    WasSuperseded clock gener ctrl tick step freq newer at ∷ []
adjust_item clock gener ctrl tick step freq (Err (Spent at)) =
    WasSpent clock gener ctrl tick step freq at ∷ []

-- ---- meets

-- no order was seen that was not seen before: the hub's seat has made each
pub record HasSameOrders (old new : SeatLog) : Type 0 where
  pub stamp : stamp_after new ≡ stamp_after old
  pub count : order_count new ≡ order_count old

-- a pass's seat, whatever its story
pub record IsPassSeat (m : Me LogEntry View) : Type 0 where
  pub no_slots : m.1 ≡ []
  pub wide : length m.0.seen ≡ length m.0.openings
  pub pass : IsPassView m.0

-- the hub's story of the pass m is this one, and the others are as before
pub record StoryTold (old : StoryView) (m : ℕ) (story : Story) (new : StoryView) : Type 0 where
  pub here : story_of new m ≡ story
  pub others : (n : ℕ) → n ≢ m → story_of new n ≡ story_of old n

-- the hub's view heard a note of the pass's
pub record HearYields (hub pass new : View) : Type 0 where
  pub now : StoryTold hub.stories pass.number
      (longer_story (story_of hub.stories pass.number) pass.stories.story) new.stories
  pub told : StoryExtends pass.stories.told (story_of hub.stories pass.number)
  pub former : StoryExtends (story_of hub.stories pass.number)
      (story_of new.stories pass.number)
  pub theirs : StoryExtends pass.stories.story (story_of new.stories pass.number)

-- the pass's view learnt from a note of the hub's
pub record LearnYields (pass hub new : View) : Type 0 where
  pub owner : new.owner ≡ pass.owner
  pub number : new.number ≡ pass.number
  pub story : new.stories.story ≡ pass.stories.story
  pub now : new.stories.told
      ≡ longer_story pass.stories.told (story_of hub.stories pass.number)
  pub told : StoryExtends new.stories.told new.stories.story
  pub grew : (clock : ℕ) →
      GrewByOthers clock pass.owner (seen_log pass clock) (seen_log new clock)

-- a round, in which so much was put at the end of the pass's story
pub record RoundYields (items : Story) (hub pass hub_now pass_now : View) : Type 0 where
  pub owner : pass_now.owner ≡ pass.owner
  pub number : pass_now.number ≡ pass.number
  pub story : pass_now.stories.story ≡ items ++ pass.stories.story
  pub level : pass_now.stories.told ≡ pass_now.stories.story
  pub now : StoryTold hub.stories pass.number pass_now.stories.story hub_now.stories
  pub told : StoryExtends pass.stories.told (story_of hub.stories pass.number)
  pub former : StoryExtends (story_of hub.stories pass.number) pass_now.stories.story
  pub grew : (clock : ℕ) →
      GrewByOthers clock pass.owner (seen_log pass clock) (seen_log pass_now clock)

-- of a clock's log both have seen the same, and neither less than before
abbrev pub MeetYields : SeatLog → SeatLog → SeatLog → SeatLog → Type 0
MeetYields hub pass hub_now pass_now =
    Extends hub hub_now × Extends pass hub_now × (pass_now ≡ hub_now)

-- ---- a new table

-- the hub's seat made so many passes; it has ordered and seen nothing, and was told nothing
pub record IsNewHub (ports : ℕ) (view : View) (made : ℕ) : Type 0 where
  pub owner : view.owner ≡ Hub
  pub stories : view.stories.stories ≡ []
  pub ports_are : view.ports ≡ ports
  pub passes : view.passes ≡ made
  pub nothing : (clock : ℕ) → seen_log view clock ≡ []

-- the pass m, which has seen nothing, with an empty story
pub record IsNewPass (table : TableId) (openings : List ClockState) (ports m : ℕ)
    (pass : SeatValue) : Type 0 where
  pub belongs : Belongs table openings pass
  pub owner : pass.view.owner ≡ pass_owner ports m
  pub number : pass.view.number ≡ m
  pub nothing : (clock : ℕ) → seen_log pass.view clock ≡ []
  pub story : pass.view.stories.story ≡ []

-- these are the new passes, in order
abbrev pub AreNewPasses : TableId → List ClockState → ℕ → List SeatValue → Type 0
AreNewPasses table openings ports passes =
    (m : ℕ) (other : SeatValue) → m < length passes →
    IsNewPass table openings ports m (slice_index_or passes m other)
