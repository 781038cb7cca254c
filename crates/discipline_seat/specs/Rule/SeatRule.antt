-- The rule of the seats: what holds of the table's words and of all views between any two steps
-- (project)
use Rattle.std.specs.Prelude.{◌≡◌, ◌≢◌, ℕ, ℤ, ◌+◌, ◌*◌, ◌<◌, ◌≤◌, List, [], ◌∷◌, length, slice_index}
use mathlib.Core.Option.{some}
use lib.ListN.{get_elem?}
use Rattle.model_clock.specs.Clock.{clock_at}
use Rattle.model_clock.specs.declared.state.ClockState.{ClockState}
use Rattle.atomic_table.specs.Table.{State}
use Rattle.ptp_profile.specs.Roles.SeatLogs.{clock_after}
use Rattle.ptp_profile.specs.declared.seats.LogEntry.{LogEntry}
use Rattle.ptp_profile.specs.declared.seats.LogEntry.TheVariants.{Change}
use Rattle.discipline_seat.specs.declared.view.Owner.{Owner}
use Rattle.discipline_seat.specs.declared.view.Owner.TheVariants.{Hub, Nobody}
use Rattle.discipline_seat.specs.declared.view.View.{View}
use Rattle.discipline_seat.specs.Rule.SeatLog.{SeatLog, ctrl_after, word_after, IsSeatLog, HasNoCircle, HasNoneBy, Extends, GrewByOthers, AreMadeBy, owner_named, pass_owner}
use Rattle.discipline_seat.specs.Rule.Story.{Story, StoryExtends, JoinTellsStories, story_of}
use Rattle.discipline_seat.specs.Rule.SeatView.{IsPassView, seen_log, row_words, IsAmong, AreDistinct, JoinTellsLog}

-- ---- rows

-- where a word of the row stands which the change behind so many entries has: the words of the
-- seats come first, then the rows of each clock
abbrev pub row_place : ℕ → ℕ → ℕ → ℕ → ℕ → ℕ
row_place rows clocks clock before k = clocks + ((clock * rows + before) * 3 + k)

-- the row holds the state
abbrev pub RowHolds : ℕ → ℕ → List ℕ → ℕ → ℕ → ClockState → Type 0
RowHolds rows clocks words clock before state =
    (k : ℕ) → k < 3 →
    slice_index words (row_place rows clocks clock before k) ≡ slice_index (row_words state) k

-- the row of each change of the log holds the clock's state after it
abbrev pub RowsHold : ℕ → ℕ → List ClockState → List ℕ → ℕ → SeatLog → Type 0
RowsHold rows clocks openings words clock log =
    (gener ctrl tick : ℕ) (step freq : ℤ) (before : SeatLog) →
    Extends (Change gener ctrl tick step freq ∷ before) log →
    RowHolds rows clocks words clock (length before)
    (clock_after (clock_at openings clock) (Change gener ctrl tick step freq ∷ before))

-- a word that a view stored of the row behind what it has seen of a clock: it holds the clock,
-- and the word stands there
pub record DraftWord (rows clocks : ℕ) (words : List ℕ) (view : View) (k : ℕ) : Type 0 where
  pub few : k < 3
  pub clock : view.draft_clock < clocks
  pub room : length (seen_log view view.draft_clock) < rows
  pub held : owner_named view.draft_clock (ctrl_after (seen_log view view.draft_clock))
      ≡ view.owner
  pub stands : slice_index words
      (row_place rows clocks view.draft_clock (length (seen_log view view.draft_clock)) k)
      ≡ slice_index view.draft k

-- so does each that it stored
abbrev pub DraftHolds : ℕ → ℕ → List ℕ → View → Type 0
DraftHolds rows clocks words view =
    (k : ℕ) → k < length view.draft → DraftWord rows clocks words view k

-- ---- owners

-- the owner made no entry, and has no view
pub record IsUnmade (logs : ℕ → SeatLog) (views : List View) (owner : Owner) : Type 0 where
  pub entries : (clock : ℕ) → HasNoneBy clock owner (logs clock)
  pub views_of : (id : ℕ) (view : View) → get_elem? views id ≡ some view → view.owner ≢ owner

-- the hub took in the owner's pass for good: it has seen all of it, and the owner has no view
pub record IsJoined (logs : ℕ → SeatLog) (views : List View) (owner : Owner)
    (hub : View) : Type 0 where
  pub grew : (clock : ℕ) → GrewByOthers clock owner (seen_log hub clock) (logs clock)
  pub views_of : (id : ℕ) (view : View) → get_elem? views id ≡ some view → view.owner ≢ owner

-- ---- logs

-- there are logs which the words show, and of which each view has seen an end
pub record LogsHold (rows clocks : ℕ) (openings : List ClockState)
    (s : State LogEntry View) : Type 0 where
  pub logs : ℕ → SeatLog
  pub small : rows < 262144
  pub wide : length s.words ≡ clocks + clocks * rows * 3
  pub words_are : (clock : ℕ) → clock < clocks →
      slice_index s.words clock ≡ word_after (logs clock)
  pub lawful : (clock : ℕ) → IsSeatLog rows (logs clock)
  pub forest : HasNoCircle (λ clock. ctrl_after (logs clock))
  -- rows
  pub rows_are : (clock : ℕ) → clock < clocks →
      RowsHold rows clocks openings s.words clock (logs clock)
  pub drafts : (id : ℕ) (view : View) → get_elem? s.views id ≡ some view →
      DraftHolds rows clocks s.words view
  -- behind what a view has seen stands nothing that its owner made
  pub each : (id : ℕ) (view : View) → get_elem? s.views id ≡ some view → (clock : ℕ) →
      GrewByOthers clock view.owner (seen_log view clock) (logs clock)
  -- a pass above the hub's count has no view and made no entry
  pub unmade : (id : ℕ) (view : View) → get_elem? s.views id ≡ some view → view.owner ≡ Hub →
      (m : ℕ) → view.passes ≤ m → IsUnmade logs s.views (pass_owner view.ports m)
  pub ports_are : (i j : ℕ) (v w : View) → get_elem? s.views i ≡ some v →
      get_elem? s.views j ≡ some w → v.owner ≢ Nobody → w.owner ≢ Nobody → v.ports ≡ w.ports
  -- the hub or a pass that it made made each entry
  pub makers : (id : ℕ) (view : View) → get_elem? s.views id ≡ some view → view.owner ≡ Hub →
      (clock : ℕ) → AreMadeBy clock view.ports view.passes (logs clock)
  pub gone : (id : ℕ) (view : View) → get_elem? s.views id ≡ some view → view.owner ≡ Hub →
      (m : ℕ) → IsAmong m view.joined →
      (m < view.passes) × IsJoined logs s.views (pass_owner view.ports m) view
  -- what the last join told
  pub remembers : (id : ℕ) (view : View) → get_elem? s.views id ≡ some view → (clock : ℕ) →
      JoinTellsLog view clock
  pub single : (id : ℕ) (view : View) → get_elem? s.views id ≡ some view →
      AreDistinct view.joined
  -- an owner has one view
  pub apart : (i j : ℕ) (v w : View) → get_elem? s.views i ≡ some v →
      get_elem? s.views j ≡ some w → v.owner ≡ w.owner → v.owner ≢ Nobody → i ≡ j

-- ---- stories

-- what a view has of stories, where `own` are the passes' own and `hubs` the hub's of them
pub record StoriesFit (own hubs : ℕ → Story) (view : View) : Type 0 where
  pub story : StoryExtends view.stories.story (own view.number)
  pub told : StoryExtends view.stories.told (hubs view.number)
  pub stories : (m : ℕ) → StoryExtends (story_of view.stories m) (hubs m)
  pub recalls : JoinTellsStories view.stories
  pub mine : IsPassView view → own view.number ≡ view.stories.story
  pub hub : view.owner ≡ Hub → (m : ℕ) → hubs m ≡ story_of view.stories m
  pub fresh : view.owner ≡ Hub → (m : ℕ) → view.passes ≤ m → own m ≡ []

-- there is a story of each pass, of which the hub's is an end, and each view fits them
pub record StoriesHold (views : List View) : Type 0 where
  pub own : ℕ → Story
  pub hubs : ℕ → Story
  pub ends : (m : ℕ) → StoryExtends (hubs m) (own m)
  pub each : (id : ℕ) (view : View) → get_elem? views id ≡ some view → StoriesFit own hubs view

-- ---- the rule

-- of a table of so many rows a clock, whose clocks opened so
abbrev pub SeatRule : ℕ → ℕ → List ClockState → State LogEntry View → Type 0
SeatRule rows clocks openings s = LogsHold rows clocks openings s × StoriesHold s.views
