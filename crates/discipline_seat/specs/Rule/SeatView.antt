-- What the seat of the hub, a port or a follower knows, and what steps make of that (project)
use Rattle.std.specs.Prelude.{◌≡◌, ◌≢◌, ℕ, ◌+◌, ◌⊎◌, ltb, List, [], ◌∷◌, ◌++◌, length, map, replicate, Bool, true, false, slice_index_or, slice_set}
use mir.Syntax.{w64}
use mir.Val.{of_z}
use Rattle.model_clock.specs.declared.state.ClockState.{ClockState}
use Rattle.ptp_profile.specs.Roles.SeatLogs.{log_at}
use Rattle.discipline_seat.specs.declared.view.Owner.TheVariants.{Hub, Nobody}
use Rattle.discipline_seat.specs.declared.view.StoryView.{StoryView}
use Rattle.discipline_seat.specs.declared.view.View.{View}
use Rattle.discipline_seat.specs.Rule.SeatLog.{SeatLog, ctrl_after, pass_owner, GrewByOthers}
use Rattle.discipline_seat.specs.Rule.Story.{Story, no_stories, page_item, with_items, stories_after_hearing, stories_after_closing, stories_after_learning, receipts_of, AreEntriesOf, NumbersRise, StoryAgrees}

-- what a view has seen of the log of a clock
abbrev pub seen_log : View → ℕ → SeatLog
seen_log view clock = slice_index_or view.seen clock []

-- it is the view of the pass of its number
abbrev pub IsPassView : View → Type 0
IsPassView view = view.owner ≡ pass_owner view.ports view.number

-- the controllers of the clocks once an order gave one of them another
abbrev pub ctrls_with : View → ℕ → ℕ → List ℕ
ctrls_with view clock ctrl = slice_set (map ctrl_after view.seen) clock ctrl

-- a pass's story agrees with what the pass has seen, its numbers rise, and it has a receipt of each
-- change of its own
pub record IsTruthful (view : View) : Type 0 where
  pub agree : StoryAgrees view.openings (seen_log view) view.stories.story
  pub rising : NumbersRise view.stories.story
  pub own : (clock : ℕ) →
      AreEntriesOf clock view.owner (seen_log view clock) (receipts_of clock view.stories.story)

-- ---- views at the start

-- that of the hub: nothing was ordered, changed or told, and no pass was made
abbrev pub view_at_opening : ℕ → ℕ → List ClockState → View
view_at_opening clocks ports openings = record {
  owner = Hub;
  seen = replicate clocks [];
  former = replicate clocks [];
  noted = [];
  noter = Nobody;
  stories = no_stories;
  passes = 0;
  ports = ports;
  number = 0;
  joined = [];
  openings = openings;
  draft_clock = 0;
  draft = [];
}

-- that which a seat leaves once another took it in
abbrev pub spent_view : View
spent_view = record {
  owner = Nobody;
  seen = [];
  former = [];
  noted = [];
  noter = Nobody;
  stories = no_stories;
  passes = 0;
  ports = 0;
  number = 0;
  joined = [];
  openings = [];
  draft_clock = 0;
  draft = [];
}

-- ---- views after a step

-- nothing remembered of a join, and no row prepared
abbrev pub after_telling : View → View
after_telling view =
    record view { former = view.seen; noted = []; noter = Nobody; draft = [] }

-- all of a clock's log was seen
abbrev pub after_look : View → ℕ → SeatLog → View
after_look view clock log = record view {
  seen = slice_set view.seen clock log;
  former = slice_set view.seen clock log;
  noted = [];
  noter = Nobody;
  draft_clock = clock;
  draft = [];
}

-- so many items more in the story
abbrev pub with_more_story : View → Story → View
with_more_story view items =
    record view { stories = with_items items view.stories; draft = [] }

-- a page, where it says something, at the end of the story
abbrev pub with_page : View → List ℕ → View
with_page view list =
    record (after_telling view) { stories = with_items (page_item list) view.stories }

-- ---- rows

-- the three words of a row: tick, time and frequency
abbrev pub row_words : ClockState → List ℕ
row_words state = state.tick ∷ of_z w64 state.time ∷ of_z w64 state.freq ∷ []

-- one word more of the row in preparation was stored
abbrev pub with_row_word : View → ℕ → View
with_row_word view word = record view { draft = view.draft ++ word ∷ [] }

-- the whole row of a state was stored
abbrev pub with_row : View → ClockState → View
with_row view state = record view { draft = row_words state }

-- ---- notes and joins

-- a note of a view: a copy that nobody owns
abbrev pub note_of : View → View
note_of view =
    record (after_telling view) { owner = Nobody; draft_clock = 0 }

-- the hub's, once it made a pass
abbrev pub after_split : View → View
after_split view = record (after_telling view) { passes = view.passes + 1 }

-- that of the pass that it then made: it has seen what the hub has, and has no story
abbrev pub new_pass_view : View → View
new_pass_view view = record {
  owner = pass_owner view.ports view.passes;
  seen = view.seen;
  former = view.seen;
  noted = [];
  noter = Nobody;
  stories = no_stories;
  passes = 0;
  ports = view.ports;
  number = view.passes;
  joined = [];
  openings = view.openings;
  draft_clock = view.draft_clock;
  draft = [];
}

-- the second where the test holds, else the first
abbrev pub one_log : Bool → SeatLog → SeatLog → SeatLog
one_log true a b = b
one_log false a b = a

-- of each clock the longer of two logs
abbrev pub longer_logs : List SeatLog → List SeatLog → List SeatLog
longer_logs [] others = []
longer_logs (log ∷ logs) [] = log ∷ logs
longer_logs (log ∷ logs) (other ∷ others) =
    one_log (ltb (length log) (length other)) log other ∷ longer_logs logs others

-- a view took in what another has seen, with these stories and passes that it took in for good
abbrev pub after_join : View → View → StoryView → List ℕ → View
after_join view other stories joined = record view {
  seen = longer_logs view.seen other.seen;
  former = view.seen;
  noted = other.seen;
  noter = other.owner;
  stories = stories;
  joined = joined;
  draft = [];
}

-- the hub's took in a note of a pass
abbrev pub after_hearing : View → View → View
after_hearing hub note =
    after_join hub note (stories_after_hearing note.number hub.stories note.stories) hub.joined

-- a pass's took in a note of the hub's
abbrev pub after_learning : View → View → View
after_learning pass note =
    after_join pass note (stories_after_learning pass.number pass.stories note.stories)
    pass.joined

-- the hub's took in a pass for good
abbrev pub after_closing : View → View → View
after_closing hub pass =
    after_join hub pass (stories_after_closing pass.number hub.stories pass.stories)
    (pass.number ∷ hub.joined)

-- the number is one of these
abbrev pub IsAmong : ℕ → List ℕ → Type 0
IsAmong m [] = ⊥
IsAmong m (first ∷ numbers) = (first ≡ m) ⊎ IsAmong m numbers

-- each number stands once
abbrev pub AreDistinct : List ℕ → Type 0
AreDistinct [] = Unit {0}
AreDistinct (first ∷ numbers) = ¬ (IsAmong first numbers) × AreDistinct numbers

-- what the last join told of a clock's log: behind what the view had seen stands nothing of its
-- own, behind what the other had seen nothing of the other's, and behind what the hub had seen
-- nothing of the passes that it took in before
abbrev pub JoinTellsLog : View → ℕ → Type 0
JoinTellsLog view clock =
    GrewByOthers clock view.owner (log_at view.former clock) (seen_log view clock)
    × GrewByOthers clock view.noter (log_at view.noted clock) (seen_log view clock)
    × (view.owner ≡ Hub → (m : ℕ) → IsAmong m view.joined → m ≢ view.stories.met →
    GrewByOthers clock (pass_owner view.ports m) (log_at view.former clock) (seen_log view clock))
    × ((view.noter ≡ Nobody) ⊎ (view.noter ≡ pass_owner view.ports view.stories.met))
