-- What each kind of step tells its caller (project)
use Rattle.std.specs.Prelude.{◌≡◌, ◌≢◌, ℕ, suc, ◌+◌, ◌%◌, ◌^◌, ◌<◌, ◌∷◌, length}
use mathlib.Core.Option.{Option, some}
use Rattle.atomic_table.specs.Table.{Me, Step}
use Rattle.ptp_profile.specs.declared.seats.LogEntry.{LogEntry}
use Rattle.ptp_profile.specs.declared.seats.LogEntry.TheVariants.{Order}
use Rattle.discipline_seat.specs.declared.view.View.{View}
use Rattle.discipline_seat.specs.Rule.SeatLog.{SeatLog, word_after, IsSeatLog, GrewByOthers}
use Rattle.discipline_seat.specs.Rule.Story.{Story, StoryExtends, JoinTellsStories, receipt_item, refusal_item}
use Rattle.discipline_seat.specs.Rule.SeatView.{IsPassView, seen_log, after_look, after_telling, with_more_story, with_row_word, AreDistinct, JoinTellsLog}

-- ---- a look at a seat's word

-- the whole log was seen, of which the word was found
pub record LookFound (clock : ℕ) (view : View) (found : ℕ) (new : View) : Type 0 where
  pub log : SeatLog
  pub rows : ℕ
  pub is : new ≡ after_look view clock log
  pub word : found ≡ word_after log
  pub lawful : IsSeatLog rows log
  pub small : rows < 262144
  pub grew : GrewByOthers clock view.owner (seen_log view clock) log

-- the word was found, and the story grew by what `says` makes of the log
abbrev pub look_tells : ℕ → (ℕ → SeatLog → Story) → Step LogEntry → Me LogEntry View → ℕ
    → Me LogEntry View → Type 0
look_tells rows says st m found m' =
    (m'.1 ≡ m.1)
    × ((new : View) × LookFound st.word m.0 found new
    × (m'.0 ≡ with_more_story new (says st.word (seen_log new st.word)))
    × IsSeatLog rows (seen_log new st.word))

-- ---- words of a row

-- a word of a row was stored
abbrev pub store_tells : Step LogEntry → Me LogEntry View → ℕ → Me LogEntry View → Type 0
store_tells st m stored m' = (m'.1 ≡ m.1) × (m'.0 ≡ with_row_word m.0 stored)

-- the word of a row is the one that is wanted
abbrev pub load_tells : ℕ → Step LogEntry → Me LogEntry View → ℕ → Me LogEntry View → Type 0
load_tells wanted st m found m' = (m' ≡ m) × (found ≡ wanted)

-- ---- the exchange of a change

-- the change that was announced stands behind what was seen
pub record ChangeMade (clock : ℕ) (view : View) (said : Option LogEntry) (new : View) : Type 0 where
  pub entry : LogEntry
  pub is : said ≡ some entry
  pub after : new ≡ after_look view clock (entry ∷ seen_log view clock)

-- won, where the word was the one that was expected; else it is as a look
abbrev pub exchange_tells : Step LogEntry → Me LogEntry View → ℕ → Me LogEntry View → Type 0
exchange_tells st m found m' =
    (m'.1 ≡ m.1)
    × (found ≡ st.first → (new : View) × ChangeMade st.word m.0 st.said new
    × (m'.0 ≡ with_more_story new
    (receipt_item st.word st.said (suc (length (seen_log m.0 st.word))))))
    × (found ≢ st.first → (new : View) × LookFound st.word m.0 found new
    × (m'.0 ≡ with_more_story new (refusal_item st.word st.said (seen_log new st.word))))

-- ---- the addition of an order

-- an order stands behind the log whose word was found
pub record OrderMade (clock : ℕ) (view : View) (found added : ℕ) (new : View) : Type 0 where
  pub log : SeatLog
  pub gener : ℕ
  pub ctrl : ℕ
  pub is : new ≡ after_look view clock (Order gener ctrl ∷ log)
  pub word : found ≡ word_after log
  pub rows : ℕ
  pub lawful : IsSeatLog rows (Order gener ctrl ∷ log)
  pub small : rows < 262144
  pub then_word : (found + added) % 2 ^ 64 ≡ word_after (Order gener ctrl ∷ log)
  pub grew : GrewByOthers clock view.owner (seen_log view clock) log

-- it does
abbrev pub order_tells : Step LogEntry → Me LogEntry View → ℕ → Me LogEntry View → Type 0
order_tells st m found m' = (m'.1 ≡ m.1) × OrderMade st.word m.0 found st.first m'.0

-- ---- a look after a join

-- what the join told of logs and stories
abbrev pub join_tells : Step LogEntry → Me LogEntry View → ℕ → Me LogEntry View → Type 0
join_tells st m found m' =
    (m'.1 ≡ m.1) × (m'.0 ≡ after_telling m.0) × ((clock : ℕ) → JoinTellsLog m.0 clock)
    × JoinTellsStories m.0.stories
    × (IsPassView m.0 → StoryExtends m.0.stories.told m.0.stories.story)
    × AreDistinct m.0.joined
